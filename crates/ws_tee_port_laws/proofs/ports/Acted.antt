-- What the stream at a writable end of a port acted on: the chunks that the port posted, and the one that stands on the agenda; while the port is
-- entangled, no others.
use Rattle.std.proofs.Common.{◌≡◌, Bool, true, false, if◌then◌else◌, List, [], ◌∷◌, ◌++◌, Option, Some, None, slice_get, refl, sym, ap, subst, ◌∙◌, append_assoc, arith}
use Rattle.ws_value.specs.declared.ids.PortId.{PortId}
use Rattle.ws_value.specs.declared.ids.PromiseId.{PromiseId}
use Rattle.ws_value.specs.declared.ids.StreamId.{StreamId}
use Rattle.ws_value.specs.declared.value.Message.{Message}
use Rattle.ws_value.specs.declared.value.Value.{Value}
use Rattle.ws_steps.specs.declared.effects.Effect.{Effect}
use Rattle.ws_steps.specs.declared.effects.Effect.TheVariants.{Readable, Byte, Writable, Pipe, Signal, Transform, Tee, Port, StartAlgorithm, PullAlgorithm, CancelAlgorithm, WriteAlgorithm, CloseAlgorithm, AbortAlgorithm, ChunkSteps, CloseSteps, CloseStepsWith, ErrorSteps}
use Rattle.ws_steps.specs.declared.pipes.SignalOperation.{SignalOperation}
use Rattle.ws_steps.specs.declared.pipes.SignalOperation.TheVariants.{Add, Forget, Trigger}
use Rattle.ws_steps.specs.declared.port.PortOperation.{PortOperation}
use Rattle.ws_steps.specs.declared.port.PortOperation.TheVariants as ports
use Rattle.ws_steps.specs.declared.readable.ReadRequest.{ReadRequest}
use Rattle.ws_steps.specs.declared.readable.ReadRequest.TheVariants.{Promise, Pipe as PipeRequest, Tee as TeeRequest}
use Rattle.ws_steps.specs.declared.transform.Taker.{Taker}
use Rattle.ws_steps.specs.declared.transform.Taker.TheVariants.{ToHost, ToTransform, ToPort}
use Rattle.ws_steps.specs.declared.writable.WritableOperation.{WritableOperation}
use Rattle.ws_steps.specs.declared.writable.WritableOperation.TheVariants as writes
use Rattle.ws_steps.specs.declared.writable.WriteRecord.{WriteRecord}
use Rattle.ws_steps.specs.declared.writable.WriteRecord.TheVariants.{Chunk, InFlight, CloseMark}
use Rattle.ws_steps.specs.declared.queue.Queued.{Queued}
use Rattle.ws_steps.specs.Cross as cross
use Rattle.ws_steps.specs.Operations.{writable_operation}
use Rattle.ws_steps.specs.PortHistory.{is_same_port, chunk_in, chunks_in}
use Rattle.ws_steps.specs.Queues.{first_value}
use Rattle.ws_steps.specs.Slots.{Slots, Done, nothing, has_writable, writable_at, put_writable}
use Rattle.ws_steps.specs.Turns.{row}
use Rattle.ws_steps.specs.Writable as writable
use Rattle.ws_steps.specs.WritableHistory.{chunk_of, first_chunk}
use Rattle.ws_laws.proofs.Lists.{Each}
use Rattle.ws_laws.proofs.PipeDoes.{PipeCauses}
use Rattle.ws_laws.proofs.PortDoes.{PortCauses}
use Rattle.ws_laws.proofs.Causes.{ReadableCauses, ChunkCauses, EndCauses, ErrorCauses, SignalCauses, row-causes}
use Rattle.ws_laws.proofs.Tables.{either, writable_acts, no_writable_there}
use Rattle.ws_laws.proofs.TeeDoes.{TeeCauses}
use Rattle.ws_laws.proofs.TransformDoes.{TransformCauses}
use Rattle.ws_tee_port_laws.proofs.ports.Fitting.{writable-caused, IsBegun}
use Rattle.ws_tee_port_laws.proofs.ports.Posting.{given}

module _ (c : PortId) where
  -- the chunk that is to be posted by it
  abbrev pub pend : Effect → List Value
  pend (Port d (ports.PostChunk v p)) = if is_same_port c d then v ∷ [] else []
  pend _ = []

  abbrev pub pends : List Effect → List Value
  pends [] = []
  pends (e ∷ es) = pend e ++ pends es

  pub pends-append : (xs ys : List Effect) → pends (xs ++ ys) ≡ pends xs ++ pends ys
  pends-append [] ys = refl
  pends-append (x ∷ xs) ys = ap (λ vs. pend x ++ vs) (pends-append xs ys) ∙ sym (append_assoc (pend x) (pends xs) (pends ys))

  -- none
  abbrev pub IsNone : Effect → Type 0
  IsNone e = pend e ≡ []

  pub none-pends : (es : List Effect) → Each IsNone es → pends es ≡ []
  none-pends [] n = refl
  none-pends (e ∷ es) n = rw (n.0, none-pends es n.1) refl

  -- none stands behind the first effect
  abbrev pub Behind : List Effect → Type 0
  Behind [] = Unit {0}
  Behind (e ∷ es) = pends es ≡ []

  pub behind-next : (cs es : List Effect) → Behind cs → pends es ≡ [] → Behind (cs ++ es)
  behind-next [] [] b n = tt
  behind-next [] (e ∷ es) b n = tail (pend e) (pends es) n
    where
      tail : (xs ys : List Value) → xs ++ ys ≡ [] → ys ≡ []
      tail [] ys e = e
      tail (x ∷ xs) ys e = cc
  behind-next (d ∷ cs) es b n = pends-append cs es ∙ rw (b, n) refl

  pub none-behind : (es : List Effect) → Each IsNone es → Behind es
  none-behind [] n = tt
  none-behind (e ∷ es) n = none-pends es n.1

  -- which effects cause none

  readable-none : (j : StreamId) → ReadableCauses IsNone j
  readable-none j = record { pull = refl; cancel = λ r p. refl; chunk = λ q v. refl; close = λ q. refl; error = λ q e. refl }

  pipe-none : (p : _) (source dest : StreamId) (e : Effect) → PipeCauses p source dest e → IsNone e
  pipe-none p source dest e k = grind arith

  transform-none : (t : _) (w r : StreamId) (e : Effect) → TransformCauses t w r e → IsNone e
  transform-none t w r e k = grind arith

  tee-none : (t : _) (source first second : StreamId) (e : Effect) → TeeCauses t source first second e → IsNone e
  tee-none t source first second e k = grind arith

  port-none : (d : PortId) (stream : StreamId) (e : Effect) → PortCauses d stream e → IsNone e
  port-none d stream e k = grind (arith, k)

  chunk-none : (v : Value) (request : ReadRequest) → ChunkCauses IsNone v request
  chunk-none v (Promise p) = tt
  chunk-none v (PipeRequest p) = refl
  chunk-none v (TeeRequest t) = refl

  end-none : (request : ReadRequest) → EndCauses IsNone request
  end-none (Promise p) = tt
  end-none (PipeRequest p) = refl
  end-none (TeeRequest t) = refl

  error-none : (request : ReadRequest) → ErrorCauses IsNone request
  error-none (Promise p) = tt
  error-none (PipeRequest p) = refl
  error-none (TeeRequest t) = refl

  signal-none : (operation : SignalOperation) → SignalCauses IsNone operation
  signal-none (Add p) = tt
  signal-none (Forget p) = tt
  signal-none (Trigger r) = λ p. refl

  -- a chunk that isn't handed on to this port
  abbrev pub IsElsewhere : Effect → Type 0
  IsElsewhere (Writable j (writes.HandOn (ToPort d p))) = is_same_port c d ≡ false
  IsElsewhere _ = Unit {0}

  taken-none : (j : StreamId) (operation : WritableOperation) → IsElsewhere (Writable j operation) → (taker : Taker) (v : Value) → operation ≡ writes.HandOn taker → IsNone (writable.taken_by j v taker)
  taken-none j operation o ToHost v e = refl
  taken-none j operation o (ToTransform t d) v e = refl
  taken-none j operation o (ToPort d p) v e = let n : is_same_port c d ≡ false = subst (λ (w : WritableOperation). IsElsewhere (Writable j w)) e o in rw n refl

  pub row-none : (e : Effect) (s : Slots) → IsElsewhere e → Each IsNone (row e s).caused
  row-none (Readable j operation) s o = row-causes IsNone (Readable j operation) s (readable-none j)
  row-none (Byte j operation) s o = row-causes IsNone (Byte j operation) s (record { readable = readable-none j; close_with = λ q b. refl })
  row-none (Writable j operation) s o = writable-caused IsNone j s operation (λ h. record { write = refl; close = refl; abort = λ r p. refl; take = taken-none j operation o })
  row-none (Port d operation) s o = row-causes IsNone (Port d operation) s (port-none d)
  row-none (Pipe p operation) s o = row-causes IsNone (Pipe p operation) s (pipe-none p)
  row-none (Transform t operation) s o = row-causes IsNone (Transform t operation) s (transform-none t)
  row-none (Tee t operation) s o = row-causes IsNone (Tee t operation) s (tee-none t)
  row-none (Signal a operation) s o = row-causes IsNone (Signal a operation) s (signal-none operation)
  row-none (StartAlgorithm j step start) s o = row-causes IsNone (StartAlgorithm j step start) s (λ g u. refl, λ h u. refl)
  row-none (PullAlgorithm j) s o = row-causes IsNone (PullAlgorithm j) s (λ h u. refl, (λ t u. refl, (λ t. refl, (λ u. refl, λ d. refl))))
  row-none (CancelAlgorithm j r p) s o = row-causes IsNone (CancelAlgorithm j r p) s (λ h u. refl, (λ t u. refl, (λ t half u. refl, λ d u. refl)))
  row-none (WriteAlgorithm j) s o = row-causes IsNone (WriteAlgorithm j) s (refl, (λ t u. refl, λ d u. refl))
  row-none (CloseAlgorithm j) s o = row-causes IsNone (CloseAlgorithm j) s (λ h u. refl, (λ t u. refl, λ d u. refl))
  row-none (AbortAlgorithm j r p) s o = row-causes IsNone (AbortAlgorithm j r p) s (λ h u. refl, (λ t u. refl, λ d u. refl))
  row-none (ChunkSteps j request v) s o = row-causes IsNone (ChunkSteps j request v) s (chunk-none v request)
  row-none (CloseSteps j request) s o = row-causes IsNone (CloseSteps j request) s (end-none request)
  row-none (CloseStepsWith j request b) s o = row-causes IsNone (CloseStepsWith j request b) s (end-none request)
  row-none (ErrorSteps j request e) s o = row-causes IsNone (ErrorSteps j request e) s (error-none request)
  row-none e s o = row-causes IsNone e s tt

  -- what calls and jobs begin with
  pub begun-none : (e : Effect) → IsBegun e → IsNone e
  begun-none e b = grind (arith, b)

  -- the chunks that an operation posts

  pub chunks-append : (xs ys : List Message) → chunks_in (xs ++ ys) ≡ chunks_in xs ++ chunks_in ys
  chunks-append [] ys = refl
  chunks-append (x ∷ xs) ys = ap (λ vs. chunk_in x ++ vs) (chunks-append xs ys) ∙ sym (append_assoc (chunk_in x) (chunks_in xs) (chunks_in ys))

  abbrev pub IsPost : PortOperation → Type 0
  IsPost (ports.PostChunk v p) = Unit {0}
  IsPost _ = ⊥

  pub given-none : (clones : Bool) (operation : PortOperation) (x : cross.Slots) → (IsPost operation → ⊥) → chunks_in (given clones operation x) ≡ []
  given-none clones (ports.PostChunk v p) x n = absurd (n tt)
  given-none clones operation x n = grind arith

  -- a chunk that is handed on is to be posted

  hand-by : (j : StreamId) (d : PortId) (p : PromiseId) (a : writable.Acts) (queue : List (Queued WriteRecord)) → a.out.effects ≡ [] → is_same_port c d ≡ true
      → first_chunk queue ≡ pends (writable.hand_on_first j (ToPort d p) a (first_value queue)).out.effects
  hand-by j d p a [] e n = rw e refl
  hand-by j d p a (q ∷ qs) e n = by q.value
    where
      by : (r : WriteRecord) → chunk_of r ≡ pends (writable.hand_on_first j (ToPort d p) a (Some r)).out.effects
      by (Chunk v) = rw (e, n) refl
      by InFlight = rw e refl
      by CloseMark = rw e refl

  hand-behind : (j : StreamId) (d : PortId) (p : PromiseId) (a : writable.Acts) (first : Option WriteRecord) → a.out.effects ≡ [] → Behind (writable.hand_on_first j (ToPort d p) a first).out.effects
  hand-behind j d p a None e = rw e tt
  hand-behind j d p a (Some (Chunk v)) e = rw e refl
  hand-behind j d p a (Some InFlight) e = rw e tt
  hand-behind j d p a (Some CloseMark) e = rw e tt

  abbrev HandsOn : StreamId → Slots → Done → Type 0
  HandsOn j s d = (first_chunk (writable_at j s).queue ≡ pends d.caused) × Behind d.caused

  pub hand-row : (j : StreamId) (d : PortId) (p : PromiseId) (s : Slots) → is_same_port c d ≡ true → HandsOn j s (row (Writable j (writes.HandOn (ToPort d p))) s)
  unfolding row writable.hand_on
  hand-row j d p s n =
      either (HandsOn j s) (has_writable j s) (put_writable j s (writable_operation j (writes.HandOn (ToPort d p)) (writable_acts j s))) (nothing s)
      (λ there. (hand-by j d p (writable_acts j s) (writable_at j s).queue refl n, hand-behind j d p (writable_acts j s) (first_value (writable_at j s).queue) refl))
      (λ absent. (ap (λ (w : writable.Slots). first_chunk w.queue) (no_writable_there (slice_get s.streams j.0) absent), tt))
