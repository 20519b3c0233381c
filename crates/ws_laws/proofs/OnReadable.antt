-- A law of a readable stream's record, of what has happened to it, of who may hold streams, and of what is seen of the agenda: what each
-- operation keeps, each effect, each step and each run keeps.
use Rattle.std.proofs.Common.{◌≡◌, ℕ, Bool, true, false, List, [], ◌∷◌, ◌++◌, length, Option, Some, None, nat_eq, slice_get, slice_set, refl, sym, ap, ◌∙◌, append_assoc}
use Rattle.ws_value.specs.declared.ids.PipeId.{PipeId}
use Rattle.ws_value.specs.declared.ids.SignalId.{SignalId}
use Rattle.ws_value.specs.declared.ids.StreamId.{StreamId}
use Rattle.ws_value.specs.declared.ids.TeeId.{TeeId}
use Rattle.ws_steps.specs.declared.tee.TeeOperation.{TeeOperation}
use Rattle.ws_value.specs.declared.value.Value.{Value}
use Rattle.ws_steps.specs.declared.{calls.Call.{Call}, effects.Effect.{Effect}}
use Rattle.ws_steps.specs.declared.effects.Effect.TheVariants.{Readable, Byte, Writable, Pipe, Signal, Transform, Tee, StartAlgorithm, PullAlgorithm, CancelAlgorithm, WriteAlgorithm, CloseAlgorithm, AbortAlgorithm, ChunkSteps, CloseSteps, CloseStepsWith, ErrorSteps}
use Rattle.ws_steps.specs.declared.{effects.Owner.{Owner}, locks.Lock.{Lock}, promises.Job.{Job}, readable.ReadRequest.{ReadRequest}, readable.ReadRequest.TheVariants.{Promise, Pipe as PipeRequest, Tee as TeeRequest}}
use Rattle.ws_steps.specs.declared.{pipes.PipeOperation.{PipeOperation}, pipes.PipeOperation.TheVariants.{KeepChunk, ReadEnded, PartSettled, NoParts}, pipes.SignalOperation.{SignalOperation}}
use Rattle.ws_steps.specs.declared.{readable.ReadableOperation.{ReadableOperation}, readable.SizeBy.{SizeBy}, transform.TransformId.{TransformId}, transform.TransformOperation.{TransformOperation}}
use Rattle.ws_steps.specs.Operations.{readable_operation, byte_readable_operation, byte_operation, writable_operation, pipe_operation, signal_operation, transform_operation, tee_operation}
use Rattle.ws_steps.specs.declared.byte.ByteOperation.{ByteOperation}
use Rattle.ws_steps.specs.Bytes as byte
use Rattle.ws_steps.specs.Pipes as piping
use Rattle.ws_steps.specs.Readable as readable
use Rattle.ws_steps.specs.Tee as teeing
use Rattle.ws_steps.specs.Transform as transforms
use Rattle.ws_steps.specs.Writable as writable
use Rattle.ws_steps.specs.Slots.{Slots, Stream, ReadableStream, ByteStream, WritableStream, Done, has_byte, is_byte_stream, on_byte, found, ends_at, halves_at, on_pipe_at, on_signal_at, on_transform_at, on_tee_at, on_readable, has_readable, is_readable_stream, readable_at, as_readable, no_readable, empty}
use Rattle.ws_steps.specs.Turns.{row, on_source}
use Rattle.ws_steps.specs.Jobs.{job_effects}
use Rattle.ws_steps.specs.Calls.{begin}
use Rattle.ws_steps.specs.Run.{Entry, step, run, after_event}
use Rattle.ws_steps.specs.Histories.{is_same, in_step, over}
use Rattle.ws_laws.proofs.Tables.{same_id, eq_numbers, unequal_numbers, readable_acts, on_readable-same, on_writable-there, on_writable-readable, on_writable-byte, on_source-byte, on_source-readable, on_source-other, on_byte-same, on_byte-other, no_readable_there, no_stream, place_last, place_before}
use Rattle.ws_laws.proofs.Lists.{Each}
use Rattle.ws_laws.proofs.Apart.{IsNoPipe, IsNoTee, row-locks, row-pipes, row-tees, row-streams}
use Rattle.ws_laws.proofs.Causes.{Causes, ChunkCauses, EndCauses, ErrorCauses, row-causes}
use Rattle.ws_laws.proofs.Begin.{begin-makes}
use Rattle.ws_laws.proofs.Walker.{IsHistory, GoesUntold, RestsUntold, Stays, step-goes_untold, run-holds}
use Rattle.ws_value.specs.declared.ids.PortId.{PortId}
use Rattle.ws_steps.specs.declared.effects.Effect.TheVariants.{Port}
use Rattle.ws_steps.specs.declared.port.PortOperation.{PortOperation}
use Rattle.ws_steps.specs.Operations.{port_operation}
use Rattle.ws_steps.specs.Slots.{on_port_at, clones_at}
use Rattle.ws_steps.specs.Cross as crossing

-- what is seen of effects, one after another
abbrev pub all_seen : {V : Type 0} → (Effect → List V) → List Effect → List V
all_seen seen [] = []
all_seen seen (e ∷ es) = seen e ++ all_seen seen es

pub all_seen-append : {V : Type 0} (seen : Effect → List V) (xs ys : List Effect) → all_seen seen (xs ++ ys) ≡ all_seen seen xs ++ all_seen seen ys
all_seen-append seen [] ys = refl
all_seen-append seen (x ∷ xs) ys =
    ap (λ vs. seen x ++ vs) (all_seen-append seen xs ys) ∙ sym (append_assoc (seen x) (all_seen seen xs) (all_seen seen ys))

-- operations of a pipe that cause nothing
abbrev pub is_still : PipeOperation → Bool
is_still (KeepChunk v) = true
is_still ReadEnded = true
is_still (PartSettled o) = true
is_still NoParts = true
is_still _ = false

-- effects that are neither an operation nor a request's steps of readable stream i, nor an operation of a pipe that causes another, nor
-- one of a signal. One of a transform stream, of a tee or of a port is among them, though it may cause an operation of the stream
abbrev pub IsForeign : StreamId → Effect → Type 0
IsForeign i (Readable j operation) = is_same i j ≡ false
IsForeign i (ChunkSteps j request v) = is_same i j ≡ false
IsForeign i (CloseSteps j request) = is_same i j ≡ false
IsForeign i (ErrorSteps j request e) = is_same i j ≡ false
IsForeign i (Pipe p operation) = is_still operation ≡ true
IsForeign i (Signal a operation) = ⊥
IsForeign i _ = Unit {0}

-- a request's steps of stream i
abbrev pub AreSteps : StreamId → Effect → Type 0
AreSteps i (ChunkSteps j request v) = is_same i j ≡ true
AreSteps i (CloseSteps j request) = is_same i j ≡ true
AreSteps i (ErrorSteps j request e) = is_same i j ≡ true
AreSteps i _ = ⊥

chunk-foreign : (i : StreamId) (v : Value) (request : ReadRequest) → ChunkCauses (IsForeign i) v request
chunk-foreign i v (Promise p) = tt
chunk-foreign i v (PipeRequest p) = refl
chunk-foreign i v (TeeRequest t) = tt

end-foreign : (i : StreamId) (request : ReadRequest) → EndCauses (IsForeign i) request
end-foreign i (Promise p) = tt
end-foreign i (PipeRequest p) = refl
end-foreign i (TeeRequest t) = tt

error-foreign : (i : StreamId) (request : ReadRequest) → ErrorCauses (IsForeign i) request
error-foreign i (Promise p) = tt
error-foreign i (PipeRequest p) = refl
error-foreign i (TeeRequest t) = tt

-- other effects than operations of transform streams and of ports
abbrev pub IsNoTransform : Effect → Type 0
IsNoTransform (Transform t operation) = ⊥
IsNoTransform (Port c operation) = ⊥
IsNoTransform _ = Unit {0}

-- an operation of a byte controller causes what is foreign, where it isn't that of stream i
abbrev pub IsElsewhere : StreamId → Effect → Type 0
IsElsewhere i (Byte j operation) = is_same i j ≡ false
IsElsewhere i _ = Unit {0}

foreign-causes : (i : StreamId) (e : Effect) → IsNoPipe e → IsNoTransform e → IsNoTee e → IsElsewhere i e → IsForeign i e → Causes (IsForeign i) e
foreign-causes i (Readable j operation) n m d b f = record { pull = tt; cancel = λ r p. tt; chunk = λ r v. f; close = λ r. f; error = λ r e. f }
foreign-causes i (Byte j operation) n m d b f = record { readable = record { pull = tt; cancel = λ r p. tt; chunk = λ r v. b; close = λ r. b; error = λ r e. b }; close_with = λ r c. tt }
foreign-causes i (CloseStepsWith j request c) n m d b f = end-foreign i request
foreign-causes i (Writable j operation) n m d b f = record { write = tt; close = tt; abort = λ r p. tt; hand_on = λ v. tt; take = λ v t d. tt; post = λ v c d. tt }
foreign-causes i (StartAlgorithm j step start) n m d b f = (λ g u. tt, λ c u. tt)
foreign-causes i (PullAlgorithm j) n m d b f = (λ c u. tt, (λ t u. tt, (λ t. tt, (λ u. tt, λ c. tt))))
foreign-causes i (CancelAlgorithm j r p) n m d b f = (λ c u. tt, (λ t u. tt, (λ t half u. tt, λ c u. tt)))
foreign-causes i (WriteAlgorithm j) n m d b f = (tt, (λ t u. tt, λ c u. tt))
foreign-causes i (CloseAlgorithm j) n m d b f = (λ c u. tt, (λ t u. tt, λ c u. tt))
foreign-causes i (AbortAlgorithm j r p) n m d b f = (λ c u. tt, (λ t u. tt, λ c u. tt))
foreign-causes i (Pipe p operation) n m d b f = absurd n
foreign-causes i (Transform t operation) n m d b f = absurd m
foreign-causes i (Port c operation) n m d b f = absurd m
foreign-causes i (Tee t operation) n m d b f = absurd d
foreign-causes i (Signal a operation) n m d b f = absurd f
foreign-causes i (ChunkSteps j request v) n m d b f = chunk-foreign i v request
foreign-causes i (CloseSteps j request) n m d b f = end-foreign i request
foreign-causes i (ErrorSteps j request e) n m d b f = error-foreign i request
foreign-causes i _ n m d b f = tt

steps-foreign : (i : StreamId) (e : Effect) → AreSteps i e → Causes (IsForeign i) e
steps-foreign i (ChunkSteps j request v) are = chunk-foreign i v request
steps-foreign i (CloseSteps j request) are = end-foreign i request
steps-foreign i (ErrorSteps j request e) are = error-foreign i request
steps-foreign i _ are = absurd are

-- who may hold streams: readers and writers, pipes, and tees
pub record Holders : Type 0 where
  pub locks : List Lock
  pub pipes : List piping.Slots
  pub tees : List teeing.Slots

abbrev pub holders : Slots → Holders
holders s = record { locks = s.locks; pipes = s.pipes; tees = s.tees }

abbrev pub no_holders : Holders
no_holders = record { locks = []; pipes = []; tees = [] }

-- with pipe p so
abbrev pub with_pipe : PipeId → piping.Slots → Slots → Holders
with_pipe p x s = record { locks = s.locks; pipes = slice_set s.pipes p.0 x; tees = s.tees }

-- with tee t so
abbrev pub with_tee : TeeId → teeing.Slots → Slots → Holders
with_tee t x s = record { locks = s.locks; pipes = s.pipes; tees = slice_set s.tees t.0 x }

-- what an operation of a pipe leaves
abbrev pub piped : PipeId → PipeOperation → Slots → piping.Slots → piping.Acts
piped p operation s x = pipe_operation p (ends_at x s) operation (record { slots = x; out = found s })

-- what an operation of a transform stream leaves
abbrev pub transformed : TransformId → TransformOperation → Slots → transforms.Slots → transforms.Acts
transformed t operation s x = transform_operation t (halves_at x s) operation (record { slots = x; out = found s })

-- what an operation of a tee leaves
abbrev pub teed : TeeId → TeeOperation → Slots → teeing.Slots → teeing.Acts
teed t operation s x = tee_operation t operation (record { slots = x; out = found s })

-- what an operation of a port leaves
abbrev pub ported : PortId → PortOperation → Slots → crossing.Slots → crossing.Acts
ported c operation s x = port_operation c (clones_at x s) operation (record { slots = x; out = found s })

-- K and M at a moment, where stream i has no byte controller
pub record Kept {H V : Type 0} (seen : Effect → List V) (i : StreamId) (K : H → Holders → readable.Slots → List V → Type 0) (M : H → Holders → Type 0)
    (h : H) (o : Holders) (streams : List Stream) (es : List Effect) : Type 0 where
  pub unmade : is_byte_stream (slice_get streams i.0) ≡ false → is_readable_stream (slice_get streams i.0) ≡ false → M h o
  pub held : is_byte_stream (slice_get streams i.0) ≡ false → K h o (as_readable (slice_get streams i.0)) (all_seen seen es)

-- what is to be shown of K, which is to hold of what has happened to stream i, of who may hold streams, of its record, and of what is seen
-- of the effects that still stand; of M, which is to hold of what has happened and of the holders where there is no such stream; and of P,
-- which is known beside them of each moment
pub record IsLaw {H V : Type 0} (none : H) (after : H → H → H) (told : Effect → Slots → H) (seen : Effect → List V) (i : StreamId)
    (K : H → Holders → readable.Slots → List V → Type 0) (M : H → Holders → Type 0) (P : Slots → List Effect → Type 0) : Type 0 where
  pub history : IsHistory none after
  pub unseen : (e : Effect) → IsForeign i e → seen e ≡ []
  pub untold : (e : Effect) (s : Slots) → IsForeign i e → told e s ≡ none
  pub operation : (operation : ReadableOperation) (s : Slots) (h : H) (vs : List V) → has_readable i s ≡ true → K h (holders s) (readable_at i s) (seen (Readable i operation) ++ vs)
      → let a : readable.Acts = readable_operation i operation (readable_acts i s) in K (after h (told (Readable i operation) s)) (holders s) a.slots (all_seen seen a.out.effects ++ vs)
  pub idle : (operation : ReadableOperation) (s : Slots) → has_byte i s ≡ false → has_readable i s ≡ false → told (Readable i operation) s ≡ none
  pub absent : (operation : ReadableOperation) (h : H) (o : Holders) (vs : List V) → K h o no_readable (seen (Readable i operation) ++ vs) → K h o no_readable vs
  pub steps : (e : Effect) → AreSteps i e → (s : Slots) (h : H) (o : Holders) (r : readable.Slots) (vs : List V) → K h o r (seen e ++ vs) → K (after h (told e s)) o r vs
  pub steps_unmade : (e : Effect) → AreSteps i e → (s : Slots) (h : H) (o : Holders) → M h o → M (after h (told e s)) o
  -- an operation of a pipe is performed, and what it causes stands first
  pub pipe : (p : PipeId) (operation : PipeOperation) (s : Slots) (x : piping.Slots) (es : List Effect) → P s (Pipe p operation ∷ es) → slice_get s.pipes p.0 ≡ Some x
      → (h : H) → K h (holders s) (readable_at i s) (seen (Pipe p operation) ++ all_seen seen es)
      → let b : piping.Acts = piped p operation s x in K h (with_pipe p b.slots s) (readable_at i s) (all_seen seen b.out.effects ++ all_seen seen es)
  pub pipe_unmade : (p : PipeId) (operation : PipeOperation) (s : Slots) (x : piping.Slots) → slice_get s.pipes p.0 ≡ Some x → (h : H) → M h (holders s) → M h (with_pipe p (piped p operation s x).slots s)
  pub no_pipe : (p : PipeId) (operation : PipeOperation) (h : H) (o : Holders) (r : readable.Slots) (vs : List V) → K h o r (seen (Pipe p operation) ++ vs) → K h o r vs
  pub pipe_untold : (p : PipeId) (operation : PipeOperation) (s : Slots) → told (Pipe p operation) s ≡ none
  -- and one of a signal
  pub signal : (a : SignalId) (operation : SignalOperation) (x : piping.Signal) (h : H) (o : Holders) (r : readable.Slots) (vs : List V) → K h o r (seen (Signal a operation) ++ vs)
      → K h o r (all_seen seen (signal_operation operation x).effects ++ vs)
  pub no_signal : (a : SignalId) (operation : SignalOperation) (h : H) (o : Holders) (r : readable.Slots) (vs : List V) → K h o r (seen (Signal a operation) ++ vs) → K h o r vs
  pub signal_untold : (a : SignalId) (operation : SignalOperation) (s : Slots) → told (Signal a operation) s ≡ none
  -- and one of a transform stream
  pub transform : (t : TransformId) (operation : TransformOperation) (s : Slots) (x : transforms.Slots) (es : List Effect) → P s (Transform t operation ∷ es) → slice_get s.transforms t.0 ≡ Some x
      → (h : H) → K h (holders s) (readable_at i s) (all_seen seen es) → K h (holders s) (readable_at i s) (all_seen seen (transformed t operation s x).out.effects ++ all_seen seen es)
  -- and one of a port
  pub port : (c : PortId) (operation : PortOperation) (s : Slots) (x : crossing.Slots) (es : List Effect) → P s (Port c operation ∷ es) → slice_get s.ports c.0 ≡ Some x
      → (h : H) → K h (holders s) (readable_at i s) (all_seen seen es) → K h (holders s) (readable_at i s) (all_seen seen (ported c operation s x).out.effects ++ all_seen seen es)
  -- and one of a tee
  pub tee : (t : TeeId) (operation : TeeOperation) (s : Slots) (x : teeing.Slots) (es : List Effect) → P s (Tee t operation ∷ es) → slice_get s.tees t.0 ≡ Some x
      → (h : H) → K h (holders s) (readable_at i s) (all_seen seen es)
      → let b : teeing.Acts = teed t operation s x in K h (with_tee t b.slots s) (readable_at i s) (all_seen seen b.out.effects ++ all_seen seen es)
  pub tee_unmade : (t : TeeId) (operation : TeeOperation) (s : Slots) (x : teeing.Slots) → slice_get s.tees t.0 ≡ Some x → (h : H) → M h (holders s)
      → M h (with_tee t (teed t operation s x).slots s)
  -- a call makes pipes, takes and lets go of locks, and begins with its effects
  pub call : (c : Call) (s : Slots) (h : H) → let z : Slots = (begin c s).done.slots in Kept seen i K M h (holders s) z.streams [] → Kept seen i K M h (holders z) z.streams (begin c s).done.caused
  pub job : (job : Job) (h : H) (o : Holders) (r : readable.Slots) → K h o r [] → K h o r (all_seen seen (job_effects job))
  pub made : (owner : Owner) (mark : ℕ) (size : SizeBy) (h : H) (o : Holders) → M h o → K h o no_readable [] → K h o (readable.set_up owner mark size) []
  pub known_first : P empty []
  pub empty : K none no_holders no_readable []
  pub unmade : M none no_holders
  pub known : Stays P
  pub known_heard : (s : Slots) → P s [] → P (after_event s) []

module _ {H V : Type 0} (none : H) (after : H → H → H) (told : Effect → Slots → H) (seen : Effect → List V) (i : StreamId)
    (K : H → Holders → readable.Slots → List V → Type 0) (M : H → Holders → Type 0) (P : Slots → List Effect → Type 0) (law : IsLaw none after told seen i K M P) where
  abbrev pub Is : H → Slots → List Effect → Type 0
  Is h s es = Kept seen i K M h (holders s) s.streams es

  none_seen : (es : List Effect) → Each (IsForeign i) es → all_seen seen es ≡ []
  none_seen [] f = refl
  none_seen (e ∷ es) f = rw (law.unseen e f.0, none_seen es f.1) refl

  foreign : (h : H) (s : Slots) (e : Effect) (es : List Effect) → IsNoPipe e → IsNoTransform e → IsNoTee e → IsElsewhere i e → IsForeign i e → has_byte i (row e s).slots ≡ has_byte i s
      → has_readable i (row e s).slots ≡ has_readable i s → readable_at i (row e s).slots ≡ readable_at i s → Is h s (e ∷ es)
      → Is (after h (told e s)) (row e s).slots ((row e s).caused ++ es)
  foreign h s e es n m d b f kind there same k =
      let caused = none_seen (row e s).caused (row-causes (IsForeign i) e s (foreign-causes i e n m d b f)) in
      rw (law.untold e s f, law.history.right h, row-locks e s, row-pipes e s n, row-tees e s d)
      (record {
        unmade = λ c n. k.unmade (sym kind ∙ c) (sym there ∙ n);
        held = λ c.
            let held : K h (holders s) (readable_at i s) (all_seen seen es) = rw (law.unseen e f) at k.held (sym kind ∙ c) in
            rw (same, all_seen-append seen (row e s).caused es, caused) held;
      })

  here : (operation : ReadableOperation) (h : H) (s : Slots) (es : List Effect) (there : Bool) → there ≡ has_readable i s → has_byte i s ≡ false → Is h s (Readable i operation ∷ es)
      → let d : Done = on_readable (readable_operation i operation) i s in Is (after h (told (Readable i operation) s)) d.slots (d.caused ++ es)
  here operation h s es true e c k =
      let now = on_readable-same (readable_operation i operation) i s (sym e) in
      let out : readable.Acts = readable_operation i operation (readable_acts i s) in
      record {
        unmade = λ b n. let none : is_readable_stream (Some (ReadableStream out.slots)) ≡ false = rw now at n in cc;
        held = λ b. rw (now, sym e, all_seen-append seen out.out.effects es) (law.operation operation s h (all_seen seen es) (sym e) (k.held c));
      }
  here operation h s es false e c k =
      let absent : readable_at i s ≡ no_readable = no_readable_there (slice_get s.streams i.0) (sym e) in
      rw (law.idle operation s c (sym e), law.history.right h, sym e)
      (record { unmade = k.unmade; held = λ b. rw absent (law.absent operation h (holders s) (all_seen seen es) (rw absent at k.held c)) })

  -- of a stream with a byte controller nothing is said
  spared : (h : H) (s : Slots) (es : List Effect) → has_byte i s ≡ true → Is h s es
  spared h s es is = record { unmade = λ c n. cc; held = λ c. cc }

  by_kind : (operation : ReadableOperation) (h : H) (s : Slots) (es : List Effect) (kind : Bool) → kind ≡ has_byte i s → Is h s (Readable i operation ∷ es)
      → let d : Done = on_source operation i s in Is (after h (told (Readable i operation) s)) d.slots (d.caused ++ es)
  by_kind operation h s es true e k =
      rw (on_source-byte operation i s (sym e))
      (spared _ (on_byte (byte_readable_operation i operation) i s).slots _ (ap is_byte_stream (on_byte-same (byte_readable_operation i operation) i s (sym e))))
  by_kind operation h s es false e k = rw (on_source-readable operation i s (sym e)) (here operation h s es (has_readable i s) refl (sym e) k)

  by_place : (j : StreamId) (operation : ReadableOperation) (h : H) (s : Slots) (es : List Effect) (same : Bool) → same ≡ is_same i j → Is h s (Readable j operation ∷ es)
      → Is (after h (told (Readable j operation) s)) (row (Readable j operation) s).slots ((row (Readable j operation) s).caused ++ es)
  unfolding row
  by_place j operation h s es false e k =
      let other = on_source-other operation j s i (sym e) in
      foreign h s (Readable j operation) es tt tt tt tt (sym e) (ap is_byte_stream other) (ap is_readable_stream other) (ap as_readable other) k
  by_place j operation h s es true e k =
      let is : j ≡ i = sym (same_id i j (sym e)) in
      rw is (by_kind operation h s es (has_byte i s) refl (rw is at k))

  -- an operation of the byte controller of stream i, where it has one
  by_own : (operation : ByteOperation) (h : H) (s : Slots) (es : List Effect) (kind : Bool) → kind ≡ has_byte i s → Is h s (Byte i operation ∷ es)
      → let d : Done = on_byte (byte_operation i operation) i s in Is (after h (told (Byte i operation) s)) d.slots (d.caused ++ es)
  by_own operation h s es true e k =
      spared _ (on_byte (byte_operation i operation) i s).slots _ (ap is_byte_stream (on_byte-same (byte_operation i operation) i s (sym e)))
  by_own operation h s es false e k =
      rw (law.untold (Byte i operation) s tt, law.history.right h, sym e)
      (record { unmade = k.unmade; held = λ c. rw (law.unseen (Byte i operation) tt) at k.held c })

  by_byte : (j : StreamId) (operation : ByteOperation) (h : H) (s : Slots) (es : List Effect) (same : Bool) → same ≡ is_same i j → Is h s (Byte j operation ∷ es)
      → Is (after h (told (Byte j operation) s)) (row (Byte j operation) s).slots ((row (Byte j operation) s).caused ++ es)
  unfolding row
  by_byte j operation h s es false e k =
      let other = on_byte-other (byte_operation j operation) j s i (sym e) in
      foreign h s (Byte j operation) es tt tt tt (sym e) tt (ap is_byte_stream other) (ap is_readable_stream other) (ap as_readable other) k
  by_byte j operation h s es true e k =
      let is : j ≡ i = sym (same_id i j (sym e)) in
      rw is (by_own operation h s es (has_byte i s) refl (rw is at k))

  by_steps : (e : Effect) (h : H) (s : Slots) (es : List Effect) (same : Bool) → IsNoPipe e → IsNoTransform e → IsNoTee e → IsElsewhere i e → (same ≡ true → AreSteps i e) → (same ≡ false → IsForeign i e)
      → (row e s).slots.streams ≡ s.streams → Is h s (e ∷ es) → Is (after h (told e s)) (row e s).slots ((row e s).caused ++ es)
  by_steps e h s es false n m d b here there same k =
      foreign h s e es n m d b (there refl) (ap (λ (streams : List Stream). is_byte_stream (slice_get streams i.0)) same) (ap (λ (streams : List Stream). is_readable_stream (slice_get streams i.0)) same)
      (ap (λ (streams : List Stream). as_readable (slice_get streams i.0)) same) k
  by_steps e h s es true n m d b here there same k =
      let caused = none_seen (row e s).caused (row-causes (IsForeign i) e s (steps-foreign i e (here refl))) in
      rw (row-locks e s, row-pipes e s n, row-tees e s d) (record {
        unmade = λ c n. law.steps_unmade e (here refl) s h (holders s) (k.unmade (rw (← same) c) (rw (← same) n));
        held = λ c. rw (same, all_seen-append seen (row e s).caused es, caused) (law.steps e (here refl) s h (holders s) (readable_at i s) (all_seen seen es) (k.held (rw (← same) c)));
      })

  pipe_place : (p : PipeId) (operation : PipeOperation) (h : H) (s : Slots) (es : List Effect) (o : Option piping.Slots) → slice_get s.pipes p.0 ≡ o → P s (Pipe p operation ∷ es) → Is h s (Pipe p operation ∷ es)
      → let d : Done = on_pipe_at (λ ends. pipe_operation p ends operation) p s o in Is h d.slots (d.caused ++ es)
  pipe_place p operation h s es None e known k = record { unmade = k.unmade; held = λ c. law.no_pipe p operation h (holders s) (readable_at i s) (all_seen seen es) (k.held c) }
  pipe_place p operation h s es (Some x) e known k = record {
    unmade = λ c n. law.pipe_unmade p operation s x e h (k.unmade c n);
    held = λ c. rw (all_seen-append seen (piped p operation s x).out.effects es) (law.pipe p operation s x es known e h (k.held c));
  }

  signal_place : (a : SignalId) (operation : SignalOperation) (h : H) (s : Slots) (es : List Effect) (o : Option piping.Signal) → Is h s (Signal a operation ∷ es)
      → let d : Done = on_signal_at (signal_operation operation) a s o in Is h d.slots (d.caused ++ es)
  signal_place a operation h s es None k = record { unmade = k.unmade; held = λ c. law.no_signal a operation h (holders s) (readable_at i s) (all_seen seen es) (k.held c) }
  signal_place a operation h s es (Some x) k = record {
    unmade = k.unmade;
    held = λ c. rw (all_seen-append seen (signal_operation operation x).effects es) (law.signal a operation x h (holders s) (readable_at i s) (all_seen seen es) (k.held c));
  }

  transform_place : (t : TransformId) (operation : TransformOperation) (h : H) (s : Slots) (es : List Effect) (o : Option transforms.Slots) → slice_get s.transforms t.0 ≡ o
      → P s (Transform t operation ∷ es) → Is h s (Transform t operation ∷ es)
      → let d : Done = on_transform_at (λ halves. transform_operation t halves operation) t s o in Is h d.slots (d.caused ++ es)
  transform_place t operation h s es None e known k = record { unmade = k.unmade; held = λ c. rw (law.unseen (Transform t operation) tt) at k.held c }
  transform_place t operation h s es (Some x) e known k = record {
    unmade = k.unmade;
    held = λ c. rw (all_seen-append seen (transformed t operation s x).out.effects es) (law.transform t operation s x es known e h (rw (law.unseen (Transform t operation) tt) at k.held c));
  }

  port_place : (c : PortId) (operation : PortOperation) (h : H) (s : Slots) (es : List Effect) (o : Option crossing.Slots) → slice_get s.ports c.0 ≡ o
      → P s (Port c operation ∷ es) → Is h s (Port c operation ∷ es)
      → let d : Done = on_port_at (λ clones. port_operation c clones operation) c s o in Is h d.slots (d.caused ++ es)
  port_place c operation h s es None e known k = record { unmade = k.unmade; held = λ b. rw (law.unseen (Port c operation) tt) at k.held b }
  port_place c operation h s es (Some x) e known k = record {
    unmade = k.unmade;
    held = λ b. rw (all_seen-append seen (ported c operation s x).out.effects es) (law.port c operation s x es known e h (rw (law.unseen (Port c operation) tt) at k.held b));
  }

  tee_place : (t : TeeId) (operation : TeeOperation) (h : H) (s : Slots) (es : List Effect) (o : Option teeing.Slots) → slice_get s.tees t.0 ≡ o
      → P s (Tee t operation ∷ es) → Is h s (Tee t operation ∷ es)
      → let d : Done = on_tee_at (tee_operation t operation) t s o in Is h d.slots (d.caused ++ es)
  tee_place t operation h s es None e known k = record { unmade = k.unmade; held = λ c. rw (law.unseen (Tee t operation) tt) at k.held c }
  tee_place t operation h s es (Some x) e known k = record {
    unmade = λ c n. law.tee_unmade t operation s x e h (k.unmade c n);
    held = λ c. rw (all_seen-append seen (teed t operation s x).out.effects es) (law.tee t operation s x es known e h (rw (law.unseen (Tee t operation) tt) at k.held c));
  }

  row-kept : (h : H) (s : Slots) (e : Effect) (es : List Effect) → P s (e ∷ es) → Is h s (e ∷ es) → Is (after h (told e s)) (row e s).slots ((row e s).caused ++ es)
  unfolding row
  row-kept h s (Readable j operation) es known k = by_place j operation h s es (is_same i j) refl k
  row-kept h s (Byte j operation) es known k = by_byte j operation h s es (is_same i j) refl k
  row-kept h s (Writable j operation) es known k =
      foreign h s (Writable j operation) es tt tt tt tt tt (on_writable-byte (writable_operation j operation) j s i)
      (on_writable-there (writable_operation j operation) j s i (is_same i j) refl) (on_writable-readable (writable_operation j operation) j s i (is_same i j) refl) k
  row-kept h s (ChunkSteps j request v) es known k = by_steps (ChunkSteps j request v) h s es (is_same i j) tt tt tt tt (λ e. e) (λ e. e) (row-streams (ChunkSteps j request v) s tt) k
  row-kept h s (CloseSteps j request) es known k = by_steps (CloseSteps j request) h s es (is_same i j) tt tt tt tt (λ e. e) (λ e. e) (row-streams (CloseSteps j request) s tt) k
  row-kept h s (ErrorSteps j request r) es known k = by_steps (ErrorSteps j request r) h s es (is_same i j) tt tt tt tt (λ e. e) (λ e. e) (row-streams (ErrorSteps j request r) s tt) k
  row-kept h s (Pipe p operation) es known k = rw (law.pipe_untold p operation s, law.history.right h) (pipe_place p operation h s es (slice_get s.pipes p.0) refl known k)
  row-kept h s (Signal a operation) es known k = rw (law.signal_untold a operation s, law.history.right h) (signal_place a operation h s es (slice_get s.signals a.0) k)
  row-kept h s (Transform t operation) es known k =
      rw (law.untold (Transform t operation) s tt, law.history.right h) (transform_place t operation h s es (slice_get s.transforms t.0) refl known k)
  row-kept h s (Port c operation) es known k =
      rw (law.untold (Port c operation) s tt, law.history.right h) (port_place c operation h s es (slice_get s.ports c.0) refl known k)
  row-kept h s (Tee t operation) es known k =
      rw (law.untold (Tee t operation) s tt, law.history.right h) (tee_place t operation h s es (slice_get s.tees t.0) refl known k)
  row-kept h s e es known k =
      let same = row-streams e s tt in
      foreign h s e es tt tt tt tt tt (ap (λ (streams : List Stream). is_byte_stream (slice_get streams i.0)) same) (ap (λ (streams : List Stream). is_readable_stream (slice_get streams i.0)) same)
      (ap (λ (streams : List Stream). as_readable (slice_get streams i.0)) same) k

  -- a new stream
  appended : (x : Stream) (h : H) (o : Holders) (s : Slots) (here : Bool) → here ≡ nat_eq i.0 (length s.streams) → Kept seen i K M h o s.streams []
      → (is_byte_stream (Some x) ≡ false → M h o → K h o no_readable [] → K h o (as_readable (Some x)) []) → Kept seen i K M h o (s.streams ++ x ∷ []) []
  appended x h o s false n k made =
      let before = place_before s.streams x i.0 (unequal_numbers i.0 (length s.streams) (sym n)) in
      record { unmade = rw before k.unmade; held = rw before k.held }
  appended x h o s true e k made =
      let is = eq_numbers i.0 (length s.streams) (sym e) in
      let before = no_stream i s.streams is in
      let now : slice_get (s.streams ++ x ∷ []) i.0 ≡ Some x = rw is (place_last s.streams x) in
      let none : is_readable_stream (slice_get s.streams i.0) ≡ false = rw before refl in
      let no : is_byte_stream (slice_get s.streams i.0) ≡ false = rw before refl in
      record { unmade = λ c f. k.unmade no none; held = λ c. rw now (made (rw now at c) (k.unmade no none) (rw before at (k.held no))) }

  -- and what is known beside it
  abbrev All : H → Slots → List Effect → Type 0
  All h s es = Is h s es × P s es

  goes : GoesUntold after told All
  goes = record {
    row = λ h s e es k. (row-kept h s e es k.1 k.0, law.known.row s e es k.1);
    call = λ h s c k. (
      law.call c s h (begin-makes (λ z. Kept seen i K M h (holders s) z.streams []) (record {
        promise = λ z k. k;
        locks = λ z ls k. k;
        hosts = λ z hs k. k;
        pipe = λ z source dest prevent signal promise k. k;
        signal = λ z k. k;
        transform = λ z kind writable readable change k. k;
        tee = λ z source first second cancel k. k;
        port = λ z side stream backpressure k. k;
        readable = λ z owner mark size k. appended (ReadableStream (readable.set_up owner mark size)) h (holders s) z (nat_eq i.0 (length z.streams)) refl k (λ c. law.made owner mark size h (holders s));
        bytes = λ z mark auto k. appended (ByteStream (byte.set_up mark auto)) h (holders s) z (nat_eq i.0 (length z.streams)) refl k (λ c. cc);
        byob_requests = λ z r k. k;
        writable = λ z owner mark size k. appended (WritableStream (writable.set_up owner mark size)) h (holders s) z (nat_eq i.0 (length z.streams)) refl k (λ c m k. k);
      }) c s k.0),
      law.known.call s c k.1,
    );
    job = λ h s job e k. (record { unmade = k.0.unmade; held = λ c. law.job job h (holders s) _ (k.0.held c) }, law.known.job s job e k.1);
    answered = λ h s p k. (k.0, law.known.answered s p k.1);
    older = λ h s k. (k.0, law.known.older s k.1);
  }

  rests : RestsUntold All
  rests = record { heard = λ h s k. (k.0, law.known_heard s k.1) }

  pub step-kept : (h : H) (s : Slots) (x : Entry) → P s [] → Is h s [] → Is (after h (in_step none after told s x)) (step s x) []
  step-kept h s x known k = (step-goes_untold none after law.history told All goes rests h s x (k, known)).0

  pub run-kept : (xs : List Entry) → Is (over none after (in_step none after told) xs empty) (run xs empty) []
  run-kept xs = (run-holds none after law.history told All goes rests xs empty (record { unmade = λ c e. law.unmade; held = λ c. law.empty }, law.known_first)).0

-- where nothing is known beside
abbrev pub Nothing : Slots → List Effect → Type 0
Nothing s es = Unit {0}

pub nothing-stays : Stays Nothing
nothing-stays = record { row = λ s e es k. tt; call = λ s c k. tt; job = λ s job e k. tt; answered = λ s p k. tt; older = λ s k. tt }
