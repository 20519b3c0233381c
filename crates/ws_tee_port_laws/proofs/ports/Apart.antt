-- Which effects ask for no post of a port: those of another port, and what other effects cause.
use Rattle.std.proofs.Common.{◌≡◌, ℕ, zero, suc, Bool, true, false, nat_eq, List, [], ◌∷◌, Option, Some, None, slice_get, slice_set, refl, ap, ◌∙◌, subst, append-nil, arith}
use Rattle.ws_value.specs.declared.ids.PortId.{PortId}
use Rattle.ws_value.specs.declared.ids.PromiseId.{PromiseId}
use Rattle.ws_value.specs.declared.ids.StreamId.{StreamId}
use Rattle.ws_value.specs.declared.value.Message.{Message}
use Rattle.ws_value.specs.declared.value.Message.TheVariants.{Pull as PullMessage, Chunk as ChunkMessage, Close as CloseMessage, Error as ErrorMessage}
use Rattle.ws_value.specs.declared.value.Value.{Value}
use Rattle.ws_value.specs.Values.{is_cloneable}
use Rattle.ws_steps.specs.declared.calls.Event.TheVariants.{Post}
use Rattle.ws_steps.specs.declared.effects.Effect.{Effect}
use Rattle.ws_steps.specs.declared.effects.Effect.TheVariants.{Readable, Byte, Writable, Pipe, Signal, Transform, Tee, Port, StartAlgorithm, PullAlgorithm, CancelAlgorithm, WriteAlgorithm, CloseAlgorithm, AbortAlgorithm, ChunkSteps, CloseSteps, CloseStepsWith, ErrorSteps, Give}
use Rattle.ws_steps.specs.declared.pipes.SignalOperation.{SignalOperation}
use Rattle.ws_steps.specs.declared.pipes.SignalOperation.TheVariants.{Add, Forget, Trigger}
use Rattle.ws_steps.specs.declared.port.PortOperation.{PortOperation}
use Rattle.ws_steps.specs.declared.port.PortOperation.TheVariants as ports
use Rattle.ws_steps.specs.declared.port.Side.{Side}
use Rattle.ws_steps.specs.declared.port.Side.TheVariants.{Readable as ReadableSide, Writable as WritableSide}
use Rattle.ws_steps.specs.declared.readable.ReadRequest.{ReadRequest}
use Rattle.ws_steps.specs.declared.readable.ReadRequest.TheVariants.{Promise, Pipe as PipeRequest, Tee as TeeRequest}
use Rattle.ws_steps.specs.declared.transform.Taker.{Taker}
use Rattle.ws_steps.specs.declared.transform.Taker.TheVariants.{ToHost, ToTransform, ToPort}
use Rattle.ws_steps.specs.declared.writable.WritableOperation.{WritableOperation}
use Rattle.ws_steps.specs.declared.writable.WritableOperation.TheVariants as writes
use Rattle.ws_steps.specs.Cross as cross
use Rattle.ws_steps.specs.Cross.{post, post_or_fail, data_clone}
use Rattle.ws_steps.specs.Operations.{port_operation}
use Rattle.ws_steps.specs.PortHistory.{is_same_port, posted_in}
use Rattle.ws_steps.specs.Promises.{Table, fresh}
use Rattle.ws_steps.specs.Run.{step}
use Rattle.ws_steps.specs.Slots.{Slots}
use Rattle.ws_steps.specs.Turns.{row}
use Rattle.ws_steps.specs.Writable as writable
use Rattle.ws_laws.proofs.Lists.{Each}
use Rattle.ws_laws.proofs.PipeDoes.{PipeCauses}
use Rattle.ws_laws.proofs.PortDoes.{PortCauses}
use Rattle.ws_laws.proofs.Causes.{ReadableCauses, ChunkCauses, EndCauses, ErrorCauses, SignalCauses, row-causes}
use Rattle.ws_laws.proofs.Tables.{either}
use Rattle.ws_laws.proofs.TeeDoes.{TeeCauses}
use Rattle.ws_laws.proofs.TransformDoes.{TransformCauses}
use Rattle.ws_tee_port_laws.proofs.ports.Fitting.{writable-caused}
use Rattle.ws_tee_port_laws.proofs.ports.Posting.{total, some_of, chunks_of, asks_of, is_due}
use Rattle.ws_tee_port_laws.proofs.ports.Told.{posted, posted-append, fresh-events, settle-posted}

-- effects that weigh nothing for port c
module _ (c : PortId) where
  pub record Apart (e : Effect) : Type 0 where
    pub chunks : chunks_of c e ≡ 0
    pub asks : (live : Bool) → asks_of c live e ≡ 0
    pub due : is_due c e ≡ false

  pub apart-chunks : (es : List Effect) → Each Apart es → total (chunks_of c) es ≡ 0
  apart-chunks [] a = refl
  apart-chunks (e ∷ es) a = let h = a.0.chunks in let n = apart-chunks es a.1 in omega (arith, h, n)

  pub apart-asks : (live : Bool) (es : List Effect) → Each Apart es → total (asks_of c live) es ≡ 0
  apart-asks live [] a = refl
  apart-asks live (e ∷ es) a = let h = a.0.asks live in let n = apart-asks live es a.1 in omega (arith, h, n)

  pub apart-due : (es : List Effect) → Each Apart es → some_of (is_due c) es ≡ false
  apart-due [] a = refl
  apart-due (e ∷ es) a = rw (a.0.due) (apart-due es a.1)

  plainly : (e : Effect) → chunks_of c e ≡ 0 → ((live : Bool) → asks_of c live e ≡ 0) → is_due c e ≡ false → Apart e
  plainly e a b d = record { chunks = a; asks = b; due = d }

  -- no other effects cause such
  abbrev pub IsOther : Effect → Type 0
  IsOther (Port d operation) = is_same_port c d ≡ false
  IsOther (Writable i (writes.HandOn (ToPort d p))) = is_same_port c d ≡ false
  IsOther e = Unit {0}

  readable-apart : (i : StreamId) → ReadableCauses Apart i
  readable-apart i = record {
    pull = record { chunks = refl; asks = λ l. refl; due = refl };
    cancel = λ r p. record { chunks = refl; asks = λ l. refl; due = refl };
    chunk = λ q v. record { chunks = refl; asks = λ l. refl; due = refl };
    close = λ q. record { chunks = refl; asks = λ l. refl; due = refl };
    error = λ q e. record { chunks = refl; asks = λ l. refl; due = refl };
  }

  pipe-apart : (p : _) (source dest : StreamId) (e : Effect) → PipeCauses p source dest e → Apart e
  pipe-apart p source dest e k = record { chunks = grind arith; asks = grind arith; due = grind arith }

  transform-apart : (t : _) (w r : StreamId) (e : Effect) → TransformCauses t w r e → Apart e
  transform-apart t w r e k = record { chunks = grind arith; asks = grind arith; due = grind arith }

  tee-apart : (t : _) (source first second : StreamId) (e : Effect) → TeeCauses t source first second e → Apart e
  tee-apart t source first second e k = record { chunks = grind arith; asks = grind arith; due = grind arith }

  same-false : (d e : PortId) → d ≡ e → is_same_port c e ≡ false → is_same_port c d ≡ false
  same-false d e is n = rw is n

  port-apart : (d : PortId) → is_same_port c d ≡ false → (stream : StreamId) (e : Effect) → PortCauses d stream e → Apart e
  port-apart d n stream (Readable i operation) k = record { chunks = refl; asks = λ l. refl; due = refl }
  port-apart d n stream (Writable i (writes.HandOn (ToPort f p))) k = record { chunks = rw (same-false f d k.1 n) refl; asks = λ l. refl; due = refl }
  port-apart d n stream (Writable i (writes.ErrorIfNeeded r)) k = record { chunks = refl; asks = λ l. refl; due = refl }
  port-apart d n stream (Port f ports.Unblock) k = record { chunks = refl; asks = λ l. rw (same-false f d k n) refl; due = refl }
  port-apart d n stream (Give gift u) k = record { chunks = refl; asks = λ l. refl; due = refl }
  port-apart d n stream e k = absurd k

  taken-apart : (i : StreamId) (operation : WritableOperation) → IsOther (Writable i operation) → (taker : Taker) (v : Value) → operation ≡ writes.HandOn taker → Apart (writable.taken_by i v taker)
  taken-apart i operation o ToHost v e = record { chunks = refl; asks = λ l. refl; due = refl }
  taken-apart i operation o (ToTransform t d) v e = record { chunks = refl; asks = λ l. refl; due = refl }
  taken-apart i operation o (ToPort d p) v e =
      let n : is_same_port c d ≡ false = subst (λ (w : WritableOperation). IsOther (Writable i w)) e o in
      record { chunks = rw n refl; asks = λ l. refl; due = refl }

  chunk-apart : (v : Value) (request : ReadRequest) → ChunkCauses Apart v request
  chunk-apart v (Promise p) = tt
  chunk-apart v (PipeRequest p) = record { chunks = refl; asks = λ l. refl; due = refl }
  chunk-apart v (TeeRequest t) = record { chunks = refl; asks = λ l. refl; due = refl }

  end-apart : (request : ReadRequest) → EndCauses Apart request
  end-apart (Promise p) = tt
  end-apart (PipeRequest p) = record { chunks = refl; asks = λ l. refl; due = refl }
  end-apart (TeeRequest t) = record { chunks = refl; asks = λ l. refl; due = refl }

  error-apart : (request : ReadRequest) → ErrorCauses Apart request
  error-apart (Promise p) = tt
  error-apart (PipeRequest p) = record { chunks = refl; asks = λ l. refl; due = refl }
  error-apart (TeeRequest t) = record { chunks = refl; asks = λ l. refl; due = refl }

  signal-apart : (operation : SignalOperation) → SignalCauses Apart operation
  signal-apart (Add p) = tt
  signal-apart (Forget p) = tt
  signal-apart (Trigger r) = λ p. record { chunks = refl; asks = λ l. refl; due = refl }

  abbrev quiet : (e : Effect) → chunks_of c e ≡ 0 → ((live : Bool) → asks_of c live e ≡ 0) → is_due c e ≡ false → Apart e
  quiet e a b d = record { chunks = a; asks = b; due = d }

  pub row-apart : (e : Effect) (s : Slots) → IsOther e → Each Apart (row e s).caused
  row-apart (Readable i operation) s o = row-causes Apart (Readable i operation) s (readable-apart i)
  row-apart (Byte i operation) s o = row-causes Apart (Byte i operation) s (record { readable = readable-apart i; close_with = λ q b. quiet _ refl (λ l. refl) refl })
  row-apart (Writable i operation) s o =
      writable-caused Apart i s operation (λ h. record {
        write = quiet _ refl (λ l. refl) refl;
        close = quiet _ refl (λ l. refl) refl;
        abort = λ r p. quiet _ refl (λ l. refl) refl;
        take = taken-apart i operation o;
      })
  row-apart (Port d operation) s o = row-causes Apart (Port d operation) s (port-apart d o)
  row-apart (Pipe p operation) s o = row-causes Apart (Pipe p operation) s (pipe-apart p)
  row-apart (Transform t operation) s o = row-causes Apart (Transform t operation) s (transform-apart t)
  row-apart (Tee t operation) s o = row-causes Apart (Tee t operation) s (tee-apart t)
  row-apart (Signal a operation) s o = row-causes Apart (Signal a operation) s (signal-apart operation)
  row-apart (StartAlgorithm i step start) s o = row-causes Apart (StartAlgorithm i step start) s (λ g u. quiet _ refl (λ l. refl) refl, λ h u. quiet _ refl (λ l. refl) refl)
  row-apart (PullAlgorithm i) s o =
      row-causes Apart (PullAlgorithm i) s
      (λ h u. quiet _ refl (λ l. refl) refl, (λ t u. quiet _ refl (λ l. refl) refl, (λ t. quiet _ refl (λ l. refl) refl, (λ u. quiet _ refl (λ l. refl) refl, λ d. quiet _ refl (λ l. refl) refl))))
  row-apart (CancelAlgorithm i r p) s o =
      row-causes Apart (CancelAlgorithm i r p) s
      (λ h u. quiet _ refl (λ l. refl) refl, (λ t u. quiet _ refl (λ l. refl) refl, (λ t half u. quiet _ refl (λ l. refl) refl, λ d u. quiet _ refl (λ l. refl) refl)))
  row-apart (WriteAlgorithm i) s o =
      row-causes Apart (WriteAlgorithm i) s (quiet _ refl (λ l. refl) refl, (λ t u. quiet _ refl (λ l. refl) refl, λ d u. quiet _ refl (λ l. refl) refl))
  row-apart (CloseAlgorithm i) s o =
      row-causes Apart (CloseAlgorithm i) s (λ h u. quiet _ refl (λ l. refl) refl, (λ t u. quiet _ refl (λ l. refl) refl, λ d u. quiet _ refl (λ l. refl) refl))
  row-apart (AbortAlgorithm i r p) s o =
      row-causes Apart (AbortAlgorithm i r p) s (λ h u. quiet _ refl (λ l. refl) refl, (λ t u. quiet _ refl (λ l. refl) refl, λ d u. quiet _ refl (λ l. refl) refl))
  row-apart (ChunkSteps i request v) s o = row-causes Apart (ChunkSteps i request v) s (chunk-apart v request)
  row-apart (CloseSteps i request) s o = row-causes Apart (CloseSteps i request) s (end-apart request)
  row-apart (CloseStepsWith i request b) s o = row-causes Apart (CloseStepsWith i request b) s (end-apart request)
  row-apart (ErrorSteps i request e) s o = row-causes Apart (ErrorSteps i request e) s (error-apart request)
  row-apart e s o = row-causes Apart e s tt

-- an operation of another port posts nothing for it

module _ (c d : PortId) (n : is_same_port c d ≡ false) where
  abbrev Leaves : cross.Acts → cross.Acts → Type 0
  Leaves a b = posted c b.out.promises ≡ posted c a.out.promises

  post-elsewhere : (m : Message) (a : cross.Acts) → Leaves a (post d m a)
  post-elsewhere m a =
      either (Leaves a) a.slots.live (cross.posting d m a) a
      (λ e. posted-append c a.out.promises.events (Post d m ∷ []) ∙ rw n (append-nil (posted c a.out.promises))) (λ e. refl)

  fail-elsewhere : (m : Message) (a : cross.Acts) (clones : Bool) → Leaves a (post_or_fail d m a clones)
  fail-elsewhere m a true = post-elsewhere m a
  fail-elsewhere m a false = post-elsewhere (ErrorMessage data_clone) a

  fresh-elsewhere : (t : Table) → posted c (fresh t) ≡ posted c t
  fresh-elsewhere t = ap (posted_in c) (fresh-events t)

  hand-elsewhere : (p : PromiseId) (a : cross.Acts) (clones : Bool) → Leaves a (cross.hand_on d p a clones)
  hand-elsewhere p a true = refl
  hand-elsewhere p a false = post-elsewhere (ErrorMessage data_clone) a

  go-elsewhere : (clones : Bool) (p : PromiseId) (a : cross.Acts) (o : Option PromiseId) → Leaves a (cross.go_on d clones p a o)
  go-elsewhere clones p a None = hand-elsewhere p (cross.hold_back a) clones ∙ fresh-elsewhere a.out.promises
  go-elsewhere clones p a (Some q) = refl

  unblock-elsewhere : (a : cross.Acts) (o : Option PromiseId) → Leaves a (cross.unblock_by a o)
  unblock-elsewhere a None = refl
  unblock-elsewhere a (Some p) = settle-posted c p cross.done a.out.promises

  deliver-elsewhere : (m : Message) (a : cross.Acts) (side : Side) → Leaves a (cross.deliver_to d m a side)
  unfolding cross.unblock
  deliver-elsewhere PullMessage a ReadableSide = refl
  deliver-elsewhere (ChunkMessage v) a ReadableSide = refl
  deliver-elsewhere CloseMessage a ReadableSide = refl
  deliver-elsewhere (ErrorMessage r) a ReadableSide = refl
  deliver-elsewhere PullMessage a WritableSide = unblock-elsewhere a a.slots.backpressure
  deliver-elsewhere (ChunkMessage v) a WritableSide = refl
  deliver-elsewhere CloseMessage a WritableSide = refl
  deliver-elsewhere (ErrorMessage r) a WritableSide = refl

  pub port-elsewhere : (clones : Bool) (operation : PortOperation) (a : cross.Acts) → Leaves a (port_operation d clones operation a)
  unfolding cross.pull cross.leave cross.close cross.write cross.write_goes_on cross.post_chunk cross.unblock cross.deliver
  port-elsewhere clones ports.Pull a = post-elsewhere _ a
  port-elsewhere clones (ports.Leave r u) a = fail-elsewhere (ErrorMessage r) a (is_cloneable r)
  port-elsewhere clones (ports.Write u) a = fresh-elsewhere a.out.promises
  port-elsewhere clones (ports.WriteGoesOn p) a = go-elsewhere clones p a a.slots.backpressure
  port-elsewhere clones (ports.PostChunk v p) a = post-elsewhere (ChunkMessage v) a
  port-elsewhere clones (ports.Close u) a = post-elsewhere CloseMessage a
  port-elsewhere clones (ports.Deliver m) a = either (Leaves a) a.slots.live (cross.deliver_to d m a a.slots.side) a (λ e. deliver-elsewhere m a a.slots.side) (λ e. refl)
  port-elsewhere clones ports.Unblock a = unblock-elsewhere a a.slots.backpressure

-- places of the table of ports

pub place-same : (xs : List cross.Slots) (n : ℕ) (x y : cross.Slots) → slice_get xs n ≡ Some x → slice_get (slice_set xs n y) n ≡ Some y
place-same [] n x y is = cc
place-same (z ∷ xs) zero x y is = refl
place-same (z ∷ xs) (suc n) x y is = place-same xs n x y is

pub place-other : (xs : List cross.Slots) (m n : ℕ) (y : cross.Slots) → nat_eq m n ≡ false → slice_get (slice_set xs n y) m ≡ slice_get xs m
place-other [] m n y e = refl
place-other (z ∷ xs) zero zero y e = cc
place-other (z ∷ xs) zero (suc n) y e = refl
place-other (z ∷ xs) (suc m) zero y e = refl
place-other (z ∷ xs) (suc m) (suc n) y e = place-other xs m n y (same_suc m n ∙ e)
  where
    same_suc : (m n : ℕ) → nat_eq m n ≡ nat_eq (suc m) (suc n)
    same_suc m n = grind arith
