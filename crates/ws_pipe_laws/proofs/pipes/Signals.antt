-- What the trigger of a signal causes, and its reason (`each_trigger_aborts_in_order`, `each_reason_stays`).
use Rattle.ws_value.specs.declared.ids.PortId.{PortId}
use Rattle.ws_steps.specs.Cross as cross
use Rattle.ws_steps.specs.declared.port.PortOperation.{PortOperation}
use Rattle.ws_steps.specs.Operations.{port_operation}
use Rattle.ws_steps.specs.Slots.{on_port_at}
use Rattle.std.proofs.Common.{◌≡◌, ℕ, zero, suc, true, is_some, List, [], ◌∷◌, ◌++◌, map, Option, Some, None, slice_get, slice_set, refl, sym, ap, ◌∙◌}
use Rattle.ws_steps.specs.declared.port.PortOperation.{PortOperation}
use Rattle.ws_value.specs.declared.ids.PortId.{PortId}
use Rattle.ws_value.specs.declared.{ids.PipeId.{PipeId}, ids.SignalId.{SignalId}, value.Plain.{Plain}}
use Rattle.ws_steps.specs.declared.calls.StartBy.TheVariants.{Now, Later}
use Rattle.ws_steps.specs.declared.effects.Effect.{Effect}
use Rattle.ws_steps.specs.declared.effects.Effect.TheVariants.{Readable, Writable, Pipe, Signal, Transform, Tee, Port, StartAlgorithm, ChunkSteps, CloseSteps, ErrorSteps}
use Rattle.ws_steps.specs.declared.pipes.{PipeOperation.{PipeOperation}, PipeOperation.TheVariants.{Abort as AbortPipe}, SignalOperation.{SignalOperation}, SignalOperation.TheVariants.{Add, Forget, Trigger}}
use Rattle.ws_steps.specs.declared.readable.ReadRequest.TheVariants.{Promise, Pipe as PipeRequest, Tee as TeeRequest}
use Rattle.ws_steps.specs.declared.transform.{TransformId.{TransformId}, TransformOperation.{TransformOperation}}
use Rattle.ws_steps.specs.Operations.{writable_operation, pipe_operation, signal_operation, transform_operation}
use Rattle.ws_steps.specs.Pipes as pipe
use Rattle.ws_steps.specs.Pipes.{abort_all, trigger_unless, new_signal}
use Rattle.ws_steps.specs.Slots.{Slots, Done, nothing, has_writable, put_writable, as_signal, signal_at, on_pipe_at, on_signal_at, on_transform_at}
use Rattle.ws_steps.specs.Transform as transform
use Rattle.ws_steps.specs.Turns.{row, call_host}
use Rattle.ws_laws.proofs.Begin.{begin-makes}
use Rattle.ws_laws.proofs.Tables.{either, writable_acts}
use Rattle.ws_laws.proofs.Walker.{Stays, run-stays}
use Rattle.ws_pipe_laws.specs.pipes.SignalLaws.{EachTriggerAbortsInOrder, EachReasonStays}
use Rattle.ws_steps.specs.declared.effects.Effect.TheVariants.{Byte, CloseStepsWith}
use Rattle.ws_laws.proofs.Apart.{source-leaves, byte-leaves}
use Rattle.ws_value.specs.declared.ids.TeeId.{TeeId}
use Rattle.ws_steps.specs.declared.tee.TeeOperation.{TeeOperation}
use Rattle.ws_steps.specs.Tee as tee
use Rattle.ws_steps.specs.Operations.{tee_operation}
use Rattle.ws_steps.specs.Slots.{on_tee_at}

aborts_map : (r : Plain) (ps : List PipeId) → abort_all r ps ≡ map (λ p. Pipe p (AbortPipe r)) ps
aborts_map r [] = refl
aborts_map r (p ∷ ps) = ap (λ (es : List Effect). Pipe p (AbortPipe r) ∷ es) (aborts_map r ps)

first_trigger : (r : Plain) (x : pipe.Signal) (o : Option Plain) → o ≡ None → (trigger_unless r x o).effects ≡ abort_all r x.pipes
first_trigger r x None e = refl
first_trigger r x (Some old) e = cc

later_trigger : (r : Plain) (x : pipe.Signal) (o : Option Plain) (q : Plain) → o ≡ Some q → ((trigger_unless r x o).effects ≡ []) × ((trigger_unless r x o).signal ≡ x)
later_trigger r x None q e = cc
later_trigger r x (Some old) q e = (refl, refl)

pub signal_same : (xs : List pipe.Signal) (n : ℕ) (x y : pipe.Signal) → slice_get xs n ≡ Some x → slice_get (slice_set xs n y) n ≡ Some y
signal_same [] n x y e = cc
signal_same (z ∷ zs) zero x y e = refl
signal_same (z ∷ zs) (suc n) x y e = signal_same zs n x y e

first_there : (a : SignalId) (r : Plain) (s : Slots) (o : Option pipe.Signal) → (as_signal o).reason ≡ None
    → (on_signal_at (signal_operation (Trigger r)) a s o).caused ≡ map (λ p. Pipe p (AbortPipe r)) (as_signal o).pipes
first_there a r s None e = refl
first_there a r s (Some x) e = first_trigger r x x.reason e ∙ aborts_map r x.pipes

later_there : (a : SignalId) (r : Plain) (s : Slots) (o : Option pipe.Signal) (q : Plain) → slice_get s.signals a.0 ≡ o → (as_signal o).reason ≡ Some q
    → let d : Done = on_signal_at (signal_operation (Trigger r)) a s o in (d.caused ≡ []) × (signal_at a d.slots ≡ as_signal o)
later_there a r s None q e f = cc
later_there a r s (Some x) q e f =
    let h = later_trigger r x x.reason q f in
    (h.0, ap as_signal (signal_same s.signals a.0 x (trigger_unless r x x.reason).signal e) ∙ h.1)

first_signal : (r : Plain) (x : pipe.Signal) (o : Option Plain) → o ≡ None → (trigger_unless r x o).signal ≡ record x { reason = Some r }
first_signal r x None e = refl
first_signal r x (Some old) e = cc

first_kept : (a : SignalId) (r : Plain) (s : Slots) (o : Option pipe.Signal) → slice_get s.signals a.0 ≡ o → is_some o ≡ true → (as_signal o).reason ≡ None
    → signal_at a (on_signal_at (signal_operation (Trigger r)) a s o).slots ≡ record (as_signal o) { reason = Some r }
first_kept a r s None e i f = cc
first_kept a r s (Some x) e i f = ap as_signal (signal_same s.signals a.0 x (trigger_unless r x x.reason).signal e) ∙ first_signal r x x.reason f

pub each_trigger_aborts_in_order : EachTriggerAbortsInOrder
unfolding row
each_trigger_aborts_in_order a r s =
    record {
      first = first_there a r s (slice_get s.signals a.0);
      keeps = λ i f. first_kept a r s (slice_get s.signals a.0) refl i f;
      later = λ q f. later_there a r s (slice_get s.signals a.0) q refl f;
    }

-- other effects than operations of signals leave the signals

abbrev pub IsNoSignal : Effect → Type 0
IsNoSignal (Signal a operation) = ⊥
IsNoSignal _ = Unit {0}

pipe-signals : (p : PipeId) (operation : PipeOperation) (s : Slots) (o : Option pipe.Slots)
    → (on_pipe_at (λ ends. pipe_operation p ends operation) p s o).slots.signals ≡ s.signals
pipe-signals p operation s None = refl
pipe-signals p operation s (Some x) = refl

transform-signals : (t : TransformId) (operation : TransformOperation) (s : Slots) (o : Option transform.Slots)
    → (on_transform_at (λ halves. transform_operation t halves operation) t s o).slots.signals ≡ s.signals
transform-signals t operation s None = refl
transform-signals t operation s (Some x) = refl

tee-signals : (t : TeeId) (operation : TeeOperation) (s : Slots) (o : Option tee.Slots)
    → (on_tee_at (tee_operation t operation) t s o).slots.signals ≡ s.signals
tee-signals t operation s None = refl
tee-signals t operation s (Some x) = refl

port-signals : (c : PortId) (operation : PortOperation) (s : Slots) (o : Option cross.Slots)
    → (on_port_at (λ clones. port_operation c clones operation) c s o).slots.signals ≡ s.signals
port-signals c operation s None = refl
port-signals c operation s (Some x) = refl

pub row-signals : (e : Effect) (s : Slots) → IsNoSignal e → (row e s).slots.signals ≡ s.signals
unfolding row call_host
row-signals (Readable i operation) s n = source-leaves (λ z. z.signals) (λ z x o. refl) i operation s
row-signals (Byte i operation) s n = byte-leaves (λ z. z.signals) (λ z x o. refl) i operation s
row-signals (Writable i operation) s n =
    either (λ (d : Done). d.slots.signals ≡ s.signals) (has_writable i s) (put_writable i s (writable_operation i operation (writable_acts i s))) (nothing s) (λ e. refl) (λ e. refl)
row-signals (Pipe p operation) s n = pipe-signals p operation s (slice_get s.pipes p.0)
row-signals (Signal a operation) s n = absurd n
row-signals (Transform t operation) s n = transform-signals t operation s (slice_get s.transforms t.0)
row-signals (Tee t operation) s n = tee-signals t operation s (slice_get s.tees t.0)
row-signals (Port c operation) s n = port-signals c operation s (slice_get s.ports c.0)
row-signals (StartAlgorithm i step Now) s n = refl
row-signals (StartAlgorithm i step Later) s n = refl
row-signals (ChunkSteps i (Promise p) v) s n = refl
row-signals (CloseSteps i (Promise p)) s n = refl
row-signals (CloseStepsWith i (Promise p) b) s n = refl
row-signals (ErrorSteps i (Promise p) e) s n = refl
row-signals (ChunkSteps i (PipeRequest p) v) s n = refl
row-signals (ChunkSteps i (TeeRequest t) v) s n = refl
row-signals (CloseSteps i (PipeRequest p)) s n = refl
row-signals (CloseSteps i (TeeRequest t)) s n = refl
row-signals (CloseStepsWith i (PipeRequest p) b) s n = refl
row-signals (CloseStepsWith i (TeeRequest t) b) s n = refl
row-signals (ErrorSteps i (PipeRequest p) e) s n = refl
row-signals (ErrorSteps i (TeeRequest t) e) s n = refl
row-signals _ s n = refl

-- a signal keeps its reason

operation_reason : (operation : SignalOperation) (x : pipe.Signal) (q : Plain) → x.reason ≡ Some q → (signal_operation operation x).signal.reason ≡ Some q
operation_reason (Add p) x q h = h
operation_reason (Forget p) x q h = h
operation_reason (Trigger r) x q h = ap (λ (x : pipe.Signal). x.reason) (later_trigger r x x.reason q h).1 ∙ h

set_reason : (xs : List pipe.Signal) (i a : ℕ) (y : pipe.Signal) (q : Plain) → ((as_signal (slice_get xs i)).reason ≡ Some q → y.reason ≡ Some q)
    → (as_signal (slice_get xs a)).reason ≡ Some q → (as_signal (slice_get (slice_set xs i y) a)).reason ≡ Some q
set_reason [] i a y q f h = h
set_reason (x ∷ xs) zero zero y q f h = f h
set_reason (x ∷ xs) zero (suc a) y q f h = h
set_reason (x ∷ xs) (suc i) zero y q f h = h
set_reason (x ∷ xs) (suc i) (suc a) y q f h = set_reason xs i a y q f h

last_reason : (xs : List pipe.Signal) (a : ℕ) (y : pipe.Signal) (q : Plain) → (as_signal (slice_get xs a)).reason ≡ Some q → (as_signal (slice_get (xs ++ y ∷ []) a)).reason ≡ Some q
last_reason [] a y q h = cc
last_reason (x ∷ xs) zero y q h = h
last_reason (x ∷ xs) (suc a) y q h = last_reason xs a y q h

module _ (a : SignalId) (q : Plain) where
  abbrev Has : Slots → Type 0
  Has s = (signal_at a s).reason ≡ Some q

  signal_place : (b : SignalId) (operation : SignalOperation) (s : Slots) (o : Option pipe.Signal) → slice_get s.signals b.0 ≡ o → Has s → Has (on_signal_at (signal_operation operation) b s o).slots
  signal_place b operation s None e h = h
  signal_place b operation s (Some x) e h =
      set_reason s.signals b.0 a.0 (signal_operation operation x).signal q
      (λ f. operation_reason operation x q (ap (λ (o : Option pipe.Signal). (as_signal o).reason) (sym e) ∙ f)) h

  other_place : (e : Effect) (s : Slots) → IsNoSignal e → Has s → Has (row e s).slots
  other_place e s n h = ap (λ (xs : List pipe.Signal). (as_signal (slice_get xs a.0)).reason) (row-signals e s n) ∙ h

  row-reason : (e : Effect) (s : Slots) → Has s → Has (row e s).slots
  unfolding row
  row-reason (Signal b operation) s h = signal_place b operation s (slice_get s.signals b.0) refl h
  row-reason e s h = other_place e s tt h

  reason-stays : Stays (λ s es. Has s)
  reason-stays = record {
    row = λ s e es h. row-reason e s h;
    call = λ s c h. begin-makes Has (record {
      promise = λ z k. k;
      locks = λ z ls k. k;
      hosts = λ z hs k. k;
      pipe = λ z source dest prevent signal promise k. k;
      signal = λ z k. last_reason z.signals a.0 new_signal q k;
      transform = λ z kind i j change k. k;
      tee = λ z source first second cancel k. k;
      port = λ z side stream backpressure k. k;
      bytes = λ z mark auto k. k;
      byob_requests = λ z hs k. k;
      readable = λ z owner mark size k. k;
      writable = λ z owner mark size k. k;
    }) c s h;
    job = λ s job e h. h;
    answered = λ s p h. h;
    older = λ s h. h;
  }

pub each_reason_stays : EachReasonStays
each_reason_stays entries s a q h = run-stays (λ s es. (signal_at a s).reason ≡ Some q) (reason-stays a q) (λ s h. h) entries s h
