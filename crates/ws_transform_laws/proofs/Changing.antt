-- The change promise of a transform stream: each effect leaves it, or settles it, and then it is a new one.
use Rattle.std.proofs.Common.{◌≡◌, ◌⊎◌, inl, inr, ℕ, zero, suc, Bool, true, false, not, nat_eq, List, [], ◌∷◌, Option, Some, None, Ok, Err, slice_get, slice_set, refl, sym, ap, ◌∙◌}
use Rattle.ws_value.specs.declared.ids.{PipeId.{PipeId}, PromiseId.{PromiseId}, SignalId.{SignalId}}
use Rattle.ws_value.specs.declared.value.Plain.{Plain}
use Rattle.ws_steps.specs.declared.calls.{HostCall.{HostCall}, StartBy.TheVariants.{Now, Later}}
use Rattle.ws_steps.specs.declared.effects.{Effect.{Effect}, Effect.TheVariants.{Readable as OnReadable, Writable as OnWritable, Pipe as OnPipe, Signal as OnSignal, Transform as OnTransform, Tee as OnTee, Port as OnPort, StartAlgorithm, ChunkSteps, CloseSteps, ErrorSteps}, Use.{Use}}
use Rattle.ws_steps.specs.declared.pipes.{PipeOperation.{PipeOperation}, SignalOperation.{SignalOperation}}
use Rattle.ws_steps.specs.declared.promises.Step.{Step}
use Rattle.ws_steps.specs.declared.promises.Step.TheVariants.{TransformFlushed, TransformAborted, TransformCancelled}
use Rattle.ws_steps.specs.declared.readable.{ReadRequest.TheVariants.{Promise, Pipe as PipeRequest, Tee as TeeRequest}, ReadableState.{ReadableState}, ReadableState.TheVariants.{Readable as IsReadable, Closed as ReadableClosed, Errored as ReadableErrored}}
use Rattle.ws_steps.specs.declared.transform.{Halves.{Halves}, TransformId.{TransformId}, TransformOperation.{TransformOperation}}
use Rattle.ws_steps.specs.declared.transform.TransformOperation.TheVariants as names
use Rattle.ws_steps.specs.declared.writable.{WritableState.{WritableState}, WritableState.TheVariants.{Writable as IsWritable, Erroring, Errored as WritableErrored, Closed as WritableClosed}}
use Rattle.ws_steps.specs.Operations.{writable_operation, pipe_operation, signal_operation, transform_operation, tee_operation, port_operation}
use Rattle.ws_steps.specs.Pipes as pipe
use Rattle.ws_steps.specs.Promises.{fresh, settle}
use Rattle.ws_steps.specs.Slots as realm
use Rattle.ws_steps.specs.Slots.{Done, nothing, found, halves_at, has_readable, has_writable, on_pipe_at, on_signal_at, on_transform_at, put_readable, put_writable, on_tee_at, on_port_at}
use Rattle.ws_steps.specs.Transform.{Slots, Acts, done, set_backpressure, unblock, differs, enqueue, enqueued, transform_error, terminate, transform_chunk, perform_transform, wait_for_change, sink_write, write_in, write_goes_on, source_pull, finish_by, sink_close, sink_abort, source_cancel, flushed_in, flush_settled, aborted_in, abort_settled, cancelled_in, cancel_settled}
use Rattle.ws_steps.specs.Turns.{row, call_host}
use Rattle.ws_steps.proofs.PromiseLaws.{slice_get-set_other}
use Rattle.ws_laws.proofs.Tables.{either, writable_acts, eq_numbers, unequal_numbers}
use Rattle.ws_steps.specs.declared.effects.Effect.TheVariants.{Byte, CloseStepsWith}
use Rattle.ws_laws.proofs.Apart.{source-leaves, byte-leaves}
use Rattle.ws_value.specs.declared.ids.TeeId.{TeeId}
use Rattle.ws_value.specs.declared.ids.PortId.{PortId}
use Rattle.ws_steps.specs.declared.tee.TeeOperation.{TeeOperation}
use Rattle.ws_steps.specs.declared.port.PortOperation.{PortOperation}
use Rattle.ws_steps.specs.Tee as tee
use Rattle.ws_steps.specs.Cross as cross

abbrev pub Turned : Acts → Acts → Type 0
Turned a b = ((b.slots.change ≡ a.slots.change) × (b.slots.backpressure ≡ a.slots.backpressure)) ⊎ (b.out.promises ≡ fresh (settle a.slots.change done a.out.promises))

backpressure-turned : (b : Bool) (a : Acts) → Turned a (set_backpressure b a)
unfolding set_backpressure
backpressure-turned b a = inr refl

unblock-turned : (a : Acts) → Turned a (unblock a)
unfolding unblock
unblock-turned a = either (Turned a) a.slots.backpressure (set_backpressure false a) a (λ e. backpressure-turned false a) (λ e. inl (refl, refl))

enqueued-turned : (halves : Halves) (a : Acts) → Turned a (enqueued halves a)
unfolding enqueued
enqueued-turned halves a = either (Turned a) (differs (not halves.should_pull) a.slots.backpressure) (set_backpressure true a) a (λ e. backpressure-turned true a) (λ e. inl (refl, refl))

pull-turned : (u : Use) (a : Acts) → Turned a (source_pull u a)
unfolding source_pull set_backpressure
pull-turned u a = inr refl

module _ (me : TransformId) where
  write-turned : (u : Use) (a : Acts) → Turned a (sink_write me u a)
  unfolding sink_write
  write-turned u a = either (Turned a) a.slots.backpressure (wait_for_change me u a) (perform_transform me u a) (λ e. inl (refl, refl)) (λ e. inl (refl, refl))

  goes_on-turned : (halves : Halves) (d : PromiseId) (a : Acts) (state : WritableState) → Turned a (write_in me halves d a state)
  goes_on-turned halves d a IsWritable = inl (refl, refl)
  goes_on-turned halves d a Erroring = inl (refl, refl)
  goes_on-turned halves d a WritableErrored = inl (refl, refl)
  goes_on-turned halves d a WritableClosed = inl (refl, refl)

  finish-turned : (call : HostCall) (step : PromiseId → Step) (u : Use) (a : Acts) (finish : Option PromiseId) → Turned a (finish_by call step u a finish)
  finish-turned call step u a None = inl (refl, refl)
  finish-turned call step u a (Some p) = inl (refl, refl)

  flushed-turned : (p : PromiseId) (halves : Halves) (a : Acts) (state : ReadableState) → Turned a (flushed_in p halves a state)
  flushed-turned p halves a IsReadable = inl (refl, refl)
  flushed-turned p halves a ReadableClosed = inl (refl, refl)
  flushed-turned p halves a ReadableErrored = inl (refl, refl)

  aborted-turned : (p : PromiseId) (halves : Halves) (r : Plain) (a : Acts) (state : ReadableState) → Turned a (aborted_in p halves r a state)
  aborted-turned p halves r a IsReadable = inl (refl, refl)
  aborted-turned p halves r a ReadableClosed = inl (refl, refl)
  aborted-turned p halves r a ReadableErrored = inl (refl, refl)

  cancelled-turned : (p : PromiseId) (halves : Halves) (r : Plain) (a : Acts) (state : WritableState) → Turned a (cancelled_in me p halves r a state)
  cancelled-turned p halves r a IsWritable = inl (refl, refl)
  cancelled-turned p halves r a Erroring = inl (refl, refl)
  cancelled-turned p halves r a WritableErrored = inl (refl, refl)
  cancelled-turned p halves r a WritableClosed = inl (refl, refl)

  operation-turned : (halves : Halves) (operation : TransformOperation) (a : Acts) → Turned a (transform_operation me halves operation a)
  unfolding transform_error terminate enqueue transform_chunk write_goes_on sink_close sink_abort source_cancel flush_settled abort_settled cancel_settled
  operation-turned halves (names.SinkWrite u) a = write-turned u a
  operation-turned halves (names.WriteGoesOn d) a = goes_on-turned halves d a halves.writable_state
  operation-turned halves (names.TransformChunk v d) a = inl (refl, refl)
  operation-turned halves (names.Enqueue v) a = inl (refl, refl)
  operation-turned halves names.Enqueued a = enqueued-turned halves a
  operation-turned halves (names.Error e) a = inl (refl, refl)
  operation-turned halves names.Unblock a = unblock-turned a
  operation-turned halves names.Terminate a = inl (refl, refl)
  operation-turned halves (names.SourcePull u) a = pull-turned u a
  operation-turned halves (names.SinkClose u) a = finish-turned _ (TransformFlushed me) u a a.slots.finish
  operation-turned halves (names.SinkAbort r u) a = finish-turned _ (λ p. TransformAborted me p r) u a a.slots.finish
  operation-turned halves (names.SourceCancel r u) a = finish-turned _ (λ p. TransformCancelled me p r) u a a.slots.finish
  operation-turned halves (names.FlushSettled p (Ok v)) a = flushed-turned p halves a halves.readable_state
  operation-turned halves (names.FlushSettled p (Err e)) a = inl (refl, refl)
  operation-turned halves (names.AbortSettled p r (Ok v)) a = aborted-turned p halves r a halves.readable_state
  operation-turned halves (names.AbortSettled p r (Err e)) a = inl (refl, refl)
  operation-turned halves (names.CancelSettled p r (Ok v)) a = cancelled-turned p halves r a halves.writable_state
  operation-turned halves (names.CancelSettled p r (Err e)) a = inl (refl, refl)

-- the places of transform streams

pub place-same : (ts : List Slots) (k : ℕ) (x y : Slots) → slice_get ts k ≡ Some x → slice_get (slice_set ts k y) k ≡ Some y
place-same [] k x y e = cc
place-same (t ∷ ts) zero x y e = refl
place-same (t ∷ ts) (suc k) x y e = place-same ts k x y e

-- after an effect
pub record Turns (t : TransformId) (x : Slots) (s z : realm.Slots) : Type 0 where
  pub after : Slots
  pub there : slice_get z.transforms t.0 ≡ Some after
  pub turned : ((after.change ≡ x.change) × (after.backpressure ≡ x.backpressure)) ⊎ (z.promises ≡ fresh (settle x.change done s.promises))

kept : (t : TransformId) (x : Slots) (s z : realm.Slots) → z.transforms ≡ s.transforms → slice_get s.transforms t.0 ≡ Some x → Turns t x s z
kept t x s z e there = record { after = x; there = ap (λ (ts : List Slots). slice_get ts t.0) e ∙ there; turned = inl (refl, refl) }

transform-turns : (t u : TransformId) (operation : TransformOperation) (x : Slots) (s : realm.Slots) (o : Option Slots) (same : Bool) → same ≡ nat_eq t.0 u.0 → slice_get s.transforms u.0 ≡ o → slice_get s.transforms t.0 ≡ Some x
    → Turns t x s (on_transform_at (λ halves. transform_operation u halves operation) u s o).slots
transform-turns t u operation x s None same e at there = kept t x s s refl there
transform-turns t u operation x s (Some y) true e at there =
    let is : t.0 ≡ u.0 = eq_numbers t.0 u.0 (sym e) in
    let a : Acts = record { slots = y; out = found s } in
    let b : Acts = transform_operation u (halves_at y s) operation a in
    let was : ◌≡◌ {A = Option Slots} (Some y) (Some x) = sym at ∙ (ap (slice_get s.transforms) (sym is) ∙ there) in
    let same : y ≡ x = cc in
    record { after = b.slots; there = rw is (place-same s.transforms u.0 y b.slots at); turned = rw (← same) (operation-turned u (halves_at y s) operation a) }
transform-turns t u operation x s (Some y) false e at there =
    let a : Acts = record { slots = y; out = found s } in
    let b : Acts = transform_operation u (halves_at y s) operation a in
    record { after = x; there = slice_get-set_other s.transforms u.0 t.0 b.slots (λ i. unequal_numbers t.0 u.0 (sym e) (sym i)) ∙ there; turned = inl (refl, refl) }

pub pipe-transforms : (p : PipeId) (operation : PipeOperation) (s : realm.Slots) (o : Option pipe.Slots) → (on_pipe_at (λ ends. pipe_operation p ends operation) p s o).slots.transforms ≡ s.transforms
pipe-transforms p operation s None = refl
pipe-transforms p operation s (Some x) = refl

pub signal-transforms : (a : SignalId) (operation : SignalOperation) (s : realm.Slots) (o : Option pipe.Signal) → (on_signal_at (signal_operation operation) a s o).slots.transforms ≡ s.transforms
signal-transforms a operation s None = refl
signal-transforms a operation s (Some x) = refl

pub tee-transforms : (u : TeeId) (operation : TeeOperation) (s : realm.Slots) (o : Option tee.Slots) → (on_tee_at (tee_operation u operation) u s o).slots.transforms ≡ s.transforms
tee-transforms u operation s None = refl
tee-transforms u operation s (Some x) = refl

pub port-transforms : (u : PortId) (operation : PortOperation) (s : realm.Slots) (o : Option cross.Slots) → (on_port_at (λ clones. port_operation u clones operation) u s o).slots.transforms ≡ s.transforms
port-transforms u operation s None = refl
port-transforms u operation s (Some x) = refl

pub row-turns : (t : TransformId) (e : Effect) (x : Slots) (s : realm.Slots) → slice_get s.transforms t.0 ≡ Some x → Turns t x s (row e s).slots
unfolding row call_host
row-turns t (OnReadable i operation) x s there = kept t x s _ (source-leaves (λ z. z.transforms) (λ z y o. refl) i operation s) there
row-turns t (Byte i operation) x s there = kept t x s _ (byte-leaves (λ z. z.transforms) (λ z y o. refl) i operation s) there
row-turns t (OnWritable i operation) x s there =
    either (λ (d : Done). Turns t x s d.slots) (has_writable i s) (put_writable i s (writable_operation i operation (writable_acts i s))) (nothing s) (λ e. kept t x s _ refl there) (λ e. kept t x s s refl there)
row-turns t (OnPipe p operation) x s there = kept t x s _ (pipe-transforms p operation s (slice_get s.pipes p.0)) there
row-turns t (OnSignal a operation) x s there = kept t x s _ (signal-transforms a operation s (slice_get s.signals a.0)) there
row-turns t (OnTransform u operation) x s there = transform-turns t u operation x s (slice_get s.transforms u.0) (nat_eq t.0 u.0) refl refl there
row-turns t (OnTee u operation) x s there = kept t x s _ (tee-transforms u operation s (slice_get s.tees u.0)) there
row-turns t (OnPort u operation) x s there = kept t x s _ (port-transforms u operation s (slice_get s.ports u.0)) there
row-turns t (StartAlgorithm i step Now) x s there = kept t x s _ refl there
row-turns t (StartAlgorithm i step Later) x s there = kept t x s _ refl there
row-turns t (ChunkSteps i (Promise p) v) x s there = kept t x s _ refl there
row-turns t (CloseSteps i (Promise p)) x s there = kept t x s _ refl there
row-turns t (CloseStepsWith i (Promise p) b) x s there = kept t x s _ refl there
row-turns t (ErrorSteps i (Promise p) e) x s there = kept t x s _ refl there
row-turns t (ChunkSteps i (PipeRequest p) v) x s there = kept t x s _ refl there
row-turns t (ChunkSteps i (TeeRequest k) v) x s there = kept t x s _ refl there
row-turns t (CloseSteps i (PipeRequest p)) x s there = kept t x s _ refl there
row-turns t (CloseSteps i (TeeRequest k)) x s there = kept t x s _ refl there
row-turns t (CloseStepsWith i (PipeRequest p) b) x s there = kept t x s _ refl there
row-turns t (CloseStepsWith i (TeeRequest k) b) x s there = kept t x s _ refl there
row-turns t (ErrorSteps i (PipeRequest p) e) x s there = kept t x s _ refl there
row-turns t (ErrorSteps i (TeeRequest k) e) x s there = kept t x s _ refl there
row-turns t _ x s there = kept t x s _ refl there
