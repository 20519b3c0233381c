-- What an operation of a transform stream does outside its record: it makes promises, settles the change promise, and causes operations of
-- its two halves and of its own, calls of the host's algorithms, and what is done with promises.
use Rattle.std.proofs.Common.{◌≡◌, Bool, true, false, not, List, Option, Some, None, Result, Ok, Err, refl, arith}
use Rattle.ws_value.specs.declared.ids.PromiseId.{PromiseId}
use Rattle.ws_value.specs.declared.ids.StreamId.{StreamId}
use Rattle.ws_value.specs.declared.value.Plain.{Plain}
use Rattle.ws_value.specs.declared.value.Value.{Value}
use Rattle.ws_steps.specs.declared.calls.HostCall.{HostCall}
use Rattle.ws_steps.specs.declared.calls.HostCall.TheVariants.{Transform as HostTransform, Flush as HostFlush, CancelTransform as HostCancelTransform}
use Rattle.ws_steps.specs.declared.effects.Effect.{Effect}
use Rattle.ws_steps.specs.declared.effects.Effect.TheVariants.{Readable, Writable, Transform, Give, Settle, CallHost}
use Rattle.ws_steps.specs.declared.effects.Use.{Use}
use Rattle.ws_steps.specs.declared.promises.Step.{Step}
use Rattle.ws_steps.specs.declared.promises.Step.TheVariants.{TransformFlushed, TransformAborted, TransformCancelled}
use Rattle.ws_steps.specs.declared.readable.ReadableOperation.TheVariants.{Enqueue, Close, Error}
use Rattle.ws_steps.specs.declared.readable.ReadableState.{ReadableState}
use Rattle.ws_steps.specs.declared.readable.ReadableState.TheVariants.{Readable as IsReadable, Closed as ReadableClosed, Errored as ReadableErrored}
use Rattle.ws_steps.specs.declared.transform.Halves.{Halves}
use Rattle.ws_steps.specs.declared.transform.Kind.{Kind}
use Rattle.ws_steps.specs.declared.transform.Taker.TheVariants.{ToTransform}
use Rattle.ws_steps.specs.declared.transform.TransformId.{TransformId}
use Rattle.ws_steps.specs.declared.transform.TransformOperation.{TransformOperation}
use Rattle.ws_steps.specs.declared.transform.TransformOperation.TheVariants as names
use Rattle.ws_steps.specs.declared.writable.WritableOperation.TheVariants.{ErrorIfNeeded, HandOn}
use Rattle.ws_steps.specs.declared.writable.WritableState.{WritableState}
use Rattle.ws_steps.specs.declared.writable.WritableState.TheVariants.{Writable as IsWritable, Erroring, Errored as WritableErrored, Closed as WritableClosed}
use Rattle.ws_steps.specs.Operations.{transform_operation}
use Rattle.ws_steps.specs.Promises.{Table, fresh, settle}
use Rattle.ws_steps.specs.Transform.{Slots, Acts, set_backpressure, unblock, differs, transform_error, terminate, enqueue, enqueued, transform_chunk, perform_transform, wait_for_change, sink_write, write_in, write_goes_on, source_pull, finish_by, sink_close, sink_abort, source_cancel, flushed_in, flush_settled, aborted_in, abort_settled, cancelled_in, cancel_settled, transform_by}
use Rattle.ws_laws.proofs.Lists.{Each, each-append}
use Rattle.ws_laws.proofs.Tables.{either}

-- the host's algorithms of a transform stream with this readable half
abbrev pub IsCallOf : StreamId → HostCall → Type 0
IsCallOf readable (HostTransform i v) = i ≡ readable
IsCallOf readable (HostFlush i) = i ≡ readable
IsCallOf readable (HostCancelTransform i r) = i ≡ readable
IsCallOf readable call = ⊥

-- what a transform stream with these halves may cause
abbrev pub TransformCauses : TransformId → StreamId → StreamId → Effect → Type 0
TransformCauses me writable readable (Readable i (Enqueue v)) = i ≡ readable
TransformCauses me writable readable (Readable i Close) = i ≡ readable
TransformCauses me writable readable (Readable i (Error e)) = i ≡ readable
TransformCauses me writable readable (Readable i operation) = ⊥
TransformCauses me writable readable (Writable i (ErrorIfNeeded e)) = i ≡ writable
TransformCauses me writable readable (Writable i (HandOn (ToTransform t d))) = (i ≡ writable) × (t ≡ me)
TransformCauses me writable readable (Writable i operation) = ⊥
TransformCauses me writable readable (Transform t names.Enqueued) = t ≡ me
TransformCauses me writable readable (Transform t names.Unblock) = t ≡ me
TransformCauses me writable readable (Transform t operation) = ⊥
TransformCauses me writable readable (Give gift u) = Unit {0}
TransformCauses me writable readable (Settle p o) = Unit {0}
TransformCauses me writable readable (CallHost call u) = IsCallOf readable call
TransformCauses me writable readable _ = ⊥

module _ (me : TransformId) where
  abbrev All : Slots → List Effect → Type 0
  All x es = Each (TransformCauses me x.writable x.readable) es

  -- the effects after an operation are such, and the halves and whose algorithms it performs are the same
  abbrev pub Causes : Acts → Acts → Type 0
  Causes a b =
      All a.slots a.out.effects
      → (b.slots.kind ≡ a.slots.kind) × ((b.slots.writable ≡ a.slots.writable) × ((b.slots.readable ≡ a.slots.readable) × All a.slots b.out.effects))

  backpressure-causes : (b : Bool) (a : Acts) → Causes a (set_backpressure b a)
  unfolding set_backpressure
  backpressure-causes b a = grind arith

  unblock-causes : (a : Acts) → Causes a (unblock a)
  unfolding unblock
  unblock-causes a = grind (arith, backpressure-causes)

  enqueued-causes : (halves : Halves) (a : Acts) → Causes a (enqueued halves a)
  unfolding enqueued
  enqueued-causes halves a = grind (arith, backpressure-causes)

  chunk-causes : (halves : Halves) (v : Value) (d : PromiseId) (a : Acts) (kind : Kind) → All a.slots (transform_by me halves v d a kind)
  chunk-causes halves v d a kind = grind arith

  perform-causes : (u : Use) (a : Acts) → Causes a (perform_transform me u a)
  perform-causes u a = grind (arith, each-append)

  wait-causes : (u : Use) (a : Acts) → Causes a (wait_for_change me u a)
  wait-causes u a = grind (arith, each-append)

  write-causes : (u : Use) (a : Acts) → Causes a (sink_write me u a)
  unfolding sink_write
  write-causes u a = grind (arith, perform-causes, wait-causes)

  goes_on-causes : (halves : Halves) (d : PromiseId) (a : Acts) (state : WritableState) → Causes a (write_in me halves d a state)
  goes_on-causes halves d a state = grind (arith, each-append, perform-causes)

  pull-causes : (u : Use) (a : Acts) → Causes a (source_pull u a)
  unfolding source_pull set_backpressure
  pull-causes u a = grind (arith, each-append)

  finish-causes : (call : HostCall) (step : PromiseId → Step) (u : Use) (a : Acts) (finish : Option PromiseId) → IsCallOf a.slots.readable call → Causes a (finish_by call step u a finish)
  finish-causes call step u a finish is = grind (arith, each-append, is)

  flushed-causes : (p : PromiseId) (halves : Halves) (a : Acts) (state : ReadableState) → Causes a (flushed_in p halves a state)
  flushed-causes p halves a state = grind (arith, each-append)

  aborted-causes : (p : PromiseId) (halves : Halves) (r : Plain) (a : Acts) (state : ReadableState) → Causes a (aborted_in p halves r a state)
  aborted-causes p halves r a state = grind (arith, each-append)

  cancelled-causes : (p : PromiseId) (halves : Halves) (r : Plain) (a : Acts) (state : WritableState) → Causes a (cancelled_in me p halves r a state)
  cancelled-causes p halves r a state = grind (arith, each-append)

  pub transform-causes : (halves : Halves) (operation : TransformOperation) (a : Acts) → Causes a (transform_operation me halves operation a)
  unfolding transform_error terminate enqueue transform_chunk write_goes_on sink_close sink_abort source_cancel flush_settled abort_settled cancel_settled
  transform-causes halves (names.SinkWrite u) a = write-causes u a
  transform-causes halves (names.WriteGoesOn d) a = goes_on-causes halves d a halves.writable_state
  transform-causes halves (names.TransformChunk v d) a = let h = chunk-causes halves v d a a.slots.kind in grind (arith, each-append, h)
  transform-causes halves (names.Enqueue v) a = grind (arith, each-append)
  transform-causes halves names.Enqueued a = enqueued-causes halves a
  transform-causes halves (names.Error e) a = grind (arith, each-append)
  transform-causes halves names.Unblock a = unblock-causes a
  transform-causes halves names.Terminate a = grind (arith, each-append)
  transform-causes halves (names.SourcePull u) a = pull-causes u a
  transform-causes halves (names.SinkClose u) a = finish-causes _ (TransformFlushed me) u a a.slots.finish refl
  transform-causes halves (names.SinkAbort r u) a = finish-causes _ (λ p. TransformAborted me p r) u a a.slots.finish refl
  transform-causes halves (names.SourceCancel r u) a = finish-causes _ (λ p. TransformCancelled me p r) u a a.slots.finish refl
  transform-causes halves (names.FlushSettled p (Ok v)) a = flushed-causes p halves a halves.readable_state
  transform-causes halves (names.FlushSettled p (Err e)) a = grind (arith, each-append)
  transform-causes halves (names.AbortSettled p r (Ok v)) a = aborted-causes p halves r a halves.readable_state
  transform-causes halves (names.AbortSettled p r (Err e)) a = grind (arith, each-append)
  transform-causes halves (names.CancelSettled p r (Ok v)) a = cancelled-causes p halves r a halves.writable_state
  transform-causes halves (names.CancelSettled p r (Err e)) a = grind (arith, each-append)

-- what goes on with each new promise and with each settling goes on with each operation
pub record OfTransform (T : Table → Type 0) : Type 0 where
  pub fresh : (t : Table) → T t → T (fresh t)
  pub settle : (t : Table) (p : PromiseId) (o : Result Plain Plain) → T t → T (settle p o t)

module _ (T : Table → Type 0) (of : OfTransform T) where
  abbrev Does : Acts → Acts → Type 0
  Does a b = T a.out.promises → T b.out.promises

  backpressure-does : (b : Bool) (a : Acts) → Does a (set_backpressure b a)
  unfolding set_backpressure
  backpressure-does b a h = of.fresh _ (of.settle a.out.promises a.slots.change _ h)

  unblock-does : (a : Acts) → Does a (unblock a)
  unfolding unblock
  unblock-does a h = either (λ (z : Acts). T z.out.promises) a.slots.backpressure (set_backpressure false a) a (λ e. backpressure-does false a h) (λ e. h)

  enqueued-does : (halves : Halves) (a : Acts) → Does a (enqueued halves a)
  unfolding enqueued
  enqueued-does halves a h =
      either (λ (z : Acts). T z.out.promises) (differs (not halves.should_pull) a.slots.backpressure) (set_backpressure true a) a (λ e. backpressure-does true a h) (λ e. h)

  write-does : (u : Use) (me : TransformId) (a : Acts) → Does a (sink_write me u a)
  unfolding sink_write
  write-does u me a h =
      either (λ (z : Acts). T z.out.promises) a.slots.backpressure (wait_for_change me u a) (perform_transform me u a) (λ e. of.fresh a.out.promises h) (λ e. of.fresh a.out.promises h)

  goes_on-does : (halves : Halves) (d : PromiseId) (me : TransformId) (a : Acts) (state : WritableState) → Does a (write_in me halves d a state)
  goes_on-does halves d me a IsWritable h = of.fresh a.out.promises h
  goes_on-does halves d me a Erroring h = h
  goes_on-does halves d me a WritableErrored h = of.fresh a.out.promises h
  goes_on-does halves d me a WritableClosed h = of.fresh a.out.promises h

  finish-does : (call : HostCall) (step : PromiseId → Step) (u : Use) (a : Acts) (finish : Option PromiseId) → Does a (finish_by call step u a finish)
  finish-does call step u a None h = of.fresh a.out.promises h
  finish-does call step u a (Some p) h = h

  flushed-does : (p : PromiseId) (halves : Halves) (a : Acts) (state : ReadableState) → Does a (flushed_in p halves a state)
  flushed-does p halves a IsReadable h = h
  flushed-does p halves a ReadableClosed h = h
  flushed-does p halves a ReadableErrored h = h

  aborted-does : (p : PromiseId) (halves : Halves) (r : Plain) (a : Acts) (state : ReadableState) → Does a (aborted_in p halves r a state)
  aborted-does p halves r a IsReadable h = h
  aborted-does p halves r a ReadableClosed h = h
  aborted-does p halves r a ReadableErrored h = h

  cancelled-does : (p : PromiseId) (halves : Halves) (r : Plain) (me : TransformId) (a : Acts) (state : WritableState) → Does a (cancelled_in me p halves r a state)
  cancelled-does p halves r me a IsWritable h = h
  cancelled-does p halves r me a Erroring h = h
  cancelled-does p halves r me a WritableErrored h = h
  cancelled-does p halves r me a WritableClosed h = h

  pub transform-does : (me : TransformId) (halves : Halves) (operation : TransformOperation) (a : Acts) → Does a (transform_operation me halves operation a)
  unfolding transform_error terminate enqueue transform_chunk write_goes_on source_pull sink_close sink_abort source_cancel flush_settled abort_settled cancel_settled
  transform-does me halves (names.SinkWrite u) a h = write-does u me a h
  transform-does me halves (names.WriteGoesOn d) a h = goes_on-does halves d me a halves.writable_state h
  transform-does me halves (names.TransformChunk v d) a h = h
  transform-does me halves (names.Enqueue v) a h = h
  transform-does me halves names.Enqueued a h = enqueued-does halves a h
  transform-does me halves (names.Error e) a h = h
  transform-does me halves names.Unblock a h = unblock-does a h
  transform-does me halves names.Terminate a h = h
  transform-does me halves (names.SourcePull u) a h = backpressure-does false a h
  transform-does me halves (names.SinkClose u) a h = finish-does (HostFlush a.slots.readable) (TransformFlushed me) u a a.slots.finish h
  transform-does me halves (names.SinkAbort r u) a h = finish-does (HostCancelTransform a.slots.readable r) (λ p. TransformAborted me p r) u a a.slots.finish h
  transform-does me halves (names.SourceCancel r u) a h = finish-does (HostCancelTransform a.slots.readable r) (λ p. TransformCancelled me p r) u a a.slots.finish h
  transform-does me halves (names.FlushSettled p (Ok v)) a h = flushed-does p halves a halves.readable_state h
  transform-does me halves (names.FlushSettled p (Err e)) a h = h
  transform-does me halves (names.AbortSettled p r (Ok v)) a h = aborted-does p halves r a halves.readable_state h
  transform-does me halves (names.AbortSettled p r (Err e)) a h = h
  transform-does me halves (names.CancelSettled p r (Ok v)) a h = cancelled-does p halves r me a halves.writable_state h
  transform-does me halves (names.CancelSettled p r (Err e)) a h = h
