-- The abstract operations of a transform stream. Each is a function of its slots, of what it looks at of its two halves, and of what it
-- leaves outside them: the promises, and the effects that it causes, in order. `me` is the transform stream's own number, by which an
-- effect names it. Where the standard goes on after it did something to a half, the rest is an operation of its own.
use Rattle.std.specs.Prelude.{Bool, true, false, not, List, [], ◌∷◌, if◌then◌else◌, Option, Some, None, Result, Ok, Err}
use Rattle.ws_value.specs.declared.ids.PromiseId.{PromiseId}
use Rattle.ws_value.specs.declared.ids.StreamId.{StreamId}
use Rattle.ws_value.specs.declared.value.Plain.{Plain}
use Rattle.ws_value.specs.declared.value.Plain.TheVariants.{Undefined}
use Rattle.ws_value.specs.declared.value.Value.{Value}
use Rattle.ws_steps.specs.declared.calls.HostCall.{HostCall}
use Rattle.ws_steps.specs.declared.calls.HostCall.TheVariants.{Transform as HostTransform, Flush as HostFlush, CancelTransform as HostCancelTransform}
use Rattle.ws_steps.specs.declared.effects.Effect.{Effect}
use Rattle.ws_steps.specs.declared.effects.Effect.TheVariants.{Readable as OnReadable, Writable as OnWritable, Transform as OnTransform, Give, Settle, CallHost}
use Rattle.ws_steps.specs.declared.effects.Gift.TheVariants.{This, Fresh}
use Rattle.ws_steps.specs.declared.effects.Use.{Use}
use Rattle.ws_steps.specs.declared.effects.Use.TheVariants.{React, Resolve}
use Rattle.ws_steps.specs.declared.promises.Step.{Step}
use Rattle.ws_steps.specs.declared.promises.Step.TheVariants.{TransformChanged, Transformed, TransformFlushed, TransformAborted, TransformCancelled}
use Rattle.ws_steps.specs.declared.readable.ReadableOperation.TheVariants.{Enqueue as EnqueueChunk, Close as CloseReadable, Error as ErrorReadable}
use Rattle.ws_steps.specs.declared.readable.ReadableState.{ReadableState}
use Rattle.ws_steps.specs.declared.readable.ReadableState.TheVariants.{Readable, Closed, Errored}
use Rattle.ws_steps.specs.declared.transform.Halves.{Halves}
use Rattle.ws_steps.specs.declared.transform.Kind.{Kind}
use Rattle.ws_steps.specs.declared.transform.Kind.TheVariants.{Identity, Host}
use Rattle.ws_steps.specs.declared.transform.Taker.TheVariants.{ToTransform}
use Rattle.ws_steps.specs.declared.transform.TransformId.{TransformId}
use Rattle.ws_steps.specs.declared.transform.TransformOperation.TheVariants.{Enqueued, Unblock}
use Rattle.ws_steps.specs.declared.writable.WritableOperation.TheVariants.{ErrorIfNeeded, HandOn}
use Rattle.ws_steps.specs.declared.writable.WritableState.{WritableState}
use Rattle.ws_steps.specs.declared.writable.WritableState.TheVariants.{Writable, Erroring, Errored as WritableErrored, Closed as WritableClosed}
use Rattle.ws_steps.specs.Promises.{next_id, fresh}
use Rattle.ws_steps.specs.Effects.{Out, cause_all, settling, type_error}

-- the slots of a transform stream
pub record Slots : Type 0 where
  pub kind : Kind
  pub writable : StreamId
  pub readable : StreamId
  pub backpressure : Bool
  -- [[backpressureChangePromise]], which is fulfilled once the backpressure changes
  pub change : PromiseId
  -- the controller's [[finishPromise]], from the flush or the cancel on
  pub finish : Option PromiseId

-- what an operation changes
pub record Acts : Type 0 where
  pub slots : Slots
  pub out : Out

-- InitializeTransformStream: there is backpressure, and the change promise is new
abbrev pub set_up : Kind → StreamId → StreamId → PromiseId → Slots
set_up kind writable readable change =
    record { kind = kind; writable = writable; readable = readable; backpressure = true; change = change; finish = None }

-- effects after the others
abbrev pub causing : List Effect → Acts → Acts
causing effects a = record a { out = cause_all effects a.out }

abbrev pub with_slots : Slots → Acts → Acts
with_slots s a = record a { slots = s }

-- something is done with a new promise
abbrev pub with_fresh : (PromiseId → Acts → Acts) → Acts → Acts
with_fresh operation a = operation (next_id a.out.promises) (record a { out = record a.out { promises = fresh a.out.promises } })

-- a result that is undefined
abbrev pub done : Result Plain Plain
done = Ok Undefined

-- backpressure

-- TransformStreamSetBackpressure: fulfil the change promise. It becomes a new one. The backpressure is this from now on
unfoldable pub set_backpressure : Bool → Acts → Acts
set_backpressure b a =
    with_fresh
    (λ change now. with_slots (record now.slots { change = change; backpressure = b }) now)
    (record a { out = settling a.slots.change done a.out })

-- TransformStreamUnblockWrite: where there is backpressure, there is none from now on
unfoldable pub unblock : Acts → Acts
unblock a = if a.slots.backpressure then set_backpressure false a else a

-- errors

-- TransformStreamErrorWritableAndUnblockWrite: WritableStreamDefaultControllerErrorIfNeeded on the writable half, and then unblock
abbrev pub error_writable_and_unblock : TransformId → Plain → Acts → List Effect
error_writable_and_unblock me e a = OnWritable a.slots.writable (ErrorIfNeeded e) ∷ OnTransform me Unblock ∷ []

-- TransformStreamError: ReadableStreamDefaultControllerError on the readable half, and then TransformStreamErrorWritableAndUnblockWrite
unfoldable pub transform_error : TransformId → Plain → Acts → Acts
transform_error me e a = causing (OnReadable a.slots.readable (ErrorReadable e) ∷ error_writable_and_unblock me e a) a

-- TransformStreamDefaultControllerTerminate: ReadableStreamDefaultControllerClose on the readable half, and then
-- TransformStreamErrorWritableAndUnblockWrite with a TypeError
unfoldable pub terminate : TransformId → Acts → Acts
terminate me a = causing (OnReadable a.slots.readable CloseReadable ∷ error_writable_and_unblock me type_error a) a

-- enqueuing

-- TransformStreamDefaultControllerEnqueue, of a chunk that the readable half can take: ReadableStreamDefaultControllerEnqueue on the
-- readable half, and then `enqueued`
abbrev pub enqueuing : TransformId → Value → Acts → List Effect
enqueuing me v a = OnReadable a.slots.readable (EnqueueChunk v) ∷ OnTransform me Enqueued ∷ []

unfoldable pub enqueue : TransformId → Value → Acts → Acts
enqueue me v a = causing (enqueuing me v a) a

abbrev pub differs : Bool → Bool → Bool
differs true b = not b
differs false b = b

-- the rest of it. ReadableStreamDefaultControllerHasBackpressure: whether the readable half shouldn't pull. Where that differs from the
-- backpressure, there is backpressure from now on
unfoldable pub enqueued : Halves → Acts → Acts
enqueued halves a = if differs (not halves.should_pull) a.slots.backpressure then set_backpressure true a else a

-- the transform algorithm

-- the promise that the transform algorithm gives: the transform stream reacts to it, and this promise is the result
abbrev pub transformed_by : TransformId → PromiseId → Use
transformed_by me d = React (Transformed me) (Some d)

-- the identity's transform algorithm enqueues the chunk; its promise is resolved with undefined, or rejected with what the enqueue
-- throws
abbrev pub transform_identity : TransformId → Value → PromiseId → Acts → Bool → List Effect
transform_identity me v d a true =
    OnReadable a.slots.readable (EnqueueChunk v) ∷ OnTransform me Enqueued ∷ Give (Fresh done) (transformed_by me d) ∷ []
transform_identity me v d a false = Give (Fresh (Err type_error)) (transformed_by me d) ∷ []

abbrev pub transform_by : TransformId → Halves → Value → PromiseId → Acts → Kind → List Effect
transform_by me halves v d a Identity = transform_identity me v d a halves.can_enqueue
transform_by me halves v d a Host = CallHost (HostTransform a.slots.readable v) (transformed_by me d) ∷ []

-- perform the transform algorithm with the chunk that was handed on
unfoldable pub transform_chunk : TransformId → Halves → Value → PromiseId → Acts → Acts
transform_chunk me halves v d a = causing (transform_by me halves v d a a.slots.kind) a

-- TransformStreamDefaultControllerPerformTransform: the chunk that is first in the queue of the writable half is handed on to the transform
-- algorithm. The result, which is the result of the reaction to its promise, is new
abbrev pub perform_transform : TransformId → Use → Acts → Acts
perform_transform me u a =
    with_fresh (λ d. causing (OnWritable a.slots.writable (HandOn (ToTransform me d)) ∷ Give (This d) u ∷ [])) a

-- where there is backpressure, the result is that of reacting to the change promise, which is new
abbrev pub wait_for_change : TransformId → Use → Acts → Acts
wait_for_change me u a =
    with_fresh (λ d. causing (Give (This a.slots.change) (React (TransformChanged me d) None) ∷ Give (This d) u ∷ [])) a

-- TransformStreamDefaultSinkWriteAlgorithm: where there is backpressure, wait until it changes; else transform at once
unfoldable pub sink_write : TransformId → Use → Acts → Acts
sink_write me u a = if a.slots.backpressure then wait_for_change me u a else perform_transform me u a

abbrev pub write_in : TransformId → Halves → PromiseId → Acts → WritableState → Acts
write_in me halves d a Writable = perform_transform me (Resolve d) a
write_in me halves d a Erroring = causing (Settle d (Err halves.writable_error) ∷ []) a
write_in me halves d a WritableErrored = perform_transform me (Resolve d) a
write_in me halves d a WritableClosed = perform_transform me (Resolve d) a

-- the change promise was fulfilled: where the writable half is erroring, throw its stored error; else transform, and d is resolved with
-- the result
unfoldable pub write_goes_on : TransformId → Halves → PromiseId → Acts → Acts
write_goes_on me halves d a = write_in me halves d a halves.writable_state

-- the algorithms of the two halves

-- TransformStreamDefaultSourcePullAlgorithm: there is no backpressure from now on. The result is the change promise, which is new
unfoldable pub source_pull : Use → Acts → Acts
source_pull u a = let b : Acts = set_backpressure false a in causing (Give (This b.slots.change) u ∷ []) b

-- the flush and the cancel algorithm: the identity's give a promise resolved with undefined
abbrev pub algorithm : Kind → HostCall → Step → Effect
algorithm Identity call step = Give (Fresh done) (React step None)
algorithm Host call step = CallHost call (React step None)

abbrev pub finish_by : HostCall → (PromiseId → Step) → Use → Acts → Option PromiseId → Acts
finish_by call step u a (Some p) = causing (Give (This p) u ∷ []) a
finish_by call step u a None =
    with_fresh
    (λ p now. causing (algorithm now.slots.kind call (step p) ∷ Give (This p) u ∷ []) (with_slots (record now.slots { finish = Some p }) now))
    a

-- TransformStreamDefaultSinkCloseAlgorithm: where there is a finish promise, it is the result. Else it becomes a new one, perform the flush
-- algorithm, react to its promise, and the finish promise is the result
unfoldable pub sink_close : TransformId → Use → Acts → Acts
sink_close me u a = finish_by (HostFlush a.slots.readable) (TransformFlushed me) u a a.slots.finish

-- TransformStreamDefaultSinkAbortAlgorithm: likewise, with the cancel algorithm
unfoldable pub sink_abort : TransformId → Plain → Use → Acts → Acts
sink_abort me r u a = finish_by (HostCancelTransform a.slots.readable r) (λ p. TransformAborted me p r) u a a.slots.finish

-- TransformStreamDefaultSourceCancelAlgorithm: likewise, with the cancel algorithm
unfoldable pub source_cancel : TransformId → Plain → Use → Acts → Acts
source_cancel me r u a = finish_by (HostCancelTransform a.slots.readable r) (λ p. TransformCancelled me p r) u a a.slots.finish

-- the ends of these. `p` is the finish promise

abbrev pub flushed_in : PromiseId → Halves → Acts → ReadableState → Acts
flushed_in p halves a Errored = causing (Settle p (Err halves.readable_error) ∷ []) a
flushed_in p halves a Readable = causing (OnReadable a.slots.readable CloseReadable ∷ Settle p done ∷ []) a
flushed_in p halves a Closed = causing (OnReadable a.slots.readable CloseReadable ∷ Settle p done ∷ []) a

-- the reaction to the flush algorithm. On fulfilment: where the readable half is errored, reject the finish promise with its stored error;
-- else ReadableStreamDefaultControllerClose on it, and fulfil the finish promise. On rejection: ReadableStreamDefaultControllerError on the
-- readable half, and reject the finish promise
unfoldable pub flush_settled : PromiseId → Halves → Result Plain Plain → Acts → Acts
flush_settled p halves (Ok v) a = flushed_in p halves a halves.readable_state
flush_settled p halves (Err e) a = causing (OnReadable a.slots.readable (ErrorReadable e) ∷ Settle p (Err e) ∷ []) a

abbrev pub aborted_in : PromiseId → Halves → Plain → Acts → ReadableState → Acts
aborted_in p halves r a Errored = causing (Settle p (Err halves.readable_error) ∷ []) a
aborted_in p halves r a Readable = causing (OnReadable a.slots.readable (ErrorReadable r) ∷ Settle p done ∷ []) a
aborted_in p halves r a Closed = causing (OnReadable a.slots.readable (ErrorReadable r) ∷ Settle p done ∷ []) a

-- the reaction to the cancel algorithm that the abort of the writable half performed. On fulfilment: where the readable half is errored,
-- reject the finish promise with its stored error; else ReadableStreamDefaultControllerError on it with the reason of the abort, and fulfil
-- the finish promise. On rejection: ReadableStreamDefaultControllerError on the readable half, and reject the finish promise
unfoldable pub abort_settled : PromiseId → Halves → Plain → Result Plain Plain → Acts → Acts
abort_settled p halves r (Ok v) a = aborted_in p halves r a halves.readable_state
abort_settled p halves r (Err e) a = causing (OnReadable a.slots.readable (ErrorReadable e) ∷ Settle p (Err e) ∷ []) a

-- TransformStreamErrorWritableAndUnblockWrite, and then the finish promise is settled
abbrev pub error_writable_and_settle : TransformId → PromiseId → Plain → Result Plain Plain → Acts → Acts
error_writable_and_settle me p e outcome a =
    causing (OnWritable a.slots.writable (ErrorIfNeeded e) ∷ OnTransform me Unblock ∷ Settle p outcome ∷ []) a

abbrev pub cancelled_in : TransformId → PromiseId → Halves → Plain → Acts → WritableState → Acts
cancelled_in me p halves r a WritableErrored = causing (Settle p (Err halves.writable_error) ∷ []) a
cancelled_in me p halves r a Writable = error_writable_and_settle me p r done a
cancelled_in me p halves r a Erroring = error_writable_and_settle me p r done a
cancelled_in me p halves r a WritableClosed = error_writable_and_settle me p r done a

-- the reaction to the cancel algorithm that the cancel of the readable half performed. On fulfilment: where the writable half is errored,
-- reject the finish promise with its stored error; else WritableStreamDefaultControllerErrorIfNeeded on it with the reason of the cancel,
-- unblock, and fulfil the finish promise. On rejection: WritableStreamDefaultControllerErrorIfNeeded on the writable half, unblock, and
-- reject the finish promise
unfoldable pub cancel_settled : TransformId → PromiseId → Halves → Plain → Result Plain Plain → Acts → Acts
cancel_settled me p halves r (Ok v) a = cancelled_in me p halves r a halves.writable_state
cancel_settled me p halves r (Err e) a = error_writable_and_settle me p e (Err e) a
