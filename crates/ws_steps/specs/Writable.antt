-- The abstract operations of a writable stream with a default controller and a default writer. Each is a function of the
-- stream's slots and of what it leaves outside them: the promises, and the effects that it causes, in order. `me` is the stream's
-- own number, by which an effect names it.
use Rattle.std.specs.Prelude.{ℕ, Bool, true, false, not, ◌&&◌, ◌||◌, nat_le, is_some, is_none, if◌then◌else◌, List, [], ◌∷◌, ◌++◌, Option, Some, None, Result, Ok, Err}
use Rattle.ws_value.specs.declared.ids.PromiseId.{PromiseId}
use Rattle.ws_value.specs.declared.ids.StreamId.{StreamId}
use Rattle.ws_value.specs.declared.value.Plain.{Plain}
use Rattle.ws_value.specs.declared.value.Plain.TheVariants.{Undefined}
use Rattle.ws_value.specs.declared.value.Value.{Value}
use Rattle.ws_steps.specs.declared.effects.Effect.{Effect}
use Rattle.ws_steps.specs.declared.calls.Event.TheVariants.{Signal}
use Rattle.ws_steps.specs.declared.calls.HostCall.TheVariants.{Write as HostWrite}
use Rattle.ws_steps.specs.declared.effects.Effect.TheVariants.{Transform as OnTransform, Port as OnPort, WriteAlgorithm, CloseAlgorithm, AbortAlgorithm, CallHost}
use Rattle.ws_steps.specs.declared.effects.Owner.{Owner}
use Rattle.ws_steps.specs.declared.effects.Owner.TheVariants.{Host, HalfOf, BranchOf, EndOf}
use Rattle.ws_steps.specs.declared.effects.Use.TheVariants.{React}
use Rattle.ws_steps.specs.declared.port.PortOperation.TheVariants.{PostChunk}
use Rattle.ws_steps.specs.declared.promises.Step.TheVariants.{WritableWrite}
use Rattle.ws_steps.specs.declared.queue.Queued.{Queued}
use Rattle.ws_steps.specs.declared.readable.SizeBy.{SizeBy}
use Rattle.ws_steps.specs.declared.transform.Taker.{Taker}
use Rattle.ws_steps.specs.declared.transform.Taker.TheVariants.{ToHost, ToTransform, ToPort}
use Rattle.ws_steps.specs.declared.transform.TransformOperation.TheVariants.{TransformChunk}
use Rattle.ws_steps.specs.declared.writable.PendingAbort.{PendingAbort}
use Rattle.ws_steps.specs.declared.writable.WritableState.{WritableState}
use Rattle.ws_steps.specs.declared.writable.WritableState.TheVariants.{Writable, Erroring, Errored, Closed}
use Rattle.ws_steps.specs.declared.writable.WriteRecord.{WriteRecord}
use Rattle.ws_steps.specs.declared.writable.WriteRecord.TheVariants.{Chunk, InFlight, CloseMark}
use Rattle.ws_steps.specs.declared.writable.Writer.{Writer}
use Rattle.ws_steps.specs.Promises.{Table, is_pending_at, settle, fresh, fresh_settled, next_id, tell}
use Rattle.ws_steps.specs.Queues.{total_of, enqueued, rest_of, first_value, with_first_value, size_of}
use Rattle.ws_steps.specs.Effects.{Out, cause, type_error}

-- the slots of the stream, of its controller, and of the writer that locks it; and whose algorithms it performs
pub record Slots : Type 0 where
  pub owner : Owner
  pub state : WritableState
  pub stored_error : Plain
  -- the promises of the writer, where there is one
  pub writer : Option Writer
  pub backpressure : Bool
  -- the promises of the writes that aren't in flight
  pub write_requests : List PromiseId
  pub write_in_flight : Option PromiseId
  pub close_request : Option PromiseId
  pub close_in_flight : Option PromiseId
  pub pending_abort : Option PendingAbort
  -- a chunk that was handed on has left its place, with its size, at the front until its write ends
  pub queue : List (Queued WriteRecord)
  pub hwm : ℕ
  pub size_by : SizeBy
  pub started : Bool

-- what an operation changes
pub record Acts : Type 0 where
  pub slots : Slots
  pub out : Out

-- an operation changes the promises, or causes an effect
abbrev pub with_promises : Table → Acts → Acts
with_promises t a = record a { out = record a.out { promises = t } }

abbrev pub causing : Effect → Acts → Acts
causing effect a = record a { out = cause effect a.out }

-- InitializeWritableStream, and SetUpWritableStreamDefaultController: the controller's slots as given, the queue empty, and the
-- backpressure as it is then. The start algorithm is performed once the stream is made
abbrev pub set_up : Owner → ℕ → SizeBy → Slots
set_up owner mark size =
    record {
      owner = owner;
      state = Writable;
      stored_error = Undefined;
      writer = None;
      backpressure = nat_le mark 0;
      write_requests = [];
      write_in_flight = None;
      close_request = None;
      close_in_flight = None;
      pending_abort = None;
      queue = [];
      hwm = mark;
      size_by = size;
      started = false;
    }

abbrev pub is_writable : WritableState → Bool
is_writable Writable = true
is_writable Erroring = false
is_writable Errored = false
is_writable Closed = false

abbrev pub is_erroring : WritableState → Bool
is_erroring Writable = false
is_erroring Erroring = true
is_erroring Errored = false
is_erroring Closed = false

abbrev pub is_errored : WritableState → Bool
is_errored Writable = false
is_errored Erroring = false
is_errored Errored = true
is_errored Closed = false

abbrev pub is_closed : WritableState → Bool
is_closed Writable = false
is_closed Erroring = false
is_closed Errored = false
is_closed Closed = true

-- WritableStreamCloseQueuedOrInFlight: there is a close request, or a close in flight
abbrev pub is_closing : Slots → Bool
is_closing s = is_some s.close_request || is_some s.close_in_flight

-- WritableStreamHasOperationMarkedInFlight: a write or a close is in flight
abbrev pub is_in_flight : Slots → Bool
is_in_flight s = is_some s.write_in_flight || is_some s.close_in_flight

-- WritableStreamDefaultControllerGetBackpressure: the desired size is at most 0
abbrev pub has_backpressure : Slots → Bool
has_backpressure s = nat_le s.hwm (total_of s.queue)

-- a promise is settled where there is one
abbrev pub settle_request : Result Plain Plain → Table → Option PromiseId → Table
settle_request outcome t None = t
settle_request outcome t (Some p) = settle p outcome t

-- promises are rejected in order
abbrev pub reject_all : Plain → List PromiseId → Table → Table
reject_all e [] t = t
reject_all e (p ∷ ps) t = reject_all e ps (settle p (Err e) t)

-- WritableStreamDefaultWriterEnsureReadyPromiseRejected, WritableStreamDefaultWriterEnsureClosedPromiseRejected: where the
-- promise is pending, reject it, and else it becomes a promise rejected with the reason
unfoldable pub ensure_rejected : PromiseId → Plain → Table → Table
ensure_rejected p r t = if is_pending_at p t then settle p (Err r) t else fresh_settled (Err r) t

-- the promise from then on
abbrev pub rejected_promise : PromiseId → Table → PromiseId
rejected_promise p t = if is_pending_at p t then p else next_id t

-- a promise is settled where it is pending
unfoldable pub settle_pending : PromiseId → Result Plain Plain → Table → Table
settle_pending p outcome t = if is_pending_at p t then settle p outcome t else t

-- backpressure

abbrev pub differs : Bool → Bool → Bool
differs true b = not b
differs false b = b

abbrev pub change_ready : Writer → Acts → Bool → Acts
change_ready w a true =
    with_promises (fresh a.out.promises)
    (record a { slots = record a.slots { writer = Some (record w { ready = next_id a.out.promises }) } })
change_ready w a false = with_promises (settle w.ready (Ok Undefined) a.out.promises) a

abbrev pub ready_for : Bool → Acts → Option Writer → Acts
ready_for b a None = a
ready_for b a (Some w) = if differs b a.slots.backpressure then change_ready w a b else a

abbrev pub with_backpressure : Bool → Acts → Acts
with_backpressure b a = record a { slots = record a.slots { backpressure = b } }

-- WritableStreamUpdateBackpressure: where there is a writer and the backpressure changes, its ready promise becomes a new one
-- where there is backpressure from now on, and else it is fulfilled
unfoldable pub update_backpressure : Bool → Acts → Acts
update_backpressure b a = with_backpressure b (ready_for b a a.slots.writer)

-- where the stream isn't closing and is writable, the backpressure is brought up to date
unfoldable pub refresh_backpressure : Acts → Acts
refresh_backpressure a =
    if not (is_closing a.slots) && is_writable a.slots.state then update_backpressure (has_backpressure a.slots) a else a

-- erroring

abbrev pub reject_close : Acts → Option PromiseId → Acts
reject_close a None = a
reject_close a (Some p) =
    with_promises (settle p (Err a.slots.stored_error) a.out.promises) (record a { slots = record a.slots { close_request = None } })

abbrev pub reject_closed : Acts → Option Writer → Acts
reject_closed a None = a
reject_closed a (Some w) =
    with_promises (settle_pending w.closed (Err a.slots.stored_error) a.out.promises) a

-- WritableStreamRejectCloseAndClosedPromiseIfNeeded: where there is a close request, reject it with the stored error and clear
-- it. Where there is a writer whose closed promise is pending, reject that promise with the stored error
unfoldable pub reject_close_and_closed : Acts → Acts
reject_close_and_closed a = let b : Acts = reject_close a a.slots.close_request in reject_closed b b.slots.writer

abbrev pub abort_by : StreamId → PendingAbort → Acts → Bool → Acts
abort_by me abort a true =
    reject_close_and_closed (with_promises (settle abort.promise (Err a.slots.stored_error) a.out.promises) a)
abort_by me abort a false = causing (AbortAlgorithm me abort.reason abort.promise) a

abbrev pub finish_abort : StreamId → Acts → Option PendingAbort → Acts
finish_abort me a None = reject_close_and_closed a
finish_abort me a (Some abort) =
    abort_by me abort (record a { slots = record a.slots { pending_abort = None } }) abort.was_already_erroring

abbrev pub fail_writes : Acts → Acts
fail_writes a =
    with_promises (reject_all a.slots.stored_error a.slots.write_requests a.out.promises)
    (record a { slots = record a.slots { state = Errored; queue = []; write_requests = [] } })

-- WritableStreamFinishErroring: the stream is errored. Reset the queue. Reject the write requests with the stored error, in
-- order. Where an abort is pending, take it: where it was already erroring, reject its promise with the stored error; else
-- perform the abort algorithm with its reason. Where it isn't performed, reject the close request and the closed promise
unfoldable pub finish_erroring : StreamId → Acts → Acts
finish_erroring me a = let b : Acts = fail_writes a in finish_abort me b b.slots.pending_abort

abbrev pub reject_ready : Plain → Acts → Option Writer → Acts
reject_ready r a None = a
reject_ready r a (Some w) =
    with_promises (ensure_rejected w.ready r a.out.promises)
    (record a { slots = record a.slots { writer = Some (record w { ready = rejected_promise w.ready a.out.promises }) } })

-- WritableStreamStartErroring: the stream is erroring, for this reason. Where there is a writer, ensure that its ready promise
-- is rejected. Where nothing is in flight and the controller has started, finish erroring
unfoldable pub start_erroring : StreamId → Plain → Acts → Acts
start_erroring me r a =
    let b : Acts = reject_ready r (record a { slots = record a.slots { state = Erroring; stored_error = r } }) a.slots.writer in
    if not (is_in_flight b.slots) && b.slots.started then finish_erroring me b else b

-- WritableStreamDealWithRejection
unfoldable pub deal_with_rejection : StreamId → Plain → Acts → Acts
deal_with_rejection me e a = if is_writable a.slots.state then start_erroring me e a else finish_erroring me a

-- WritableStreamDefaultControllerErrorIfNeeded: where the stream is writable, start erroring
unfoldable pub controller_error_if_needed : StreamId → Plain → Acts → Acts
controller_error_if_needed me e a = if is_writable a.slots.state then start_erroring me e a else a

-- the queue

abbrev pub first_request : List PromiseId → Option PromiseId
first_request [] = None
first_request (p ∷ ps) = Some p

abbrev pub later_requests : List PromiseId → List PromiseId
later_requests [] = []
later_requests (p ∷ ps) = ps

-- WritableStreamDefaultControllerProcessWrite: the first write request becomes the write in flight. Perform the write
-- algorithm with the chunk, which stays at the front of the queue until it is handed on
unfoldable pub process_write : StreamId → Acts → Acts
process_write me a =
    causing (WriteAlgorithm me)
    (record a {
      slots = record a.slots {
        write_in_flight = first_request a.slots.write_requests;
        write_requests = later_requests a.slots.write_requests;
      };
    })

-- WritableStreamDefaultControllerProcessClose: the close request becomes the close in flight, and its mark leaves the queue.
-- Perform the close algorithm
unfoldable pub process_close : StreamId → Acts → Acts
process_close me a =
    causing (CloseAlgorithm me)
    (record a { slots = record a.slots { close_in_flight = a.slots.close_request; close_request = None; queue = rest_of a.slots.queue } })

abbrev pub process_first : StreamId → Acts → Option WriteRecord → Acts
process_first me a None = a
process_first me a (Some CloseMark) = process_close me a
process_first me a (Some (Chunk v)) = process_write me a
process_first me a (Some InFlight) = a

-- WritableStreamDefaultControllerAdvanceQueueIfNeeded: nothing where the controller hasn't started, or a write is in flight.
-- Where the stream is erroring, finish that. Else process what is first in the queue, where there is anything
unfoldable pub advance_queue : StreamId → Acts → Acts
advance_queue me a =
    if a.slots.started && is_none a.slots.write_in_flight
    then (if is_erroring a.slots.state then finish_erroring me a else process_first me a (first_value a.slots.queue))
    else a

-- the host's write algorithm is called with a chunk
abbrev pub write_to_host : StreamId → Value → Effect
write_to_host me v = CallHost (HostWrite me v) (React (WritableWrite me) None)

-- a chunk is taken: the host's write algorithm is called with it, a transform algorithm is performed, or it is posted
abbrev pub taken_by : StreamId → Value → Taker → Effect
taken_by me v ToHost = write_to_host me v
taken_by me v (ToTransform t d) = OnTransform t (TransformChunk v d)
taken_by me v (ToPort c d) = OnPort c (PostChunk v d)

abbrev pub hand_on_first : StreamId → Taker → Acts → Option WriteRecord → Acts
hand_on_first me taker a None = a
hand_on_first me taker a (Some CloseMark) = a
hand_on_first me taker a (Some InFlight) = a
hand_on_first me taker a (Some (Chunk v)) =
    causing (taken_by me v taker) (record a { slots = record a.slots { queue = with_first_value InFlight a.slots.queue } })

-- the chunk of the write in flight is handed on; its place, with its size, stays at the front of the queue
unfoldable pub hand_on : StreamId → Taker → Acts → Acts
hand_on me taker a = hand_on_first me taker a (first_value a.slots.queue)

-- the reactions to the sink's algorithms

abbrev pub write_ended : Result Plain Plain → Acts → Acts
write_ended outcome a =
    with_promises (settle_request outcome a.out.promises a.slots.write_in_flight)
    (record a { slots = record a.slots { write_in_flight = None } })

abbrev pub without_first : Acts → Acts
without_first a = record a { slots = record a.slots { queue = rest_of a.slots.queue } }

-- the controller's reaction to its write algorithm. WritableStreamFinishInFlightWrite: fulfil the write in flight; then take
-- its place from the queue, bring the backpressure up to date, and advance the queue.
-- WritableStreamFinishInFlightWriteWithError: reject the write in flight, and deal with the rejection
unfoldable pub write_settled : StreamId → Result Plain Plain → Acts → Acts
write_settled me (Ok v) a = advance_queue me (refresh_backpressure (without_first (write_ended (Ok Undefined) a)))
write_settled me (Err e) a = deal_with_rejection me e (write_ended (Err e) a)

abbrev pub close_ended : Result Plain Plain → Acts → Acts
close_ended outcome a =
    with_promises (settle_request outcome a.out.promises a.slots.close_in_flight)
    (record a { slots = record a.slots { close_in_flight = None } })

abbrev pub settle_abort : Result Plain Plain → Table → Option PendingAbort → Table
settle_abort outcome t None = t
settle_abort outcome t (Some abort) = settle abort.promise outcome t

abbrev pub abort_ended : Result Plain Plain → Acts → Acts
abort_ended outcome a =
    with_promises (settle_abort outcome a.out.promises a.slots.pending_abort)
    (record a { slots = record a.slots { pending_abort = None } })

-- a close that succeeds undoes the erroring
abbrev pub clear_error : Acts → Acts
clear_error a =
    if is_erroring a.slots.state
    then abort_ended (Ok Undefined) (record a { slots = record a.slots { stored_error = Undefined } })
    else a

abbrev pub fulfil_closed : Acts → Option Writer → Acts
fulfil_closed a None = a
fulfil_closed a (Some w) = with_promises (settle w.closed (Ok Undefined) a.out.promises) a

-- WritableStreamFinishInFlightClose: fulfil the close in flight. Where the stream is erroring, clear the stored error, and
-- fulfil the pending abort where there is one. The stream is closed. Where there is a writer, fulfil its closed promise
unfoldable pub finish_in_flight_close : Acts → Acts
finish_in_flight_close a =
    let b : Acts = clear_error (close_ended (Ok Undefined) a) in
    fulfil_closed (record b { slots = record b.slots { state = Closed } }) b.slots.writer

-- WritableStreamFinishInFlightCloseWithError: reject the close in flight, and the pending abort where there is one. Deal with
-- the rejection
unfoldable pub finish_in_flight_close_with_error : StreamId → Plain → Acts → Acts
finish_in_flight_close_with_error me e a = deal_with_rejection me e (abort_ended (Err e) (close_ended (Err e) a))

-- the controller's reaction to its close algorithm
unfoldable pub close_settled : StreamId → Result Plain Plain → Acts → Acts
close_settled me (Ok v) a = finish_in_flight_close a
close_settled me (Err e) a = finish_in_flight_close_with_error me e a

-- the controller's reaction to its start algorithm
unfoldable pub start_settled : StreamId → Result Plain Plain → Acts → Acts
start_settled me (Ok v) a = advance_queue me (record a { slots = record a.slots { started = true } })
start_settled me (Err r) a = deal_with_rejection me r (record a { slots = record a.slots { started = true } })

-- the stream's reaction to its abort algorithm: settle the promise of the abort likewise, and reject the close request and the
-- closed promise
unfoldable pub abort_settled : PromiseId → Result Plain Plain → Acts → Acts
abort_settled p (Ok v) a = reject_close_and_closed (with_promises (settle p (Ok Undefined) a.out.promises) a)
abort_settled p (Err e) a = reject_close_and_closed (with_promises (settle p (Err e) a.out.promises) a)

-- writes, closes and aborts

abbrev pub enqueue_chunk : Value → Acts → Acts
enqueue_chunk v a = record a { slots = record a.slots { queue = enqueued (Chunk v) (size_of a.slots.size_by v) a.slots.queue } }

-- WritableStreamDefaultControllerWrite: the chunk goes to the end of the queue. Bring the backpressure up to date, and advance
-- the queue
unfoldable pub controller_write : StreamId → Value → Acts → Acts
controller_write me v a = advance_queue me (refresh_backpressure (enqueue_chunk v a))

-- WritableStreamAddWriteRequest
abbrev pub add_write_request : PromiseId → Acts → Acts
add_write_request p a = record a { slots = record a.slots { write_requests = a.slots.write_requests ++ p ∷ [] } }

-- with what a write is rejected at once
abbrev pub write_refusal : Slots → Option Plain
write_refusal s =
    if is_errored s.state then Some s.stored_error
    else if is_closing s || is_closed s.state then Some type_error
    else if is_erroring s.state then Some s.stored_error
    else None

abbrev pub write_by : StreamId → Value → PromiseId → Acts → Option Plain → Acts
write_by me v p a (Some e) = with_promises (settle p (Err e) a.out.promises) a
write_by me v p a None = controller_write me v (add_write_request p a)

-- WritableStreamDefaultWriterWrite, where the writer has the stream. The promise that is answered, which is new, is rejected with
-- the stored error where the stream is errored, with a TypeError where it is closing or closed, and with the stored error where it
-- is erroring; else it is a write request, and the controller writes
unfoldable pub writer_write : StreamId → Value → PromiseId → Acts → Acts
writer_write me v p a = write_by me v p a (write_refusal a.slots)

-- WritableStreamDefaultControllerClose: the close mark goes to the end of the queue, with size 0. Advance the queue
unfoldable pub controller_close : StreamId → Acts → Acts
controller_close me a = advance_queue me (record a { slots = record a.slots { queue = enqueued CloseMark 0 a.slots.queue } })

abbrev pub add_close_request : PromiseId → Acts → Acts
add_close_request p a = record a { slots = record a.slots { close_request = Some p } }

abbrev pub fulfil_ready : Acts → Option Writer → Acts
fulfil_ready a None = a
fulfil_ready a (Some w) =
    if a.slots.backpressure && is_writable a.slots.state then with_promises (settle w.ready (Ok Undefined) a.out.promises) a else a

abbrev pub has_ended : WritableState → Bool
has_ended Writable = false
has_ended Erroring = false
has_ended Errored = true
has_ended Closed = true

-- WritableStreamClose, with the check that each of its callers makes first. The promise that is answered, which is new, is rejected with a
-- TypeError where the stream is closed or errored, or is closing; else it is the close request. Where there is a writer, backpressure, and
-- the stream is writable, fulfil its ready promise. The controller closes
unfoldable pub stream_close : StreamId → PromiseId → Acts → Acts
stream_close me p a =
    if has_ended a.slots.state || is_closing a.slots
    then with_promises (settle p (Err type_error) a.out.promises) a
    else let b : Acts = add_close_request p a in controller_close me (fulfil_ready b b.slots.writer)

-- WritableStreamDefaultWriterCloseWithErrorPropagation: where the stream is closing or closed, a promise resolved with
-- undefined; where it is errored, a promise rejected with the stored error; else close it
unfoldable pub close_with_error_propagation : StreamId → PromiseId → Acts → Acts
close_with_error_propagation me p a =
    if is_closing a.slots || is_closed a.slots.state then with_promises (settle p (Ok Undefined) a.out.promises) a
    else if is_errored a.slots.state then with_promises (settle p (Err a.slots.stored_error) a.out.promises) a
    else stream_close me p a

-- an abort that is pending: where the stream is erroring already, its reason is undefined
abbrev pub abort_of : PromiseId → Plain → Bool → PendingAbort
abort_of p r true = record { promise = p; reason = Undefined; was_already_erroring = true }
abort_of p r false = record { promise = p; reason = r; was_already_erroring = false }

abbrev pub add_pending_abort : Plain → PromiseId → Acts → Acts
add_pending_abort r p a = record a { slots = record a.slots { pending_abort = Some (abort_of p r (is_erroring a.slots.state)) } }

abbrev pub begin_abort : StreamId → Plain → PromiseId → Acts → Acts
begin_abort me r p a =
    if is_erroring a.slots.state then add_pending_abort r p a else start_erroring me r (add_pending_abort r p a)

-- the host's sink hears of its first abort by a signal; nobody does for the half of a transform stream, or the end of a port
abbrev pub signalled : StreamId → Plain → Acts → Owner → Acts
signalled me r a Host = with_promises (tell (Signal me r) a.out.promises) a
signalled me r a (HalfOf t) = a
signalled me r a (BranchOf t half) = a
signalled me r a (EndOf c) = a

-- WritableStreamAbort, where no abort is pending: where the stream is closed or errored, the promise is resolved with undefined. Else
-- the sink hears of it before what the abort settles. The promise, which is new, with the reason is the pending abort, and where the
-- stream isn't erroring, it starts to
unfoldable pub stream_abort : StreamId → Plain → PromiseId → Acts → Acts
stream_abort me r p a =
    if has_ended a.slots.state
    then with_promises (settle p (Ok Undefined) a.out.promises) a
    else begin_abort me r p (signalled me r a a.slots.owner)

abbrev pub promise_of : Option PendingAbort → Option PromiseId
promise_of None = None
promise_of (Some abort) = Some abort.promise

-- the promise that an abort answers that came before, where one is pending
abbrev pub answered_abort : Slots → Option PromiseId
answered_abort s = if has_ended s.state then None else promise_of s.pending_abort

-- WritableStreamAbort where the stream is writable, and else a promise resolved with undefined. A stream that is writable has no abort
-- pending
unfoldable pub abort_if_writable : StreamId → Plain → PromiseId → Acts → Acts
abort_if_writable me r p a =
    if is_writable a.slots.state then stream_abort me r p a else with_promises (settle p (Ok Undefined) a.out.promises) a

-- writers

abbrev pub ready_promise : PromiseId → Slots → Table → WritableState → Table
ready_promise p s t Writable = if not (is_closing s) && s.backpressure then t else settle p (Ok Undefined) t
ready_promise p s t Erroring = settle p (Err s.stored_error) t
ready_promise p s t Closed = settle p (Ok Undefined) t
ready_promise p s t Errored = settle p (Err s.stored_error) t

abbrev pub closed_promise : PromiseId → Slots → Table → WritableState → Table
closed_promise p s t Writable = t
closed_promise p s t Erroring = t
closed_promise p s t Closed = settle p (Ok Undefined) t
closed_promise p s t Errored = settle p (Err s.stored_error) t

-- SetUpWritableStreamDefaultWriter: the writer locks the stream. Its two promises are new. Where the stream is writable, ready
-- is pending where it isn't closing and has backpressure, and else resolved with undefined, and closed is pending. Where it is
-- erroring, ready is rejected with the stored error, and closed is pending. Where it is closed, both are resolved with
-- undefined. Where it is errored, both are rejected with the stored error
unfoldable pub set_up_writer : Writer → Acts → Acts
set_up_writer w a =
    with_promises (closed_promise w.closed a.slots (ready_promise w.ready a.slots a.out.promises a.slots.state) a.slots.state)
    (record a { slots = record a.slots { writer = Some w } })

abbrev pub release_by : Acts → Option Writer → Acts
release_by a None = a
release_by a (Some w) =
    with_promises (settle_pending w.closed (Err type_error) (settle_pending w.ready (Err type_error) a.out.promises))
    (record a { slots = record a.slots { writer = None } })

-- WritableStreamDefaultWriterRelease: the ready promise and then the closed promise are rejected with a TypeError where they are
-- pending; where not, a writer of the host's gets new ones, which the call makes. The stream is unlocked
unfoldable pub writer_release : Acts → Acts
writer_release a = release_by a a.slots.writer
