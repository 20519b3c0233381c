-- The definitions computed on worked examples: transform streams.
use Rattle.std.proofs.Common.{◌≡◌, [], ◌∷◌, refl, true, false, None}
use Rattle.ws_value.specs.declared.ids.StreamId.{StreamId}
use Rattle.ws_steps.specs.declared.calls.Answer.TheVariants.{Ok, Fail as FailWith}
use Rattle.ws_steps.specs.declared.calls.Call.TheVariants.{MakeTransform, MakeWritable, GetReader, GetWriter, Cancel as CancelStream, Read, Write as WriteBy, CloseBy, AbortBy, Closed as ClosedOf, Ready as ReadyOf, Enqueue, Finish, Fail, Terminate, Pipe, Settle, State}
use Rattle.ws_steps.specs.declared.calls.HostCall.TheVariants.{Start, Abort, Transform, Flush, CancelTransform}
use Rattle.ws_steps.specs.declared.calls.Event.TheVariants.{Signal as SignalEvent}
use Rattle.ws_steps.specs.declared.calls.Reply.TheVariants.{Done, Made, MadeTwo, Lock, State as StateReply, Throws}
use Rattle.ws_steps.specs.declared.calls.StartBy.TheVariants.{Now, Later}
use Rattle.ws_steps.specs.declared.calls.Thrown.TheVariants.{Unsupported}
use Rattle.ws_steps.specs.declared.calls.Word.TheVariants.{Writable as WordWritable}
use Rattle.ws_steps.specs.declared.pipes.Prevent.{Prevent}
use Rattle.ws_steps.specs.declared.readable.SizeBy.TheVariants.{Count}
use Rattle.ws_steps.specs.declared.transform.Kind.TheVariants.{Identity, Host}
use Rattle.ws_steps.specs.Effects.{type_error}
use Rattle.ws_steps.specs.Promises.{fresh, settle, answer, react, follow, queue_micro, unfollow, use_gift, after_next_job, watch}
use Rattle.ws_steps.specs.Turns.{call_host, row, turns, performed}
use Rattle.ws_steps.specs.Jobs.{begin_job}
use Rattle.ws_steps.specs.Calls.{begin}
use Rattle.ws_steps.specs.Readable as readable
use Rattle.ws_steps.specs.Writable as writable
use Rattle.ws_steps.specs.Pipes as pipe
use Rattle.ws_steps.specs.Transform as transform
use Rattle.ws_steps.proofs.WorkedWords.{printed, printed_tasks, s0, l0, l1, h, e, v, hears, leaves, says, promise, host, given, fulfilled, rejected, no_flags}

abbrev s1 : StreamId
s1 = record { 0 = 1 }

abbrev s2 : StreamId
s2 = record { 0 = 2 }

abbrev nothing : Prevent
nothing = record { close = false; abort = false; cancel = false }

-- an identity transform: the chunk waits until the readable half is read, and is given before its write is fulfilled
identity_transform : printed (MakeTransform Identity 1 0 Now ∷ GetWriter s0 ∷ WriteBy l0 (v 1) ∷ GetReader s1 ∷ Read l1 ∷ [])
    ≡ says (MadeTwo s0 s1) []
    ∷ says (Lock l0) []
    ∷ promise 0 []
    ∷ says (Lock l1) []
    ∷ promise 1 (given 1 (v 1) ∷ fulfilled 0 ∷ [])
    ∷ []
unfolding fresh settle answer react follow queue_micro unfollow use_gift after_next_job watch readable.call_pull_if_needed readable.accept readable.controller_enqueue readable.stream_close readable.stream_error readable.close_if_empty readable.controller_close readable.controller_error readable.after_take readable.pull_steps readable.default_reader_read readable.disturb readable.reader_generic_initialize readable.start_settled readable.pull_settled readable.cancel_steps readable.stream_cancel readable.cancel_if_readable readable.reader_release writable.ensure_rejected writable.settle_pending writable.update_backpressure writable.refresh_backpressure writable.reject_close_and_closed writable.finish_erroring writable.start_erroring writable.deal_with_rejection writable.controller_error_if_needed writable.process_write writable.process_close writable.advance_queue writable.hand_on writable.write_settled writable.finish_in_flight_close writable.finish_in_flight_close_with_error writable.close_settled writable.start_settled writable.abort_settled writable.controller_write writable.writer_write writable.controller_close writable.stream_close writable.close_with_error_propagation writable.stream_abort writable.abort_if_writable writable.set_up_writer writable.writer_release pipe.finalize pipe.act_by_signal pipe.act pipe.proceed pipe.shutdown pipe.look pipe.look_ready pipe.go_on pipe.keep_chunk pipe.read_ended pipe.write_chunk pipe.write_ended pipe.action_settled pipe.part_settled pipe.no_parts pipe.abort transform.set_backpressure transform.unblock transform.transform_error transform.terminate transform.enqueue transform.enqueued transform.transform_chunk transform.sink_write transform.write_goes_on transform.source_pull transform.sink_close transform.sink_abort transform.source_cancel transform.flush_settled transform.abort_settled transform.cancel_settled call_host row turns performed begin_job begin
identity_transform = refl

-- a host transform: its events name the readable half
host_transform : printed (MakeTransform Host 1 0 Now ∷ GetWriter s0 ∷ WriteBy l0 (v 1) ∷ GetReader s1 ∷ Read l1 ∷ Enqueue s1 (v 2) ∷ Settle (h 0) Ok ∷ [])
    ≡ says (MadeTwo s0 s1) []
    ∷ says (Lock l0) []
    ∷ promise 0 []
    ∷ says (Lock l1) []
    ∷ promise 1 (host 0 (Transform s1 (v 1)) ∷ [])
    ∷ says Done (given 1 (v 2) ∷ [])
    ∷ says Done (fulfilled 0 ∷ [])
    ∷ []
unfolding fresh settle answer react follow queue_micro unfollow use_gift after_next_job watch readable.call_pull_if_needed readable.accept readable.controller_enqueue readable.stream_close readable.stream_error readable.close_if_empty readable.controller_close readable.controller_error readable.after_take readable.pull_steps readable.default_reader_read readable.disturb readable.reader_generic_initialize readable.start_settled readable.pull_settled readable.cancel_steps readable.stream_cancel readable.cancel_if_readable readable.reader_release writable.ensure_rejected writable.settle_pending writable.update_backpressure writable.refresh_backpressure writable.reject_close_and_closed writable.finish_erroring writable.start_erroring writable.deal_with_rejection writable.controller_error_if_needed writable.process_write writable.process_close writable.advance_queue writable.hand_on writable.write_settled writable.finish_in_flight_close writable.finish_in_flight_close_with_error writable.close_settled writable.start_settled writable.abort_settled writable.controller_write writable.writer_write writable.controller_close writable.stream_close writable.close_with_error_propagation writable.stream_abort writable.abort_if_writable writable.set_up_writer writable.writer_release pipe.finalize pipe.act_by_signal pipe.act pipe.proceed pipe.shutdown pipe.look pipe.look_ready pipe.go_on pipe.keep_chunk pipe.read_ended pipe.write_chunk pipe.write_ended pipe.action_settled pipe.part_settled pipe.no_parts pipe.abort transform.set_backpressure transform.unblock transform.transform_error transform.terminate transform.enqueue transform.enqueued transform.transform_chunk transform.sink_write transform.write_goes_on transform.source_pull transform.sink_close transform.sink_abort transform.source_cancel transform.flush_settled transform.abort_settled transform.cancel_settled call_host row turns performed begin_job begin
host_transform = refl

-- a start that gives a promise: both halves wait for it, and so does the flush
both_halves_wait_for_the_start : printed (MakeTransform Host 1 1 Later ∷ GetWriter s0 ∷ CloseBy l0 ∷ Settle (h 0) Ok ∷ Settle (h 1) Ok ∷ [])
    ≡ says (MadeTwo s0 s1) (host 0 (Start s1) ∷ [])
    ∷ says (Lock l0) []
    ∷ promise 0 []
    ∷ says Done (host 1 (Flush s1) ∷ [])
    ∷ says Done (fulfilled 0 ∷ [])
    ∷ []
unfolding fresh settle answer react follow queue_micro unfollow use_gift after_next_job watch readable.call_pull_if_needed readable.accept readable.controller_enqueue readable.stream_close readable.stream_error readable.close_if_empty readable.controller_close readable.controller_error readable.after_take readable.pull_steps readable.default_reader_read readable.disturb readable.reader_generic_initialize readable.start_settled readable.pull_settled readable.cancel_steps readable.stream_cancel readable.cancel_if_readable readable.reader_release writable.ensure_rejected writable.settle_pending writable.update_backpressure writable.refresh_backpressure writable.reject_close_and_closed writable.finish_erroring writable.start_erroring writable.deal_with_rejection writable.controller_error_if_needed writable.process_write writable.process_close writable.advance_queue writable.hand_on writable.write_settled writable.finish_in_flight_close writable.finish_in_flight_close_with_error writable.close_settled writable.start_settled writable.abort_settled writable.controller_write writable.writer_write writable.controller_close writable.stream_close writable.close_with_error_propagation writable.stream_abort writable.abort_if_writable writable.set_up_writer writable.writer_release pipe.finalize pipe.act_by_signal pipe.act pipe.proceed pipe.shutdown pipe.look pipe.look_ready pipe.go_on pipe.keep_chunk pipe.read_ended pipe.write_chunk pipe.write_ended pipe.action_settled pipe.part_settled pipe.no_parts pipe.abort transform.set_backpressure transform.unblock transform.transform_error transform.terminate transform.enqueue transform.enqueued transform.transform_chunk transform.sink_write transform.write_goes_on transform.source_pull transform.sink_close transform.sink_abort transform.source_cancel transform.flush_settled transform.abort_settled transform.cancel_settled call_host row turns performed begin_job begin
both_halves_wait_for_the_start = refl

-- the transform algorithm fails: the readable half errs before the write does
failing_transform : printed (MakeTransform Host 1 1 Now ∷ GetWriter s0 ∷ ClosedOf l0 ∷ GetReader s1 ∷ ClosedOf l1 ∷ WriteBy l0 (v 1) ∷ Settle (h 0) (FailWith (e 1)) ∷ [])
    ≡ says (MadeTwo s0 s1) []
    ∷ says (Lock l0) []
    ∷ promise 0 []
    ∷ says (Lock l1) []
    ∷ promise 1 []
    ∷ promise 2 (host 0 (Transform s1 (v 1)) ∷ [])
    ∷ says Done (rejected 1 (e 1) ∷ rejected 2 (e 1) ∷ rejected 0 (e 1) ∷ [])
    ∷ []
unfolding fresh settle answer react follow queue_micro unfollow use_gift after_next_job watch readable.call_pull_if_needed readable.accept readable.controller_enqueue readable.stream_close readable.stream_error readable.close_if_empty readable.controller_close readable.controller_error readable.after_take readable.pull_steps readable.default_reader_read readable.disturb readable.reader_generic_initialize readable.start_settled readable.pull_settled readable.cancel_steps readable.stream_cancel readable.cancel_if_readable readable.reader_release writable.ensure_rejected writable.settle_pending writable.update_backpressure writable.refresh_backpressure writable.reject_close_and_closed writable.finish_erroring writable.start_erroring writable.deal_with_rejection writable.controller_error_if_needed writable.process_write writable.process_close writable.advance_queue writable.hand_on writable.write_settled writable.finish_in_flight_close writable.finish_in_flight_close_with_error writable.close_settled writable.start_settled writable.abort_settled writable.controller_write writable.writer_write writable.controller_close writable.stream_close writable.close_with_error_propagation writable.stream_abort writable.abort_if_writable writable.set_up_writer writable.writer_release pipe.finalize pipe.act_by_signal pipe.act pipe.proceed pipe.shutdown pipe.look pipe.look_ready pipe.go_on pipe.keep_chunk pipe.read_ended pipe.write_chunk pipe.write_ended pipe.action_settled pipe.part_settled pipe.no_parts pipe.abort transform.set_backpressure transform.unblock transform.transform_error transform.terminate transform.enqueue transform.enqueued transform.transform_chunk transform.sink_write transform.write_goes_on transform.source_pull transform.sink_close transform.sink_abort transform.source_cancel transform.flush_settled transform.abort_settled transform.cancel_settled call_host row turns performed begin_job begin
failing_transform = refl

-- a terminated transform with a chunk still queued: a cancel performs its cancel algorithm, and ends with the error of the writable half
cancel_after_terminate : printed (MakeTransform Host 1 2 Now ∷ Enqueue s1 (v 1) ∷ Terminate s1 ∷ CancelStream s1 (e 1) ∷ Settle (h 0) Ok ∷ [])
    ≡ says (MadeTwo s0 s1) []
    ∷ says Done []
    ∷ says Done []
    ∷ promise 0 (host 0 (CancelTransform s1 (e 1)) ∷ [])
    ∷ says Done (rejected 0 type_error ∷ [])
    ∷ []
unfolding fresh settle answer react follow queue_micro unfollow use_gift after_next_job watch readable.call_pull_if_needed readable.accept readable.controller_enqueue readable.stream_close readable.stream_error readable.close_if_empty readable.controller_close readable.controller_error readable.after_take readable.pull_steps readable.default_reader_read readable.disturb readable.reader_generic_initialize readable.start_settled readable.pull_settled readable.cancel_steps readable.stream_cancel readable.cancel_if_readable readable.reader_release writable.ensure_rejected writable.settle_pending writable.update_backpressure writable.refresh_backpressure writable.reject_close_and_closed writable.finish_erroring writable.start_erroring writable.deal_with_rejection writable.controller_error_if_needed writable.process_write writable.process_close writable.advance_queue writable.hand_on writable.write_settled writable.finish_in_flight_close writable.finish_in_flight_close_with_error writable.close_settled writable.start_settled writable.abort_settled writable.controller_write writable.writer_write writable.controller_close writable.stream_close writable.close_with_error_propagation writable.stream_abort writable.abort_if_writable writable.set_up_writer writable.writer_release pipe.finalize pipe.act_by_signal pipe.act pipe.proceed pipe.shutdown pipe.look pipe.look_ready pipe.go_on pipe.keep_chunk pipe.read_ended pipe.write_chunk pipe.write_ended pipe.action_settled pipe.part_settled pipe.no_parts pipe.abort transform.set_backpressure transform.unblock transform.transform_error transform.terminate transform.enqueue transform.enqueued transform.transform_chunk transform.sink_write transform.write_goes_on transform.source_pull transform.sink_close transform.sink_abort transform.source_cancel transform.flush_settled transform.abort_settled transform.cancel_settled call_host row turns performed begin_job begin
cancel_after_terminate = refl

-- a cancel of the readable half errs the writable half, and ends after that
cancel_finishes_after_the_writable_erred : printed (MakeTransform Host 0 0 Now ∷ GetWriter s0 ∷ ClosedOf l0 ∷ ReadyOf l0 ∷ CancelStream s1 (e 1) ∷ Settle (h 0) Ok ∷ [])
    ≡ says (MadeTwo s0 s1) []
    ∷ says (Lock l0) []
    ∷ promise 0 []
    ∷ promise 1 []
    ∷ promise 2 (host 0 (CancelTransform s1 (e 1)) ∷ [])
    ∷ says Done (rejected 1 (e 1) ∷ rejected 0 (e 1) ∷ fulfilled 2 ∷ [])
    ∷ []
unfolding fresh settle answer react follow queue_micro unfollow use_gift after_next_job watch readable.call_pull_if_needed readable.accept readable.controller_enqueue readable.stream_close readable.stream_error readable.close_if_empty readable.controller_close readable.controller_error readable.after_take readable.pull_steps readable.default_reader_read readable.disturb readable.reader_generic_initialize readable.start_settled readable.pull_settled readable.cancel_steps readable.stream_cancel readable.cancel_if_readable readable.reader_release writable.ensure_rejected writable.settle_pending writable.update_backpressure writable.refresh_backpressure writable.reject_close_and_closed writable.finish_erroring writable.start_erroring writable.deal_with_rejection writable.controller_error_if_needed writable.process_write writable.process_close writable.advance_queue writable.hand_on writable.write_settled writable.finish_in_flight_close writable.finish_in_flight_close_with_error writable.close_settled writable.start_settled writable.abort_settled writable.controller_write writable.writer_write writable.controller_close writable.stream_close writable.close_with_error_propagation writable.stream_abort writable.abort_if_writable writable.set_up_writer writable.writer_release pipe.finalize pipe.act_by_signal pipe.act pipe.proceed pipe.shutdown pipe.look pipe.look_ready pipe.go_on pipe.keep_chunk pipe.read_ended pipe.write_chunk pipe.write_ended pipe.action_settled pipe.part_settled pipe.no_parts pipe.abort transform.set_backpressure transform.unblock transform.transform_error transform.terminate transform.enqueue transform.enqueued transform.transform_chunk transform.sink_write transform.write_goes_on transform.source_pull transform.sink_close transform.sink_abort transform.source_cancel transform.flush_settled transform.abort_settled transform.cancel_settled call_host row turns performed begin_job begin
cancel_finishes_after_the_writable_erred = refl

-- an abort of the writable half performs the cancel algorithm, and a cancel then answers its promise
one_finish_promise : printed (MakeTransform Host 1 1 Now ∷ GetWriter s0 ∷ AbortBy l0 (e 1) ∷ CancelStream s1 (e 2) ∷ Settle (h 0) Ok ∷ [])
    ≡ says (MadeTwo s0 s1) []
    ∷ says (Lock l0) []
    ∷ promise 0 (host 0 (CancelTransform s1 (e 1)) ∷ [])
    ∷ promise 1 []
    ∷ says Done (fulfilled 0 ∷ fulfilled 1 ∷ [])
    ∷ []
unfolding fresh settle answer react follow queue_micro unfollow use_gift after_next_job watch readable.call_pull_if_needed readable.accept readable.controller_enqueue readable.stream_close readable.stream_error readable.close_if_empty readable.controller_close readable.controller_error readable.after_take readable.pull_steps readable.default_reader_read readable.disturb readable.reader_generic_initialize readable.start_settled readable.pull_settled readable.cancel_steps readable.stream_cancel readable.cancel_if_readable readable.reader_release writable.ensure_rejected writable.settle_pending writable.update_backpressure writable.refresh_backpressure writable.reject_close_and_closed writable.finish_erroring writable.start_erroring writable.deal_with_rejection writable.controller_error_if_needed writable.process_write writable.process_close writable.advance_queue writable.hand_on writable.write_settled writable.finish_in_flight_close writable.finish_in_flight_close_with_error writable.close_settled writable.start_settled writable.abort_settled writable.controller_write writable.writer_write writable.controller_close writable.stream_close writable.close_with_error_propagation writable.stream_abort writable.abort_if_writable writable.set_up_writer writable.writer_release pipe.finalize pipe.act_by_signal pipe.act pipe.proceed pipe.shutdown pipe.look pipe.look_ready pipe.go_on pipe.keep_chunk pipe.read_ended pipe.write_chunk pipe.write_ended pipe.action_settled pipe.part_settled pipe.no_parts pipe.abort transform.set_backpressure transform.unblock transform.transform_error transform.terminate transform.enqueue transform.enqueued transform.transform_chunk transform.sink_write transform.write_goes_on transform.source_pull transform.sink_close transform.sink_abort transform.source_cancel transform.flush_settled transform.abort_settled transform.cancel_settled call_host row turns performed begin_job begin
one_finish_promise = refl

-- a pipe from a transform whose algorithm fails: the destination is aborted before the write is rejected
pipe_from_a_failing_transform : printed (MakeTransform Host 1 1 Now ∷ MakeWritable 1 Count Now ∷ Pipe s1 s2 nothing None ∷ GetWriter s0 ∷ WriteBy (record { 0 = 2 }) (v 1) ∷ Settle (h 0) (FailWith (e 1)) ∷ Settle (h 1) Ok ∷ [])
    ≡ says (MadeTwo s0 s1) []
    ∷ says (Made s2) []
    ∷ promise 0 []
    ∷ says (Lock (record { 0 = 2 })) []
    ∷ promise 1 (host 0 (Transform s1 (v 1)) ∷ [])
    ∷ says Done (hears (SignalEvent s2 (e 1)) ∷ host 1 (Abort s2 (e 1)) ∷ rejected 1 (e 1) ∷ [])
    ∷ says Done (rejected 0 (e 1) ∷ [])
    ∷ []
unfolding fresh settle answer react follow queue_micro unfollow use_gift after_next_job watch readable.call_pull_if_needed readable.accept readable.controller_enqueue readable.stream_close readable.stream_error readable.close_if_empty readable.controller_close readable.controller_error readable.after_take readable.pull_steps readable.default_reader_read readable.disturb readable.reader_generic_initialize readable.start_settled readable.pull_settled readable.cancel_steps readable.stream_cancel readable.cancel_if_readable readable.reader_release writable.ensure_rejected writable.settle_pending writable.update_backpressure writable.refresh_backpressure writable.reject_close_and_closed writable.finish_erroring writable.start_erroring writable.deal_with_rejection writable.controller_error_if_needed writable.process_write writable.process_close writable.advance_queue writable.hand_on writable.write_settled writable.finish_in_flight_close writable.finish_in_flight_close_with_error writable.close_settled writable.start_settled writable.abort_settled writable.controller_write writable.writer_write writable.controller_close writable.stream_close writable.close_with_error_propagation writable.stream_abort writable.abort_if_writable writable.set_up_writer writable.writer_release pipe.finalize pipe.act_by_signal pipe.act pipe.proceed pipe.shutdown pipe.look pipe.look_ready pipe.go_on pipe.keep_chunk pipe.read_ended pipe.write_chunk pipe.write_ended pipe.action_settled pipe.part_settled pipe.no_parts pipe.abort transform.set_backpressure transform.unblock transform.transform_error transform.terminate transform.enqueue transform.enqueued transform.transform_chunk transform.sink_write transform.write_goes_on transform.source_pull transform.sink_close transform.sink_abort transform.source_cancel transform.flush_settled transform.abort_settled transform.cancel_settled call_host row turns performed begin_job begin
pipe_from_a_failing_transform = refl

-- after an enqueue for which no read waits there is backpressure, and the next write waits
next_write_waits_after_an_enqueue : printed_tasks ((20, MakeTransform Host 1 0 Now) ∷ (20, GetReader s1) ∷ (20, GetWriter s0) ∷ (20, Read l0) ∷ (20, Read l0) ∷ (0, Enqueue s1 (v 1)) ∷ (0, Enqueue s1 (v 2)) ∷ (0, Read l0) ∷ (0, Read l0) ∷ (0, Enqueue s1 (v 3)) ∷ (0, WriteBy l1 (v 9)) ∷ (20, State s0) ∷ [])
    ≡ says (MadeTwo s0 s1) []
    ∷ says (Lock l0) []
    ∷ says (Lock l1) []
    ∷ promise 0 []
    ∷ promise 1 []
    ∷ says Done (given 0 (v 1) ∷ [])
    ∷ leaves Done (given 1 (v 2) ∷ [])
    ∷ record (promise 2 []) { again = true }
    ∷ record (promise 3 []) { again = true }
    ∷ leaves Done (given 2 (v 3) ∷ [])
    ∷ record (promise 4 []) { again = true }
    ∷ says (StateReply (record { state = WordWritable; flags = record no_flags { s = true; b = true; w = true; l = true }; total = 1; queue = 1; requests = 0 })) (host 0 (Transform s1 (v 9)) ∷ [])
    ∷ []
unfolding fresh settle answer react follow queue_micro unfollow use_gift after_next_job watch readable.call_pull_if_needed readable.accept readable.controller_enqueue readable.stream_close readable.stream_error readable.close_if_empty readable.controller_close readable.controller_error readable.after_take readable.pull_steps readable.default_reader_read readable.disturb readable.reader_generic_initialize readable.start_settled readable.pull_settled readable.cancel_steps readable.stream_cancel readable.cancel_if_readable readable.reader_release writable.ensure_rejected writable.settle_pending writable.update_backpressure writable.refresh_backpressure writable.reject_close_and_closed writable.finish_erroring writable.start_erroring writable.deal_with_rejection writable.controller_error_if_needed writable.process_write writable.process_close writable.advance_queue writable.hand_on writable.write_settled writable.finish_in_flight_close writable.finish_in_flight_close_with_error writable.close_settled writable.start_settled writable.abort_settled writable.controller_write writable.writer_write writable.controller_close writable.stream_close writable.close_with_error_propagation writable.stream_abort writable.abort_if_writable writable.set_up_writer writable.writer_release pipe.finalize pipe.act_by_signal pipe.act pipe.proceed pipe.shutdown pipe.look pipe.look_ready pipe.go_on pipe.keep_chunk pipe.read_ended pipe.write_chunk pipe.write_ended pipe.action_settled pipe.part_settled pipe.no_parts pipe.abort transform.set_backpressure transform.unblock transform.transform_error transform.terminate transform.enqueue transform.enqueued transform.transform_chunk transform.sink_write transform.write_goes_on transform.source_pull transform.sink_close transform.sink_abort transform.source_cancel transform.flush_settled transform.abort_settled transform.cancel_settled call_host row turns performed begin_job begin
next_write_waits_after_an_enqueue = refl

-- the host has the controller of a transform alone: it finishes neither half, fails no writable half, and terminates no other stream
host_has_one_controller : printed (MakeTransform Host 1 1 Now ∷ Finish s1 ∷ Fail s0 (e 1) ∷ Terminate s0 ∷ Finish s0 ∷ [])
    ≡ says (MadeTwo s0 s1) []
    ∷ says (Throws Unsupported) []
    ∷ says (Throws Unsupported) []
    ∷ says (Throws Unsupported) []
    ∷ says (Throws Unsupported) []
    ∷ []
unfolding fresh settle answer react follow queue_micro unfollow use_gift after_next_job watch readable.call_pull_if_needed readable.accept readable.controller_enqueue readable.stream_close readable.stream_error readable.close_if_empty readable.controller_close readable.controller_error readable.after_take readable.pull_steps readable.default_reader_read readable.disturb readable.reader_generic_initialize readable.start_settled readable.pull_settled readable.cancel_steps readable.stream_cancel readable.cancel_if_readable readable.reader_release writable.ensure_rejected writable.settle_pending writable.update_backpressure writable.refresh_backpressure writable.reject_close_and_closed writable.finish_erroring writable.start_erroring writable.deal_with_rejection writable.controller_error_if_needed writable.process_write writable.process_close writable.advance_queue writable.hand_on writable.write_settled writable.finish_in_flight_close writable.finish_in_flight_close_with_error writable.close_settled writable.start_settled writable.abort_settled writable.controller_write writable.writer_write writable.controller_close writable.stream_close writable.close_with_error_propagation writable.stream_abort writable.abort_if_writable writable.set_up_writer writable.writer_release pipe.finalize pipe.act_by_signal pipe.act pipe.proceed pipe.shutdown pipe.look pipe.look_ready pipe.go_on pipe.keep_chunk pipe.read_ended pipe.write_chunk pipe.write_ended pipe.action_settled pipe.part_settled pipe.no_parts pipe.abort transform.set_backpressure transform.unblock transform.transform_error transform.terminate transform.enqueue transform.enqueued transform.transform_chunk transform.sink_write transform.write_goes_on transform.source_pull transform.sink_close transform.sink_abort transform.source_cancel transform.flush_settled transform.abort_settled transform.cancel_settled call_host row turns performed begin_job begin
host_has_one_controller = refl
