-- Ports at work: an error that a writable end posts, one that was delivered to it and is posted by nobody, and why the laws ask for a writable end
-- and for an error.
use Rattle.std.proofs.Common.{◌≡◌, List, [], ◌∷◌, ◌++◌, refl}
use Rattle.ws_value.specs.declared.ids.LockId.{LockId}
use Rattle.ws_value.specs.declared.ids.PortId.{PortId}
use Rattle.ws_value.specs.declared.ids.StreamId.{StreamId}
use Rattle.ws_value.specs.declared.value.Message.TheVariants.{Pull as PullMessage, Error as ErrorMessage}
use Rattle.ws_value.specs.declared.value.Plain.TheVariants.{Number, Local}
use Rattle.ws_value.specs.declared.value.Value.TheVariants.{Plain as PlainValue}
use Rattle.ws_steps.specs.declared.calls.Call.TheVariants.{Abort, Cancel, Deliver, GetWriter, Open, Write}
use Rattle.ws_steps.specs.declared.port.Side.TheVariants.{Readable as ReadableSide, Writable as WritableSide}
use Rattle.ws_steps.specs.Calls.{begin}
use Rattle.ws_steps.specs.Cross as cross
use Rattle.ws_steps.specs.Cross.{data_clone}
use Rattle.ws_steps.specs.Histories.{run_events}
use Rattle.ws_steps.specs.Jobs.{begin_job}
use Rattle.ws_steps.specs.Pipes as pipe
use Rattle.ws_steps.specs.PortHistory.{posted_in}
use Rattle.ws_steps.specs.Promises.{fresh, settle, answer, react, follow, unfollow, use_gift, queue_micro, after_next_job, watch}
use Rattle.ws_steps.specs.Readable as readable
use Rattle.ws_steps.specs.Run.{Entry, Called, jobs_in_a_row}
use Rattle.ws_steps.specs.Slots.{empty}
use Rattle.ws_steps.specs.Transform as transform
use Rattle.ws_steps.specs.Turns.{row, turns, call_host, performed, moments_of, moments}
use Rattle.ws_steps.specs.Writable as writable
use Rattle.ws_reason_laws.specs.Origins.{origins}

abbrev s0 : StreamId
s0 = record { 0 = 0 }

abbrev c0 : PortId
c0 = record { 0 = 0 }

abbrev l0 : LockId
l0 = record { 0 = 0 }

-- a writable end that has started
abbrev opening : List Entry
opening = Called (Open WritableSide) ∷ jobs_in_a_row 4

-- its stream is aborted with 7, which it posts
abbrev aborting : List Entry
aborting = opening ++ Called (Abort s0 (Number 7)) ∷ jobs_in_a_row 6

aborted : (posted_in c0 (run_events aborting empty) ≡ ErrorMessage (Number 7) ∷ []) × (origins aborting ≡ Number 7 ∷ [])
unfolding fresh settle answer react follow queue_micro unfollow use_gift after_next_job watch readable.call_pull_if_needed readable.accept readable.controller_enqueue readable.stream_close readable.stream_error readable.close_if_empty readable.controller_close readable.controller_error readable.after_take readable.pull_steps readable.default_reader_read readable.disturb readable.reader_generic_initialize readable.start_settled readable.pull_settled readable.cancel_steps readable.stream_cancel readable.cancel_if_readable readable.reader_release writable.ensure_rejected writable.settle_pending writable.update_backpressure writable.refresh_backpressure writable.reject_close_and_closed writable.finish_erroring writable.start_erroring writable.deal_with_rejection writable.controller_error_if_needed writable.process_write writable.process_close writable.advance_queue writable.hand_on writable.write_settled writable.finish_in_flight_close writable.finish_in_flight_close_with_error writable.close_settled writable.start_settled writable.abort_settled writable.controller_write writable.writer_write writable.controller_close writable.stream_close writable.close_with_error_propagation writable.stream_abort writable.abort_if_writable writable.set_up_writer writable.writer_release pipe.finalize pipe.act_by_signal pipe.act pipe.proceed pipe.shutdown pipe.look pipe.look_ready pipe.go_on pipe.keep_chunk pipe.read_ended pipe.write_chunk pipe.write_ended pipe.action_settled pipe.part_settled pipe.no_parts pipe.abort transform.set_backpressure transform.unblock transform.transform_error transform.terminate transform.enqueue transform.enqueued transform.transform_chunk transform.sink_write transform.write_goes_on transform.source_pull transform.sink_close transform.sink_abort transform.source_cancel transform.flush_settled transform.abort_settled transform.cancel_settled cross.pull cross.leave cross.close cross.write cross.write_goes_on cross.post_chunk cross.unblock cross.deliver call_host row turns performed moments_of moments begin_job begin
aborted = (refl, refl)

-- an error comes up with 9, and then its stream is aborted with 7: it posts neither
abbrev stopping : List Entry
stopping = opening ++ Called (Deliver c0 (ErrorMessage (Number 9))) ∷ (jobs_in_a_row 6 ++ Called (Abort s0 (Number 7)) ∷ jobs_in_a_row 6)

stopped : posted_in c0 (run_events stopping empty) ≡ []
unfolding fresh settle answer react follow queue_micro unfollow use_gift after_next_job watch readable.call_pull_if_needed readable.accept readable.controller_enqueue readable.stream_close readable.stream_error readable.close_if_empty readable.controller_close readable.controller_error readable.after_take readable.pull_steps readable.default_reader_read readable.disturb readable.reader_generic_initialize readable.start_settled readable.pull_settled readable.cancel_steps readable.stream_cancel readable.cancel_if_readable readable.reader_release writable.ensure_rejected writable.settle_pending writable.update_backpressure writable.refresh_backpressure writable.reject_close_and_closed writable.finish_erroring writable.start_erroring writable.deal_with_rejection writable.controller_error_if_needed writable.process_write writable.process_close writable.advance_queue writable.hand_on writable.write_settled writable.finish_in_flight_close writable.finish_in_flight_close_with_error writable.close_settled writable.start_settled writable.abort_settled writable.controller_write writable.writer_write writable.controller_close writable.stream_close writable.close_with_error_propagation writable.stream_abort writable.abort_if_writable writable.set_up_writer writable.writer_release pipe.finalize pipe.act_by_signal pipe.act pipe.proceed pipe.shutdown pipe.look pipe.look_ready pipe.go_on pipe.keep_chunk pipe.read_ended pipe.write_chunk pipe.write_ended pipe.action_settled pipe.part_settled pipe.no_parts pipe.abort transform.set_backpressure transform.unblock transform.transform_error transform.terminate transform.enqueue transform.enqueued transform.transform_chunk transform.sink_write transform.write_goes_on transform.source_pull transform.sink_close transform.sink_abort transform.source_cancel transform.flush_settled transform.abort_settled transform.cancel_settled cross.pull cross.leave cross.close cross.write cross.write_goes_on cross.post_chunk cross.unblock cross.deliver call_host row turns performed moments_of moments begin_job begin
stopped = refl

-- where a pull came, an abort of later is posted
abbrev pulling : List Entry
pulling = opening ++ Called (Deliver c0 PullMessage) ∷ (jobs_in_a_row 6 ++ Called (Abort s0 (Number 7)) ∷ jobs_in_a_row 6)

pulled : (posted_in c0 (run_events pulling empty) ≡ ErrorMessage (Number 7) ∷ []) × (origins opening ≡ [])
unfolding fresh settle answer react follow queue_micro unfollow use_gift after_next_job watch readable.call_pull_if_needed readable.accept readable.controller_enqueue readable.stream_close readable.stream_error readable.close_if_empty readable.controller_close readable.controller_error readable.after_take readable.pull_steps readable.default_reader_read readable.disturb readable.reader_generic_initialize readable.start_settled readable.pull_settled readable.cancel_steps readable.stream_cancel readable.cancel_if_readable readable.reader_release writable.ensure_rejected writable.settle_pending writable.update_backpressure writable.refresh_backpressure writable.reject_close_and_closed writable.finish_erroring writable.start_erroring writable.deal_with_rejection writable.controller_error_if_needed writable.process_write writable.process_close writable.advance_queue writable.hand_on writable.write_settled writable.finish_in_flight_close writable.finish_in_flight_close_with_error writable.close_settled writable.start_settled writable.abort_settled writable.controller_write writable.writer_write writable.controller_close writable.stream_close writable.close_with_error_propagation writable.stream_abort writable.abort_if_writable writable.set_up_writer writable.writer_release pipe.finalize pipe.act_by_signal pipe.act pipe.proceed pipe.shutdown pipe.look pipe.look_ready pipe.go_on pipe.keep_chunk pipe.read_ended pipe.write_chunk pipe.write_ended pipe.action_settled pipe.part_settled pipe.no_parts pipe.abort transform.set_backpressure transform.unblock transform.transform_error transform.terminate transform.enqueue transform.enqueued transform.transform_chunk transform.sink_write transform.write_goes_on transform.source_pull transform.sink_close transform.sink_abort transform.source_cancel transform.flush_settled transform.abort_settled transform.cancel_settled cross.pull cross.leave cross.close cross.write cross.write_goes_on cross.post_chunk cross.unblock cross.deliver call_host row turns performed moments_of moments begin_job begin
pulled = (refl, refl)

-- a readable end posts the reason with which its stream is cancelled, and nothing failed
abbrev cancelling : List Entry
cancelling = Called (Open ReadableSide) ∷ (jobs_in_a_row 4 ++ Called (Cancel s0 (Number 7)) ∷ jobs_in_a_row 6)

cancelled : (posted_in c0 (run_events cancelling empty) ≡ ErrorMessage (Number 7) ∷ []) × (origins cancelling ≡ [])
unfolding fresh settle answer react follow queue_micro unfollow use_gift after_next_job watch readable.call_pull_if_needed readable.accept readable.controller_enqueue readable.stream_close readable.stream_error readable.close_if_empty readable.controller_close readable.controller_error readable.after_take readable.pull_steps readable.default_reader_read readable.disturb readable.reader_generic_initialize readable.start_settled readable.pull_settled readable.cancel_steps readable.stream_cancel readable.cancel_if_readable readable.reader_release writable.ensure_rejected writable.settle_pending writable.update_backpressure writable.refresh_backpressure writable.reject_close_and_closed writable.finish_erroring writable.start_erroring writable.deal_with_rejection writable.controller_error_if_needed writable.process_write writable.process_close writable.advance_queue writable.hand_on writable.write_settled writable.finish_in_flight_close writable.finish_in_flight_close_with_error writable.close_settled writable.start_settled writable.abort_settled writable.controller_write writable.writer_write writable.controller_close writable.stream_close writable.close_with_error_propagation writable.stream_abort writable.abort_if_writable writable.set_up_writer writable.writer_release pipe.finalize pipe.act_by_signal pipe.act pipe.proceed pipe.shutdown pipe.look pipe.look_ready pipe.go_on pipe.keep_chunk pipe.read_ended pipe.write_chunk pipe.write_ended pipe.action_settled pipe.part_settled pipe.no_parts pipe.abort transform.set_backpressure transform.unblock transform.transform_error transform.terminate transform.enqueue transform.enqueued transform.transform_chunk transform.sink_write transform.write_goes_on transform.source_pull transform.sink_close transform.sink_abort transform.source_cancel transform.flush_settled transform.abort_settled transform.cancel_settled cross.pull cross.leave cross.close cross.write cross.write_goes_on cross.post_chunk cross.unblock cross.deliver call_host row turns performed moments_of moments begin_job begin
cancelled = (refl, refl)

-- what can't be cloned is written before the error comes up: a DataCloneError is posted, and that first part of the run tells it
abbrev written : List Entry
written = opening ++ Called (GetWriter s0) ∷ Called (Write l0 (PlainValue (Local 3))) ∷ jobs_in_a_row 6

abbrev erring_behind : List Entry
erring_behind = written ++ Called (Deliver c0 (ErrorMessage (Number 9))) ∷ jobs_in_a_row 6

posted-behind : (posted_in c0 (run_events erring_behind empty) ≡ ErrorMessage data_clone ∷ []) × (origins written ≡ data_clone ∷ [])
unfolding fresh settle answer react follow queue_micro unfollow use_gift after_next_job watch readable.call_pull_if_needed readable.accept readable.controller_enqueue readable.stream_close readable.stream_error readable.close_if_empty readable.controller_close readable.controller_error readable.after_take readable.pull_steps readable.default_reader_read readable.disturb readable.reader_generic_initialize readable.start_settled readable.pull_settled readable.cancel_steps readable.stream_cancel readable.cancel_if_readable readable.reader_release writable.ensure_rejected writable.settle_pending writable.update_backpressure writable.refresh_backpressure writable.reject_close_and_closed writable.finish_erroring writable.start_erroring writable.deal_with_rejection writable.controller_error_if_needed writable.process_write writable.process_close writable.advance_queue writable.hand_on writable.write_settled writable.finish_in_flight_close writable.finish_in_flight_close_with_error writable.close_settled writable.start_settled writable.abort_settled writable.controller_write writable.writer_write writable.controller_close writable.stream_close writable.close_with_error_propagation writable.stream_abort writable.abort_if_writable writable.set_up_writer writable.writer_release pipe.finalize pipe.act_by_signal pipe.act pipe.proceed pipe.shutdown pipe.look pipe.look_ready pipe.go_on pipe.keep_chunk pipe.read_ended pipe.write_chunk pipe.write_ended pipe.action_settled pipe.part_settled pipe.no_parts pipe.abort transform.set_backpressure transform.unblock transform.transform_error transform.terminate transform.enqueue transform.enqueued transform.transform_chunk transform.sink_write transform.write_goes_on transform.source_pull transform.sink_close transform.sink_abort transform.source_cancel transform.flush_settled transform.abort_settled transform.cancel_settled cross.pull cross.leave cross.close cross.write cross.write_goes_on cross.post_chunk cross.unblock cross.deliver call_host row turns performed moments_of moments begin_job begin
posted-behind = (refl, refl)

-- and where it is written later, nothing is posted
abbrev erring_before : List Entry
erring_before = opening ++ Called (GetWriter s0) ∷ Called (Deliver c0 (ErrorMessage (Number 9))) ∷ (jobs_in_a_row 6 ++ Called (Write l0 (PlainValue (Local 3))) ∷ jobs_in_a_row 6)

posted-before : posted_in c0 (run_events erring_before empty) ≡ []
unfolding fresh settle answer react follow queue_micro unfollow use_gift after_next_job watch readable.call_pull_if_needed readable.accept readable.controller_enqueue readable.stream_close readable.stream_error readable.close_if_empty readable.controller_close readable.controller_error readable.after_take readable.pull_steps readable.default_reader_read readable.disturb readable.reader_generic_initialize readable.start_settled readable.pull_settled readable.cancel_steps readable.stream_cancel readable.cancel_if_readable readable.reader_release writable.ensure_rejected writable.settle_pending writable.update_backpressure writable.refresh_backpressure writable.reject_close_and_closed writable.finish_erroring writable.start_erroring writable.deal_with_rejection writable.controller_error_if_needed writable.process_write writable.process_close writable.advance_queue writable.hand_on writable.write_settled writable.finish_in_flight_close writable.finish_in_flight_close_with_error writable.close_settled writable.start_settled writable.abort_settled writable.controller_write writable.writer_write writable.controller_close writable.stream_close writable.close_with_error_propagation writable.stream_abort writable.abort_if_writable writable.set_up_writer writable.writer_release pipe.finalize pipe.act_by_signal pipe.act pipe.proceed pipe.shutdown pipe.look pipe.look_ready pipe.go_on pipe.keep_chunk pipe.read_ended pipe.write_chunk pipe.write_ended pipe.action_settled pipe.part_settled pipe.no_parts pipe.abort transform.set_backpressure transform.unblock transform.transform_error transform.terminate transform.enqueue transform.enqueued transform.transform_chunk transform.sink_write transform.write_goes_on transform.source_pull transform.sink_close transform.sink_abort transform.source_cancel transform.flush_settled transform.abort_settled transform.cancel_settled cross.pull cross.leave cross.close cross.write cross.write_goes_on cross.post_chunk cross.unblock cross.deliver call_host row turns performed moments_of moments begin_job begin
posted-before = refl
