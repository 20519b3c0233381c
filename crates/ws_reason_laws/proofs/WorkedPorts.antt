-- Ports at work: why the laws ask of a DataCloneError whether something that can't be cloned was given to a stream at the end of a port, and how it comes
-- there: by a call, by a pipe as a chunk and as the reason of a cancel, and by a tee.
use Rattle.std.proofs.Common.{◌≡◌, Bool, true, false, List, [], ◌∷◌, ◌++◌, refl, None, Some}
use Rattle.ws_value.specs.declared.ids.{LockId.{LockId}, PortId.{PortId}}
use Rattle.ws_value.specs.declared.value.{Message.TheVariants.{Pull as PullMessage}, Outcome.TheVariants.{Pending, Rejected}, Plain.TheVariants.{Number, Local}, Value.TheVariants.{Plain as PlainValue}}
use Rattle.ws_steps.specs.declared.calls.Call.TheVariants.{MakeReadable, MakeWritable, GetWriter, Write, Enqueue, Fail, Pipe, Open, Deliver, Tee, Cancel}
use Rattle.ws_steps.specs.declared.calls.StartBy.TheVariants.{Now}
use Rattle.ws_steps.specs.declared.pipes.Prevent.{Prevent}
use Rattle.ws_steps.specs.declared.port.Side.TheVariants.{Readable as ReadableSide, Writable as WritableSide}
use Rattle.ws_steps.specs.declared.readable.SizeBy.TheVariants.{Count}
use Rattle.ws_steps.specs.Cross as cross
use Rattle.ws_steps.specs.Cross.{data_clone}
use Rattle.ws_steps.specs.Promises.{outcome_at, fresh, settle, answer, react, follow, unfollow, use_gift, queue_micro, after_next_job, watch}
use Rattle.ws_steps.specs.Readable as readable
use Rattle.ws_steps.specs.Writable as writable
use Rattle.ws_steps.specs.Pipes as pipe
use Rattle.ws_steps.specs.Tee as tee
use Rattle.ws_steps.specs.Turns.{call_host, row, turns, performed, moments_of, moments}
use Rattle.ws_steps.specs.Jobs.{begin_job}
use Rattle.ws_steps.specs.Calls.{begin}
use Rattle.ws_steps.specs.Run.{Entry, Called, run, jobs_in_a_row}
use Rattle.ws_steps.specs.Slots.{empty, writable_at, tee_at}
use Rattle.ws_reason_laws.specs.Origins.{origins}
use Rattle.ws_reason_laws.specs.Uncloned.{run_uncloned}
use Rattle.ws_reason_laws.proofs.FirstPipe.{s0, s1}
use Rattle.ws_reason_laws.proofs.WorkedThrough.{s2}

abbrev c0 : PortId
c0 = record { 0 = 0 }

abbrev l0 : LockId
l0 = record { 0 = 0 }

abbrev nothing_prevented : Prevent
nothing_prevented = record { close = false; abort = false; cancel = false }

-- a writable end is written what can't be cloned: its stream fails with a DataCloneError, which no call gave
abbrev writing : List Entry
writing = Called (Open WritableSide) ∷ Called (GetWriter s0) ∷ (jobs_in_a_row 4 ++ Called (Deliver c0 PullMessage) ∷ Called (Write l0 (PlainValue (Local 3))) ∷ jobs_in_a_row 6)

written : ((writable_at s0 (run writing empty)).stored_error ≡ data_clone) × ((run_uncloned writing empty ≡ true) × (origins writing ≡ data_clone ∷ []))
unfolding fresh settle answer react follow unfollow use_gift queue_micro after_next_job watch readable.call_pull_if_needed readable.accept readable.controller_enqueue readable.controller_error readable.stream_error readable.controller_close readable.close_if_empty readable.stream_close readable.after_take readable.pull_steps readable.default_reader_read readable.reader_generic_initialize readable.disturb readable.start_settled readable.pull_settled readable.stream_cancel readable.cancel_steps readable.cancel_if_readable readable.reader_release writable.ensure_rejected writable.settle_pending writable.update_backpressure writable.refresh_backpressure writable.reject_close_and_closed writable.finish_erroring writable.start_erroring writable.deal_with_rejection writable.controller_error_if_needed writable.process_write writable.process_close writable.advance_queue writable.hand_on writable.write_settled writable.finish_in_flight_close writable.finish_in_flight_close_with_error writable.close_settled writable.start_settled writable.abort_settled writable.controller_write writable.writer_write writable.controller_close writable.stream_close writable.close_with_error_propagation writable.stream_abort writable.abort_if_writable writable.set_up_writer writable.writer_release pipe.finalize pipe.act_by_signal pipe.act pipe.proceed pipe.shutdown pipe.look pipe.look_ready pipe.go_on pipe.keep_chunk pipe.read_ended pipe.write_chunk pipe.write_ended pipe.action_settled pipe.part_settled pipe.no_parts pipe.abort call_host row turns performed moments_of moments begin_job begin cross.pull cross.leave cross.deliver cross.close cross.write cross.write_goes_on cross.post_chunk cross.unblock
written = (refl, (refl, refl))

-- what can be: nothing fails
abbrev writing_number : List Entry
writing_number = Called (Open WritableSide) ∷ Called (GetWriter s0) ∷ (jobs_in_a_row 4 ++ Called (Deliver c0 PullMessage) ∷ Called (Write l0 (PlainValue (Number 3))) ∷ jobs_in_a_row 6)

number_written : (run_uncloned writing_number empty ≡ false) × (origins writing_number ≡ [])
unfolding fresh settle answer react follow unfollow use_gift queue_micro after_next_job watch readable.call_pull_if_needed readable.accept readable.controller_enqueue readable.controller_error readable.stream_error readable.controller_close readable.close_if_empty readable.stream_close readable.after_take readable.pull_steps readable.default_reader_read readable.reader_generic_initialize readable.disturb readable.start_settled readable.pull_settled readable.stream_cancel readable.cancel_steps readable.cancel_if_readable readable.reader_release writable.ensure_rejected writable.settle_pending writable.update_backpressure writable.refresh_backpressure writable.reject_close_and_closed writable.finish_erroring writable.start_erroring writable.deal_with_rejection writable.controller_error_if_needed writable.process_write writable.process_close writable.advance_queue writable.hand_on writable.write_settled writable.finish_in_flight_close writable.finish_in_flight_close_with_error writable.close_settled writable.start_settled writable.abort_settled writable.controller_write writable.writer_write writable.controller_close writable.stream_close writable.close_with_error_propagation writable.stream_abort writable.abort_if_writable writable.set_up_writer writable.writer_release pipe.finalize pipe.act_by_signal pipe.act pipe.proceed pipe.shutdown pipe.look pipe.look_ready pipe.go_on pipe.keep_chunk pipe.read_ended pipe.write_chunk pipe.write_ended pipe.action_settled pipe.part_settled pipe.no_parts pipe.abort call_host row turns performed moments_of moments begin_job begin cross.pull cross.leave cross.deliver cross.close cross.write cross.write_goes_on cross.post_chunk cross.unblock
number_written = (refl, refl)

-- a pipe writes it: its promise is rejected
abbrev piping : List Entry
piping =
    Called (MakeReadable 1 Count Now) ∷ Called (Open WritableSide) ∷ (jobs_in_a_row 4
    ++ Called (Deliver c0 PullMessage) ∷ Called (Pipe s0 s1 nothing_prevented None) ∷ Called (Enqueue s0 (PlainValue (Local 3))) ∷ jobs_in_a_row 20)

piped : (outcome_at (run piping empty).promises (record { 0 = 6 }) ≡ Some (Rejected data_clone)) × ((run_uncloned piping empty ≡ true) × (origins piping ≡ data_clone ∷ []))
unfolding fresh settle answer react follow unfollow use_gift queue_micro after_next_job watch readable.call_pull_if_needed readable.accept readable.controller_enqueue readable.controller_error readable.stream_error readable.controller_close readable.close_if_empty readable.stream_close readable.after_take readable.pull_steps readable.default_reader_read readable.reader_generic_initialize readable.disturb readable.start_settled readable.pull_settled readable.stream_cancel readable.cancel_steps readable.cancel_if_readable readable.reader_release writable.ensure_rejected writable.settle_pending writable.update_backpressure writable.refresh_backpressure writable.reject_close_and_closed writable.finish_erroring writable.start_erroring writable.deal_with_rejection writable.controller_error_if_needed writable.process_write writable.process_close writable.advance_queue writable.hand_on writable.write_settled writable.finish_in_flight_close writable.finish_in_flight_close_with_error writable.close_settled writable.start_settled writable.abort_settled writable.controller_write writable.writer_write writable.controller_close writable.stream_close writable.close_with_error_propagation writable.stream_abort writable.abort_if_writable writable.set_up_writer writable.writer_release pipe.finalize pipe.act_by_signal pipe.act pipe.proceed pipe.shutdown pipe.look pipe.look_ready pipe.go_on pipe.keep_chunk pipe.read_ended pipe.write_chunk pipe.write_ended pipe.action_settled pipe.part_settled pipe.no_parts pipe.abort call_host row turns performed moments_of moments begin_job begin cross.pull cross.leave cross.deliver cross.close cross.write cross.write_goes_on cross.post_chunk cross.unblock
piped = (refl, (refl, refl))

-- a pipe from a readable end cancels it with the reason with which its destination failed: its promise is rejected with a DataCloneError
abbrev cancelling : List Entry
cancelling =
    Called (Open ReadableSide) ∷ Called (MakeWritable 1 Count Now) ∷ (jobs_in_a_row 4
    ++ Called (Pipe s0 s1 nothing_prevented None) ∷ Called (Fail s1 (Local 5)) ∷ jobs_in_a_row 20)

cancelled : (outcome_at (run cancelling empty).promises (record { 0 = 5 }) ≡ Some (Rejected data_clone)) × ((run_uncloned cancelling empty ≡ true) × (origins cancelling ≡ Local 5 ∷ data_clone ∷ []))
unfolding fresh settle answer react follow unfollow use_gift queue_micro after_next_job watch readable.call_pull_if_needed readable.accept readable.controller_enqueue readable.controller_error readable.stream_error readable.controller_close readable.close_if_empty readable.stream_close readable.after_take readable.pull_steps readable.default_reader_read readable.reader_generic_initialize readable.disturb readable.start_settled readable.pull_settled readable.stream_cancel readable.cancel_steps readable.cancel_if_readable readable.reader_release writable.ensure_rejected writable.settle_pending writable.update_backpressure writable.refresh_backpressure writable.reject_close_and_closed writable.finish_erroring writable.start_erroring writable.deal_with_rejection writable.controller_error_if_needed writable.process_write writable.process_close writable.advance_queue writable.hand_on writable.write_settled writable.finish_in_flight_close writable.finish_in_flight_close_with_error writable.close_settled writable.start_settled writable.abort_settled writable.controller_write writable.writer_write writable.controller_close writable.stream_close writable.close_with_error_propagation writable.stream_abort writable.abort_if_writable writable.set_up_writer writable.writer_release pipe.finalize pipe.act_by_signal pipe.act pipe.proceed pipe.shutdown pipe.look pipe.look_ready pipe.go_on pipe.keep_chunk pipe.read_ended pipe.write_chunk pipe.write_ended pipe.action_settled pipe.part_settled pipe.no_parts pipe.abort call_host row turns performed moments_of moments begin_job begin cross.pull cross.leave cross.deliver cross.close cross.write cross.write_goes_on cross.post_chunk cross.unblock
cancelled = (refl, (refl, refl))

-- a tee cancels a readable end with its pair, which can't be cloned: its cancel promise, with which that of each branch is answered, is rejected with a DataCloneError
abbrev teeing : List Entry
teeing = Called (Open ReadableSide) ∷ (jobs_in_a_row 4 ++ Called (Tee s0) ∷ Called (Cancel s1 (Number 5)) ∷ Called (Cancel s2 (Number 7)) ∷ jobs_in_a_row 20)

teed : (outcome_at (run teeing empty).promises (tee_at (record { 0 = 0 }) (run teeing empty)).cancel ≡ Some (Rejected data_clone)) × ((run_uncloned teeing empty ≡ true) × (origins teeing ≡ data_clone ∷ []))
unfolding fresh settle answer react follow unfollow use_gift queue_micro after_next_job watch readable.call_pull_if_needed readable.accept readable.controller_enqueue readable.controller_error readable.stream_error readable.controller_close readable.close_if_empty readable.stream_close readable.after_take readable.pull_steps readable.default_reader_read readable.reader_generic_initialize readable.disturb readable.start_settled readable.pull_settled readable.stream_cancel readable.cancel_steps readable.cancel_if_readable readable.reader_release writable.ensure_rejected writable.settle_pending writable.update_backpressure writable.refresh_backpressure writable.reject_close_and_closed writable.finish_erroring writable.start_erroring writable.deal_with_rejection writable.controller_error_if_needed writable.process_write writable.process_close writable.advance_queue writable.hand_on writable.write_settled writable.finish_in_flight_close writable.finish_in_flight_close_with_error writable.close_settled writable.start_settled writable.abort_settled writable.controller_write writable.writer_write writable.controller_close writable.stream_close writable.close_with_error_propagation writable.stream_abort writable.abort_if_writable writable.set_up_writer writable.writer_release pipe.finalize pipe.act_by_signal pipe.act pipe.proceed pipe.shutdown pipe.look pipe.look_ready pipe.go_on pipe.keep_chunk pipe.read_ended pipe.write_chunk pipe.write_ended pipe.action_settled pipe.part_settled pipe.no_parts pipe.abort call_host row turns performed moments_of moments begin_job begin cross.pull cross.leave cross.deliver cross.close cross.write cross.write_goes_on cross.post_chunk cross.unblock tee.pull_branch tee.keep_chunk tee.source_closed tee.source_errored tee.hand_chunk tee.handed tee.cancel_branch tee.reader_settled
teed = (refl, (refl, refl))
