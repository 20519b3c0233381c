-- A byte stream at work: why the laws tell of a TypeError that a call stored in one.
use Rattle.std.proofs.Common.{◌≡◌, List, [], ◌∷◌, ◌++◌, refl, false, None}
use Rattle.ws_value.specs.declared.ids.LockId.{LockId}
use Rattle.ws_value.specs.declared.value.Value.TheVariants.{Bytes}
use Rattle.ws_steps.specs.declared.calls.Call.TheVariants.{MakeBytes, MakeWritable, GetByob, ReadInto, Enqueue, Release, Finish, Pipe}
use Rattle.ws_steps.specs.declared.calls.StartBy.TheVariants.{Now}
use Rattle.ws_steps.specs.declared.pipes.Prevent.{Prevent}
use Rattle.ws_steps.specs.declared.readable.SizeBy.TheVariants.{Count}
use Rattle.ws_steps.specs.declared.writable.WritableState.TheVariants.{Errored}
use Rattle.ws_steps.specs.Bytes as byte
use Rattle.ws_steps.specs.Effects.{type_error}
use Rattle.ws_steps.specs.Promises.{fresh, settle, answer, react, follow, unfollow, use_gift, queue_micro, after_next_job, watch}
use Rattle.ws_steps.specs.Readable as readable
use Rattle.ws_steps.specs.Writable as writable
use Rattle.ws_steps.specs.Pipes as pipe
use Rattle.ws_steps.specs.Transform as transform
use Rattle.ws_steps.specs.Turns.{call_host, row, turns, performed}
use Rattle.ws_steps.specs.Jobs.{begin_job}
use Rattle.ws_steps.specs.Calls.{begin}
use Rattle.ws_steps.specs.Run.{Entry, Called, run, jobs_in_a_row}
use Rattle.ws_steps.specs.Slots.{empty, writable_at}
use Rattle.ws_reason_laws.specs.Reasons.{failures, erred}
use Rattle.ws_reason_laws.proofs.FirstPipe.{s0, s1}

abbrev reader : LockId
reader = record { 0 = 0 }

abbrev piping : Prevent
piping = record { close = false; abort = false; cancel = false }

-- a buffered reader is released while its room has a part of an element, and then the stream is closed: that throws, and the pipe that reads
-- the stream by now aborts its destination with a TypeError, though nothing failed
abbrev closing : List Entry
closing =
    Called (MakeBytes 0 0 Now)
    ∷ (Called (GetByob s0)
    ∷ (jobs_in_a_row 4
    ++ Called (ReadInto reader (0 ∷ 0 ∷ 0 ∷ 0 ∷ []) 4 1)
    ∷ Called (Enqueue s0 (Bytes (1 ∷ [])))
    ∷ Called (Release reader)
    ∷ Called (MakeWritable 1 Count Now)
    ∷ (jobs_in_a_row 6 ++ Called (Pipe s0 s1 piping None) ∷ (jobs_in_a_row 6 ++ Called (Finish s0) ∷ jobs_in_a_row 9))))

closed : ((writable_at s1 (run closing empty)).state ≡ Errored) × (((writable_at s1 (run closing empty)).stored_error ≡ type_error) × ((failures closing ≡ []) × (erred closing empty ≡ type_error ∷ [])))
unfolding fresh settle answer react follow unfollow use_gift queue_micro after_next_job watch readable.call_pull_if_needed readable.accept readable.controller_enqueue readable.controller_error readable.stream_error readable.controller_close readable.close_if_empty readable.stream_close readable.after_take readable.pull_steps readable.default_reader_read readable.reader_generic_initialize readable.disturb readable.start_settled readable.pull_settled readable.stream_cancel readable.cancel_steps readable.cancel_if_readable readable.reader_release writable.ensure_rejected writable.settle_pending writable.update_backpressure writable.refresh_backpressure writable.reject_close_and_closed writable.finish_erroring writable.start_erroring writable.deal_with_rejection writable.controller_error_if_needed writable.process_write writable.process_close writable.advance_queue writable.hand_on writable.write_settled writable.finish_in_flight_close writable.finish_in_flight_close_with_error writable.close_settled writable.start_settled writable.abort_settled writable.controller_write writable.writer_write writable.controller_close writable.stream_close writable.close_with_error_propagation writable.stream_abort writable.abort_if_writable writable.set_up_writer writable.writer_release pipe.finalize pipe.act_by_signal pipe.act pipe.proceed pipe.shutdown pipe.look pipe.look_ready pipe.go_on pipe.keep_chunk pipe.read_ended pipe.write_chunk pipe.write_ended pipe.action_settled pipe.part_settled pipe.no_parts pipe.abort call_host row turns performed begin_job begin transform.set_backpressure transform.unblock transform.transform_error transform.terminate transform.enqueue transform.enqueued transform.transform_chunk transform.sink_write transform.write_goes_on transform.source_pull transform.sink_close transform.sink_abort transform.source_cancel transform.flush_settled transform.abort_settled transform.cancel_settled byte.call_pull_if_needed byte.stream_close byte.controller_error byte.handle_queue_drain byte.pull_steps byte.default_reader_read byte.controller_close byte.controller_enqueue byte.pull_into byte.byob_reader_read byte.respond byte.start_settled byte.pull_settled byte.stream_cancel byte.cancel_if_readable byte.reader_release byte.reader_initialize byte.read byte.read_into
closed = (refl, (refl, (refl, refl)))
