-- A pipe at work: it has its source and its destination, and a read of it waits.
use Rattle.std.proofs.Common.{◌≡◌, [], ◌∷◌, refl, true, false, None}
use Rattle.ws_value.specs.declared.{ids.PipeId.{PipeId}, ids.StreamId.{StreamId}}
use Rattle.ws_steps.specs.declared.calls.Call.TheVariants.{MakeReadable, MakeBytes, MakeWritable, Pipe}
use Rattle.ws_steps.specs.declared.calls.StartBy.TheVariants.{Now}
use Rattle.ws_steps.specs.declared.pipes.Phase.TheVariants.{Flowing}
use Rattle.ws_steps.specs.declared.readable.SizeBy.TheVariants.{Count}
use Rattle.ws_steps.specs.declared.readable.ReadRequest.TheVariants.{Pipe as PipeRequest}
use Rattle.ws_steps.specs.Bytes as byte
use Rattle.ws_steps.specs.Promises.{fresh, settle, answer, react, follow, unfollow, use_gift, queue_micro, after_next_job, watch}
use Rattle.ws_steps.specs.Readable as readable
use Rattle.ws_steps.specs.Writable as writable
use Rattle.ws_steps.specs.Pipes as pipe
use Rattle.ws_steps.specs.Turns.{call_host, row, turns, performed}
use Rattle.ws_steps.specs.Jobs.{begin_job}
use Rattle.ws_steps.specs.Calls.{begin}
use Rattle.ws_steps.specs.Run.{Called, Worked, run}
use Rattle.ws_steps.specs.Slots.{Slots, empty, pipe_at, source_at}
use Rattle.ws_pipe_laws.specs.pipes.PipeReads.{in_streams}
use Rattle.ws_pipe_laws.specs.locks.Locks.{Reading, Writing, holders, is_locked}

abbrev s0 : StreamId
s0 = record { 0 = 0 }

abbrev s1 : StreamId
s1 = record { 0 = 1 }

abbrev p0 : PipeId
p0 = record { 0 = 0 }

abbrev at_work : Slots
at_work =
    run
    (Called (MakeReadable 0 Count Now)
    ∷ Called (MakeWritable 1 Count Now)
    ∷ Called (Pipe s0 s1 (record { close = false; abort = false; cancel = false }) None)
    ∷ Worked
    ∷ Worked
    ∷ Worked
    ∷ [])
    empty

works : (((pipe_at p0 at_work).phase ≡ Flowing) × ((pipe_at p0 at_work).reading ≡ true)) × ((holders Reading s0 at_work ≡ 1) × ((holders Writing s1 at_work ≡ 1) × (in_streams p0 at_work.streams ≡ 1)))
unfolding fresh settle answer react follow unfollow use_gift queue_micro after_next_job watch readable.call_pull_if_needed readable.accept readable.controller_enqueue readable.controller_close readable.close_if_empty readable.stream_close readable.after_take readable.pull_steps readable.default_reader_read readable.reader_generic_initialize readable.disturb readable.start_settled readable.pull_settled readable.stream_cancel readable.cancel_steps readable.cancel_if_readable readable.reader_release writable.ensure_rejected writable.settle_pending writable.update_backpressure writable.refresh_backpressure writable.reject_close_and_closed writable.finish_erroring writable.start_erroring writable.deal_with_rejection writable.controller_error_if_needed writable.process_write writable.process_close writable.advance_queue writable.hand_on writable.write_settled writable.finish_in_flight_close writable.finish_in_flight_close_with_error writable.close_settled writable.start_settled writable.abort_settled writable.controller_write writable.writer_write writable.controller_close writable.stream_close writable.close_with_error_propagation writable.stream_abort writable.abort_if_writable writable.set_up_writer writable.writer_release pipe.finalize pipe.act_by_signal pipe.act pipe.proceed pipe.shutdown pipe.look pipe.look_ready pipe.go_on pipe.keep_chunk pipe.read_ended pipe.write_chunk pipe.write_ended pipe.action_settled pipe.part_settled pipe.no_parts pipe.abort call_host row turns performed begin_job begin
works = ((refl, refl), (refl, (refl, refl)))

-- and one whose source has a byte controller
abbrev at_bytes : Slots
at_bytes =
    run
    (Called (MakeBytes 0 0 Now)
    ∷ Called (MakeWritable 1 Count Now)
    ∷ Called (Pipe s0 s1 (record { close = false; abort = false; cancel = false }) None)
    ∷ Worked
    ∷ Worked
    ∷ Worked
    ∷ [])
    empty

works_on_bytes : (((pipe_at p0 at_bytes).phase ≡ Flowing) × ((pipe_at p0 at_bytes).reading ≡ true)) × ((holders Reading s0 at_bytes ≡ 1) × ((is_locked Reading s0 at_bytes ≡ true) × ((source_at s0 at_bytes).requests ≡ PipeRequest p0 ∷ [])))
unfolding fresh settle answer react follow unfollow use_gift queue_micro after_next_job watch readable.call_pull_if_needed readable.accept readable.controller_enqueue readable.controller_close readable.close_if_empty readable.stream_close readable.after_take readable.pull_steps readable.default_reader_read readable.reader_generic_initialize readable.disturb readable.start_settled readable.pull_settled readable.stream_cancel readable.cancel_steps readable.cancel_if_readable readable.reader_release writable.ensure_rejected writable.settle_pending writable.update_backpressure writable.refresh_backpressure writable.reject_close_and_closed writable.finish_erroring writable.start_erroring writable.deal_with_rejection writable.controller_error_if_needed writable.process_write writable.process_close writable.advance_queue writable.hand_on writable.write_settled writable.finish_in_flight_close writable.finish_in_flight_close_with_error writable.close_settled writable.start_settled writable.abort_settled writable.controller_write writable.writer_write writable.controller_close writable.stream_close writable.close_with_error_propagation writable.stream_abort writable.abort_if_writable writable.set_up_writer writable.writer_release pipe.finalize pipe.act_by_signal pipe.act pipe.proceed pipe.shutdown pipe.look pipe.look_ready pipe.go_on pipe.keep_chunk pipe.read_ended pipe.write_chunk pipe.write_ended pipe.action_settled pipe.part_settled pipe.no_parts pipe.abort call_host row turns performed begin_job begin byte.call_pull_if_needed byte.reader_initialize byte.read byte.default_reader_read byte.pull_steps byte.start_settled
works_on_bytes = ((refl, refl), (refl, (refl, refl)))
