-- A pipe whose source closes: it closes its destination, which the host is called for, and the host settles that well; and one whose destination is
-- closing before it. And an identity transform stream, of whose writable half the host is called for nothing.
use Rattle.std.proofs.Common.{◌≡◌, [], ◌∷◌, List, refl, false, true, Some, None}
use Rattle.ws_value.specs.declared.{ids.HostId.{HostId}, ids.PipeId.{PipeId}, ids.StreamId.{StreamId}}
use Rattle.ws_value.specs.declared.value.{Outcome.TheVariants.{Fulfilled}, Plain.TheVariants.{Undefined, Number}}
use Rattle.ws_steps.specs.declared.calls.Call.TheVariants.{MakeReadable, MakeWritable, MakeTransform, GetWriter, Write, Pipe, Finish, CloseBy, Close as CloseStream}
use Rattle.ws_steps.specs.declared.calls.HostCall.TheVariants.{Pull, Close}
use Rattle.ws_steps.specs.declared.calls.StartBy.TheVariants.{Now}
use Rattle.ws_steps.specs.declared.readable.SizeBy.TheVariants.{Count}
use Rattle.ws_steps.specs.declared.writable.WritableState.TheVariants.{Closed}
use Rattle.ws_steps.specs.Promises.{outcome_at, fresh, settle, answer, react, follow, unfollow, use_gift, queue_micro, after_next_job, watch}
use Rattle.ws_steps.specs.Readable as readable
use Rattle.ws_steps.specs.Writable as writable
use Rattle.ws_steps.specs.Pipes as pipe
use Rattle.ws_steps.specs.Transform as transform
use Rattle.ws_steps.specs.WritableHistory.{run_writes}
use Rattle.ws_steps.specs.declared.transform.Kind.TheVariants.{Identity}
use Rattle.ws_value.specs.declared.ids.LockId.{LockId}
use Rattle.ws_value.specs.declared.value.Value.TheVariants.{Plain as PlainValue}
use Rattle.ws_steps.specs.Turns.{call_host, row, turns, performed, moments, moments_of}
use Rattle.ws_steps.specs.Jobs.{begin_job}
use Rattle.ws_steps.specs.Calls.{begin}
use Rattle.ws_steps.specs.Run.{Entry, Called, Worked, run}
use Rattle.ws_steps.specs.Slots.{empty, pipe_at, writable_at}
use Rattle.ws_pipe_laws.specs.pipes.PipeHistory.{run_course, run_moments, promises_made}
use Rattle.ws_end_laws.specs.hosts.HostCalls.{called, settles_well}

abbrev s0 : StreamId
s0 = record { 0 = 0 }

abbrev s1 : StreamId
s1 = record { 0 = 1 }

abbrev p0 : PipeId
p0 = record { 0 = 0 }

abbrev h1 : HostId
h1 = record { 0 = 1 }

abbrev piped : List Entry
piped =
    Called (MakeReadable 0 Count Now)
    ∷ Called (MakeWritable 1 Count Now)
    ∷ Called (Pipe s0 s1 (record { close = false; abort = false; cancel = false }) None)
    ∷ Worked
    ∷ Worked
    ∷ Worked
    ∷ Called (Finish s0)
    ∷ Worked
    ∷ Worked
    ∷ Worked
    ∷ Called (settles_well h1)
    ∷ Worked
    ∷ Worked
    ∷ Worked
    ∷ []

works : (called piped ≡ Pull s0 ∷ Close s1 ∷ []) × (((run_course p0 piped empty).ended ≡ None ∷ []) × ((writable_at s1 (run piped empty)).state ≡ Closed))
unfolding fresh settle answer react follow unfollow use_gift queue_micro after_next_job watch readable.call_pull_if_needed readable.accept readable.controller_enqueue readable.controller_close readable.close_if_empty readable.stream_close readable.after_take readable.pull_steps readable.default_reader_read readable.reader_generic_initialize readable.disturb readable.start_settled readable.pull_settled readable.stream_cancel readable.cancel_steps readable.cancel_if_readable readable.reader_release writable.ensure_rejected writable.settle_pending writable.update_backpressure writable.refresh_backpressure writable.reject_close_and_closed writable.finish_erroring writable.start_erroring writable.deal_with_rejection writable.controller_error_if_needed writable.process_write writable.process_close writable.advance_queue writable.hand_on writable.write_settled writable.finish_in_flight_close writable.finish_in_flight_close_with_error writable.close_settled writable.start_settled writable.abort_settled writable.controller_write writable.writer_write writable.controller_close writable.stream_close writable.close_with_error_propagation writable.stream_abort writable.abort_if_writable writable.set_up_writer writable.writer_release pipe.finalize pipe.act_by_signal pipe.act pipe.proceed pipe.shutdown pipe.look pipe.look_ready pipe.go_on pipe.keep_chunk pipe.read_ended pipe.write_chunk pipe.write_ended pipe.action_settled pipe.part_settled pipe.no_parts pipe.abort call_host row turns performed moments moments_of begin_job begin
works = (refl, (refl, refl))

-- A pipe whose source is closed and whose destination is closing as it is made: it fulfils, and has made no write

abbrev closing : List Entry
closing =
    Called (MakeReadable 0 Count Now) ∷ Called (MakeWritable 1 Count Now) ∷ Called (Finish s0) ∷ Called (CloseStream s1) ∷ []

abbrev closing_piped : List Entry
closing_piped =
    Called (MakeReadable 0 Count Now)
    ∷ Called (MakeWritable 1 Count Now)
    ∷ Called (Finish s0)
    ∷ Called (CloseStream s1)
    ∷ Called (Pipe s0 s1 (record { close = false; abort = false; cancel = false }) None)
    ∷ Worked
    ∷ Worked
    ∷ Worked
    ∷ Worked
    ∷ Worked
    ∷ Worked
    ∷ []

closing-works : (writable.is_closing (writable_at s1 (run closing empty)) ≡ true)
    × ((outcome_at (run closing_piped empty).promises (pipe_at p0 (run closing_piped empty)).promise ≡ Some (Fulfilled Undefined)) × (promises_made p0 (run_moments closing_piped empty) ≡ []))
unfolding fresh settle answer react follow unfollow use_gift queue_micro after_next_job watch readable.call_pull_if_needed readable.accept readable.controller_enqueue readable.controller_close readable.close_if_empty readable.stream_close readable.after_take readable.pull_steps readable.default_reader_read readable.reader_generic_initialize readable.disturb readable.start_settled readable.pull_settled readable.stream_cancel readable.cancel_steps readable.cancel_if_readable readable.reader_release writable.ensure_rejected writable.settle_pending writable.update_backpressure writable.refresh_backpressure writable.reject_close_and_closed writable.finish_erroring writable.start_erroring writable.deal_with_rejection writable.controller_error_if_needed writable.process_write writable.process_close writable.advance_queue writable.hand_on writable.write_settled writable.finish_in_flight_close writable.finish_in_flight_close_with_error writable.close_settled writable.start_settled writable.abort_settled writable.controller_write writable.writer_write writable.controller_close writable.stream_close writable.close_with_error_propagation writable.stream_abort writable.abort_if_writable writable.set_up_writer writable.writer_release pipe.finalize pipe.act_by_signal pipe.act pipe.proceed pipe.shutdown pipe.look pipe.look_ready pipe.go_on pipe.keep_chunk pipe.read_ended pipe.write_chunk pipe.write_ended pipe.action_settled pipe.part_settled pipe.no_parts pipe.abort call_host row turns performed moments moments_of begin_job begin
closing-works = (refl, (refl, refl))

-- A chunk is written to the writable half of an identity, and it is closed: the write ended well and the half is closed, and the host was called
-- for neither

abbrev l0 : LockId
l0 = record { 0 = 0 }

abbrev through : List Entry
through =
    Called (MakeTransform Identity 1 2 Now)
    ∷ Called (GetWriter s0)
    ∷ Called (Write l0 (PlainValue (Number 7)))
    ∷ Called (CloseBy l0)
    ∷ Worked ∷ Worked ∷ Worked ∷ Worked ∷ Worked ∷ Worked ∷ Worked ∷ Worked ∷ Worked ∷ Worked ∷ Worked ∷ Worked ∷ Worked ∷ Worked ∷ Worked ∷ Worked ∷ Worked ∷ Worked ∷ Worked ∷ Worked
    ∷ []

goes-through : (called through ≡ []) × (((run_writes s0 through empty).fulfilled ≡ 1) × ((writable_at s0 (run through empty)).state ≡ Closed))
unfolding fresh settle answer react follow unfollow use_gift queue_micro after_next_job watch readable.call_pull_if_needed readable.accept readable.controller_enqueue readable.controller_close readable.close_if_empty readable.stream_close readable.after_take readable.pull_steps readable.default_reader_read readable.reader_generic_initialize readable.disturb readable.start_settled readable.pull_settled readable.stream_cancel readable.cancel_steps readable.cancel_if_readable readable.reader_release writable.ensure_rejected writable.settle_pending writable.update_backpressure writable.refresh_backpressure writable.reject_close_and_closed writable.finish_erroring writable.start_erroring writable.deal_with_rejection writable.controller_error_if_needed writable.process_write writable.process_close writable.advance_queue writable.hand_on writable.write_settled writable.finish_in_flight_close writable.finish_in_flight_close_with_error writable.close_settled writable.start_settled writable.abort_settled writable.controller_write writable.writer_write writable.controller_close writable.stream_close writable.close_with_error_propagation writable.stream_abort writable.abort_if_writable writable.set_up_writer writable.writer_release pipe.finalize pipe.act_by_signal pipe.act pipe.proceed pipe.shutdown pipe.look pipe.look_ready pipe.go_on pipe.keep_chunk pipe.read_ended pipe.write_chunk pipe.write_ended pipe.action_settled pipe.part_settled pipe.no_parts pipe.abort call_host row turns performed moments moments_of begin_job begin transform.set_backpressure transform.unblock transform.transform_error transform.terminate transform.enqueue transform.enqueued transform.transform_chunk transform.sink_write transform.write_goes_on transform.source_pull transform.sink_close transform.sink_abort transform.source_cancel transform.flush_settled transform.abort_settled transform.cancel_settled
goes-through = (refl, (refl, refl))
