-- Links with halves of identity transform streams as their ends, on worked examples: what their destinations act on and what their sources take in.
use Rattle.std.proofs.Common.{◌≡◌, ℕ, zero, suc, true, false, [], ◌∷◌, ◌++◌, List, None, refl}
use Rattle.ws_value.specs.declared.{ids.PipeId.{PipeId}, ids.StreamId.{StreamId}, ids.LockId.{LockId}}
use Rattle.ws_steps.specs.declared.transform.TransformId.{TransformId}
use Rattle.ws_value.specs.declared.value.{Plain.TheVariants.{Undefined}, Value.{Value}, Value.TheVariants.{Plain, Bytes}}
use Rattle.ws_steps.specs.declared.calls.Answer.TheVariants.{Ok}
use Rattle.ws_steps.specs.declared.calls.Call.{Call}
use Rattle.ws_steps.specs.declared.calls.Call.TheVariants.{MakeReadable, MakeBytes, MakeWritable, MakeTransform, GetWriter, Write, CloseBy, Cancel, Enqueue, Finish, Fail, Terminate, Pipe, Settle}
use Rattle.ws_steps.specs.declared.calls.StartBy.TheVariants.{Now}
use Rattle.ws_steps.specs.declared.pipes.Prevent.{Prevent}
use Rattle.ws_steps.specs.declared.readable.SizeBy.TheVariants.{Count}
use Rattle.ws_steps.specs.declared.transform.Kind.TheVariants.{Identity}
use Rattle.ws_steps.specs.Promises.{fresh, settle, answer, react, follow, queue_micro, unfollow, use_gift, after_next_job, watch}
use Rattle.ws_steps.specs.Turns.{call_host, row, turns, performed, moments_of, moments}
use Rattle.ws_steps.specs.Jobs.{begin_job}
use Rattle.ws_steps.specs.Calls.{begin}
use Rattle.ws_steps.specs.Bytes as byte
use Rattle.ws_steps.specs.Readable as readable
use Rattle.ws_steps.specs.ReadableHistory.{run_flow, accepted}
use Rattle.ws_steps.specs.Writable as writable
use Rattle.ws_steps.specs.Pipes as pipe
use Rattle.ws_steps.specs.Transform as transform
use Rattle.ws_steps.specs.Run.{Entry, Called, Worked, run}
use Rattle.ws_steps.specs.Slots.{Slots, empty, transform_at}
use Rattle.ws_flow.specs.Told.{Open, Closed, Lost, told}
use Rattle.ws_link_laws.specs.Laws.{all_leave}
use Rattle.ws_link_laws.specs.Link.{silence, lies}
use Rattle.ws_identity_laws.specs.Ends.{IsAnyLink, IsAnyFree}
use Rattle.ws_identity_laws.specs.Passing.{run_acts, run_takes}
use Rattle.ws_identity_laws.specs.Heard.{IsUnused}
use Rattle.ws_identity_laws.specs.Opening.{MayLead}
use Rattle.ws_identity_laws.proofs.Opening.{each_way_opens}
use Rattle.ws_identity_laws.specs.Through.{IsIdentity, lies_in, all_spare, Middle, IsWay, lies_along}
use Rattle.ws_identity_laws.proofs.Begins.{each_any_link_begins}
use Rattle.ws_identity_laws.proofs.Free.{each_any_free_pair_stays}
use Rattle.ws_identity_laws.proofs.Keeps.{each_link_passes}

abbrev s0 : StreamId
s0 = record { 0 = 0 }

abbrev s1 : StreamId
s1 = record { 0 = 1 }

abbrev s2 : StreamId
s2 = record { 0 = 2 }

abbrev s3 : StreamId
s3 = record { 0 = 3 }

abbrev p0 : PipeId
p0 = record { 0 = 0 }

abbrev p1 : PipeId
p1 = record { 0 = 1 }

abbrev v : Value
v = Plain Undefined

-- so many jobs
abbrev jobs : ℕ → List Entry
jobs zero = []
jobs (suc n) = Worked ∷ jobs n

abbrev piped : StreamId → StreamId → Call
piped i j = Pipe i j (record { close = false; abort = false; cancel = false }) None

-- into an identity: its writable half acts on what the source took in

abbrev into_identity : Slots
into_identity = run (Called (MakeReadable 1 Count Now) ∷ Called (MakeTransform Identity 1 1 Now) ∷ Called (piped s0 s1) ∷ []) empty

abbrev enqueued : List Entry
enqueued = Called (Enqueue s0 v) ∷ jobs 16

abbrev finished : List Entry
finished = enqueued ++ (Called (Finish s0) ∷ jobs 16)

identity_acts : (all_leave s0 s1 finished ≡ true)
    × ((run_takes s0 enqueued into_identity ≡ told (v ∷ []) Open)
    × ((run_acts s1 enqueued into_identity ≡ told (v ∷ []) Open)
    × ((lies s0 s1 p0 (run enqueued into_identity) ≡ silence)
    × ((run_takes s0 finished into_identity ≡ told (v ∷ []) Closed)
    × ((run_acts s1 finished into_identity ≡ told (v ∷ []) Closed)
    × (lies s0 s1 p0 (run finished into_identity) ≡ told [] Closed))))))
unfolding fresh settle answer react follow queue_micro unfollow use_gift after_next_job watch readable.call_pull_if_needed readable.accept readable.controller_enqueue readable.stream_close readable.stream_error readable.close_if_empty readable.controller_close readable.controller_error readable.after_take readable.pull_steps readable.default_reader_read readable.disturb readable.reader_generic_initialize readable.start_settled readable.pull_settled readable.cancel_steps readable.stream_cancel readable.cancel_if_readable readable.reader_release writable.ensure_rejected writable.settle_pending writable.update_backpressure writable.refresh_backpressure writable.reject_close_and_closed writable.finish_erroring writable.start_erroring writable.deal_with_rejection writable.controller_error_if_needed writable.process_write writable.process_close writable.advance_queue writable.hand_on writable.write_settled writable.finish_in_flight_close writable.finish_in_flight_close_with_error writable.close_settled writable.start_settled writable.abort_settled writable.controller_write writable.writer_write writable.controller_close writable.stream_close writable.close_with_error_propagation writable.stream_abort writable.abort_if_writable writable.set_up_writer writable.writer_release pipe.finalize pipe.act_by_signal pipe.act pipe.proceed pipe.shutdown pipe.look pipe.look_ready pipe.go_on pipe.keep_chunk pipe.read_ended pipe.write_chunk pipe.write_ended pipe.action_settled pipe.part_settled pipe.no_parts pipe.abort transform.set_backpressure transform.unblock transform.transform_error transform.terminate transform.enqueue transform.enqueued transform.transform_chunk transform.sink_write transform.write_goes_on transform.source_pull transform.sink_close transform.sink_abort transform.source_cancel transform.flush_settled transform.abort_settled transform.cancel_settled call_host row turns performed begin_job begin moments_of moments
identity_acts = (refl, (refl, (refl, (refl, (refl, (refl, refl))))))

-- out of an identity: its readable half takes in what the writable half acted on

abbrev from_identity : Slots
from_identity = run (Called (MakeTransform Identity 1 0 Now) ∷ Called (MakeWritable 1 Count Now) ∷ Called (piped s1 s2) ∷ []) empty

abbrev writer : LockId
writer = record { 0 = 2 }

abbrev written : List Entry
written = Called (GetWriter s0) ∷ Called (Write writer v) ∷ jobs 16

abbrev closed : List Entry
closed = written ++ (Called (CloseBy writer) ∷ jobs 16)

identity_takes : (all_leave s1 s2 closed ≡ true)
    × ((run_acts s0 written from_identity ≡ told (v ∷ []) Open)
    × ((run_takes s1 written from_identity ≡ told (v ∷ []) Open)
    × ((run_acts s2 written from_identity ≡ told (v ∷ []) Open)
    × ((lies s1 s2 p0 (run written from_identity) ≡ silence)
    × ((run_acts s0 closed from_identity ≡ told (v ∷ []) Closed)
    × ((run_takes s1 closed from_identity ≡ told (v ∷ []) Closed)
    × (lies s1 s2 p0 (run closed from_identity) ≡ told [] Closed)))))))
unfolding fresh settle answer react follow queue_micro unfollow use_gift after_next_job watch readable.call_pull_if_needed readable.accept readable.controller_enqueue readable.stream_close readable.stream_error readable.close_if_empty readable.controller_close readable.controller_error readable.after_take readable.pull_steps readable.default_reader_read readable.disturb readable.reader_generic_initialize readable.start_settled readable.pull_settled readable.cancel_steps readable.stream_cancel readable.cancel_if_readable readable.reader_release writable.ensure_rejected writable.settle_pending writable.update_backpressure writable.refresh_backpressure writable.reject_close_and_closed writable.finish_erroring writable.start_erroring writable.deal_with_rejection writable.controller_error_if_needed writable.process_write writable.process_close writable.advance_queue writable.hand_on writable.write_settled writable.finish_in_flight_close writable.finish_in_flight_close_with_error writable.close_settled writable.start_settled writable.abort_settled writable.controller_write writable.writer_write writable.controller_close writable.stream_close writable.close_with_error_propagation writable.stream_abort writable.abort_if_writable writable.set_up_writer writable.writer_release pipe.finalize pipe.act_by_signal pipe.act pipe.proceed pipe.shutdown pipe.look pipe.look_ready pipe.go_on pipe.keep_chunk pipe.read_ended pipe.write_chunk pipe.write_ended pipe.action_settled pipe.part_settled pipe.no_parts pipe.abort transform.set_backpressure transform.unblock transform.transform_error transform.terminate transform.enqueue transform.enqueued transform.transform_chunk transform.sink_write transform.write_goes_on transform.source_pull transform.sink_close transform.sink_abort transform.source_cancel transform.flush_settled transform.abort_settled transform.cancel_settled call_host row turns performed begin_job begin moments_of moments
identity_takes = (refl, (refl, (refl, (refl, (refl, (refl, (refl, refl)))))))

-- nobody has these halves, so the pipe makes a link
abbrev made_from : List Entry
made_from = Called (MakeTransform Identity 1 0 Now) ∷ Called (MakeWritable 1 Count Now) ∷ []

from_identity-free : IsAnyFree s1 s2 (run made_from empty)
unfolding fresh settle answer react follow queue_micro unfollow use_gift after_next_job watch readable.call_pull_if_needed readable.accept readable.controller_enqueue readable.stream_close readable.stream_error readable.close_if_empty readable.controller_close readable.controller_error readable.after_take readable.pull_steps readable.default_reader_read readable.disturb readable.reader_generic_initialize readable.start_settled readable.pull_settled readable.cancel_steps readable.stream_cancel readable.cancel_if_readable readable.reader_release writable.ensure_rejected writable.settle_pending writable.update_backpressure writable.refresh_backpressure writable.reject_close_and_closed writable.finish_erroring writable.start_erroring writable.deal_with_rejection writable.controller_error_if_needed writable.process_write writable.process_close writable.advance_queue writable.hand_on writable.write_settled writable.finish_in_flight_close writable.finish_in_flight_close_with_error writable.close_settled writable.start_settled writable.abort_settled writable.controller_write writable.writer_write writable.controller_close writable.stream_close writable.close_with_error_propagation writable.stream_abort writable.abort_if_writable writable.set_up_writer writable.writer_release pipe.finalize pipe.act_by_signal pipe.act pipe.proceed pipe.shutdown pipe.look pipe.look_ready pipe.go_on pipe.keep_chunk pipe.read_ended pipe.write_chunk pipe.write_ended pipe.action_settled pipe.part_settled pipe.no_parts pipe.abort transform.set_backpressure transform.unblock transform.transform_error transform.terminate transform.enqueue transform.enqueued transform.transform_chunk transform.sink_write transform.write_goes_on transform.source_pull transform.sink_close transform.sink_abort transform.source_cancel transform.flush_settled transform.abort_settled transform.cancel_settled call_host row turns performed begin_job begin moments_of moments
from_identity-free = record { reached = (made_from, refl); source = refl; bare = record { auto = refl; descriptors = refl; reader = refl }; sink = refl; untied = refl; unread = refl; unwritten = refl; locks = refl; apart = refl; requests = refl; queue = refl; close_request = refl; close_in_flight = refl }

from_identity-link : IsAnyLink s1 s2 p0 from_identity
unfolding fresh settle answer react follow queue_micro unfollow use_gift after_next_job watch readable.call_pull_if_needed readable.accept readable.controller_enqueue readable.stream_close readable.stream_error readable.close_if_empty readable.controller_close readable.controller_error readable.after_take readable.pull_steps readable.default_reader_read readable.disturb readable.reader_generic_initialize readable.start_settled readable.pull_settled readable.cancel_steps readable.stream_cancel readable.cancel_if_readable readable.reader_release writable.ensure_rejected writable.settle_pending writable.update_backpressure writable.refresh_backpressure writable.reject_close_and_closed writable.finish_erroring writable.start_erroring writable.deal_with_rejection writable.controller_error_if_needed writable.process_write writable.process_close writable.advance_queue writable.hand_on writable.write_settled writable.finish_in_flight_close writable.finish_in_flight_close_with_error writable.close_settled writable.start_settled writable.abort_settled writable.controller_write writable.writer_write writable.controller_close writable.stream_close writable.close_with_error_propagation writable.stream_abort writable.abort_if_writable writable.set_up_writer writable.writer_release pipe.finalize pipe.act_by_signal pipe.act pipe.proceed pipe.shutdown pipe.look pipe.look_ready pipe.go_on pipe.keep_chunk pipe.read_ended pipe.write_chunk pipe.write_ended pipe.action_settled pipe.part_settled pipe.no_parts pipe.abort transform.set_backpressure transform.unblock transform.transform_error transform.terminate transform.enqueue transform.enqueued transform.transform_chunk transform.sink_write transform.write_goes_on transform.source_pull transform.sink_close transform.sink_abort transform.source_cancel transform.flush_settled transform.abort_settled transform.cancel_settled call_host row turns performed begin_job begin moments_of moments
from_identity-link = (each_any_link_begins s1 s2 (record { close = false; abort = false; cancel = false }) None (run made_from empty) from_identity-free tt).link

abbrev t0 : TransformId
t0 = record { 0 = 0 }

abbrev writer0 : LockId
writer0 = record { 0 = 0 }

-- the readable half fails, and so the transform stream: what was acted on and taken in stays, and the link into it is lost

abbrev errored : List Entry
errored = enqueued ++ (Called (Fail s2 Undefined) ∷ Called (Enqueue s0 v) ∷ jobs 24)

identity_errs : (all_leave s0 s1 errored ≡ true)
    × ((run_takes s0 errored into_identity ≡ told (v ∷ v ∷ []) Open)
    × ((run_acts s1 errored into_identity ≡ told (v ∷ []) Open)
    × (lies s0 s1 p0 (run errored into_identity) ≡ told [] Lost)))
unfolding fresh settle answer react follow queue_micro unfollow use_gift after_next_job watch readable.call_pull_if_needed readable.accept readable.controller_enqueue readable.stream_close readable.stream_error readable.close_if_empty readable.controller_close readable.controller_error readable.after_take readable.pull_steps readable.default_reader_read readable.disturb readable.reader_generic_initialize readable.start_settled readable.pull_settled readable.cancel_steps readable.stream_cancel readable.cancel_if_readable readable.reader_release writable.ensure_rejected writable.settle_pending writable.update_backpressure writable.refresh_backpressure writable.reject_close_and_closed writable.finish_erroring writable.start_erroring writable.deal_with_rejection writable.controller_error_if_needed writable.process_write writable.process_close writable.advance_queue writable.hand_on writable.write_settled writable.finish_in_flight_close writable.finish_in_flight_close_with_error writable.close_settled writable.start_settled writable.abort_settled writable.controller_write writable.writer_write writable.controller_close writable.stream_close writable.close_with_error_propagation writable.stream_abort writable.abort_if_writable writable.set_up_writer writable.writer_release pipe.finalize pipe.act_by_signal pipe.act pipe.proceed pipe.shutdown pipe.look pipe.look_ready pipe.go_on pipe.keep_chunk pipe.read_ended pipe.write_chunk pipe.write_ended pipe.action_settled pipe.part_settled pipe.no_parts pipe.abort transform.set_backpressure transform.unblock transform.transform_error transform.terminate transform.enqueue transform.enqueued transform.transform_chunk transform.sink_write transform.write_goes_on transform.source_pull transform.sink_close transform.sink_abort transform.source_cancel transform.flush_settled transform.abort_settled transform.cancel_settled call_host row turns performed begin_job begin moments_of moments
identity_errs = (refl, (refl, (refl, refl)))

-- the source fails, and the pipe aborts the writable half

abbrev aborted : List Entry
aborted = Called (Enqueue s0 v) ∷ Called (Fail s0 Undefined) ∷ jobs 24

identity_aborts : (all_leave s0 s1 aborted ≡ true)
    × ((run_takes s0 aborted into_identity ≡ told (v ∷ []) Open)
    × ((run_acts s1 aborted into_identity ≡ silence)
    × ((run_takes s2 aborted into_identity ≡ silence)
    × (lies s0 s1 p0 (run aborted into_identity) ≡ told [] Lost))))
unfolding fresh settle answer react follow queue_micro unfollow use_gift after_next_job watch readable.call_pull_if_needed readable.accept readable.controller_enqueue readable.stream_close readable.stream_error readable.close_if_empty readable.controller_close readable.controller_error readable.after_take readable.pull_steps readable.default_reader_read readable.disturb readable.reader_generic_initialize readable.start_settled readable.pull_settled readable.cancel_steps readable.stream_cancel readable.cancel_if_readable readable.reader_release writable.ensure_rejected writable.settle_pending writable.update_backpressure writable.refresh_backpressure writable.reject_close_and_closed writable.finish_erroring writable.start_erroring writable.deal_with_rejection writable.controller_error_if_needed writable.process_write writable.process_close writable.advance_queue writable.hand_on writable.write_settled writable.finish_in_flight_close writable.finish_in_flight_close_with_error writable.close_settled writable.start_settled writable.abort_settled writable.controller_write writable.writer_write writable.controller_close writable.stream_close writable.close_with_error_propagation writable.stream_abort writable.abort_if_writable writable.set_up_writer writable.writer_release pipe.finalize pipe.act_by_signal pipe.act pipe.proceed pipe.shutdown pipe.look pipe.look_ready pipe.go_on pipe.keep_chunk pipe.read_ended pipe.write_chunk pipe.write_ended pipe.action_settled pipe.part_settled pipe.no_parts pipe.abort transform.set_backpressure transform.unblock transform.transform_error transform.terminate transform.enqueue transform.enqueued transform.transform_chunk transform.sink_write transform.write_goes_on transform.source_pull transform.sink_close transform.sink_abort transform.source_cancel transform.flush_settled transform.abort_settled transform.cancel_settled call_host row turns performed begin_job begin moments_of moments
identity_aborts = (refl, (refl, (refl, (refl, refl))))

-- the readable half is cancelled, and then the writable half acts on a chunk: that isn't taken in, and what is in the transform stream says so

abbrev dropped : List Entry
dropped = Called (MakeTransform Identity 1 1 Now) ∷ Called (GetWriter s0) ∷ (jobs 12 ++ (Called (Cancel s1 Undefined) ∷ Called (Write writer0 v) ∷ jobs 12))

identity_drops : (all_spare s1 dropped ≡ true)
    × ((run_acts s0 dropped empty ≡ told (v ∷ []) Open)
    × ((run_takes s1 dropped empty ≡ silence)
    × (lies_in s0 s1 dropped ≡ told [] Lost)))
unfolding fresh settle answer react follow queue_micro unfollow use_gift after_next_job watch readable.call_pull_if_needed readable.accept readable.controller_enqueue readable.stream_close readable.stream_error readable.close_if_empty readable.controller_close readable.controller_error readable.after_take readable.pull_steps readable.default_reader_read readable.disturb readable.reader_generic_initialize readable.start_settled readable.pull_settled readable.cancel_steps readable.stream_cancel readable.cancel_if_readable readable.reader_release writable.ensure_rejected writable.settle_pending writable.update_backpressure writable.refresh_backpressure writable.reject_close_and_closed writable.finish_erroring writable.start_erroring writable.deal_with_rejection writable.controller_error_if_needed writable.process_write writable.process_close writable.advance_queue writable.hand_on writable.write_settled writable.finish_in_flight_close writable.finish_in_flight_close_with_error writable.close_settled writable.start_settled writable.abort_settled writable.controller_write writable.writer_write writable.controller_close writable.stream_close writable.close_with_error_propagation writable.stream_abort writable.abort_if_writable writable.set_up_writer writable.writer_release pipe.finalize pipe.act_by_signal pipe.act pipe.proceed pipe.shutdown pipe.look pipe.look_ready pipe.go_on pipe.keep_chunk pipe.read_ended pipe.write_chunk pipe.write_ended pipe.action_settled pipe.part_settled pipe.no_parts pipe.abort transform.set_backpressure transform.unblock transform.transform_error transform.terminate transform.enqueue transform.enqueued transform.transform_chunk transform.sink_write transform.write_goes_on transform.source_pull transform.sink_close transform.sink_abort transform.source_cancel transform.flush_settled transform.abort_settled transform.cancel_settled call_host row turns performed begin_job begin moments_of moments
identity_drops = (refl, (refl, (refl, refl)))

-- the host enqueues into the readable half itself, or terminates the transform stream: this is taken in, and the writable half acted on nothing. So
-- the law of the way through asks that it does neither

abbrev put : List Entry
put = Called (MakeTransform Identity 1 1 Now) ∷ Called (Enqueue s1 v) ∷ []

abbrev ended : List Entry
ended = Called (MakeTransform Identity 1 1 Now) ∷ Called (Terminate s1) ∷ []

host_puts : (all_spare s1 put ≡ false)
    × ((run_acts s0 put empty ≡ silence)
    × ((run_takes s1 put empty ≡ told (v ∷ []) Open)
    × ((lies_in s0 s1 put ≡ silence)
    × ((all_spare s1 ended ≡ false)
    × ((run_acts s0 ended empty ≡ silence)
    × (run_takes s1 ended empty ≡ told [] Closed))))))
unfolding fresh settle answer react follow queue_micro unfollow use_gift after_next_job watch readable.call_pull_if_needed readable.accept readable.controller_enqueue readable.stream_close readable.stream_error readable.close_if_empty readable.controller_close readable.controller_error readable.after_take readable.pull_steps readable.default_reader_read readable.disturb readable.reader_generic_initialize readable.start_settled readable.pull_settled readable.cancel_steps readable.stream_cancel readable.cancel_if_readable readable.reader_release writable.ensure_rejected writable.settle_pending writable.update_backpressure writable.refresh_backpressure writable.reject_close_and_closed writable.finish_erroring writable.start_erroring writable.deal_with_rejection writable.controller_error_if_needed writable.process_write writable.process_close writable.advance_queue writable.hand_on writable.write_settled writable.finish_in_flight_close writable.finish_in_flight_close_with_error writable.close_settled writable.start_settled writable.abort_settled writable.controller_write writable.writer_write writable.controller_close writable.stream_close writable.close_with_error_propagation writable.stream_abort writable.abort_if_writable writable.set_up_writer writable.writer_release pipe.finalize pipe.act_by_signal pipe.act pipe.proceed pipe.shutdown pipe.look pipe.look_ready pipe.go_on pipe.keep_chunk pipe.read_ended pipe.write_chunk pipe.write_ended pipe.action_settled pipe.part_settled pipe.no_parts pipe.abort transform.set_backpressure transform.unblock transform.transform_error transform.terminate transform.enqueue transform.enqueued transform.transform_chunk transform.sink_write transform.write_goes_on transform.source_pull transform.sink_close transform.sink_abort transform.source_cancel transform.flush_settled transform.abort_settled transform.cancel_settled call_host row turns performed begin_job begin moments_of moments
host_puts = (refl, (refl, (refl, (refl, (refl, (refl, refl))))))

-- from a source through an identity to a sink

abbrev made : List Entry
made = Called (MakeReadable 1 Count Now) ∷ Called (MakeTransform Identity 1 0 Now) ∷ Called (MakeWritable 1 Count Now) ∷ []

abbrev keen : Prevent
keen = record { close = false; abort = false; cancel = false }

abbrev m : Middle
m = record { number = t0; writable = s1; readable = s2; out = p1 }

abbrev first : Slots
first = run (Called (piped s0 s1) ∷ []) (run made empty)

abbrev both : Slots
both = run (Called (piped s2 s3) ∷ []) first

made-first : IsAnyFree s0 s1 (run made empty)
unfolding fresh settle answer react follow queue_micro unfollow use_gift after_next_job watch readable.call_pull_if_needed readable.accept readable.controller_enqueue readable.stream_close readable.stream_error readable.close_if_empty readable.controller_close readable.controller_error readable.after_take readable.pull_steps readable.default_reader_read readable.disturb readable.reader_generic_initialize readable.start_settled readable.pull_settled readable.cancel_steps readable.stream_cancel readable.cancel_if_readable readable.reader_release writable.ensure_rejected writable.settle_pending writable.update_backpressure writable.refresh_backpressure writable.reject_close_and_closed writable.finish_erroring writable.start_erroring writable.deal_with_rejection writable.controller_error_if_needed writable.process_write writable.process_close writable.advance_queue writable.hand_on writable.write_settled writable.finish_in_flight_close writable.finish_in_flight_close_with_error writable.close_settled writable.start_settled writable.abort_settled writable.controller_write writable.writer_write writable.controller_close writable.stream_close writable.close_with_error_propagation writable.stream_abort writable.abort_if_writable writable.set_up_writer writable.writer_release pipe.finalize pipe.act_by_signal pipe.act pipe.proceed pipe.shutdown pipe.look pipe.look_ready pipe.go_on pipe.keep_chunk pipe.read_ended pipe.write_chunk pipe.write_ended pipe.action_settled pipe.part_settled pipe.no_parts pipe.abort transform.set_backpressure transform.unblock transform.transform_error transform.terminate transform.enqueue transform.enqueued transform.transform_chunk transform.sink_write transform.write_goes_on transform.source_pull transform.sink_close transform.sink_abort transform.source_cancel transform.flush_settled transform.abort_settled transform.cancel_settled call_host row turns performed begin_job begin moments_of moments
made-first = record { reached = (made, refl); source = refl; bare = record { auto = refl; descriptors = refl; reader = refl }; sink = refl; untied = refl; unread = refl; unwritten = refl; locks = refl; apart = refl; requests = refl; queue = refl; close_request = refl; close_in_flight = refl }

made-last : IsAnyFree s2 s3 (run made empty)
unfolding fresh settle answer react follow queue_micro unfollow use_gift after_next_job watch readable.call_pull_if_needed readable.accept readable.controller_enqueue readable.stream_close readable.stream_error readable.close_if_empty readable.controller_close readable.controller_error readable.after_take readable.pull_steps readable.default_reader_read readable.disturb readable.reader_generic_initialize readable.start_settled readable.pull_settled readable.cancel_steps readable.stream_cancel readable.cancel_if_readable readable.reader_release writable.ensure_rejected writable.settle_pending writable.update_backpressure writable.refresh_backpressure writable.reject_close_and_closed writable.finish_erroring writable.start_erroring writable.deal_with_rejection writable.controller_error_if_needed writable.process_write writable.process_close writable.advance_queue writable.hand_on writable.write_settled writable.finish_in_flight_close writable.finish_in_flight_close_with_error writable.close_settled writable.start_settled writable.abort_settled writable.controller_write writable.writer_write writable.controller_close writable.stream_close writable.close_with_error_propagation writable.stream_abort writable.abort_if_writable writable.set_up_writer writable.writer_release pipe.finalize pipe.act_by_signal pipe.act pipe.proceed pipe.shutdown pipe.look pipe.look_ready pipe.go_on pipe.keep_chunk pipe.read_ended pipe.write_chunk pipe.write_ended pipe.action_settled pipe.part_settled pipe.no_parts pipe.abort transform.set_backpressure transform.unblock transform.transform_error transform.terminate transform.enqueue transform.enqueued transform.transform_chunk transform.sink_write transform.write_goes_on transform.source_pull transform.sink_close transform.sink_abort transform.source_cancel transform.flush_settled transform.abort_settled transform.cancel_settled call_host row turns performed begin_job begin moments_of moments
made-last = record { reached = (made, refl); source = refl; bare = record { auto = refl; descriptors = refl; reader = refl }; sink = refl; untied = refl; unread = refl; unwritten = refl; locks = refl; apart = refl; requests = refl; queue = refl; close_request = refl; close_in_flight = refl }

-- the two pipes make a way
first-link : IsAnyLink s0 s1 p0 first
unfolding fresh settle answer react follow queue_micro unfollow use_gift after_next_job watch readable.call_pull_if_needed readable.accept readable.controller_enqueue readable.stream_close readable.stream_error readable.close_if_empty readable.controller_close readable.controller_error readable.after_take readable.pull_steps readable.default_reader_read readable.disturb readable.reader_generic_initialize readable.start_settled readable.pull_settled readable.cancel_steps readable.stream_cancel readable.cancel_if_readable readable.reader_release writable.ensure_rejected writable.settle_pending writable.update_backpressure writable.refresh_backpressure writable.reject_close_and_closed writable.finish_erroring writable.start_erroring writable.deal_with_rejection writable.controller_error_if_needed writable.process_write writable.process_close writable.advance_queue writable.hand_on writable.write_settled writable.finish_in_flight_close writable.finish_in_flight_close_with_error writable.close_settled writable.start_settled writable.abort_settled writable.controller_write writable.writer_write writable.controller_close writable.stream_close writable.close_with_error_propagation writable.stream_abort writable.abort_if_writable writable.set_up_writer writable.writer_release pipe.finalize pipe.act_by_signal pipe.act pipe.proceed pipe.shutdown pipe.look pipe.look_ready pipe.go_on pipe.keep_chunk pipe.read_ended pipe.write_chunk pipe.write_ended pipe.action_settled pipe.part_settled pipe.no_parts pipe.abort transform.set_backpressure transform.unblock transform.transform_error transform.terminate transform.enqueue transform.enqueued transform.transform_chunk transform.sink_write transform.write_goes_on transform.source_pull transform.sink_close transform.sink_abort transform.source_cancel transform.flush_settled transform.abort_settled transform.cancel_settled call_host row turns performed begin_job begin moments_of moments
first-link = (each_any_link_begins s0 s1 keen None (run made empty) made-first tt).link

last-free : IsAnyFree s2 s3 first
last-free = each_any_free_pair_stays s2 s3 (run made empty) (Called (piped s0 s1) ∷ []) made-last refl

last-link : IsAnyLink s2 s3 p1 both
unfolding fresh settle answer react follow queue_micro unfollow use_gift after_next_job watch readable.call_pull_if_needed readable.accept readable.controller_enqueue readable.stream_close readable.stream_error readable.close_if_empty readable.controller_close readable.controller_error readable.after_take readable.pull_steps readable.default_reader_read readable.disturb readable.reader_generic_initialize readable.start_settled readable.pull_settled readable.cancel_steps readable.stream_cancel readable.cancel_if_readable readable.reader_release writable.ensure_rejected writable.settle_pending writable.update_backpressure writable.refresh_backpressure writable.reject_close_and_closed writable.finish_erroring writable.start_erroring writable.deal_with_rejection writable.controller_error_if_needed writable.process_write writable.process_close writable.advance_queue writable.hand_on writable.write_settled writable.finish_in_flight_close writable.finish_in_flight_close_with_error writable.close_settled writable.start_settled writable.abort_settled writable.controller_write writable.writer_write writable.controller_close writable.stream_close writable.close_with_error_propagation writable.stream_abort writable.abort_if_writable writable.set_up_writer writable.writer_release pipe.finalize pipe.act_by_signal pipe.act pipe.proceed pipe.shutdown pipe.look pipe.look_ready pipe.go_on pipe.keep_chunk pipe.read_ended pipe.write_chunk pipe.write_ended pipe.action_settled pipe.part_settled pipe.no_parts pipe.abort transform.set_backpressure transform.unblock transform.transform_error transform.terminate transform.enqueue transform.enqueued transform.transform_chunk transform.sink_write transform.write_goes_on transform.source_pull transform.sink_close transform.sink_abort transform.source_cancel transform.flush_settled transform.abort_settled transform.cancel_settled call_host row turns performed begin_job begin moments_of moments
last-link = (each_any_link_begins s2 s3 keen None first last-free tt).link

both-identity : IsIdentity t0 s1 s2 both
unfolding fresh settle answer react follow queue_micro unfollow use_gift after_next_job watch readable.call_pull_if_needed readable.accept readable.controller_enqueue readable.stream_close readable.stream_error readable.close_if_empty readable.controller_close readable.controller_error readable.after_take readable.pull_steps readable.default_reader_read readable.disturb readable.reader_generic_initialize readable.start_settled readable.pull_settled readable.cancel_steps readable.stream_cancel readable.cancel_if_readable readable.reader_release writable.ensure_rejected writable.settle_pending writable.update_backpressure writable.refresh_backpressure writable.reject_close_and_closed writable.finish_erroring writable.start_erroring writable.deal_with_rejection writable.controller_error_if_needed writable.process_write writable.process_close writable.advance_queue writable.hand_on writable.write_settled writable.finish_in_flight_close writable.finish_in_flight_close_with_error writable.close_settled writable.start_settled writable.abort_settled writable.controller_write writable.writer_write writable.controller_close writable.stream_close writable.close_with_error_propagation writable.stream_abort writable.abort_if_writable writable.set_up_writer writable.writer_release pipe.finalize pipe.act_by_signal pipe.act pipe.proceed pipe.shutdown pipe.look pipe.look_ready pipe.go_on pipe.keep_chunk pipe.read_ended pipe.write_chunk pipe.write_ended pipe.action_settled pipe.part_settled pipe.no_parts pipe.abort transform.set_backpressure transform.unblock transform.transform_error transform.terminate transform.enqueue transform.enqueued transform.transform_chunk transform.sink_write transform.write_goes_on transform.source_pull transform.sink_close transform.sink_abort transform.source_cancel transform.flush_settled transform.abort_settled transform.cancel_settled call_host row turns performed begin_job begin moments_of moments
both-identity = record { stream = transform_at t0 both; there = refl; kind = refl; writable = refl; readable = refl }

both-way : IsWay s0 p0 (m ∷ []) s3 both
both-way = ((each_link_passes s0 s1 p0 first (Called (piped s2 s3) ∷ []) first-link refl).link, (both-identity, last-link))

abbrev whole : List Entry
whole = made ++ (Called (piped s0 s1) ∷ Called (piped s2 s3) ∷ [])

abbrev through : List Entry
through = Called (Enqueue s0 v) ∷ (jobs 20 ++ (Called (Finish s0) ∷ jobs 20))

abbrev settled : List Entry
settled = through ++ (Called (Settle (record { 0 = 1 }) Ok) ∷ Called (Settle (record { 0 = 2 }) Ok) ∷ jobs 12)

all_pass : (lies_along s0 p0 (m ∷ []) s3 whole ≡ silence)
    × ((run_takes s0 through both ≡ told (v ∷ []) Closed)
    × ((run_acts s3 through both ≡ told (v ∷ []) Open)
    × ((lies_along s0 p0 (m ∷ []) s3 (whole ++ through) ≡ told [] Closed)
    × (run_acts s3 settled both ≡ told (v ∷ []) Closed))))
unfolding fresh settle answer react follow queue_micro unfollow use_gift after_next_job watch readable.call_pull_if_needed readable.accept readable.controller_enqueue readable.stream_close readable.stream_error readable.close_if_empty readable.controller_close readable.controller_error readable.after_take readable.pull_steps readable.default_reader_read readable.disturb readable.reader_generic_initialize readable.start_settled readable.pull_settled readable.cancel_steps readable.stream_cancel readable.cancel_if_readable readable.reader_release writable.ensure_rejected writable.settle_pending writable.update_backpressure writable.refresh_backpressure writable.reject_close_and_closed writable.finish_erroring writable.start_erroring writable.deal_with_rejection writable.controller_error_if_needed writable.process_write writable.process_close writable.advance_queue writable.hand_on writable.write_settled writable.finish_in_flight_close writable.finish_in_flight_close_with_error writable.close_settled writable.start_settled writable.abort_settled writable.controller_write writable.writer_write writable.controller_close writable.stream_close writable.close_with_error_propagation writable.stream_abort writable.abort_if_writable writable.set_up_writer writable.writer_release pipe.finalize pipe.act_by_signal pipe.act pipe.proceed pipe.shutdown pipe.look pipe.look_ready pipe.go_on pipe.keep_chunk pipe.read_ended pipe.write_chunk pipe.write_ended pipe.action_settled pipe.part_settled pipe.no_parts pipe.abort transform.set_backpressure transform.unblock transform.transform_error transform.terminate transform.enqueue transform.enqueued transform.transform_chunk transform.sink_write transform.write_goes_on transform.source_pull transform.sink_close transform.sink_abort transform.source_cancel transform.flush_settled transform.abort_settled transform.cancel_settled call_host row turns performed begin_job begin moments_of moments
all_pass = (refl, (refl, (refl, (refl, refl))))

-- and nothing went over it yet
whole-unused : IsUnused s0 p0 (m ∷ []) s3 whole
unfolding fresh settle answer react follow queue_micro unfollow use_gift after_next_job watch readable.call_pull_if_needed readable.accept readable.controller_enqueue readable.stream_close readable.stream_error readable.close_if_empty readable.controller_close readable.controller_error readable.after_take readable.pull_steps readable.default_reader_read readable.disturb readable.reader_generic_initialize readable.start_settled readable.pull_settled readable.cancel_steps readable.stream_cancel readable.cancel_if_readable readable.reader_release writable.ensure_rejected writable.settle_pending writable.update_backpressure writable.refresh_backpressure writable.reject_close_and_closed writable.finish_erroring writable.start_erroring writable.deal_with_rejection writable.controller_error_if_needed writable.process_write writable.process_close writable.advance_queue writable.hand_on writable.write_settled writable.finish_in_flight_close writable.finish_in_flight_close_with_error writable.close_settled writable.start_settled writable.abort_settled writable.controller_write writable.writer_write writable.controller_close writable.stream_close writable.close_with_error_propagation writable.stream_abort writable.abort_if_writable writable.set_up_writer writable.writer_release pipe.finalize pipe.act_by_signal pipe.act pipe.proceed pipe.shutdown pipe.look pipe.look_ready pipe.go_on pipe.keep_chunk pipe.read_ended pipe.write_chunk pipe.write_ended pipe.action_settled pipe.part_settled pipe.no_parts pipe.abort transform.set_backpressure transform.unblock transform.transform_error transform.terminate transform.enqueue transform.enqueued transform.transform_chunk transform.sink_write transform.write_goes_on transform.source_pull transform.sink_close transform.sink_abort transform.source_cancel transform.flush_settled transform.abort_settled transform.cancel_settled call_host row turns performed begin_job begin moments_of moments
whole-unused = record { way = both-way; source = refl; sink = refl; lies = refl; accepted = refl; written = refl; closed = refl }

-- and by the law of openings
whole-may : MayLead s0 (m ∷ []) s3 made
unfolding fresh settle answer react follow queue_micro unfollow use_gift after_next_job watch readable.call_pull_if_needed readable.accept readable.controller_enqueue readable.stream_close readable.stream_error readable.close_if_empty readable.controller_close readable.controller_error readable.after_take readable.pull_steps readable.default_reader_read readable.disturb readable.reader_generic_initialize readable.start_settled readable.pull_settled readable.cancel_steps readable.stream_cancel readable.cancel_if_readable readable.reader_release writable.ensure_rejected writable.settle_pending writable.update_backpressure writable.refresh_backpressure writable.reject_close_and_closed writable.finish_erroring writable.start_erroring writable.deal_with_rejection writable.controller_error_if_needed writable.process_write writable.process_close writable.advance_queue writable.hand_on writable.write_settled writable.finish_in_flight_close writable.finish_in_flight_close_with_error writable.close_settled writable.start_settled writable.abort_settled writable.controller_write writable.writer_write writable.controller_close writable.stream_close writable.close_with_error_propagation writable.stream_abort writable.abort_if_writable writable.set_up_writer writable.writer_release pipe.finalize pipe.act_by_signal pipe.act pipe.proceed pipe.shutdown pipe.look pipe.look_ready pipe.go_on pipe.keep_chunk pipe.read_ended pipe.write_chunk pipe.write_ended pipe.action_settled pipe.part_settled pipe.no_parts pipe.abort transform.set_backpressure transform.unblock transform.transform_error transform.terminate transform.enqueue transform.enqueued transform.transform_chunk transform.sink_write transform.write_goes_on transform.source_pull transform.sink_close transform.sink_abort transform.source_cancel transform.flush_settled transform.abort_settled transform.cancel_settled call_host row turns performed begin_job begin moments_of moments
whole-may = record {
  made = refl;
  source = refl;
  no_rooms = refl;
  sink = refl;
  own = refl;
  own_sink = refl;
  between = (record { stream = transform_at t0 (run made empty); there = refl; kind = refl; writable = refl; readable = refl }, tt);
  numbered = (refl, tt);
  apart = refl;
}

whole-opens : IsUnused s0 p0 (m ∷ []) s3 whole
whole-opens = each_way_opens made s0 s3 (m ∷ []) keen whole-may

-- from a byte stream through an identity to a sink: what it takes in are chunks of bytes, of which the history of a default controller tells nothing

abbrev made_bytes : List Entry
made_bytes = Called (MakeBytes 0 0 Now) ∷ Called (MakeTransform Identity 1 0 Now) ∷ Called (MakeWritable 1 Count Now) ∷ []

bytes-may : MayLead s0 (m ∷ []) s3 made_bytes
unfolding fresh settle answer react follow queue_micro unfollow use_gift after_next_job watch readable.call_pull_if_needed readable.accept readable.controller_enqueue readable.stream_close readable.stream_error readable.close_if_empty readable.controller_close readable.controller_error readable.after_take readable.pull_steps readable.default_reader_read readable.disturb readable.reader_generic_initialize readable.start_settled readable.pull_settled readable.cancel_steps readable.stream_cancel readable.cancel_if_readable readable.reader_release writable.ensure_rejected writable.settle_pending writable.update_backpressure writable.refresh_backpressure writable.reject_close_and_closed writable.finish_erroring writable.start_erroring writable.deal_with_rejection writable.controller_error_if_needed writable.process_write writable.process_close writable.advance_queue writable.hand_on writable.write_settled writable.finish_in_flight_close writable.finish_in_flight_close_with_error writable.close_settled writable.start_settled writable.abort_settled writable.controller_write writable.writer_write writable.controller_close writable.stream_close writable.close_with_error_propagation writable.stream_abort writable.abort_if_writable writable.set_up_writer writable.writer_release pipe.finalize pipe.act_by_signal pipe.act pipe.proceed pipe.shutdown pipe.look pipe.look_ready pipe.go_on pipe.keep_chunk pipe.read_ended pipe.write_chunk pipe.write_ended pipe.action_settled pipe.part_settled pipe.no_parts pipe.abort transform.set_backpressure transform.unblock transform.transform_error transform.terminate transform.enqueue transform.enqueued transform.transform_chunk transform.sink_write transform.write_goes_on transform.source_pull transform.sink_close transform.sink_abort transform.source_cancel transform.flush_settled transform.abort_settled transform.cancel_settled call_host row turns performed begin_job begin moments_of moments
bytes-may = record {
  made = refl;
  source = refl;
  no_rooms = refl;
  sink = refl;
  own = refl;
  own_sink = refl;
  between = (record { stream = transform_at t0 (run made_bytes empty); there = refl; kind = refl; writable = refl; readable = refl }, tt);
  numbered = (refl, tt);
  apart = refl;
}

abbrev whole_bytes : List Entry
whole_bytes = made_bytes ++ (Called (piped s0 s1) ∷ Called (piped s2 s3) ∷ [])

bytes-open : IsUnused s0 p0 (m ∷ []) s3 whole_bytes
bytes-open = each_way_opens made_bytes s0 s3 (m ∷ []) keen bytes-may

abbrev chunk : Value
chunk = Bytes (1 ∷ [])

abbrev bytes_through : List Entry
bytes_through = Called (Enqueue s0 chunk) ∷ (jobs 20 ++ (Called (Finish s0) ∷ jobs 20))

bytes_pass : let both_bytes : Slots = run whole_bytes empty in
    (run_takes s0 bytes_through both_bytes ≡ told (chunk ∷ []) Closed)
    × ((accepted s0 bytes_through both_bytes ≡ chunk ∷ [])
    × (((run_flow s0 bytes_through both_bytes).entered ≡ [])
    × (run_acts s3 bytes_through both_bytes ≡ told (chunk ∷ []) Open)))
unfolding fresh settle answer react follow queue_micro unfollow use_gift after_next_job watch readable.call_pull_if_needed readable.accept readable.controller_enqueue readable.stream_close readable.stream_error readable.close_if_empty readable.controller_close readable.controller_error readable.after_take readable.pull_steps readable.default_reader_read readable.disturb readable.reader_generic_initialize readable.start_settled readable.pull_settled readable.cancel_steps readable.stream_cancel readable.cancel_if_readable readable.reader_release writable.ensure_rejected writable.settle_pending writable.update_backpressure writable.refresh_backpressure writable.reject_close_and_closed writable.finish_erroring writable.start_erroring writable.deal_with_rejection writable.controller_error_if_needed writable.process_write writable.process_close writable.advance_queue writable.hand_on writable.write_settled writable.finish_in_flight_close writable.finish_in_flight_close_with_error writable.close_settled writable.start_settled writable.abort_settled writable.controller_write writable.writer_write writable.controller_close writable.stream_close writable.close_with_error_propagation writable.stream_abort writable.abort_if_writable writable.set_up_writer writable.writer_release pipe.finalize pipe.act_by_signal pipe.act pipe.proceed pipe.shutdown pipe.look pipe.look_ready pipe.go_on pipe.keep_chunk pipe.read_ended pipe.write_chunk pipe.write_ended pipe.action_settled pipe.part_settled pipe.no_parts pipe.abort transform.set_backpressure transform.unblock transform.transform_error transform.terminate transform.enqueue transform.enqueued transform.transform_chunk transform.sink_write transform.write_goes_on transform.source_pull transform.sink_close transform.sink_abort transform.source_cancel transform.flush_settled transform.abort_settled transform.cancel_settled call_host row turns performed begin_job begin moments_of moments byte.call_pull_if_needed byte.stream_close byte.controller_error byte.handle_queue_drain byte.pull_steps byte.default_reader_read byte.controller_close byte.controller_enqueue byte.start_settled byte.pull_settled byte.stream_cancel byte.cancel_if_readable byte.reader_release byte.reader_initialize byte.read
bytes_pass = (refl, (refl, (refl, refl)))
