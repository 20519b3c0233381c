-- Links with halves of transform streams as their ends: why these are of the host's kind, and what is told of them, on worked examples.
use Rattle.std.proofs.Common.{◌≡◌, ℕ, zero, suc, true, false, [], ◌∷◌, ◌++◌, List, None, refl}
use Rattle.ws_value.specs.declared.{ids.PipeId.{PipeId}, ids.StreamId.{StreamId}}
use Rattle.ws_value.specs.declared.value.{Plain.TheVariants.{Undefined}, Value.{Value}, Value.TheVariants.{Plain}}
use Rattle.ws_steps.specs.declared.calls.Answer.TheVariants.{Ok}
use Rattle.ws_steps.specs.declared.calls.Call.{Call}
use Rattle.ws_steps.specs.declared.calls.Call.TheVariants.{MakeReadable, MakeWritable, MakeTransform, GetWriter, Write, Close, Enqueue, Finish, Terminate, Pipe, Settle}
use Rattle.ws_steps.specs.declared.calls.StartBy.TheVariants.{Now}
use Rattle.ws_steps.specs.declared.readable.SizeBy.TheVariants.{Count}
use Rattle.ws_steps.specs.declared.transform.Kind.TheVariants.{Identity, Host}
use Rattle.ws_steps.specs.Promises.{fresh, settle, answer, react, follow, queue_micro, unfollow, use_gift, after_next_job, watch}
use Rattle.ws_steps.specs.Turns.{call_host, row, turns, performed}
use Rattle.ws_steps.specs.Jobs.{begin_job}
use Rattle.ws_steps.specs.Calls.{begin}
use Rattle.ws_steps.specs.Readable as readable
use Rattle.ws_steps.specs.Writable as writable
use Rattle.ws_steps.specs.Pipes as pipe
use Rattle.ws_steps.specs.Transform as transform
use Rattle.ws_steps.specs.Run.{Entry, Called, Worked, Heard, run}
use Rattle.ws_steps.specs.Slots.{Slots, empty}
use Rattle.ws_flow.specs.Told.{Open, Closed, told}
use Rattle.ws_link_laws.specs.Laws.{all_leave, run_heard, run_enters}
use Rattle.ws_link_laws.specs.Link.{silence, behind}
use Rattle.ws_link_laws.specs.Sound.{IsLink}
use Rattle.ws_link_laws.proofs.Begins.{link-begins}
use Rattle.ws_link_laws.proofs.Pipelines.{opened-source, opened-transform}

abbrev s0 : StreamId
s0 = record { 0 = 0 }

abbrev s1 : StreamId
s1 = record { 0 = 1 }

abbrev s2 : StreamId
s2 = record { 0 = 2 }

abbrev p0 : PipeId
p0 = record { 0 = 0 }

abbrev v : Value
v = Plain Undefined

-- so many jobs
abbrev jobs : ℕ → List Entry
jobs zero = []
jobs (suc n) = Worked ∷ jobs n

-- so many events that the host takes
abbrev heard : ℕ → List Entry
heard zero = []
heard (suc n) = Heard ∷ heard n

abbrev piped : StreamId → StreamId → Call
piped i j = Pipe i j (record { close = false; abort = false; cancel = false }) None

-- a chunk enters the readable half of an identity transform, and no call enqueues it there: so the law asks that the algorithms are the host's

abbrev from_identity : Slots
from_identity = run (Called (MakeTransform Identity 1 0 Now) ∷ Called (MakeWritable 1 Count Now) ∷ Called (piped s1 s2) ∷ []) empty

abbrev written : List Entry
written = Called (GetWriter s0) ∷ Called (Write (record { 0 = 2 }) v) ∷ jobs 16

identity_enters : (all_leave s1 s2 written ≡ true)
    × ((run_enters s1 written from_identity ≡ silence)
    × ((behind s1 s2 p0 from_identity ≡ silence)
    × (behind s1 s2 p0 (run written from_identity) ≡ told (v ∷ []) Open)))
unfolding fresh settle answer react follow queue_micro unfollow use_gift after_next_job watch readable.call_pull_if_needed readable.accept readable.controller_enqueue readable.stream_close readable.stream_error readable.close_if_empty readable.controller_close readable.controller_error readable.after_take readable.pull_steps readable.default_reader_read readable.disturb readable.reader_generic_initialize readable.start_settled readable.pull_settled readable.cancel_steps readable.stream_cancel readable.cancel_if_readable readable.reader_release writable.ensure_rejected writable.settle_pending writable.update_backpressure writable.refresh_backpressure writable.reject_close_and_closed writable.finish_erroring writable.start_erroring writable.deal_with_rejection writable.controller_error_if_needed writable.process_write writable.process_close writable.advance_queue writable.hand_on writable.write_settled writable.finish_in_flight_close writable.finish_in_flight_close_with_error writable.close_settled writable.start_settled writable.abort_settled writable.controller_write writable.writer_write writable.controller_close writable.stream_close writable.close_with_error_propagation writable.stream_abort writable.abort_if_writable writable.set_up_writer writable.writer_release pipe.finalize pipe.act_by_signal pipe.act pipe.proceed pipe.shutdown pipe.look pipe.look_ready pipe.go_on pipe.keep_chunk pipe.read_ended pipe.write_chunk pipe.write_ended pipe.action_settled pipe.part_settled pipe.no_parts pipe.abort transform.set_backpressure transform.unblock transform.transform_error transform.terminate transform.enqueue transform.enqueued transform.transform_chunk transform.sink_write transform.write_goes_on transform.source_pull transform.sink_close transform.sink_abort transform.source_cancel transform.flush_settled transform.abort_settled transform.cancel_settled call_host row turns performed begin_job begin
identity_enters = (refl, (refl, (refl, refl)))

-- an identity transform takes the chunks of its writable half, and the host hears of none

abbrev into_identity : Slots
into_identity = run (Called (MakeReadable 1 Count Now) ∷ Called (MakeTransform Identity 1 1 Now) ∷ Called (piped s0 s1) ∷ []) empty

abbrev enqueued : List Entry
enqueued = Called (Enqueue s0 v) ∷ jobs 16

identity_hears : (all_leave s0 s1 enqueued ≡ true)
    × ((run_enters s0 enqueued into_identity ≡ told (v ∷ []) Open)
    × ((run_heard s1 enqueued into_identity ≡ silence)
    × (behind s0 s1 p0 (run enqueued into_identity) ≡ silence)))
unfolding fresh settle answer react follow queue_micro unfollow use_gift after_next_job watch readable.call_pull_if_needed readable.accept readable.controller_enqueue readable.stream_close readable.stream_error readable.close_if_empty readable.controller_close readable.controller_error readable.after_take readable.pull_steps readable.default_reader_read readable.disturb readable.reader_generic_initialize readable.start_settled readable.pull_settled readable.cancel_steps readable.stream_cancel readable.cancel_if_readable readable.reader_release writable.ensure_rejected writable.settle_pending writable.update_backpressure writable.refresh_backpressure writable.reject_close_and_closed writable.finish_erroring writable.start_erroring writable.deal_with_rejection writable.controller_error_if_needed writable.process_write writable.process_close writable.advance_queue writable.hand_on writable.write_settled writable.finish_in_flight_close writable.finish_in_flight_close_with_error writable.close_settled writable.start_settled writable.abort_settled writable.controller_write writable.writer_write writable.controller_close writable.stream_close writable.close_with_error_propagation writable.stream_abort writable.abort_if_writable writable.set_up_writer writable.writer_release pipe.finalize pipe.act_by_signal pipe.act pipe.proceed pipe.shutdown pipe.look pipe.look_ready pipe.go_on pipe.keep_chunk pipe.read_ended pipe.write_chunk pipe.write_ended pipe.action_settled pipe.part_settled pipe.no_parts pipe.abort transform.set_backpressure transform.unblock transform.transform_error transform.terminate transform.enqueue transform.enqueued transform.transform_chunk transform.sink_write transform.write_goes_on transform.source_pull transform.sink_close transform.sink_abort transform.source_cancel transform.flush_settled transform.abort_settled transform.cancel_settled call_host row turns performed begin_job begin
identity_hears = (refl, (refl, (refl, refl)))

-- the host hears of a chunk that went into a transform stream of its own, and of the flush once the source is finished

abbrev into_host : Slots
into_host = run (Called (MakeReadable 1 Count Now) ∷ Called (MakeTransform Host 1 1 Now) ∷ Called (piped s0 s1) ∷ []) empty

-- this is a link, into a half
into_host-link : IsLink s0 s1 p0 into_host
unfolding fresh settle answer react follow queue_micro unfollow use_gift after_next_job watch readable.call_pull_if_needed readable.accept readable.controller_enqueue readable.stream_close readable.stream_error readable.close_if_empty readable.controller_close readable.controller_error readable.after_take readable.pull_steps readable.default_reader_read readable.disturb readable.reader_generic_initialize readable.start_settled readable.pull_settled readable.cancel_steps readable.stream_cancel readable.cancel_if_readable readable.reader_release writable.ensure_rejected writable.settle_pending writable.update_backpressure writable.refresh_backpressure writable.reject_close_and_closed writable.finish_erroring writable.start_erroring writable.deal_with_rejection writable.controller_error_if_needed writable.process_write writable.process_close writable.advance_queue writable.hand_on writable.write_settled writable.finish_in_flight_close writable.finish_in_flight_close_with_error writable.close_settled writable.start_settled writable.abort_settled writable.controller_write writable.writer_write writable.controller_close writable.stream_close writable.close_with_error_propagation writable.stream_abort writable.abort_if_writable writable.set_up_writer writable.writer_release pipe.finalize pipe.act_by_signal pipe.act pipe.proceed pipe.shutdown pipe.look pipe.look_ready pipe.go_on pipe.keep_chunk pipe.read_ended pipe.write_chunk pipe.write_ended pipe.action_settled pipe.part_settled pipe.no_parts pipe.abort transform.set_backpressure transform.unblock transform.transform_error transform.terminate transform.enqueue transform.enqueued transform.transform_chunk transform.sink_write transform.write_goes_on transform.source_pull transform.sink_close transform.sink_abort transform.source_cancel transform.flush_settled transform.abort_settled transform.cancel_settled call_host row turns performed begin_job begin
into_host-link = link-begins s0 s1 (record { close = false; abort = false; cancel = false }) None _ (opened-transform s0 (run (Called (MakeReadable 1 Count Now) ∷ []) empty) 1 1 Now (opened-source 1 Count Now) refl).0 tt

abbrev finished : List Entry
finished = Called (Enqueue s0 v) ∷ (jobs 16 ++ Called (Settle (record { 0 = 0 }) Ok) ∷ Called (Settle (record { 0 = 1 }) Ok) ∷ (jobs 8 ++ Called (Finish s0) ∷ jobs 16))

host_hears : (all_leave s0 s1 finished ≡ true)
    × ((run_enters s0 finished into_host ≡ told (v ∷ []) Closed)
    × ((behind s0 s1 p0 (run enqueued into_host) ≡ told (v ∷ []) Open)
    × ((run_heard s1 (heard 2) (run enqueued into_host) ≡ told (v ∷ []) Open)
    × ((behind s0 s1 p0 (run (heard 2) (run enqueued into_host)) ≡ silence)
    × (run_heard s1 (heard 8) (run finished into_host) ≡ told (v ∷ []) Closed)))))
unfolding fresh settle answer react follow queue_micro unfollow use_gift after_next_job watch readable.call_pull_if_needed readable.accept readable.controller_enqueue readable.stream_close readable.stream_error readable.close_if_empty readable.controller_close readable.controller_error readable.after_take readable.pull_steps readable.default_reader_read readable.disturb readable.reader_generic_initialize readable.start_settled readable.pull_settled readable.cancel_steps readable.stream_cancel readable.cancel_if_readable readable.reader_release writable.ensure_rejected writable.settle_pending writable.update_backpressure writable.refresh_backpressure writable.reject_close_and_closed writable.finish_erroring writable.start_erroring writable.deal_with_rejection writable.controller_error_if_needed writable.process_write writable.process_close writable.advance_queue writable.hand_on writable.write_settled writable.finish_in_flight_close writable.finish_in_flight_close_with_error writable.close_settled writable.start_settled writable.abort_settled writable.controller_write writable.writer_write writable.controller_close writable.stream_close writable.close_with_error_propagation writable.stream_abort writable.abort_if_writable writable.set_up_writer writable.writer_release pipe.finalize pipe.act_by_signal pipe.act pipe.proceed pipe.shutdown pipe.look pipe.look_ready pipe.go_on pipe.keep_chunk pipe.read_ended pipe.write_chunk pipe.write_ended pipe.action_settled pipe.part_settled pipe.no_parts pipe.abort transform.set_backpressure transform.unblock transform.transform_error transform.terminate transform.enqueue transform.enqueued transform.transform_chunk transform.sink_write transform.write_goes_on transform.source_pull transform.sink_close transform.sink_abort transform.source_cancel transform.flush_settled transform.abort_settled transform.cancel_settled call_host row turns performed begin_job begin
host_hears = (refl, (refl, (refl, (refl, (refl, refl)))))

-- what enters the readable half of such a transform stream: what the host enqueues there, and the end, by its own call or by a flush that
-- went well

abbrev from_host : Slots
from_host = run (Called (MakeTransform Host 1 0 Now) ∷ Called (MakeWritable 1 Count Now) ∷ Called (piped s1 s2) ∷ []) empty

abbrev flushed : List Entry
flushed = Called (Enqueue s1 v) ∷ (jobs 8 ++ Called (Close s0) ∷ (jobs 8 ++ Called (Settle (record { 0 = 1 }) Ok) ∷ jobs 8))

abbrev ended : List Entry
ended = Called (Enqueue s1 v) ∷ Called (Terminate s1) ∷ Called (Enqueue s1 v) ∷ []

host_enters : (all_leave s1 s2 flushed ≡ true)
    × ((run_enters s1 flushed from_host ≡ told (v ∷ []) Closed)
    × ((behind s1 s2 p0 (run flushed from_host) ≡ told (v ∷ []) Closed)
    × ((run_enters s1 ended from_host ≡ told (v ∷ []) Closed)
    × (behind s1 s2 p0 (run ended from_host) ≡ told (v ∷ []) Closed))))
unfolding fresh settle answer react follow queue_micro unfollow use_gift after_next_job watch readable.call_pull_if_needed readable.accept readable.controller_enqueue readable.stream_close readable.stream_error readable.close_if_empty readable.controller_close readable.controller_error readable.after_take readable.pull_steps readable.default_reader_read readable.disturb readable.reader_generic_initialize readable.start_settled readable.pull_settled readable.cancel_steps readable.stream_cancel readable.cancel_if_readable readable.reader_release writable.ensure_rejected writable.settle_pending writable.update_backpressure writable.refresh_backpressure writable.reject_close_and_closed writable.finish_erroring writable.start_erroring writable.deal_with_rejection writable.controller_error_if_needed writable.process_write writable.process_close writable.advance_queue writable.hand_on writable.write_settled writable.finish_in_flight_close writable.finish_in_flight_close_with_error writable.close_settled writable.start_settled writable.abort_settled writable.controller_write writable.writer_write writable.controller_close writable.stream_close writable.close_with_error_propagation writable.stream_abort writable.abort_if_writable writable.set_up_writer writable.writer_release pipe.finalize pipe.act_by_signal pipe.act pipe.proceed pipe.shutdown pipe.look pipe.look_ready pipe.go_on pipe.keep_chunk pipe.read_ended pipe.write_chunk pipe.write_ended pipe.action_settled pipe.part_settled pipe.no_parts pipe.abort transform.set_backpressure transform.unblock transform.transform_error transform.terminate transform.enqueue transform.enqueued transform.transform_chunk transform.sink_write transform.write_goes_on transform.source_pull transform.sink_close transform.sink_abort transform.source_cancel transform.flush_settled transform.abort_settled transform.cancel_settled call_host row turns performed begin_job begin
host_enters = (refl, (refl, (refl, (refl, refl))))
