-- A link with the ends of ports as its source and its destination: what is delivered to the one port is posted by the other.
use Rattle.std.proofs.Common.{◌≡◌, ℕ, zero, suc, true, false, List, [], ◌∷◌, ◌++◌, None, refl}
use Rattle.ws_value.specs.declared.ids.PipeId.{PipeId}
use Rattle.ws_value.specs.declared.ids.PortId.{PortId}
use Rattle.ws_value.specs.declared.value.Message.TheVariants.{Pull as PullMessage, Chunk as ChunkMessage, Close as CloseMessage}
use Rattle.ws_value.specs.declared.value.Plain.TheVariants.{Undefined}
use Rattle.ws_value.specs.declared.value.Value.{Value}
use Rattle.ws_value.specs.declared.value.Value.TheVariants.{Plain as PlainValue}
use Rattle.ws_steps.specs.declared.calls.Call.TheVariants.{MakeReadable, MakeWritable, Pipe, Send, Open, Deliver, Enqueue, Finish}
use Rattle.ws_steps.specs.declared.calls.StartBy.TheVariants.{Now}
use Rattle.ws_steps.specs.declared.readable.SizeBy.TheVariants.{Count}
use Rattle.ws_steps.specs.declared.port.Side.TheVariants.{Readable as ReadableSide, Writable as WritableSide}
use Rattle.ws_steps.specs.Calls.{begin}
use Rattle.ws_steps.specs.Cross as cross
use Rattle.ws_steps.specs.Jobs.{begin_job}
use Rattle.ws_steps.specs.Pipes as pipe
use Rattle.ws_steps.specs.Promises.{fresh, settle, answer, react, follow, unfollow, use_gift, queue_micro, after_next_job, watch}
use Rattle.ws_steps.specs.Readable as readable
use Rattle.ws_steps.specs.Run.{Entry, Called, Worked, Heard, run}
use Rattle.ws_steps.specs.Slots.{Slots, empty}
use Rattle.ws_steps.specs.Transform as transform
use Rattle.ws_steps.specs.Turns.{row, turns, call_host, performed}
use Rattle.ws_steps.specs.Writable as writable
use Rattle.ws_flow.specs.Told.{Open as ToldOpen, Closed, told}
use Rattle.ws_link_laws.specs.Laws.{all_leave, run_enters, run_heard}
use Rattle.ws_link_laws.specs.Link.{silence, behind}
use Rattle.ws_link_laws.specs.Sound.{IsFree, IsLink, AreApart}
use Rattle.ws_link_laws.proofs.Begins.{link-begins}
use Rattle.ws_link_laws.proofs.Worked.{s0, s1}

abbrev p0 : PipeId
p0 = record { 0 = 0 }

abbrev c0 : PortId
c0 = record { 0 = 0 }

abbrev c1 : PortId
c1 = record { 0 = 1 }

abbrev v : Value
v = PlainValue Undefined

-- so many jobs, and so many events that the host takes

abbrev jobs : ℕ → List Entry
jobs zero = []
jobs (suc n) = Worked ∷ jobs n

abbrev heard : ℕ → List Entry
heard zero = []
heard (suc n) = Heard ∷ heard n

-- two ends are opened, and may be linked

abbrev opening : List Entry
opening = Called (Open ReadableSide) ∷ Called (Open WritableSide) ∷ []

abbrev made : Slots
made = run opening empty

pub ends-free : IsFree s0 s1 made
unfolding fresh settle answer react follow queue_micro unfollow use_gift after_next_job watch readable.call_pull_if_needed readable.accept readable.controller_enqueue readable.stream_close readable.stream_error readable.close_if_empty readable.controller_close readable.controller_error readable.after_take readable.pull_steps readable.default_reader_read readable.disturb readable.reader_generic_initialize readable.start_settled readable.pull_settled readable.cancel_steps readable.stream_cancel readable.cancel_if_readable readable.reader_release writable.ensure_rejected writable.settle_pending writable.update_backpressure writable.refresh_backpressure writable.reject_close_and_closed writable.finish_erroring writable.start_erroring writable.deal_with_rejection writable.controller_error_if_needed writable.process_write writable.process_close writable.advance_queue writable.hand_on writable.write_settled writable.finish_in_flight_close writable.finish_in_flight_close_with_error writable.close_settled writable.start_settled writable.abort_settled writable.controller_write writable.writer_write writable.controller_close writable.stream_close writable.close_with_error_propagation writable.stream_abort writable.abort_if_writable writable.set_up_writer writable.writer_release pipe.finalize pipe.act_by_signal pipe.act pipe.proceed pipe.shutdown pipe.look pipe.look_ready pipe.go_on pipe.keep_chunk pipe.read_ended pipe.write_chunk pipe.write_ended pipe.action_settled pipe.part_settled pipe.no_parts pipe.abort transform.set_backpressure transform.unblock transform.transform_error transform.terminate transform.enqueue transform.enqueued transform.transform_chunk transform.sink_write transform.write_goes_on transform.source_pull transform.sink_close transform.sink_abort transform.source_cancel transform.flush_settled transform.abort_settled transform.cancel_settled cross.pull cross.leave cross.close cross.write cross.write_goes_on cross.post_chunk cross.unblock cross.deliver call_host row turns performed begin_job begin
ends-free = record {
  reached = (opening, refl);
  source = refl;
  bare = record { auto = refl; descriptors = refl; reader = refl };
  sink = refl;
  source_owner = tt;
  sink_owner = tt;
  unread = refl;
  unwritten = refl;
  locks = refl;
  apart = refl;
  untied = refl;
  requests = refl;
  queue = refl;
  close_request = refl;
  close_in_flight = refl;
}

abbrev linked : Slots
linked = run (Called (Pipe s0 s1 (record { close = false; abort = false; cancel = false }) None) ∷ []) made

-- this is a link
pub ends-link : IsLink s0 s1 p0 linked
unfolding fresh settle answer react follow queue_micro unfollow use_gift after_next_job watch readable.call_pull_if_needed readable.accept readable.controller_enqueue readable.stream_close readable.stream_error readable.close_if_empty readable.controller_close readable.controller_error readable.after_take readable.pull_steps readable.default_reader_read readable.disturb readable.reader_generic_initialize readable.start_settled readable.pull_settled readable.cancel_steps readable.stream_cancel readable.cancel_if_readable readable.reader_release writable.ensure_rejected writable.settle_pending writable.update_backpressure writable.refresh_backpressure writable.reject_close_and_closed writable.finish_erroring writable.start_erroring writable.deal_with_rejection writable.controller_error_if_needed writable.process_write writable.process_close writable.advance_queue writable.hand_on writable.write_settled writable.finish_in_flight_close writable.finish_in_flight_close_with_error writable.close_settled writable.start_settled writable.abort_settled writable.controller_write writable.writer_write writable.controller_close writable.stream_close writable.close_with_error_propagation writable.stream_abort writable.abort_if_writable writable.set_up_writer writable.writer_release pipe.finalize pipe.act_by_signal pipe.act pipe.proceed pipe.shutdown pipe.look pipe.look_ready pipe.go_on pipe.keep_chunk pipe.read_ended pipe.write_chunk pipe.write_ended pipe.action_settled pipe.part_settled pipe.no_parts pipe.abort transform.set_backpressure transform.unblock transform.transform_error transform.terminate transform.enqueue transform.enqueued transform.transform_chunk transform.sink_write transform.write_goes_on transform.source_pull transform.sink_close transform.sink_abort transform.source_cancel transform.flush_settled transform.abort_settled transform.cancel_settled cross.pull cross.leave cross.close cross.write cross.write_goes_on cross.post_chunk cross.unblock cross.deliver call_host row turns performed begin_job begin
ends-link = link-begins s0 s1 (record { close = false; abort = false; cancel = false }) None made ends-free tt

-- a chunk that is delivered waits until the other side asks for one; it is posted, and so is the close. An enqueue throws

abbrev waiting : List Entry
waiting = Called (Enqueue s0 v) ∷ Called (Deliver c0 (ChunkMessage v)) ∷ jobs 16

abbrev delivered : List Entry
delivered = waiting ++ Called (Deliver c1 PullMessage) ∷ (jobs 16 ++ Called (Deliver c0 CloseMessage) ∷ jobs 16)

ends_pass : (all_leave s0 s1 delivered ≡ true)
    × ((run_enters s0 waiting linked ≡ told (v ∷ []) ToldOpen)
    × ((behind s0 s1 p0 (run waiting linked) ≡ told (v ∷ []) ToldOpen)
    × ((run_heard s1 (heard 4) (run waiting linked) ≡ silence)
    × ((run_enters s0 delivered linked ≡ told (v ∷ []) Closed)
    × (run_heard s1 (heard 4) (run delivered linked) ≡ told (v ∷ []) Closed)))))
unfolding fresh settle answer react follow queue_micro unfollow use_gift after_next_job watch readable.call_pull_if_needed readable.accept readable.controller_enqueue readable.stream_close readable.stream_error readable.close_if_empty readable.controller_close readable.controller_error readable.after_take readable.pull_steps readable.default_reader_read readable.disturb readable.reader_generic_initialize readable.start_settled readable.pull_settled readable.cancel_steps readable.stream_cancel readable.cancel_if_readable readable.reader_release writable.ensure_rejected writable.settle_pending writable.update_backpressure writable.refresh_backpressure writable.reject_close_and_closed writable.finish_erroring writable.start_erroring writable.deal_with_rejection writable.controller_error_if_needed writable.process_write writable.process_close writable.advance_queue writable.hand_on writable.write_settled writable.finish_in_flight_close writable.finish_in_flight_close_with_error writable.close_settled writable.start_settled writable.abort_settled writable.controller_write writable.writer_write writable.controller_close writable.stream_close writable.close_with_error_propagation writable.stream_abort writable.abort_if_writable writable.set_up_writer writable.writer_release pipe.finalize pipe.act_by_signal pipe.act pipe.proceed pipe.shutdown pipe.look pipe.look_ready pipe.go_on pipe.keep_chunk pipe.read_ended pipe.write_chunk pipe.write_ended pipe.action_settled pipe.part_settled pipe.no_parts pipe.abort transform.set_backpressure transform.unblock transform.transform_error transform.terminate transform.enqueue transform.enqueued transform.transform_chunk transform.sink_write transform.write_goes_on transform.source_pull transform.sink_close transform.sink_abort transform.source_cancel transform.flush_settled transform.abort_settled transform.cancel_settled cross.pull cross.leave cross.close cross.write cross.write_goes_on cross.post_chunk cross.unblock cross.deliver call_host row turns performed begin_job begin
ends_pass = (refl, (refl, (refl, (refl, (refl, refl)))))

-- a readable stream that is sent is linked to the end of a new port

abbrev sending : List Entry
sending = Called (MakeReadable 1 Count Now) ∷ Called (Send s0) ∷ []

abbrev sent : Slots
sent = run sending empty

pub sent-link : IsLink s0 s1 p0 sent
unfolding fresh settle answer react follow queue_micro unfollow use_gift after_next_job watch readable.call_pull_if_needed readable.accept readable.controller_enqueue readable.stream_close readable.stream_error readable.close_if_empty readable.controller_close readable.controller_error readable.after_take readable.pull_steps readable.default_reader_read readable.disturb readable.reader_generic_initialize readable.start_settled readable.pull_settled readable.cancel_steps readable.stream_cancel readable.cancel_if_readable readable.reader_release writable.ensure_rejected writable.settle_pending writable.update_backpressure writable.refresh_backpressure writable.reject_close_and_closed writable.finish_erroring writable.start_erroring writable.deal_with_rejection writable.controller_error_if_needed writable.process_write writable.process_close writable.advance_queue writable.hand_on writable.write_settled writable.finish_in_flight_close writable.finish_in_flight_close_with_error writable.close_settled writable.start_settled writable.abort_settled writable.controller_write writable.writer_write writable.controller_close writable.stream_close writable.close_with_error_propagation writable.stream_abort writable.abort_if_writable writable.set_up_writer writable.writer_release pipe.finalize pipe.act_by_signal pipe.act pipe.proceed pipe.shutdown pipe.look pipe.look_ready pipe.go_on pipe.keep_chunk pipe.read_ended pipe.write_chunk pipe.write_ended pipe.action_settled pipe.part_settled pipe.no_parts pipe.abort transform.set_backpressure transform.unblock transform.transform_error transform.terminate transform.enqueue transform.enqueued transform.transform_chunk transform.sink_write transform.write_goes_on transform.source_pull transform.sink_close transform.sink_abort transform.source_cancel transform.flush_settled transform.abort_settled transform.cancel_settled cross.pull cross.leave cross.close cross.write cross.write_goes_on cross.post_chunk cross.unblock cross.deliver call_host row turns performed begin_job begin
sent-link = record {
  reached = (sending, refl);
  source = refl;
  bare = record { auto = refl; descriptors = refl; reader = refl };
  sink = refl;
  source_owner = tt;
  sink_owner = tt;
  there = refl;
  from = refl;
  into = refl;
  apart = only;
  untied = refl;
  locks = refl;
  elsewhere = refl;
  source_fits = record { owned = tt; fit = tt };
  sink_fits = record { shaped = tt; closing = refl; started = λ e. refl };
  closes = tt;
}
  where
    only : AreApart s0 s1 p0 sent.pipes
    only zero x e m = absurd (m refl)
    only (suc n) x e m = cc

abbrev asked : List Entry
asked = Called (Enqueue s0 v) ∷ (jobs 16 ++ Called (Deliver c0 PullMessage) ∷ (jobs 16 ++ Called (Finish s0) ∷ jobs 16))

sent_pass : (all_leave s0 s1 asked ≡ true)
    × ((run_enters s0 asked sent ≡ told (v ∷ []) Closed)
    × (run_heard s1 (heard 8) (run asked sent) ≡ told (v ∷ []) Closed))
unfolding fresh settle answer react follow queue_micro unfollow use_gift after_next_job watch readable.call_pull_if_needed readable.accept readable.controller_enqueue readable.stream_close readable.stream_error readable.close_if_empty readable.controller_close readable.controller_error readable.after_take readable.pull_steps readable.default_reader_read readable.disturb readable.reader_generic_initialize readable.start_settled readable.pull_settled readable.cancel_steps readable.stream_cancel readable.cancel_if_readable readable.reader_release writable.ensure_rejected writable.settle_pending writable.update_backpressure writable.refresh_backpressure writable.reject_close_and_closed writable.finish_erroring writable.start_erroring writable.deal_with_rejection writable.controller_error_if_needed writable.process_write writable.process_close writable.advance_queue writable.hand_on writable.write_settled writable.finish_in_flight_close writable.finish_in_flight_close_with_error writable.close_settled writable.start_settled writable.abort_settled writable.controller_write writable.writer_write writable.controller_close writable.stream_close writable.close_with_error_propagation writable.stream_abort writable.abort_if_writable writable.set_up_writer writable.writer_release pipe.finalize pipe.act_by_signal pipe.act pipe.proceed pipe.shutdown pipe.look pipe.look_ready pipe.go_on pipe.keep_chunk pipe.read_ended pipe.write_chunk pipe.write_ended pipe.action_settled pipe.part_settled pipe.no_parts pipe.abort transform.set_backpressure transform.unblock transform.transform_error transform.terminate transform.enqueue transform.enqueued transform.transform_chunk transform.sink_write transform.write_goes_on transform.source_pull transform.sink_close transform.sink_abort transform.source_cancel transform.flush_settled transform.abort_settled transform.cancel_settled cross.pull cross.leave cross.close cross.write cross.write_goes_on cross.post_chunk cross.unblock cross.deliver call_host row turns performed begin_job begin
sent_pass = (refl, (refl, refl))

-- and a writable stream that is sent takes what is delivered to that port

abbrev sending_back : List Entry
sending_back = Called (MakeWritable 1 Count Now) ∷ Called (Send s0) ∷ []

abbrev sent_back : Slots
sent_back = run sending_back empty

pub sent_back-link : IsLink s1 s0 p0 sent_back
unfolding fresh settle answer react follow queue_micro unfollow use_gift after_next_job watch readable.call_pull_if_needed readable.accept readable.controller_enqueue readable.stream_close readable.stream_error readable.close_if_empty readable.controller_close readable.controller_error readable.after_take readable.pull_steps readable.default_reader_read readable.disturb readable.reader_generic_initialize readable.start_settled readable.pull_settled readable.cancel_steps readable.stream_cancel readable.cancel_if_readable readable.reader_release writable.ensure_rejected writable.settle_pending writable.update_backpressure writable.refresh_backpressure writable.reject_close_and_closed writable.finish_erroring writable.start_erroring writable.deal_with_rejection writable.controller_error_if_needed writable.process_write writable.process_close writable.advance_queue writable.hand_on writable.write_settled writable.finish_in_flight_close writable.finish_in_flight_close_with_error writable.close_settled writable.start_settled writable.abort_settled writable.controller_write writable.writer_write writable.controller_close writable.stream_close writable.close_with_error_propagation writable.stream_abort writable.abort_if_writable writable.set_up_writer writable.writer_release pipe.finalize pipe.act_by_signal pipe.act pipe.proceed pipe.shutdown pipe.look pipe.look_ready pipe.go_on pipe.keep_chunk pipe.read_ended pipe.write_chunk pipe.write_ended pipe.action_settled pipe.part_settled pipe.no_parts pipe.abort transform.set_backpressure transform.unblock transform.transform_error transform.terminate transform.enqueue transform.enqueued transform.transform_chunk transform.sink_write transform.write_goes_on transform.source_pull transform.sink_close transform.sink_abort transform.source_cancel transform.flush_settled transform.abort_settled transform.cancel_settled cross.pull cross.leave cross.close cross.write cross.write_goes_on cross.post_chunk cross.unblock cross.deliver call_host row turns performed begin_job begin
sent_back-link = record {
  reached = (sending_back, refl);
  source = refl;
  bare = record { auto = refl; descriptors = refl; reader = refl };
  sink = refl;
  source_owner = tt;
  sink_owner = tt;
  there = refl;
  from = refl;
  into = refl;
  apart = only;
  untied = refl;
  locks = refl;
  elsewhere = refl;
  source_fits = record { owned = tt; fit = tt };
  sink_fits = record { shaped = tt; closing = refl; started = λ e. refl };
  closes = tt;
}
  where
    only : AreApart s1 s0 p0 sent_back.pipes
    only zero x e m = absurd (m refl)
    only (suc n) x e m = cc
