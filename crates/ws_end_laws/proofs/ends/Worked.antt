-- The ends of pipes computed on short runs.
use Rattle.std.proofs.Common.{◌≡◌, ℕ, zero, suc, Bool, true, false, List, [], ◌∷◌, Option, Some, None, refl}
use Rattle.ws_value.specs.declared.{ids.PipeId.{PipeId}, ids.StreamId.{StreamId}, value.Outcome.{Outcome}, value.Outcome.TheVariants.{Pending, Fulfilled, Rejected}, value.Plain.{Plain}, value.Plain.TheVariants.{Undefined}, value.Value.{Value}}
use Rattle.ws_steps.specs.declared.calls.{Answer.TheVariants.{Ok as AnswersOk}, Call.TheVariants.{MakeReadable, MakeWritable, Enqueue, Finish, Fail, Pipe, Settle}, StartBy.TheVariants.{Now}}
use Rattle.ws_steps.specs.declared.readable.SizeBy.TheVariants.{Count}
use Rattle.ws_steps.specs.Promises.{fresh, settle, answer, react, follow, unfollow, use_gift, queue_micro, after_next_job, watch, outcome_at}
use Rattle.ws_steps.specs.Readable as readable
use Rattle.ws_steps.specs.Writable as writable
use Rattle.ws_steps.specs.Pipes as pipe
use Rattle.ws_steps.specs.Slots.{empty, pipe_at}
use Rattle.ws_steps.specs.Turns.{call_host, row, turns, performed, moments_of, moments}
use Rattle.ws_steps.specs.Jobs.{begin_job}
use Rattle.ws_steps.specs.Calls.{begin}
use Rattle.ws_steps.specs.Run.{Entry, Called, Worked, run}
use Rattle.ws_steps.proofs.WorkedWords.{s0, e, v, h}
use Rattle.ws_pipe_laws.specs.pipes.PipeHistory.{run_course, run_through}

abbrev s1 : StreamId
s1 = record { 0 = 1 }

abbrev p0 : PipeId
p0 = record { 0 = 0 }

abbrev working : ℕ → List Entry → List Entry
working zero more = more
working (suc n) more = Worked ∷ working n more

-- the ends of the pipe, the outcome of its promise, and what it dropped
record Told : Type 0 where
  ended : List (Option Plain)
  outcome : Option Outcome
  dropped : List Value

abbrev told : List Entry → Told
told xs =
    record {
      ended = (run_course p0 xs empty).ended;
      outcome = outcome_at (run xs empty).promises (pipe_at p0 (run xs empty)).promise;
      dropped = (run_through p0 xs empty).dropped;
    }

-- a pipe whose source closes while it waits for a chunk

abbrev closes : List Entry → List Entry
closes more =
    Called (MakeReadable 0 Count Now)
    ∷ Called (MakeWritable 1 Count Now)
    ∷ Called (Pipe s0 s1 (record { close = false; abort = false; cancel = false }) None)
    ∷ working 6 (Called (Finish s0) ∷ working 6 more)

-- until its destination is closed, its promise is pending
open_until : told (closes []) ≡ record { ended = []; outcome = Some Pending; dropped = [] }
unfolding fresh settle answer react follow unfollow use_gift queue_micro after_next_job watch readable.call_pull_if_needed readable.accept readable.controller_enqueue readable.controller_close readable.close_if_empty readable.stream_close readable.stream_error readable.controller_error readable.after_take readable.pull_steps readable.default_reader_read readable.reader_generic_initialize readable.disturb readable.start_settled readable.pull_settled readable.stream_cancel readable.cancel_steps readable.cancel_if_readable readable.reader_release writable.ensure_rejected writable.settle_pending writable.update_backpressure writable.refresh_backpressure writable.reject_close_and_closed writable.finish_erroring writable.start_erroring writable.deal_with_rejection writable.controller_error_if_needed writable.process_write writable.process_close writable.advance_queue writable.hand_on writable.write_settled writable.finish_in_flight_close writable.finish_in_flight_close_with_error writable.close_settled writable.start_settled writable.abort_settled writable.controller_write writable.writer_write writable.controller_close writable.stream_close writable.close_with_error_propagation writable.stream_abort writable.abort_if_writable writable.set_up_writer writable.writer_release pipe.finalize pipe.act_by_signal pipe.act pipe.proceed pipe.shutdown pipe.look pipe.look_ready pipe.go_on pipe.keep_chunk pipe.read_ended pipe.write_chunk pipe.write_ended pipe.action_settled pipe.part_settled pipe.no_parts pipe.abort call_host row turns performed moments_of moments begin_job begin
open_until = refl

fulfilled_then : told (closes (Called (Settle (h 1) AnswersOk) ∷ working 6 [])) ≡ record { ended = None ∷ []; outcome = Some (Fulfilled Undefined); dropped = [] }
unfolding fresh settle answer react follow unfollow use_gift queue_micro after_next_job watch readable.call_pull_if_needed readable.accept readable.controller_enqueue readable.controller_close readable.close_if_empty readable.stream_close readable.stream_error readable.controller_error readable.after_take readable.pull_steps readable.default_reader_read readable.reader_generic_initialize readable.disturb readable.start_settled readable.pull_settled readable.stream_cancel readable.cancel_steps readable.cancel_if_readable readable.reader_release writable.ensure_rejected writable.settle_pending writable.update_backpressure writable.refresh_backpressure writable.reject_close_and_closed writable.finish_erroring writable.start_erroring writable.deal_with_rejection writable.controller_error_if_needed writable.process_write writable.process_close writable.advance_queue writable.hand_on writable.write_settled writable.finish_in_flight_close writable.finish_in_flight_close_with_error writable.close_settled writable.start_settled writable.abort_settled writable.controller_write writable.writer_write writable.controller_close writable.stream_close writable.close_with_error_propagation writable.stream_abort writable.abort_if_writable writable.set_up_writer writable.writer_release pipe.finalize pipe.act_by_signal pipe.act pipe.proceed pipe.shutdown pipe.look pipe.look_ready pipe.go_on pipe.keep_chunk pipe.read_ended pipe.write_chunk pipe.write_ended pipe.action_settled pipe.part_settled pipe.no_parts pipe.abort call_host row turns performed moments_of moments begin_job begin
fulfilled_then = refl

-- a pipe that holds a chunk as it hears that an earlier write ended, and finds its source closed and its destination erroring

abbrev holds : Bool → List Entry → List Entry
holds prevented more =
    Called (MakeReadable 0 Count Now)
    ∷ Called (MakeWritable 3 Count Now)
    ∷ Called (Pipe s0 s1 (record { close = prevented; abort = false; cancel = false }) None)
    ∷ working 6
    (Called (Enqueue s0 (v 1))
    ∷ working 4
    (Called (Enqueue s0 (v 2))
    ∷ working 4
    (Called (Settle (h 1) AnswersOk)
    ∷ Worked
    ∷ Called (Enqueue s0 (v 3))
    ∷ Called (Finish s0)
    ∷ Called (Fail s1 (e 3))
    ∷ working 6 more)))

-- with preventClose it drops the chunk and is fulfilled
fulfilled_all_the_same : told (holds true []) ≡ record { ended = None ∷ []; outcome = Some (Fulfilled Undefined); dropped = v 3 ∷ [] }
unfolding fresh settle answer react follow unfollow use_gift queue_micro after_next_job watch readable.call_pull_if_needed readable.accept readable.controller_enqueue readable.controller_close readable.close_if_empty readable.stream_close readable.stream_error readable.controller_error readable.after_take readable.pull_steps readable.default_reader_read readable.reader_generic_initialize readable.disturb readable.start_settled readable.pull_settled readable.stream_cancel readable.cancel_steps readable.cancel_if_readable readable.reader_release writable.ensure_rejected writable.settle_pending writable.update_backpressure writable.refresh_backpressure writable.reject_close_and_closed writable.finish_erroring writable.start_erroring writable.deal_with_rejection writable.controller_error_if_needed writable.process_write writable.process_close writable.advance_queue writable.hand_on writable.write_settled writable.finish_in_flight_close writable.finish_in_flight_close_with_error writable.close_settled writable.start_settled writable.abort_settled writable.controller_write writable.writer_write writable.controller_close writable.stream_close writable.close_with_error_propagation writable.stream_abort writable.abort_if_writable writable.set_up_writer writable.writer_release pipe.finalize pipe.act_by_signal pipe.act pipe.proceed pipe.shutdown pipe.look pipe.look_ready pipe.go_on pipe.keep_chunk pipe.read_ended pipe.write_chunk pipe.write_ended pipe.action_settled pipe.part_settled pipe.no_parts pipe.abort call_host row turns performed moments_of moments begin_job begin
fulfilled_all_the_same = refl

-- without, it drops it too, and is rejected once the destination has errored
rejected_then : told (holds false (Called (Settle (h 2) AnswersOk) ∷ working 6 [])) ≡ record { ended = Some (e 3) ∷ []; outcome = Some (Rejected (e 3)); dropped = v 3 ∷ [] }
unfolding fresh settle answer react follow unfollow use_gift queue_micro after_next_job watch readable.call_pull_if_needed readable.accept readable.controller_enqueue readable.controller_close readable.close_if_empty readable.stream_close readable.stream_error readable.controller_error readable.after_take readable.pull_steps readable.default_reader_read readable.reader_generic_initialize readable.disturb readable.start_settled readable.pull_settled readable.stream_cancel readable.cancel_steps readable.cancel_if_readable readable.reader_release writable.ensure_rejected writable.settle_pending writable.update_backpressure writable.refresh_backpressure writable.reject_close_and_closed writable.finish_erroring writable.start_erroring writable.deal_with_rejection writable.controller_error_if_needed writable.process_write writable.process_close writable.advance_queue writable.hand_on writable.write_settled writable.finish_in_flight_close writable.finish_in_flight_close_with_error writable.close_settled writable.start_settled writable.abort_settled writable.controller_write writable.writer_write writable.controller_close writable.stream_close writable.close_with_error_propagation writable.stream_abort writable.abort_if_writable writable.set_up_writer writable.writer_release pipe.finalize pipe.act_by_signal pipe.act pipe.proceed pipe.shutdown pipe.look pipe.look_ready pipe.go_on pipe.keep_chunk pipe.read_ended pipe.write_chunk pipe.write_ended pipe.action_settled pipe.part_settled pipe.no_parts pipe.abort call_host row turns performed moments_of moments begin_job begin
rejected_then = refl
