-- A node with one stage, `hex`, as it is made and as a chunk passes it: what lies on its two links, before the stage and behind it. And what a run ends with.
use Rattle.std.proofs.Common.{◌≡◌, ℕ, pos, zero, suc, false, [], ◌∷◌, ◌++◌, List, refl}
use Rattle.ws_value.specs.declared.value.Value.TheVariants.{Bytes}
use Rattle.ws_flow.specs.declared.plan.Ending.TheVariants.{Bad}
use Rattle.ws_flow.specs.declared.plan.Stage.TheVariants.{Fixed, Frame, Hex, Unhex}
use Rattle.ws_flow.specs.Machines.{ending, nothing_kept}
use Rattle.ws_flow.specs.Parts.{Live, Part}
use Rattle.ws_flow.specs.Plans.{as_one, reach}
use Rattle.ws_flow.specs.Stages.{machines}
use Rattle.ws_flow.specs.Steps.{behind_of, parts_at}
use Rattle.ws_flow.specs.Told.{bytes_of, Open, Closed, Told, told, then_told}
use Rattle.ws_stages.specs.State.{State, begun}
use Rattle.ws_steps.specs.Bytes as byte
use Rattle.ws_steps.specs.declared.calls.Answer.TheVariants.{Ok}
use Rattle.ws_steps.specs.declared.calls.Call.TheVariants.{Enqueue, Settle}
use Rattle.ws_steps.specs.Promises.{fresh, settle, answer, react, follow, queue_micro, unfollow, use_gift, after_next_job, watch}
use Rattle.ws_steps.specs.Turns.{call_host, row, turns, performed}
use Rattle.ws_steps.specs.Jobs.{begin_job}
use Rattle.ws_steps.specs.Calls.{begin}
use Rattle.ws_steps.specs.Readable as readable
use Rattle.ws_steps.specs.Writable as writable
use Rattle.ws_steps.specs.Pipes as pipe
use Rattle.ws_steps.specs.Transform as transform
use Rattle.ws_steps.specs.Run.{Entry, Called, Worked, Heard, run}
use Rattle.ws_steps.specs.Slots.{Slots, empty}
use Rattle.ws_chain_laws.specs.Chain.{FromBytes, ToSink, source_of, behind_at}
use Rattle.ws_chain_laws.specs.Outcomes.{past_of}
use Rattle.ws_node.specs.declared.node.Input.TheVariants as input
use Rattle.ws_node.specs.Node.{coming_by, in_bytes}

-- so many jobs
abbrev jobs : ℕ → List Entry
jobs zero = []
jobs (suc n) = Worked ∷ jobs n

abbrev settled : ℕ → Entry
settled n = Called (Settle (record { 0 = n }) Ok)

-- after these, behind the opening
abbrev after : List Entry → Slots
after xs = run (past_of FromBytes ToSink 1 false xs) empty

abbrev hex : State
hex = begun Hex

-- what lies at each place, and so before the stage and behind it

abbrev lies_after : List Entry → ℕ → Told (List ℕ)
lies_after xs k = then_told (in_bytes (behind_at k (after xs))) (coming_by input.Open (hex ∷ []) k)

abbrev parts_after : List Entry → List Part
parts_after xs = parts_at 0 (hex.work ∷ []) (lies_after xs)

abbrev lying_after : List Entry → Told (List ℕ)
lying_after xs = behind_of 0 (hex.work ∷ []) (lies_after xs)

-- nothing lies in a new node
is_new : (behind_at 0 (after []) ≡ told [] Open) × (behind_at 1 (after []) ≡ told [] Open)
unfolding byte.call_pull_if_needed byte.stream_close byte.controller_error byte.handle_queue_drain byte.pull_steps byte.default_reader_read byte.controller_close byte.controller_enqueue byte.start_settled byte.pull_settled byte.stream_cancel byte.cancel_if_readable byte.reader_release byte.reader_initialize byte.read fresh settle answer react follow queue_micro unfollow use_gift after_next_job watch readable.call_pull_if_needed readable.accept readable.controller_enqueue readable.stream_close readable.stream_error readable.close_if_empty readable.controller_close readable.controller_error readable.after_take readable.pull_steps readable.default_reader_read readable.disturb readable.reader_generic_initialize readable.start_settled readable.pull_settled readable.cancel_steps readable.stream_cancel readable.cancel_if_readable readable.reader_release writable.ensure_rejected writable.settle_pending writable.update_backpressure writable.refresh_backpressure writable.reject_close_and_closed writable.finish_erroring writable.start_erroring writable.deal_with_rejection writable.controller_error_if_needed writable.process_write writable.process_close writable.advance_queue writable.hand_on writable.write_settled writable.finish_in_flight_close writable.finish_in_flight_close_with_error writable.close_settled writable.start_settled writable.abort_settled writable.controller_write writable.writer_write writable.controller_close writable.stream_close writable.close_with_error_propagation writable.stream_abort writable.abort_if_writable writable.set_up_writer writable.writer_release pipe.finalize pipe.act_by_signal pipe.act pipe.proceed pipe.shutdown pipe.look pipe.look_ready pipe.go_on pipe.keep_chunk pipe.read_ended pipe.write_chunk pipe.write_ended pipe.action_settled pipe.part_settled pipe.no_parts pipe.abort transform.set_backpressure transform.unblock transform.transform_error transform.terminate transform.enqueue transform.enqueued transform.transform_chunk transform.sink_write transform.write_goes_on transform.source_pull transform.sink_close transform.sink_abort transform.source_cancel transform.flush_settled transform.abort_settled transform.cancel_settled call_host row turns performed begin_job begin
is_new = (refl, refl)

-- a chunk is read: it lies before the stage, since the host hasn't heard of it
abbrev read : List Entry
read = jobs 24 ++ Heard ∷ Called (Enqueue (source_of 0) (Bytes (104 ∷ []))) ∷ settled 0 ∷ jobs 24

pub read_lies : (parts_after read ≡ record { work = Live nothing_kept; before = told ((104 ∷ []) ∷ []) Open } ∷ [])
    × (lying_after read ≡ told [] Open)
unfolding byte.call_pull_if_needed byte.stream_close byte.controller_error byte.handle_queue_drain byte.pull_steps byte.default_reader_read byte.controller_close byte.controller_enqueue byte.start_settled byte.pull_settled byte.stream_cancel byte.cancel_if_readable byte.reader_release byte.reader_initialize byte.read fresh settle answer react follow queue_micro unfollow use_gift after_next_job watch readable.call_pull_if_needed readable.accept readable.controller_enqueue readable.stream_close readable.stream_error readable.close_if_empty readable.controller_close readable.controller_error readable.after_take readable.pull_steps readable.default_reader_read readable.disturb readable.reader_generic_initialize readable.start_settled readable.pull_settled readable.cancel_steps readable.stream_cancel readable.cancel_if_readable readable.reader_release writable.ensure_rejected writable.settle_pending writable.update_backpressure writable.refresh_backpressure writable.reject_close_and_closed writable.finish_erroring writable.start_erroring writable.deal_with_rejection writable.controller_error_if_needed writable.process_write writable.process_close writable.advance_queue writable.hand_on writable.write_settled writable.finish_in_flight_close writable.finish_in_flight_close_with_error writable.close_settled writable.start_settled writable.abort_settled writable.controller_write writable.writer_write writable.controller_close writable.stream_close writable.close_with_error_propagation writable.stream_abort writable.abort_if_writable writable.set_up_writer writable.writer_release pipe.finalize pipe.act_by_signal pipe.act pipe.proceed pipe.shutdown pipe.look pipe.look_ready pipe.go_on pipe.keep_chunk pipe.read_ended pipe.write_chunk pipe.write_ended pipe.action_settled pipe.part_settled pipe.no_parts pipe.abort transform.set_backpressure transform.unblock transform.transform_error transform.terminate transform.enqueue transform.enqueued transform.transform_chunk transform.sink_write transform.write_goes_on transform.source_pull transform.sink_close transform.sink_abort transform.source_cancel transform.flush_settled transform.abort_settled transform.cancel_settled call_host row turns performed begin_job begin
read_lies = (refl, refl)

-- it is pushed, and what comes out is enqueued: that lies behind the stage
abbrev pushed : List Entry
pushed = read ++ Heard ∷ Called (Enqueue (source_of 1) (Bytes (54 ∷ 56 ∷ []))) ∷ settled 1 ∷ jobs 24

pushed_lies : (parts_after pushed ≡ record { work = Live nothing_kept; before = told [] Open } ∷ [])
    × (lying_after pushed ≡ told ((54 ∷ 56 ∷ []) ∷ []) Open)
unfolding byte.call_pull_if_needed byte.stream_close byte.controller_error byte.handle_queue_drain byte.pull_steps byte.default_reader_read byte.controller_close byte.controller_enqueue byte.start_settled byte.pull_settled byte.stream_cancel byte.cancel_if_readable byte.reader_release byte.reader_initialize byte.read fresh settle answer react follow queue_micro unfollow use_gift after_next_job watch readable.call_pull_if_needed readable.accept readable.controller_enqueue readable.stream_close readable.stream_error readable.close_if_empty readable.controller_close readable.controller_error readable.after_take readable.pull_steps readable.default_reader_read readable.disturb readable.reader_generic_initialize readable.start_settled readable.pull_settled readable.cancel_steps readable.stream_cancel readable.cancel_if_readable readable.reader_release writable.ensure_rejected writable.settle_pending writable.update_backpressure writable.refresh_backpressure writable.reject_close_and_closed writable.finish_erroring writable.start_erroring writable.deal_with_rejection writable.controller_error_if_needed writable.process_write writable.process_close writable.advance_queue writable.hand_on writable.write_settled writable.finish_in_flight_close writable.finish_in_flight_close_with_error writable.close_settled writable.start_settled writable.abort_settled writable.controller_write writable.writer_write writable.controller_close writable.stream_close writable.close_with_error_propagation writable.stream_abort writable.abort_if_writable writable.set_up_writer writable.writer_release pipe.finalize pipe.act_by_signal pipe.act pipe.proceed pipe.shutdown pipe.look pipe.look_ready pipe.go_on pipe.keep_chunk pipe.read_ended pipe.write_chunk pipe.write_ended pipe.action_settled pipe.part_settled pipe.no_parts pipe.abort transform.set_backpressure transform.unblock transform.transform_error transform.terminate transform.enqueue transform.enqueued transform.transform_chunk transform.sink_write transform.write_goes_on transform.source_pull transform.sink_close transform.sink_abort transform.source_cancel transform.flush_settled transform.abort_settled transform.cancel_settled call_host row turns performed begin_job begin
pushed_lies = (refl, refl)

-- what comes out of stages, and how they end
outputs : (bytes_of (reach (Fixed (pos 2) ∷ Frame ∷ []) (97 ∷ 98 ∷ 99 ∷ []) Closed) ≡ told (0 ∷ 0 ∷ 0 ∷ 2 ∷ 97 ∷ 98 ∷ 0 ∷ 0 ∷ 0 ∷ 1 ∷ 99 ∷ []) Closed)
    × (ending (machines (Unhex ∷ [])) 0 (as_one (48 ∷ 103 ∷ []) Open) ≡ Bad 2 1)
outputs = (refl, refl)
