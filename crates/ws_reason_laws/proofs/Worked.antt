-- Pipes at work: one whose source fails, whose promise is rejected with that reason; why the laws ask for free ends: onto a destination that is
-- closing a pipe rejects with a TypeError, which nobody gave.
use Rattle.std.proofs.Common.{◌≡◌, List, [], ◌∷◌, ◌++◌, refl, true, false, None, Some}
use Rattle.ws_value.specs.declared.value.{Outcome.TheVariants.{Rejected}, Plain.TheVariants.{Number}}
use Rattle.ws_steps.specs.declared.calls.Call.{Call}
use Rattle.ws_steps.specs.declared.calls.Call.TheVariants.{Close, Fail, Pipe}
use Rattle.ws_steps.specs.Effects.{type_error}
use Rattle.ws_steps.specs.Promises.{outcome_at, fresh, settle, answer, react, follow, unfollow, use_gift, queue_micro, after_next_job, watch}
use Rattle.ws_steps.specs.Readable as readable
use Rattle.ws_steps.specs.Writable as writable
use Rattle.ws_steps.specs.Pipes as pipe
use Rattle.ws_steps.specs.Turns.{call_host, row, turns, performed}
use Rattle.ws_steps.specs.Jobs.{begin_job}
use Rattle.ws_steps.specs.Calls.{begin}
use Rattle.ws_steps.specs.Run.{Entry, Called, Worked, run}
use Rattle.ws_steps.specs.Slots.{empty}
use Rattle.ws_reason_laws.specs.Reasons.{given, failures}
use Rattle.ws_reason_laws.proofs.FirstPipe.{s0, s1, opening, promise}

abbrev piping : Call
piping = Pipe s0 s1 (record { close = false; abort = true; cancel = true }) None

-- the source fails with 7, and so the pipe
abbrev failing : List Entry
failing = opening ++ Called piping ∷ (Called (Fail s0 (Number 7)) ∷ Worked ∷ Worked ∷ Worked ∷ Worked ∷ [])

fails : (outcome_at (run failing empty).promises promise ≡ Some (Rejected (Number 7))) × ((given failing ≡ Number 7 ∷ []) × (failures failing ≡ Number 7 ∷ []))
unfolding fresh settle answer react follow unfollow use_gift queue_micro after_next_job watch readable.call_pull_if_needed readable.accept readable.controller_enqueue readable.controller_error readable.stream_error readable.controller_close readable.close_if_empty readable.stream_close readable.after_take readable.pull_steps readable.default_reader_read readable.reader_generic_initialize readable.disturb readable.start_settled readable.pull_settled readable.stream_cancel readable.cancel_steps readable.cancel_if_readable readable.reader_release writable.ensure_rejected writable.settle_pending writable.update_backpressure writable.refresh_backpressure writable.reject_close_and_closed writable.finish_erroring writable.start_erroring writable.deal_with_rejection writable.controller_error_if_needed writable.process_write writable.process_close writable.advance_queue writable.hand_on writable.write_settled writable.finish_in_flight_close writable.finish_in_flight_close_with_error writable.close_settled writable.start_settled writable.abort_settled writable.controller_write writable.writer_write writable.controller_close writable.stream_close writable.close_with_error_propagation writable.stream_abort writable.abort_if_writable writable.set_up_writer writable.writer_release pipe.finalize pipe.act_by_signal pipe.act pipe.proceed pipe.shutdown pipe.look pipe.look_ready pipe.go_on pipe.keep_chunk pipe.read_ended pipe.write_chunk pipe.write_ended pipe.action_settled pipe.part_settled pipe.no_parts pipe.abort call_host row turns performed begin_job begin
fails = (refl, (refl, refl))

-- onto a destination that is closing it rejects with a TypeError, and nothing was given
abbrev closing : List Entry
closing = opening ++ Called (Close s1) ∷ (Called piping ∷ (Worked ∷ Worked ∷ Worked ∷ Worked ∷ []))

astray : (outcome_at (run closing empty).promises (record { 0 = 6 }) ≡ Some (Rejected type_error)) × (given closing ≡ [])
unfolding fresh settle answer react follow unfollow use_gift queue_micro after_next_job watch readable.call_pull_if_needed readable.accept readable.controller_enqueue readable.controller_error readable.stream_error readable.controller_close readable.close_if_empty readable.stream_close readable.after_take readable.pull_steps readable.default_reader_read readable.reader_generic_initialize readable.disturb readable.start_settled readable.pull_settled readable.stream_cancel readable.cancel_steps readable.cancel_if_readable readable.reader_release writable.ensure_rejected writable.settle_pending writable.update_backpressure writable.refresh_backpressure writable.reject_close_and_closed writable.finish_erroring writable.start_erroring writable.deal_with_rejection writable.controller_error_if_needed writable.process_write writable.process_close writable.advance_queue writable.hand_on writable.write_settled writable.finish_in_flight_close writable.finish_in_flight_close_with_error writable.close_settled writable.start_settled writable.abort_settled writable.controller_write writable.writer_write writable.controller_close writable.stream_close writable.close_with_error_propagation writable.stream_abort writable.abort_if_writable writable.set_up_writer writable.writer_release pipe.finalize pipe.act_by_signal pipe.act pipe.proceed pipe.shutdown pipe.look pipe.look_ready pipe.go_on pipe.keep_chunk pipe.read_ended pipe.write_chunk pipe.write_ended pipe.action_settled pipe.part_settled pipe.no_parts pipe.abort call_host row turns performed begin_job begin
astray = (refl, refl)
