-- The definitions computed on worked examples: pipes and signals.
use Rattle.std.proofs.Common.{◌≡◌, List, [], ◌∷◌, map, refl, true, false, None, Some}
use Rattle.ws_value.specs.declared.ids.SignalId.{SignalId}
use Rattle.ws_value.specs.declared.ids.StreamId.{StreamId}
use Rattle.ws_steps.specs.declared.calls.Answer.TheVariants.{Ok}
use Rattle.ws_steps.specs.declared.calls.Call.{Call}
use Rattle.ws_steps.specs.declared.calls.Call.TheVariants.{MakeReadable, MakeWritable, GetWriter, Write as WriteBy, CloseBy, Release, Enqueue, Finish, Fail, Pipe, MakeSignal, Trigger, Settle, State}
use Rattle.ws_steps.specs.declared.calls.HostCall.TheVariants.{Pull, Cancel, Write, Close, Abort}
use Rattle.ws_steps.specs.declared.calls.Event.TheVariants.{Signal as SignalEvent}
use Rattle.ws_steps.specs.declared.calls.Reply.TheVariants.{Done, Made, Lock, Signal, State as StateReply}
use Rattle.ws_steps.specs.declared.calls.StartBy.TheVariants.{Now}
use Rattle.ws_steps.specs.declared.calls.Word.TheVariants.{Readable as WordReadable}
use Rattle.ws_steps.specs.declared.pipes.Prevent.{Prevent}
use Rattle.ws_steps.specs.declared.readable.SizeBy.TheVariants.{Count}
use Rattle.ws_steps.specs.Effects.{type_error}
use Rattle.ws_steps.specs.Promises.{fresh, settle, answer, react, follow, unfollow, use_gift, queue_micro, after_next_job, watch}
use Rattle.ws_steps.specs.Readable as readable
use Rattle.ws_steps.specs.Writable as writable
use Rattle.ws_steps.specs.Pipes as pipe
use Rattle.ws_steps.specs.Turns.{call_host, row, turns, performed}
use Rattle.ws_steps.specs.Jobs.{begin_job}
use Rattle.ws_steps.specs.Calls.{begin}
use Rattle.ws_steps.proofs.WorkedWords.{Printed, hears, printed_tasks, s0, l0, h, e, v, says, promise, host, fulfilled, rejected, no_flags}

abbrev piped : List Call → List Printed
piped cs = printed_tasks (map (λ c. (20, c)) cs)

abbrev s1 : StreamId
s1 = record { 0 = 1 }

abbrev a0 : SignalId
a0 = record { 0 = 0 }

abbrev nothing : Prevent
nothing = record { close = false; abort = false; cancel = false }

-- the source closes with its last chunk still unwritten in the pipe
source_closes_with_a_chunk_unwritten : piped (MakeReadable 1 Count Now ∷ Enqueue s0 (v 1) ∷ Finish s0 ∷ MakeWritable 1 Count Now ∷ Pipe s0 s1 nothing None ∷ Settle (h 1) Ok ∷ Settle (h 2) Ok ∷ [])
    ≡ says (Made s0) (host 0 (Pull s0) ∷ [])
    ∷ says Done []
    ∷ says Done []
    ∷ says (Made s1) []
    ∷ promise 0 (host 1 (Write s1 (v 1)) ∷ [])
    ∷ says Done (host 2 (Close s1) ∷ [])
    ∷ says Done (fulfilled 0 ∷ [])
    ∷ []
unfolding fresh settle answer react follow unfollow use_gift queue_micro after_next_job watch readable.call_pull_if_needed readable.accept readable.controller_enqueue readable.controller_close readable.close_if_empty readable.stream_close readable.after_take readable.pull_steps readable.default_reader_read readable.reader_generic_initialize readable.disturb readable.start_settled readable.pull_settled readable.stream_cancel readable.cancel_steps readable.cancel_if_readable readable.reader_release writable.ensure_rejected writable.settle_pending writable.update_backpressure writable.refresh_backpressure writable.reject_close_and_closed writable.finish_erroring writable.start_erroring writable.deal_with_rejection writable.controller_error_if_needed writable.process_write writable.process_close writable.advance_queue writable.hand_on writable.write_settled writable.finish_in_flight_close writable.finish_in_flight_close_with_error writable.close_settled writable.start_settled writable.abort_settled writable.controller_write writable.writer_write writable.controller_close writable.stream_close writable.close_with_error_propagation writable.stream_abort writable.abort_if_writable writable.set_up_writer writable.writer_release pipe.finalize pipe.act_by_signal pipe.act pipe.proceed pipe.shutdown pipe.look pipe.look_ready pipe.go_on pipe.keep_chunk pipe.read_ended pipe.write_chunk pipe.write_ended pipe.action_settled pipe.part_settled pipe.no_parts pipe.abort call_host row turns performed begin_job begin
source_closes_with_a_chunk_unwritten = refl

-- a pipe onto a closing destination
pipe_onto_a_closing_destination : piped (MakeReadable 0 Count Now ∷ MakeWritable 1 Count Now ∷ GetWriter s1 ∷ CloseBy l0 ∷ Release l0 ∷ Pipe s0 s1 nothing None ∷ Settle (h 1) Ok ∷ [])
    ≡ says (Made s0) []
    ∷ says (Made s1) []
    ∷ says (Lock l0) []
    ∷ promise 0 (host 0 (Close s1) ∷ [])
    ∷ says Done []
    ∷ promise 1 (host 1 (Cancel s0 type_error) ∷ [])
    ∷ says Done (rejected 1 type_error ∷ [])
    ∷ []
unfolding fresh settle answer react follow unfollow use_gift queue_micro after_next_job watch readable.call_pull_if_needed readable.accept readable.controller_enqueue readable.controller_close readable.close_if_empty readable.stream_close readable.after_take readable.pull_steps readable.default_reader_read readable.reader_generic_initialize readable.disturb readable.start_settled readable.pull_settled readable.stream_cancel readable.cancel_steps readable.cancel_if_readable readable.reader_release writable.ensure_rejected writable.settle_pending writable.update_backpressure writable.refresh_backpressure writable.reject_close_and_closed writable.finish_erroring writable.start_erroring writable.deal_with_rejection writable.controller_error_if_needed writable.process_write writable.process_close writable.advance_queue writable.hand_on writable.write_settled writable.finish_in_flight_close writable.finish_in_flight_close_with_error writable.close_settled writable.start_settled writable.abort_settled writable.controller_write writable.writer_write writable.controller_close writable.stream_close writable.close_with_error_propagation writable.stream_abort writable.abort_if_writable writable.set_up_writer writable.writer_release pipe.finalize pipe.act_by_signal pipe.act pipe.proceed pipe.shutdown pipe.look pipe.look_ready pipe.go_on pipe.keep_chunk pipe.read_ended pipe.write_chunk pipe.write_ended pipe.action_settled pipe.part_settled pipe.no_parts pipe.abort call_host row turns performed begin_job begin
pipe_onto_a_closing_destination = refl

-- and with nothing to cancel
pipe_onto_a_closing_destination_that_cancels_nothing : piped (MakeReadable 0 Count Now ∷ MakeWritable 1 Count Now ∷ GetWriter s1 ∷ CloseBy l0 ∷ Release l0 ∷ Pipe s0 s1 (record nothing { cancel = true }) None ∷ State s0 ∷ [])
    ≡ says (Made s0) []
    ∷ says (Made s1) []
    ∷ says (Lock l0) []
    ∷ promise 0 (host 0 (Close s1) ∷ [])
    ∷ says Done []
    ∷ promise 1 (rejected 1 type_error ∷ [])
    ∷ says (StateReply (record { state = WordReadable; flags = record no_flags { s = true; d = true }; total = 0; queue = 0; requests = 0 })) []
    ∷ []
unfolding fresh settle answer react follow unfollow use_gift queue_micro after_next_job watch readable.call_pull_if_needed readable.accept readable.controller_enqueue readable.controller_close readable.close_if_empty readable.stream_close readable.after_take readable.pull_steps readable.default_reader_read readable.reader_generic_initialize readable.disturb readable.start_settled readable.pull_settled readable.stream_cancel readable.cancel_steps readable.cancel_if_readable readable.reader_release writable.ensure_rejected writable.settle_pending writable.update_backpressure writable.refresh_backpressure writable.reject_close_and_closed writable.finish_erroring writable.start_erroring writable.deal_with_rejection writable.controller_error_if_needed writable.process_write writable.process_close writable.advance_queue writable.hand_on writable.write_settled writable.finish_in_flight_close writable.finish_in_flight_close_with_error writable.close_settled writable.start_settled writable.abort_settled writable.controller_write writable.writer_write writable.controller_close writable.stream_close writable.close_with_error_propagation writable.stream_abort writable.abort_if_writable writable.set_up_writer writable.writer_release pipe.finalize pipe.act_by_signal pipe.act pipe.proceed pipe.shutdown pipe.look pipe.look_ready pipe.go_on pipe.keep_chunk pipe.read_ended pipe.write_chunk pipe.write_ended pipe.action_settled pipe.part_settled pipe.no_parts pipe.abort call_host row turns performed begin_job begin
pipe_onto_a_closing_destination_that_cancels_nothing = refl

-- a signal aborts the destination and cancels the source
signal_aborts_and_cancels : piped (MakeReadable 1 Count Now ∷ MakeWritable 1 Count Now ∷ MakeSignal ∷ Pipe s0 s1 nothing (Some a0) ∷ Trigger a0 (e 5) ∷ Settle (h 1) Ok ∷ Settle (h 2) Ok ∷ [])
    ≡ says (Made s0) (host 0 (Pull s0) ∷ [])
    ∷ says (Made s1) []
    ∷ says (Signal a0) []
    ∷ promise 0 []
    ∷ says Done (hears (SignalEvent s1 (e 5)) ∷ host 1 (Abort s1 (e 5)) ∷ host 2 (Cancel s0 (e 5)) ∷ [])
    ∷ says Done []
    ∷ says Done (rejected 0 (e 5) ∷ [])
    ∷ []
unfolding fresh settle answer react follow unfollow use_gift queue_micro after_next_job watch readable.call_pull_if_needed readable.accept readable.controller_enqueue readable.controller_close readable.close_if_empty readable.stream_close readable.after_take readable.pull_steps readable.default_reader_read readable.reader_generic_initialize readable.disturb readable.start_settled readable.pull_settled readable.stream_cancel readable.cancel_steps readable.cancel_if_readable readable.reader_release writable.ensure_rejected writable.settle_pending writable.update_backpressure writable.refresh_backpressure writable.reject_close_and_closed writable.finish_erroring writable.start_erroring writable.deal_with_rejection writable.controller_error_if_needed writable.process_write writable.process_close writable.advance_queue writable.hand_on writable.write_settled writable.finish_in_flight_close writable.finish_in_flight_close_with_error writable.close_settled writable.start_settled writable.abort_settled writable.controller_write writable.writer_write writable.controller_close writable.stream_close writable.close_with_error_propagation writable.stream_abort writable.abort_if_writable writable.set_up_writer writable.writer_release pipe.finalize pipe.act_by_signal pipe.act pipe.proceed pipe.shutdown pipe.look pipe.look_ready pipe.go_on pipe.keep_chunk pipe.read_ended pipe.write_chunk pipe.write_ended pipe.action_settled pipe.part_settled pipe.no_parts pipe.abort call_host row turns performed begin_job begin
signal_aborts_and_cancels = refl

-- a pipe onto an erroring destination rests until the write in flight has settled
pipe_rests_on_an_erroring_destination : piped (MakeReadable 0 Count Now ∷ MakeWritable 1 Count Now ∷ GetWriter s1 ∷ WriteBy l0 (v 1) ∷ Release l0 ∷ Fail s1 (e 3) ∷ Pipe s0 s1 nothing None ∷ Settle (h 0) Ok ∷ Settle (h 1) Ok ∷ [])
    ≡ says (Made s0) []
    ∷ says (Made s1) []
    ∷ says (Lock l0) []
    ∷ promise 0 (host 0 (Write s1 (v 1)) ∷ [])
    ∷ says Done []
    ∷ says Done []
    ∷ promise 1 []
    ∷ says Done (fulfilled 0 ∷ host 1 (Cancel s0 (e 3)) ∷ [])
    ∷ says Done (rejected 1 (e 3) ∷ [])
    ∷ []
unfolding fresh settle answer react follow unfollow use_gift queue_micro after_next_job watch readable.call_pull_if_needed readable.accept readable.controller_enqueue readable.controller_close readable.close_if_empty readable.stream_close readable.after_take readable.pull_steps readable.default_reader_read readable.reader_generic_initialize readable.disturb readable.start_settled readable.pull_settled readable.stream_cancel readable.cancel_steps readable.cancel_if_readable readable.reader_release writable.ensure_rejected writable.settle_pending writable.update_backpressure writable.refresh_backpressure writable.reject_close_and_closed writable.finish_erroring writable.start_erroring writable.deal_with_rejection writable.controller_error_if_needed writable.process_write writable.process_close writable.advance_queue writable.hand_on writable.write_settled writable.finish_in_flight_close writable.finish_in_flight_close_with_error writable.close_settled writable.start_settled writable.abort_settled writable.controller_write writable.writer_write writable.controller_close writable.stream_close writable.close_with_error_propagation writable.stream_abort writable.abort_if_writable writable.set_up_writer writable.writer_release pipe.finalize pipe.act_by_signal pipe.act pipe.proceed pipe.shutdown pipe.look pipe.look_ready pipe.go_on pipe.keep_chunk pipe.read_ended pipe.write_chunk pipe.write_ended pipe.action_settled pipe.part_settled pipe.no_parts pipe.abort call_host row turns performed begin_job begin
pipe_rests_on_an_erroring_destination = refl
