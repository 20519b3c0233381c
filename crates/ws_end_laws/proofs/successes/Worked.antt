-- Runs that show what the laws leave out, and that what they speak of happens.
use Rattle.std.proofs.Common.{◌≡◌, List, [], ◌∷◌, Option, Some, None, is_some, slice_get, refl, false, true, sym, subst, ◌∙◌}
use Rattle.std.proofs.lemmas.List.Elements.{All-head}
use Rattle.ws_value.specs.declared.{ids.HostId.{HostId}, ids.PipeId.{PipeId}, ids.PromiseId.{PromiseId}, ids.SignalId.{SignalId}, ids.StreamId.{StreamId}}
use Rattle.ws_value.specs.declared.value.{Outcome.{Outcome}, Outcome.TheVariants.{Fulfilled, Rejected}, Plain.{Plain}, Plain.TheVariants.{Undefined, Number}, Value.TheVariants.{Plain as PlainValue}}
use Rattle.ws_steps.specs.declared.calls.Answer.TheVariants.{Ok as AnswerOk, Fail as AnswerErr}
use Rattle.ws_steps.specs.declared.calls.Call.TheVariants.{MakeReadable, MakeSignal, MakeWritable, Pipe, Enqueue, Finish, Settle, Trigger}
use Rattle.ws_steps.specs.declared.calls.StartBy.TheVariants.{Now}
use Rattle.ws_steps.specs.declared.readable.SizeBy.TheVariants.{Count}
use Rattle.ws_steps.specs.declared.writable.WritableState.TheVariants.{Errored}
use Rattle.ws_steps.specs.Laws.{AllFulfilled}
use Rattle.ws_steps.specs.Promises.{outcome_at, fresh, settle, answer, react, follow, unfollow, use_gift, queue_micro, after_next_job, watch}
use Rattle.ws_steps.specs.Readable as readable
use Rattle.ws_steps.specs.Writable as writable
use Rattle.ws_steps.specs.Pipes as pipe
use Rattle.ws_steps.specs.Turns.{call_host, row, turns, performed, moments, moments_of}
use Rattle.ws_steps.specs.Jobs.{begin_job}
use Rattle.ws_steps.specs.Calls.{begin}
use Rattle.ws_steps.specs.Run.{Entry, Called, Worked, run}
use Rattle.ws_steps.specs.Slots.{Slots, empty, as_pipe, pipe_at, writable_at}
use Rattle.ws_pipe_laws.specs.pipes.PipeHistory.{run_course, run_moments, promises_made}
use Rattle.ws_end_laws.specs.successes.Heard.{ItsAction, APart, promises_heard}

abbrev s0 : StreamId
s0 = record { 0 = 0 }

abbrev s1 : StreamId
s1 = record { 0 = 1 }

abbrev p0 : PipeId
p0 = record { 0 = 0 }

abbrev h1 : HostId
h1 = record { 0 = 1 }

-- A pipe with preventClose whose only write fails. It had waited for that write to settle, and its promise is fulfilled

abbrev failed : List Entry
failed =
    Called (MakeReadable 0 Count Now)
    ∷ Called (MakeWritable 2 Count Now)
    ∷ Called (Pipe s0 s1 (record { close = true; abort = false; cancel = false }) None)
    ∷ Worked ∷ Worked ∷ Worked ∷ Worked ∷ Worked ∷ Worked
    ∷ Called (Enqueue s0 (PlainValue (Number 1)))
    ∷ Worked ∷ Worked ∷ Worked ∷ Worked ∷ Worked ∷ Worked
    ∷ Called (Finish s0)
    ∷ Worked ∷ Worked ∷ Worked ∷ Worked ∷ Worked ∷ Worked
    ∷ Called (Settle h1 (AnswerErr (Number 9)))
    ∷ Worked ∷ Worked ∷ Worked ∷ Worked ∷ Worked ∷ Worked
    ∷ []

abbrev end : Slots
end = run failed empty

abbrev write : PromiseId
write = record { 0 = 7 }

pub fulfils-though-a-write-failed : (outcome_at end.promises (pipe_at p0 end).promise ≡ Some (Fulfilled Undefined))
    × ((promises_made p0 (run_moments failed empty) ≡ write ∷ []) × ((outcome_at end.promises write ≡ Some (Rejected (Number 9))) × (((writable_at s1 end).state ≡ Errored) × ((run_course p0 failed empty).ended ≡ None ∷ []))))
unfolding fresh settle answer react follow unfollow use_gift queue_micro after_next_job watch readable.call_pull_if_needed readable.accept readable.controller_enqueue readable.controller_close readable.close_if_empty readable.stream_close readable.after_take readable.pull_steps readable.default_reader_read readable.reader_generic_initialize readable.disturb readable.start_settled readable.pull_settled readable.stream_cancel readable.cancel_steps readable.cancel_if_readable readable.reader_release writable.ensure_rejected writable.settle_pending writable.update_backpressure writable.refresh_backpressure writable.reject_close_and_closed writable.finish_erroring writable.start_erroring writable.deal_with_rejection writable.controller_error_if_needed writable.process_write writable.process_close writable.advance_queue writable.hand_on writable.write_settled writable.finish_in_flight_close writable.finish_in_flight_close_with_error writable.close_settled writable.start_settled writable.abort_settled writable.controller_write writable.writer_write writable.controller_close writable.stream_close writable.close_with_error_propagation writable.stream_abort writable.abort_if_writable writable.set_up_writer writable.writer_release pipe.finalize pipe.act_by_signal pipe.act pipe.proceed pipe.shutdown pipe.look pipe.look_ready pipe.go_on pipe.keep_chunk pipe.read_ended pipe.write_chunk pipe.write_ended pipe.action_settled pipe.part_settled pipe.no_parts pipe.abort call_host row turns performed moments moments_of begin_job begin
fulfils-though-a-write-failed = (refl, (refl, (refl, (refl, refl))))

rejected_fulfilled : (o : Option Outcome) → o ≡ Some (Rejected (Number 9)) → o ≡ Some (Fulfilled Undefined) → ⊥
rejected_fulfilled o e f = let n : ◌≡◌ {A = Option Outcome} (Some (Rejected (Number 9))) (Some (Fulfilled Undefined)) = sym e ∙ f in absurd (cc)

pipe-made : is_some (slice_get end.pipes 0) ≡ true
unfolding fresh settle answer react follow unfollow use_gift queue_micro after_next_job watch readable.call_pull_if_needed readable.accept readable.controller_enqueue readable.controller_close readable.close_if_empty readable.stream_close readable.after_take readable.pull_steps readable.default_reader_read readable.reader_generic_initialize readable.disturb readable.start_settled readable.pull_settled readable.stream_cancel readable.cancel_steps readable.cancel_if_readable readable.reader_release writable.ensure_rejected writable.settle_pending writable.update_backpressure writable.refresh_backpressure writable.reject_close_and_closed writable.finish_erroring writable.start_erroring writable.deal_with_rejection writable.controller_error_if_needed writable.process_write writable.process_close writable.advance_queue writable.hand_on writable.write_settled writable.finish_in_flight_close writable.finish_in_flight_close_with_error writable.close_settled writable.start_settled writable.abort_settled writable.controller_write writable.writer_write writable.controller_close writable.stream_close writable.close_with_error_propagation writable.stream_abort writable.abort_if_writable writable.set_up_writer writable.writer_release pipe.finalize pipe.act_by_signal pipe.act pipe.proceed pipe.shutdown pipe.look pipe.look_ready pipe.go_on pipe.keep_chunk pipe.read_ended pipe.write_chunk pipe.write_ended pipe.action_settled pipe.part_settled pipe.no_parts pipe.abort call_host row turns performed moments moments_of begin_job begin
pipe-made = refl

some_there : (o : Option pipe.Slots) → is_some o ≡ true → o ≡ Some (as_pipe o)
some_there (Some x) e = refl
some_there None e = absurd (cc)

-- So not of each pipe whose promise is fulfilled each write was fulfilled
pub not-without-the-premise :
    ((entries : List Entry) (p : PipeId) (x : pipe.Slots) (v : Plain) → slice_get (run entries empty).pipes p.0 ≡ Some x → outcome_at (run entries empty).promises x.promise ≡ Some (Fulfilled v)
    → AllFulfilled (run entries empty).promises (promises_made p (run_moments entries empty))) → ⊥
not-without-the-premise law =
    let k = fulfils-though-a-write-failed in
    let all : AllFulfilled end.promises (write ∷ []) = subst (AllFulfilled end.promises) k.1.0 (law failed p0 (pipe_at p0 end) Undefined (some_there (slice_get end.pipes 0) pipe-made) k.0) in
    rejected_fulfilled (outcome_at end.promises write) k.1.1.0 (All-head (λ d. outcome_at end.promises d ≡ Some (Fulfilled Undefined)) write [] all)

-- A pipe that closes its destination, whose close fails: it is rejected with the reason of that close

abbrev unclosed : List Entry
unclosed =
    Called (MakeReadable 0 Count Now)
    ∷ Called (MakeWritable 2 Count Now)
    ∷ Called (Pipe s0 s1 (record { close = false; abort = false; cancel = false }) None)
    ∷ Worked ∷ Worked ∷ Worked ∷ Worked ∷ Worked ∷ Worked
    ∷ Called (Finish s0)
    ∷ Worked ∷ Worked ∷ Worked ∷ Worked ∷ Worked ∷ Worked
    ∷ Called (Settle h1 (AnswerErr (Number 9)))
    ∷ Worked ∷ Worked ∷ Worked ∷ Worked ∷ Worked ∷ Worked
    ∷ []

abbrev closing : PromiseId
closing = record { 0 = 7 }

pub fails-as-its-close : (promises_heard ItsAction p0 (run_moments unclosed empty) ≡ closing ∷ [])
    × ((outcome_at (run unclosed empty).promises closing ≡ Some (Rejected (Number 9))) × (outcome_at (run unclosed empty).promises (pipe_at p0 (run unclosed empty)).promise ≡ Some (Rejected (Number 9))))
unfolding fresh settle answer react follow unfollow use_gift queue_micro after_next_job watch readable.call_pull_if_needed readable.accept readable.controller_enqueue readable.controller_close readable.close_if_empty readable.stream_close readable.after_take readable.pull_steps readable.default_reader_read readable.reader_generic_initialize readable.disturb readable.start_settled readable.pull_settled readable.stream_cancel readable.cancel_steps readable.cancel_if_readable readable.reader_release writable.ensure_rejected writable.settle_pending writable.update_backpressure writable.refresh_backpressure writable.reject_close_and_closed writable.finish_erroring writable.start_erroring writable.deal_with_rejection writable.controller_error_if_needed writable.process_write writable.process_close writable.advance_queue writable.hand_on writable.write_settled writable.finish_in_flight_close writable.finish_in_flight_close_with_error writable.close_settled writable.start_settled writable.abort_settled writable.controller_write writable.writer_write writable.controller_close writable.stream_close writable.close_with_error_propagation writable.stream_abort writable.abort_if_writable writable.set_up_writer writable.writer_release pipe.finalize pipe.act_by_signal pipe.act pipe.proceed pipe.shutdown pipe.look pipe.look_ready pipe.go_on pipe.keep_chunk pipe.read_ended pipe.write_chunk pipe.write_ended pipe.action_settled pipe.part_settled pipe.no_parts pipe.abort call_host row turns performed moments moments_of begin_job begin
fails-as-its-close = (refl, (refl, refl))

-- A pipe that is aborted by its signal, and whose destination's abort fails: it hears of both parts, and is rejected with the reason of that abort

abbrev a0 : SignalId
a0 = record { 0 = 0 }

abbrev h2 : HostId
h2 = record { 0 = 2 }

abbrev aborted : List Entry
aborted =
    Called (MakeReadable 0 Count Now)
    ∷ Called (MakeWritable 2 Count Now)
    ∷ Called MakeSignal
    ∷ Called (Pipe s0 s1 (record { close = false; abort = false; cancel = false }) (Some a0))
    ∷ Worked ∷ Worked ∷ Worked ∷ Worked ∷ Worked ∷ Worked
    ∷ Called (Trigger a0 (Number 9))
    ∷ Worked ∷ Worked ∷ Worked ∷ Worked ∷ Worked ∷ Worked
    ∷ Called (Settle h1 (AnswerErr (Number 8)))
    ∷ Called (Settle h2 AnswerOk)
    ∷ Worked ∷ Worked ∷ Worked ∷ Worked ∷ Worked ∷ Worked
    ∷ []

abbrev aborting : PromiseId
aborting = record { 0 = 7 }

abbrev cancelling : PromiseId
cancelling = record { 0 = 8 }

abbrev both : PromiseId
both = record { 0 = 9 }

abbrev late : Slots
late = run aborted empty

pub fails-as-a-part : (promises_heard APart p0 (run_moments aborted empty) ≡ aborting ∷ cancelling ∷ [])
    × ((promises_heard ItsAction p0 (run_moments aborted empty) ≡ both ∷ [])
    × ((outcome_at late.promises aborting ≡ Some (Rejected (Number 8))) × ((outcome_at late.promises cancelling ≡ Some (Fulfilled Undefined)) × ((outcome_at late.promises both ≡ Some (Rejected (Number 8))) × (outcome_at late.promises (pipe_at p0 late).promise ≡ Some (Rejected (Number 8)))))))
unfolding fresh settle answer react follow unfollow use_gift queue_micro after_next_job watch readable.call_pull_if_needed readable.accept readable.controller_enqueue readable.controller_close readable.close_if_empty readable.stream_close readable.after_take readable.pull_steps readable.default_reader_read readable.reader_generic_initialize readable.disturb readable.start_settled readable.pull_settled readable.stream_cancel readable.cancel_steps readable.cancel_if_readable readable.reader_release writable.ensure_rejected writable.settle_pending writable.update_backpressure writable.refresh_backpressure writable.reject_close_and_closed writable.finish_erroring writable.start_erroring writable.deal_with_rejection writable.controller_error_if_needed writable.process_write writable.process_close writable.advance_queue writable.hand_on writable.write_settled writable.finish_in_flight_close writable.finish_in_flight_close_with_error writable.close_settled writable.start_settled writable.abort_settled writable.controller_write writable.writer_write writable.controller_close writable.stream_close writable.close_with_error_propagation writable.stream_abort writable.abort_if_writable writable.set_up_writer writable.writer_release pipe.finalize pipe.act_by_signal pipe.act pipe.proceed pipe.shutdown pipe.look pipe.look_ready pipe.go_on pipe.keep_chunk pipe.read_ended pipe.write_chunk pipe.write_ended pipe.action_settled pipe.part_settled pipe.no_parts pipe.abort call_host row turns performed moments moments_of begin_job begin
fails-as-a-part = (refl, (refl, (refl, (refl, (refl, refl)))))
