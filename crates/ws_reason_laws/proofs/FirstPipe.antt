-- The first pipe of a realm, made between the first two streams: its ends are free, so that the laws speak of it.
use Rattle.std.proofs.Common.{◌≡◌, List, [], ◌∷◌, ◌++◌, Some, None, Contains, refl}
use Rattle.ws_value.specs.declared.ids.PromiseId.{PromiseId}
use Rattle.ws_value.specs.declared.ids.StreamId.{StreamId}
use Rattle.ws_value.specs.declared.value.Outcome.TheVariants.{Rejected}
use Rattle.ws_value.specs.declared.value.Plain.{Plain}
use Rattle.ws_steps.specs.declared.calls.Call.TheVariants.{MakeReadable, MakeWritable, Pipe}
use Rattle.ws_steps.specs.declared.calls.Reply.TheVariants.{Promise}
use Rattle.ws_steps.specs.declared.calls.StartBy.TheVariants.{Now}
use Rattle.ws_steps.specs.declared.pipes.Prevent.{Prevent}
use Rattle.ws_steps.specs.declared.readable.SizeBy.TheVariants.{Count}
use Rattle.ws_steps.specs.Promises.{outcome_at, fresh, settle, answer, react, follow, unfollow, use_gift, queue_micro, after_next_job, watch}
use Rattle.ws_steps.specs.Readable as readable
use Rattle.ws_steps.specs.Writable as writable
use Rattle.ws_steps.specs.Pipes as pipe
use Rattle.ws_steps.specs.Turns.{call_host, row, turns, performed}
use Rattle.ws_steps.specs.Jobs.{begin_job}
use Rattle.ws_steps.specs.Calls.{begin}
use Rattle.ws_steps.specs.Run.{Entry, Called, run, reply_to}
use Rattle.ws_steps.specs.Slots.{empty}
use Rattle.ws_reason_laws.specs.Reasons.{failures, IsFree, BringsNothing, NeedsTee, NeedsPort}
use Rattle.ws_reason_laws.proofs.Failed.{reason-was-a-failure}

abbrev pub s0 : StreamId
s0 = record { 0 = 0 }

abbrev pub s1 : StreamId
s1 = record { 0 = 1 }

-- a source that is pulled for each read, and a destination that takes one chunk at a time
abbrev pub opening : List Entry
opening = Called (MakeReadable 0 Count Now) ∷ Called (MakeWritable 1 Count Now) ∷ []

-- the promise of the pipe
abbrev pub promise : PromiseId
promise = record { 0 = 5 }

pub ends-free : IsFree s0 s1 (run opening empty)
unfolding fresh settle answer react follow unfollow use_gift queue_micro after_next_job watch readable.call_pull_if_needed readable.accept readable.controller_enqueue readable.controller_error readable.stream_error readable.controller_close readable.close_if_empty readable.stream_close readable.after_take readable.pull_steps readable.default_reader_read readable.reader_generic_initialize readable.disturb readable.start_settled readable.pull_settled readable.stream_cancel readable.cancel_steps readable.cancel_if_readable readable.reader_release writable.ensure_rejected writable.settle_pending writable.update_backpressure writable.refresh_backpressure writable.reject_close_and_closed writable.finish_erroring writable.start_erroring writable.deal_with_rejection writable.controller_error_if_needed writable.process_write writable.process_close writable.advance_queue writable.hand_on writable.write_settled writable.finish_in_flight_close writable.finish_in_flight_close_with_error writable.close_settled writable.start_settled writable.abort_settled writable.controller_write writable.writer_write writable.controller_close writable.stream_close writable.close_with_error_propagation writable.stream_abort writable.abort_if_writable writable.set_up_writer writable.writer_release pipe.finalize pipe.act_by_signal pipe.act pipe.proceed pipe.shutdown pipe.look pipe.look_ready pipe.go_on pipe.keep_chunk pipe.read_ended pipe.write_chunk pipe.write_ended pipe.action_settled pipe.part_settled pipe.no_parts pipe.abort call_host row turns performed begin_job begin
ends-free = record { source = refl; dest = refl; source_unlocked = refl; dest_unlocked = refl; not_closing = refl; not_closed = refl }

pub promise-answered : (prevent : Prevent) → reply_to (Pipe s0 s1 prevent None) (run opening empty) ≡ Promise promise
unfolding fresh settle answer react follow unfollow use_gift queue_micro after_next_job watch readable.call_pull_if_needed readable.accept readable.controller_enqueue readable.controller_error readable.stream_error readable.controller_close readable.close_if_empty readable.stream_close readable.after_take readable.pull_steps readable.default_reader_read readable.reader_generic_initialize readable.disturb readable.start_settled readable.pull_settled readable.stream_cancel readable.cancel_steps readable.cancel_if_readable readable.reader_release writable.ensure_rejected writable.settle_pending writable.update_backpressure writable.refresh_backpressure writable.reject_close_and_closed writable.finish_erroring writable.start_erroring writable.deal_with_rejection writable.controller_error_if_needed writable.process_write writable.process_close writable.advance_queue writable.hand_on writable.write_settled writable.finish_in_flight_close writable.finish_in_flight_close_with_error writable.close_settled writable.start_settled writable.abort_settled writable.controller_write writable.writer_write writable.controller_close writable.stream_close writable.close_with_error_propagation writable.stream_abort writable.abort_if_writable writable.set_up_writer writable.writer_release pipe.finalize pipe.act_by_signal pipe.act pipe.proceed pipe.shutdown pipe.look pipe.look_ready pipe.go_on pipe.keep_chunk pipe.read_ended pipe.write_chunk pipe.write_ended pipe.action_settled pipe.part_settled pipe.no_parts pipe.abort call_host row turns performed begin_job begin
promise-answered prevent = refl

-- it is rejected only with the reason of a failure after it was made, where there is no transform stream, and no call stored a TypeError in a byte stream; and
-- with a pair only where there is a tee, and with a DataCloneError only where there is a port
pub first-rejected : (prevent : Prevent) (xs : List Entry) (r : Plain) → BringsNothing (opening ++ Called (Pipe s0 s1 prevent None) ∷ xs) → NeedsTee r (opening ++ Called (Pipe s0 s1 prevent None) ∷ xs)
    → NeedsPort r (opening ++ Called (Pipe s0 s1 prevent None) ∷ xs)
    → outcome_at (run (opening ++ Called (Pipe s0 s1 prevent None) ∷ xs) empty).promises promise ≡ Some (Rejected r) → Contains (failures xs) r
first-rejected prevent xs r none need port out = reason-was-a-failure opening xs s0 s1 prevent None promise r ends-free (promise-answered prevent) (λ c. none.transforms) (λ c. none) need port out
