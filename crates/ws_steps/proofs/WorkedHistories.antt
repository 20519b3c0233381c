-- The histories computed on short runs.
use Rattle.std.proofs.Common.{◌≡◌, ℕ, List, [], ◌∷◌, ◌++◌, map, Some, None, refl, false, true}
use Rattle.ws_value.specs.declared.ids.HostId.{HostId}
use Rattle.ws_value.specs.declared.fault.Fault.TheVariants.{TypeError}
use Rattle.ws_value.specs.declared.ids.LockId.{LockId}
use Rattle.ws_value.specs.declared.ids.PromiseId.{PromiseId}
use Rattle.ws_value.specs.declared.ids.StreamId.{StreamId}
use Rattle.ws_value.specs.declared.value.Outcome.TheVariants.{Pending, Fulfilled, Given, Finished, Rejected}
use Rattle.ws_value.specs.declared.value.Plain.TheVariants.{Undefined, Number, Fault}
use Rattle.ws_value.specs.declared.value.Value.{Value}
use Rattle.ws_value.specs.declared.value.Value.TheVariants.{Plain as PlainValue}
use Rattle.ws_steps.specs.declared.calls.Answer.TheVariants.{Ok, Fail}
use Rattle.ws_steps.specs.declared.calls.Call.TheVariants.{MakeReadable, MakeWritable, GetReader, GetWriter, CancelBy, Read, Write, CloseBy, Closed, Release, Enqueue, Finish, Fail as FailCall, Settle}
use Rattle.ws_steps.specs.declared.calls.Event.TheVariants.{Host}
use Rattle.ws_steps.specs.declared.calls.HostCall.TheVariants.{Pull, Cancel}
use Rattle.ws_steps.specs.declared.calls.StartBy.TheVariants.{Now}
use Rattle.ws_steps.specs.declared.readable.ReadRequest.TheVariants.{Promise}
use Rattle.ws_steps.specs.declared.readable.SizeBy.TheVariants.{Count}
use Rattle.ws_steps.specs.declared.writable.WritableState.TheVariants.{Errored}
use Rattle.ws_steps.specs.Promises.{outcome_at, rank_at, fresh, settle, answer, react, follow, unfollow, use_gift, after_next_job, watch}
use Rattle.ws_steps.specs.Readable as readable
use Rattle.ws_steps.specs.Writable as writable
use Rattle.ws_steps.specs.Slots.{empty, writable_at}
use Rattle.ws_steps.specs.Turns.{call_host, row, turns, performed, moments_of, moments}
use Rattle.ws_steps.specs.Jobs.{begin_job}
use Rattle.ws_steps.specs.Calls.{begin}
use Rattle.ws_steps.specs.Run.{Entry, Called, Worked, Heard, is_named, run}
use Rattle.ws_steps.specs.Histories.{run_events}
use Rattle.ws_steps.specs.ReadableHistory.{run_flow, run_reads, asked_by_calls}
use Rattle.ws_steps.specs.WritableHistory.{run_writes, run_promised}

abbrev s0 : StreamId
s0 = record { 0 = 0 }

abbrev l0 : LockId
l0 = record { 0 = 0 }

abbrev l1 : LockId
l1 = record { 0 = 1 }

abbrev h : ℕ → HostId
h n = record { 0 = n }

abbrev n : ℕ → Value
n k = PlainValue (Number k)

-- two chunks are read from the queue, one is given to a read that waits, and one is in the queue at the cancel
abbrev reads : List Entry
reads =
    Called (MakeReadable 2 Count Now) ∷ Worked ∷ Called (Enqueue s0 (n 1)) ∷ Called (Enqueue s0 (n 2)) ∷ Called (GetReader s0)
    ∷ Called (Read l0) ∷ Called (Read l0) ∷ Called (Read l0) ∷ Called (Enqueue s0 (n 3)) ∷ Called (Enqueue s0 (n 4))
    ∷ Called (CancelBy l0 (Number 5)) ∷ []

flow_of_reads : run_flow s0 reads empty ≡ record { entered = n 1 ∷ n 2 ∷ n 3 ∷ n 4 ∷ []; given = n 1 ∷ n 2 ∷ n 3 ∷ []; cancelled = true; asked = 3 }
unfolding fresh settle answer react follow unfollow use_gift after_next_job watch readable.call_pull_if_needed readable.accept readable.controller_enqueue readable.stream_close readable.stream_error readable.close_if_empty readable.controller_close readable.controller_error readable.after_take readable.pull_steps readable.default_reader_read readable.reader_generic_initialize readable.start_settled readable.pull_settled readable.cancel_steps readable.stream_cancel readable.reader_release writable.ensure_rejected writable.settle_pending writable.update_backpressure writable.refresh_backpressure writable.reject_close_and_closed writable.finish_erroring writable.start_erroring writable.deal_with_rejection writable.controller_error_if_needed writable.process_write writable.process_close writable.advance_queue writable.hand_on writable.write_settled writable.finish_in_flight_close writable.finish_in_flight_close_with_error writable.close_settled writable.start_settled writable.abort_settled writable.controller_write writable.writer_write writable.controller_close writable.stream_close writable.stream_abort writable.set_up_writer writable.writer_release call_host row turns performed moments_of moments begin_job begin
flow_of_reads = refl

abbrev p : ℕ → PromiseId
p k = record { 0 = k }

-- Two reads wait, of which the first gets a chunk and the second is let down as its reader is released; then one waits at the close, and
-- one comes after it
abbrev in_turn : List Entry
in_turn =
    Called (MakeReadable 0 Count Now) ∷ Worked ∷ Called (GetReader s0) ∷ Called (Read l0) ∷ Called (Read l0) ∷ Called (Enqueue s0 (n 1))
    ∷ Called (Release l0) ∷ Called (Read l0) ∷ Called (GetReader s0) ∷ Called (Read l1) ∷ Called (Finish s0) ∷ Called (Read l1) ∷ []

reads_in_turn : run_reads s0 in_turn empty ≡ record { asked = map Promise (p 2 ∷ p 4 ∷ p 7 ∷ p 8 ∷ []); released = Promise (p 4) ∷ [] }
unfolding fresh settle answer react follow unfollow use_gift after_next_job watch readable.call_pull_if_needed readable.accept readable.controller_enqueue readable.stream_close readable.stream_error readable.close_if_empty readable.controller_close readable.controller_error readable.after_take readable.pull_steps readable.default_reader_read readable.reader_generic_initialize readable.start_settled readable.pull_settled readable.cancel_steps readable.stream_cancel readable.reader_release writable.ensure_rejected writable.settle_pending writable.update_backpressure writable.refresh_backpressure writable.reject_close_and_closed writable.finish_erroring writable.start_erroring writable.deal_with_rejection writable.controller_error_if_needed writable.process_write writable.process_close writable.advance_queue writable.hand_on writable.write_settled writable.finish_in_flight_close writable.finish_in_flight_close_with_error writable.close_settled writable.start_settled writable.abort_settled writable.controller_write writable.writer_write writable.controller_close writable.stream_close writable.stream_abort writable.set_up_writer writable.writer_release call_host row turns performed moments_of moments begin_job begin
reads_in_turn = refl

promises_in_turn : (asked_by_calls s0 in_turn empty ≡ p 2 ∷ p 4 ∷ p 7 ∷ p 8 ∷ []) × (asked_by_calls (record { 0 = 1 }) in_turn empty ≡ [])
unfolding fresh settle answer react follow unfollow use_gift after_next_job watch readable.call_pull_if_needed readable.accept readable.controller_enqueue readable.stream_close readable.stream_error readable.close_if_empty readable.controller_close readable.controller_error readable.after_take readable.pull_steps readable.default_reader_read readable.reader_generic_initialize readable.start_settled readable.pull_settled readable.cancel_steps readable.stream_cancel readable.reader_release writable.ensure_rejected writable.settle_pending writable.update_backpressure writable.refresh_backpressure writable.reject_close_and_closed writable.finish_erroring writable.start_erroring writable.deal_with_rejection writable.controller_error_if_needed writable.process_write writable.process_close writable.advance_queue writable.hand_on writable.write_settled writable.finish_in_flight_close writable.finish_in_flight_close_with_error writable.close_settled writable.start_settled writable.abort_settled writable.controller_write writable.writer_write writable.controller_close writable.stream_close writable.stream_abort writable.set_up_writer writable.writer_release call_host row turns performed moments_of moments begin_job begin
promises_in_turn = (refl, refl)

answers_in_turn : map (outcome_at (run in_turn empty).promises) (asked_by_calls s0 in_turn empty)
    ≡ Some (Given (n 1)) ∷ Some (Rejected (Fault TypeError)) ∷ Some (Finished (PlainValue Undefined)) ∷ Some (Finished (PlainValue Undefined)) ∷ []
unfolding fresh settle answer react follow unfollow use_gift after_next_job watch readable.call_pull_if_needed readable.accept readable.controller_enqueue readable.stream_close readable.stream_error readable.close_if_empty readable.controller_close readable.controller_error readable.after_take readable.pull_steps readable.default_reader_read readable.reader_generic_initialize readable.start_settled readable.pull_settled readable.cancel_steps readable.stream_cancel readable.reader_release writable.ensure_rejected writable.settle_pending writable.update_backpressure writable.refresh_backpressure writable.reject_close_and_closed writable.finish_erroring writable.start_erroring writable.deal_with_rejection writable.controller_error_if_needed writable.process_write writable.process_close writable.advance_queue writable.hand_on writable.write_settled writable.finish_in_flight_close writable.finish_in_flight_close_with_error writable.close_settled writable.start_settled writable.abort_settled writable.controller_write writable.writer_write writable.controller_close writable.stream_close writable.stream_abort writable.set_up_writer writable.writer_release call_host row turns performed moments_of moments begin_job begin
answers_in_turn = refl

-- an error rejects a read that waits and one that comes after it
abbrev failing : List Entry
failing =
    Called (MakeReadable 0 Count Now) ∷ Worked ∷ Called (GetReader s0) ∷ Called (Read l0) ∷ Called (FailCall s0 (Number 9)) ∷ Called (Read l0) ∷ []

answers_failing : map (outcome_at (run failing empty).promises) (asked_by_calls s0 failing empty) ≡ Some (Rejected (Number 9)) ∷ Some (Rejected (Number 9)) ∷ []
unfolding fresh settle answer react follow unfollow use_gift after_next_job watch readable.call_pull_if_needed readable.accept readable.controller_enqueue readable.stream_close readable.stream_error readable.close_if_empty readable.controller_close readable.controller_error readable.after_take readable.pull_steps readable.default_reader_read readable.reader_generic_initialize readable.start_settled readable.pull_settled readable.cancel_steps readable.stream_cancel readable.reader_release writable.ensure_rejected writable.settle_pending writable.update_backpressure writable.refresh_backpressure writable.reject_close_and_closed writable.finish_erroring writable.start_erroring writable.deal_with_rejection writable.controller_error_if_needed writable.process_write writable.process_close writable.advance_queue writable.hand_on writable.write_settled writable.finish_in_flight_close writable.finish_in_flight_close_with_error writable.close_settled writable.start_settled writable.abort_settled writable.controller_write writable.writer_write writable.controller_close writable.stream_close writable.stream_abort writable.set_up_writer writable.writer_release call_host row turns performed moments_of moments begin_job begin
answers_failing = refl

-- two writes and a close are asked for
abbrev writes : List Entry
writes =
    Called (MakeWritable 1 Count Now) ∷ Worked ∷ Called (GetWriter s0) ∷ Called (Write l0 (n 1)) ∷ Called (Write l0 (n 2))
    ∷ Called (CloseBy l0) ∷ []

-- both writes succeed
writes_that_succeed : run_writes s0 (writes ++ Called (Settle (h 0) Ok) ∷ Worked ∷ Called (Settle (h 1) Ok) ∷ Worked ∷ []) empty
    ≡ record { written = n 1 ∷ n 2 ∷ []; acted = n 1 ∷ n 2 ∷ []; fulfilled = 2; closes = 1 }
unfolding fresh settle answer react follow unfollow use_gift after_next_job watch readable.call_pull_if_needed readable.accept readable.controller_enqueue readable.stream_close readable.stream_error readable.close_if_empty readable.controller_close readable.controller_error readable.after_take readable.pull_steps readable.default_reader_read readable.reader_generic_initialize readable.start_settled readable.pull_settled readable.cancel_steps readable.stream_cancel readable.reader_release writable.ensure_rejected writable.settle_pending writable.update_backpressure writable.refresh_backpressure writable.reject_close_and_closed writable.finish_erroring writable.start_erroring writable.deal_with_rejection writable.controller_error_if_needed writable.process_write writable.process_close writable.advance_queue writable.hand_on writable.write_settled writable.finish_in_flight_close writable.finish_in_flight_close_with_error writable.close_settled writable.start_settled writable.abort_settled writable.controller_write writable.writer_write writable.controller_close writable.stream_close writable.stream_abort writable.set_up_writer writable.writer_release call_host row turns performed moments_of moments begin_job begin
writes_that_succeed = refl

-- the first write fails
write_that_fails : run_writes s0 (writes ++ Called (Settle (h 0) (Fail (Number 9))) ∷ Worked ∷ Called (Write l0 (n 3)) ∷ []) empty
    ≡ record { written = n 1 ∷ n 2 ∷ []; acted = n 1 ∷ []; fulfilled = 0; closes = 0 }
unfolding fresh settle answer react follow unfollow use_gift after_next_job watch readable.call_pull_if_needed readable.accept readable.controller_enqueue readable.stream_close readable.stream_error readable.close_if_empty readable.controller_close readable.controller_error readable.after_take readable.pull_steps readable.default_reader_read readable.reader_generic_initialize readable.start_settled readable.pull_settled readable.cancel_steps readable.stream_cancel readable.reader_release writable.ensure_rejected writable.settle_pending writable.update_backpressure writable.refresh_backpressure writable.reject_close_and_closed writable.finish_erroring writable.start_erroring writable.deal_with_rejection writable.controller_error_if_needed writable.process_write writable.process_close writable.advance_queue writable.hand_on writable.write_settled writable.finish_in_flight_close writable.finish_in_flight_close_with_error writable.close_settled writable.start_settled writable.abort_settled writable.controller_write writable.writer_write writable.controller_close writable.stream_close writable.stream_abort writable.set_up_writer writable.writer_release call_host row turns performed moments_of moments begin_job begin
write_that_fails = refl

-- the promises of the two writes
promises_of_writes : run_promised s0 writes empty ≡ record { 0 = 3 } ∷ record { 0 = 6 } ∷ []
unfolding fresh settle answer react follow unfollow use_gift after_next_job watch readable.call_pull_if_needed readable.accept readable.controller_enqueue readable.stream_close readable.stream_error readable.close_if_empty readable.controller_close readable.controller_error readable.after_take readable.pull_steps readable.default_reader_read readable.reader_generic_initialize readable.start_settled readable.pull_settled readable.cancel_steps readable.stream_cancel readable.reader_release writable.ensure_rejected writable.settle_pending writable.update_backpressure writable.refresh_backpressure writable.reject_close_and_closed writable.finish_erroring writable.start_erroring writable.deal_with_rejection writable.controller_error_if_needed writable.process_write writable.process_close writable.advance_queue writable.hand_on writable.write_settled writable.finish_in_flight_close writable.finish_in_flight_close_with_error writable.close_settled writable.start_settled writable.abort_settled writable.controller_write writable.writer_write writable.controller_close writable.stream_close writable.stream_abort writable.set_up_writer writable.writer_release call_host row turns performed moments_of moments begin_job begin
promises_of_writes = refl

-- the first write ends well and the second fails, and so does the stream
abbrev half_failed : List Entry
half_failed = writes ++ Called (Settle (h 0) Ok) ∷ Worked ∷ Called (Settle (h 1) (Fail (Number 9))) ∷ Worked ∷ []

outcomes_of_writes : ((writable_at s0 (run half_failed empty)).state ≡ Errored)
    × (map (outcome_at (run half_failed empty).promises) (run_promised s0 half_failed empty) ≡ Some (Fulfilled Undefined) ∷ Some (Rejected (Number 9)) ∷ [])
unfolding fresh settle answer react follow unfollow use_gift after_next_job watch readable.call_pull_if_needed readable.accept readable.controller_enqueue readable.stream_close readable.stream_error readable.close_if_empty readable.controller_close readable.controller_error readable.after_take readable.pull_steps readable.default_reader_read readable.reader_generic_initialize readable.start_settled readable.pull_settled readable.cancel_steps readable.stream_cancel readable.reader_release writable.ensure_rejected writable.settle_pending writable.update_backpressure writable.refresh_backpressure writable.reject_close_and_closed writable.finish_erroring writable.start_erroring writable.deal_with_rejection writable.controller_error_if_needed writable.process_write writable.process_close writable.advance_queue writable.hand_on writable.write_settled writable.finish_in_flight_close writable.finish_in_flight_close_with_error writable.close_settled writable.start_settled writable.abort_settled writable.controller_write writable.writer_write writable.controller_close writable.stream_close writable.stream_abort writable.set_up_writer writable.writer_release call_host row turns performed moments_of moments begin_job begin
outcomes_of_writes = (refl, refl)

-- three writes, of which the first two end well: their promises are fulfilled in the order of the writes
abbrev in_order : List Entry
in_order =
    Called (MakeWritable 3 Count Now) ∷ Worked ∷ Called (GetWriter s0) ∷ Called (Write l0 (n 1)) ∷ Called (Write l0 (n 2)) ∷ Called (Write l0 (n 3))
    ∷ Called (Settle (h 0) Ok) ∷ Worked ∷ Called (Settle (h 1) Ok) ∷ Worked ∷ []

outcomes_in_order : map (outcome_at (run in_order empty).promises) (run_promised s0 in_order empty)
    ≡ Some (Fulfilled Undefined) ∷ Some (Fulfilled Undefined) ∷ Some Pending ∷ []
unfolding fresh settle answer react follow unfollow use_gift after_next_job watch readable.call_pull_if_needed readable.accept readable.controller_enqueue readable.stream_close readable.stream_error readable.close_if_empty readable.controller_close readable.controller_error readable.after_take readable.pull_steps readable.default_reader_read readable.reader_generic_initialize readable.start_settled readable.pull_settled readable.cancel_steps readable.stream_cancel readable.reader_release writable.ensure_rejected writable.settle_pending writable.update_backpressure writable.refresh_backpressure writable.reject_close_and_closed writable.finish_erroring writable.start_erroring writable.deal_with_rejection writable.controller_error_if_needed writable.process_write writable.process_close writable.advance_queue writable.hand_on writable.write_settled writable.finish_in_flight_close writable.finish_in_flight_close_with_error writable.close_settled writable.start_settled writable.abort_settled writable.controller_write writable.writer_write writable.controller_close writable.stream_close writable.stream_abort writable.set_up_writer writable.writer_release call_host row turns performed moments_of moments begin_job begin
outcomes_in_order = refl

-- the host takes an event, and another happens
events_taken : run_events (Called (MakeReadable 2 Count Now) ∷ Worked ∷ Heard ∷ Called (GetReader s0) ∷ Called (CancelBy l0 (Number 5)) ∷ []) empty
    ≡ Host (h 0) (Pull s0) ∷ Host (h 1) (Cancel s0 (Number 5)) ∷ []
unfolding fresh settle answer react follow unfollow use_gift after_next_job watch readable.call_pull_if_needed readable.accept readable.controller_enqueue readable.stream_close readable.stream_error readable.close_if_empty readable.controller_close readable.controller_error readable.after_take readable.pull_steps readable.default_reader_read readable.reader_generic_initialize readable.start_settled readable.pull_settled readable.cancel_steps readable.stream_cancel readable.reader_release writable.ensure_rejected writable.settle_pending writable.update_backpressure writable.refresh_backpressure writable.reject_close_and_closed writable.finish_erroring writable.start_erroring writable.deal_with_rejection writable.controller_error_if_needed writable.process_write writable.process_close writable.advance_queue writable.hand_on writable.write_settled writable.finish_in_flight_close writable.finish_in_flight_close_with_error writable.close_settled writable.start_settled writable.abort_settled writable.controller_write writable.writer_write writable.controller_close writable.stream_close writable.stream_abort writable.set_up_writer writable.writer_release call_host row turns performed moments_of moments begin_job begin
events_taken = refl

-- the promises of the writes and of the close were named and are watched, and so stays the writer's closed promise once it was asked for;
-- no reply named the promise of the start
abbrev asked : List Entry
asked = writes ++ Called (Closed l0) ∷ Worked ∷ []

names_of_asked : (map (λ k. is_named (p k) asked empty) (0 ∷ 1 ∷ 2 ∷ 3 ∷ []) ≡ false ∷ false ∷ true ∷ true ∷ [])
    × (map (rank_at (run asked empty).promises) (p 0 ∷ p 1 ∷ p 2 ∷ p 3 ∷ []) ≡ None ∷ None ∷ Some 3 ∷ Some 0 ∷ [])
unfolding fresh settle answer react follow unfollow use_gift after_next_job watch readable.call_pull_if_needed readable.accept readable.controller_enqueue readable.stream_close readable.stream_error readable.close_if_empty readable.controller_close readable.controller_error readable.after_take readable.pull_steps readable.default_reader_read readable.reader_generic_initialize readable.start_settled readable.pull_settled readable.cancel_steps readable.stream_cancel readable.reader_release writable.ensure_rejected writable.settle_pending writable.update_backpressure writable.refresh_backpressure writable.reject_close_and_closed writable.finish_erroring writable.start_erroring writable.deal_with_rejection writable.controller_error_if_needed writable.process_write writable.process_close writable.advance_queue writable.hand_on writable.write_settled writable.finish_in_flight_close writable.finish_in_flight_close_with_error writable.close_settled writable.start_settled writable.abort_settled writable.controller_write writable.writer_write writable.controller_close writable.stream_close writable.stream_abort writable.set_up_writer writable.writer_release call_host row turns performed moments_of moments begin_job begin
names_of_asked = (refl, refl)
