-- Reads into rooms at work: one is given a whole element, and one is finished with no bytes.
use Rattle.std.proofs.Common.{◌≡◌, List, [], ◌∷◌, refl, Some}
use Rattle.ws_value.specs.declared.ids.{LockId.{LockId}, PromiseId.{PromiseId}, RequestId.{RequestId}, StreamId.{StreamId}}
use Rattle.ws_value.specs.declared.value.{Outcome.TheVariants.{Given, Finished}, Value.TheVariants.{Bytes}}
use Rattle.ws_steps.specs.declared.calls.Call.{Call}
use Rattle.ws_steps.specs.declared.calls.Call.TheVariants.{MakeBytes, GetByob, ReadInto, Enqueue, Finish, Request, Respond}
use Rattle.ws_steps.specs.declared.calls.Reply.TheVariants.{Promise as Named}
use Rattle.ws_steps.specs.declared.calls.StartBy.TheVariants.{Now}
use Rattle.ws_steps.specs.Bytes as byte
use Rattle.ws_steps.specs.Readable as readable
use Rattle.ws_steps.specs.Promises.{outcome_at, next_id, fresh, settle, answer, react, follow, unfollow, use_gift, after_next_job, watch}
use Rattle.ws_steps.specs.Turns.{call_host, row, turns, performed}
use Rattle.ws_steps.specs.Jobs.{begin_job}
use Rattle.ws_steps.specs.Calls.{begin}
use Rattle.ws_steps.specs.Run.{Entry, Called, run, reply_to}
use Rattle.ws_steps.specs.Slots.{Slots, empty}

abbrev s0 : StreamId
s0 = record { 0 = 0 }

abbrev l0 : LockId
l0 = record { 0 = 0 }

abbrev q0 : RequestId
q0 = record { 0 = 0 }

-- a BYOB reader of a byte stream
abbrev before : List Entry
before = Called (MakeBytes 0 0 Now) ∷ Called (GetByob s0) ∷ []

abbrev at_first : Slots
at_first = run before empty

-- a read into four bytes, by elements of two
abbrev reads : Call
reads = ReadInto l0 (0 ∷ 0 ∷ 0 ∷ 0 ∷ []) 2 1

abbrev new : PromiseId
new = next_id at_first.promises

is_answered : reply_to reads at_first ≡ Named new
unfolding fresh settle answer react follow unfollow use_gift after_next_job watch call_host row turns performed begin_job begin byte.call_pull_if_needed byte.stream_close byte.controller_error byte.handle_queue_drain byte.pull_steps byte.default_reader_read byte.controller_close byte.controller_enqueue byte.pull_into byte.byob_reader_read byte.respond byte.start_settled byte.pull_settled byte.stream_cancel byte.cancel_if_readable byte.reader_release byte.reader_initialize byte.read byte.read_into readable.call_pull_if_needed readable.accept readable.controller_enqueue readable.stream_close readable.stream_error readable.close_if_empty readable.controller_close readable.controller_error readable.after_take readable.pull_steps readable.default_reader_read readable.disturb readable.reader_generic_initialize readable.start_settled readable.pull_settled readable.cancel_steps readable.stream_cancel readable.cancel_if_readable readable.reader_release
is_answered = refl

is_given : outcome_at (run (Called reads ∷ Called (Enqueue s0 (Bytes (1 ∷ 2 ∷ 3 ∷ []))) ∷ []) at_first).promises new ≡ Some (Given (Bytes (1 ∷ 2 ∷ [])))
unfolding fresh settle answer react follow unfollow use_gift after_next_job watch call_host row turns performed begin_job begin byte.call_pull_if_needed byte.stream_close byte.controller_error byte.handle_queue_drain byte.pull_steps byte.default_reader_read byte.controller_close byte.controller_enqueue byte.pull_into byte.byob_reader_read byte.respond byte.start_settled byte.pull_settled byte.stream_cancel byte.cancel_if_readable byte.reader_release byte.reader_initialize byte.read byte.read_into readable.call_pull_if_needed readable.accept readable.controller_enqueue readable.stream_close readable.stream_error readable.close_if_empty readable.controller_close readable.controller_error readable.after_take readable.pull_steps readable.default_reader_read readable.disturb readable.reader_generic_initialize readable.start_settled readable.pull_settled readable.cancel_steps readable.stream_cancel readable.cancel_if_readable readable.reader_release
is_given = refl

is_finished : outcome_at (run (Called reads ∷ Called (Request s0) ∷ Called (Finish s0) ∷ Called (Respond q0 []) ∷ []) at_first).promises new ≡ Some (Finished (Bytes []))
unfolding fresh settle answer react follow unfollow use_gift after_next_job watch call_host row turns performed begin_job begin byte.call_pull_if_needed byte.stream_close byte.controller_error byte.handle_queue_drain byte.pull_steps byte.default_reader_read byte.controller_close byte.controller_enqueue byte.pull_into byte.byob_reader_read byte.respond byte.start_settled byte.pull_settled byte.stream_cancel byte.cancel_if_readable byte.reader_release byte.reader_initialize byte.read byte.read_into readable.call_pull_if_needed readable.accept readable.controller_enqueue readable.stream_close readable.stream_error readable.close_if_empty readable.controller_close readable.controller_error readable.after_take readable.pull_steps readable.default_reader_read readable.disturb readable.reader_generic_initialize readable.start_settled readable.pull_settled readable.cancel_steps readable.stream_cancel readable.cancel_if_readable readable.reader_release
is_finished = refl
