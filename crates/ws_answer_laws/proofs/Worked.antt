-- Reads of a byte stream at work: three that are answered in the order in which they are asked, one that overtakes another, and three at a stream that
-- closes.
use Rattle.std.proofs.Common.{◌≡◌, ℕ, true, false, List, [], ◌∷◌, take, refl}
use Rattle.ws_value.specs.declared.ids.{LockId.{LockId}, RequestId.{RequestId}, StreamId.{StreamId}}
use Rattle.ws_value.specs.declared.value.Value.TheVariants.{Bytes}
use Rattle.ws_steps.specs.declared.calls.Call.TheVariants.{MakeBytes, GetByob, GetReader, Read, ReadInto, Release, Enqueue, Finish, Request, Respond}
use Rattle.ws_steps.specs.declared.calls.StartBy.TheVariants.{Now}
use Rattle.ws_steps.specs.declared.readable.ReadRequest.{ReadRequest}
use Rattle.ws_steps.specs.declared.readable.ReadRequest.TheVariants.{Promise}
use Rattle.ws_steps.specs.Bytes as byte
use Rattle.ws_steps.specs.ByteHistory.{run_bytes}
use Rattle.ws_steps.specs.Readable as readable
use Rattle.ws_steps.specs.Promises.{next_id, fresh, settle, answer, react, follow, unfollow, use_gift, after_next_job, watch}
use Rattle.ws_steps.specs.Turns.{call_host, row, turns, performed, moments, moments_of}
use Rattle.ws_steps.specs.Jobs.{begin_job}
use Rattle.ws_steps.specs.Calls.{begin}
use Rattle.ws_steps.specs.Run.{Entry, Called, run}
use Rattle.ws_steps.specs.Slots.{empty}
use Rattle.ws_answer_laws.specs.ByteReads.{run_byte_reads, Gets, HandedBack, Released}
use Rattle.ws_answer_laws.proofs.Told.{run_decided}

abbrev s0 : StreamId
s0 = record { 0 = 0 }

abbrev l0 : LockId
l0 = record { 0 = 0 }

abbrev l1 : LockId
l1 = record { 0 = 1 }

abbrev q0 : RequestId
q0 = record { 0 = 0 }

abbrev q1 : RequestId
q1 = record { 0 = 1 }

-- two rooms, of which the first wants three bytes at least, and then a read by a default reader of what is left
abbrev in_line : List Entry
in_line =
    Called (MakeBytes 0 0 Now) ∷ Called (GetByob s0) ∷ Called (ReadInto l0 (0 ∷ 0 ∷ 0 ∷ 0 ∷ []) 1 3) ∷ Called (ReadInto l0 (0 ∷ 0 ∷ []) 1 1)
    ∷ Called (Enqueue s0 (Bytes (1 ∷ 2 ∷ []))) ∷ Called (Enqueue s0 (Bytes (3 ∷ 4 ∷ 5 ∷ 6 ∷ 7 ∷ []))) ∷ Called (Release l0) ∷ Called (GetReader s0) ∷ Called (Read l1) ∷ []

-- The room of a read whose reader was released stays for nobody. A response to it puts its bytes into the queue beside the read that waits;
-- the next read gets them, and the one that waited gets what comes then
abbrev overtaking : List Entry
overtaking =
    Called (MakeBytes 0 0 Now) ∷ Called (GetByob s0) ∷ Called (ReadInto l0 (0 ∷ 0 ∷ 0 ∷ 0 ∷ []) 1 3) ∷ Called (Request s0) ∷ Called (Respond q0 (1 ∷ [])) ∷ Called (Release l0)
    ∷ Called (GetReader s0) ∷ Called (Read l1) ∷ Called (Request s0) ∷ Called (Respond q1 (2 ∷ [])) ∷ Called (Read l1) ∷ Called (Enqueue s0 (Bytes (3 ∷ []))) ∷ []

-- two rooms wait as the stream closes, and a third read is asked then
abbrev closing : List Entry
closing =
    Called (MakeBytes 0 0 Now) ∷ Called (GetByob s0) ∷ Called (ReadInto l0 (0 ∷ 0 ∷ 0 ∷ 0 ∷ 0 ∷ 0 ∷ 0 ∷ 0 ∷ []) 2 3) ∷ Called (ReadInto l0 (0 ∷ 0 ∷ 0 ∷ 0 ∷ []) 2 2)
    ∷ Called (Enqueue s0 (Bytes (1 ∷ 2 ∷ 3 ∷ 4 ∷ []))) ∷ Called (Finish s0) ∷ Called (Request s0) ∷ Called (Respond q0 []) ∷ Called (ReadInto l0 (0 ∷ 0 ∷ 0 ∷ 0 ∷ 0 ∷ 0 ∷ 0 ∷ 0 ∷ []) 2 3) ∷ []

-- the read that the entry after so many asks
abbrev asked_after : ℕ → List Entry → ReadRequest
asked_after n entries = Promise (next_id (run (take n entries) empty).promises)

reads_in_line : run_byte_reads s0 in_line empty ≡ record { asked = asked_after 2 in_line ∷ asked_after 3 in_line ∷ asked_after 8 in_line ∷ []; lined = asked_after 2 in_line ∷ asked_after 3 in_line ∷ asked_after 8 in_line ∷ []; overtaking = []; released = []; spilled = false }
unfolding fresh settle answer react follow unfollow use_gift after_next_job watch call_host row turns performed moments moments_of begin_job begin byte.call_pull_if_needed byte.stream_close byte.controller_error byte.handle_queue_drain byte.pull_steps byte.default_reader_read byte.controller_close byte.controller_enqueue byte.pull_into byte.byob_reader_read byte.respond byte.start_settled byte.pull_settled byte.stream_cancel byte.cancel_if_readable byte.reader_release byte.reader_initialize byte.read byte.read_into readable.call_pull_if_needed readable.accept readable.controller_enqueue readable.stream_close readable.stream_error readable.close_if_empty readable.controller_close readable.controller_error readable.after_take readable.pull_steps readable.default_reader_read readable.disturb readable.reader_generic_initialize readable.start_settled readable.pull_settled readable.cancel_steps readable.stream_cancel readable.cancel_if_readable readable.reader_release
reads_in_line = refl

given_in_line : (run_bytes s0 in_line empty).given ≡ 1 ∷ 2 ∷ 3 ∷ 4 ∷ 5 ∷ 6 ∷ 7 ∷ []
unfolding fresh settle answer react follow unfollow use_gift after_next_job watch call_host row turns performed moments moments_of begin_job begin byte.call_pull_if_needed byte.stream_close byte.controller_error byte.handle_queue_drain byte.pull_steps byte.default_reader_read byte.controller_close byte.controller_enqueue byte.pull_into byte.byob_reader_read byte.respond byte.start_settled byte.pull_settled byte.stream_cancel byte.cancel_if_readable byte.reader_release byte.reader_initialize byte.read byte.read_into readable.call_pull_if_needed readable.accept readable.controller_enqueue readable.stream_close readable.stream_error readable.close_if_empty readable.controller_close readable.controller_error readable.after_take readable.pull_steps readable.default_reader_read readable.disturb readable.reader_generic_initialize readable.start_settled readable.pull_settled readable.cancel_steps readable.stream_cancel readable.cancel_if_readable readable.reader_release
given_in_line = refl

reads_overtaking : run_byte_reads s0 overtaking empty ≡ record { asked = asked_after 2 overtaking ∷ asked_after 7 overtaking ∷ asked_after 10 overtaking ∷ []; lined = asked_after 2 overtaking ∷ asked_after 7 overtaking ∷ []; overtaking = asked_after 10 overtaking ∷ []; released = asked_after 2 overtaking ∷ []; spilled = true }
unfolding fresh settle answer react follow unfollow use_gift after_next_job watch call_host row turns performed moments moments_of begin_job begin byte.call_pull_if_needed byte.stream_close byte.controller_error byte.handle_queue_drain byte.pull_steps byte.default_reader_read byte.controller_close byte.controller_enqueue byte.pull_into byte.byob_reader_read byte.respond byte.start_settled byte.pull_settled byte.stream_cancel byte.cancel_if_readable byte.reader_release byte.reader_initialize byte.read byte.read_into readable.call_pull_if_needed readable.accept readable.controller_enqueue readable.stream_close readable.stream_error readable.close_if_empty readable.controller_close readable.controller_error readable.after_take readable.pull_steps readable.default_reader_read readable.disturb readable.reader_generic_initialize readable.start_settled readable.pull_settled readable.cancel_steps readable.stream_cancel readable.cancel_if_readable readable.reader_release
reads_overtaking = refl

given_overtaking : (run_bytes s0 overtaking empty).given ≡ 1 ∷ 2 ∷ 3 ∷ []
unfolding fresh settle answer react follow unfollow use_gift after_next_job watch call_host row turns performed moments moments_of begin_job begin byte.call_pull_if_needed byte.stream_close byte.controller_error byte.handle_queue_drain byte.pull_steps byte.default_reader_read byte.controller_close byte.controller_enqueue byte.pull_into byte.byob_reader_read byte.respond byte.start_settled byte.pull_settled byte.stream_cancel byte.cancel_if_readable byte.reader_release byte.reader_initialize byte.read byte.read_into readable.call_pull_if_needed readable.accept readable.controller_enqueue readable.stream_close readable.stream_error readable.close_if_empty readable.controller_close readable.controller_error readable.after_take readable.pull_steps readable.default_reader_read readable.disturb readable.reader_generic_initialize readable.start_settled readable.pull_settled readable.cancel_steps readable.stream_cancel readable.cancel_if_readable readable.reader_release
given_overtaking = refl

-- and how they are answered

answered_in_line : run_decided s0 in_line empty
    ≡ record { request = asked_after 2 in_line; answer = Gets (1 ∷ 2 ∷ 3 ∷ 4 ∷ []); overtook = false }
    ∷ record { request = asked_after 3 in_line; answer = Gets (5 ∷ 6 ∷ []); overtook = false }
    ∷ record { request = asked_after 8 in_line; answer = Gets (7 ∷ []); overtook = false }
    ∷ []
unfolding fresh settle answer react follow unfollow use_gift after_next_job watch call_host row turns performed moments moments_of begin_job begin byte.call_pull_if_needed byte.stream_close byte.controller_error byte.handle_queue_drain byte.pull_steps byte.default_reader_read byte.controller_close byte.controller_enqueue byte.pull_into byte.byob_reader_read byte.respond byte.start_settled byte.pull_settled byte.stream_cancel byte.cancel_if_readable byte.reader_release byte.reader_initialize byte.read byte.read_into readable.call_pull_if_needed readable.accept readable.controller_enqueue readable.stream_close readable.stream_error readable.close_if_empty readable.controller_close readable.controller_error readable.after_take readable.pull_steps readable.default_reader_read readable.disturb readable.reader_generic_initialize readable.start_settled readable.pull_settled readable.cancel_steps readable.stream_cancel readable.cancel_if_readable readable.reader_release
answered_in_line = refl

answered_overtaking : run_decided s0 overtaking empty
    ≡ record { request = asked_after 2 overtaking; answer = Released; overtook = false }
    ∷ record { request = asked_after 10 overtaking; answer = Gets (1 ∷ 2 ∷ []); overtook = true }
    ∷ record { request = asked_after 7 overtaking; answer = Gets (3 ∷ []); overtook = false }
    ∷ []
unfolding fresh settle answer react follow unfollow use_gift after_next_job watch call_host row turns performed moments moments_of begin_job begin byte.call_pull_if_needed byte.stream_close byte.controller_error byte.handle_queue_drain byte.pull_steps byte.default_reader_read byte.controller_close byte.controller_enqueue byte.pull_into byte.byob_reader_read byte.respond byte.start_settled byte.pull_settled byte.stream_cancel byte.cancel_if_readable byte.reader_release byte.reader_initialize byte.read byte.read_into readable.call_pull_if_needed readable.accept readable.controller_enqueue readable.stream_close readable.stream_error readable.close_if_empty readable.controller_close readable.controller_error readable.after_take readable.pull_steps readable.default_reader_read readable.disturb readable.reader_generic_initialize readable.start_settled readable.pull_settled readable.cancel_steps readable.stream_cancel readable.cancel_if_readable readable.reader_release
answered_overtaking = refl

answered_closing : run_decided s0 closing empty
    ≡ record { request = asked_after 2 closing; answer = HandedBack (1 ∷ 2 ∷ 3 ∷ 4 ∷ []); overtook = false }
    ∷ record { request = asked_after 3 closing; answer = HandedBack []; overtook = false }
    ∷ record { request = asked_after 8 closing; answer = HandedBack []; overtook = false }
    ∷ []
unfolding fresh settle answer react follow unfollow use_gift after_next_job watch call_host row turns performed moments moments_of begin_job begin byte.call_pull_if_needed byte.stream_close byte.controller_error byte.handle_queue_drain byte.pull_steps byte.default_reader_read byte.controller_close byte.controller_enqueue byte.pull_into byte.byob_reader_read byte.respond byte.start_settled byte.pull_settled byte.stream_cancel byte.cancel_if_readable byte.reader_release byte.reader_initialize byte.read byte.read_into readable.call_pull_if_needed readable.accept readable.controller_enqueue readable.stream_close readable.stream_error readable.close_if_empty readable.controller_close readable.controller_error readable.after_take readable.pull_steps readable.default_reader_read readable.disturb readable.reader_generic_initialize readable.start_settled readable.pull_settled readable.cancel_steps readable.stream_cancel readable.cancel_if_readable readable.reader_release
answered_closing = refl
