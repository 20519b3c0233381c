-- The definitions computed on worked examples: byte streams.
use Rattle.std.proofs.Common.{◌≡◌, ℕ, [], ◌∷◌, refl, true, Some}
use Rattle.std.specs.Prelude.{replicate}
use Rattle.ws_value.specs.declared.fault.Fault.TheVariants.{RangeError as RangeErrorFault}
use Rattle.ws_value.specs.declared.ids.RequestId.{RequestId}
use Rattle.ws_value.specs.declared.value.Plain.TheVariants.{Number, Fault as FaultReason}
use Rattle.ws_value.specs.declared.value.Value.TheVariants.{Bytes}
use Rattle.ws_steps.specs.declared.calls.Call.{Call}
use Rattle.ws_steps.specs.declared.calls.Call.TheVariants.{MakeBytes, GetReader, GetByob, CancelBy, Read, ReadInto, Release, Enqueue, Finish, Request, Respond, State}
use Rattle.ws_steps.specs.declared.calls.HostCall.TheVariants.{Pull, Cancel}
use Rattle.ws_steps.specs.declared.calls.Reply.TheVariants.{Done, Made, Lock, Request as RequestReply, State as StateReply, Throws}
use Rattle.ws_steps.specs.declared.calls.StartBy.TheVariants.{Now}
use Rattle.ws_steps.specs.declared.calls.Thrown.TheVariants.{TypeError, RangeError}
use Rattle.ws_steps.specs.declared.calls.Word.TheVariants.{Readable}
use Rattle.ws_steps.specs.Effects.{type_error}
use Rattle.ws_steps.specs.Promises.{fresh, settle, answer, react, follow, unfollow, use_gift, after_next_job, watch}
use Rattle.ws_steps.specs.Turns.{call_host, row, turns, performed}
use Rattle.ws_steps.specs.Jobs.{begin_job}
use Rattle.ws_steps.specs.Calls.{begin}
use Rattle.ws_steps.specs.Bytes as byte
use Rattle.ws_steps.specs.Readable as readable
use Rattle.ws_steps.proofs.WorkedWords.{printed, s0, l0, l1, says, promise, host, given, finished, finished_with, rejected, no_flags}

abbrev q0 : RequestId
q0 = record { 0 = 0 }

-- a read of so many bytes, of elements of this size, of which so many are wanted at least
abbrev reads_least : ℕ → ℕ → ℕ → Call
reads_least length element least = ReadInto l0 (replicate length 0) element least

-- and one element at least
abbrev reads : ℕ → ℕ → Call
reads length element = reads_least length element 1

-- elements of four bytes, and five bytes: one element is given, and one byte is kept
whole_elements_only : printed (MakeBytes 0 0 Now ∷ GetByob s0 ∷ reads 8 4 ∷ Enqueue s0 (Bytes (1 ∷ 2 ∷ 3 ∷ 4 ∷ 5 ∷ [])) ∷ State s0 ∷ [])
    ≡ says (Made s0) []
    ∷ says (Lock l0) []
    ∷ promise 0 (host 0 (Pull s0) ∷ [])
    ∷ says Done (given 0 (Bytes (1 ∷ 2 ∷ 3 ∷ 4 ∷ [])) ∷ [])
    ∷ says (StateReply (record { state = Readable; flags = record no_flags { s = true; p = true; d = true; l = true }; total = 1; queue = 1; requests = 0 })) []
    ∷ []
unfolding fresh settle answer react follow unfollow use_gift after_next_job watch call_host row turns performed begin_job begin byte.call_pull_if_needed byte.stream_close byte.controller_error byte.handle_queue_drain byte.pull_steps byte.default_reader_read byte.controller_close byte.controller_enqueue byte.pull_into byte.byob_reader_read byte.respond byte.start_settled byte.pull_settled byte.stream_cancel byte.cancel_if_readable byte.reader_release byte.reader_initialize byte.read byte.read_into readable.call_pull_if_needed readable.accept readable.controller_enqueue readable.stream_close readable.stream_error readable.close_if_empty readable.controller_close readable.controller_error readable.after_take readable.pull_steps readable.default_reader_read readable.disturb readable.reader_generic_initialize readable.start_settled readable.pull_settled readable.cancel_steps readable.stream_cancel readable.cancel_if_readable readable.reader_release
whole_elements_only = refl

-- a BYOB reader that is released while a descriptor is half filled: its bytes go to the queue before the next ones
release_with_a_half_filled_descriptor : printed (MakeBytes 0 0 Now ∷ GetByob s0 ∷ reads 4 4 ∷ Request s0 ∷ Respond q0 (1 ∷ 2 ∷ []) ∷ Release l0 ∷ Enqueue s0 (Bytes (3 ∷ [])) ∷ State s0 ∷ GetReader s0 ∷ Read l1 ∷ [])
    ≡ says (Made s0) []
    ∷ says (Lock l0) []
    ∷ promise 0 (host 0 (Pull s0) ∷ [])
    ∷ says (RequestReply (Some (q0, 4))) []
    ∷ says Done []
    ∷ says Done (rejected 0 type_error ∷ [])
    ∷ says Done []
    ∷ says (StateReply (record { state = Readable; flags = record no_flags { s = true; p = true; g = true; d = true }; total = 3; queue = 2; requests = 0 })) []
    ∷ says (Lock l1) []
    ∷ promise 1 (given 1 (Bytes (1 ∷ 2 ∷ [])) ∷ [])
    ∷ []
unfolding fresh settle answer react follow unfollow use_gift after_next_job watch call_host row turns performed begin_job begin byte.call_pull_if_needed byte.stream_close byte.controller_error byte.handle_queue_drain byte.pull_steps byte.default_reader_read byte.controller_close byte.controller_enqueue byte.pull_into byte.byob_reader_read byte.respond byte.start_settled byte.pull_settled byte.stream_cancel byte.cancel_if_readable byte.reader_release byte.reader_initialize byte.read byte.read_into readable.call_pull_if_needed readable.accept readable.controller_enqueue readable.stream_close readable.stream_error readable.close_if_empty readable.controller_close readable.controller_error readable.after_take readable.pull_steps readable.default_reader_read readable.disturb readable.reader_generic_initialize readable.start_settled readable.pull_settled readable.cancel_steps readable.stream_cancel readable.cancel_if_readable readable.reader_release
release_with_a_half_filled_descriptor = refl

-- a response of nothing, and one that is longer than the room, change nothing
respond_refusals : printed (MakeBytes 0 0 Now ∷ GetByob s0 ∷ reads 2 1 ∷ Request s0 ∷ Respond q0 [] ∷ Respond q0 (1 ∷ 2 ∷ 3 ∷ []) ∷ Respond q0 (1 ∷ []) ∷ [])
    ≡ says (Made s0) []
    ∷ says (Lock l0) []
    ∷ promise 0 (host 0 (Pull s0) ∷ [])
    ∷ says (RequestReply (Some (q0, 2))) []
    ∷ says (Throws TypeError) []
    ∷ says (Throws RangeError) []
    ∷ says Done (given 0 (Bytes (1 ∷ [])) ∷ [])
    ∷ []
unfolding fresh settle answer react follow unfollow use_gift after_next_job watch call_host row turns performed begin_job begin byte.call_pull_if_needed byte.stream_close byte.controller_error byte.handle_queue_drain byte.pull_steps byte.default_reader_read byte.controller_close byte.controller_enqueue byte.pull_into byte.byob_reader_read byte.respond byte.start_settled byte.pull_settled byte.stream_cancel byte.cancel_if_readable byte.reader_release byte.reader_initialize byte.read byte.read_into readable.call_pull_if_needed readable.accept readable.controller_enqueue readable.stream_close readable.stream_error readable.close_if_empty readable.controller_close readable.controller_error readable.after_take readable.pull_steps readable.default_reader_read readable.disturb readable.reader_generic_initialize readable.start_settled readable.pull_settled readable.cancel_steps readable.stream_cancel readable.cancel_if_readable readable.reader_release
respond_refusals = refl

-- a controller that allocates rooms itself makes one for a read that waits
auto_allocation : printed (MakeBytes 0 4 Now ∷ GetReader s0 ∷ Read l0 ∷ Request s0 ∷ Respond q0 (1 ∷ 2 ∷ []) ∷ [])
    ≡ says (Made s0) []
    ∷ says (Lock l0) []
    ∷ promise 0 (host 0 (Pull s0) ∷ [])
    ∷ says (RequestReply (Some (q0, 4))) []
    ∷ says Done (given 0 (Bytes (1 ∷ 2 ∷ [])) ∷ [])
    ∷ []
unfolding fresh settle answer react follow unfollow use_gift after_next_job watch call_host row turns performed begin_job begin byte.call_pull_if_needed byte.stream_close byte.controller_error byte.handle_queue_drain byte.pull_steps byte.default_reader_read byte.controller_close byte.controller_enqueue byte.pull_into byte.byob_reader_read byte.respond byte.start_settled byte.pull_settled byte.stream_cancel byte.cancel_if_readable byte.reader_release byte.reader_initialize byte.read byte.read_into readable.call_pull_if_needed readable.accept readable.controller_enqueue readable.stream_close readable.stream_error readable.close_if_empty readable.controller_close readable.controller_error readable.after_take readable.pull_steps readable.default_reader_read readable.disturb readable.reader_generic_initialize readable.start_settled readable.pull_settled readable.cancel_steps readable.stream_cancel readable.cancel_if_readable readable.reader_release
auto_allocation = refl

-- two reads wait, of elements of two bytes and of one: a response of three bytes gives the first read one element, and what remains, by the
-- queue, the second, in this order
a_remainder_goes_to_the_next_read : printed (MakeBytes 0 0 Now ∷ GetByob s0 ∷ reads 4 2 ∷ reads 1 1 ∷ Request s0 ∷ Respond q0 (1 ∷ 2 ∷ 3 ∷ []) ∷ State s0 ∷ [])
    ≡ says (Made s0) []
    ∷ says (Lock l0) []
    ∷ promise 0 (host 0 (Pull s0) ∷ [])
    ∷ promise 1 []
    ∷ says (RequestReply (Some (q0, 4))) []
    ∷ says Done (given 0 (Bytes (1 ∷ 2 ∷ [])) ∷ given 1 (Bytes (3 ∷ [])) ∷ [])
    ∷ says (StateReply (record { state = Readable; flags = record no_flags { s = true; p = true; d = true; l = true }; total = 0; queue = 0; requests = 0 })) []
    ∷ []
unfolding fresh settle answer react follow unfollow use_gift after_next_job watch call_host row turns performed begin_job begin byte.call_pull_if_needed byte.stream_close byte.controller_error byte.handle_queue_drain byte.pull_steps byte.default_reader_read byte.controller_close byte.controller_enqueue byte.pull_into byte.byob_reader_read byte.respond byte.start_settled byte.pull_settled byte.stream_cancel byte.cancel_if_readable byte.reader_release byte.reader_initialize byte.read byte.read_into readable.call_pull_if_needed readable.accept readable.controller_enqueue readable.stream_close readable.stream_error readable.close_if_empty readable.controller_close readable.controller_error readable.after_take readable.pull_steps readable.default_reader_read readable.disturb readable.reader_generic_initialize readable.start_settled readable.pull_settled readable.cancel_steps readable.stream_cancel readable.cancel_if_readable readable.reader_release
a_remainder_goes_to_the_next_read = refl

-- a cancel ends the read of a BYOB reader with no room given back
a_cancel_ends_the_reads : printed (MakeBytes 0 0 Now ∷ GetByob s0 ∷ reads 4 1 ∷ CancelBy l0 (Number 5) ∷ [])
    ≡ says (Made s0) []
    ∷ says (Lock l0) []
    ∷ promise 0 (host 0 (Pull s0) ∷ [])
    ∷ promise 1 (finished 0 ∷ host 1 (Cancel s0 (Number 5)) ∷ [])
    ∷ []
unfolding fresh settle answer react follow unfollow use_gift after_next_job watch call_host row turns performed begin_job begin byte.call_pull_if_needed byte.stream_close byte.controller_error byte.handle_queue_drain byte.pull_steps byte.default_reader_read byte.controller_close byte.controller_enqueue byte.pull_into byte.byob_reader_read byte.respond byte.start_settled byte.pull_settled byte.stream_cancel byte.cancel_if_readable byte.reader_release byte.reader_initialize byte.read byte.read_into readable.call_pull_if_needed readable.accept readable.controller_enqueue readable.stream_close readable.stream_error readable.close_if_empty readable.controller_close readable.controller_error readable.after_take readable.pull_steps readable.default_reader_read readable.disturb readable.reader_generic_initialize readable.start_settled readable.pull_settled readable.cancel_steps readable.stream_cancel readable.cancel_if_readable readable.reader_release
a_cancel_ends_the_reads = refl

-- three elements of two bytes at least: with five bytes the read waits, with seven it is given six, and the seventh is kept
least_elements : printed (MakeBytes 0 0 Now ∷ GetByob s0 ∷ reads_least 8 2 3 ∷ Enqueue s0 (Bytes (1 ∷ 2 ∷ 3 ∷ 4 ∷ 5 ∷ [])) ∷ Enqueue s0 (Bytes (6 ∷ 7 ∷ [])) ∷ State s0 ∷ [])
    ≡ says (Made s0) []
    ∷ says (Lock l0) []
    ∷ promise 0 (host 0 (Pull s0) ∷ [])
    ∷ says Done []
    ∷ says Done (given 0 (Bytes (1 ∷ 2 ∷ 3 ∷ 4 ∷ 5 ∷ 6 ∷ [])) ∷ [])
    ∷ says (StateReply (record { state = Readable; flags = record no_flags { s = true; p = true; g = true; d = true; l = true }; total = 1; queue = 1; requests = 0 })) []
    ∷ []
unfolding fresh settle answer react follow unfollow use_gift after_next_job watch call_host row turns performed begin_job begin byte.call_pull_if_needed byte.stream_close byte.controller_error byte.handle_queue_drain byte.pull_steps byte.default_reader_read byte.controller_close byte.controller_enqueue byte.pull_into byte.byob_reader_read byte.respond byte.start_settled byte.pull_settled byte.stream_cancel byte.cancel_if_readable byte.reader_release byte.reader_initialize byte.read byte.read_into readable.call_pull_if_needed readable.accept readable.controller_enqueue readable.stream_close readable.stream_error readable.close_if_empty readable.controller_close readable.controller_error readable.after_take readable.pull_steps readable.default_reader_read readable.disturb readable.reader_generic_initialize readable.start_settled readable.pull_settled readable.cancel_steps readable.stream_cancel readable.cancel_if_readable readable.reader_release
least_elements = refl

-- a close while two elements of three stand in the room: they are handed out by the response to the closed stream, and the read is done
close_before_the_least : printed (MakeBytes 0 0 Now ∷ GetByob s0 ∷ reads_least 4 1 3 ∷ Enqueue s0 (Bytes (1 ∷ 2 ∷ [])) ∷ Finish s0 ∷ Request s0 ∷ Respond q0 [] ∷ [])
    ≡ says (Made s0) []
    ∷ says (Lock l0) []
    ∷ promise 0 (host 0 (Pull s0) ∷ [])
    ∷ says Done []
    ∷ says Done []
    ∷ says (RequestReply (Some (q0, 2))) []
    ∷ says Done (finished_with 0 (Bytes (1 ∷ 2 ∷ [])) ∷ [])
    ∷ []
unfolding fresh settle answer react follow unfollow use_gift after_next_job watch call_host row turns performed begin_job begin byte.call_pull_if_needed byte.stream_close byte.controller_error byte.handle_queue_drain byte.pull_steps byte.default_reader_read byte.controller_close byte.controller_enqueue byte.pull_into byte.byob_reader_read byte.respond byte.start_settled byte.pull_settled byte.stream_cancel byte.cancel_if_readable byte.reader_release byte.reader_initialize byte.read byte.read_into readable.call_pull_if_needed readable.accept readable.controller_enqueue readable.stream_close readable.stream_error readable.close_if_empty readable.controller_close readable.controller_error readable.after_take readable.pull_steps readable.default_reader_read readable.disturb readable.reader_generic_initialize readable.start_settled readable.pull_settled readable.cancel_steps readable.stream_cancel readable.cancel_if_readable readable.reader_release
close_before_the_least = refl

-- more elements than there are is a RangeError, none a TypeError
least_out_of_range : printed (MakeBytes 0 0 Now ∷ GetByob s0 ∷ reads_least 4 2 3 ∷ reads_least 4 2 0 ∷ [])
    ≡ says (Made s0) []
    ∷ says (Lock l0) []
    ∷ promise 0 (rejected 0 (FaultReason RangeErrorFault) ∷ [])
    ∷ promise 1 (rejected 1 type_error ∷ [])
    ∷ []
unfolding fresh settle answer react follow unfollow use_gift after_next_job watch call_host row turns performed begin_job begin byte.call_pull_if_needed byte.stream_close byte.controller_error byte.handle_queue_drain byte.pull_steps byte.default_reader_read byte.controller_close byte.controller_enqueue byte.pull_into byte.byob_reader_read byte.respond byte.start_settled byte.pull_settled byte.stream_cancel byte.cancel_if_readable byte.reader_release byte.reader_initialize byte.read byte.read_into readable.call_pull_if_needed readable.accept readable.controller_enqueue readable.stream_close readable.stream_error readable.close_if_empty readable.controller_close readable.controller_error readable.after_take readable.pull_steps readable.default_reader_read readable.disturb readable.reader_generic_initialize readable.start_settled readable.pull_settled readable.cancel_steps readable.stream_cancel readable.cancel_if_readable readable.reader_release
least_out_of_range = refl

-- an empty room and a reader that was released: the least number comes first
least_of_no_room : printed (MakeBytes 0 0 Now ∷ GetByob s0 ∷ Release l0 ∷ reads_least 0 1 3 ∷ reads_least 4 2 3 ∷ reads_least 4 2 2 ∷ [])
    ≡ says (Made s0) []
    ∷ says (Lock l0) []
    ∷ says Done []
    ∷ promise 0 (rejected 0 type_error ∷ [])
    ∷ promise 1 (rejected 1 (FaultReason RangeErrorFault) ∷ [])
    ∷ promise 2 (rejected 2 type_error ∷ [])
    ∷ []
unfolding fresh settle answer react follow unfollow use_gift after_next_job watch call_host row turns performed begin_job begin byte.call_pull_if_needed byte.stream_close byte.controller_error byte.handle_queue_drain byte.pull_steps byte.default_reader_read byte.controller_close byte.controller_enqueue byte.pull_into byte.byob_reader_read byte.respond byte.start_settled byte.pull_settled byte.stream_cancel byte.cancel_if_readable byte.reader_release byte.reader_initialize byte.read byte.read_into readable.call_pull_if_needed readable.accept readable.controller_enqueue readable.stream_close readable.stream_error readable.close_if_empty readable.controller_close readable.controller_error readable.after_take readable.pull_steps readable.default_reader_read readable.disturb readable.reader_generic_initialize readable.start_settled readable.pull_settled readable.cancel_steps readable.stream_cancel readable.cancel_if_readable readable.reader_release
least_of_no_room = refl
