-- Two new streams may be linked, and a chunk goes over their link.
use Rattle.std.proofs.Common.{◌≡◌, ℕ, false, [], ◌∷◌, List, None, refl}
use Rattle.ws_value.specs.declared.{ids.PipeId.{PipeId}, ids.StreamId.{StreamId}}
use Rattle.ws_value.specs.declared.value.{Plain.TheVariants.{Undefined}, Value.{Value}, Value.TheVariants.{Plain, Bytes}}
use Rattle.ws_steps.specs.declared.calls.Call.TheVariants.{MakeReadable, MakeBytes, MakeWritable, Cancel, Pipe, Enqueue, Finish}
use Rattle.ws_steps.specs.declared.calls.StartBy.{StartBy}
use Rattle.ws_steps.specs.declared.calls.StartBy.TheVariants.{Now, Later}
use Rattle.ws_steps.specs.declared.readable.SizeBy.{SizeBy}
use Rattle.ws_steps.specs.declared.readable.SizeBy.TheVariants.{Count}
use Rattle.ws_steps.specs.Promises.{fresh, settle, answer, react, follow, unfollow, use_gift, queue_micro, after_next_job, watch}
use Rattle.ws_steps.specs.Bytes as byte
use Rattle.ws_steps.specs.Readable as readable
use Rattle.ws_steps.specs.Writable as writable
use Rattle.ws_steps.specs.Pipes as pipe
use Rattle.ws_steps.specs.Turns.{call_host, row, turns, performed}
use Rattle.ws_steps.specs.Jobs.{begin_job}
use Rattle.ws_steps.specs.Calls.{begin}
use Rattle.ws_steps.specs.Run.{Entry, Called, Worked, run}
use Rattle.ws_steps.specs.Slots.{Slots, empty}
use Rattle.ws_flow.specs.Told.{Closed, told}
use Rattle.ws_link_laws.specs.Laws.{run_enters}
use Rattle.ws_link_laws.specs.Link.{silence, behind}
use Rattle.ws_link_laws.specs.Sound.{IsFree}

abbrev pub s0 : StreamId
s0 = record { 0 = 0 }

abbrev pub s1 : StreamId
s1 = record { 0 = 1 }

abbrev p0 : PipeId
p0 = record { 0 = 0 }

abbrev v : Value
v = Plain Undefined

-- two streams are made, with any marks, sizes and start algorithms
abbrev pub opening : ℕ → SizeBy → StartBy → ℕ → SizeBy → StartBy → List Entry
opening m x a n y b = Called (MakeReadable m x a) ∷ Called (MakeWritable n y b) ∷ []

abbrev pub opening_bytes : ℕ → StartBy → ℕ → SizeBy → StartBy → List Entry
opening_bytes m a n y b = Called (MakeBytes m 0 a) ∷ Called (MakeWritable n y b) ∷ []

-- they may be linked
pub free-new : (m : ℕ) (x : SizeBy) (a : StartBy) (n : ℕ) (y : SizeBy) (b : StartBy) → IsFree s0 s1 (run (opening m x a n y b) empty)
unfolding fresh settle answer react follow unfollow use_gift queue_micro after_next_job watch call_host row turns performed begin_job begin
free-new m x Now n y Now = record { reached = (opening m x Now n y Now, refl); source = refl; bare = record { auto = refl; descriptors = refl; reader = refl }; sink = refl; source_owner = tt; sink_owner = tt; unread = refl; unwritten = refl; locks = refl; apart = refl; untied = refl; requests = refl; queue = refl; close_request = refl; close_in_flight = refl }
free-new m x Now n y Later = record { reached = (opening m x Now n y Later, refl); source = refl; bare = record { auto = refl; descriptors = refl; reader = refl }; sink = refl; source_owner = tt; sink_owner = tt; unread = refl; unwritten = refl; locks = refl; apart = refl; untied = refl; requests = refl; queue = refl; close_request = refl; close_in_flight = refl }
free-new m x Later n y Now = record { reached = (opening m x Later n y Now, refl); source = refl; bare = record { auto = refl; descriptors = refl; reader = refl }; sink = refl; source_owner = tt; sink_owner = tt; unread = refl; unwritten = refl; locks = refl; apart = refl; untied = refl; requests = refl; queue = refl; close_request = refl; close_in_flight = refl }
free-new m x Later n y Later = record { reached = (opening m x Later n y Later, refl); source = refl; bare = record { auto = refl; descriptors = refl; reader = refl }; sink = refl; source_owner = tt; sink_owner = tt; unread = refl; unwritten = refl; locks = refl; apart = refl; untied = refl; requests = refl; queue = refl; close_request = refl; close_in_flight = refl }

-- so may a byte source that allocates no rooms, and a sink
pub free-bytes : (m : ℕ) (a : StartBy) (n : ℕ) (y : SizeBy) (b : StartBy) → IsFree s0 s1 (run (opening_bytes m a n y b) empty)
unfolding fresh settle answer react follow unfollow use_gift queue_micro after_next_job watch call_host row turns performed begin_job begin
free-bytes m Now n y Now = record { reached = (opening_bytes m Now n y Now, refl); source = refl; bare = record { auto = refl; descriptors = refl; reader = refl }; sink = refl; source_owner = tt; sink_owner = tt; unread = refl; unwritten = refl; locks = refl; apart = refl; untied = refl; requests = refl; queue = refl; close_request = refl; close_in_flight = refl }
free-bytes m Now n y Later = record { reached = (opening_bytes m Now n y Later, refl); source = refl; bare = record { auto = refl; descriptors = refl; reader = refl }; sink = refl; source_owner = tt; sink_owner = tt; unread = refl; unwritten = refl; locks = refl; apart = refl; untied = refl; requests = refl; queue = refl; close_request = refl; close_in_flight = refl }
free-bytes m Later n y Now = record { reached = (opening_bytes m Later n y Now, refl); source = refl; bare = record { auto = refl; descriptors = refl; reader = refl }; sink = refl; source_owner = tt; sink_owner = tt; unread = refl; unwritten = refl; locks = refl; apart = refl; untied = refl; requests = refl; queue = refl; close_request = refl; close_in_flight = refl }
free-bytes m Later n y Later = record { reached = (opening_bytes m Later n y Later, refl); source = refl; bare = record { auto = refl; descriptors = refl; reader = refl }; sink = refl; source_owner = tt; sink_owner = tt; unread = refl; unwritten = refl; locks = refl; apart = refl; untied = refl; requests = refl; queue = refl; close_request = refl; close_in_flight = refl }

abbrev made : Slots
made = run (opening 0 Count Now 1 Count Now) empty

-- they are piped, and the source gets a chunk and is finished
abbrev linked : List Entry
linked = Called (Pipe s0 s1 (record { close = false; abort = false; cancel = false }) None) ∷ Called (Enqueue s0 v) ∷ Called (Finish s0) ∷ []

-- the chunk and the close are behind the host, also once the chunk is in the destination, and once the host is to hear of it; a second
-- finish throws, and nothing enters
all_behind : (behind s0 s1 p0 (run linked made) ≡ told (v ∷ []) Closed)
    × ((behind s0 s1 p0 (run (Worked ∷ Worked ∷ Worked ∷ Worked ∷ []) (run linked made)) ≡ told (v ∷ []) Closed)
    × ((behind s0 s1 p0 (run (Called (Finish s0) ∷ Called (Enqueue s0 v) ∷ []) (run linked made)) ≡ told (v ∷ []) Closed)
    × (behind s0 s1 p0 (run (Called (Cancel s0 Undefined) ∷ []) (run linked made)) ≡ told (v ∷ []) Closed)))
unfolding fresh settle answer react follow unfollow use_gift queue_micro after_next_job watch readable.call_pull_if_needed readable.accept readable.controller_enqueue readable.controller_close readable.close_if_empty readable.stream_close readable.after_take readable.pull_steps readable.default_reader_read readable.reader_generic_initialize readable.disturb readable.start_settled readable.pull_settled readable.stream_cancel readable.cancel_steps readable.cancel_if_readable readable.reader_release writable.ensure_rejected writable.settle_pending writable.update_backpressure writable.refresh_backpressure writable.reject_close_and_closed writable.finish_erroring writable.start_erroring writable.deal_with_rejection writable.controller_error_if_needed writable.process_write writable.process_close writable.advance_queue writable.hand_on writable.write_settled writable.finish_in_flight_close writable.finish_in_flight_close_with_error writable.close_settled writable.start_settled writable.abort_settled writable.controller_write writable.writer_write writable.controller_close writable.stream_close writable.close_with_error_propagation writable.stream_abort writable.abort_if_writable writable.set_up_writer writable.writer_release pipe.finalize pipe.act_by_signal pipe.act pipe.proceed pipe.shutdown pipe.look pipe.look_ready pipe.go_on pipe.keep_chunk pipe.read_ended pipe.write_chunk pipe.write_ended pipe.action_settled pipe.part_settled pipe.no_parts pipe.abort call_host row turns performed begin_job begin
all_behind = (refl, (refl, (refl, refl)))

-- from a byte source: a chunk that isn't bytes, and one of no bytes, throw while it takes more, and nothing enters. Two chunks of bytes and the
-- end are behind the host, also once the first is in the destination

abbrev bytes : ℕ → Value
bytes n = Bytes (n ∷ [])

abbrev made_bytes : Slots
made_bytes = run (opening_bytes 0 Now 1 Count Now) empty

abbrev linked_bytes : Slots
linked_bytes = run (Called (Pipe s0 s1 (record { close = false; abort = false; cancel = false }) None) ∷ []) made_bytes

abbrev refused : List Entry
refused = Called (Enqueue s0 v) ∷ Called (Enqueue s0 (Bytes [])) ∷ []

abbrev taken : List Entry
taken = Called (Enqueue s0 (bytes 7)) ∷ Called (Enqueue s0 v) ∷ Called (Enqueue s0 (bytes 8)) ∷ Called (Finish s0) ∷ []

bytes_behind : (run_enters s0 refused linked_bytes ≡ silence)
    × ((behind s0 s1 p0 (run refused linked_bytes) ≡ silence)
    × ((run_enters s0 taken linked_bytes ≡ told (bytes 7 ∷ bytes 8 ∷ []) Closed)
    × ((behind s0 s1 p0 (run taken linked_bytes) ≡ told (bytes 7 ∷ bytes 8 ∷ []) Closed)
    × (behind s0 s1 p0 (run (Worked ∷ Worked ∷ Worked ∷ Worked ∷ []) (run taken linked_bytes)) ≡ told (bytes 7 ∷ bytes 8 ∷ []) Closed))))
unfolding byte.call_pull_if_needed byte.stream_close byte.controller_error byte.handle_queue_drain byte.pull_steps byte.default_reader_read byte.controller_close byte.controller_enqueue byte.start_settled byte.pull_settled byte.stream_cancel byte.cancel_if_readable byte.reader_release byte.reader_initialize byte.read fresh settle answer react follow unfollow use_gift queue_micro after_next_job watch readable.stream_error readable.call_pull_if_needed readable.accept readable.controller_enqueue readable.controller_close readable.close_if_empty readable.stream_close readable.after_take readable.pull_steps readable.default_reader_read readable.reader_generic_initialize readable.disturb readable.start_settled readable.pull_settled readable.stream_cancel readable.cancel_steps readable.cancel_if_readable readable.reader_release writable.ensure_rejected writable.settle_pending writable.update_backpressure writable.refresh_backpressure writable.reject_close_and_closed writable.finish_erroring writable.start_erroring writable.deal_with_rejection writable.controller_error_if_needed writable.process_write writable.process_close writable.advance_queue writable.hand_on writable.write_settled writable.finish_in_flight_close writable.finish_in_flight_close_with_error writable.close_settled writable.start_settled writable.abort_settled writable.controller_write writable.writer_write writable.controller_close writable.stream_close writable.close_with_error_propagation writable.stream_abort writable.abort_if_writable writable.set_up_writer writable.writer_release pipe.finalize pipe.act_by_signal pipe.act pipe.proceed pipe.shutdown pipe.look pipe.look_ready pipe.go_on pipe.keep_chunk pipe.read_ended pipe.write_chunk pipe.write_ended pipe.action_settled pipe.part_settled pipe.no_parts pipe.abort call_host row turns performed begin_job begin
bytes_behind = (refl, (refl, (refl, (refl, refl))))
