-- The calls on a stream that answer a promise, those by its reader or writer, and the release of these.
use Rattle.std.specs.Prelude.{ℕ, ◌*◌, ◌/◌, ◌%◌, Bool, true, false, not, ◌&&◌, ◌||◌, nat_eq, nat_le, nat_lt, if◌then◌else◌, List, [], ◌∷◌, ◌++◌, length, Option, Some, None, Err, slice_set}
use Rattle.ws_value.specs.declared.fault.Fault.{Fault}
use Rattle.ws_value.specs.declared.fault.Fault.TheVariants.{TypeError, RangeError}
use Rattle.ws_value.specs.declared.ids.LockId.{LockId}
use Rattle.ws_value.specs.declared.ids.PromiseId.{PromiseId}
use Rattle.ws_value.specs.declared.ids.StreamId.{StreamId}
use Rattle.ws_value.specs.declared.value.Plain.{Plain}
use Rattle.ws_value.specs.declared.value.Value.{Value}
use Rattle.ws_steps.specs.declared.byte.ByteOperation.TheVariants.{PullInto}
use Rattle.ws_steps.specs.declared.calls.Reply.TheVariants.{Done as ReplyDone, Promise}
use Rattle.ws_steps.specs.declared.effects.Effect.{Effect}
use Rattle.ws_steps.specs.declared.effects.Effect.TheVariants.{Readable, Byte, Writable, Settle as SettlePromise}
use Rattle.ws_steps.specs.declared.locks.Lock.{Lock}
use Rattle.ws_steps.specs.declared.locks.Lock.TheVariants.{Reader as ReaderLock, ByobReader, Writer as WriterLock, ReleasedWriter, Inner}
use Rattle.ws_steps.specs.declared.readable.ReadRequest.TheVariants.{Promise as PromiseRequest}
use Rattle.ws_steps.specs.declared.readable.ReadableOperation.TheVariants.{ReleaseReader, Read as ReadChunk, Cancel as CancelStream}
use Rattle.ws_steps.specs.declared.writable.WritableOperation.TheVariants.{ReleaseWriter, Write as WriteChunk, Close as CloseStream, Abort as AbortStream}
use Rattle.ws_steps.specs.declared.writable.Writer.{Writer}
use Rattle.ws_steps.specs.Promises.{Table, next_id, fresh, is_pending_at}
use Rattle.ws_steps.specs.Effects.{type_error}
use Rattle.ws_steps.specs.Readable as readable
use Rattle.ws_steps.specs.Writable as writable
use Rattle.ws_steps.specs.Slots.{Slots, causes, with_promises, source_at, writable_at}
use Rattle.ws_steps.specs.Begun.{Begun, replies, unsupported, begun, promising, rejected_with, rejected, for_source, for_writable}

-- operations that answer a promise

abbrev pub cancel : Plain → StreamId → Slots → Begun
cancel reason i s = promising (λ p. Readable i (CancelStream reason p) ∷ []) s

abbrev pub read : StreamId → Slots → Begun
read i s = promising (λ p. Readable i (ReadChunk (PromiseRequest p)) ∷ []) s

-- a read into a room, of elements of this size, of which so many are to be filled at least
abbrev pub read_into : List ℕ → ℕ → ℕ → StreamId → Slots → Begun
read_into room element least i s = promising (λ p. Byte i (PullInto room element (least * element) (PromiseRequest p)) ∷ []) s

abbrev pub write : Value → StreamId → Slots → Begun
write v i s = promising (λ p. Writable i (WriteChunk v p) ∷ []) s

abbrev pub close : StreamId → Slots → Begun
close i s = promising (λ p. Writable i (CloseStream p) ∷ []) s

-- where an abort is pending, its promise is answered
abbrev pub abort_unless : Plain → StreamId → Slots → Option PromiseId → Begun
abort_unless reason i s None = promising (λ p. Writable i (AbortStream reason p) ∷ []) s
abort_unless reason i s (Some p) = replies (Promise p) s

abbrev pub abort : Plain → StreamId → Slots → Begun
abort reason i s = abort_unless reason i s (writable.answered_abort (writable_at i s))

-- calls on readers and writers

-- what a reader of either kind does while it has a stream, and what is answered once it is released; a writer has no such call
abbrev pub by_reader : (StreamId → Slots → Begun) → (Slots → Begun) → Slots → Option Lock → Begun
by_reader holding free s None = unsupported s
by_reader holding free s (Some (ReaderLock (Some i) closed)) = for_source i (holding i) s
by_reader holding free s (Some (ReaderLock None closed)) = free s
by_reader holding free s (Some (ByobReader (Some i) closed)) = for_source i (holding i) s
by_reader holding free s (Some (ByobReader None closed)) = free s
by_reader holding free s (Some (WriterLock i)) = unsupported s
by_reader holding free s (Some (ReleasedWriter w)) = unsupported s
by_reader holding free s (Some Inner) = unsupported s

abbrev pub is_byob_reader : Option Lock → Bool
is_byob_reader None = false
is_byob_reader (Some (ReaderLock stream closed)) = false
is_byob_reader (Some (ByobReader stream closed)) = true
is_byob_reader (Some (WriterLock i)) = false
is_byob_reader (Some (ReleasedWriter w)) = false
is_byob_reader (Some Inner) = false

-- the same of a default reader, or of a BYOB reader, where the other kind has no such call
abbrev pub by_default_reader : (StreamId → Slots → Begun) → (Slots → Begun) → Slots → Option Lock → Begun
by_default_reader holding free s lock = if is_byob_reader lock then unsupported s else by_reader holding free s lock

abbrev pub by_byob_reader : (StreamId → Slots → Begun) → (Slots → Begun) → Slots → Option Lock → Begun
by_byob_reader holding free s lock = if is_byob_reader lock then by_reader holding free s lock else unsupported s

-- a room is viewed by elements of 1, 2, 4 or 8 bytes, and whole ones
abbrev pub is_view : ℕ → ℕ → Bool
is_view room element =
    (nat_eq element 1 || nat_eq element 2 || nat_eq element 4 || nat_eq element 8) && nat_eq (room % element) 0

-- the least number of elements that a read into a room wants: one at least, and no more than the view has
abbrev pub has_least : ℕ → ℕ → ℕ → Bool
has_least room element least = nat_lt 0 least && nat_le least (room / element)

-- what is wrong where it isn't so: an empty room or a least number of 0 is a TypeError, and a greater one than there are elements a
-- RangeError
abbrev pub least_fault : ℕ → ℕ → Fault
least_fault room least = if nat_eq room 0 || nat_eq least 0 then TypeError else RangeError

-- this fault comes before the TypeError of a reader that was released
abbrev pub refuse_least : Fault → Slots → Option Lock → Begun
refuse_least fault s lock = by_byob_reader (λ i. rejected_with fault) (rejected_with fault) s lock

-- ReadableStreamBYOBReader's read()
abbrev pub read_into_by : List ℕ → ℕ → ℕ → Slots → Option Lock → Begun
read_into_by room element least s lock =
    if not (is_view (length room) element) then unsupported s
    else if not (has_least (length room) element least) then refuse_least (least_fault (length room) least) s lock
    else by_byob_reader (read_into room element least) rejected s lock

-- what a writer does while it has a stream, and what is answered once it is released; a reader has no such call
abbrev pub by_writer : (StreamId → Slots → Begun) → (Slots → Begun) → Slots → Option Lock → Begun
by_writer holding free s None = unsupported s
by_writer holding free s (Some (ReaderLock stream closed)) = unsupported s
by_writer holding free s (Some (ByobReader stream closed)) = unsupported s
by_writer holding free s (Some (WriterLock i)) = for_writable i (holding i) s
by_writer holding free s (Some (ReleasedWriter w)) = free s
by_writer holding free s (Some Inner) = unsupported s

-- what is answered of the promises of a stream's writer
abbrev pub of_writer : (Writer → Slots → Begun) → Slots → Option Writer → Begun
of_writer operation s None = unsupported s
of_writer operation s (Some w) = operation w s

abbrev pub closed_by : Slots → Option Lock → Begun
closed_by s None = unsupported s
closed_by s (Some (ReaderLock stream closed)) = replies (Promise closed) s
closed_by s (Some (ByobReader stream closed)) = replies (Promise closed) s
closed_by s (Some (WriterLock i)) = of_writer (λ w. replies (Promise w.closed)) s (writable_at i s).writer
closed_by s (Some (ReleasedWriter w)) = replies (Promise w.closed) s
closed_by s (Some Inner) = unsupported s

abbrev pub ready_by : Slots → Option Lock → Begun
ready_by s None = unsupported s
ready_by s (Some (ReaderLock stream closed)) = unsupported s
ready_by s (Some (ByobReader stream closed)) = unsupported s
ready_by s (Some (WriterLock i)) = of_writer (λ w. replies (Promise w.ready)) s (writable_at i s).writer
ready_by s (Some (ReleasedWriter w)) = replies (Promise w.ready) s
ready_by s (Some Inner) = unsupported s

abbrev pub with_lock : LockId → Lock → Slots → Slots
with_lock l lock s = record s { locks = slice_set s.locks l.0 lock }

-- the promise of a reader or a writer from its release on: where it isn't pending, a new one, which is rejected
abbrev pub renewed : PromiseId → Table → Bool → PromiseId
renewed p t true = p
renewed p t false = next_id t

abbrev pub with_renewed : Table → Bool → Table
with_renewed t true = t
with_renewed t false = fresh t

abbrev pub reject_renewed : Table → Bool → List Effect
reject_renewed t true = []
reject_renewed t false = SettlePromise (next_id t) (Err type_error) ∷ []

-- a reader lets go of its stream, and is this lock from now on, with the closed promise that it has then
abbrev pub release_reader : (PromiseId → Lock) → LockId → PromiseId → StreamId → Slots → Begun
release_reader released l closed i s =
    let kept : Bool = readable.is_readable (source_at i s).state in
    begun ReplyDone
    (causes (reject_renewed s.promises kept ++ Readable i ReleaseReader ∷ [])
    (with_lock l (released (renewed closed s.promises kept)) (with_promises (with_renewed s.promises kept) s)))

-- a writer lets go of its stream
abbrev pub release_writer : LockId → StreamId → Writer → Slots → Begun
release_writer l i w s =
    let t : Table = with_renewed s.promises (is_pending_at w.ready s.promises) in
    let released : Writer =
    record { ready = renewed w.ready s.promises (is_pending_at w.ready s.promises); closed = renewed w.closed t (is_pending_at w.closed t) } in
    begun ReplyDone
    (causes
    (reject_renewed s.promises (is_pending_at w.ready s.promises)
    ++ (reject_renewed t (is_pending_at w.closed t) ++ Writable i ReleaseWriter ∷ []))
    (with_lock l (ReleasedWriter released) (with_promises (with_renewed t (is_pending_at w.closed t)) s)))

abbrev pub release : LockId → Slots → Option Lock → Begun
release l s None = unsupported s
release l s (Some (ReaderLock (Some i) closed)) = for_source i (release_reader (ReaderLock None) l closed i) s
release l s (Some (ReaderLock None closed)) = replies ReplyDone s
release l s (Some (ByobReader (Some i) closed)) = for_source i (release_reader (ByobReader None) l closed i) s
release l s (Some (ByobReader None closed)) = replies ReplyDone s
release l s (Some (WriterLock i)) = of_writer (release_writer l i) s (writable_at i s).writer
release l s (Some (ReleasedWriter w)) = replies ReplyDone s
release l s (Some Inner) = unsupported s
