-- The calls on streams, readers, writers and controllers don't look at a promise that isn't named, and name it nowhere.
use Rattle.std.proofs.Common.{◌≡◌, ◌∙◌, ℕ, ◌+◌, ◌*◌, ◌<◌, ◌≤◌, Bool, true, false, not, ◌&&◌, if◌then◌else◌, List, [], ◌∷◌, ◌++◌, length, Option, Some, None, Err, refl, ap, arith}
use Rattle.std.specs.Prelude.{slice_get}
use Rattle.ws_value.specs.declared.fault.Fault.{Fault}
use Rattle.ws_value.specs.declared.fault.Fault.TheVariants.{Stage as FaultStage, TypeError as FaultTypeError, RangeError as FaultRangeError, DataClone as FaultDataClone, User as FaultUser, Read as FaultRead, Write as FaultWrite, TooMuch as FaultTooMuch, Abort as FaultAbort, NoMemory as FaultNoMemory}
use Rattle.ws_value.specs.declared.value.Plain.TheVariants.{Fault as FaultReason}
use Rattle.ws_value.specs.declared.ids.HostId.{HostId}
use Rattle.ws_value.specs.declared.ids.LockId.{LockId}
use Rattle.ws_value.specs.declared.ids.PromiseId.{PromiseId}
use Rattle.ws_value.specs.declared.ids.RequestId.{RequestId}
use Rattle.ws_value.specs.declared.ids.StreamId.{StreamId}
use Rattle.ws_value.specs.declared.value.Plain.{Plain}
use Rattle.ws_value.specs.declared.value.Value.{Value}
use Rattle.ws_value.specs.declared.value.Value.TheVariants.{Plain as PlainValue, Bytes}
use Rattle.ws_steps.specs.declared.calls.Reply.{Reply}
use Rattle.ws_steps.specs.declared.effects.Effect.{Effect}
use Rattle.ws_steps.specs.declared.effects.Effect.TheVariants.{Readable, Byte, Writable, Transform as OnTransform, Settle as SettlePromise}
use Rattle.ws_steps.specs.declared.effects.Owner.{Owner}
use Rattle.ws_steps.specs.declared.effects.Owner.TheVariants.{Host, HalfOf, BranchOf, EndOf}
use Rattle.ws_steps.specs.declared.locks.Lock.{Lock}
use Rattle.ws_steps.specs.declared.locks.Lock.TheVariants.{Reader as ReaderLock, ByobReader, Writer as WriterLock, ReleasedWriter, Inner}
use Rattle.ws_steps.specs.declared.writable.Writer.{Writer}
use Rattle.ws_steps.specs.Begun.{Begun, replies, unsupported, throws_type_error, begun, promising, rejected_with, rejected, for_readable, for_byte, for_source, for_writable, does, unlocked_readable, unlocked_writable}
use Rattle.ws_steps.specs.Promises.{Entry, Table, with_entry, next_id, fresh, is_pending_at}
use Rattle.ws_steps.specs.Readable as readable
use Rattle.ws_steps.specs.ReadableLooks as readable_looks
use Rattle.ws_steps.specs.Writable as writable
use Rattle.ws_steps.specs.WritableLooks as writable_looks
use Rattle.ws_alike.specs.Blind.{slots_changed, done_changed}
use Rattle.ws_alike.proofs.Lists.{maybe, all-get, all-set}
use Rattle.ws_alike.proofs.Promising as table
use Rattle.ws_alike.proofs.Promising.{pending-same}
use Rattle.ws_alike.proofs.Rows.{Fit, writable-names, abort-names}
use Rattle.ws_alike.proofs.Steps.{next-apart}
use Rattle.ws_alike.proofs.Tables.{next-blind, fresh-blind}
use Rattle.ws_steps.specs.declared.byte.ByteOperation.TheVariants.{PullInto, Enqueue as EnqueueBytes, Respond as RespondBytes}
use Rattle.ws_steps.specs.declared.calls.Answer.{Answer}
use Rattle.ws_steps.specs.declared.calls.Reply.TheVariants.{Done as ReplyDone, Promise, Throws, Request as ReplyRequest, Size, State as ReplyState}
use Rattle.ws_steps.specs.declared.calls.Thrown.TheVariants.{TypeError}
use Rattle.ws_steps.specs.declared.readable.ReadRequest.TheVariants.{Promise as PromiseRequest}
use Rattle.ws_steps.specs.declared.readable.ReadableOperation.TheVariants.{ReleaseReader, Read as ReadChunk, Cancel as CancelStream, Enqueue as EnqueueChunk, Close as CloseReadable, Error as ErrorReadable}
use Rattle.ws_steps.specs.declared.transform.TransformOperation.TheVariants.{Enqueue as EnqueueByTransform, Error as ErrorTransform, Terminate as TerminateTransform}
use Rattle.ws_steps.specs.declared.writable.WritableOperation.TheVariants.{ReleaseWriter, Write as WriteChunk, Close as CloseStream, Abort as AbortStream, ErrorIfNeeded}
use Rattle.ws_steps.specs.Bytes as byte
use Rattle.ws_steps.specs.ControllerCalls.{enqueue_by, enqueue_bytes, enqueue_call, finish_by, close_reply, finish_bytes, finish_call, fail_readable_by, fail_writable_by, fail, terminate_by, terminate, desired_by, desired, desired_of_writer, look, settle_host, is_request, request_by, request, thrown_by, respond_unless, respond}
use Rattle.ws_steps.specs.Descriptors.{Descriptor, room_left, respond_throws}
use Rattle.ws_steps.specs.LockCalls.{cancel, read, read_into, write, close, abort_unless, abort, by_reader, is_byob_reader, by_default_reader, by_byob_reader, is_view, has_least, least_fault, refuse_least, read_into_by, by_writer, of_writer, closed_by, ready_by, with_lock, renewed, with_renewed, reject_renewed, release_reader, release_writer, release}
use Rattle.ws_steps.specs.Queues.{is_empty}
use Rattle.ws_steps.specs.Slots.{Slots, causes, with_promises, has_readable, has_byte, has_source, has_writable, readable_at, byte_at, source_at, writable_at, owner_at, lock_at, host_at, pending_host}
use Rattle.ws_alike.specs.Named.{one, in_option, in_lock, in_writer, in_effects, in_slots}

abbrev pub in_reply : PromiseId → Reply → ℕ
in_reply p (Promise q) = one p q
in_reply p _ = 0

-- what is shown of what a call begins with
pub record Calls (p : PromiseId) (f : Slots → Begun) (s : Slots) : Type 0 where
  pub blind : (x : Option Entry) → f (slots_changed p x s) ≡ begun (f s).reply (done_changed p x (f s).done)
  pub apart : in_reply p (f s).reply ≡ 0
  pub unnamed : in_slots p (f s).done.slots + in_effects p (f s).done.caused ≡ 0
  pub more : length s.promises.entries ≤ length (f s).done.slots.promises.entries

pub by-test : (p : PromiseId) (f g : Slots → Begun) (c : Bool) (s : Slots) → Calls p f s → Calls p g s → Calls p (λ z. if c then f z else g z) s
by-test p f g true s k m = k
by-test p f g false s k m = m

-- nothing but effects, which don't name p
pub begins : (p : PromiseId) (r : Reply) (es : List Effect) (s : Slots) → in_reply p r ≡ 0 → in_effects p es ≡ 0 → Fit p s → Calls p (λ z. begun r (causes es z)) s
begins p r es s m n fits = record { blind = λ x. refl; apart = m; unnamed = omega (arith, n, fits.none); more = omega arith }

pub answers : (p : PromiseId) (r : Reply) (s : Slots) → in_reply p r ≡ 0 → Fit p s → Calls p (replies r) s
answers p r s m fits = begins p r [] s m refl fits

pub refuses : (p : PromiseId) (s : Slots) → Fit p s → Calls p unsupported s
refuses p s fits = record { blind = λ x. refl; apart = refl; unnamed = omega (arith, fits.none); more = omega arith }

pub throws : (p : PromiseId) (s : Slots) → Fit p s → Calls p throws_type_error s
throws p s fits = record { blind = λ x. refl; apart = refl; unnamed = omega (arith, fits.none); more = omega arith }

pub table-fits : (p : PromiseId) (s : Slots) → Fit p s → table.Fit p s.promises
table-fits p s fits = record { made = fits.made; none = omega (arith, fits.none) }

pub promises : (p : PromiseId) (effects : PromiseId → List Effect) (s : Slots) → ((q : PromiseId) → one p q ≡ 0 → in_effects p (effects q) ≡ 0) → Fit p s → Calls p (promising effects) s
promises p effects s none fits =
    let next = next-apart p s.promises fits.made in
    let m = table.freshes p s.promises (table-fits p s fits) in
    let n = none (next_id s.promises) next in
    record { blind = λ x. rw (next-blind p x s.promises, fresh-blind p x s.promises fits.made) refl; apart = next; unnamed = omega (arith, m.unnamed, n, fits.none); more = m.more }

refuses_with : (p : PromiseId) (fault : Fault) (s : Slots) → Fit p s → Calls p (rejected_with fault) s
refuses_with p fault s fits = promises p (λ q. SettlePromise q (Err (FaultReason fault)) ∷ []) s (λ q n. omega (arith, n)) fits

pub rejects : (p : PromiseId) (s : Slots) → Fit p s → Calls p rejected s
rejects p s fits = let k = refuses_with p FaultTypeError s fits in record { blind = k.blind; apart = k.apart; unnamed = k.unnamed; more = k.more }

-- checks

pub for_source-calls : (p : PromiseId) (i : StreamId) (f : Slots → Begun) (s : Slots) → Calls p f s → Fit p s → Calls p (for_source i f) s
for_source-calls p i f s m fits = let k = by-test p f unsupported (has_source i s) s m (refuses p s fits) in record { blind = k.blind; apart = k.apart; unnamed = k.unnamed; more = k.more }

pub for_readable-calls : (p : PromiseId) (i : StreamId) (f : Slots → Begun) (s : Slots) → Calls p f s → Fit p s → Calls p (for_readable i f) s
for_readable-calls p i f s m fits = let k = by-test p f unsupported (has_readable i s) s m (refuses p s fits) in record { blind = k.blind; apart = k.apart; unnamed = k.unnamed; more = k.more }

pub for_byte-calls : (p : PromiseId) (i : StreamId) (f : Slots → Begun) (s : Slots) → Calls p f s → Fit p s → Calls p (for_byte i f) s
for_byte-calls p i f s m fits = let k = by-test p f unsupported (has_byte i s) s m (refuses p s fits) in record { blind = k.blind; apart = k.apart; unnamed = k.unnamed; more = k.more }

pub for_writable-calls : (p : PromiseId) (i : StreamId) (f : Slots → Begun) (s : Slots) → Calls p f s → Fit p s → Calls p (for_writable i f) s
for_writable-calls p i f s m fits = let k = by-test p f unsupported (has_writable i s) s m (refuses p s fits) in record { blind = k.blind; apart = k.apart; unnamed = k.unnamed; more = k.more }

pub unlocked_readable-calls : (p : PromiseId) (i : StreamId) (locked : Slots → Begun) (free : StreamId → Slots → Begun) (s : Slots) → Calls p locked s → Calls p (free i) s → Fit p s → Calls p (unlocked_readable i locked free) s
unlocked_readable-calls p i locked free s l m fits =
    let j = by-test p locked (free i) (readable_looks.is_locked (source_at i s)) s l m in
    let k = by-test p (λ z. if readable_looks.is_locked (source_at i s) then locked z else free i z) unsupported (has_source i s) s j (refuses p s fits) in record { blind = k.blind; apart = k.apart; unnamed = k.unnamed; more = k.more }

pub unlocked_writable-calls : (p : PromiseId) (i : StreamId) (locked : Slots → Begun) (free : StreamId → Slots → Begun) (s : Slots) → Calls p locked s → Calls p (free i) s → Fit p s → Calls p (unlocked_writable i locked free) s
unlocked_writable-calls p i locked free s l m fits =
    let j = by-test p locked (free i) (writable_looks.is_locked (writable_at i s)) s l m in
    let k = by-test p (λ z. if writable_looks.is_locked (writable_at i s) then locked z else free i z) unsupported (has_writable i s) s j (refuses p s fits) in record { blind = k.blind; apart = k.apart; unnamed = k.unnamed; more = k.more }

-- what answers a promise

pub cancel-calls : (p : PromiseId) (r : Plain) (i : StreamId) (s : Slots) → Fit p s → Calls p (cancel r i) s
cancel-calls p r i s fits = promises p (λ q. Readable i (CancelStream r q) ∷ []) s (λ q n. omega (arith, n)) fits

pub read-calls : (p : PromiseId) (i : StreamId) (s : Slots) → Fit p s → Calls p (read i) s
read-calls p i s fits = promises p (λ q. Readable i (ReadChunk (PromiseRequest q)) ∷ []) s (λ q n. omega (arith, n)) fits

read_into-calls : (p : PromiseId) (room : List ℕ) (element least : ℕ) (i : StreamId) (s : Slots) → Fit p s → Calls p (read_into room element least i) s
read_into-calls p room element least i s fits = promises p (λ q. Byte i (PullInto room element (least * element) (PromiseRequest q)) ∷ []) s (λ q n. omega (arith, n)) fits

pub write-calls : (p : PromiseId) (v : Value) (i : StreamId) (s : Slots) → Fit p s → Calls p (write v i) s
write-calls p v i s fits = promises p (λ q. Writable i (WriteChunk v q) ∷ []) s (λ q n. omega (arith, n)) fits

pub close-calls : (p : PromiseId) (i : StreamId) (s : Slots) → Fit p s → Calls p (close i) s
close-calls p i s fits = promises p (λ q. Writable i (CloseStream q) ∷ []) s (λ q n. omega (arith, n)) fits

abort_unless-calls : (p : PromiseId) (r : Plain) (i : StreamId) (s : Slots) (o : Option PromiseId) → in_option p o ≡ 0 → Fit p s → Calls p (λ z. abort_unless r i z o) s
abort_unless-calls p r i s None n fits = promises p (λ q. Writable i (AbortStream r q) ∷ []) s (λ q n. omega (arith, n)) fits
abort_unless-calls p r i s (Some q) n fits = answers p (Promise q) s n fits

pub abort-calls : (p : PromiseId) (r : Plain) (i : StreamId) (s : Slots) → Fit p s → Calls p (abort r i) s
abort-calls p r i s fits =
    let here = writable-names p i s fits in
    let n = abort-names p (writable_at i s) in
    let k = abort_unless-calls p r i s (writable.answered_abort (writable_at i s)) (omega (arith, here, n)) fits in record { blind = k.blind; apart = k.apart; unnamed = k.unnamed; more = k.more }

-- by readers and writers

pub lock-names : (p : PromiseId) (l : LockId) (s : Slots) → Fit p s → maybe (in_lock p) (lock_at l s) ≡ 0
lock-names p l s fits = all-get (in_lock p) s.locks l.0 (omega (arith, fits.none))

pub by_reader-calls : (p : PromiseId) (holding : StreamId → Slots → Begun) (free : Slots → Begun) (s : Slots) (o : Option Lock) → ((i : StreamId) → Calls p (holding i) s) → Calls p free s → Fit p s → Calls p (λ z. by_reader holding free z o) s
by_reader-calls p holding free s None h m fits = refuses p s fits
by_reader-calls p holding free s (Some (ReaderLock (Some i) closed)) h m fits = for_source-calls p i (holding i) s (h i) fits
by_reader-calls p holding free s (Some (ReaderLock None closed)) h m fits = m
by_reader-calls p holding free s (Some (ByobReader (Some i) closed)) h m fits = for_source-calls p i (holding i) s (h i) fits
by_reader-calls p holding free s (Some (ByobReader None closed)) h m fits = m
by_reader-calls p holding free s (Some (WriterLock i)) h m fits = refuses p s fits
by_reader-calls p holding free s (Some (ReleasedWriter w)) h m fits = refuses p s fits
by_reader-calls p holding free s (Some Inner) h m fits = refuses p s fits

pub by_default-calls : (p : PromiseId) (holding : StreamId → Slots → Begun) (free : Slots → Begun) (s : Slots) (o : Option Lock) → ((i : StreamId) → Calls p (holding i) s) → Calls p free s → Fit p s → Calls p (λ z. by_default_reader holding free z o) s
by_default-calls p holding free s o h m fits = by-test p unsupported (λ z. by_reader holding free z o) (is_byob_reader o) s (refuses p s fits) (by_reader-calls p holding free s o h m fits)

by_byob-calls : (p : PromiseId) (holding : StreamId → Slots → Begun) (free : Slots → Begun) (s : Slots) (o : Option Lock) → ((i : StreamId) → Calls p (holding i) s) → Calls p free s → Fit p s → Calls p (λ z. by_byob_reader holding free z o) s
by_byob-calls p holding free s o h m fits = by-test p (λ z. by_reader holding free z o) unsupported (is_byob_reader o) s (by_reader-calls p holding free s o h m fits) (refuses p s fits)

pub read_into_by-calls : (p : PromiseId) (room : List ℕ) (element least : ℕ) (s : Slots) (o : Option Lock) → Fit p s → Calls p (λ z. read_into_by room element least z o) s
read_into_by-calls p room element least s o fits =
    let f : Fault = least_fault (length room) least in
    let a = by_byob-calls p (λ i. rejected_with f) (rejected_with f) s o (λ i. refuses_with p f s fits) (refuses_with p f s fits) fits in
    let c = by_byob-calls p (read_into room element least) rejected s o (λ i. read_into-calls p room element least i s fits) (rejects p s fits) fits in
    let j = by-test p (λ z. refuse_least f z o) (λ z. by_byob_reader (read_into room element least) rejected z o) (not (has_least (length room) element least)) s a c in
    by-test p unsupported (λ z. if not (has_least (length room) element least) then refuse_least f z o else by_byob_reader (read_into room element least) rejected z o) (not (is_view (length room) element)) s (refuses p s fits) j

pub by_writer-calls : (p : PromiseId) (holding : StreamId → Slots → Begun) (free : Slots → Begun) (s : Slots) (o : Option Lock) → ((i : StreamId) → Calls p (holding i) s) → Calls p free s → Fit p s → Calls p (λ z. by_writer holding free z o) s
by_writer-calls p holding free s None h m fits = refuses p s fits
by_writer-calls p holding free s (Some (ReaderLock stream closed)) h m fits = refuses p s fits
by_writer-calls p holding free s (Some (ByobReader stream closed)) h m fits = refuses p s fits
by_writer-calls p holding free s (Some (WriterLock i)) h m fits = for_writable-calls p i (holding i) s (h i) fits
by_writer-calls p holding free s (Some (ReleasedWriter w)) h m fits = m
by_writer-calls p holding free s (Some Inner) h m fits = refuses p s fits

of_writer-calls : (p : PromiseId) (f : Writer → Slots → Begun) (s : Slots) (o : Option Writer) → in_writer p o ≡ 0 → ((w : Writer) → one p w.ready + one p w.closed ≡ 0 → Calls p (f w) s) → Fit p s → Calls p (λ z. of_writer f z o) s
of_writer-calls p f s None n h fits = refuses p s fits
of_writer-calls p f s (Some w) n h fits = h w n

writer-of : (p : PromiseId) (i : StreamId) (s : Slots) → Fit p s → in_writer p (writable_at i s).writer ≡ 0
writer-of p i s fits = let here = writable-names p i s fits in omega (arith, here)

pub closed-calls : (p : PromiseId) (s : Slots) (o : Option Lock) → maybe (in_lock p) o ≡ 0 → Fit p s → Calls p (λ z. closed_by z o) s
closed-calls p s None n fits = refuses p s fits
closed-calls p s (Some (ReaderLock stream closed)) n fits = answers p (Promise closed) s n fits
closed-calls p s (Some (ByobReader stream closed)) n fits = answers p (Promise closed) s n fits
closed-calls p s (Some (WriterLock i)) n fits =
    let k = of_writer-calls p (λ w. replies (Promise w.closed)) s (writable_at i s).writer (writer-of p i s fits) (λ w m. answers p (Promise w.closed) s (omega (arith, m)) fits) fits in record { blind = k.blind; apart = k.apart; unnamed = k.unnamed; more = k.more }
closed-calls p s (Some (ReleasedWriter w)) n fits = answers p (Promise w.closed) s (omega (arith, n)) fits
closed-calls p s (Some Inner) n fits = refuses p s fits

pub ready-calls : (p : PromiseId) (s : Slots) (o : Option Lock) → maybe (in_lock p) o ≡ 0 → Fit p s → Calls p (λ z. ready_by z o) s
ready-calls p s None n fits = refuses p s fits
ready-calls p s (Some (ReaderLock stream closed)) n fits = refuses p s fits
ready-calls p s (Some (ByobReader stream closed)) n fits = refuses p s fits
ready-calls p s (Some (WriterLock i)) n fits =
    let k = of_writer-calls p (λ w. replies (Promise w.ready)) s (writable_at i s).writer (writer-of p i s fits) (λ w m. answers p (Promise w.ready) s (omega (arith, m)) fits) fits in record { blind = k.blind; apart = k.apart; unnamed = k.unnamed; more = k.more }
ready-calls p s (Some (ReleasedWriter w)) n fits = answers p (Promise w.ready) s (omega (arith, n)) fits
ready-calls p s (Some Inner) n fits = refuses p s fits

-- releases

reader_by-calls : (p : PromiseId) (released : PromiseId → Lock) (l : LockId) (c : PromiseId) (i : StreamId) (kept : Bool) (s : Slots) → ((q : PromiseId) → one p q ≡ 0 → in_lock p (released q) ≡ 0) → one p c ≡ 0 → Fit p s
    → Calls p (λ z. begun ReplyDone (causes (reject_renewed z.promises kept ++ Readable i ReleaseReader ∷ []) (with_lock l (released (renewed c z.promises kept)) (with_promises (with_renewed z.promises kept) z)))) s
reader_by-calls p released l c i true s named n fits =
    let set = all-set (in_lock p) s.locks l.0 (released c) (named c n) (omega (arith, fits.none)) in
    record { blind = λ x. refl; apart = refl; unnamed = omega (arith, set, fits.none); more = omega arith }
reader_by-calls p released l c i false s named n fits =
    let q : PromiseId = next_id s.promises in
    let next = next-apart p s.promises fits.made in
    let m = table.freshes p s.promises (table-fits p s fits) in
    let set = all-set (in_lock p) s.locks l.0 (released q) (named q next) (omega (arith, fits.none)) in
    record { blind = λ x. rw (next-blind p x s.promises, fresh-blind p x s.promises fits.made) refl; apart = refl; unnamed = omega (arith, set, next, m.unnamed, fits.none); more = m.more }

reader-calls : (p : PromiseId) (released : PromiseId → Lock) (l : LockId) (c : PromiseId) (i : StreamId) (s : Slots) → ((q : PromiseId) → one p q ≡ 0 → in_lock p (released q) ≡ 0) → one p c ≡ 0 → Fit p s → Calls p (release_reader released l c i) s
reader-calls p released l c i s named n fits = let k = reader_by-calls p released l c i (readable.is_readable (source_at i s).state) s named n fits in record { blind = k.blind; apart = k.apart; unnamed = k.unnamed; more = k.more }

abbrev writer_by : LockId → StreamId → Writer → Bool → Bool → Slots → Begun
writer_by l i w a c s =
    let t : Table = with_renewed s.promises a in
    begun ReplyDone
    (causes
    (reject_renewed s.promises a ++ (reject_renewed t c ++ Writable i ReleaseWriter ∷ []))
    (with_lock l (ReleasedWriter (record { ready = renewed w.ready s.promises a; closed = renewed w.closed t c })) (with_promises (with_renewed t c) s)))

writer_by-calls : (p : PromiseId) (l : LockId) (i : StreamId) (w : Writer) (a c : Bool) (s : Slots) → one p w.ready + one p w.closed ≡ 0 → Fit p s → Calls p (writer_by l i w a c) s
writer_by-calls p l i w true true s n fits =
    let set = all-set (in_lock p) s.locks l.0 (ReleasedWriter (record { ready = w.ready; closed = w.closed })) (omega (arith, n)) (omega (arith, fits.none)) in
    record { blind = λ x. refl; apart = refl; unnamed = omega (arith, set, fits.none); more = omega arith }
writer_by-calls p l i w true false s n fits =
    let q : PromiseId = next_id s.promises in
    let next = next-apart p s.promises fits.made in
    let m = table.freshes p s.promises (table-fits p s fits) in
    let set = all-set (in_lock p) s.locks l.0 (ReleasedWriter (record { ready = w.ready; closed = q })) (omega (arith, n, next)) (omega (arith, fits.none)) in
    record { blind = λ x. rw (next-blind p x s.promises, fresh-blind p x s.promises fits.made) refl; apart = refl; unnamed = omega (arith, set, next, m.unnamed, fits.none); more = m.more }
writer_by-calls p l i w false true s n fits =
    let q : PromiseId = next_id s.promises in
    let next = next-apart p s.promises fits.made in
    let m = table.freshes p s.promises (table-fits p s fits) in
    let set = all-set (in_lock p) s.locks l.0 (ReleasedWriter (record { ready = q; closed = w.closed })) (omega (arith, n, next)) (omega (arith, fits.none)) in
    record { blind = λ x. rw (next-blind p x s.promises, fresh-blind p x s.promises fits.made) refl; apart = refl; unnamed = omega (arith, set, next, m.unnamed, fits.none); more = m.more }
writer_by-calls p l i w false false s n fits =
    let t : Table = s.promises in
    let m = table.freshes p t (table-fits p s fits) in
    let longer : p.0 < length (fresh t).entries = omega (arith, fits.made, m.more) in
    let m2 = table.freshes p (fresh t) (record { made = longer; none = m.unnamed }) in
    let a = next-apart p t fits.made in
    let c = next-apart p (fresh t) longer in
    let set = all-set (in_lock p) s.locks l.0 (ReleasedWriter (record { ready = next_id t; closed = next_id (fresh t) })) (omega (arith, a, c)) (omega (arith, fits.none)) in
    record {
      blind = λ x. rw (next-blind p x t, fresh-blind p x t fits.made, next-blind p x (fresh t), fresh-blind p x (fresh t) longer) refl;
      apart = refl;
      unnamed = omega (arith, set, a, c, m2.unnamed, fits.none);
      more = omega (arith, m.more, m2.more);
    }

renewed-same : (p q : PromiseId) (x : Option Entry) (t : Table) (a : Bool) → one p q ≡ 0 → p.0 < length t.entries → is_pending_at q (with_renewed (with_entry p x t) a) ≡ is_pending_at q (with_renewed t a)
renewed-same p q x t true n h = pending-same p q x t n
renewed-same p q x t false n h = ap (is_pending_at q) (fresh-blind p x t h) ∙ pending-same p q x (fresh t) n

writer-calls : (p : PromiseId) (l : LockId) (i : StreamId) (w : Writer) (s : Slots) → one p w.ready + one p w.closed ≡ 0 → Fit p s → Calls p (release_writer l i w) s
writer-calls p l i w s n fits =
    let a : Bool = is_pending_at w.ready s.promises in
    let c : Bool = is_pending_at w.closed (with_renewed s.promises a) in
    let k = writer_by-calls p l i w a c s n fits in
    let first : one p w.ready ≡ 0 = omega (arith, n) in
    let second : one p w.closed ≡ 0 = omega (arith, n) in
    record {
      blind = λ x. ap (λ a. writer_by l i w a (is_pending_at w.closed (with_renewed (with_entry p x s.promises) a)) (slots_changed p x s)) (pending-same p w.ready x s.promises first)
          ∙ (ap (λ c. writer_by l i w a c (slots_changed p x s)) (renewed-same p w.closed x s.promises a second fits.made) ∙ k.blind x);
      apart = k.apart;
      unnamed = k.unnamed;
      more = k.more;
    }

pub release-calls : (p : PromiseId) (l : LockId) (s : Slots) (o : Option Lock) → maybe (in_lock p) o ≡ 0 → Fit p s → Calls p (λ z. release l z o) s
release-calls p l s None n fits = refuses p s fits
release-calls p l s (Some (ReaderLock (Some i) closed)) n fits = for_source-calls p i (release_reader (ReaderLock None) l closed i) s (reader-calls p (ReaderLock None) l closed i s (λ q m. m) n fits) fits
release-calls p l s (Some (ReaderLock None closed)) n fits = answers p ReplyDone s refl fits
release-calls p l s (Some (ByobReader (Some i) closed)) n fits = for_source-calls p i (release_reader (ByobReader None) l closed i) s (reader-calls p (ByobReader None) l closed i s (λ q m. m) n fits) fits
release-calls p l s (Some (ByobReader None closed)) n fits = answers p ReplyDone s refl fits
release-calls p l s (Some (WriterLock i)) n fits = let k = of_writer-calls p (release_writer l i) s (writable_at i s).writer (writer-of p i s fits) (λ w m. writer-calls p l i w s m fits) fits in record { blind = k.blind; apart = k.apart; unnamed = k.unnamed; more = k.more }
release-calls p l s (Some (ReleasedWriter w)) n fits = answers p ReplyDone s refl fits
release-calls p l s (Some Inner) n fits = refuses p s fits

-- controllers

if_it_can-calls : (p : PromiseId) (i : StreamId) (e : Effect) (s : Slots) → in_effects p (e ∷ []) ≡ 0 → Fit p s → Calls p (λ z. if readable.can_close_or_enqueue (readable_at i z) then does (e ∷ []) z else throws_type_error z) s
if_it_can-calls p i e s n fits = let k = by-test p (does (e ∷ [])) throws_type_error (readable.can_close_or_enqueue (readable_at i s)) s (begins p ReplyDone (e ∷ []) s refl n fits) (throws p s fits) in record { blind = k.blind; apart = k.apart; unnamed = k.unnamed; more = k.more }

enqueue_by-calls : (p : PromiseId) (v : Value) (i : StreamId) (s : Slots) (o : Owner) → Fit p s → Calls p (λ z. enqueue_by v i z o) s
enqueue_by-calls p v i s Host fits = if_it_can-calls p i (Readable i (EnqueueChunk v)) s refl fits
enqueue_by-calls p v i s (HalfOf t) fits = if_it_can-calls p i (OnTransform t (EnqueueByTransform v)) s refl fits
enqueue_by-calls p v i s (BranchOf t half) fits = refuses p s fits
enqueue_by-calls p v i s (EndOf c) fits = refuses p s fits

enqueue_bytes-calls : (p : PromiseId) (i : StreamId) (s : Slots) (v : Value) → Fit p s → Calls p (λ z. enqueue_bytes i z v) s
enqueue_bytes-calls p i s (PlainValue v) fits = throws p s fits
enqueue_bytes-calls p i s (Bytes b) fits =
    let k = by-test p (does (Byte i (EnqueueBytes b) ∷ [])) throws_type_error (not (is_empty b) && byte.can_take (byte_at i s)) s (begins p ReplyDone (Byte i (EnqueueBytes b) ∷ []) s refl refl fits) (throws p s fits) in record { blind = k.blind; apart = k.apart; unnamed = k.unnamed; more = k.more }

pub enqueue-calls : (p : PromiseId) (i : StreamId) (v : Value) (s : Slots) → Fit p s → Calls p (enqueue_call i v) s
enqueue-calls p i v s fits =
    let m = enqueue_by-calls p v i s (readable_at i s).owner fits in
    let f = for_readable-calls p i (λ z. enqueue_by v i z (readable_at i s).owner) s m fits in
    let k = by-test p (λ z. enqueue_bytes i z v) (for_readable i (λ z. enqueue_by v i z (readable_at i s).owner)) (has_byte i s) s (enqueue_bytes-calls p i s v fits) f in
    record { blind = k.blind; apart = k.apart; unnamed = k.unnamed; more = k.more }

finish_by-calls : (p : PromiseId) (i : StreamId) (s : Slots) (o : Owner) → Fit p s → Calls p (λ z. finish_by i z o) s
finish_by-calls p i s Host fits = if_it_can-calls p i (Readable i CloseReadable) s refl fits
finish_by-calls p i s (HalfOf t) fits = refuses p s fits
finish_by-calls p i s (BranchOf t half) fits = refuses p s fits
finish_by-calls p i s (EndOf c) fits = refuses p s fits

close_reply-apart : (p : PromiseId) (c : Bool) → in_reply p (if c then Throws TypeError else ReplyDone) ≡ 0
close_reply-apart p true = refl
close_reply-apart p false = refl

finish_bytes-calls : (p : PromiseId) (i : StreamId) (s : Slots) → Fit p s → Calls p (finish_bytes i) s
finish_bytes-calls p i s fits =
    let r : Reply = close_reply (byte_at i s) in
    let k = by-test p (λ z. begun r (causes (Readable i CloseReadable ∷ []) z)) throws_type_error (byte.can_take (byte_at i s)) s (begins p r (Readable i CloseReadable ∷ []) s (close_reply-apart p (byte.close_throws (byte_at i s))) refl fits) (throws p s fits) in
    record { blind = k.blind; apart = k.apart; unnamed = k.unnamed; more = k.more }

pub finish-calls : (p : PromiseId) (i : StreamId) (s : Slots) → Fit p s → Calls p (finish_call i) s
finish-calls p i s fits =
    let m = finish_by-calls p i s (readable_at i s).owner fits in
    let f = for_readable-calls p i (λ z. finish_by i z (readable_at i s).owner) s m fits in
    let k = by-test p (finish_bytes i) (for_readable i (λ z. finish_by i z (readable_at i s).owner)) (has_byte i s) s (finish_bytes-calls p i s fits) f in
    record { blind = k.blind; apart = k.apart; unnamed = k.unnamed; more = k.more }

fail_readable-calls : (p : PromiseId) (r : Plain) (i : StreamId) (s : Slots) (o : Owner) → Fit p s → Calls p (λ z. fail_readable_by r i z o) s
fail_readable-calls p r i s Host fits = begins p ReplyDone (Readable i (ErrorReadable r) ∷ []) s refl refl fits
fail_readable-calls p r i s (HalfOf t) fits = begins p ReplyDone (OnTransform t (ErrorTransform r) ∷ []) s refl refl fits
fail_readable-calls p r i s (BranchOf t half) fits = refuses p s fits
fail_readable-calls p r i s (EndOf c) fits = refuses p s fits

fail_writable-calls : (p : PromiseId) (r : Plain) (i : StreamId) (s : Slots) (o : Owner) → Fit p s → Calls p (λ z. fail_writable_by r i z o) s
fail_writable-calls p r i s Host fits = begins p ReplyDone (Writable i (ErrorIfNeeded r) ∷ []) s refl refl fits
fail_writable-calls p r i s (HalfOf t) fits = refuses p s fits
fail_writable-calls p r i s (BranchOf t half) fits = refuses p s fits
fail_writable-calls p r i s (EndOf c) fits = refuses p s fits

pub fail-calls : (p : PromiseId) (r : Plain) (i : StreamId) (s : Slots) → Fit p s → Calls p (fail r i) s
fail-calls p r i s fits =
    let a = fail_readable-calls p r i s (readable_at i s).owner fits in
    let w = for_writable-calls p i (λ z. fail_writable_by r i z (writable_at i s).owner) s (fail_writable-calls p r i s (writable_at i s).owner fits) fits in
    let c = begins p ReplyDone (Readable i (ErrorReadable r) ∷ []) s refl refl fits in
    let j = by-test p (does (Readable i (ErrorReadable r) ∷ [])) (for_writable i (λ z. fail_writable_by r i z (writable_at i s).owner)) (has_byte i s) s c w in
    let k = by-test p (λ z. fail_readable_by r i z (readable_at i s).owner) (λ z. if has_byte i s then does (Readable i (ErrorReadable r) ∷ []) z else for_writable i (λ z. fail_writable_by r i z (writable_at i s).owner) z) (has_readable i s) s a j in
    record { blind = k.blind; apart = k.apart; unnamed = k.unnamed; more = k.more }

terminate_by-calls : (p : PromiseId) (s : Slots) (o : Owner) → Fit p s → Calls p (λ z. terminate_by z o) s
terminate_by-calls p s Host fits = refuses p s fits
terminate_by-calls p s (HalfOf t) fits = begins p ReplyDone (OnTransform t TerminateTransform ∷ []) s refl refl fits
terminate_by-calls p s (BranchOf t half) fits = refuses p s fits
terminate_by-calls p s (EndOf c) fits = let k = refuses p s fits in record { blind = k.blind; apart = k.apart; unnamed = k.unnamed; more = k.more }

pub terminate-calls : (p : PromiseId) (i : StreamId) (s : Slots) → Fit p s → Calls p (for_readable i (terminate i)) s
terminate-calls p i s fits = let k = for_readable-calls p i (λ z. terminate_by z (readable_at i s).owner) s (terminate_by-calls p s (readable_at i s).owner fits) fits in record { blind = k.blind; apart = k.apart; unnamed = k.unnamed; more = k.more }

desired_by-calls : (p : PromiseId) (i : StreamId) (s : Slots) (o : Owner) → Fit p s → Calls p (λ z. desired_by i z o) s
desired_by-calls p i s Host fits = let k = answers p (Size (readable_looks.desired_by (source_at i s) (source_at i s).state)) s refl fits in record { blind = k.blind; apart = k.apart; unnamed = k.unnamed; more = k.more }
desired_by-calls p i s (HalfOf t) fits = let k = answers p (Size (readable_looks.desired_by (source_at i s) (source_at i s).state)) s refl fits in record { blind = k.blind; apart = k.apart; unnamed = k.unnamed; more = k.more }
desired_by-calls p i s (BranchOf t half) fits = refuses p s fits
desired_by-calls p i s (EndOf c) fits = refuses p s fits

pub desired-calls : (p : PromiseId) (i : StreamId) (s : Slots) → Fit p s → Calls p (for_source i (desired i)) s
desired-calls p i s fits = let k = for_source-calls p i (λ z. desired_by i z (owner_at i s)) s (desired_by-calls p i s (owner_at i s) fits) fits in record { blind = k.blind; apart = k.apart; unnamed = k.unnamed; more = k.more }

pub desired_of_writer-calls : (p : PromiseId) (i : StreamId) (s : Slots) → Fit p s → Calls p (desired_of_writer i) s
desired_of_writer-calls p i s fits = let k = answers p (Size (writable_looks.desired_by (writable_at i s) (writable_at i s).state)) s refl fits in record { blind = k.blind; apart = k.apart; unnamed = k.unnamed; more = k.more }

pub look-calls : (p : PromiseId) (i : StreamId) (s : Slots) → Fit p s → Calls p (look i) s
look-calls p i s fits =
    let w = for_writable-calls p i (replies (ReplyState (writable_looks.state_of (writable_at i s)))) s (answers p (ReplyState (writable_looks.state_of (writable_at i s))) s refl fits) fits in
    let k = by-test p (replies (ReplyState (readable_looks.state_of (source_at i s)))) (for_writable i (replies (ReplyState (writable_looks.state_of (writable_at i s))))) (has_source i s) s (answers p (ReplyState (readable_looks.state_of (source_at i s))) s refl fits) w in
    record { blind = k.blind; apart = k.apart; unnamed = k.unnamed; more = k.more }

host-names : (p : PromiseId) (o : Option (Option PromiseId)) → maybe (in_option p) o ≡ 0 → in_option p (pending_host o) ≡ 0
host-names p None h = refl
host-names p (Some q) h = h

settle_by-calls : (p : PromiseId) (h : HostId) (answer : Answer) (s : Slots) (o : Option PromiseId) → in_option p o ≡ 0 → Fit p s → Calls p (λ z. settle_host h answer z o) s
settle_by-calls p h answer s None n fits = refuses p s fits
settle_by-calls p h answer s (Some q) n fits =
    let set = all-set (in_option p) s.hosts h.0 None refl (omega (arith, fits.none)) in
    record { blind = λ x. refl; apart = refl; unnamed = omega (arith, set, n, fits.none); more = omega arith }

pub settle-calls : (p : PromiseId) (h : HostId) (answer : Answer) (s : Slots) → Fit p s → Calls p (λ z. settle_host h answer z (host_at h z)) s
settle-calls p h answer s fits =
    let get = all-get (in_option p) s.hosts h.0 (omega (arith, fits.none)) in
    let k = settle_by-calls p h answer s (host_at h s) (host-names p (slice_get s.hosts h.0) get) fits in record { blind = k.blind; apart = k.apart; unnamed = k.unnamed; more = k.more }

-- BYOB requests

request_by-calls : (p : PromiseId) (i : StreamId) (s : Slots) (o : Option RequestId) (ds : List Descriptor) → Fit p s → Calls p (λ z. request_by i z o ds) s
request_by-calls p i s o [] fits = answers p (ReplyRequest None) s refl fits
request_by-calls p i s (Some q) (d ∷ ds) fits = answers p (ReplyRequest (Some (q, room_left d))) s refl fits
request_by-calls p i s None (d ∷ ds) fits = record { blind = λ x. refl; apart = refl; unnamed = omega (arith, fits.none); more = omega arith }

pub request-calls : (p : PromiseId) (i : StreamId) (s : Slots) → Fit p s → Calls p (for_byte i (request i)) s
request-calls p i s fits = let k = for_byte-calls p i (λ z. request_by i z (byte_at i s).request (byte_at i s).descriptors) s (request_by-calls p i s (byte_at i s).request (byte_at i s).descriptors fits) fits in record { blind = k.blind; apart = k.apart; unnamed = k.unnamed; more = k.more }

thrown-apart : (p : PromiseId) (fault : Fault) → in_reply p (thrown_by fault) ≡ 0
thrown-apart p FaultTypeError = refl
thrown-apart p FaultRangeError = refl
thrown-apart p FaultDataClone = refl
thrown-apart p (FaultUser a) = refl
thrown-apart p FaultRead = refl
thrown-apart p FaultWrite = refl
thrown-apart p FaultTooMuch = refl
thrown-apart p FaultAbort = refl
thrown-apart p FaultNoMemory = refl
thrown-apart p (FaultStage a b c) = refl

respond_unless-calls : (p : PromiseId) (i : StreamId) (b : List ℕ) (s : Slots) (o : Option Fault) → Fit p s → Calls p (λ z. respond_unless i b z o) s
respond_unless-calls p i b s None fits = begins p ReplyDone (Byte i (RespondBytes b) ∷ []) s refl refl fits
respond_unless-calls p i b s (Some fault) fits = answers p (thrown_by fault) s (thrown-apart p fault) fits

pub respond-calls : (p : PromiseId) (q : RequestId) (b : List ℕ) (s : Slots) (o : Option StreamId) → Fit p s → Calls p (λ z. respond q b z o) s
respond-calls p q b s None fits = refuses p s fits
respond-calls p q b s (Some i) fits =
    let o : Option Fault = respond_throws (length b) (byte_at i s).stream.state (byte_at i s).descriptors in
    let k = by-test p (λ z. respond_unless i b z o) throws_type_error (is_request q (byte_at i s).request) s (respond_unless-calls p i b s o fits) (throws p s fits) in
    record { blind = k.blind; apart = k.apart; unnamed = k.unnamed; more = k.more }
