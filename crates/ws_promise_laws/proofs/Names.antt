-- The promise that a reply names is there, in every run: a new one, one of a reader or a writer, or one that an abort was answered before.
-- Which promises are watched follows (`each_name_stays`).
use Rattle.std.proofs.Common.{◌≡◌, ℕ, ◌+◌, ◌≤◌, ◌<◌, zero, suc, Bool, true, false, not, ◌||◌, is_some, if◌then◌else◌, List, [], ◌∷◌, ◌++◌, length, Option, Some, None, slice_get, slice_set, refl, sym, ap, subst, ◌∙◌, arith}
use Rattle.std.specs.Prelude.{◌&&◌}
use Rattle.ws_steps.specs.Queues.{is_empty}
use Rattle.ws_steps.specs.declared.calls.Reply.{Reply}
use Rattle.ws_steps.specs.declared.calls.Call.TheVariants.{Request, Respond}
use Rattle.ws_value.specs.declared.{ids.HostId.{HostId}, ids.LockId.{LockId}, ids.SignalId.{SignalId}, ids.PromiseId.{PromiseId}, ids.StreamId.{StreamId}, value.Plain.{Plain}, value.Value.{Value}}
use Rattle.ws_steps.specs.declared.{calls.Answer.{Answer}, calls.Call.{Call}, pipes.Prevent.{Prevent}, readable.ReadableOperation.{ReadableOperation}, readable.ReadableOperation.TheVariants.{Enqueue as EnqueueChunk, Close as CloseReadable}}
use Rattle.ws_steps.specs.declared.calls.Call.TheVariants.{MakeReadable, MakeBytes, MakeWritable, MakeTransform, Terminate, GetReader, GetByob, GetWriter, Tee, Cancel, CancelBy, Read, ReadInto, Write, Close, CloseBy, Abort, AbortBy, Closed, Ready, Release, Enqueue, Finish, Fail, Desired, DesiredBy, Pipe, MakeSignal, Trigger, Send, Open, Deliver, Settle, State, Step}
use Rattle.ws_steps.specs.declared.calls.Reply.TheVariants.{Promise as Named}
use Rattle.ws_steps.specs.declared.{effects.Effect.{Effect}, effects.Owner.{Owner}, effects.Owner.TheVariants.{Host, HalfOf, BranchOf, EndOf}, locks.Lock.{Lock}, locks.Lock.TheVariants.{Reader as ReaderLock, Writer as WriterLock, ReleasedWriter, Inner}, writable.PendingAbort.{PendingAbort}, writable.Writer.{Writer}}
use Rattle.ws_steps.specs.Begun as replying
use Rattle.ws_steps.specs.MakingCalls as making_calls
use Rattle.ws_steps.specs.LockCalls as lock_calls
use Rattle.ws_steps.specs.ControllerCalls as controller_calls
use Rattle.ws_steps.specs.PipeCalls as pipe_calls
use Rattle.ws_steps.specs.Begun.{Begun}
use Rattle.ws_steps.specs.LockCalls.{by_reader, by_writer, of_writer, closed_by, ready_by, renewed, with_renewed}
use Rattle.ws_steps.specs.Calls.{begin}
use Rattle.ws_steps.specs.Jobs.{job_effects}
use Rattle.ws_steps.specs.Laws.{EachNameStays}
use Rattle.ws_steps.specs.Promises as promises
use Rattle.ws_steps.specs.Promises.{Table, entry_at, live, rank_at, next_id, fresh, is_pending_at, is_open_entry, after_next_job, watch}
use Rattle.ws_steps.specs.Readable as readable
use Rattle.ws_steps.specs.ReadableLooks as readable_looks
use Rattle.ws_steps.specs.Run.{Entry as Entered, Called, Worked, Heard, step, run, is_named, names_in_step, after_event, after_call, reply_to}
use Rattle.ws_steps.specs.Slots.{Slots, Stream, ReadableStream, WritableStream, most_streams, has_readable, has_writable, has_signal, readable_at, writable_at, as_writable, lock_at, host_at, empty, with_promises}
use Rattle.ws_steps.specs.Turns.{row}
use Rattle.ws_steps.specs.Writable as writable
use Rattle.ws_steps.specs.WritableLooks as writable_looks
use Rattle.std.specs.Prelude.{nat_lt}
use Rattle.ws_laws.proofs.EachCall.{each_call}
use Rattle.ws_laws.proofs.Apart.{row-locks}
use Rattle.ws_laws.proofs.Tables.{either}
use Rattle.ws_laws.proofs.Walker.{Stays, called-stays, worked-stays}
use Rattle.ws_laws.proofs.Watched.{is_there, Whole, Stands, Answers, stands-same, stands-then, grows-entries, grows-fresh, next-there, or_false, named-by, row-grows, begin-grows, next-grows, watch-stands, step-watches}
use Rattle.ws_promise_laws.proofs.Holds.{is_over, place_at, when, whole, named}
use Rattle.ws_promise_laws.proofs.Realm.{Sound, in_stream, loose_in_stream, in_all, firm_in, loosely_in}
use Rattle.ws_promise_laws.proofs.Runs.{Straight, straight-stays, straight-heard, straight-empty}
use Rattle.ws_promise_laws.proofs.Streams.{in_writable, loose_in, of_abort, of_closed, of_ready, is_alive, is_awaited}
use Rattle.ws_promise_laws.proofs.Tokens.{one_if}
use Rattle.ws_value.specs.declared.ids.RequestId.{RequestId}
use Rattle.ws_value.specs.declared.fault.Fault.{Fault}
use Rattle.ws_steps.specs.Descriptors.{Descriptor, respond_throws}
use Rattle.ws_steps.specs.Slots.{stream_of_request, is_teed, owner_at, has_port}
use Rattle.ws_steps.specs.declared.port.Side.{Side}
use Rattle.ws_steps.specs.declared.port.Side.TheVariants.{Readable as ReadableSide, Writable as WritableSide}
use Rattle.ws_value.specs.declared.value.Value.TheVariants.{Plain as PlainValue, Bytes}
use Rattle.ws_steps.specs.Slots.{ByteStream, has_byte, byte_at, has_source, source_at}
use Rattle.ws_steps.specs.declared.locks.Lock.TheVariants.{ByobReader}
use Rattle.ws_steps.specs.Bytes as byte

-- locks

-- the promises of a lock are there
abbrev OfLock : Table → Lock → Type 0
OfLock t (ReaderLock stream closed) = is_there closed t ≡ true
OfLock t (ByobReader stream closed) = is_there closed t ≡ true
OfLock t (WriterLock i) = Unit {0}
OfLock t (ReleasedWriter w) = (is_there w.ready t ≡ true) × (is_there w.closed t ≡ true)
OfLock t Inner = Unit {0}

-- and those of each
abbrev OfLocks : Table → List Lock → Type 0
OfLocks t [] = Unit {0}
OfLocks t (l ∷ ls) = OfLock t l × OfLocks t ls

lock-later : (t z : Table) (l : Lock) → Stands t z → OfLock t l → OfLock z l
lock-later t z (ReaderLock stream closed) k h = k.there closed h
lock-later t z (ByobReader stream closed) k h = k.there closed h
lock-later t z (WriterLock i) k h = tt
lock-later t z (ReleasedWriter w) k h = (k.there w.ready h.0, k.there w.closed h.1)
lock-later t z Inner k h = tt

locks-later : (t z : Table) (ls : List Lock) → Stands t z → OfLocks t ls → OfLocks z ls
locks-later t z [] k h = tt
locks-later t z (l ∷ ls) k h = (lock-later t z l k h.0, locks-later t z ls k h.1)

locks-append : (t : Table) (ls ms : List Lock) → OfLocks t ls → OfLocks t ms → OfLocks t (ls ++ ms)
locks-append t [] ms h k = k
locks-append t (l ∷ ls) ms h k = (h.0, locks-append t ls ms h.1 k)

locks-set : (t : Table) (ls : List Lock) (n : ℕ) (l : Lock) → OfLocks t ls → OfLock t l → OfLocks t (slice_set ls n l)
locks-set t [] n l h k = tt
locks-set t (m ∷ ls) zero l h k = (k, h.1)
locks-set t (m ∷ ls) (suc n) l h k = (h.0, locks-set t ls n l h.1 k)

some_lock : (l m : Lock) → ◌≡◌ {A = Option Lock} (Some l) (Some m) → l ≡ m
some_lock l m e = cc

lock_in : (t : Table) (ls : List Lock) (n : ℕ) (l : Lock) → OfLocks t ls → slice_get ls n ≡ Some l → OfLock t l
lock_in t [] n l h e = cc
lock_in t (m ∷ ls) zero l h e = subst (OfLock t) (some_lock m l e) h.0
lock_in t (m ∷ ls) (suc n) l h e = lock_in t ls n l h.1 e

-- streams: a promise that stands in the realm is there

some_within : {X : Type 0} (xs : List X) (i : ℕ) (y : X) → slice_get xs i ≡ Some y → i < length xs
some_within [] i y e = cc
some_within (x ∷ xs) zero y e = omega arith
some_within (x ∷ xs) (suc i) y e = let rest = some_within xs i y e in omega arith

-- one that isn't made stands nowhere, and none was released
place-there : (s : Slots) (p : PromiseId) (firm : ℕ) (x : Option (Option promises.Entry)) → place_at s.promises p ≡ x → Whole s.promises
    → firm + (when (not (is_over x)) (loosely_in s p) + one_if (not (is_open_entry (live x)))) ≤ 1 → 1 ≤ firm + loosely_in s p → is_some (live x) ≡ true
place-there s p firm None e w once stands = absurd (omega arith)
place-there s p firm (Some None) e w once stands = ap (λ (x : Option (Option promises.Entry)). is_some (live x)) (sym e) ∙ w p (some_within s.promises.entries p.0 None e)
place-there s p firm (Some (Some d)) e w once stands = refl

sound-there : (s : Slots) (p : PromiseId) → Sound (λ x. 0) s → Whole s.promises → 1 ≤ firm_in p s + loosely_in s p → is_there p s.promises ≡ true
sound-there s p k w stands = place-there s p (firm_in p s) (place_at s.promises p) refl w (let n = k.holds.once p in omega arith) stands

pub in_all-there : (h : Stream → ℕ) (n : ℕ) (ss : List Stream) (y : Stream) → slice_get ss n ≡ Some y → h y ≤ in_all h ss
in_all-there h n [] y e = cc
in_all-there h zero (s ∷ ss) y e = let same : s ≡ y = cc in rw (← same) (omega arith)
in_all-there h (suc n) (s ∷ ss) y e = let rest = in_all-there h n ss y e in omega arith

in_realm : (p : PromiseId) (s : Slots) (n : ℕ) (place : Option Stream) → slice_get s.streams n ≡ place → 1 ≤ in_writable p (as_writable place) + loose_in p (as_writable place) → 1 ≤ firm_in p s + loosely_in s p
in_realm p s n None e stands = absurd (omega arith)
in_realm p s n (Some (ReadableStream r)) e stands = absurd (omega arith)
in_realm p s n (Some (ByteStream b)) e stands = absurd (omega arith)
in_realm p s n (Some (WritableStream w)) e stands =
    let a = in_all-there (in_stream p) n s.streams (WritableStream w) e in
    let b = in_all-there (loose_in_stream p) n s.streams (WritableStream w) e in
    omega arith

closed_stands : (w : writable.Slots) (v : Writer) → w.writer ≡ Some v → 1 ≤ in_writable v.closed w + loose_in v.closed w
closed_stands w v e =
    let one : of_closed v.closed w.writer ≡ 1 = ap (of_closed v.closed) e ∙ named v.closed in
    let all = whole (is_alive w) (of_closed v.closed w.writer) in omega arith

ready_stands : (w : writable.Slots) (v : Writer) → w.writer ≡ Some v → 1 ≤ in_writable v.ready w + loose_in v.ready w
ready_stands w v e =
    let one : of_ready v.ready w.writer ≡ 1 = ap (of_ready v.ready) e ∙ named v.ready in
    let all = whole (is_awaited w) (of_ready v.ready w.writer) in omega arith

abort_stands : (w : writable.Slots) (p : PromiseId) (o : Option PendingAbort) → w.pending_abort ≡ o → writable.promise_of o ≡ Some p → 1 ≤ in_writable p w + loose_in p w
abort_stands w p None e f = cc
abort_stands w p (Some a) e f =
    let is : a.promise ≡ p = cc in
    let one : of_abort p w.pending_abort ≡ 1 = ap (of_abort p) e ∙ rw is (named p) in omega arith

-- what is known between steps
record Known (s : Slots) : Type 0 where
  locks : OfLocks s.promises s.locks
  whole : Whole s.promises
  sound : Sound (λ x. 0) s

closed-there : (s : Slots) (i : StreamId) (w : Writer) → Known s → (writable_at i s).writer ≡ Some w → is_there w.closed s.promises ≡ true
closed-there s i w k e = sound-there s w.closed k.sound k.whole (in_realm w.closed s i.0 (slice_get s.streams i.0) refl (closed_stands (writable_at i s) w e))

ready-there : (s : Slots) (i : StreamId) (w : Writer) → Known s → (writable_at i s).writer ≡ Some w → is_there w.ready s.promises ≡ true
ready-there s i w k e = sound-there s w.ready k.sound k.whole (in_realm w.ready s i.0 (slice_get s.streams i.0) refl (ready_stands (writable_at i s) w e))

answered_by : (ended : Bool) (o : Option PromiseId) (p : PromiseId) → (if ended then None else o) ≡ Some p → o ≡ Some p
answered_by true o p e = cc
answered_by false o p e = e

abort-there : (s : Slots) (i : StreamId) (p : PromiseId) → Known s → writable.answered_abort (writable_at i s) ≡ Some p → is_there p s.promises ≡ true
abort-there s i p k e =
    let w : writable.Slots = writable_at i s in
    let f : writable.promise_of w.pending_abort ≡ Some p = answered_by (writable.has_ended w.state) (writable.promise_of w.pending_abort) p e in
    sound-there s p k.sound k.whole (in_realm p s i.0 (slice_get s.streams i.0) refl (abort_stands w p w.pending_abort refl f))

-- what a call answers

abbrev Begins : Begun → Type 0
Begins b = Answers b.reply b.done.slots.promises

by_reader-begins : (holding : StreamId → Slots → Begun) (free : Slots → Begun) (s : Slots) (o : Option Lock) → ((i : StreamId) → Begins (holding i s)) → Begins (free s) → Begins (by_reader holding free s o)
by_reader-begins holding free s None h f = tt
by_reader-begins holding free s (Some (ReaderLock (Some i) closed)) h f = either Begins (has_source i s) _ _ (λ e. h i) (λ e. tt)
by_reader-begins holding free s (Some (ReaderLock None closed)) h f = f
by_reader-begins holding free s (Some (ByobReader (Some i) closed)) h f = either Begins (has_source i s) _ _ (λ e. h i) (λ e. tt)
by_reader-begins holding free s (Some (ByobReader None closed)) h f = f
by_reader-begins holding free s (Some (WriterLock i)) h f = tt
by_reader-begins holding free s (Some (ReleasedWriter w)) h f = tt
by_reader-begins holding free s (Some Inner) h f = tt

by_default-begins : (holding : StreamId → Slots → Begun) (free : Slots → Begun) (s : Slots) (o : Option Lock) → ((i : StreamId) → Begins (holding i s)) → Begins (free s) → Begins (lock_calls.by_default_reader holding free s o)
by_default-begins holding free s o h f = either Begins (lock_calls.is_byob_reader o) _ _ (λ e. tt) (λ e. by_reader-begins holding free s o h f)

by_byob-begins : (holding : StreamId → Slots → Begun) (free : Slots → Begun) (s : Slots) (o : Option Lock) → ((i : StreamId) → Begins (holding i s)) → Begins (free s) → Begins (lock_calls.by_byob_reader holding free s o)
by_byob-begins holding free s o h f = either Begins (lock_calls.is_byob_reader o) _ _ (λ e. by_reader-begins holding free s o h f) (λ e. tt)

read_into-begins : (room : List ℕ) (element least : ℕ) (s : Slots) (o : Option Lock) → Begins (lock_calls.read_into_by room element least s o)
read_into-begins room element least s o =
    let f : Fault = lock_calls.least_fault (length room) least in
    either Begins (not (lock_calls.is_view (length room) element)) _ _ (λ e. tt)
    (λ e. either Begins (not (lock_calls.has_least (length room) element least)) _ _
    (λ g. by_byob-begins (λ i. replying.rejected_with f) (replying.rejected_with f) s o (λ i. next-there s.promises) (next-there s.promises))
    (λ g. by_byob-begins (lock_calls.read_into room element least) replying.rejected s o (λ i. next-there s.promises) (next-there s.promises)))

by_writer-begins : (holding : StreamId → Slots → Begun) (free : Slots → Begun) (s : Slots) (o : Option Lock) → ((i : StreamId) → Begins (holding i s)) → Begins (free s) → Begins (by_writer holding free s o)
by_writer-begins holding free s None h f = tt
by_writer-begins holding free s (Some (ReaderLock stream closed)) h f = tt
by_writer-begins holding free s (Some (ByobReader stream closed)) h f = tt
by_writer-begins holding free s (Some (WriterLock i)) h f = either Begins (has_writable i s) _ _ (λ e. h i) (λ e. tt)
by_writer-begins holding free s (Some (ReleasedWriter w)) h f = f
by_writer-begins holding free s (Some Inner) h f = tt

unlocked_readable-begins : (locked : Slots → Begun) (free : StreamId → Slots → Begun) (s : Slots) (i : StreamId) → Begins (locked s) → Begins (free i s) → Begins (replying.unlocked_readable i locked free s)
unlocked_readable-begins locked free s i l f = either Begins (has_source i s) _ _ (λ e. either Begins (readable_looks.is_locked (source_at i s)) _ _ (λ g. l) (λ g. f)) (λ e. tt)

unlocked_writable-begins : (locked : Slots → Begun) (free : StreamId → Slots → Begun) (s : Slots) (i : StreamId) → Begins (locked s) → Begins (free i s) → Begins (replying.unlocked_writable i locked free s)
unlocked_writable-begins locked free s i l f = either Begins (has_writable i s) _ _ (λ e. either Begins (writable_looks.is_locked (writable_at i s)) _ _ (λ g. l) (λ g. f)) (λ e. tt)

abort-begins : (reason : Plain) (i : StreamId) (s : Slots) (o : Option PromiseId) → ((p : PromiseId) → o ≡ Some p → is_there p s.promises ≡ true) → Begins (lock_calls.abort_unless reason i s o)
abort-begins reason i s None h = next-there s.promises
abort-begins reason i s (Some p) h = h p refl

of_writer-begins : (operation : Writer → Slots → Begun) (s : Slots) (o : Option Writer) → ((w : Writer) → o ≡ Some w → Begins (operation w s)) → Begins (of_writer operation s o)
of_writer-begins operation s None h = tt
of_writer-begins operation s (Some w) h = h w refl

closed-begins : (s : Slots) (l : LockId) (o : Option Lock) → lock_at l s ≡ o → Known s → Begins (closed_by s o)
closed-begins s l None e k = tt
closed-begins s l (Some (ReaderLock stream closed)) e k = lock_in s.promises s.locks l.0 (ReaderLock stream closed) k.locks e
closed-begins s l (Some (ByobReader stream closed)) e k = lock_in s.promises s.locks l.0 (ByobReader stream closed) k.locks e
closed-begins s l (Some (WriterLock i)) e k = of_writer-begins (λ w. replying.replies (Named w.closed)) s (writable_at i s).writer (λ w f. closed-there s i w k f)
closed-begins s l (Some (ReleasedWriter w)) e k = (lock_in s.promises s.locks l.0 (ReleasedWriter w) k.locks e).1
closed-begins s l (Some Inner) e k = tt

ready-begins : (s : Slots) (l : LockId) (o : Option Lock) → lock_at l s ≡ o → Known s → Begins (ready_by s o)
ready-begins s l None e k = tt
ready-begins s l (Some (ReaderLock stream closed)) e k = tt
ready-begins s l (Some (ByobReader stream closed)) e k = tt
ready-begins s l (Some (WriterLock i)) e k = of_writer-begins (λ w. replying.replies (Named w.ready)) s (writable_at i s).writer (λ w f. ready-there s i w k f)
ready-begins s l (Some (ReleasedWriter w)) e k = (lock_in s.promises s.locks l.0 (ReleasedWriter w) k.locks e).0
ready-begins s l (Some Inner) e k = tt

release-begins : (s : Slots) (l : LockId) (o : Option Lock) → Begins (lock_calls.release l s o)
release-begins s l None = tt
release-begins s l (Some (ReaderLock (Some i) closed)) = either Begins (has_source i s) _ _ (λ e. tt) (λ e. tt)
release-begins s l (Some (ReaderLock None closed)) = tt
release-begins s l (Some (ByobReader (Some i) closed)) = either Begins (has_source i s) _ _ (λ e. tt) (λ e. tt)
release-begins s l (Some (ByobReader None closed)) = tt
release-begins s l (Some (WriterLock i)) = of_writer-begins (lock_calls.release_writer l i) s (writable_at i s).writer (λ w f. tt)
release-begins s l (Some (ReleasedWriter w)) = tt
release-begins s l (Some Inner) = tt

-- a pipe's promise is the last that its call makes
pipe-begins : (source dest : StreamId) (prevent : Prevent) (signal : Option SignalId) (s : Slots) → Begins (pipe_calls.pipe_unlocked source dest prevent signal s)
pipe-begins source dest prevent signal s =
    either Begins (readable_looks.is_locked (source_at source s)) _ _ (λ e. next-there s.promises)
    (λ e. either Begins (writable_looks.is_locked (writable_at dest s)) _ _ (λ f. next-there s.promises) (λ f. next-there (fresh (fresh (fresh s.promises)))))

signal-begins : (signal : Option SignalId) (operation : Slots → Begun) (s : Slots) → Begins (operation s) → Begins (pipe_calls.for_signal_where signal operation s)
signal-begins None operation s h = h
signal-begins (Some a) operation s h = either Begins (has_signal a s) _ _ (λ e. h) (λ e. tt)

host-begins : (h : HostId) (answer : Answer) (s : Slots) (o : Option PromiseId) → Begins (controller_calls.settle_host h answer s o)
host-begins h answer s None = tt
host-begins h answer s (Some p) = tt

-- calls of controllers, by whose they are, name none

if_it_can-begins : (s : Slots) (i : StreamId) (operation : ReadableOperation) → Begins (controller_calls.if_it_can i operation s)
if_it_can-begins s i operation = either Begins (readable.can_close_or_enqueue (readable_at i s)) _ _ (λ f. tt) (λ f. tt)

-- nor do those of byte controllers

enqueue_bytes-begins : (i : StreamId) (s : Slots) (v : Value) → Begins (controller_calls.enqueue_bytes i s v)
enqueue_bytes-begins i s (PlainValue v) = tt
enqueue_bytes-begins i s (Bytes b) = either Begins (not (is_empty b) && byte.can_take (byte_at i s)) _ _ (λ e. tt) (λ e. tt)

close-names : (b : byte.Slots) (t : Table) → Answers (controller_calls.close_reply b) t
close-names b t = either (λ (reply : Reply). Answers reply t) (byte.close_throws b) _ _ (λ e. tt) (λ e. tt)

request-begins : (i : StreamId) (s : Slots) (request : Option RequestId) (ds : List Descriptor) → Begins (controller_calls.request_by i s request ds)
request-begins i s request [] = tt
request-begins i s (Some q) (d ∷ ds) = tt
request-begins i s None (d ∷ ds) = tt

thrown-names : (fault : Fault) (t : Table) → Answers (controller_calls.thrown_by fault) t
thrown-names fault t = grind arith

respond_unless-begins : (i : StreamId) (b : List ℕ) (s : Slots) (fault : Option Fault) → Begins (controller_calls.respond_unless i b s fault)
respond_unless-begins i b s None = tt
respond_unless-begins i b s (Some fault) = thrown-names fault s.promises

respond-begins : (q : RequestId) (b : List ℕ) (s : Slots) (i : Option StreamId) → Begins (controller_calls.respond q b s i)
respond-begins q b s None = tt
respond-begins q b s (Some i) =
    either Begins (controller_calls.is_request q (byte_at i s).request) _ _ (λ e. respond_unless-begins i b s (respond_throws (length b) (byte_at i s).stream.state (byte_at i s).descriptors)) (λ e. tt)

enqueue-begins : (v : Value) (i : StreamId) (s : Slots) (owner : Owner) → Begins (controller_calls.enqueue_by v i s owner)
enqueue-begins v i s Host = if_it_can-begins s i (EnqueueChunk v)
enqueue-begins v i s (HalfOf t) = either Begins (readable.can_close_or_enqueue (readable_at i s)) _ _ (λ f. tt) (λ f. tt)
enqueue-begins v i s (BranchOf t half) = tt
enqueue-begins v i s (EndOf c) = tt

finish-begins : (i : StreamId) (s : Slots) (owner : Owner) → Begins (controller_calls.finish_by i s owner)
finish-begins i s Host = if_it_can-begins s i CloseReadable
finish-begins i s (HalfOf t) = tt
finish-begins i s (BranchOf t half) = tt
finish-begins i s (EndOf c) = tt

fail_readable-begins : (reason : Plain) (i : StreamId) (s : Slots) (owner : Owner) → Begins (controller_calls.fail_readable_by reason i s owner)
fail_readable-begins reason i s Host = tt
fail_readable-begins reason i s (HalfOf t) = tt
fail_readable-begins reason i s (BranchOf t half) = tt
fail_readable-begins reason i s (EndOf c) = tt

fail_writable-begins : (reason : Plain) (i : StreamId) (s : Slots) (owner : Owner) → Begins (controller_calls.fail_writable_by reason i s owner)
fail_writable-begins reason i s Host = tt
fail_writable-begins reason i s (HalfOf t) = tt
fail_writable-begins reason i s (BranchOf t half) = tt
fail_writable-begins reason i s (EndOf c) = tt

terminate-begins : (s : Slots) (owner : Owner) → Begins (controller_calls.terminate_by s owner)
terminate-begins s Host = tt
terminate-begins s (HalfOf t) = tt
terminate-begins s (BranchOf t half) = tt
terminate-begins s (EndOf c) = tt

desired-begins : (i : StreamId) (s : Slots) (owner : Owner) → Begins (controller_calls.desired_by i s owner)
desired-begins i s Host = tt
desired-begins i s (HalfOf t) = tt
desired-begins i s (BranchOf t half) = tt
desired-begins i s (EndOf c) = tt

-- the promise that a call is answered is there as the call begins
call-answers : (c : Call) (s : Slots) → Known s → Begins (begin c s)
unfolding begin
call-answers (MakeReadable mark size start) s k = either Begins (nat_lt (length s.streams) most_streams) _ _ (λ e. tt) (λ e. tt)
call-answers (MakeBytes mark auto start) s k = either Begins (nat_lt (length s.streams) most_streams) _ _ (λ e. tt) (λ e. tt)
call-answers (GetByob i) s k = unlocked_readable-begins replying.throws_type_error making_calls.get_byob_of s i tt (either Begins (has_byte i s) _ _ (λ e. tt) (λ e. tt))
call-answers (ReadInto l room element least) s k = read_into-begins room element least s (lock_at l s)
call-answers (Request i) s k = either Begins (has_byte i s) _ _ (λ e. request-begins i s (byte_at i s).request (byte_at i s).descriptors) (λ e. tt)
call-answers (Respond q b) s k = respond-begins q b s (stream_of_request q s)
call-answers (MakeWritable mark size start) s k = either Begins (nat_lt (length s.streams) most_streams) _ _ (λ e. tt) (λ e. tt)
call-answers (MakeTransform kind m n start) s k = either Begins (nat_lt (length s.streams + 1) most_streams) _ _ (λ e. tt) (λ e. tt)
call-answers (GetReader i) s k = unlocked_readable-begins replying.throws_type_error making_calls.get_reader s i tt tt
call-answers (Tee i) s k =
    unlocked_readable-begins replying.throws_type_error making_calls.tee_of s i tt
    (either Begins (has_byte i s) _ _ (λ e. tt) (λ e. either Begins (is_teed i s) _ _ (λ g. tt) (λ g. either Begins (nat_lt (length s.streams + 1) most_streams) _ _ (λ h. tt) (λ h. tt))))
call-answers (GetWriter i) s k = unlocked_writable-begins replying.throws_type_error making_calls.get_writer s i tt tt
call-answers (Cancel i reason) s k = unlocked_readable-begins replying.rejected (lock_calls.cancel reason) s i (next-there s.promises) (next-there s.promises)
call-answers (CancelBy l reason) s k = by_reader-begins (lock_calls.cancel reason) replying.rejected s (lock_at l s) (λ i. next-there s.promises) (next-there s.promises)
call-answers (Read l) s k = by_default-begins lock_calls.read replying.rejected s (lock_at l s) (λ i. next-there s.promises) (next-there s.promises)
call-answers (Write l v) s k = by_writer-begins (lock_calls.write v) replying.rejected s (lock_at l s) (λ i. next-there s.promises) (next-there s.promises)
call-answers (Close i) s k = unlocked_writable-begins replying.rejected lock_calls.close s i (next-there s.promises) (next-there s.promises)
call-answers (CloseBy l) s k = by_writer-begins lock_calls.close replying.rejected s (lock_at l s) (λ i. next-there s.promises) (next-there s.promises)
call-answers (Abort i reason) s k =
    unlocked_writable-begins replying.rejected (lock_calls.abort reason) s i (next-there s.promises) (abort-begins reason i s (writable.answered_abort (writable_at i s)) (λ p e. abort-there s i p k e))
call-answers (AbortBy l reason) s k =
    by_writer-begins (lock_calls.abort reason) replying.rejected s (lock_at l s) (λ i. abort-begins reason i s (writable.answered_abort (writable_at i s)) (λ p e. abort-there s i p k e)) (next-there s.promises)
call-answers (Closed l) s k = closed-begins s l (lock_at l s) refl k
call-answers (Ready l) s k = ready-begins s l (lock_at l s) refl k
call-answers (Release l) s k = release-begins s l (lock_at l s)
call-answers (Enqueue i v) s k = either Begins (has_byte i s) _ _ (λ is. enqueue_bytes-begins i s v) (λ isnt. either Begins (has_readable i s) _ _ (λ e. enqueue-begins v i s (readable_at i s).owner) (λ e. tt))
call-answers (Finish i) s k = either Begins (has_byte i s) _ _ (λ is. either Begins (byte.can_take (byte_at i s)) _ _ (λ can. close-names (byte_at i s) s.promises) (λ cannot. tt)) (λ isnt. either Begins (has_readable i s) _ _ (λ e. finish-begins i s (readable_at i s).owner) (λ e. tt))
call-answers (Fail i reason) s k =
    either Begins (has_readable i s) _ _ (λ e. fail_readable-begins reason i s (readable_at i s).owner) (λ e. either Begins (has_byte i s) _ _ (λ is. tt) (λ isnt. either Begins (has_writable i s) _ _ (λ f. fail_writable-begins reason i s (writable_at i s).owner) (λ f. tt)))
call-answers (Terminate i) s k = either Begins (has_readable i s) _ _ (λ e. terminate-begins s (readable_at i s).owner) (λ e. tt)
call-answers (Desired i) s k = either Begins (has_source i s) _ _ (λ e. desired-begins i s (owner_at i s)) (λ e. tt)
call-answers (DesiredBy l) s k = by_writer-begins controller_calls.desired_of_writer replying.throws_type_error s (lock_at l s) (λ i. tt) tt
call-answers (Pipe source dest prevent signal) s k =
    either Begins (has_source source s) _ _
    (λ e. either Begins (has_writable dest s) _ _ (λ f. signal-begins signal (pipe_calls.pipe_unlocked source dest prevent signal) s (pipe-begins source dest prevent signal s)) (λ f. tt))
    (λ e. tt)
call-answers MakeSignal s k = tt
call-answers (Trigger a reason) s k = either Begins (has_signal a s) _ _ (λ e. tt) (λ e. tt)
call-answers (Send i) s k =
    either Begins (has_source i s) _ _
    (λ e. unlocked_readable-begins replying.throws_data_clone (λ source. making_calls.make_stream (pipe_calls.send_readable source)) s i tt (either Begins (nat_lt (length s.streams) most_streams) _ _ (λ f. tt) (λ f. tt)))
    (λ e. unlocked_writable-begins replying.throws_data_clone (λ dest. making_calls.make_stream (pipe_calls.send_writable dest)) s i tt (either Begins (nat_lt (length s.streams) most_streams) _ _ (λ f. tt) (λ f. tt)))
call-answers (Open side) s k = either Begins (nat_lt (length s.streams) most_streams) _ _ (λ e. tt) (λ e. tt)
call-answers (Deliver c m) s k = either Begins (has_port c s) _ _ (λ e. tt) (λ e. tt)
call-answers (Settle h answer) s k = host-begins h answer s (host_at h s)
call-answers (State i) s k = either Begins (has_source i s) _ _ (λ e. tt) (λ e. either Begins (has_writable i s) _ _ (λ f. tt) (λ f. tt))
call-answers Step s k = tt

-- what a call makes

renewed-there : (p : PromiseId) (t : Table) (kept : Bool) → is_there p t ≡ true → is_there (renewed p t kept) (with_renewed t kept) ≡ true
renewed-there p t true h = h
renewed-there p t false h = next-there t

renewed-stands : (t : Table) (kept : Bool) → Stands t (with_renewed t kept)
renewed-stands t true = stands-same t
renewed-stands t false = (grows-fresh t).stands

fresh-stands : (t : Table) → Stands t (fresh t)
fresh-stands t = (grows-fresh t).stands

port-stands : (s : Slots) (side : Side) → Stands s.promises (pipe_calls.add_port (record { 0 = length s.streams }) s side).promises
port-stands s ReadableSide = stands-same s.promises
port-stands s WritableSide = fresh-stands s.promises

port-locks : (s : Slots) (side : Side) → (pipe_calls.add_port (record { 0 = length s.streams }) s side).locks ≡ s.locks
port-locks s ReadableSide = refl
port-locks s WritableSide = refl

open-locks : (s : Slots) (side : Side) → OfLocks (pipe_calls.add_port (record { 0 = length s.streams }) s side).promises s.locks
    → let z : Slots = (pipe_calls.open_end side (record { 0 = length s.streams }) s).done.slots in OfLocks z.promises z.locks
open-locks s ReadableSide h = h
open-locks s WritableSide h = h

-- a pipe keeps two more
sent-locks : (source dest : StreamId) (side : Side) (s : Slots) → let a : Slots = pipe_calls.add_port (record { 0 = length s.streams }) s side in OfLocks a.promises s.locks
    → let z : Slots = (pipe_calls.pipe_to source dest pipe_calls.no_prevent None a).done.slots in OfLocks z.promises z.locks
sent-locks source dest side s old =
    let a : Slots = pipe_calls.add_port (record { 0 = length s.streams }) s side in
    let t : Table = a.promises in
    let two : Stands t (fresh (fresh t)) = stands-then t (fresh t) (fresh (fresh t)) (fresh-stands t) (fresh-stands (fresh t)) in
    let four : Stands t (fresh (fresh (fresh (fresh t)))) =
    stands-then t (fresh (fresh t)) (fresh (fresh (fresh (fresh t)))) two
    (stands-then (fresh (fresh t)) (fresh (fresh (fresh t))) (fresh (fresh (fresh (fresh t)))) (fresh-stands (fresh (fresh t))) (fresh-stands (fresh (fresh (fresh t))))) in
    rw (port-locks s side) (locks-append (fresh (fresh (fresh (fresh t)))) s.locks (Inner ∷ Inner ∷ []) (locks-later t (fresh (fresh (fresh (fresh t)))) s.locks four old) (tt, (tt, tt)))

begin-locks : (c : Call) (s : Slots) → Known s → OfLocks (begin c s).done.slots.promises (begin c s).done.slots.locks
begin-locks c s k =
    let t : Table = s.promises in
    let later : (z : Table) → Stands t z → OfLocks z s.locks = λ z n. locks-later t z s.locks n k.locks in
    let new : OfLocks (fresh t) s.locks = later (fresh t) (fresh-stands t) in
    let two : Stands t (fresh (fresh t)) = stands-then t (fresh t) (fresh (fresh t)) (fresh-stands t) (fresh-stands (fresh t)) in
    let four : Stands t (fresh (fresh (fresh (fresh t)))) =
    stands-then t (fresh (fresh t)) (fresh (fresh (fresh (fresh t)))) two
    (stands-then (fresh (fresh t)) (fresh (fresh (fresh t))) (fresh (fresh (fresh (fresh t)))) (fresh-stands (fresh (fresh t))) (fresh-stands (fresh (fresh (fresh t))))) in
    each_call (λ (b : Begun). OfLocks b.done.slots.promises b.done.slots.locks) c s (record {
      unchanged = λ reply. k.locks;
      rejected = λ fault. new;
      make_readable = λ mark size start. k.locks;
      make_bytes = λ mark auto start. k.locks;
      get_byob = λ i is e. locks-append (fresh t) s.locks (ByobReader (Some i) (next_id t) ∷ []) new (next-there t, tt);
      release_byob = λ l closed i e.
          let kept : Bool = readable.is_readable (source_at i s).state in
          locks-set (with_renewed t kept) s.locks l.0 (ByobReader None (renewed closed t kept)) (later (with_renewed t kept) (renewed-stands t kept))
          (renewed-there closed t kept (lock_in t s.locks l.0 (ByobReader (Some i) closed) k.locks e));
      read_into = λ l i closed room element least e f. new;
      enqueue_bytes = λ i b e is some can. k.locks;
      finish_bytes = λ i e is can. k.locks;
      make_request = λ i reply is. k.locks;
      respond = λ q i b e is can. k.locks;
      make_writable = λ mark size start. k.locks;
      get_reader = λ i e. locks-append (fresh t) s.locks (ReaderLock (Some i) (next_id t) ∷ []) new (next-there t, tt);
      get_writer = λ i e. locks-append (fresh (fresh t)) s.locks (WriterLock i ∷ []) (later (fresh (fresh t)) two) (tt, tt);
      release_reader = λ l closed i e.
          let kept : Bool = readable.is_readable (source_at i s).state in
          locks-set (with_renewed t kept) s.locks l.0 (ReaderLock None (renewed closed t kept)) (later (with_renewed t kept) (renewed-stands t kept))
          (renewed-there closed t kept (lock_in t s.locks l.0 (ReaderLock (Some i) closed) k.locks e));
      release_writer = λ l i w e f.
          let ready : Bool = is_pending_at w.ready t in
          let u : Table = with_renewed t ready in
          let closed : Bool = is_pending_at w.closed u in
          let z : Table = with_renewed u closed in
          locks-set z s.locks l.0 _ (later z (stands-then t u z (renewed-stands t ready) (renewed-stands u closed))) (
            (renewed-stands u closed).there (renewed w.ready t ready) (renewed-there w.ready t ready (ready-there s i w k f)),
            renewed-there w.closed u closed ((renewed-stands t ready).there w.closed (closed-there s i w k f)),
          );
      cancel = λ reason i. new;
      read = λ l i closed e f. new;
      write = λ l v i e. new;
      close = λ i. new;
      abort = λ reason i e. new;
      make_transform = λ kind m n start. later (fresh (fresh (fresh (fresh t)))) four;
      make_tee = λ i e is free untied. locks-append (fresh (fresh t)) s.locks (Inner ∷ []) (later (fresh (fresh t)) two) (tt, tt);
      enqueue = λ i v e o can. k.locks;
      enqueue_half = λ i u v e o can. k.locks;
      fail_half = λ u reason. k.locks;
      terminate = λ u. k.locks;
      finish = λ i. k.locks;
      fail_readable = λ i reason. k.locks;
      fail_writable = λ i reason. k.locks;
      pipe = λ source dest prevent signal e f l m. locks-append (fresh (fresh (fresh (fresh t)))) s.locks (Inner ∷ Inner ∷ []) (later (fresh (fresh (fresh (fresh t)))) four) (tt, (tt, tt));
      make_signal = k.locks;
      open_end = λ side. open-locks s side (later _ (port-stands s side));
      send_readable = λ source there free. sent-locks source (record { 0 = length s.streams }) WritableSide s (later _ (port-stands s WritableSide));
      send_writable = λ dest there free. sent-locks (record { 0 = length s.streams }) dest ReadableSide s (later _ (port-stands s ReadableSide));
      deliver = λ c m asked has. k.locks;
      trigger = λ a reason. k.locks;
      settle = λ h answer p e. k.locks;
    })

-- runs

record Kept (s : Slots) (es : List Effect) : Type 0 where
  straight : Straight s es
  locks : OfLocks s.promises s.locks
  whole : Whole s.promises

known : (s : Slots) → Kept s [] → Known s
known s k = record { locks = k.locks; whole = k.whole; sound = k.straight.sound }

-- the locks stay, and promises too
stays-kept : (s : Slots) (t : Table) (es : List Effect) → Stands s.promises t → OfLocks s.promises s.locks → Whole s.promises → Straight (with_promises t s) es → Kept (with_promises t s) es
stays-kept s t es n locks w straight = record { straight = straight; locks = locks-later s.promises t s.locks n locks; whole = n.whole w }

kept-stays : Stays Kept
kept-stays = record {
  row = λ s e es k. record {
    straight = straight-stays.row s e es k.straight;
    locks = rw (row-locks e s) (locks-later s.promises (row e s).slots.promises s.locks (row-grows e s).stands k.locks);
    whole = (row-grows e s).stands.whole k.whole;
  };
  call = λ s c k. record { straight = straight-stays.call s c k.straight; locks = begin-locks c s (known s k); whole = (begin-grows c s).stands.whole k.whole };
  job = λ s job e k. stays-kept s (after_next_job s.promises) (job_effects job) (next-grows s.promises).stands k.locks k.whole (straight-stays.job s job e k.straight);
  answered = λ s p k. stays-kept s (watch p s.promises) [] (watch-stands p s.promises) k.locks k.whole (straight-stays.answered s p k.straight);
  older = λ s k. record { straight = straight-stays.older s k.straight; locks = k.locks; whole = k.whole };
}

step-kept : (s : Slots) (x : Entered) → Kept s [] → Kept (step s x) []
step-kept s (Called c) k = called-stays Kept kept-stays s c k
step-kept s Worked k = worked-stays Kept kept-stays s k
step-kept s Heard k = record { straight = straight-heard s k.straight; locks = locks-later s.promises (after_event s).promises s.locks (grows-entries s.promises _ refl).stands k.locks; whole = (grows-entries s.promises (after_event s).promises refl).stands.whole k.whole }

or_assoc : (a b c : Bool) → (a || b) || c ≡ a || (b || c)
or_assoc a b c = grind arith

-- what a run has watched is what it names
names-run : (xs : List Entered) (s : Slots) (p : PromiseId) → Kept s [] → is_some (rank_at (run xs s).promises p) ≡ is_some (rank_at s.promises p) || is_named p xs s
names-run [] s p k = or_false (is_some (rank_at s.promises p))
names-run (x ∷ xs) s p k =
    names-run xs (step s x) p (step-kept s x k)
    ∙ (ap (λ (b : Bool). b || is_named p xs (step s x)) (step-watches s x p (λ c. call-answers c s (known s k)))
    ∙ or_assoc (is_some (rank_at s.promises p)) (names_in_step p s x) (is_named p xs (step s x)))

kept-empty : Kept empty []
kept-empty = record { straight = straight-empty; locks = tt; whole = λ p n. absurd (omega (arith, n)) }

pub each_name_stays : EachNameStays
each_name_stays entries p = names-run entries empty p kept-empty

-- in every run, the promise that a call is answered is watched from then on
run-kept : (xs : List Entered) (s : Slots) → Kept s [] → Kept (run xs s) []
run-kept [] s k = k
run-kept (x ∷ xs) s k = run-kept xs (step s x) (step-kept s x k)

pub run-names : (entries : List Entered) (c : Call) (p : PromiseId) → reply_to c (run entries empty) ≡ Named p → is_some (rank_at (after_call c (run entries empty)).promises p) ≡ true
run-names entries c p is =
    let s : Slots = run entries empty in
    let there : Begins (begin c s) = call-answers c s (known s (run-kept entries empty kept-empty)) in
    named-by c s p (rw is at there) is
