-- Who has the ends of a pipe that isn't over (`each_pipe_owns_its_ends`, `no_two_pipes_share_an_end`).
use Rattle.ws_steps.specs.declared.port.Side.{Side as PortSide}
use Rattle.ws_steps.specs.declared.port.Side.TheVariants.{Readable as ReadableSide, Writable as WritableSide}
use Rattle.ws_laws.proofs.Tables.{no_stream}
use Rattle.ws_steps.specs.declared.calls.Call.TheVariants.{Send, Open}
use Rattle.ws_steps.specs.Slots.{most_streams}
use Rattle.std.proofs.Common.{nat_lt}
use Rattle.ws_value.specs.declared.fault.Fault.{Fault}
use Rattle.std.proofs.Common.{◌≡◌, ◌≢◌, ℕ, ◌+◌, ◌*◌, ◌≤◌, Bool, true, false, not, is_some, List, [], ◌∷◌, ◌++◌, length, Option, Some, None, slice_get, refl, sym, ap, ◌∙◌, arith}
use Rattle.ws_value.specs.declared.{ids.LockId.{LockId}, ids.PipeId.{PipeId}, ids.PromiseId.{PromiseId}, ids.SignalId.{SignalId}, ids.StreamId.{StreamId}, value.Plain.{Plain}}
use Rattle.ws_steps.specs.declared.byte.ByteOperation.{ByteOperation}
use Rattle.ws_steps.specs.declared.byte.ByteOperation.TheVariants.{InitializeByobReader, PullInto}
use Rattle.ws_steps.specs.declared.calls.Call.{Call}
use Rattle.ws_steps.specs.declared.calls.Call.TheVariants.{GetReader, GetByob, GetWriter, Cancel, CancelBy, Read, ReadInto, Write, Close, CloseBy, Abort, AbortBy, Release, Pipe}
use Rattle.ws_steps.specs.declared.effects.Effect.{Effect}
use Rattle.ws_steps.specs.declared.effects.Effect.TheVariants.{Readable as OnReadable, Byte, Writable as OnWritable}
use Rattle.ws_steps.specs.declared.{locks.Lock.{Lock}, locks.Lock.TheVariants.{Reader, ByobReader, Writer as WriterLock, ReleasedWriter, Inner}, pipes.Prevent.{Prevent}}
use Rattle.ws_steps.specs.declared.readable.ReadableOperation.{ReadableOperation}
use Rattle.ws_steps.specs.declared.readable.ReadableOperation.TheVariants.{InitializeReader, ReleaseReader, Read as ReadChunk, Cancel as CancelStream}
use Rattle.ws_steps.specs.declared.readable.ReadRequest.TheVariants.{Promise}
use Rattle.ws_steps.specs.declared.writable.{WritableOperation.{WritableOperation}, WritableOperation.TheVariants.{ReleaseWriter}, Writer.{Writer}}
use Rattle.ws_steps.specs.declared.writable.WritableOperation.TheVariants as write
use Rattle.ws_steps.specs.Begun as replying
use Rattle.ws_steps.specs.MakingCalls as making_calls
use Rattle.ws_steps.specs.LockCalls as lock_calls
use Rattle.ws_steps.specs.PipeCalls as pipe_calls
use Rattle.ws_steps.specs.Begun.{Begun, for_source, for_writable, unlocked_readable, unlocked_writable}
use Rattle.ws_steps.specs.LockCalls.{by_reader, is_byob_reader, by_default_reader, by_byob_reader, by_writer, abort_unless}
use Rattle.ws_steps.specs.PipeCalls.{for_signal_where, pipe_unlocked}
use Rattle.ws_steps.specs.Calls.{begin}
use Rattle.ws_steps.specs.Histories.{is_same}
use Rattle.ws_steps.specs.Pipes as pipe
use Rattle.ws_steps.specs.Promises.{Table, next_id, fresh, is_pending_at}
use Rattle.ws_steps.specs.Readable as readable
use Rattle.ws_steps.specs.Run.{Entry, run}
use Rattle.ws_steps.specs.Slots.{Slots, Stream, ReadableStream, ByteStream, WritableStream, is_writable_stream, empty, has_byte, has_source, has_writable, has_signal, source_at, writable_at, as_source, as_writable, lock_at, as_pipe}
use Rattle.ws_steps.specs.Writable as writable
use Rattle.ws_laws.proofs.Tables.{either, is_same-refl, same_id}
use Rattle.ws_laws.proofs.Truth.{false_true}
use Rattle.ws_pipe_laws.specs.pipes.PipeHistory.{is_over}
use Rattle.ws_pipe_laws.specs.pipes.PipeReads.{one_if}
use Rattle.ws_pipe_laws.specs.locks.Locks.{Side, Reading, Writing, end_of, has_lock, holds, in_locks, in_pipes, in_tees, is_locked}
use Rattle.ws_pipe_laws.specs.locks.LockLaws.{spares, all_spare, Owns, EachPipeOwnsItsEnds, NoTwoPipesShareAnEnd}
use Rattle.ws_pipe_laws.proofs.locks.Holding.{locks-there, pipes-there, pipes-two}
use Rattle.ws_pipe_laws.proofs.locks.Runs.{run-locked}

-- a locked stream isn't one that isn't

locked_reader : (o : Option Stream) → is_some (as_source o).reader ≡ false → has_lock Reading o ≡ false
locked_reader o e = grind (arith, e)

locked_writer : (o : Option Stream) → is_some (as_writable o).writer ≡ false → has_lock Writing o ≡ false
locked_writer o e = grind (arith, e)

-- a writer's stream is there
writes_there : (o : Option Stream) (w : Writer) → (as_writable o).writer ≡ Some w → is_writable_stream o ≡ true
writes_there None w e = cc
writes_there (Some (ReadableStream r)) w e = cc
writes_there (Some (ByteStream b)) w e = cc
writes_there (Some (WritableStream x)) w e = refl

-- a stream that isn't the source, or the destination

module _ (source dest : StreamId) where
  abbrev Spares : Begun → Type 0
  Spares b = all_spare source dest b.done.caused ≡ true

  one_reader : (i : StreamId) (operation : ReadableOperation) → is_same i source ≡ false → spares source dest (OnReadable i operation) ≡ true
  one_reader i operation n = grind (arith, n)

  one_byob : (i : StreamId) (operation : ByteOperation) → is_same i source ≡ false → spares source dest (Byte i operation) ≡ true
  one_byob i operation n = grind (arith, n)

  one_writer : (i : StreamId) (operation : WritableOperation) → is_same i dest ≡ false → spares source dest (OnWritable i operation) ≡ true
  one_writer i operation n = grind (arith, n)

  spares-append : (xs ys : List Effect) → all_spare source dest xs ≡ true → all_spare source dest ys ≡ true → all_spare source dest (xs ++ ys) ≡ true
  spares-append [] ys a b = b
  spares-append (x ∷ xs) ys a b = let n = spares-append xs ys in grind (arith, n, a, b)

  renewed-spares : (t : Table) (kept : Bool) → all_spare source dest (lock_calls.reject_renewed t kept) ≡ true
  renewed-spares t kept = grind arith

  begins-spares : (me : PipeId) (a b : PromiseId) (signal : Option SignalId) (reason : Option Plain) → all_spare source dest (pipe_calls.pipe_begins me a b signal reason) ≡ true
  begins-spares me a b signal (Some r) = refl
  begins-spares me a b None None = refl
  begins-spares me a b (Some g) None = refl

  module _ (s : Slots) (source_locked : is_locked Reading source s ≡ true)
      (no_reader : (l : LockId) (closed : PromiseId) → lock_at l s ≢ Some (Reader (Some source) closed))
      (no_byob_reader : (l : LockId) (closed : PromiseId) → lock_at l s ≢ Some (ByobReader (Some source) closed))
      (free_dest : (i : StreamId) → has_writable i s ≡ true → is_some (writable_at i s).writer ≡ false → is_same i dest ≡ false)
      (write_apart : (l : LockId) (i : StreamId) → has_writable i s ≡ true → lock_at l s ≡ Some (WriterLock i) → is_same i dest ≡ false)
      (new_dest : nat_lt (length s.streams) most_streams ≡ true → is_same (record { 0 = length s.streams }) dest ≡ false) where
    free_source : (i : StreamId) (same : Bool) → same ≡ is_same i source → is_some (source_at i s).reader ≡ false → is_same i source ≡ false
    free_source i false n e = sym n
    free_source i true n e =
        let free : is_some (source_at source s).reader ≡ false = rw (← same_id i source (sym n)) e in
        false_true (is_locked Reading source s) source_locked (locked_reader (slice_get s.streams source.0) free)

    read_apart : (l : LockId) (i : StreamId) (closed : PromiseId) (same : Bool) → same ≡ is_same i source → lock_at l s ≡ Some (Reader (Some i) closed) → is_same i source ≡ false
    read_apart l i closed false n e = sym n
    read_apart l i closed true n e = absurd (no_reader l closed (e ∙ ap (λ (j : StreamId). Some (Reader (Some j) closed)) (same_id i source (sym n))))

    byob_apart : (l : LockId) (i : StreamId) (closed : PromiseId) (same : Bool) → same ≡ is_same i source → lock_at l s ≡ Some (ByobReader (Some i) closed) → is_same i source ≡ false
    byob_apart l i closed false n e = sym n
    byob_apart l i closed true n e = absurd (no_byob_reader l closed (e ∙ ap (λ (j : StreamId). Some (ByobReader (Some j) closed)) (same_id i source (sym n))))

    -- checks of calls

    there_source : (i : StreamId) (operation : Slots → Begun) → Spares (operation s) → Spares (for_source i operation s)
    there_source i operation k = either Spares (has_source i s) _ _ (λ h. k) (λ h. refl)

    there_writable : (i : StreamId) (operation : Slots → Begun) → (has_writable i s ≡ true → Spares (operation s)) → Spares (for_writable i operation s)
    there_writable i operation k = either Spares (has_writable i s) _ _ k (λ h. refl)

    free_readable : (i : StreamId) (locked : Slots → Begun) (operation : StreamId → Slots → Begun) → Spares (locked s) → (is_same i source ≡ false → Spares (operation i s)) → Spares (unlocked_readable i locked operation s)
    free_readable i locked operation l k =
        either Spares (has_source i s) _ _
        (λ h. either Spares (is_some (source_at i s).reader) _ _ (λ e. l) (λ e. k (free_source i (is_same i source) refl e))) (λ h. refl)

    free_writable : (i : StreamId) (locked : Slots → Begun) (operation : StreamId → Slots → Begun) → Spares (locked s) → (is_same i dest ≡ false → Spares (operation i s)) → Spares (unlocked_writable i locked operation s)
    free_writable i locked operation l k =
        either Spares (has_writable i s) _ _
        (λ h. either Spares (is_some (writable_at i s).writer) _ _ (λ e. l) (λ e. k (free_dest i h e))) (λ h. refl)

    with_reader : (holding : StreamId → Slots → Begun) (free : Slots → Begun) (l : LockId) (lock : Option Lock) → lock_at l s ≡ lock → ((i : StreamId) → is_same i source ≡ false → Spares (holding i s)) → Spares (free s)
        → Spares (by_reader holding free s lock)
    with_reader holding free l None e k f = refl
    with_reader holding free l (Some (Reader (Some i) closed)) e k f = there_source i (holding i) (k i (read_apart l i closed (is_same i source) refl e))
    with_reader holding free l (Some (Reader None closed)) e k f = f
    with_reader holding free l (Some (ByobReader (Some i) closed)) e k f = there_source i (holding i) (k i (byob_apart l i closed (is_same i source) refl e))
    with_reader holding free l (Some (ByobReader None closed)) e k f = f
    with_reader holding free l (Some (WriterLock i)) e k f = refl
    with_reader holding free l (Some (ReleasedWriter w)) e k f = refl
    with_reader holding free l (Some Inner) e k f = refl

    with_default : (holding : StreamId → Slots → Begun) (free : Slots → Begun) (l : LockId) (lock : Option Lock) → lock_at l s ≡ lock → ((i : StreamId) → is_same i source ≡ false → Spares (holding i s)) → Spares (free s)
        → Spares (by_default_reader holding free s lock)
    with_default holding free l lock e k f = either Spares (is_byob_reader lock) (replying.unsupported s) (by_reader holding free s lock) (λ h. refl) (λ h. with_reader holding free l lock e k f)

    with_byob : (holding : StreamId → Slots → Begun) (free : Slots → Begun) (l : LockId) (lock : Option Lock) → lock_at l s ≡ lock → ((i : StreamId) → is_same i source ≡ false → Spares (holding i s)) → Spares (free s)
        → Spares (by_byob_reader holding free s lock)
    with_byob holding free l lock e k f = either Spares (is_byob_reader lock) (by_reader holding free s lock) (replying.unsupported s) (λ h. with_reader holding free l lock e k f) (λ h. refl)

    with_writer : (holding : StreamId → Slots → Begun) (free : Slots → Begun) (l : LockId) (lock : Option Lock) → lock_at l s ≡ lock → ((i : StreamId) → is_same i dest ≡ false → Spares (holding i s)) → Spares (free s)
        → Spares (by_writer holding free s lock)
    with_writer holding free l None e k f = refl
    with_writer holding free l (Some (Reader stream closed)) e k f = refl
    with_writer holding free l (Some (ByobReader stream closed)) e k f = refl
    with_writer holding free l (Some (WriterLock i)) e k f = there_writable i (holding i) (λ there. k i (write_apart l i there e))
    with_writer holding free l (Some (ReleasedWriter w)) e k f = f
    with_writer holding free l (Some Inner) e k f = refl

    alone_reader : (i : StreamId) (operation : ReadableOperation) → is_same i source ≡ false → all_spare source dest (OnReadable i operation ∷ []) ≡ true
    alone_reader i operation n = rw (one_reader i operation n) refl

    alone_byob : (i : StreamId) (operation : ByteOperation) → is_same i source ≡ false → all_spare source dest (Byte i operation ∷ []) ≡ true
    alone_byob i operation n = rw (one_byob i operation n) refl

    alone_writer : (i : StreamId) (operation : WritableOperation) → is_same i dest ≡ false → all_spare source dest (OnWritable i operation ∷ []) ≡ true
    alone_writer i operation n = rw (one_writer i operation n) refl

    aborts : (reason : Plain) (i : StreamId) (p : Option PromiseId) → is_same i dest ≡ false → Spares (abort_unless reason i s p)
    aborts reason i None n = alone_writer i (write.Abort reason (next_id s.promises)) n
    aborts reason i (Some p) n = refl

    leaves : (i : StreamId) → is_same i source ≡ false → let kept : Bool = readable.is_readable (source_at i s).state in all_spare source dest (lock_calls.reject_renewed s.promises kept ++ OnReadable i ReleaseReader ∷ []) ≡ true
    leaves i n =
        let kept : Bool = readable.is_readable (source_at i s).state in
        spares-append (lock_calls.reject_renewed s.promises kept) (OnReadable i ReleaseReader ∷ []) (renewed-spares s.promises kept) (alone_reader i ReleaseReader n)

    releases : (l : LockId) (lock : Option Lock) → lock_at l s ≡ lock → Spares (lock_calls.release l s lock)
    releases l None e = refl
    releases l (Some (Reader (Some i) closed)) e =
        there_source i (lock_calls.release_reader (Reader None) l closed i) (leaves i (read_apart l i closed (is_same i source) refl e))
    releases l (Some (Reader None closed)) e = refl
    releases l (Some (ByobReader (Some i) closed)) e =
        there_source i (lock_calls.release_reader (ByobReader None) l closed i) (leaves i (byob_apart l i closed (is_same i source) refl e))
    releases l (Some (ByobReader None closed)) e = refl
    releases l (Some (WriterLock i)) e = by (writable_at i s).writer refl
      where
        by : (w : Option Writer) → (writable_at i s).writer ≡ w → Spares (lock_calls.of_writer (lock_calls.release_writer l i) s w)
        by None has = refl
        by (Some w) has =
            let ready : Bool = is_pending_at w.ready s.promises in
            let t : Table = lock_calls.with_renewed s.promises ready in
            let closed : Bool = is_pending_at w.closed t in
            spares-append (lock_calls.reject_renewed s.promises ready) (lock_calls.reject_renewed t closed ++ OnWritable i ReleaseWriter ∷ []) (renewed-spares s.promises ready)
            (spares-append (lock_calls.reject_renewed t closed) (OnWritable i ReleaseWriter ∷ []) (renewed-spares t closed)
            (alone_writer i ReleaseWriter (write_apart l i (writes_there (slice_get s.streams i.0) w has) e)))
    releases l (Some (ReleasedWriter w)) e = refl
    releases l (Some Inner) e = refl

    pipes_to : (from to : StreamId) (prevent : Prevent) (signal : Option SignalId) → is_same from source ≡ false → is_same to dest ≡ false → Spares (pipe_calls.pipe_to from to prevent signal s)
    pipes_to from to prevent signal n m =
        let last = begins-spares (record { 0 = length s.pipes }) (next_id s.promises) (next_id (fresh (fresh s.promises))) signal (pipe_calls.reason_of signal s) in
        rw (n, m, last) refl

    pipes : (from to : StreamId) (prevent : Prevent) (signal : Option SignalId) → Spares (pipe_calls.pipe_call from to prevent signal s)
    pipes from to prevent signal =
        there_source from (for_writable to (for_signal_where signal (pipe_unlocked from to prevent signal)))
        (there_writable to (for_signal_where signal (pipe_unlocked from to prevent signal)) (by signal))
      where
        unlocked : has_writable to s ≡ true → Spares (pipe_unlocked from to prevent signal s)
        unlocked there =
            either Spares (is_some (source_at from s).reader) _ _ (λ e. refl)
            (λ e. either Spares (is_some (writable_at to s).writer) _ _ (λ f. refl)
            (λ f. pipes_to from to prevent signal (free_source from (is_same from source) refl e) (free_dest to there f)))

        by : (where_signal : Option SignalId) → has_writable to s ≡ true → Spares (for_signal_where where_signal (pipe_unlocked from to prevent signal) s)
        by None there = unlocked there
        by (Some a) there = either Spares (has_signal a s) _ _ (λ e. unlocked there) (λ e. refl)

    -- a new stream isn't the source, which is there
    new_source : (same : Bool) → same ≡ is_same (record { 0 = length s.streams }) source → is_same (record { 0 = length s.streams }) source ≡ false
    new_source false n = sym n
    new_source true n =
        let j : StreamId = record { 0 = length s.streams } in
        let none : is_locked Reading source s ≡ false = rw (← same_id j source (sym n), no_stream j s.streams refl) refl in
        false_true (is_locked Reading source s) source_locked none

    opens : (side : PortSide) → all_spare source dest (pipe_calls.start_end (record { 0 = length s.streams }) side ∷ []) ≡ true
    opens ReadableSide = refl
    opens WritableSide = refl

    sends_readable : (i : StreamId) → is_same i source ≡ false → nat_lt (length s.streams) most_streams ≡ true → Spares (pipe_calls.send_readable i (record { 0 = length s.streams }) s)
    sends_readable i n room =
        let m = new_dest room in
        let last = begins-spares (record { 0 = length s.pipes }) (next_id (fresh s.promises)) (next_id (fresh (fresh (fresh s.promises)))) None None in
        rw (n, m, last) refl

    sends_writable : (i : StreamId) → is_same i dest ≡ false → Spares (pipe_calls.send_writable i (record { 0 = length s.streams }) s)
    sends_writable i m =
        let n = new_source (is_same (record { 0 = length s.streams }) source) refl in
        let last = begins-spares (record { 0 = length s.pipes }) (next_id s.promises) (next_id (fresh (fresh s.promises))) None None in
        rw (n, m, last) refl

    sends : (i : StreamId) → Spares (pipe_calls.send i s)
    sends i =
        either Spares (has_source i s) _ _
        (λ h. free_readable i replying.throws_data_clone (λ from. making_calls.make_stream (pipe_calls.send_readable from)) refl
        (λ n. either Spares (nat_lt (length s.streams) most_streams) _ _ (λ room. sends_readable i n room) (λ e. refl)))
        (λ h. free_writable i replying.throws_data_clone (λ to. making_calls.make_stream (pipe_calls.send_writable to)) refl
        (λ n. either Spares (nat_lt (length s.streams) most_streams) _ _ (λ room. sends_writable i n) (λ e. refl)))

    reads_into : (l : LockId) (room : List ℕ) (element least : ℕ) → Spares (lock_calls.read_into_by room element least s (lock_at l s))
    reads_into l room element least =
        let f : Fault = lock_calls.least_fault (length room) least in
        either Spares (not (lock_calls.is_view (length room) element)) (replying.unsupported s) _ (λ h. refl)
        (λ h. either Spares (not (lock_calls.has_least (length room) element least)) (lock_calls.refuse_least f s (lock_at l s)) (by_byob_reader (lock_calls.read_into room element least) replying.rejected s (lock_at l s))
        (λ g. with_byob (λ i. replying.rejected_with f) (replying.rejected_with f) l (lock_at l s) refl (λ i n. refl) refl)
        (λ g. with_byob (lock_calls.read_into room element least) replying.rejected l (lock_at l s) refl (λ i n. alone_byob i (PullInto room element (least * element) (Promise (next_id s.promises))) n) refl))

    -- calls that have to do with no lock
    abbrev IsApart : Call → Type 0
    IsApart (GetReader i) = ⊥
    IsApart (GetByob i) = ⊥
    IsApart (GetWriter i) = ⊥
    IsApart (Cancel i reason) = ⊥
    IsApart (CancelBy l reason) = ⊥
    IsApart (Read l) = ⊥
    IsApart (ReadInto l room element least) = ⊥
    IsApart (Write l v) = ⊥
    IsApart (Close i) = ⊥
    IsApart (CloseBy l) = ⊥
    IsApart (Abort i reason) = ⊥
    IsApart (AbortBy l reason) = ⊥
    IsApart (Release l) = ⊥
    IsApart (Pipe from to prevent signal) = ⊥
    IsApart (Send i) = ⊥
    IsApart (Open side) = ⊥
    IsApart _ = Unit {0}

    apart : (c : Call) → IsApart c → Spares (begin c s)
    unfolding begin
    apart (GetReader i) a = absurd a
    apart c a = grind (arith, a)

    pub each_call : (c : Call) → Spares (begin c s)
    unfolding begin
    each_call (GetReader i) = free_readable i replying.throws_type_error making_calls.get_reader refl (λ n. alone_reader i (InitializeReader (next_id s.promises)) n)
    each_call (GetByob i) =
        free_readable i replying.throws_type_error making_calls.get_byob_of refl
        (λ n. either Spares (has_byte i s) (making_calls.get_byob i s) (replying.throws_type_error s) (λ h. alone_byob i (InitializeByobReader (next_id s.promises)) n) (λ h. refl))
    each_call (GetWriter i) = free_writable i replying.throws_type_error making_calls.get_writer refl (λ n. alone_writer i (write.SetUpWriter (record { ready = next_id s.promises; closed = next_id (fresh s.promises) })) n)
    each_call (Cancel i reason) = free_readable i replying.rejected (lock_calls.cancel reason) refl (λ n. alone_reader i (CancelStream reason (next_id s.promises)) n)
    each_call (CancelBy l reason) = with_reader (lock_calls.cancel reason) replying.rejected l (lock_at l s) refl (λ i n. alone_reader i (CancelStream reason (next_id s.promises)) n) refl
    each_call (ReadInto l room element least) = reads_into l room element least
    each_call (Read l) = with_default lock_calls.read replying.rejected l (lock_at l s) refl (λ i n. alone_reader i (ReadChunk (Promise (next_id s.promises))) n) refl
    each_call (Write l v) = with_writer (lock_calls.write v) replying.rejected l (lock_at l s) refl (λ i n. alone_writer i (write.Write v (next_id s.promises)) n) refl
    each_call (Close i) = free_writable i replying.rejected lock_calls.close refl (λ n. alone_writer i (write.Close (next_id s.promises)) n)
    each_call (CloseBy l) = with_writer lock_calls.close replying.rejected l (lock_at l s) refl (λ i n. alone_writer i (write.Close (next_id s.promises)) n) refl
    each_call (Abort i reason) = free_writable i replying.rejected (lock_calls.abort reason) refl (λ n. aborts reason i (writable.answered_abort (writable_at i s)) n)
    each_call (AbortBy l reason) = with_writer (lock_calls.abort reason) replying.rejected l (lock_at l s) refl (λ i n. aborts reason i (writable.answered_abort (writable_at i s)) n) refl
    each_call (Release l) = releases l (lock_at l s) refl
    each_call (Pipe from to prevent signal) = pipes from to prevent signal
    each_call (Send i) = sends i
    each_call (Open side) = either Spares (nat_lt (length s.streams) most_streams) _ _ (λ e. opens side) (λ e. refl)
    each_call c = apart c tt

-- of a pipe that isn't over

free_dest : (dest : StreamId) (s : Slots) → is_locked Writing dest s ≡ true → (i : StreamId) (same : Bool) → same ≡ is_same i dest → is_some (writable_at i s).writer ≡ false → is_same i dest ≡ false
free_dest dest s locked i false n e = sym n
free_dest dest s locked i true n e =
    let free : is_some (writable_at dest s).writer ≡ false = rw (← same_id i dest (sym n)) e in
    false_true (is_locked Writing dest s) locked (locked_writer (slice_get s.streams dest.0) free)

new_dest : (dest : StreamId) (s : Slots) → is_locked Writing dest s ≡ true → (same : Bool) → same ≡ is_same (record { 0 = length s.streams }) dest → is_same (record { 0 = length s.streams }) dest ≡ false
new_dest dest s locked false n = sym n
new_dest dest s locked true n =
    let j : StreamId = record { 0 = length s.streams } in
    let none : is_locked Writing dest s ≡ false = rw (← same_id j dest (sym n), no_stream j s.streams refl) refl in
    false_true (is_locked Writing dest s) locked none

write_apart : (dest : StreamId) (s : Slots) → ((l : LockId) → lock_at l s ≢ Some (WriterLock dest)) → (l : LockId) (i : StreamId) (same : Bool) → same ≡ is_same i dest → lock_at l s ≡ Some (WriterLock i) → is_same i dest ≡ false
write_apart dest s no_writer l i false n e = sym n
write_apart dest s no_writer l i true n e = absurd (no_writer l (e ∙ ap (λ (j : StreamId). Some (WriterLock j)) (same_id i dest (sym n))))

holds-own : (d : Side) (x : pipe.Slots) → is_over x.phase ≡ false → one_if (holds d (end_of d x) x) ≡ 1
holds-own d x e = let self = is_same-refl (end_of d x) in rw (e, self) refl

locked_one : (locked : Bool) (m n : ℕ) → 1 ≤ n → one_if locked ≡ m + n → (locked ≡ true) × (m ≡ 0)
locked_one true m n few e = (refl, omega (arith, few, e))
locked_one false m n few e = absurd (omega (arith, few, e))

end-owned : (entries : List Entry) (d : Side) (p : PipeId) (x : pipe.Slots) → let s : Slots = run entries empty in slice_get s.pipes p.0 ≡ Some x → is_over x.phase ≡ false
    → (is_locked d (end_of d x) s ≡ true) × (in_locks d (end_of d x) s.locks ≡ 0)
end-owned entries d p x e over =
    let s : Slots = run entries empty in
    let one = holds-own d x over in
    let few = pipes-there d (end_of d x) p.0 s.pipes x e in
    let even = ((run-locked entries).each d (end_of d x)).even in
    locked_one (is_locked d (end_of d x) s) (in_locks d (end_of d x) s.locks) (in_pipes d (end_of d x) s.pipes + in_tees d (end_of d x) s.tees) (omega (arith, one, few)) (omega (arith, even))

owned : (entries : List Entry) (p : PipeId) (x : pipe.Slots) → let s : Slots = run entries empty in slice_get s.pipes p.0 ≡ Some x → is_over x.phase ≡ false → Owns s x
owned entries p x e over =
    let s : Slots = run entries empty in
    let source = end-owned entries Reading p x e over in
    let dest = end-owned entries Writing p x e over in
    let no_reader : (l : LockId) (closed : PromiseId) → lock_at l s ≢ Some (Reader (Some x.source) closed) =
    λ l closed f. let n = locks-there Reading x.source l.0 s.locks (Reader (Some x.source) closed) f in let self = ap one_if (is_same-refl x.source) in let none = source.1 in omega (arith, n, self, none) in
    let no_byob_reader : (l : LockId) (closed : PromiseId) → lock_at l s ≢ Some (ByobReader (Some x.source) closed) =
    λ l closed f. let n = locks-there Reading x.source l.0 s.locks (ByobReader (Some x.source) closed) f in let self = ap one_if (is_same-refl x.source) in let none = source.1 in omega (arith, n, self, none) in
    let no_writer : (l : LockId) → lock_at l s ≢ Some (WriterLock x.dest) =
    λ l f. let n = locks-there Writing x.dest l.0 s.locks (WriterLock x.dest) f in let self = ap one_if (is_same-refl x.dest) in let none = dest.1 in omega (arith, n, self, none) in
    record {
      locked = λ d. (end-owned entries d p x e over).0;
      no_reader = no_reader;
      no_byob_reader = no_byob_reader;
      no_writer = no_writer;
      calls = each_call x.source x.dest s source.0 no_reader no_byob_reader
          (λ i there e. free_dest x.dest s dest.0 i (is_same i x.dest) refl e) (λ l i there e. write_apart x.dest s no_writer l i (is_same i x.dest) refl e)
          (λ room. new_dest x.dest s dest.0 (is_same (record { 0 = length s.streams }) x.dest) refl);
    }

pub each_pipe_owns_its_ends : EachPipeOwnsItsEnds
each_pipe_owns_its_ends entries p = by (slice_get (run entries empty).pipes p.0) refl
  where
    by : (o : Option pipe.Slots) → slice_get (run entries empty).pipes p.0 ≡ o → is_over (as_pipe o).phase ≡ false → Owns (run entries empty) (as_pipe o)
    by None e over = cc
    by (Some x) e over = owned entries p x e over

-- and of two

both : (entries : List Entry) (p q : PipeId) (d : Side) (x y : pipe.Slots) → let s : Slots = run entries empty in slice_get s.pipes p.0 ≡ Some x → slice_get s.pipes q.0 ≡ Some y → p ≢ q → is_over x.phase ≡ false → is_over y.phase ≡ false
    → end_of d x ≢ end_of d y
both entries p q d x y e f n over out same =
    let s : Slots = run entries empty in
    let i : StreamId = end_of d x in
    let one = holds-own d x over in
    let other : one_if (holds d i y) ≡ 1 = rw same (holds-own d y out) in
    let two = pipes-two d i p.0 q.0 s.pipes x y (λ m. n (ap (λ (k : ℕ). record { 0 = k }) m)) e f in
    let locks = (end-owned entries d p x e over).1 in
    let k = (run-locked entries).each d i in
    let even = k.even in
    let most = one_most (is_locked d i s) in
    absurd (omega (arith, one, other, two, even, most))
  where
    one_most : (b : Bool) → one_if b ≤ 1
    one_most true = omega arith
    one_most false = omega arith

pub no_two_pipes_share_an_end : NoTwoPipesShareAnEnd
no_two_pipes_share_an_end entries p q n = by (slice_get (run entries empty).pipes p.0) (slice_get (run entries empty).pipes q.0) refl refl
  where
    by : (o r : Option pipe.Slots) → slice_get (run entries empty).pipes p.0 ≡ o → slice_get (run entries empty).pipes q.0 ≡ r → is_over (as_pipe o).phase ≡ false → is_over (as_pipe r).phase ≡ false
        → (d : Side) → end_of d (as_pipe o) ≢ end_of d (as_pipe r)
    by None r e f over out d = cc
    by (Some x) None e f over out d = cc
    by (Some x) (Some y) e f over out d = both entries p q d x y e f n over out
