-- The reads that wait at streams, over every run (`each_source_is_read_by_its_pipe`, `each_reading_has_one_read`).
use Rattle.ws_steps.specs.declared.port.Side.{Side as PortSide}
use Rattle.ws_steps.specs.Slots.{Done}
use Rattle.ws_steps.specs.declared.port.Side.TheVariants.{Readable as ReadableSide, Writable as WritableSide}
use Rattle.ws_pipe_laws.proofs.locks.Begins.{source-stays}
use Rattle.ws_steps.specs.declared.effects.Owner.TheVariants.{EndOf}
use Rattle.std.proofs.Common.{◌≡◌, ◌⊎◌, inl, inr, ⊎_elim, ℕ, zero, suc, ◌+◌, ◌≤◌, Bool, true, false, nat_eq, if◌then◌else◌, is_some, List, [], ◌∷◌, ◌++◌, length, All, Option, Some, None, slice_get, refl, sym, ap, subst, arith}
use Rattle.std.specs.Prelude.{is_none}
use Rattle.std.proofs.lemmas.List.Elements.{All-nil, All-cons}
use Rattle.ws_value.specs.declared.{ids.PipeId.{PipeId}, ids.PromiseId.{PromiseId}, ids.SignalId.{SignalId}, ids.StreamId.{StreamId}, value.Plain.{Plain}}
use Rattle.ws_steps.specs.declared.byte.ByteOperation.{ByteOperation}
use Rattle.ws_steps.specs.declared.calls.{Call.{Call}, Call.TheVariants.{ReadInto}, StartBy.{StartBy}, StartBy.TheVariants.{Now, Later}}
use Rattle.ws_steps.specs.declared.effects.Effect.{Effect}
use Rattle.ws_steps.specs.declared.effects.Effect.TheVariants.{Readable as OnReadable, Byte, Writable as OnWritable, Pipe as OnPipe, Tee as OnTee}
use Rattle.ws_steps.specs.declared.{effects.Owner.TheVariants.{Host, HalfOf, BranchOf}, locks.Lock.TheVariants.{Reader, ByobReader}, promises.Job.{Job}, pipes.PipeOperation.{PipeOperation}, pipes.Prevent.{Prevent}}
use Rattle.ws_steps.specs.declared.readable.{ReadRequest.{ReadRequest}, ReadRequest.TheVariants.{Promise, Pipe as PipeRequest, Tee as TeeRequest}, ReadableOperation.{ReadableOperation}, ReadableOperation.TheVariants.{ReleaseReader}}
use Rattle.ws_steps.specs.declared.{readable.SizeBy.TheVariants.{Count}, transform.TransformId.{TransformId}}
use Rattle.ws_steps.specs.declared.writable.WritableOperation.TheVariants.{ReleaseWriter}
use Rattle.ws_steps.specs.ByteLaws.{EachByteStreamIsMeant}
use Rattle.ws_steps.specs.MakingCalls as making_calls
use Rattle.ws_steps.specs.LockCalls as lock_calls
use Rattle.ws_steps.specs.PipeCalls as pipe_calls
use Rattle.ws_steps.specs.Begun.{Begun}
use Rattle.ws_steps.specs.Calls.{begin}
use Rattle.ws_steps.specs.Histories.{is_same}
use Rattle.ws_steps.specs.Jobs.{job_effects}
use Rattle.ws_steps.specs.Operations.{pipe_operation}
use Rattle.ws_steps.specs.Pipes as pipe
use Rattle.ws_steps.specs.Promises.{Table, next_id, fresh, is_pending_at, after_next_job}
use Rattle.ws_steps.specs.Readable as readable
use Rattle.ws_steps.specs.Run.{Entry, run, after_event}
use Rattle.ws_steps.specs.Slots.{Slots, Stream, ReadableStream, ByteStream, WritableStream, empty, with_promises, ends_at, source_at, as_byte, as_source, as_pipe}
use Rattle.ws_steps.specs.Turns.{row}
use Rattle.ws_steps.specs.Writable as writable
use Rattle.ws_laws.proofs.Begin.{begin-makes}
use Rattle.ws_laws.proofs.EachCall.{each_call}
use Rattle.ws_laws.proofs.Lists.{Each, each-append}
use Rattle.ws_laws.proofs.Tables.{is_same-refl, same_id, eq_numbers, unequal_numbers, place_last, place_before}
use Rattle.ws_laws.proofs.Walker.{Stays, run-stays}
use Rattle.ws_writable_laws.proofs.Shape.{all, all-append}
use Rattle.ws_promise_laws.proofs.Acting.{EachWaits, waits-heard}
use Rattle.ws_pipe_laws.specs.pipes.PipeHistory.{is_over}
use Rattle.ws_pipe_laws.specs.pipes.PipeMoves.{starting}
use Rattle.ws_pipe_laws.specs.pipes.PipeReads.{held_values, one_if, in_stream, in_streams}
use Rattle.ws_pipe_laws.proofs.pipes.Reading.{of_effect, no_answer}
use Rattle.ws_pipe_laws.specs.locks.Locks.{Reading, holds, is_locked}
use Rattle.ws_pipe_laws.specs.locks.LockLaws.{EachSourceIsReadByItsPipe, EachReadingHasOneRead}
use Rattle.ws_pipe_laws.proofs.locks.Agenda.{goes}
use Rattle.ws_pipe_laws.proofs.locks.Asking.{requests_at, any, other, Queued, ReadsFirst, Asks, none-first, none-asks, EachQueued, row-queued, pipe-asks, other-silent, tee-asks, asks-meant, holds_before}
use Rattle.ws_pipe_laws.proofs.locks.CallEffects.{job-calm, no_takes}
use Rattle.ws_pipe_laws.proofs.locks.Begins.{free_reader}
use Rattle.ws_pipe_laws.proofs.locks.IntoAsks.{reader-asks, into-asks}
use Rattle.ws_pipe_laws.proofs.locks.KindBegins.{call-kind}
use Rattle.ws_pipe_laws.proofs.locks.PipeReads.{IsNoRead}
use Rattle.ws_pipe_laws.proofs.locks.Piping.{operation-goes}
use Rattle.ws_pipe_laws.proofs.locks.ReaderKinds.{OfKind, KindHeld, byte_look, defaults, byobs, default_none-all, byob_none-all, row-kind}
use Rattle.ws_pipe_laws.proofs.locks.Requests.{count}
use Rattle.ws_pipe_laws.proofs.locks.Rows.{Balanced, ending_over}
use Rattle.ws_pipe_laws.proofs.locks.Runs.{Locked, locked-stays, run-locked}
use Rattle.ws_pipe_laws.proofs.locks.Underway.{Under, has_held, reads_now, Finds, finds, FindsBytes, finds-bytes, row-under}
use Rattle.ws_steps.specs.Bytes as byte
use Rattle.ws_value.specs.declared.ids.TeeId.{TeeId}
use Rattle.ws_steps.specs.declared.tee.Half.TheVariants.{First, Second}
use Rattle.ws_steps.specs.declared.effects.Owner.TheVariants.{BranchOf}

-- at each moment of a run
pub record Known (s : Slots) (es : List Effect) : Type 0 where
  pub locked : Locked s es
  pub first : ReadsFirst es
  pub asks : Asks s es
  pub queued : EachQueued s
  pub under : (p : PipeId) → Under p s es
  pub kinds : (i : StreamId) → OfKind i s es

-- each effect

before : (s : Slots) (e : Effect) (es : List Effect) → EachWaits s (e ∷ es) → (p : PipeId) (operation : PipeOperation) → e ≡ OnPipe p operation → (i : StreamId) (x : pipe.Slots) → slice_get s.pipes p.0 ≡ Some x
    → holds Reading i (pipe_operation p (ends_at x s) operation (starting x s.promises)).slots ≡ true → holds Reading i x ≡ true
before s e es w p operation is i x f h =
    let waits : EachWaits s (OnPipe p operation ∷ es) = subst (λ (z : Effect). EachWaits s (z ∷ es)) is w in
    let same = operation-goes Reading i p (ends_at x s) operation x s.promises (ending_over p operation s x es f waits) in
    holds_before (holds Reading i (pipe_operation p (ends_at x s) operation (starting x s.promises)).slots) (holds Reading i x) (all (goes Reading i) (pipe_operation p (ends_at x s) operation (starting x s.promises)).out.effects) same h

row-asks : (s : Slots) (e : Effect) (es : List Effect) → ReadsFirst (e ∷ es) → ((i : StreamId) → Balanced Reading i (row e s).slots ((row e s).caused ++ es)) → ReadsFirst ((row e s).caused ++ es) × Asks (row e s).slots ((row e s).caused ++ es)
unfolding row
row-asks s (OnPipe p operation) es first k = pipe-asks p operation s es (slice_get s.pipes p.0) refl first k
row-asks s (OnTee t operation) es first k = tee-asks t operation s es (slice_get s.tees t.0) refl first k
row-asks s e es first k = let n = other-silent s e es tt tt first in (none-first ((row e s).caused ++ es) n, none-asks (row e s).slots ((row e s).caused ++ es) n)

row-known : (s : Slots) (e : Effect) (es : List Effect) → Known s (e ∷ es) → Known (row e s).slots ((row e s).caused ++ es)
row-known s e es k =
    let locked = locked-stays.row s e es k.locked in
    let asks = row-asks s e es k.first (λ i. locked.each Reading i) in
    record {
      locked = locked;
      first = asks.0;
      asks = asks.1;
      queued = row-queued s e es k.locked.first (λ i. k.locked.each Reading i) k.asks (before s e es k.locked.waits) k.queued;
      under = λ p. row-under p s e es (λ i operation is. by p i operation is) (λ i operation is. bytes p i operation is) (k.under p);
      kinds = λ i. row-kind i s e es k.locked.first k.locked.waits (k.locked.each Reading i) (asks-meant s e es k.locked.first (k.locked.each Reading) k.kinds k.asks) (k.kinds i);
    }
  where
    by : (p : PipeId) (i : StreamId) (operation : ReadableOperation) → e ≡ OnReadable i operation → Finds p i operation s
    by p i operation is = let l : Known s (OnReadable i operation ∷ es) = subst (λ (z : Effect). Known s (z ∷ es)) is k in finds p i operation s es l.locked.first (l.locked.each Reading i) (l.kinds i) l.asks l.queued

    bytes : (p : PipeId) (i : StreamId) (operation : ByteOperation) → e ≡ Byte i operation → FindsBytes p i operation s
    bytes p i operation is = let l : Known s (Byte i operation ∷ es) = subst (λ (z : Effect). Known s (z ∷ es)) is k in finds-bytes p i operation s es (l.locked.each Reading i) l.asks l.queued

-- calls and jobs

silent : (z : Slots) (es : List Effect) → Each IsNoRead es → ReadsFirst es × Asks z es
silent z es n = (none-first es n, none-asks z es n)

renewed-silent : (t : Table) (kept : Bool) → Each IsNoRead (lock_calls.reject_renewed t kept)
renewed-silent t kept = grind arith

begins-silent : (me : PipeId) (a b : PromiseId) (signal : Option SignalId) (reason : Option Plain) → Each IsNoRead (pipe_calls.pipe_begins me a b signal reason)
begins-silent me a b signal (Some r) = (tt, tt)
begins-silent me a b None None = grind arith
begins-silent me a b (Some g) None = grind arith

start-silent : (q : PromiseId) (j : StreamId) (start : StartBy) → IsNoRead (making_calls.start_transform q j start)
start-silent q j Now = tt
start-silent q j Later = tt

job-silent : (job : Job) → Each IsNoRead (job_effects job)
job-silent job = grind arith

-- other calls than a read into a room
abbrev IsNoInto : Call → Type 0
IsNoInto (ReadInto l room element least) = ⊥
IsNoInto _ = Unit {0}

end-silent : (side : PortSide) (s : Slots) → let d : Done = (pipe_calls.open_end side (record { 0 = length s.streams }) s).done in ReadsFirst d.caused × Asks d.slots d.caused
end-silent ReadableSide s = (tt, tt)
end-silent WritableSide s = (tt, tt)

other-asks : (c : Call) (s : Slots) → IsNoInto c → ((i : StreamId) → Balanced Reading i s []) → ReadsFirst (begin c s).done.caused × Asks (begin c s).done.slots (begin c s).done.caused
other-asks c s other k = each_call (λ (b : Begun). ReadsFirst b.done.caused × Asks b.done.slots b.done.caused) c s (record {
  unchanged = λ reply. (tt, tt);
  rejected = λ fault. (tt, tt);
  make_readable = λ mark size start. (tt, tt);
  make_writable = λ mark size start. (tt, tt);
  get_byob = λ i is e. (tt, tt);
  release_byob = λ l closed i e.
      let kept : Bool = readable.is_readable (source_at i s).state in
      silent (lock_calls.release_reader (ByobReader None) l closed i s).done.slots _ (each-append IsNoRead (lock_calls.reject_renewed s.promises kept) (OnReadable i ReleaseReader ∷ []) (renewed-silent s.promises kept) (tt, tt));
  read_into = λ l i closed room element least e f. absurd (subst IsNoInto e other);
  enqueue_bytes = λ i b e is some can. (tt, tt);
  finish_bytes = λ i e is can. (tt, tt);
  make_request = λ i reply is. (tt, tt);
  respond = λ r i b e is can. (tt, ap is_none can);
  make_bytes = λ mark auto start. (tt, tt);
  get_reader = λ i e. (tt, tt);
  get_writer = λ i e. (tt, tt);
  release_reader = λ l closed i e.
      let kept : Bool = readable.is_readable (source_at i s).state in
      silent (lock_calls.release_reader (Reader None) l closed i s).done.slots _ (each-append IsNoRead (lock_calls.reject_renewed s.promises kept) (OnReadable i ReleaseReader ∷ []) (renewed-silent s.promises kept) (tt, tt));
  release_writer = λ l i w e f.
      let ready : Bool = is_pending_at w.ready s.promises in
      let t : Table = lock_calls.with_renewed s.promises ready in
      let closed : Bool = is_pending_at w.closed t in
      silent (lock_calls.release_writer l i w s).done.slots _ (each-append IsNoRead (lock_calls.reject_renewed s.promises ready) _ (renewed-silent s.promises ready)
      (each-append IsNoRead (lock_calls.reject_renewed t closed) (OnWritable i ReleaseWriter ∷ []) (renewed-silent t closed) (tt, tt)));
  cancel = λ reason i. (tt, tt);
  read = λ l i closed e f. (tt, reader-asks s l i closed (next_id s.promises) f (k i));
  write = λ l v i e. (tt, tt);
  close = λ i. (tt, tt);
  abort = λ reason i e. (tt, tt);
  make_tee = λ i e is free untied. ((tt, (tt, (tt, tt))), tt);
  make_transform = λ kind m n start. ((tt, (tt, (tt, (start-silent (next_id (fresh s.promises)) (record { 0 = length s.streams + 1 }) start, tt)))), tt);
  enqueue = λ i v e o can. (tt, tt);
  enqueue_half = λ i t v e o can. (tt, tt);
  fail_half = λ t reason. (tt, tt);
  terminate = λ t. (tt, tt);
  finish = λ i. (tt, tt);
  fail_readable = λ i reason. (tt, tt);
  fail_writable = λ i reason. (tt, tt);
  pipe = λ source dest prevent signal e f l m.
      ((tt, (tt, begins-silent (record { 0 = length s.pipes }) (next_id s.promises) (next_id (fresh (fresh s.promises))) signal (pipe_calls.reason_of signal s))), tt);
  make_signal = (tt, tt);
  open_end = λ side. end-silent side s;
  send_readable = λ source there free.
      ((tt, (tt, (tt, begins-silent (record { 0 = length s.pipes }) (next_id (fresh s.promises)) (next_id (fresh (fresh (fresh s.promises)))) None None))), tt);
  send_writable = λ dest there free.
      ((tt, (tt, (tt, begins-silent (record { 0 = length s.pipes }) (next_id s.promises) (next_id (fresh (fresh s.promises))) None None))), tt);
  deliver = λ c m asked has. (tt, tt);
  trigger = λ a reason. (tt, tt);
  settle = λ h answer q e. (tt, tt);
})

call-asks : (c : Call) (s : Slots) → ((i : StreamId) → Balanced Reading i s []) → ReadsFirst (begin c s).done.caused × Asks (begin c s).done.slots (begin c s).done.caused
call-asks (ReadInto l room element least) s k = into-asks room element least s l k
call-asks c s k = other-asks c s tt k

-- a pipe takes a source without requests

appended : (ps : List pipe.Slots) (y : pipe.Slots) (n : ℕ) → (slice_get (ps ++ y ∷ []) n ≡ slice_get ps n) ⊎ ((slice_get ps n ≡ None) × (slice_get (ps ++ y ∷ []) n ≡ Some y))
appended [] y zero = inr (refl, refl)
appended [] y (suc n) = inl refl
appended (x ∷ ps) y zero = inl refl
appended (x ∷ ps) y (suc n) = appended ps y n

other_few : (p : PipeId) (rs : List ReadRequest) → count (other p) rs ≤ count any rs
other_few p [] = omega arith
other_few p (r ∷ rs) = let n = one r in let rest = other_few p rs in omega (arith, n, rest)
  where
    one : (r : ReadRequest) → other p r ≤ 1
    one r = grind arith

pipe-made : (i : StreamId) (source dest : StreamId) (prevent : Prevent) (signal : Option SignalId) (promise : PromiseId) (s : Slots) → is_some (source_at source s).reader ≡ false → Queued i (slice_get s.streams i.0) s.pipes
    → Queued i (slice_get s.streams i.0) (s.pipes ++ pipe.set_up source dest prevent signal promise ∷ [])
pipe-made i source dest prevent signal promise s free k = record { free = k.free; own = λ p h. by p h (appended s.pipes y p.0) }
  where
    y : pipe.Slots
    y = pipe.set_up source dest prevent signal promise

    by : (p : PipeId) → holds Reading i (as_pipe (slice_get (s.pipes ++ y ∷ []) p.0)) ≡ true
        → (slice_get (s.pipes ++ y ∷ []) p.0 ≡ slice_get s.pipes p.0) ⊎ ((slice_get s.pipes p.0 ≡ None) × (slice_get (s.pipes ++ y ∷ []) p.0 ≡ Some y)) → count (other p) (requests_at (slice_get s.streams i.0)) ≤ 0
    by p h (inl e) = k.own p (rw e at h)
    by p h (inr e) =
        let same : is_same i source ≡ true = rw e.1 at h in
        let f : is_locked Reading i s ≡ false = rw (same_id i source same) (free_reader (slice_get s.streams source.0) free).0 in
        let none = k.free f in
        let few = other_few p (requests_at (slice_get s.streams i.0)) in
        omega (arith, none, few)

-- a new stream has none
stream-made : (i : StreamId) (x : Stream) (s : Slots) → requests_at (Some x) ≡ [] → Queued i (slice_get s.streams i.0) s.pipes → Queued i (slice_get (s.streams ++ x ∷ []) i.0) s.pipes
stream-made i x s none k = by (nat_eq i.0 (length s.streams)) refl
  where
    by : (here : Bool) → here ≡ nat_eq i.0 (length s.streams) → Queued i (slice_get (s.streams ++ x ∷ []) i.0) s.pipes
    by false n = rw (place_before s.streams x i.0 (unequal_numbers i.0 (length s.streams) (sym n))) k
    by true e =
        let now : slice_get (s.streams ++ x ∷ []) i.0 ≡ Some x = rw (eq_numbers i.0 (length s.streams) (sym e)) (place_last s.streams x) in
        rw (now) (record { free = λ f. rw none (omega arith); own = λ p h. rw none (omega arith) })

port-queued : (i : StreamId) (side : PortSide) (s : Slots) → Queued i (slice_get s.streams i.0) s.pipes
    → let z : Slots = pipe_calls.add_port (record { 0 = length s.streams }) s side in Queued i (slice_get z.streams i.0) z.pipes
port-queued i ReadableSide s k = stream-made i (ReadableStream (readable.set_up (EndOf (record { 0 = length s.ports })) 0 Count)) s refl k
port-queued i WritableSide s k = stream-made i (WritableStream (writable.set_up (EndOf (record { 0 = length s.ports })) 1 Count)) s refl k

call-queued : (c : Call) (s : Slots) → EachQueued s → EachQueued (begin c s).done.slots
call-queued c s k = each_call (λ (b : Begun). EachQueued b.done.slots) c s (record {
  unchanged = λ reply. k;
  rejected = λ fault. k;
  make_readable = λ mark size start i. stream-made i (ReadableStream (readable.set_up Host mark size)) s refl (k i);
  make_writable = λ mark size start i. stream-made i (WritableStream (writable.set_up Host mark size)) s refl (k i);
  get_byob = λ i is e. k;
  release_byob = λ l closed i e. k;
  read_into = λ l i closed room element least e f. k;
  enqueue_bytes = λ i b e is some can. k;
  finish_bytes = λ i e is can. k;
  make_request = λ i reply is. k;
  respond = λ r i b e is can. k;
  make_bytes = λ mark auto start i. stream-made i (ByteStream (byte.set_up mark auto)) s refl (k i);
  get_reader = λ i e. k;
  get_writer = λ i e. k;
  release_reader = λ l closed i e. k;
  release_writer = λ l i w e f. k;
  cancel = λ reason i. k;
  read = λ l i closed e f. k;
  write = λ l v i e. k;
  close = λ i. k;
  abort = λ reason i e. k;
  make_tee = λ j e is free untied i.
      let me : TeeId = record { 0 = length s.tees } in
      let x : Stream = ReadableStream (readable.set_up (BranchOf me First) 1 Count) in
      let y : Stream = ReadableStream (readable.set_up (BranchOf me Second) 1 Count) in
      stream-made i y (making_calls.add_stream x s) refl (stream-made i x s refl (k i));
  make_transform = λ kind m n start i.
      let me : TransformId = record { 0 = length s.transforms } in
      let w : Stream = WritableStream (writable.set_up (HalfOf me) m Count) in
      stream-made i (ReadableStream (readable.set_up (HalfOf me) n Count)) (making_calls.add_stream w s) refl (stream-made i w s refl (k i));
  enqueue = λ i v e o can. k;
  enqueue_half = λ i t v e o can. k;
  fail_half = λ t reason. k;
  terminate = λ t. k;
  finish = λ i. k;
  fail_readable = λ i reason. k;
  fail_writable = λ i reason. k;
  pipe = λ source dest prevent signal e f free m i. pipe-made i source dest prevent signal (next_id (fresh (fresh (fresh s.promises)))) s free (k i);
  make_signal = k;
  open_end = λ side i. port-queued i side s (k i);
  send_readable = λ source there free i.
      let w : Stream = WritableStream (writable.set_up (EndOf (record { 0 = length s.ports })) 1 Count) in
      let z : Slots = pipe_calls.add_port (record { 0 = length s.streams }) s WritableSide in
      let here : slice_get z.streams source.0 ≡ slice_get s.streams source.0 = source-stays (slice_get s.streams source.0) s.streams w source.0 refl there in
      pipe-made i source (record { 0 = length s.streams }) pipe_calls.no_prevent None (next_id (fresh (fresh (fresh z.promises)))) z (rw here free) (port-queued i WritableSide s (k i));
  send_writable = λ dest there free i.
      let j : StreamId = record { 0 = length s.streams } in
      let r : Stream = ReadableStream (readable.set_up (EndOf (record { 0 = length s.ports })) 0 Count) in
      let z : Slots = pipe_calls.add_port j s ReadableSide in
      let new : slice_get z.streams j.0 ≡ Some r = place_last s.streams r in
      pipe-made i j dest pipe_calls.no_prevent None (next_id (fresh (fresh (fresh z.promises)))) z (rw new refl) (port-queued i ReadableSide s (k i));
  deliver = λ c m asked has. k;
  trigger = λ a reason. k;
  settle = λ h answer q e. k;
})

-- and no read of a pipe is under way by a call

streams-append : (p : PipeId) (xs : List Stream) (x : Stream) → in_stream p x ≡ 0 → in_streams p (xs ++ x ∷ []) ≡ in_streams p xs
streams-append p [] x e = omega (arith, e)
streams-append p (z ∷ zs) x e = let h = streams-append p zs x e in omega (arith, h)

module _ (p : PipeId) where
  renewed-none : (t : Table) (kept : Bool) (es : List Effect) → all (of_effect p) es ≡ 0 → all (of_effect p) (lock_calls.reject_renewed t kept ++ es) ≡ 0
  renewed-none t true es n = n
  renewed-none t false es n = omega (arith, n)

  begins-none : (me : PipeId) (a b : PromiseId) (signal : Option SignalId) (reason : Option Plain) → all (of_effect p) (pipe_calls.pipe_begins me a b signal reason) ≡ 0
  begins-none me a b signal (Some r) = let n = no_answer (nat_eq p.0 me.0) in omega (arith, n)
  begins-none me a b None None = refl
  begins-none me a b (Some g) None = refl

  start-none : (q : PromiseId) (j : StreamId) (start : StartBy) → all (of_effect p) (making_calls.start_transform q j start ∷ []) ≡ 0
  start-none q j Now = refl
  start-none q j Later = refl

  end-none : (side : PortSide) (j : StreamId) → all (of_effect p) (pipe_calls.start_end j side ∷ []) ≡ 0
  end-none ReadableSide j = refl
  end-none WritableSide j = refl

  call-none : (c : Call) (s : Slots) → all (of_effect p) (begin c s).done.caused ≡ 0
  call-none c s = each_call (λ (b : Begun). all (of_effect p) b.done.caused ≡ 0) c s (record {
    unchanged = λ reply. refl;
    rejected = λ fault. refl;
    make_readable = λ mark size start. refl;
    make_writable = λ mark size start. refl;
    get_byob = λ i is e. refl;
    release_byob = λ l closed i e. renewed-none s.promises (readable.is_readable (source_at i s).state) _ refl;
    read_into = λ l i closed room element least e f. refl;
    enqueue_bytes = λ i b e is some can. refl;
    finish_bytes = λ i e is can. refl;
    make_request = λ i reply is. refl;
    respond = λ r i b e is can. refl;
    make_bytes = λ mark auto start. refl;
    get_reader = λ i e. refl;
    get_writer = λ i e. refl;
    release_reader = λ l closed i e. renewed-none s.promises (readable.is_readable (source_at i s).state) _ refl;
    release_writer = λ l i w e f.
        let ready : Bool = is_pending_at w.ready s.promises in
        let t : Table = lock_calls.with_renewed s.promises ready in
        renewed-none s.promises ready _ (renewed-none t (is_pending_at w.closed t) (OnWritable i ReleaseWriter ∷ []) refl);
    cancel = λ reason i. refl;
    read = λ l i closed e f. refl;
    write = λ l v i e. refl;
    close = λ i. refl;
    abort = λ reason i e. refl;
    make_tee = λ i e is free untied. refl;
    make_transform = λ kind m n start. let k = start-none (next_id (fresh s.promises)) (record { 0 = length s.streams + 1 }) start in omega (arith, k);
    enqueue = λ i v e o can. refl;
    enqueue_half = λ i t v e o can. refl;
    fail_half = λ t reason. refl;
    terminate = λ t. refl;
    finish = λ i. refl;
    fail_readable = λ i reason. refl;
    fail_writable = λ i reason. refl;
    pipe = λ source dest prevent signal e f l m.
        let n = begins-none (record { 0 = length s.pipes }) (next_id s.promises) (next_id (fresh (fresh s.promises))) signal (pipe_calls.reason_of signal s) in
        omega (arith, n);
    make_signal = refl;
    open_end = λ side. end-none side _;
    send_readable = λ source there free.
        let n = begins-none (record { 0 = length s.pipes }) (next_id (fresh s.promises)) (next_id (fresh (fresh (fresh s.promises)))) None None in omega (arith, n);
    send_writable = λ dest there free.
        let n = begins-none (record { 0 = length s.pipes }) (next_id s.promises) (next_id (fresh (fresh s.promises))) None None in omega (arith, n);
    deliver = λ c m asked has. refl;
    trigger = λ a reason. refl;
    settle = λ h answer q e. refl;
  })

  pipe-under : (s : Slots) (source dest : StreamId) (prevent : Prevent) (signal : Option SignalId) (promise : PromiseId) → Under p s [] → Under p (record s { pipes = s.pipes ++ pipe.set_up source dest prevent signal promise ∷ [] }) []
  pipe-under s source dest prevent signal promise k =
      let y : pipe.Slots = pipe.set_up source dest prevent signal promise in
      ⊎_elim (λ (e : slice_get (s.pipes ++ y ∷ []) p.0 ≡ slice_get s.pipes p.0). rw e k)
      (λ (e : (slice_get s.pipes p.0 ≡ None) × (slice_get (s.pipes ++ y ∷ []) p.0 ≡ Some y)).
      let none : in_streams p s.streams + 0 + 0 ≡ 0 = rw e.0 at k in
      rw e.1 (omega (arith, none)))
      (appended s.pipes y p.0)

  stream-under : (s : Slots) (x : Stream) → in_stream p x ≡ 0 → Under p s [] → Under p (record s { streams = s.streams ++ x ∷ [] }) []
  stream-under s x n k = let m = streams-append p s.streams x n in omega (arith, k, m)

  job-none : (job : Job) → all (of_effect p) (job_effects job) ≡ 0
  job-none job = grind (arith, all-append, no_answer)

  call-under : (s : Slots) (c : Call) → Under p s [] → Under p (begin c s).done.slots (begin c s).done.caused
  call-under s c k =
      let m = begin-makes (λ z. Under p z []) (record {
        promise = λ z k. k;
        locks = λ z ls k. k;
        hosts = λ z hs k. k;
        pipe = λ z source dest prevent signal promise k. pipe-under z source dest prevent signal promise k;
        signal = λ z k. k;
        transform = λ z kind i j change k. k;
        tee = λ z source first second cancel k. k;
        port = λ z side stream backpressure k. k;
        bytes = λ z mark auto k. stream-under z _ refl k;
        byob_requests = λ z hs k. k;
        readable = λ z owner mark size k. stream-under z _ refl k;
        writable = λ z owner mark size k. stream-under z _ refl k;
      }) c s k in
      let n = call-none c s in
      omega (arith, m, n)

job-kind : (i : StreamId) (job : Job) (s : Slots) (t : Table) → OfKind i s [] → OfKind i (with_promises t s) (job_effects job)
job-kind i job s t k =
    let none = no_takes (job_effects job) (job-calm job) in
    let d = default_none-all i (job_effects job) none in
    let b = byob_none-all i (job_effects job) none in
    record { default_taken = omega (arith, d); byob_taken = omega (arith, b); kind = k.kind }

same-kind : (i : StreamId) (s z : Slots) → z.locks ≡ s.locks → z.pipes ≡ s.pipes → z.tees ≡ s.tees → z.streams ≡ s.streams → OfKind i s [] → OfKind i z []
same-kind i s z locks pipes tees streams k = rw (locks, pipes, tees, streams) (record { default_taken = k.default_taken; byob_taken = k.byob_taken; kind = k.kind })

pub known-stays : Stays Known
known-stays = record {
  row = row-known;
  call = λ s c k.
      let asks = call-asks c s (λ i. k.locked.each Reading i) in
      record { locked = locked-stays.call s c k.locked; first = asks.0; asks = asks.1; queued = call-queued c s k.queued; under = λ p. call-under p s c (k.under p); kinds = λ i. call-kind i c s (k.kinds i) };
  job = λ s job e k.
      let asks = silent (with_promises (after_next_job s.promises) s) (job_effects job) (job-silent job) in
      record {
        locked = locked-stays.job s job e k.locked;
        first = asks.0;
        asks = asks.1;
        queued = k.queued;
        under = λ p. let w = k.under p in let n = job-none p job in omega (arith, w, n);
        kinds = λ i. job-kind i job s (after_next_job s.promises) (k.kinds i);
      };
  answered = λ s p k. record { locked = locked-stays.answered s p k.locked; first = tt; asks = tt; queued = k.queued; under = k.under; kinds = λ i. same-kind i s _ refl refl refl refl (k.kinds i) };
  older = λ s k. record { locked = locked-stays.older s k.locked; first = tt; asks = tt; queued = k.queued; under = k.under; kinds = λ i. same-kind i s _ refl refl refl refl (k.kinds i) };
}

pub known-heard : (s : Slots) → Known s [] → Known (after_event s) []
known-heard s k = record {
  locked = record { first = tt; each = λ d i. let b = k.locked.each d i in record { even = b.even; few = b.few }; waits = waits-heard s k.locked.waits; told = tt };
  first = tt;
  asks = tt;
  queued = k.queued;
  under = k.under;
  kinds = λ i. same-kind i s _ refl refl refl refl (k.kinds i);
}

pub known-empty : Known empty []
known-empty =
    record { locked = run-locked []; first = tt; asks = tt; queued = λ i. record { free = λ f. omega arith; own = λ p h. omega arith }; under = λ p. refl; kinds = λ i. record { default_taken = omega arith; byob_taken = omega arith; kind = tt } }

run-known : (entries : List Entry) → Known (run entries empty) []
run-known entries = run-stays Known known-stays known-heard entries empty known-empty

-- the laws

own_all : (p : PipeId) (rs : List ReadRequest) → count (other p) rs ≤ 0 → All (λ r. r ≡ PipeRequest p) rs
own_all p [] n = All-nil (λ r. r ≡ PipeRequest p)
own_all p (r ∷ rs) n = All-cons (λ r. r ≡ PipeRequest p) r rs (one r (omega (arith, n))) (own_all p rs (omega (arith, n)))
  where
    number : (q : PipeId) (same : Bool) → same ≡ nat_eq p.0 q.0 → (if same then 0 else 1) ≤ 0 → PipeRequest q ≡ PipeRequest p
    number q true e n = ap (λ (k : ℕ). PipeRequest (record { 0 = k })) (sym (eq_numbers p.0 q.0 (sym e)))
    number q false e n = absurd (omega (arith, n))

    one : (r : ReadRequest) → other p r ≤ 0 → r ≡ PipeRequest p
    one (Promise q) n = absurd (omega (arith, n))
    one (PipeRequest q) n = number q (nat_eq p.0 q.0) refl n
    one (TeeRequest t) n = absurd (omega (arith, n))

same_requests : (o : Option Stream) → requests_at o ≡ (as_source o).requests
same_requests None = refl
same_requests (Some (ReadableStream r)) = refl
same_requests (Some (ByteStream b)) = refl
same_requests (Some (WritableStream w)) = refl

holds-own : (x : pipe.Slots) → is_over x.phase ≡ false → holds Reading x.source x ≡ true
holds-own x e = let self = is_same-refl x.source in rw (e, self) refl

pub each_source_is_read_by_its_pipe : EachSourceIsReadByItsPipe
each_source_is_read_by_its_pipe entries p over =
    let s : Slots = run entries empty in
    let x : pipe.Slots = as_pipe (slice_get s.pipes p.0) in
    let few = ((run-known entries).queued x.source).own p (holds-own x over) in
    rw (← same_requests (slice_get s.streams x.source.0)) (own_all p (requests_at (slice_get s.streams x.source.0)) few)

under_of : (n : ℕ) (o : Option pipe.Slots) → n + 0 + has_held o ≡ one_if (reads_now o) → n + length (held_values (as_pipe o).held) ≡ one_if (as_pipe o).reading
under_of n None w = omega (arith, w)
under_of n (Some x) w = omega (arith, w)

pub each_reading_has_one_read : EachReadingHasOneRead
each_reading_has_one_read entries p = let s : Slots = run entries empty in under_of (in_streams p s.streams) (slice_get s.pipes p.0) ((run-known entries).under p)

meant_at : (o : Option Stream) (m n : ℕ) → KindHeld (byte_look o) m n → (as_byte o).astray ≡ false
meant_at None m n k = refl
meant_at (Some (ReadableStream r)) m n k = refl
meant_at (Some (ByteStream b)) m n k = k.straight
meant_at (Some (WritableStream w)) m n k = refl

pub each_byte_stream_is_meant : EachByteStreamIsMeant
each_byte_stream_is_meant entries i = let s : Slots = run entries empty in meant_at (slice_get s.streams i.0) (byobs i s) (defaults i s) ((run-known entries).kinds i).kind
