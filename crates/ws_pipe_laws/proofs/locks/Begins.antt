-- Who has the lock of a stream as calls and jobs begin.
use Rattle.ws_steps.specs.declared.port.Side.{Side as PortSide}
use Rattle.ws_steps.specs.declared.port.Side.TheVariants.{Readable as ReadableSide, Writable as WritableSide}
use Rattle.ws_value.specs.declared.ids.PortId.{PortId}
use Rattle.ws_laws.proofs.Halves.{get-stays}
use Rattle.ws_steps.specs.Slots.{has_source, is_byte_stream}
use Rattle.std.proofs.Common.{◌||◌}
use Rattle.std.proofs.Common.{◌≡◌, ◌⊎◌, inl, inr, ⊎_elim, ℕ, ◌+◌, Bool, true, false, nat_eq, is_some, List, [], ◌∷◌, ◌++◌, length, Option, Some, None, slice_get, refl, sym, ap, ◌∙◌, arith}
use Rattle.ws_value.specs.declared.{ids.LockId.{LockId}, ids.PipeId.{PipeId}, ids.PromiseId.{PromiseId}, ids.SignalId.{SignalId}, ids.StreamId.{StreamId}}
use Rattle.ws_steps.specs.declared.calls.Call.{Call}
use Rattle.ws_steps.specs.declared.calls.Call.TheVariants.{GetWriter}
use Rattle.ws_steps.specs.declared.calls.{Reply.{Reply}, Reply.TheVariants.{Lock as ReplyLock}, StartBy.{StartBy}}
use Rattle.ws_steps.specs.declared.effects.Effect.{Effect}
use Rattle.ws_steps.specs.declared.effects.Effect.TheVariants.{Readable as OnReadable, Writable as OnWritable}
use Rattle.ws_steps.specs.declared.{locks.Lock.{Lock}, locks.Lock.TheVariants.{Reader, ByobReader, Writer as WriterLock, ReleasedWriter, Inner}, promises.Job.{Job}, pipes.Prevent.{Prevent}}
use Rattle.ws_steps.specs.declared.{effects.Owner.{Owner}, effects.Owner.TheVariants.{Host, HalfOf}, readable.SizeBy.{SizeBy}, readable.SizeBy.TheVariants.{Count}, transform.Kind.{Kind}, transform.TransformId.{TransformId}}
use Rattle.ws_steps.specs.declared.readable.ReadableOperation.TheVariants.{InitializeReader, ReleaseReader, Disturb}
use Rattle.ws_steps.specs.declared.writable.{WritableOperation.TheVariants.{SetUpWriter, ReleaseWriter}, Writer.{Writer}}
use Rattle.ws_steps.specs.Histories.{is_same}
use Rattle.ws_steps.specs.MakingCalls as making_calls
use Rattle.ws_steps.specs.LockCalls as lock_calls
use Rattle.ws_steps.specs.PipeCalls as pipe_calls
use Rattle.ws_steps.specs.Begun.{Begun}
use Rattle.ws_steps.specs.MakingCalls.{add_stream}
use Rattle.ws_steps.specs.Calls.{begin}
use Rattle.ws_steps.specs.Jobs.{job_effects}
use Rattle.ws_steps.specs.Pipes as pipe
use Rattle.ws_steps.specs.Promises.{Table, next_id, fresh, is_pending_at}
use Rattle.ws_steps.specs.Readable as readable
use Rattle.ws_steps.specs.Slots.{Slots, Stream, ReadableStream, WritableStream, with_promises, has_writable, source_at, writable_at, as_source, as_writable, is_writable_stream, lock_at}
use Rattle.ws_steps.specs.Writable as writable
use Rattle.ws_laws.proofs.EachCall.{each_call}
use Rattle.ws_laws.proofs.Lists.{Each, each-append}
use Rattle.ws_laws.proofs.Tables.{either, eq_numbers, unequal_numbers, same_id, no_stream, place_last, place_before}
use Rattle.ws_laws.proofs.Truth.{false_true}
use Rattle.ws_writable_laws.proofs.Shape.{all, all-append}
use Rattle.ws_pipe_laws.specs.pipes.PipeReads.{one_if}
use Rattle.ws_pipe_laws.specs.locks.Locks.{Side, Reading, Writing, end_of, has, has_lock, holders, in_locks, is_locked}
use Rattle.ws_pipe_laws.proofs.locks.Agenda.{takes, goes, IsNoTake, IsCalm, calm_takes, takes_none, goes_none, takes_none-all, goes_none-all}
use Rattle.ws_pipe_laws.proofs.locks.Holding.{locks-append, locks-set, pipes-append}
use Rattle.ws_pipe_laws.proofs.locks.Rows.{is_there, Balanced}
use Rattle.ws_steps.specs.Slots.{ByteStream}
use Rattle.ws_steps.specs.Bytes as byte
use Rattle.ws_value.specs.declared.ids.TeeId.{TeeId}
use Rattle.ws_steps.specs.declared.tee.Half.TheVariants.{First, Second}
use Rattle.ws_steps.specs.declared.effects.Owner.TheVariants.{BranchOf, EndOf}
use Rattle.ws_steps.specs.Tee as tee
use Rattle.ws_pipe_laws.specs.locks.Locks.{in_tees, tees_off}
use Rattle.ws_pipe_laws.proofs.locks.Holding.{tees-append}
use Rattle.ws_steps.specs.Slots.{has_readable, is_readable_stream}
use Rattle.ws_pipe_laws.proofs.locks.CallEffects.{job-calm, renewed-calm, begins-calm, start-calm, no_takes, end-calm}

-- a stream that isn't locked

pub free_reader : (o : Option Stream) → is_some (as_source o).reader ≡ false → (has_lock Reading o ≡ false) × (is_there Reading o ≡ true)
free_reader o e = grind (arith, e)

free_writer : (o : Option Stream) → is_writable_stream o ≡ true → is_some (as_writable o).writer ≡ false → (has_lock Writing o ≡ false) × (is_there Writing o ≡ true)
free_writer o t e = grind (arith, t, e)

none_there : (d : Side) → is_there d None ≡ false
none_there Reading = refl
none_there Writing = refl

module _ (d : Side) (i : StreamId) (s : Slots) (k : Balanced d i s []) where
  -- some let go of the stream, and none takes it
  leaves : (z : Slots) (es : List Effect) → in_locks d i z.locks + all (goes d i) es ≡ in_locks d i s.locks → z.pipes ≡ s.pipes → z.tees ≡ s.tees → z.streams ≡ s.streams → Each IsNoTake es → Balanced d i z es
  leaves z es locks pipes tees streams none =
      let t = takes_none-all d i es none in
      let even = k.even in
      let few = k.few in
      rw (pipes, tees, streams) (record { even = omega (arith, t, locks, even); few = omega (arith, locks, few) })

  others : (z : Slots) (es : List Effect) → in_locks d i z.locks ≡ in_locks d i s.locks → z.pipes ≡ s.pipes → z.tees ≡ s.tees → z.streams ≡ s.streams → Each IsCalm es → Balanced d i z es
  others z es locks pipes tees streams calm = let g = goes_none-all d i es calm in leaves z es (omega (arith, locks, g)) pipes tees streams (no_takes es calm)

  -- one takes the stream where none had it
  enters : (z : Slots) (es : List Effect) (b : Bool) → holders d i z ≡ holders d i s + one_if b → z.streams ≡ s.streams → all (takes d i) es ≡ one_if b → all (goes d i) es ≡ 0
      → (b ≡ true → (is_locked d i s ≡ false) × (is_there d (slice_get s.streams i.0) ≡ true)) → Balanced d i z es
  enters z es false more streams t g free = let even = k.even in let few = k.few in rw streams (record { even = omega (arith, more, t, g, even); few = omega (arith, more, g, few) })
  enters z es true more streams t g free =
      let f = free refl in
      let lock = ap one_if f.0 in
      let there = ap one_if f.1 in
      let even = k.even in
      let few = k.few in
      rw streams (record { even = omega (arith, more, t, g, even); few = omega (arith, more, g, lock, there, even) })

  -- a new stream
  made : (x : Stream) (es : List Effect) → has_lock d (Some x) ≡ false → Each IsCalm es → Balanced d i (add_stream x s) es
  made x es free calm = by (nat_eq i.0 (length s.streams)) refl
    where
      t : all (takes d i) es ≡ 0
      t = takes_none-all d i es (no_takes es calm)

      g : all (goes d i) es ≡ 0
      g = goes_none-all d i es calm

      by : (here : Bool) → here ≡ nat_eq i.0 (length s.streams) → Balanced d i (add_stream x s) es
      by false n =
          let before = place_before s.streams x i.0 (unequal_numbers i.0 (length s.streams) (sym n)) in
          let even = k.even in
          let few = k.few in
          record { even = rw before (omega (arith, t, g, even)); few = rw before (omega (arith, g, few)) }
      by true e =
          let is = eq_numbers i.0 (length s.streams) (sym e) in
          let before = no_stream i s.streams is in
          let now : slice_get (s.streams ++ x ∷ []) i.0 ≡ Some x = rw is (place_last s.streams x) in
          let none : one_if (is_there d (slice_get s.streams i.0)) ≡ 0 = rw (before, none_there d) refl in
          let lock : one_if (has_lock d (slice_get (s.streams ++ x ∷ []) i.0)) ≡ 0 = rw (now, free) refl in
          let few = k.few in
          record { even = omega (arith, t, g, lock, none, few); few = omega (arith, g, none, few) }

  -- a tee takes its source
  inner_one : in_locks d i (s.locks ++ Inner ∷ []) ≡ in_locks d i s.locks
  inner_one = by d s.locks
    where
      by : (d : Side) (ls : List Lock) → in_locks d i (ls ++ Inner ∷ []) ≡ in_locks d i ls
      by Reading [] = refl
      by Writing [] = refl
      by d (l ∷ ls) = let n = by d ls in omega (arith, n)

  -- a pipe takes its ends
  inner : in_locks d i (s.locks ++ Inner ∷ Inner ∷ []) ≡ in_locks d i s.locks
  inner = by d s.locks
    where
      by : (d : Side) (ls : List Lock) → in_locks d i (ls ++ Inner ∷ Inner ∷ []) ≡ in_locks d i ls
      by Reading [] = refl
      by Writing [] = refl
      by d (l ∷ ls) = let n = by d ls in omega (arith, n)

-- a call's part of one side

no_has : (d : Side) (i : StreamId) (closed : PromiseId) → has d i (Reader None closed) ≡ false
no_has Reading i closed = refl
no_has Writing i closed = refl

no_byob : (d : Side) (i : StreamId) (closed : PromiseId) → has d i (ByobReader None closed) ≡ false
no_byob Reading i closed = refl
no_byob Writing i closed = refl

no_released : (d : Side) (i : StreamId) (w : Writer) → has d i (ReleasedWriter w) ≡ false
no_released Reading i w = refl
no_released Writing i w = refl

new_readable : (d : Side) (owner : Owner) (mark : ℕ) (size : SizeBy) → has_lock d (Some (ReadableStream (readable.set_up owner mark size))) ≡ false
new_readable Reading owner mark size = refl
new_readable Writing owner mark size = refl

new_bytes : (d : Side) (mark auto : ℕ) → has_lock d (Some (ByteStream (byte.set_up mark auto))) ≡ false
new_bytes Reading mark auto = refl
new_bytes Writing mark auto = refl

new_writable : (d : Side) (owner : Owner) (mark : ℕ) (size : SizeBy) → has_lock d (Some (WritableStream (writable.set_up owner mark size))) ≡ false
new_writable Reading owner mark size = refl
new_writable Writing owner mark size = refl

-- whether a call gets a writer
abbrev gets_writer : Reply → List Effect → Bool
gets_writer (ReplyLock l) (OnWritable i (SetUpWriter w) ∷ es) = true
gets_writer _ _ = false

-- no other call does

abbrev IsOther : Call → Type 0
IsOther (GetWriter i) = ⊥
IsOther _ = Unit {0}

gets_none : (c : Call) (s : Slots) → IsOther c → gets_writer (begin c s).reply (begin c s).done.caused ≡ false
unfolding begin
gets_none (GetWriter i) s o = absurd o
gets_none c s o = grind arith

-- a readable stream that is there stays where another stream is made

last_there : (o : Option Stream) → o ≡ None → is_readable_stream o ≡ true → ⊥
last_there o e f = cc

not_new : (j : StreamId) (xs : List Stream) → is_readable_stream (slice_get xs j.0) ≡ true → nat_eq j.0 (length xs) ≡ false
not_new j xs there = by (nat_eq j.0 (length xs)) refl
  where
    by : (last : Bool) → last ≡ nat_eq j.0 (length xs) → nat_eq j.0 (length xs) ≡ false
    by false e = sym e
    by true e = absurd (last_there (slice_get xs j.0) (no_stream j xs (eq_numbers j.0 (length xs) (sym e))) there)

pub before_one : (j : StreamId) (xs : List Stream) (x : Stream) → is_readable_stream (slice_get xs j.0) ≡ true → slice_get (xs ++ x ∷ []) j.0 ≡ slice_get xs j.0
before_one j xs x there = place_before xs x j.0 (unequal_numbers j.0 (length xs) (not_new j xs there))

-- and so does each that is there

pub source-stays : (o : Option Stream) (xs : List Stream) (x : Stream) (n : ℕ) → slice_get xs n ≡ o → (is_readable_stream o || is_byte_stream o) ≡ true → slice_get (xs ++ x ∷ []) n ≡ slice_get xs n
source-stays None xs x n is there = cc
source-stays (Some y) xs x n is there = get-stays xs (x ∷ []) n y is ∙ sym is

pub writable-stays : (o : Option Stream) (xs : List Stream) (x : Stream) (n : ℕ) → slice_get xs n ≡ o → is_writable_stream o ≡ true → slice_get (xs ++ x ∷ []) n ≡ slice_get xs n
writable-stays None xs x n is there = cc
writable-stays (Some y) xs x n is there = get-stays xs (x ∷ []) n y is ∙ sym is

module _ (i : StreamId) where
  get_reader-balanced : (d : Side) (j : StreamId) (s : Slots) → is_some (source_at j s).reader ≡ false → Balanced d i s [] → Balanced d i (making_calls.get_reader j s).done.slots (making_calls.get_reader j s).done.caused
  get_reader-balanced Reading j s free k =
      let n = locks-append Reading i s.locks (Reader (Some j) (next_id s.promises)) in
      enters Reading i s k (making_calls.get_reader j s).done.slots _ (is_same i j) (omega (arith, n)) refl (omega arith) refl
      (λ e. let f = free_reader (slice_get s.streams j.0) free in rw (same_id i j e) f)
  get_reader-balanced Writing j s free k =
      let n = locks-append Writing i s.locks (Reader (Some j) (next_id s.promises)) in
      enters Writing i s k (making_calls.get_reader j s).done.slots _ false (omega (arith, n)) refl refl refl (λ e. absurd (cc))

  get_byob-balanced : (d : Side) (j : StreamId) (s : Slots) → is_some (source_at j s).reader ≡ false → Balanced d i s [] → Balanced d i (making_calls.get_byob j s).done.slots (making_calls.get_byob j s).done.caused
  get_byob-balanced Reading j s free k =
      let n = locks-append Reading i s.locks (ByobReader (Some j) (next_id s.promises)) in
      enters Reading i s k (making_calls.get_byob j s).done.slots _ (is_same i j) (omega (arith, n)) refl (omega arith) refl
      (λ e. let f = free_reader (slice_get s.streams j.0) free in rw (same_id i j e) f)
  get_byob-balanced Writing j s free k =
      let n = locks-append Writing i s.locks (ByobReader (Some j) (next_id s.promises)) in
      enters Writing i s k (making_calls.get_byob j s).done.slots _ false (omega (arith, n)) refl refl refl (λ e. absurd (cc))

  get_writer-balanced : (d : Side) (j : StreamId) (s : Slots) → has_writable j s ≡ true → is_some (writable_at j s).writer ≡ false → Balanced d i s [] → Balanced d i (making_calls.get_writer j s).done.slots (making_calls.get_writer j s).done.caused
  get_writer-balanced Writing j s there free k =
      let n = locks-append Writing i s.locks (WriterLock j) in
      enters Writing i s k (making_calls.get_writer j s).done.slots _ (is_same i j) (omega (arith, n)) refl (omega arith) refl
      (λ e. let f = free_writer (slice_get s.streams j.0) there free in rw (same_id i j e) f)
  get_writer-balanced Reading j s there free k =
      let n = locks-append Reading i s.locks (WriterLock j) in
      enters Reading i s k (making_calls.get_writer j s).done.slots _ false (omega (arith, n)) refl refl refl (λ e. absurd (cc))

  renewed-goes : (d : Side) (t : Table) (kept : Bool) (es : List Effect) → all (goes d i) (lock_calls.reject_renewed t kept ++ es) ≡ all (goes d i) es
  renewed-goes d t kept es =
      let n = goes_none-all d i (lock_calls.reject_renewed t kept) (renewed-calm t kept) in
      let m = all-append (goes d i) (lock_calls.reject_renewed t kept) es in omega (arith, n, m)

  reader_leaves : (d : Side) (j : StreamId) (closed : PromiseId) → all (goes d i) (OnReadable j ReleaseReader ∷ []) ≡ one_if (has d i (Reader (Some j) closed))
  reader_leaves Reading j closed = omega arith
  reader_leaves Writing j closed = refl

  byob_leaves : (d : Side) (j : StreamId) (closed : PromiseId) → all (goes d i) (OnReadable j ReleaseReader ∷ []) ≡ one_if (has d i (ByobReader (Some j) closed))
  byob_leaves Reading j closed = omega arith
  byob_leaves Writing j closed = refl

  writer_leaves : (d : Side) (j : StreamId) → all (goes d i) (OnWritable j ReleaseWriter ∷ []) ≡ one_if (has d i (WriterLock j))
  writer_leaves Reading j = refl
  writer_leaves Writing j = omega arith

  release_reader-balanced : (d : Side) (l : LockId) (closed : PromiseId) (j : StreamId) (s : Slots) (old : Lock) (released : PromiseId → Lock) → all (goes d i) (OnReadable j ReleaseReader ∷ []) ≡ one_if (has d i old)
      → ((p : PromiseId) → has d i (released p) ≡ false) → lock_at l s ≡ Some old → Balanced d i s [] → Balanced d i (lock_calls.release_reader released l closed j s).done.slots (lock_calls.release_reader released l closed j s).done.caused
  release_reader-balanced d l closed j s old released own gone_of e k =
      let kept : Bool = readable.is_readable (source_at j s).state in
      let new : Lock = released (lock_calls.renewed closed s.promises kept) in
      let set = locks-set d i l.0 s.locks old new e in
      let none = ap one_if (gone_of (lock_calls.renewed closed s.promises kept)) in
      let gone = renewed-goes d s.promises kept (OnReadable j ReleaseReader ∷ []) in
      leaves d i s k (lock_calls.release_reader released l closed j s).done.slots (lock_calls.release_reader released l closed j s).done.caused (omega (arith, set, none, gone, own)) refl refl refl
      (each-append IsNoTake (lock_calls.reject_renewed s.promises kept) (OnReadable j ReleaseReader ∷ []) (no_takes _ (renewed-calm s.promises kept)) (tt, tt))

  release_writer-balanced : (d : Side) (l : LockId) (j : StreamId) (w : Writer) (s : Slots) → lock_at l s ≡ Some (WriterLock j) → Balanced d i s []
      → Balanced d i (lock_calls.release_writer l j w s).done.slots (lock_calls.release_writer l j w s).done.caused
  release_writer-balanced d l j w s e k =
      let ready : Bool = is_pending_at w.ready s.promises in
      let t : Table = lock_calls.with_renewed s.promises ready in
      let closed : Bool = is_pending_at w.closed t in
      let released : Writer = record { ready = lock_calls.renewed w.ready s.promises ready; closed = lock_calls.renewed w.closed t closed } in
      let set = locks-set d i l.0 s.locks (WriterLock j) (ReleasedWriter released) e in
      let none = ap one_if (no_released d i released) in
      let gone = renewed-goes d t closed (OnWritable j ReleaseWriter ∷ []) in
      let before = renewed-goes d s.promises ready (lock_calls.reject_renewed t closed ++ OnWritable j ReleaseWriter ∷ []) in
      let own = writer_leaves d j in
      leaves d i s k (lock_calls.release_writer l j w s).done.slots (lock_calls.release_writer l j w s).done.caused (omega (arith, set, none, gone, before, own)) refl refl refl
      (each-append IsNoTake (lock_calls.reject_renewed s.promises ready) _ (no_takes _ (renewed-calm s.promises ready))
      (each-append IsNoTake (lock_calls.reject_renewed t closed) (OnWritable j ReleaseWriter ∷ []) (no_takes _ (renewed-calm t closed)) (tt, tt)))

  -- a pipe takes its ends

  first_takes : (d : Side) (source dest : StreamId) (closed : PromiseId) (w : Writer) (es : List Effect) (x : pipe.Slots) → x.source ≡ source → x.dest ≡ dest → all (takes d i) es ≡ 0
      → all (takes d i) (OnReadable source (InitializeReader closed) ∷ OnWritable dest (SetUpWriter w) ∷ OnReadable source Disturb ∷ es) ≡ one_if (is_same i (end_of d x))
  first_takes Reading source dest closed w es x e f n = rw e (omega (arith, n))
  first_takes Writing source dest closed w es x e f n = rw f (omega (arith, n))

  first_goes : (d : Side) (source dest : StreamId) (closed : PromiseId) (w : Writer) (es : List Effect) → all (goes d i) es ≡ 0
      → all (goes d i) (OnReadable source (InitializeReader closed) ∷ OnWritable dest (SetUpWriter w) ∷ OnReadable source Disturb ∷ es) ≡ 0
  first_goes Reading source dest closed w es n = omega (arith, n)
  first_goes Writing source dest closed w es n = omega (arith, n)

  end_free : (d : Side) (source dest : StreamId) (s : Slots) (x : pipe.Slots) → x.source ≡ source → x.dest ≡ dest → is_some (source_at source s).reader ≡ false → has_writable dest s ≡ true → is_some (writable_at dest s).writer ≡ false
      → is_same i (end_of d x) ≡ true → (is_locked d i s ≡ false) × (is_there d (slice_get s.streams i.0) ≡ true)
  end_free Reading source dest s x e f free there writer same = let g = free_reader (slice_get s.streams source.0) free in rw (same_id i x.source same, e) g
  end_free Writing source dest s x e f free there writer same = let g = free_writer (slice_get s.streams dest.0) there writer in rw (same_id i x.dest same, f) g

  pipe-balanced : (d : Side) (source dest : StreamId) (prevent : Prevent) (signal : Option SignalId) (s : Slots) → is_some (source_at source s).reader ≡ false → has_writable dest s ≡ true → is_some (writable_at dest s).writer ≡ false
      → Balanced d i s [] → Balanced d i (pipe_calls.pipe_to source dest prevent signal s).done.slots (pipe_calls.pipe_to source dest prevent signal s).done.caused
  pipe-balanced d source dest prevent signal s free there writer k =
      let t : Table = s.promises in
      let closed : PromiseId = next_id t in
      let w : Writer = record { ready = next_id (fresh t); closed = next_id (fresh (fresh t)) } in
      let x : pipe.Slots = pipe.set_up source dest prevent signal (next_id (fresh (fresh (fresh t)))) in
      let me : PipeId = record { 0 = length s.pipes } in
      let last : List Effect = pipe_calls.pipe_begins me closed w.closed signal (pipe_calls.reason_of signal s) in
      let calm = begins-calm me closed w.closed signal (pipe_calls.reason_of signal s) in
      let n = inner d i s k in
      let m = pipes-append d i s.pipes x in
      enters d i s k (pipe_calls.pipe_to source dest prevent signal s).done.slots (pipe_calls.pipe_to source dest prevent signal s).done.caused (is_same i (end_of d x)) (omega (arith, n, m)) refl
      (first_takes d source dest closed w last x refl refl (takes_none-all d i last (no_takes last calm)))
      (first_goes d source dest closed w last (goes_none-all d i last calm))
      (end_free d source dest s x refl refl free there writer)

  -- the two halves of a transform stream

  transform-balanced : (d : Side) (kind : Kind) (m n : ℕ) (start : StartBy) (j l : StreamId) (s : Slots) → Balanced d i s []
      → Balanced d i (making_calls.make_transform kind m n start j l s).done.slots (making_calls.make_transform kind m n start j l s).done.caused
  transform-balanced d kind m n start j l s k =
      let me : TransformId = record { 0 = length s.transforms } in
      let w : Stream = WritableStream (writable.set_up (HalfOf me) m Count) in
      let r : Stream = ReadableStream (readable.set_up (HalfOf me) n Count) in
      let one : Balanced d i (add_stream w s) [] = made d i s k w [] (new_writable d (HalfOf me) m Count) tt in
      let two = made d i (add_stream w s) one r (making_calls.make_transform kind m n start j l s).done.caused (new_readable d (HalfOf me) n Count)
      (tt, (tt, (tt, (tt, (start-calm (next_id (fresh s.promises)) l start, tt))))) in
      record { even = two.even; few = two.few }

  -- a tee takes its source, a stream that was there, and its branches are new

  tee-balanced : (d : Side) (source j l : StreamId) (s : Slots) → has_readable source s ≡ true → is_some (source_at source s).reader ≡ false → Balanced d i s []
      → Balanced d i (making_calls.make_tee source j l s).done.slots (making_calls.make_tee source j l s).done.caused
  tee-balanced d source j l s there free k =
      let me : TeeId = record { 0 = length s.tees } in
      let x : Stream = ReadableStream (readable.set_up (BranchOf me First) 1 Count) in
      let y : Stream = ReadableStream (readable.set_up (BranchOf me Second) 1 Count) in
      let new : tee.Slots = tee.set_up source j l (next_id (fresh s.promises)) in
      let first : Slots = add_stream x s in
      let both : Slots = add_stream y first in
      let z : Slots = (making_calls.make_tee source j l s).done.slots in
      let es : List Effect = (making_calls.make_tee source j l s).done.caused in
      let one : Balanced d i first [] = made d i s k x [] (new_readable d (BranchOf me First) 1 Count) tt in
      let two : Balanced d i both [] = made d i first one y [] (new_readable d (BranchOf me Second) 1 Count) tt in
      let here : slice_get first.streams source.0 ≡ slice_get s.streams source.0 = before_one source s.streams x there in
      let still : is_readable_stream (slice_get first.streams source.0) ≡ true = rw here there in
      let after : slice_get both.streams source.0 ≡ slice_get s.streams source.0 = before_one source first.streams y still ∙ here in
      let open_ : is_some (source_at source both).reader ≡ false = rw after free in
      let n = inner_one d i s k in
      let m = tees-append d i s.tees new in
      by d two n m open_
    where
      by : (d : Side) → let me : TeeId = record { 0 = length s.tees } in
          let both : Slots = add_stream (ReadableStream (readable.set_up (BranchOf me Second) 1 Count)) (add_stream (ReadableStream (readable.set_up (BranchOf me First) 1 Count)) s) in
          let new : tee.Slots = tee.set_up source j l (next_id (fresh s.promises)) in
          Balanced d i both [] → in_locks d i (s.locks ++ Inner ∷ []) ≡ in_locks d i s.locks → in_tees d i (s.tees ++ new ∷ []) ≡ in_tees d i s.tees + one_if (tees_off d i new)
          → is_some (source_at source both).reader ≡ false → Balanced d i (making_calls.make_tee source j l s).done.slots (making_calls.make_tee source j l s).done.caused
      by Reading two n m open_ =
          let me : TeeId = record { 0 = length s.tees } in
          let both : Slots = add_stream (ReadableStream (readable.set_up (BranchOf me Second) 1 Count)) (add_stream (ReadableStream (readable.set_up (BranchOf me First) 1 Count)) s) in
          enters Reading i both two (making_calls.make_tee source j l s).done.slots (making_calls.make_tee source j l s).done.caused (is_same i source) (omega (arith, n, m)) refl (omega arith) refl
          (λ e. let f = free_reader (slice_get both.streams source.0) open_ in rw (same_id i source e) f)
      by Writing two n m open_ =
          let me : TeeId = record { 0 = length s.tees } in
          let both : Slots = add_stream (ReadableStream (readable.set_up (BranchOf me Second) 1 Count)) (add_stream (ReadableStream (readable.set_up (BranchOf me First) 1 Count)) s) in
          enters Writing i both two (making_calls.make_tee source j l s).done.slots (making_calls.make_tee source j l s).done.caused false (omega (arith, n, m)) refl refl refl (λ e. absurd (cc))

  -- a port, and its stream, which is new

  with_start : (d : Side) (side : PortSide) (j : StreamId) (z : Slots) (es : List Effect) → Balanced d i z es → Balanced d i z (pipe_calls.start_end j side ∷ es)
  with_start d side j z es k =
      let calm = end-calm side j in
      let t = takes_none d i (pipe_calls.start_end j side) (calm_takes (pipe_calls.start_end j side) calm) in
      let g = goes_none d i (pipe_calls.start_end j side) calm in
      let even = k.even in
      let few = k.few in
      record { even = omega (arith, t, g, even); few = omega (arith, g, few) }

  port-balanced : (d : Side) (side : PortSide) (s : Slots) → Balanced d i s [] → Balanced d i (pipe_calls.add_port (record { 0 = length s.streams }) s side) []
  port-balanced d ReadableSide s k =
      let me : PortId = record { 0 = length s.ports } in
      let one = made d i s k (ReadableStream (readable.set_up (EndOf me) 0 Count)) [] (new_readable d (EndOf me) 0 Count) tt in
      record { even = one.even; few = one.few }
  port-balanced d WritableSide s k =
      let me : PortId = record { 0 = length s.ports } in
      let one = made d i s k (WritableStream (writable.set_up (EndOf me) 1 Count)) [] (new_writable d (EndOf me) 1 Count) tt in
      record { even = one.even; few = one.few }

  open-balanced : (d : Side) (side : PortSide) (s : Slots) → Balanced d i s [] → let b : Begun = pipe_calls.open_end side (record { 0 = length s.streams }) s in Balanced d i b.done.slots b.done.caused
  open-balanced d side s k = with_start d side (record { 0 = length s.streams }) (pipe_calls.add_port (record { 0 = length s.streams }) s side) [] (port-balanced d side s k)

  -- and a pipe takes it, with a stream that was there

  send_readable-balanced : (d : Side) (source : StreamId) (s : Slots) → has_source source s ≡ true → is_some (source_at source s).reader ≡ false → Balanced d i s []
      → let b : Begun = pipe_calls.send_readable source (record { 0 = length s.streams }) s in Balanced d i b.done.slots b.done.caused
  send_readable-balanced d source s there free k =
      let j : StreamId = record { 0 = length s.streams } in
      let me : PortId = record { 0 = length s.ports } in
      let w : Stream = WritableStream (writable.set_up (EndOf me) 1 Count) in
      let z : Slots = pipe_calls.add_port j s WritableSide in
      let here : slice_get z.streams source.0 ≡ slice_get s.streams source.0 = source-stays (slice_get s.streams source.0) s.streams w source.0 refl there in
      let new : slice_get z.streams j.0 ≡ Some w = place_last s.streams w in
      with_start d WritableSide j _ _ (pipe-balanced d source j pipe_calls.no_prevent None z (rw here free) (rw new refl) (rw new refl) (port-balanced d WritableSide s k))

  send_writable-balanced : (d : Side) (dest : StreamId) (s : Slots) → has_writable dest s ≡ true → is_some (writable_at dest s).writer ≡ false → Balanced d i s []
      → let b : Begun = pipe_calls.send_writable dest (record { 0 = length s.streams }) s in Balanced d i b.done.slots b.done.caused
  send_writable-balanced d dest s there free k =
      let j : StreamId = record { 0 = length s.streams } in
      let me : PortId = record { 0 = length s.ports } in
      let r : Stream = ReadableStream (readable.set_up (EndOf me) 0 Count) in
      let z : Slots = pipe_calls.add_port j s ReadableSide in
      let here : slice_get z.streams dest.0 ≡ slice_get s.streams dest.0 = writable-stays (slice_get s.streams dest.0) s.streams r dest.0 refl there in
      let new : slice_get z.streams j.0 ≡ Some r = place_last s.streams r in
      with_start d ReadableSide j _ _ (pipe-balanced d j dest pipe_calls.no_prevent None z (rw new refl) (rw here there) (rw here free) (port-balanced d ReadableSide s k))

  -- each call

  abbrev Now : Side → Begun → Type 0
  Now d b = Balanced d i b.done.slots b.done.caused

  got-balanced : (d : Side) (j : StreamId) (s : Slots) → Balanced d i s [] → Now d (begin (GetWriter j) s)
  unfolding begin
  got-balanced d j s k =
      either (Now d) (has_writable j s) _ _
      (λ there. either (Now d) (is_some (writable_at j s).writer) _ _ (λ l. k) (λ free. get_writer-balanced d j s there free k))
      (λ none. k)

  abbrev Other : Side → Begun → Type 0
  Other d b = Now d b ⊎ (gets_writer b.reply b.done.caused ≡ true)

  other-balanced : (d : Side) (c : Call) (s : Slots) → Balanced d i s [] → Other d (begin c s)
  other-balanced d c s k =
      let quiet : (z : Slots) (es : List Effect) → in_locks d i z.locks ≡ in_locks d i s.locks → z.pipes ≡ s.pipes → z.tees ≡ s.tees → z.streams ≡ s.streams → Each IsCalm es → Balanced d i z es = others d i s k in
      each_call (Other d) c s (record {
        unchanged = λ reply. inl k;
        rejected = λ fault. inl (quiet _ _ refl refl refl refl (tt, tt));
        make_readable = λ mark size start. inl (made d i s k (ReadableStream (readable.set_up Host mark size)) _ (new_readable d Host mark size) (tt, tt));
        make_writable = λ mark size start. inl (made d i s k (WritableStream (writable.set_up Host mark size)) _ (new_writable d Host mark size) (tt, tt));
        get_byob = λ j is e. inl (get_byob-balanced d j s e k);
        release_byob = λ l closed j e. inl (release_reader-balanced d l closed j s (ByobReader (Some j) closed) (ByobReader None) (byob_leaves d j closed) (no_byob d i) e k);
        read_into = λ l j closed room element least e f. inl (quiet _ _ refl refl refl refl (tt, tt));
        enqueue_bytes = λ j b e is some can. inl (quiet _ _ refl refl refl refl (tt, tt));
        finish_bytes = λ j e is can. inl (quiet _ _ refl refl refl refl (tt, tt));
        make_request = λ j reply is. inl (quiet _ _ refl refl refl refl (tt, tt));
        respond = λ r j b e is can. inl (quiet _ _ refl refl refl refl (tt, tt));
        make_bytes = λ mark auto start. inl (made d i s k (ByteStream (byte.set_up mark auto)) _ (new_bytes d mark auto) (tt, tt));
        get_reader = λ j e. inl (get_reader-balanced d j s e k);
        get_writer = λ j e. inr refl;
        release_reader = λ l closed j e. inl (release_reader-balanced d l closed j s (Reader (Some j) closed) (Reader None) (reader_leaves d j closed) (no_has d i) e k);
        release_writer = λ l j w e f. inl (release_writer-balanced d l j w s e k);
        cancel = λ reason j. inl (quiet _ _ refl refl refl refl (tt, tt));
        read = λ l j closed e f. inl (quiet _ _ refl refl refl refl (tt, tt));
        write = λ l v j e. inl (quiet _ _ refl refl refl refl (tt, tt));
        close = λ j. inl (quiet _ _ refl refl refl refl (tt, tt));
        abort = λ reason j e. inl (quiet _ _ refl refl refl refl (tt, tt));
        make_tee = λ j e there free untied. inl (tee-balanced d j (record { 0 = length s.streams }) (record { 0 = length s.streams + 1 }) s there free k);
        make_transform = λ kind m n start. inl (transform-balanced d kind m n start (record { 0 = length s.streams }) (record { 0 = length s.streams + 1 }) s k);
        enqueue = λ j v e o can. inl (quiet _ _ refl refl refl refl (tt, tt));
        enqueue_half = λ j t v e o can. inl (quiet _ _ refl refl refl refl (tt, tt));
        fail_half = λ t reason. inl (quiet _ _ refl refl refl refl (tt, tt));
        terminate = λ t. inl (quiet _ _ refl refl refl refl (tt, tt));
        finish = λ j. inl (quiet _ _ refl refl refl refl (tt, tt));
        fail_readable = λ j reason. inl (quiet _ _ refl refl refl refl (tt, tt));
        fail_writable = λ j reason. inl (quiet _ _ refl refl refl refl (tt, tt));
        pipe = λ source dest prevent signal e f free writer. inl (pipe-balanced d source dest prevent signal s free f writer k);
        make_signal = inl (quiet _ _ refl refl refl refl tt);
        open_end = λ side. inl (open-balanced d side s k);
        send_readable = λ source there free. inl (send_readable-balanced d source s there free k);
        send_writable = λ dest there free. inl (send_writable-balanced d dest s there free k);
        deliver = λ c m asked has. inl (quiet _ _ refl refl refl refl (tt, tt));
        trigger = λ a reason. inl (quiet _ _ refl refl refl refl (tt, tt));
        settle = λ h answer q e. inl (quiet _ _ refl refl refl refl (tt, tt));
      })

  pub call-balanced : (d : Side) (c : Call) (s : Slots) → Balanced d i s [] → Now d (begin c s)
  call-balanced d (GetWriter j) s k = got-balanced d j s k
  call-balanced d c s k =
      ⊎_elim (λ (n : Now d (begin c s)). n) (λ (g : gets_writer (begin c s).reply (begin c s).done.caused ≡ true). false_true (gets_writer (begin c s).reply (begin c s).done.caused) g (gets_none c s tt)) (other-balanced d c s k)

  pub job-balanced : (d : Side) (job : Job) (s : Slots) (t : Table) → Balanced d i s [] → Balanced d i (with_promises t s) (job_effects job)
  job-balanced d job s t k = others d i s k (with_promises t s) (job_effects job) refl refl refl refl (job-calm job)
