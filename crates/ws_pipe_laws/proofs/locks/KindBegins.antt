-- The kind of the reader of a byte stream as calls begin.
use Rattle.ws_steps.specs.declared.port.Side.{Side as PortSide}
use Rattle.ws_steps.specs.declared.port.Side.TheVariants.{Readable as ReadableSide, Writable as WritableSide}
use Rattle.ws_steps.specs.Slots.{has_source}
use Rattle.std.proofs.Common.{◌≡◌, ℕ, ◌+◌, ◌≤◌, Bool, true, false, nat_eq, is_some, List, [], ◌∷◌, ◌++◌, length, Option, Some, None, slice_get, refl, sym, ap, arith, ◌∙◌}
use Rattle.ws_value.specs.declared.{ids.LockId.{LockId}, ids.PipeId.{PipeId}, ids.PromiseId.{PromiseId}, ids.SignalId.{SignalId}, ids.StreamId.{StreamId}}
use Rattle.ws_steps.specs.declared.calls.{Call.{Call}, StartBy.{StartBy}}
use Rattle.ws_steps.specs.declared.effects.Effect.{Effect}
use Rattle.ws_steps.specs.declared.effects.Effect.TheVariants.{Readable as OnReadable, Writable as OnWritable}
use Rattle.ws_steps.specs.declared.{effects.Owner.TheVariants.{Host, HalfOf}, locks.Lock.{Lock}, locks.Lock.TheVariants.{Reader, ByobReader, Writer as WriterLock, ReleasedWriter, Inner}}
use Rattle.ws_steps.specs.declared.{pipes.Prevent.{Prevent}, readable.SizeBy.TheVariants.{Count}, transform.Kind.{Kind}, transform.TransformId.{TransformId}, writable.Writer.{Writer}}
use Rattle.ws_steps.specs.declared.readable.ReadableOperation.TheVariants.{ReleaseReader}
use Rattle.ws_steps.specs.declared.writable.WritableOperation.TheVariants.{ReleaseWriter}
use Rattle.ws_steps.specs.Bytes as byte
use Rattle.ws_steps.specs.MakingCalls as making_calls
use Rattle.ws_steps.specs.LockCalls as lock_calls
use Rattle.ws_steps.specs.PipeCalls as pipe_calls
use Rattle.ws_steps.specs.Begun.{Begun}
use Rattle.ws_steps.specs.MakingCalls.{add_stream}
use Rattle.ws_steps.specs.Calls.{begin}
use Rattle.ws_steps.specs.Histories.{is_same}
use Rattle.ws_steps.specs.Pipes as pipe
use Rattle.ws_steps.specs.Promises.{Table, next_id, fresh, is_pending_at}
use Rattle.ws_steps.specs.Readable as readable
use Rattle.ws_steps.specs.Slots.{Slots, Stream, ReadableStream, ByteStream, WritableStream, source_at, lock_at}
use Rattle.ws_steps.specs.Writable as writable
use Rattle.ws_laws.proofs.EachCall.{each_call}
use Rattle.ws_laws.proofs.Lists.{Each, each-append}
use Rattle.ws_laws.proofs.Tables.{eq_numbers, unequal_numbers, same_id, place_last, place_before}
use Rattle.ws_writable_laws.proofs.Shape.{all}
use Rattle.ws_pipe_laws.specs.pipes.PipeReads.{one_if}
use Rattle.ws_pipe_laws.specs.locks.Locks.{Reading, has_lock, is_locked}
use Rattle.ws_pipe_laws.proofs.locks.Agenda.{IsNoTake, calm_takes}
use Rattle.ws_pipe_laws.proofs.locks.CallEffects.{no_takes, renewed-calm, begins-calm, start-calm}
use Rattle.ws_pipe_laws.proofs.locks.Begins.{free_reader}
use Rattle.ws_pipe_laws.proofs.locks.Holding.{pipes-append}
use Rattle.ws_pipe_laws.proofs.locks.ReaderKinds.{has_default, has_byob, count_locks, count-append, count-set, defaults, byobs, takes_default, takes_byob, default_none-all, byob_none-all, byte_look, KindHeld, OfKind, fewer}
use Rattle.ws_value.specs.declared.ids.TeeId.{TeeId}
use Rattle.ws_steps.specs.declared.tee.Half.TheVariants.{First, Second}
use Rattle.ws_steps.specs.declared.effects.Owner.TheVariants.{BranchOf, EndOf}
use Rattle.ws_steps.specs.Tee as tee
use Rattle.ws_steps.specs.Slots.{has_readable}
use Rattle.ws_pipe_laws.proofs.locks.Holding.{tees-append}
use Rattle.ws_pipe_laws.proofs.locks.CallEffects.{end-calm}
use Rattle.ws_pipe_laws.proofs.locks.Begins.{before_one, source-stays}

-- a stream that isn't locked may be had by any
free-held : (o : Option Stream) (m n x y : ℕ) → has_lock Reading o ≡ false → KindHeld (byte_look o) m n → KindHeld (byte_look o) x y
free-held None m n x y f k = tt
free-held (Some (ReadableStream r)) m n x y f k = tt
free-held (Some (ByteStream b)) m n x y f k = record { straight = k.straight; byob = λ l. cc; default = λ l. cc }
free-held (Some (WritableStream w)) m n x y f k = tt

inner-count : (f : Lock → Bool) (ls : List Lock) → f Inner ≡ false → count_locks f (ls ++ Inner ∷ Inner ∷ []) ≡ count_locks f ls
inner-count f [] e = rw e refl
inner-count f (l ∷ ls) e = let n = inner-count f ls e in omega (arith, n)

new-bytes : (mark auto m n : ℕ) → KindHeld (byte_look (Some (ByteStream (byte.set_up mark auto)))) m n
new-bytes mark auto m n = record { straight = refl; byob = λ l. cc; default = λ l. cc }

inner-one : (f : Lock → Bool) (ls : List Lock) → f Inner ≡ false → count_locks f (ls ++ Inner ∷ []) ≡ count_locks f ls
inner-one f [] e = rw e refl
inner-one f (l ∷ ls) e = let n = inner-one f ls e in omega (arith, n)

module _ (i : StreamId) (s : Slots) (k : OfKind i s []) where
  -- some let go of the stream, and none takes it
  leaves : (z : Slots) (es : List Effect) → byobs i z ≤ byobs i s → defaults i z ≤ defaults i s → z.streams ≡ s.streams → all (takes_default i) es ≡ 0 → all (takes_byob i) es ≡ 0 → OfKind i z es
  leaves z es b d streams m n = record {
    default_taken = omega (arith, m);
    byob_taken = omega (arith, n);
    kind = rw streams (fewer (byte_look (slice_get s.streams i.0)) (byobs i s) (defaults i s) (byobs i z) (defaults i z) b d k.kind);
  }

  quiet : (z : Slots) (es : List Effect) → z.locks ≡ s.locks → z.pipes ≡ s.pipes → z.tees ≡ s.tees → z.streams ≡ s.streams → Each IsNoTake es → OfKind i z es
  quiet z es locks pipes tees streams none = leaves z es (rw locks (omega arith)) (rw (locks, pipes, tees) (omega arith)) streams (default_none-all i es none) (byob_none-all i es none)

  -- one takes the stream where none had it
  enters : (z : Slots) (es : List Effect) (m n : ℕ) → byobs i z ≡ byobs i s + m → defaults i z ≡ defaults i s + n → z.streams ≡ s.streams → all (takes_default i) es ≡ n → all (takes_byob i) es ≡ m → is_locked Reading i s ≡ false → OfKind i z es
  enters z es m n b d streams p q free = record {
    default_taken = omega (arith, d, p);
    byob_taken = omega (arith, b, q);
    kind = rw streams (free-held (slice_get s.streams i.0) (byobs i s) (defaults i s) (byobs i z) (defaults i z) free k.kind);
  }

  default-enters : (z : Slots) (es : List Effect) (same : Bool) → byobs i z ≡ byobs i s → defaults i z ≡ defaults i s + one_if same → z.streams ≡ s.streams → all (takes_default i) es ≡ one_if same → all (takes_byob i) es ≡ 0
      → (same ≡ true → is_locked Reading i s ≡ false) → OfKind i z es
  default-enters z es false b d streams p q free = leaves z es (omega (arith, b)) (omega (arith, d)) streams p q
  default-enters z es true b d streams p q free = enters z es 0 1 (omega (arith, b)) d streams p q (free refl)

  byob-enters : (z : Slots) (es : List Effect) (same : Bool) → byobs i z ≡ byobs i s + one_if same → defaults i z ≡ defaults i s → z.streams ≡ s.streams → all (takes_default i) es ≡ 0 → all (takes_byob i) es ≡ one_if same
      → (same ≡ true → is_locked Reading i s ≡ false) → OfKind i z es
  byob-enters z es false b d streams p q free = leaves z es (omega (arith, b)) (omega (arith, d)) streams p q
  byob-enters z es true b d streams p q free = enters z es 1 0 b (omega (arith, d)) streams p q (free refl)

  -- a new stream
  made : (x : Stream) (es : List Effect) → ((m n : ℕ) → KindHeld (byte_look (Some x)) m n) → Each IsNoTake es → OfKind i (add_stream x s) es
  made x es new none = record {
    default_taken = let m = default_none-all i es none in omega (arith, m);
    byob_taken = let m = byob_none-all i es none in omega (arith, m);
    kind = by (nat_eq i.0 (length s.streams)) refl;
  }
    where
      by : (here : Bool) → here ≡ nat_eq i.0 (length s.streams) → KindHeld (byte_look (slice_get (s.streams ++ x ∷ []) i.0)) (byobs i s) (defaults i s)
      by false n = rw (place_before s.streams x i.0 (unequal_numbers i.0 (length s.streams) (sym n))) k.kind
      by true e =
          let is = eq_numbers i.0 (length s.streams) (sym e) in
          let now : slice_get (s.streams ++ x ∷ []) i.0 ≡ Some x = rw is (place_last s.streams x) in rw now (new (byobs i s) (defaults i s))

  unlocked : (j : StreamId) → is_some (source_at j s).reader ≡ false → is_same i j ≡ true → is_locked Reading i s ≡ false
  unlocked j free same = rw (same_id i j same) (free_reader (slice_get s.streams j.0) free).0

  -- a reader goes
  released : (l : LockId) (j : StreamId) (closed : PromiseId) (old : Lock) (new : PromiseId → Lock) → lock_at l s ≡ Some old → ((p : PromiseId) → (has_default i (new p) ≡ false) × (has_byob i (new p) ≡ false))
      → OfKind i (lock_calls.release_reader new l closed j s).done.slots (lock_calls.release_reader new l closed j s).done.caused
  released l j closed old new e none =
      let kept : Bool = readable.is_readable (source_at j s).state in
      let next : Lock = new (lock_calls.renewed closed s.promises kept) in
      let m = count-set (has_default i) l.0 s.locks old next e in
      let n = count-set (has_byob i) l.0 s.locks old next e in
      let x = ap one_if (none (lock_calls.renewed closed s.promises kept)).0 in
      let y = ap one_if (none (lock_calls.renewed closed s.promises kept)).1 in
      let none_taken = each-append IsNoTake (lock_calls.reject_renewed s.promises kept) (OnReadable j ReleaseReader ∷ []) (no_takes _ (renewed-calm s.promises kept)) (tt, tt) in
      leaves (lock_calls.release_reader new l closed j s).done.slots (lock_calls.release_reader new l closed j s).done.caused (omega (arith, n, y)) (omega (arith, m, x)) refl (default_none-all i _ none_taken) (byob_none-all i _ none_taken)

  writer-released : (l : LockId) (j : StreamId) (w : Writer) → lock_at l s ≡ Some (WriterLock j) → OfKind i (lock_calls.release_writer l j w s).done.slots (lock_calls.release_writer l j w s).done.caused
  writer-released l j w e =
      let ready : Bool = is_pending_at w.ready s.promises in
      let t : Table = lock_calls.with_renewed s.promises ready in
      let closed : Bool = is_pending_at w.closed t in
      let next : Lock = ReleasedWriter (record { ready = lock_calls.renewed w.ready s.promises ready; closed = lock_calls.renewed w.closed t closed }) in
      let m = count-set (has_default i) l.0 s.locks (WriterLock j) next e in
      let n = count-set (has_byob i) l.0 s.locks (WriterLock j) next e in
      let none_taken =
      each-append IsNoTake (lock_calls.reject_renewed s.promises ready) (lock_calls.reject_renewed t closed ++ OnWritable j ReleaseWriter ∷ []) (no_takes _ (renewed-calm s.promises ready))
      (each-append IsNoTake (lock_calls.reject_renewed t closed) (OnWritable j ReleaseWriter ∷ []) (no_takes _ (renewed-calm t closed)) (tt, tt)) in
      leaves (lock_calls.release_writer l j w s).done.slots (lock_calls.release_writer l j w s).done.caused (omega (arith, n)) (omega (arith, m)) refl (default_none-all i _ none_taken) (byob_none-all i _ none_taken)

  -- a pipe takes its source
  piped : (source dest : StreamId) (prevent : Prevent) (signal : Option SignalId) → is_some (source_at source s).reader ≡ false
      → OfKind i (pipe_calls.pipe_to source dest prevent signal s).done.slots (pipe_calls.pipe_to source dest prevent signal s).done.caused
  piped source dest prevent signal free =
      let t : Table = s.promises in
      let w : Writer = record { ready = next_id (fresh t); closed = next_id (fresh (fresh t)) } in
      let x : pipe.Slots = pipe.set_up source dest prevent signal (next_id (fresh (fresh (fresh t)))) in
      let me : PipeId = record { 0 = length s.pipes } in
      let last : List Effect = pipe_calls.pipe_begins me (next_id t) w.closed signal (pipe_calls.reason_of signal s) in
      let calm = no_takes last (begins-calm me (next_id t) w.closed signal (pipe_calls.reason_of signal s)) in
      let d = default_none-all i last calm in
      let b = byob_none-all i last calm in
      let m = inner-count (has_default i) s.locks refl in
      let n = inner-count (has_byob i) s.locks refl in
      let p = pipes-append Reading i s.pipes x in
      default-enters (pipe_calls.pipe_to source dest prevent signal s).done.slots (pipe_calls.pipe_to source dest prevent signal s).done.caused (is_same i source) (omega (arith, n)) (omega (arith, m, p)) refl (omega (arith, d)) (omega (arith, b)) (unlocked source free)

-- the two halves of a transform stream
halved : (i : StreamId) (s : Slots) → OfKind i s [] → (kind : Kind) (m n : ℕ) (start : StartBy) (j l : StreamId) → OfKind i (making_calls.make_transform kind m n start j l s).done.slots (making_calls.make_transform kind m n start j l s).done.caused
halved i s k kind m n start j l =
    let me : TransformId = record { 0 = length s.transforms } in
    let w : Stream = WritableStream (writable.set_up (HalfOf me) m Count) in
    let r : Stream = ReadableStream (readable.set_up (HalfOf me) n Count) in
    let first : Effect = making_calls.start_transform (next_id (fresh s.promises)) l start in
    let one : OfKind i (add_stream w s) [] = made i s k w [] (λ m n. tt) tt in
    let two = made i (add_stream w s) one r (making_calls.make_transform kind m n start j l s).done.caused (λ m n. tt)
    (tt, (tt, (tt, (tt, (calm_takes first (start-calm (next_id (fresh s.promises)) l start), tt))))) in
    record { default_taken = two.default_taken; byob_taken = two.byob_taken; kind = two.kind }

-- a tee takes its source, which was there, and its branches are new
teed : (i : StreamId) (s : Slots) → OfKind i s [] → (source j l : StreamId) → has_readable source s ≡ true → is_some (source_at source s).reader ≡ false
    → OfKind i (making_calls.make_tee source j l s).done.slots (making_calls.make_tee source j l s).done.caused
teed i s k source j l there free =
    let me : TeeId = record { 0 = length s.tees } in
    let x : Stream = ReadableStream (readable.set_up (BranchOf me First) 1 Count) in
    let y : Stream = ReadableStream (readable.set_up (BranchOf me Second) 1 Count) in
    let new : tee.Slots = tee.set_up source j l (next_id (fresh s.promises)) in
    let first : Slots = add_stream x s in
    let both : Slots = add_stream y first in
    let one : OfKind i first [] = made i s k x [] (λ m n. tt) tt in
    let two : OfKind i both [] = made i first one y [] (λ m n. tt) tt in
    let here : slice_get first.streams source.0 ≡ slice_get s.streams source.0 = before_one source s.streams x there in
    let after : slice_get both.streams source.0 ≡ slice_get s.streams source.0 = before_one source first.streams y (rw here there) ∙ here in
    let open_ : is_some (source_at source both).reader ≡ false = rw after free in
    let m = inner-one (has_default i) s.locks refl in
    let n = inner-one (has_byob i) s.locks refl in
    let p = tees-append Reading i s.tees new in
    default-enters i both two (making_calls.make_tee source j l s).done.slots (making_calls.make_tee source j l s).done.caused (is_same i source) (omega (arith, n)) (omega (arith, m, p)) refl (omega arith) refl (unlocked i both two source open_)

-- a port, and its stream, which is new

started : (i : StreamId) (side : PortSide) (j : StreamId) (z : Slots) (es : List Effect) → OfKind i z es → OfKind i z (pipe_calls.start_end j side ∷ es)
started i side j z es k =
    let first : List Effect = pipe_calls.start_end j side ∷ [] in
    let none : Each IsNoTake first = (calm_takes (pipe_calls.start_end j side) (end-calm side j), tt) in
    let d = default_none-all i first none in
    let b = byob_none-all i first none in
    let m = k.default_taken in
    let n = k.byob_taken in
    record { default_taken = omega (arith, d, m); byob_taken = omega (arith, b, n); kind = k.kind }

ported : (i : StreamId) (s : Slots) → OfKind i s [] → (side : PortSide) → OfKind i (pipe_calls.add_port (record { 0 = length s.streams }) s side) []
ported i s k ReadableSide =
    let one = made i s k (ReadableStream (readable.set_up (EndOf (record { 0 = length s.ports })) 0 Count)) [] (λ m n. tt) tt in
    record { default_taken = one.default_taken; byob_taken = one.byob_taken; kind = one.kind }
ported i s k WritableSide =
    let one = made i s k (WritableStream (writable.set_up (EndOf (record { 0 = length s.ports })) 1 Count)) [] (λ m n. tt) tt in
    record { default_taken = one.default_taken; byob_taken = one.byob_taken; kind = one.kind }

-- and a pipe takes it, with a stream that was there

sent_readable : (i : StreamId) (s : Slots) → OfKind i s [] → (source : StreamId) → has_source source s ≡ true → is_some (source_at source s).reader ≡ false
    → let b : Begun = pipe_calls.send_readable source (record { 0 = length s.streams }) s in OfKind i b.done.slots b.done.caused
sent_readable i s k source there free =
    let j : StreamId = record { 0 = length s.streams } in
    let w : Stream = WritableStream (writable.set_up (EndOf (record { 0 = length s.ports })) 1 Count) in
    let z : Slots = pipe_calls.add_port j s WritableSide in
    let here : slice_get z.streams source.0 ≡ slice_get s.streams source.0 = source-stays (slice_get s.streams source.0) s.streams w source.0 refl there in
    started i WritableSide j _ _ (piped i z (ported i s k WritableSide) source j pipe_calls.no_prevent None (rw here free))

sent_writable : (i : StreamId) (s : Slots) → OfKind i s [] → (dest : StreamId) → let b : Begun = pipe_calls.send_writable dest (record { 0 = length s.streams }) s in OfKind i b.done.slots b.done.caused
sent_writable i s k dest =
    let j : StreamId = record { 0 = length s.streams } in
    let r : Stream = ReadableStream (readable.set_up (EndOf (record { 0 = length s.ports })) 0 Count) in
    let z : Slots = pipe_calls.add_port j s ReadableSide in
    let new : slice_get z.streams j.0 ≡ Some r = place_last s.streams r in
    started i ReadableSide j _ _ (piped i z (ported i s k ReadableSide) j dest pipe_calls.no_prevent None (rw new refl))

pub call-kind : (i : StreamId) (c : Call) (s : Slots) → OfKind i s [] → OfKind i (begin c s).done.slots (begin c s).done.caused
call-kind i c s k =
    let still : (z : Slots) (es : List Effect) → z.locks ≡ s.locks → z.pipes ≡ s.pipes → z.tees ≡ s.tees → z.streams ≡ s.streams → Each IsNoTake es → OfKind i z es = quiet i s k in
    each_call (λ (b : Begun). OfKind i b.done.slots b.done.caused) c s (record {
      unchanged = λ reply. k;
      rejected = λ fault. still _ _ refl refl refl refl (tt, tt);
      make_readable = λ mark size start. made i s k (ReadableStream (readable.set_up Host mark size)) _ (λ m n. tt) (tt, tt);
      make_bytes = λ mark auto start. made i s k (ByteStream (byte.set_up mark auto)) _ (new-bytes mark auto) (tt, tt);
      make_writable = λ mark size start. made i s k (WritableStream (writable.set_up Host mark size)) _ (λ m n. tt) (tt, tt);
      make_tee = λ j e there free untied. teed i s k j (record { 0 = length s.streams }) (record { 0 = length s.streams + 1 }) there free;
      make_transform = λ kind m n start. halved i s k kind m n start (record { 0 = length s.streams }) (record { 0 = length s.streams + 1 });
      get_reader = λ j free.
          let l : Lock = Reader (Some j) (next_id s.promises) in
          let m = count-append (has_default i) s.locks l in
          let n = count-append (has_byob i) s.locks l in
          default-enters i s k (making_calls.get_reader j s).done.slots (making_calls.get_reader j s).done.caused (is_same i j) (omega (arith, n)) (omega (arith, m)) refl (omega arith) refl (unlocked i s k j free);
      get_byob = λ j is free.
          let l : Lock = ByobReader (Some j) (next_id s.promises) in
          let m = count-append (has_default i) s.locks l in
          let n = count-append (has_byob i) s.locks l in
          byob-enters i s k (making_calls.get_byob j s).done.slots (making_calls.get_byob j s).done.caused (is_same i j) (omega (arith, n)) (omega (arith, m)) refl refl (omega arith) (unlocked i s k j free);
      get_writer = λ j free.
          let m = count-append (has_default i) s.locks (WriterLock j) in
          let n = count-append (has_byob i) s.locks (WriterLock j) in
          leaves i s k (making_calls.get_writer j s).done.slots (making_calls.get_writer j s).done.caused (omega (arith, n)) (omega (arith, m)) refl refl refl;
      release_reader = λ l closed j e. released i s k l j closed (Reader (Some j) closed) (Reader None) e (λ p. (refl, refl));
      release_byob = λ l closed j e. released i s k l j closed (ByobReader (Some j) closed) (ByobReader None) e (λ p. (refl, refl));
      release_writer = λ l j w e f. writer-released i s k l j w e;
      cancel = λ reason j. still _ _ refl refl refl refl (tt, tt);
      read = λ l j closed e f. still _ _ refl refl refl refl (tt, tt);
      read_into = λ l j closed room element least e f. still _ _ refl refl refl refl (tt, tt);
      write = λ l v j e. still _ _ refl refl refl refl (tt, tt);
      close = λ j. still _ _ refl refl refl refl (tt, tt);
      abort = λ reason j e. still _ _ refl refl refl refl (tt, tt);
      enqueue = λ j v e o can. still _ _ refl refl refl refl (tt, tt);
      enqueue_half = λ j t v e o can. still _ _ refl refl refl refl (tt, tt);
      enqueue_bytes = λ j b e is some can. still _ _ refl refl refl refl (tt, tt);
      finish = λ j. still _ _ refl refl refl refl (tt, tt);
      finish_bytes = λ j e is can. still _ _ refl refl refl refl (tt, tt);
      make_request = λ j reply is. still _ _ refl refl refl refl (tt, tt);
      respond = λ r j b e is can. still _ _ refl refl refl refl (tt, tt);
      fail_readable = λ j reason. still _ _ refl refl refl refl (tt, tt);
      fail_writable = λ j reason. still _ _ refl refl refl refl (tt, tt);
      fail_half = λ t reason. still _ _ refl refl refl refl (tt, tt);
      terminate = λ t. still _ _ refl refl refl refl (tt, tt);
      pipe = λ source dest prevent signal e f free writer. piped i s k source dest prevent signal free;
      make_signal = still _ _ refl refl refl refl tt;
      open_end = λ side. started i side (record { 0 = length s.streams }) _ [] (ported i s k side);
      send_readable = λ source there free. sent_readable i s k source there free;
      send_writable = λ dest there free. sent_writable i s k dest;
      deliver = λ c m asked has. still _ _ refl refl refl refl (tt, tt);
      trigger = λ a reason. still _ _ refl refl refl refl (tt, tt);
      settle = λ h answer q e. still _ _ refl refl refl refl (tt, tt);
    })
