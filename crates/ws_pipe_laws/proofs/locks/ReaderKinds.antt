-- The kind of the reader of a byte stream is that of the one that has it, and no operation was asked of it that isn't meant: each effect keeps
-- that.
use Rattle.std.proofs.Common.{◌≡◌, ℕ, zero, suc, ◌+◌, ◌≤◌, Bool, true, false, is_some, List, [], ◌∷◌, ◌++◌, Option, Some, None, slice_get, slice_set, refl, sym, ap, subst, ◌∙◌, arith}
use Rattle.ws_value.specs.declared.{ids.PipeId.{PipeId}, ids.StreamId.{StreamId}}
use Rattle.ws_steps.specs.declared.byte.{ByteOperation.{ByteOperation}, ByteOperation.TheVariants.{InitializeByobReader}, ReaderKind.TheVariants.{Default, Byob}}
use Rattle.ws_steps.specs.declared.effects.{Effect.{Effect}, Effect.TheVariants.{Readable as OnReadable, Byte, Writable as OnWritable, Pipe as OnPipe}}
use Rattle.ws_steps.specs.declared.{locks.Lock.{Lock}, locks.Lock.TheVariants.{Reader, ByobReader, Writer as WriterLock, ReleasedWriter, Inner}}
use Rattle.ws_steps.specs.declared.pipes.PipeOperation.{PipeOperation}
use Rattle.ws_steps.specs.declared.readable.{ReadableOperation.{ReadableOperation}, ReadableOperation.TheVariants.{InitializeReader, ReleaseReader}}
use Rattle.ws_steps.specs.Bytes as byte
use Rattle.ws_steps.specs.Histories.{is_same}
use Rattle.ws_steps.specs.Operations.{byte_readable_operation, byte_operation, pipe_operation, writable_operation}
use Rattle.ws_steps.specs.Pipes as pipe
use Rattle.ws_steps.specs.Slots.{Slots, Stream, ReadableStream, ByteStream, WritableStream, Done, ends_at, has_byte, byte_at, on_byte, on_pipe_at, is_byte_stream}
use Rattle.ws_steps.specs.Turns.{row, on_source}
use Rattle.ws_laws.proofs.Lists.{Each, each-append}
use Rattle.ws_laws.proofs.Apart.{IsApart, IsNoPipe, row-locks, row-pipes, row-streams}
use Rattle.ws_laws.proofs.Causes.{row-causes}
use Rattle.ws_laws.proofs.StaysBytes.{row-byte}
use Rattle.ws_laws.proofs.Tables.{is_same-refl, same_id, byte_acts, byte_there, on_byte-same, on_byte-other, on_source-byte, on_source-other, on_writable-look}
use Rattle.ws_writable_laws.proofs.Shape.{all, all-append}
use Rattle.ws_promise_laws.proofs.Acting.{EachWaits}
use Rattle.ws_pipe_laws.specs.pipes.PipeMoves.{starting}
use Rattle.ws_pipe_laws.specs.pipes.PipeReads.{one_if}
use Rattle.ws_pipe_laws.specs.locks.Locks.{Reading, has_lock, holders, in_locks, in_pipes, in_tees, is_locked}
use Rattle.ws_pipe_laws.proofs.locks.Agenda.{takes, goes, reader_takes, byob_takes, IsNoTake, TakesFirst, takes_behind}
use Rattle.ws_pipe_laws.proofs.locks.ByteReaders.{Look, look, release-look, initialize-look, IsMeant, byte_readable-look, IsMeantBytes, byte-look}
use Rattle.ws_pipe_laws.proofs.locks.Holding.{pipes-set, row-in_tees}
use Rattle.ws_pipe_laws.proofs.locks.Piping.{operation-goes}
use Rattle.ws_pipe_laws.proofs.locks.Rows.{is_there, Balanced, take-causes, ending_over}

-- whether this is a default reader, or a BYOB reader, that has stream i

abbrev pub has_default : StreamId → Lock → Bool
has_default i (Reader (Some j) closed) = is_same i j
has_default i (Reader None closed) = false
has_default i (ByobReader stream closed) = false
has_default i (WriterLock j) = false
has_default i (ReleasedWriter w) = false
has_default i Inner = false

abbrev pub has_byob : StreamId → Lock → Bool
has_byob i (Reader stream closed) = false
has_byob i (ByobReader (Some j) closed) = is_same i j
has_byob i (ByobReader None closed) = false
has_byob i (WriterLock j) = false
has_byob i (ReleasedWriter w) = false
has_byob i Inner = false

abbrev pub count_locks : (Lock → Bool) → List Lock → ℕ
count_locks f [] = 0
count_locks f (l ∷ ls) = one_if (f l) + count_locks f ls

module _ (f : Lock → Bool) where
  pub count-append : (ls : List Lock) (l : Lock) → count_locks f (ls ++ l ∷ []) ≡ count_locks f ls + one_if (f l)
  count-append [] l = omega arith
  count-append (k ∷ ls) l = let n = count-append ls l in omega (arith, n)

  some_lock : (k l : Lock) → ◌≡◌ {A = Option Lock} (Some k) (Some l) → k ≡ l
  some_lock k l e = cc

  pub count-set : (n : ℕ) (ls : List Lock) (old new : Lock) → slice_get ls n ≡ Some old → count_locks f (slice_set ls n new) + one_if (f old) ≡ count_locks f ls + one_if (f new)
  count-set n [] old new e = cc
  count-set zero (k ∷ ls) old new e = rw (some_lock k old e) (omega arith)
  count-set (suc n) (k ∷ ls) old new e = let rest = count-set n ls old new e in omega (arith, rest)

  pub count-there : (n : ℕ) (ls : List Lock) (l : Lock) → slice_get ls n ≡ Some l → one_if (f l) ≤ count_locks f ls
  count-there n [] l e = cc
  count-there zero (k ∷ ls) l e = rw (some_lock k l e) (omega arith)
  count-there (suc n) (k ∷ ls) l e = let rest = count-there n ls l e in omega (arith, rest)

-- how many have the stream by a default reader, and by a BYOB reader

abbrev pub defaults : StreamId → Slots → ℕ
defaults i s = count_locks (has_default i) s.locks + (in_pipes Reading i s.pipes + in_tees Reading i s.tees)

abbrev pub byobs : StreamId → Slots → ℕ
byobs i s = count_locks (has_byob i) s.locks

pub holders-split : (i : StreamId) (s : Slots) → holders Reading i s ≡ defaults i s + byobs i s
holders-split i s = let n = locks-split s.locks in omega (arith, n)
  where
    locks-split : (ls : List Lock) → in_locks Reading i ls ≡ count_locks (has_default i) ls + count_locks (has_byob i) ls
    locks-split [] = refl
    locks-split (Reader (Some j) closed ∷ ls) = let n = locks-split ls in omega (arith, n)
    locks-split (Reader None closed ∷ ls) = let n = locks-split ls in omega (arith, n)
    locks-split (ByobReader (Some j) closed ∷ ls) = let n = locks-split ls in omega (arith, n)
    locks-split (ByobReader None closed ∷ ls) = let n = locks-split ls in omega (arith, n)
    locks-split (l ∷ ls) = let n = locks-split ls in omega (arith, n)

-- the lock of stream i is taken by a default reader, and by a BYOB reader

abbrev pub takes_default : StreamId → Effect → ℕ
takes_default i (OnReadable j operation) = reader_takes i j operation
takes_default i _ = 0

abbrev pub takes_byob : StreamId → Effect → ℕ
takes_byob i (Byte j operation) = byob_takes i j operation
takes_byob i _ = 0

default_none : (i : StreamId) (e : Effect) → IsNoTake e → takes_default i e ≡ 0
default_none i e n = grind (arith, n)

byob_none : (i : StreamId) (e : Effect) → IsNoTake e → takes_byob i e ≡ 0
byob_none i e n = grind (arith, n)

pub default_none-all : (i : StreamId) (es : List Effect) → Each IsNoTake es → all (takes_default i) es ≡ 0
default_none-all i [] n = refl
default_none-all i (e ∷ es) n = let k = default_none i e n.0 in let rest = default_none-all i es n.1 in omega (arith, k, rest)

pub byob_none-all : (i : StreamId) (es : List Effect) → Each IsNoTake es → all (takes_byob i) es ≡ 0
byob_none-all i [] n = refl
byob_none-all i (e ∷ es) n = let k = byob_none i e n.0 in let rest = byob_none-all i es n.1 in omega (arith, k, rest)

-- A byte stream is not marked; where it has a reader and a BYOB reader has it, that is the kind of its reader, and likewise of a default reader
pub record HasKind (l : Look) (byobs defaults : ℕ) : Type 0 where
  pub straight : l.astray ≡ false
  pub byob : l.locked ≡ true → 1 ≤ byobs → l.kind ≡ Byob
  pub default : l.locked ≡ true → 1 ≤ defaults → l.kind ≡ Default

abbrev pub byte_look : Option Stream → Option Look
byte_look None = None
byte_look (Some (ReadableStream r)) = None
byte_look (Some (ByteStream b)) = Some (look b)
byte_look (Some (WritableStream w)) = None

abbrev pub KindHeld : Option Look → ℕ → ℕ → Type 0
KindHeld None m n = Unit {0}
KindHeld (Some l) m n = HasKind l m n

-- and who is to take it on the agenda is among those
pub record OfKind (i : StreamId) (s : Slots) (es : List Effect) : Type 0 where
  pub default_taken : all (takes_default i) es ≤ defaults i s
  pub byob_taken : all (takes_byob i) es ≤ byobs i s
  pub kind : KindHeld (byte_look (slice_get s.streams i.0)) (byobs i s) (defaults i s)

pub fewer : (o : Option Look) (m n x y : ℕ) → x ≤ m → y ≤ n → KindHeld o m n → KindHeld o x y
fewer None m n x y p q k = tt
fewer (Some l) m n x y p q k = record { straight = k.straight; byob = λ e f. k.byob e (omega (arith, f, p)); default = λ e f. k.default e (omega (arith, f, q)) }

none-held : (o : Option Stream) (m n : ℕ) → is_byte_stream o ≡ false → KindHeld (byte_look o) m n
none-held None m n e = tt
none-held (Some (ReadableStream r)) m n e = tt
none-held (Some (ByteStream b)) m n e = cc
none-held (Some (WritableStream w)) m n e = tt

look-there : (o : Option Stream) (b : byte.Slots) → o ≡ Some (ByteStream b) → byte_look o ≡ Some (look b)
look-there o b e = ap byte_look e

-- an operation of a byte stream is meant
abbrev pub MeantAt : Slots → Effect → Type 0
MeantAt s (OnReadable j operation) = has_byte j s ≡ true → IsMeant j operation (byte_at j s)
MeantAt s (Byte j operation) = has_byte j s ≡ true → IsMeantBytes j operation (byte_at j s)
MeantAt s _ = Unit {0}

one_there : (b : Bool) → one_if b ≤ 1
one_there true = omega arith
one_there false = omega arith

-- where one that takes the stream stands first, it has no reader
unlocked_by : (n x : ℕ) (l there : Bool) → one_if l + (1 + n) ≡ x → x ≤ one_if there → l ≡ false
unlocked_by n x true there e few = let most = one_there there in absurd (omega (arith, e, few, most))
unlocked_by n x false there e few = refl

locked-look : (o : Option Stream) (b : byte.Slots) → o ≡ Some (ByteStream b) → has_lock Reading o ≡ is_some b.stream.reader
locked-look o b e = ap (has_lock Reading) e

module _ (i : StreamId) (s : Slots) (there : has_byte i s ≡ true) where
  here : slice_get s.streams i.0 ≡ Some (ByteStream (byte_at i s))
  here = byte_there (slice_get s.streams i.0) there

  held-look : (m n : ℕ) → KindHeld (byte_look (slice_get s.streams i.0)) m n → HasKind (look (byte_at i s)) m n
  held-look m n k = subst (λ (o : Option Look). KindHeld o m n) (look-there (slice_get s.streams i.0) (byte_at i s) here) k

  own-read : (operation : ReadableOperation) (es : List Effect) → Balanced Reading i s (OnReadable i operation ∷ es) → IsMeant i operation (byte_at i s) → OfKind i s (OnReadable i operation ∷ es)
      → HasKind (look (byte_readable_operation i operation (byte_acts i s)).slots) (byobs i s) (defaults i s)
  own-read (InitializeReader c) es b m k =
      let even = b.even in
      let few = b.few in
      let self = ap one_if (is_same-refl i) in
      let unlocked = unlocked_by (all (takes Reading i) es) (holders Reading i s + (0 + all (goes Reading i) es)) (is_locked Reading i s) (is_there Reading (slice_get s.streams i.0)) (omega (arith, even, self)) few in
      let free : is_some (byte_at i s).stream.reader ≡ false = sym (locked-look (slice_get s.streams i.0) (byte_at i s) here) ∙ unlocked in
      let split = holders-split i s in
      let most = one_there (is_there Reading (slice_get s.streams i.0)) in
      let taken = k.default_taken in
      rw (initialize-look i Default c (byte_acts i s) free)
      (record { straight = (held-look (byobs i s) (defaults i s) k.kind).straight; byob = λ l n. absurd (omega (arith, few, split, most, taken, self, n)); default = λ l n. refl })
  own-read ReleaseReader es b m k =
      rw (release-look i (byte_acts i s)) (record { straight = (held-look (byobs i s) (defaults i s) k.kind).straight; byob = λ l. cc; default = λ l. cc })
  own-read operation es b m k = rw (byte_readable-look i operation (byte_acts i s) tt m) (held-look (byobs i s) (defaults i s) k.kind)

  own-bytes : (operation : ByteOperation) (es : List Effect) → Balanced Reading i s (Byte i operation ∷ es) → IsMeantBytes i operation (byte_at i s) → OfKind i s (Byte i operation ∷ es)
      → HasKind (look (byte_operation i operation (byte_acts i s)).slots) (byobs i s) (defaults i s)
  own-bytes (InitializeByobReader c) es b m k =
      let even = b.even in
      let few = b.few in
      let self = ap one_if (is_same-refl i) in
      let unlocked = unlocked_by (all (takes Reading i) es) (holders Reading i s + (0 + all (goes Reading i) es)) (is_locked Reading i s) (is_there Reading (slice_get s.streams i.0)) (omega (arith, even, self)) few in
      let free : is_some (byte_at i s).stream.reader ≡ false = sym (locked-look (slice_get s.streams i.0) (byte_at i s) here) ∙ unlocked in
      let split = holders-split i s in
      let most = one_there (is_there Reading (slice_get s.streams i.0)) in
      let taken = k.byob_taken in
      rw (initialize-look i Byob c (byte_acts i s) free)
      (record { straight = (held-look (byobs i s) (defaults i s) k.kind).straight; byob = λ l n. refl; default = λ l n. absurd (omega (arith, few, split, most, taken, self, n)) })
  own-bytes operation es b m k = rw (byte-look i operation (byte_acts i s) tt m) (held-look (byobs i s) (defaults i s) k.kind)

-- an effect that leaves who has the stream
kept : (i : StreamId) (s z : Slots) (e : Effect) (es caused : List Effect) → z.locks ≡ s.locks → z.pipes ≡ s.pipes → in_tees Reading i z.tees ≡ in_tees Reading i s.tees → Each IsNoTake caused → KindHeld (byte_look (slice_get z.streams i.0)) (byobs i s) (defaults i s)
    → OfKind i s (e ∷ es) → OfKind i z (caused ++ es)
kept i s z e es caused locks pipes tees none held k =
    let d = default_none-all i caused none in
    let b = byob_none-all i caused none in
    let m = all-append (takes_default i) caused es in
    let n = all-append (takes_byob i) caused es in
    let p = k.default_taken in
    let q = k.byob_taken in
    rw (locks, pipes) (record {
      default_taken = omega (arith, d, m, p, tees);
      byob_taken = omega (arith, b, n, q);
      kind =
          fewer (byte_look (slice_get z.streams i.0)) (byobs i s) (defaults i s) (byobs i s) (count_locks (has_default i) s.locks + (in_pipes Reading i s.pipes + in_tees Reading i z.tees)) (omega arith)
          (omega (arith, tees)) held;
    })

module _ (i : StreamId) (s : Slots) where
  source-byte : (j : StreamId) (operation : ReadableOperation) → is_byte_stream (slice_get (on_source operation j s).slots.streams i.0) ≡ has_byte i s
  unfolding row
  source-byte j operation = row-byte i (OnReadable j operation) s

  bytes-byte : (j : StreamId) (operation : ByteOperation) → is_byte_stream (slice_get (on_byte (byte_operation j operation) j s).slots.streams i.0) ≡ has_byte i s
  unfolding row
  bytes-byte j operation = row-byte i (Byte j operation) s

  read-held : (j : StreamId) (operation : ReadableOperation) (es : List Effect) (same kind : Bool) → same ≡ is_same i j → kind ≡ has_byte i s → Balanced Reading i s (OnReadable j operation ∷ es) → MeantAt s (OnReadable j operation)
      → OfKind i s (OnReadable j operation ∷ es) → KindHeld (byte_look (slice_get (on_source operation j s).slots.streams i.0)) (byobs i s) (defaults i s)
  read-held j operation es false kind n e b m k = rw (on_source-other operation j s i (sym n)) k.kind
  read-held j operation es true true n e b m k =
      let is : i ≡ j = same_id i j (sym n) in
      let b : Balanced Reading i s (OnReadable i operation ∷ es) = subst (λ (z : StreamId). Balanced Reading i s (OnReadable z operation ∷ es)) (sym is) b in
      let m : MeantAt s (OnReadable i operation) = subst (λ (z : StreamId). MeantAt s (OnReadable z operation)) (sym is) m in
      let k : OfKind i s (OnReadable i operation ∷ es) = subst (λ (z : StreamId). OfKind i s (OnReadable z operation ∷ es)) (sym is) k in
      let now : slice_get (on_source operation i s).slots.streams i.0 ≡ Some (ByteStream (byte_readable_operation i operation (byte_acts i s)).slots) =
      ap (λ (d : Done). slice_get d.slots.streams i.0) (on_source-byte operation i s (sym e)) ∙ on_byte-same (byte_readable_operation i operation) i s (sym e) in
      let own = own-read i s (sym e) operation es b (m (sym e)) k in
      subst (λ (z : StreamId). KindHeld (byte_look (slice_get (on_source operation z s).slots.streams i.0)) (byobs i s) (defaults i s)) is
      (subst (λ (o : Option Look). KindHeld o (byobs i s) (defaults i s)) (sym (look-there _ _ now)) own)
  read-held j operation es true false n e b m k = none-held _ (byobs i s) (defaults i s) (source-byte j operation ∙ sym e)

  bytes-held : (j : StreamId) (operation : ByteOperation) (es : List Effect) (same kind : Bool) → same ≡ is_same i j → kind ≡ has_byte i s → Balanced Reading i s (Byte j operation ∷ es) → MeantAt s (Byte j operation)
      → OfKind i s (Byte j operation ∷ es) → KindHeld (byte_look (slice_get (on_byte (byte_operation j operation) j s).slots.streams i.0)) (byobs i s) (defaults i s)
  bytes-held j operation es false kind n e b m k = rw (on_byte-other (byte_operation j operation) j s i (sym n)) k.kind
  bytes-held j operation es true true n e b m k =
      let is : i ≡ j = same_id i j (sym n) in
      let b : Balanced Reading i s (Byte i operation ∷ es) = subst (λ (z : StreamId). Balanced Reading i s (Byte z operation ∷ es)) (sym is) b in
      let m : MeantAt s (Byte i operation) = subst (λ (z : StreamId). MeantAt s (Byte z operation)) (sym is) m in
      let k : OfKind i s (Byte i operation ∷ es) = subst (λ (z : StreamId). OfKind i s (Byte z operation ∷ es)) (sym is) k in
      let now = on_byte-same (byte_operation i operation) i s (sym e) in
      let own = own-bytes i s (sym e) operation es b (m (sym e)) k in
      subst (λ (z : StreamId). KindHeld (byte_look (slice_get (on_byte (byte_operation z operation) z s).slots.streams i.0)) (byobs i s) (defaults i s)) is
      (subst (λ (o : Option Look). KindHeld o (byobs i s) (defaults i s)) (sym (look-there _ _ now)) own)
  bytes-held j operation es true false n e b m k = none-held _ (byobs i s) (defaults i s) (bytes-byte j operation ∙ sym e)

  pipe-kept : (p : PipeId) (operation : PipeOperation) (es : List Effect) (o : Option pipe.Slots) → slice_get s.pipes p.0 ≡ o → Each IsNoTake es → EachWaits s (OnPipe p operation ∷ es) → OfKind i s (OnPipe p operation ∷ es)
      → let r : Done = on_pipe_at (λ ends. pipe_operation p ends operation) p s o in Each IsNoTake r.caused → OfKind i r.slots (r.caused ++ es)
  pipe-kept p operation es None e none waits k caused = let d = default_none-all i es none in let c = byob_none-all i es none in record { default_taken = omega (arith, d); byob_taken = omega (arith, c); kind = k.kind }
  pipe-kept p operation es (Some x) e none waits k caused =
      let b : pipe.Acts = pipe_operation p (ends_at x s) operation (starting x s.promises) in
      let same = operation-goes Reading i p (ends_at x s) operation x s.promises (ending_over p operation s x es e waits) in
      let set = pipes-set Reading i p.0 s.pipes x b.slots e in
      let n = each-append IsNoTake b.out.effects es caused none in
      let d = default_none-all i (b.out.effects ++ es) n in
      let c = byob_none-all i (b.out.effects ++ es) n in
      record {
        default_taken = omega (arith, d);
        byob_taken = omega (arith, c);
        kind = fewer (byte_look (slice_get s.streams i.0)) (byobs i s) (defaults i s) (byobs i s) (count_locks (has_default i) s.locks + (in_pipes Reading i (slice_set s.pipes p.0 b.slots) + in_tees Reading i s.tees)) (omega arith) (omega (arith, same, set)) k.kind;
      }

  apart-kept : (e : Effect) (es : List Effect) → IsApart e → IsNoPipe e → OfKind i s (e ∷ es) → OfKind i (row e s).slots ((row e s).caused ++ es)
  apart-kept e es a n k = kept i s (row e s).slots e es (row e s).caused (row-locks e s) (row-pipes e s n) (row-in_tees Reading i e s) (row-causes IsNoTake e s (take-causes e)) (rw (row-streams e s a) k.kind) k

pub row-kind : (i : StreamId) (s : Slots) (e : Effect) (es : List Effect) → TakesFirst (e ∷ es) → EachWaits s (e ∷ es) → Balanced Reading i s (e ∷ es) → MeantAt s e → OfKind i s (e ∷ es) → OfKind i (row e s).slots ((row e s).caused ++ es)
unfolding row
row-kind i s (OnReadable j operation) es t w b m k =
    let e : Effect = OnReadable j operation in
    kept i s (row e s).slots e es (row e s).caused (row-locks e s) (row-pipes e s tt) (row-in_tees Reading i e s) (row-causes IsNoTake e s (take-causes e)) (read-held i s j operation es (is_same i j) (has_byte i s) refl refl b m k) k
row-kind i s (Byte j operation) es t w b m k =
    let e : Effect = Byte j operation in
    kept i s (row e s).slots e es (row e s).caused (row-locks e s) (row-pipes e s tt) (row-in_tees Reading i e s) (row-causes IsNoTake e s (take-causes e)) (bytes-held i s j operation es (is_same i j) (has_byte i s) refl refl b m k) k
row-kind i s (OnWritable j operation) es t w b m k =
    let e : Effect = OnWritable j operation in
    kept i s (row e s).slots e es (row e s).caused (row-locks e s) (row-pipes e s tt) (row-in_tees Reading i e s) (row-causes IsNoTake e s (take-causes e))
    (rw (on_writable-look byte_look (λ b c. refl) (writable_operation j operation) j s i (is_same i j) refl) k.kind) k
row-kind i s (OnPipe p operation) es t w b m k =
    pipe-kept i s p operation es (slice_get s.pipes p.0) refl (takes_behind (OnPipe p operation) es tt tt t) w k (row-causes IsNoTake (OnPipe p operation) s (take-causes (OnPipe p operation)))
row-kind i s e es t w b m k = apart-kept i s e es tt tt k
