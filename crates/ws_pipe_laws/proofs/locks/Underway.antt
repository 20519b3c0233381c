-- The reads of a pipe that are under way are one where it is reading, and else none: each effect keeps that.
use Rattle.std.proofs.Common.{◌≡◌, ℕ, zero, suc, ◌+◌, ◌≤◌, Bool, true, false, nat_eq, if◌then◌else◌, List, [], ◌∷◌, ◌++◌, length, Option, Some, None, slice_get, slice_set, refl, sym, ap, subst, ◌∙◌, arith}
use Rattle.ws_value.specs.declared.{ids.PipeId.{PipeId}, ids.PromiseId.{PromiseId}, ids.StreamId.{StreamId}}
use Rattle.ws_value.specs.declared.value.{Plain.{Plain}, Value.{Value}}
use Rattle.ws_steps.specs.declared.byte.ByteOperation.{ByteOperation}
use Rattle.ws_steps.specs.declared.byte.ByteOperation.TheVariants.{InitializeByobReader, PullInto}
use Rattle.ws_steps.specs.declared.effects.Effect.{Effect}
use Rattle.ws_steps.specs.declared.effects.Effect.TheVariants.{Readable as OnReadable, Byte, Writable as OnWritable, Pipe as OnPipe, ChunkSteps, CloseSteps, CloseStepsWith, ErrorSteps}
use Rattle.ws_steps.specs.declared.pipes.PipeOperation.{PipeOperation}
use Rattle.ws_steps.specs.declared.readable.{ReadRequest.{ReadRequest}, ReadRequest.TheVariants.{Promise, Pipe as PipeRequest, Tee as TeeRequest}, ReadableOperation.{ReadableOperation}, ReadableOperation.TheVariants.{InitializeReader, Read}}
use Rattle.ws_steps.specs.declared.writable.WritableOperation.{WritableOperation}
use Rattle.ws_steps.specs.Histories.{is_same}
use Rattle.ws_steps.specs.Operations.{readable_operation, byte_readable_operation, byte_operation, writable_operation, pipe_operation}
use Rattle.ws_steps.specs.Bytes as byte
use Rattle.ws_steps.specs.Pipes as pipe
use Rattle.ws_steps.specs.Readable as readable
use Rattle.ws_steps.specs.Slots.{Slots, Stream, ReadableStream, ByteStream, WritableStream, Done, nothing, found, ends_at, has_readable, has_byte, has_source, has_writable, readable_at, byte_at, writable_at, put_readable, put_byte, put_writable, on_readable, on_byte, on_writable, on_pipe_at}
use Rattle.ws_steps.specs.Turns.{row, on_source, chunk_steps, close_steps, close_steps_with, error_steps}
use Rattle.ws_steps.proofs.PromiseLaws.{slice_get-set_other}
use Rattle.ws_laws.proofs.Lists.{each-map}
use Rattle.ws_laws.proofs.PipeDoes.{pipe-causes}
use Rattle.ws_laws.proofs.Apart.{IsApart, IsNoPipe, row-pipes, row-streams}
use Rattle.ws_laws.proofs.Causes.{Causes, row-causes}
use Rattle.ws_laws.proofs.Tables.{either, is_same-refl, readable_acts, byte_acts, writable_acts, readable_there, byte_there, writable_there, eq_numbers, unequal_numbers}
use Rattle.ws_laws.proofs.Truth.{false_true}
use Rattle.ws_writable_laws.proofs.Shape.{all, all-append}
use Rattle.ws_pipe_laws.specs.pipes.PipeReads.{held_values, one_if, in_requests, in_stream, in_streams}
use Rattle.ws_pipe_laws.specs.pipes.PipeMoves.{starting}
use Rattle.ws_pipe_laws.specs.pipes.PipeReads.{is_of}
use Rattle.ws_pipe_laws.proofs.pipes.Reading.{is_answer, of_readable, of_byte, of_effect, IsNone, none-all, no_answer, other-none, transform-none}
use Rattle.ws_pipe_laws.specs.locks.Locks.{Reading, holders, is_locked}
use Rattle.ws_pipe_laws.proofs.locks.Agenda.{takes, goes, TakesFirst}
use Rattle.ws_pipe_laws.proofs.locks.Asking.{requests_at, any, EachQueued, Asks, read-locked, read-meant, locked-there, one_at_most, place_same}
use Rattle.ws_pipe_laws.proofs.locks.ReaderKinds.{OfKind}
use Rattle.ws_pipe_laws.proofs.locks.Requests.{count}
use Rattle.ws_pipe_laws.proofs.locks.Rows.{is_there, Balanced}
use Rattle.ws_pipe_laws.proofs.locks.Under.{Evenly, operation-evenly, readable-hands, HandsBytes, byte_readable-hands, byte-hands}

-- a place in the table of pipes

abbrev pub has_held : Option pipe.Slots → ℕ
has_held None = 0
has_held (Some x) = length (held_values x.held)

abbrev pub reads_now : Option pipe.Slots → Bool
reads_now None = false
reads_now (Some x) = x.reading

-- the streams, where one is put in the place of another
streams-set : (p : PipeId) (xs : List Stream) (j : ℕ) (x y : Stream) → slice_get xs j ≡ Some x → in_streams p (slice_set xs j y) + in_stream p x ≡ in_streams p xs + in_stream p y
streams-set p [] j x y is = cc
streams-set p (z ∷ zs) zero x y is = let h : z ≡ x = cc in let k = ap (in_stream p) h in omega (arith, k)
streams-set p (z ∷ zs) (suc j) x y is = let h = streams-set p zs j x y is in omega (arith, h)

-- a stream without a reader has no request of the pipe

few_of : (p : PipeId) (rs : List ReadRequest) → in_requests p rs ≤ count any rs
few_of p [] = omega arith
few_of p (r ∷ rs) = let n = one r in let rest = few_of p rs in omega (arith, n, rest)
  where
    one : (r : ReadRequest) → is_of p r ≤ 1
    one r = grind arith

unlocked_first : (n x : ℕ) (l there : Bool) (t : ℕ) → t ≡ 1 → one_if l + (t + n) ≡ x → x ≤ one_if there → l ≡ false
unlocked_first n x true there t one e few = let most = one_at_most there in absurd (omega (arith, one, e, few, most))
unlocked_first n x false there t one e few = refl

-- an effect by which a reader comes
comes-none : (p : PipeId) (i : StreamId) (s : Slots) (e : Effect) (es : List Effect) → takes Reading i e ≡ one_if (is_same i i) → Balanced Reading i s (e ∷ es) → EachQueued s → in_requests p (requests_at (slice_get s.streams i.0)) ≡ 0
comes-none p i s e es t b q =
    let l : is_locked Reading i s ≡ false = unlocked_first (all (takes Reading i) es) (holders Reading i s + all (goes Reading i) (e ∷ es)) (is_locked Reading i s) (is_there Reading (slice_get s.streams i.0))
    (takes Reading i e) (t ∙ ap one_if (is_same-refl i)) b.even b.few in
    let none = (q i).free l in
    let few = few_of p (requests_at (slice_get s.streams i.0)) in
    omega (arith, none, few)

-- what an operation finds: no request, where a reader comes; and a stream, where it reads
pub record Finds (p : PipeId) (i : StreamId) (operation : ReadableOperation) (s : Slots) : Type 0 where
  pub none : (closed : PromiseId) → operation ≡ InitializeReader closed → in_requests p (requests_at (slice_get s.streams i.0)) ≡ 0
  pub there : has_source i s ≡ false → of_readable p operation ≡ 0
  pub meant : has_byte i s ≡ true → (request : ReadRequest) → operation ≡ Read request → byte.may_read (byte_at i s) ≡ true

-- and one of a byte controller, which reads for no pipe
pub record FindsBytes (p : PipeId) (i : StreamId) (operation : ByteOperation) (s : Slots) : Type 0 where
  pub none : (closed : PromiseId) → operation ≡ InitializeByobReader closed → in_requests p (requests_at (slice_get s.streams i.0)) ≡ 0
  pub given : of_byte p operation ≡ 0

read-there : (p : PipeId) (i : StreamId) (operation : ReadableOperation) (s : Slots) → ((request : ReadRequest) → operation ≡ Read request → has_source i s ≡ true) → has_source i s ≡ false → of_readable p operation ≡ 0
read-there p i (Read request) s k n = false_true (has_source i s) (k request refl) n
read-there p i _ s k n = refl

pub finds : (p : PipeId) (i : StreamId) (operation : ReadableOperation) (s : Slots) (es : List Effect) → TakesFirst (OnReadable i operation ∷ es) → Balanced Reading i s (OnReadable i operation ∷ es) → OfKind i s (OnReadable i operation ∷ es) → Asks s (OnReadable i operation ∷ es) → EachQueued s
    → Finds p i operation s
finds p i operation s es t b k asks q = record {
  none = λ closed e. comes-none p i s (OnReadable i (InitializeReader closed)) es refl (subst (λ (z : ReadableOperation). Balanced Reading i s (OnReadable i z ∷ es)) e b) q;
  there = read-there p i operation s (λ request e. locked-there (slice_get s.streams i.0) (read-locked s i operation es t b asks request e));
  meant = λ there request e. read-meant i s request es (subst (λ (z : ReadableOperation). TakesFirst (OnReadable i z ∷ es)) e t) (subst (λ (z : ReadableOperation). Balanced Reading i s (OnReadable i z ∷ es)) e b)
      (subst (λ (z : ReadableOperation). OfKind i s (OnReadable i z ∷ es)) e k) (subst (λ (z : ReadableOperation). Asks s (OnReadable i z ∷ es)) e asks) there;
}

into-given : (p : PipeId) (i : StreamId) (operation : ByteOperation) (s : Slots) (es : List Effect) → Asks s (Byte i operation ∷ es) → of_byte p operation ≡ 0
into-given p i (PullInto room element minimum request) s es asks = asks.promised p
into-given p i _ s es asks = refl

pub finds-bytes : (p : PipeId) (i : StreamId) (operation : ByteOperation) (s : Slots) (es : List Effect) → Balanced Reading i s (Byte i operation ∷ es) → Asks s (Byte i operation ∷ es) → EachQueued s → FindsBytes p i operation s
finds-bytes p i operation s es b asks q = record {
  none = λ closed e. comes-none p i s (Byte i (InitializeByobReader closed)) es refl (subst (λ (z : ByteOperation). Balanced Reading i s (Byte i z ∷ es)) e b) q;
  given = into-given p i operation s es asks;
}

module _ (p : PipeId) where
  -- the reads that are under way
  abbrev pub Under : Slots → List Effect → Type 0
  Under s es = in_streams p s.streams + all (of_effect p) es + has_held (slice_get s.pipes p.0) ≡ one_if (reads_now (slice_get s.pipes p.0))

  -- effects that are no operation of a pipe leave the pipes, and lead on as many reads as they stand for

  abbrev Carries : Slots → ℕ → Done → Type 0
  Carries s n d = in_streams p d.slots.streams + all (of_effect p) d.caused ≡ in_streams p s.streams + n

  carried : (s : Slots) (e : Effect) (es : List Effect) → IsNoPipe e → Carries s (of_effect p e) (row e s) → Under s (e ∷ es) → Under (row e s).slots ((row e s).caused ++ es)
  carried s e es n k w = let c = all-append (of_effect p) (row e s).caused es in rw (row-pipes e s n) (omega (arith, k, c, w))

  default-carries : (i : StreamId) (operation : ReadableOperation) (s : Slots) → has_byte i s ≡ false → Finds p i operation s → Carries s (of_readable p operation) (on_readable (readable_operation i operation) i s)
  default-carries i operation s kind f =
      let b : readable.Acts = readable_operation i operation (readable_acts i s) in
      either (Carries s (of_readable p operation)) (has_readable i s) (put_readable i s b) (nothing s)
      (λ e.
      let there = readable_there (slice_get s.streams i.0) e in
      let h = readable-hands p i operation (readable_acts i s) (λ closed is. subst (λ (o : Option Stream). in_requests p (requests_at o) ≡ 0) there (f.none closed is)) in
      let k = streams-set p s.streams i.0 (ReadableStream (readable_at i s)) (ReadableStream b.slots) there in omega (arith, h, k))
      (λ e. let none = f.there (rw (e, kind) refl) in omega (arith, none))

  put-carries : (n : ℕ) (i : StreamId) (s : Slots) (b : byte.Acts) → has_byte i s ≡ true → HandsBytes p i n (byte_acts i s) b → Carries s n (put_byte i s b)
  put-carries n i s b e h = let k = streams-set p s.streams i.0 (ByteStream (byte_at i s)) (ByteStream b.slots) (byte_there (slice_get s.streams i.0) e) in omega (arith, h, k)

  source-carries : (i : StreamId) (operation : ReadableOperation) (s : Slots) → has_byte i s ≡ true → Finds p i operation s → Carries s (of_readable p operation) (on_byte (byte_readable_operation i operation) i s)
  source-carries i operation s e f =
      let there = byte_there (slice_get s.streams i.0) e in
      rw e (put-carries (of_readable p operation) i s (byte_readable_operation i operation (byte_acts i s)) e
      (byte_readable-hands p i operation (byte_acts i s) (λ closed is. subst (λ (o : Option Stream). in_requests p (requests_at o) ≡ 0) there (f.none closed is)) (f.meant e)))

  readable-carries : (i : StreamId) (operation : ReadableOperation) (s : Slots) → Finds p i operation s → Carries s (of_readable p operation) (on_source operation i s)
  readable-carries i operation s f =
      either (Carries s (of_readable p operation)) (has_byte i s) (on_byte (byte_readable_operation i operation) i s) (on_readable (readable_operation i operation) i s)
      (λ e. source-carries i operation s e f) (λ kind. default-carries i operation s kind f)

  byte-carries : (i : StreamId) (operation : ByteOperation) (s : Slots) → FindsBytes p i operation s → Carries s (of_byte p operation) (on_byte (byte_operation i operation) i s)
  byte-carries i operation s f =
      let b : byte.Acts = byte_operation i operation (byte_acts i s) in
      either (Carries s (of_byte p operation)) (has_byte i s) (put_byte i s b) (nothing s)
      (λ e.
      let there = byte_there (slice_get s.streams i.0) e in
      put-carries (of_byte p operation) i s b e (byte-hands p i operation (byte_acts i s) (λ closed is. subst (λ (o : Option Stream). in_requests p (requests_at o) ≡ 0) there (f.none closed is)) f.given))
      (λ e. let none = f.given in omega (arith, none))

  writable-streams : (i : StreamId) (operation : WritableOperation) (s : Slots) → in_streams p (on_writable (writable_operation i operation) i s).slots.streams ≡ in_streams p s.streams
  writable-streams i operation s =
      either (λ (d : Done). in_streams p d.slots.streams ≡ in_streams p s.streams) (has_writable i s) (put_writable i s (writable_operation i operation (writable_acts i s))) (nothing s)
      (λ e. let k = streams-set p s.streams i.0 (WritableStream (writable_at i s)) (WritableStream (writable_operation i operation (writable_acts i s)).slots) (writable_there (slice_get s.streams i.0) e) in omega (arith, k))
      (λ e. refl)

  -- effects that lead no read on
  abbrev IsIdle : Effect → Type 0
  IsIdle (OnReadable i operation) = ⊥
  IsIdle (Byte i operation) = ⊥
  IsIdle (OnPipe q operation) = ⊥
  IsIdle (ChunkSteps i request v) = ⊥
  IsIdle (CloseSteps i request) = ⊥
  IsIdle (CloseStepsWith i request b) = ⊥
  IsIdle (ErrorSteps i request e) = ⊥
  IsIdle _ = Unit {0}

  idle-causes : (e : Effect) → IsIdle e → Causes (IsNone p) e
  idle-causes e n = grind (arith, n, no_answer, transform-none)

  idle-none : (e : Effect) → IsIdle e → of_effect p e ≡ 0
  idle-none e n = grind (arith, n)

  idle-carries : (s : Slots) (e : Effect) → IsIdle e → in_streams p (row e s).slots.streams ≡ in_streams p s.streams → Carries s (of_effect p e) (row e s)
  idle-carries s e n k = let c = none-all p (row e s).caused (row-causes (IsNone p) e s (idle-causes e n)) in let own = idle-none e n in omega (arith, k, c, own)

  apart-carries : (s : Slots) (e : Effect) → IsIdle e → IsApart e → Carries s (of_effect p e) (row e s)
  apart-carries s e n a = idle-carries s e n (ap (in_streams p) (row-streams e s a))

  -- the steps of a request go on to the pipe

  chunk-carries : (v : Value) (s : Slots) (request : ReadRequest) → Carries s (is_of p request) (chunk_steps v s request)
  chunk-carries v s (Promise q) = omega arith
  chunk-carries v s (PipeRequest q) = omega arith
  chunk-carries v s (TeeRequest t) = omega arith

  close-carries : (s : Slots) (request : ReadRequest) → Carries s (is_of p request) (close_steps s request)
  close-carries s (Promise q) = omega arith
  close-carries s (PipeRequest q) = omega arith
  close-carries s (TeeRequest t) = omega arith

  close_with-carries : (b : List ℕ) (s : Slots) (request : ReadRequest) → Carries s (is_of p request) (close_steps_with b s request)
  close_with-carries b s (Promise q) = omega arith
  close_with-carries b s (PipeRequest q) = omega arith
  close_with-carries b s (TeeRequest t) = omega arith

  error-carries : (e : Plain) (s : Slots) (request : ReadRequest) → Carries s (is_of p request) (error_steps e s request)
  error-carries e s (Promise q) = omega arith
  error-carries e s (PipeRequest q) = omega arith
  error-carries e s (TeeRequest t) = omega arith

  -- operations of pipes

  pipe-under : (q : PipeId) (operation : PipeOperation) (s : Slots) (es : List Effect) (o : Option pipe.Slots) (same : Bool) → slice_get s.pipes q.0 ≡ o → same ≡ nat_eq p.0 q.0 → Under s (OnPipe q operation ∷ es)
      → let d : Done = on_pipe_at (λ ends. pipe_operation q ends operation) q s o in Under d.slots (d.caused ++ es)
  pipe-under q operation s es None false e n w = let none : (if nat_eq p.0 q.0 then is_answer operation else 0) ≡ 0 = rw (← n) refl in omega (arith, w, none)
  pipe-under q operation s es None true e n w =
      let number : p.0 ≡ q.0 = eq_numbers p.0 q.0 (sym n) in
      let there : slice_get s.pipes p.0 ≡ None = rw number e in
      let none : in_streams p s.streams + (is_answer operation + all (of_effect p) es) + 0 ≡ 0 = rw (there, ← n) at w in
      rw there (omega (arith, none))
  pipe-under q operation s es (Some x) true e n w =
      let b : pipe.Acts = pipe_operation q (ends_at x s) operation (starting x s.promises) in
      let number : p.0 ≡ q.0 = eq_numbers p.0 q.0 (sym n) in
      let is : q ≡ p = ap (λ (n : ℕ). record { 0 = n }) (sym number) in
      let place : slice_get (slice_set s.pipes q.0 b.slots) p.0 ≡ Some b.slots = rw number (place_same s.pipes q.0 x b.slots e) in
      let there : slice_get s.pipes p.0 ≡ Some x = rw number e in
      let m : ℕ = in_streams p s.streams + all (of_effect p) es in
      let before : in_streams p s.streams + (is_answer operation + all (of_effect p) es) + length (held_values x.held) ≡ one_if x.reading = rw (there, ← n) at w in
      let after : Evenly m p b = subst (λ (r : PipeId). Evenly m p (pipe_operation r (ends_at x s) operation (starting x s.promises))) (sym is) (operation-evenly m p (ends_at x s) operation x s.promises (omega (arith, before))) in
      let c = all-append (of_effect p) b.out.effects es in
      rw place (omega (arith, after, c))
  pipe-under q operation s es (Some x) false e n w =
      let a : pipe.Acts = record { slots = x; out = found s } in
      let b : pipe.Acts = pipe_operation q (ends_at x s) operation a in
      let place : slice_get (slice_set s.pipes q.0 b.slots) p.0 ≡ slice_get s.pipes p.0 = slice_get-set_other s.pipes q.0 p.0 b.slots (λ i. unequal_numbers p.0 q.0 (sym n) (sym i)) in
      let none : all (of_effect p) b.out.effects ≡ 0 = none-all p b.out.effects (each-map _ (IsNone p) (other-none p q (sym n) x.source x.dest) b.out.effects (pipe-causes q (ends_at x s) operation a tt).1.1) in
      let own : (if nat_eq p.0 q.0 then is_answer operation else 0) ≡ 0 = rw (← n) refl in
      let c = all-append (of_effect p) b.out.effects es in
      rw place (omega (arith, none, c, w, own))

  pub row-under : (s : Slots) (e : Effect) (es : List Effect) → ((i : StreamId) (operation : ReadableOperation) → e ≡ OnReadable i operation → Finds p i operation s)
      → ((i : StreamId) (operation : ByteOperation) → e ≡ Byte i operation → FindsBytes p i operation s) → Under s (e ∷ es) → Under (row e s).slots ((row e s).caused ++ es)
  unfolding row
  row-under s (OnPipe q operation) es f g w = pipe-under q operation s es (slice_get s.pipes q.0) (nat_eq p.0 q.0) refl refl w
  row-under s (OnReadable i operation) es f g w = carried s (OnReadable i operation) es tt (readable-carries i operation s (f i operation refl)) w
  row-under s (Byte i operation) es f g w = carried s (Byte i operation) es tt (byte-carries i operation s (g i operation refl)) w
  row-under s (OnWritable i operation) es f g w = carried s (OnWritable i operation) es tt (idle-carries s (OnWritable i operation) tt (writable-streams i operation s)) w
  row-under s (ChunkSteps i request v) es f g w = carried s (ChunkSteps i request v) es tt (chunk-carries v s request) w
  row-under s (CloseSteps i request) es f g w = carried s (CloseSteps i request) es tt (close-carries s request) w
  row-under s (CloseStepsWith i request b) es f g w = carried s (CloseStepsWith i request b) es tt (close_with-carries b s request) w
  row-under s (ErrorSteps i request e) es f g w = carried s (ErrorSteps i request e) es tt (error-carries e s request) w
  row-under s e es f g w = carried s e es tt (apart-carries s e tt tt) w
