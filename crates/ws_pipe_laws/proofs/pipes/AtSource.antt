-- The reads of a pipe are at its source alone, and what it is about to keep.
use Rattle.std.proofs.Common.{◌≡◌, ◌≢◌, ℕ, zero, suc, ◌+◌, ◌≤◌, Bool, true, false, nat_eq, if◌then◌else◌, List, [], ◌∷◌, ◌++◌, Option, Some, None, slice_get, slice_set, refl, sym, ap, ◌∙◌, arith}
use Rattle.ws_value.specs.declared.{ids.PipeId.{PipeId}, ids.StreamId.{StreamId}}
use Rattle.ws_value.specs.declared.value.{Plain.{Plain}, Value.{Value}}
use Rattle.ws_steps.specs.declared.effects.Effect.{Effect}
use Rattle.ws_steps.specs.declared.effects.Effect.TheVariants.{Readable as OnReadable, Writable as OnWritable, Pipe as OnPipe, ChunkSteps, CloseSteps, ErrorSteps}
use Rattle.ws_steps.specs.declared.pipes.{PipeOperation.TheVariants.{KeepChunk, GoOn}}
use Rattle.ws_steps.specs.declared.readable.{ReadRequest.{ReadRequest}, ReadRequest.TheVariants.{Promise, Pipe as PipeRequest, Tee as TeeRequest}, ReadableOperation.{ReadableOperation}, ReadableOperation.TheVariants.{Read}}
use Rattle.ws_steps.specs.declared.writable.WritableOperation.{WritableOperation}
use Rattle.ws_steps.specs.Histories.{is_same}
use Rattle.ws_steps.specs.Operations.{readable_operation, writable_operation}
use Rattle.ws_pipe_laws.specs.pipes.PipeReads.{is_of, in_stream, in_streams}
use Rattle.ws_steps.specs.Pipes as pipe
use Rattle.ws_steps.specs.Pipes.{Acts}
use Rattle.ws_steps.specs.Readable as readable
use Rattle.ws_steps.specs.Slots.{Slots, Stream, ReadableStream, WritableStream, Done, nothing, has_readable, has_writable, readable_at, writable_at, put_readable, put_writable, on_readable, on_writable}
use Rattle.ws_steps.specs.Turns.{row, chunk_steps, close_steps, error_steps}
use Rattle.ws_laws.proofs.Lists.{Each}
use Rattle.ws_laws.proofs.OnReadable.{all_seen}
use Rattle.ws_laws.proofs.PipeDoes.{PipeCauses}
use Rattle.ws_laws.proofs.Apart.{IsApart, IsNoPipe, row-streams}
use Rattle.ws_laws.proofs.Causes.{row-causes}
use Rattle.ws_laws.proofs.Tables.{either, readable_acts, writable_acts, readable_there, writable_there, eq_numbers, unequal_numbers, is_same-refl}
use Rattle.ws_writable_laws.proofs.Shape.{all, all-append}
use Rattle.ws_pipe_laws.proofs.pipes.Reading.{of_readable, of_effect, IsNone, none-all, readable-hands}
use Rattle.ws_pipe_laws.proofs.pipes.PassingRuns.{streams-set, IsIdle, idle-causes}
use Rattle.ws_steps.specs.declared.effects.Effect.TheVariants.{CloseStepsWith}
use Rattle.ws_steps.specs.Slots.{ByteStream, has_byte, byte_at, on_byte, put_byte}
use Rattle.ws_steps.specs.Turns.{on_source}
use Rattle.ws_steps.specs.declared.effects.Effect.TheVariants.{Byte}
use Rattle.ws_steps.specs.declared.byte.ByteOperation.{ByteOperation}
use Rattle.ws_steps.specs.Operations.{byte_operation, byte_readable_operation}
use Rattle.ws_laws.proofs.ByteDoes.{byte_readable-does}
use Rattle.ws_laws.proofs.Tables.{byte_acts, byte_there}
use Rattle.ws_laws.proofs.Causes.{of-causes, ReadableCauses}
use Rattle.ws_laws.proofs.ReadableDoes.{readable-does}
use Rattle.ws_pipe_laws.proofs.pipes.Reading.{ByteHands, byte_given, byte_readable_given, of_byte}
use Rattle.ws_steps.specs.Effects.{Out}
use Rattle.ws_steps.specs.Bytes as byte
use Rattle.ws_steps.specs.Turns.{close_steps_with}

-- the reads in streams but the one of this number

abbrev pub except : PipeId → ℕ → List Stream → ℕ
except p n [] = 0
except p zero (x ∷ xs) = in_streams p xs
except p (suc n) (x ∷ xs) = in_stream p x + except p n xs

pub except_few : (p : PipeId) (n : ℕ) (xs : List Stream) → except p n xs ≤ in_streams p xs
except_few p n [] = omega arith
except_few p zero (x ∷ xs) = omega arith
except_few p (suc n) (x ∷ xs) = let h = except_few p n xs in omega (arith, h)

pub except-same : (p : PipeId) (n : ℕ) (xs : List Stream) (y : Stream) → except p n (slice_set xs n y) ≡ except p n xs
except-same p n [] y = refl
except-same p zero (x ∷ xs) y = refl
except-same p (suc n) (x ∷ xs) y = let h = except-same p n xs y in omega (arith, h)

pub except-set : (p : PipeId) (n : ℕ) (xs : List Stream) (j : ℕ) (x y : Stream) → n ≢ j → slice_get xs j ≡ Some x → except p n (slice_set xs j y) + in_stream p x ≡ except p n xs + in_stream p y
except-set p n [] j x y d is = cc
except-set p zero (z ∷ zs) zero x y d is = absurd (d refl)
except-set p zero (z ∷ zs) (suc j) x y d is = streams-set p zs j x y is
except-set p (suc n) (z ∷ zs) zero x y d is = let h : z ≡ x = cc in let k = ap (in_stream p) h in omega (arith, k)
except-set p (suc n) (z ∷ zs) (suc j) x y d is = let h = except-set p n zs j x y (λ e. d (ap suc e)) is in omega (arith, h)

pub except-append : (p : PipeId) (n : ℕ) (xs : List Stream) (x : Stream) → in_stream p x ≡ 0 → except p n (xs ++ x ∷ []) ≡ except p n xs
except-append p zero [] x e = refl
except-append p (suc n) [] x e = omega (arith, e)
except-append p zero (z ∷ zs) x e = last zs
  where
    last : (zs : List Stream) → in_streams p (zs ++ x ∷ []) ≡ in_streams p zs
    last [] = omega (arith, e)
    last (z ∷ zs) = let h = last zs in omega (arith, h)
except-append p (suc n) (z ∷ zs) x e = let h = except-append p n zs x e in omega (arith, h)

module _ (p : PipeId) where
  -- the reads of the pipe that an effect leads on elsewhere than at stream j
  abbrev pub off : StreamId → Effect → ℕ
  off j (OnReadable i operation) = if is_same j i then 0 else of_readable p operation
  off j (Byte i operation) = if is_same j i then 0 else of_byte p operation
  off j (ChunkSteps i request v) = if is_same j i then 0 else is_of p request
  off j (CloseSteps i request) = if is_same j i then 0 else is_of p request
  off j (CloseStepsWith i request b) = if is_same j i then 0 else is_of p request
  off j (ErrorSteps i request e) = if is_same j i then 0 else is_of p request
  off j _ = 0

  pub fewer_or : (b : Bool) (n : ℕ) → (if b then 0 else n) ≤ n
  fewer_or true n = omega arith
  fewer_or false n = omega arith

  pub off_few : (j : StreamId) (e : Effect) → off j e ≤ of_effect p e
  off_few j (OnReadable i operation) = fewer_or (is_same j i) (of_readable p operation)
  off_few j (Byte i operation) = fewer_or (is_same j i) (of_byte p operation)
  off_few j (ChunkSteps i request v) = fewer_or (is_same j i) (is_of p request)
  off_few j (CloseSteps i request) = fewer_or (is_same j i) (is_of p request)
  off_few j (CloseStepsWith i request b) = fewer_or (is_same j i) (is_of p request)
  off_few j (ErrorSteps i request e) = fewer_or (is_same j i) (is_of p request)
  off_few j e = omega arith

  pub all_off : (j : StreamId) (es : List Effect) → all (off j) es ≤ all (of_effect p) es
  all_off j [] = omega arith
  all_off j (e ∷ es) = let n = off_few j e in let m = all_off j es in omega (arith, n, m)

  -- the chunks that the pipe is about to keep
  abbrev pub kept_of : Effect → List Value
  kept_of (OnPipe q (KeepChunk v)) = if nat_eq p.0 q.0 then v ∷ [] else []
  kept_of _ = []

  abbrev pub kept : List Effect → List Value
  kept es = all_seen kept_of es

  pub one_kept : (q : PipeId) (v : Value) (b : Bool) → (if b then 1 else 0) ≤ 0 → ◌≡◌ {A = List Value} (if b then v ∷ [] else []) []
  one_kept q v true n = absurd (omega (arith, n))
  one_kept q v false n = refl

  pub kept_one : (e : Effect) → of_effect p e ≤ 0 → kept_of e ≡ []
  kept_one (OnPipe q (KeepChunk v)) n = one_kept q v (nat_eq p.0 q.0) n
  kept_one e n = refl

  pub none_kept : (es : List Effect) → all (of_effect p) es ≤ 0 → kept es ≡ []
  none_kept [] n = refl
  none_kept (e ∷ es) n = rw (kept_one e (omega (arith, n)), none_kept es (omega (arith, n))) refl

  abbrev pub KeepsNone : Effect → Type 0
  KeepsNone e = kept_of e ≡ []

  pub each_none : (es : List Effect) → Each KeepsNone es → kept es ≡ []
  each_none [] n = refl
  each_none (e ∷ es) n = rw (n.0, each_none es n.1) refl

  pub pipe_keeps : (q : PipeId) (source dest : StreamId) (e : Effect) → PipeCauses q source dest e → KeepsNone e
  pipe_keeps q source dest (OnPipe r GoOn) c = refl
  pipe_keeps q source dest (OnPipe r operation) c = absurd c
  pipe_keeps q source dest _ c = refl

  -- an effect leads on as many reads elsewhere as it stands for

  abbrev pub Off : StreamId → Slots → ℕ → Done → Type 0
  Off j s n d = except p j.0 d.slots.streams + all (off j) d.caused ≤ except p j.0 s.streams + n

  abbrev pub OffNone : StreamId → Effect → Type 0
  OffNone j e = off j e ≡ 0

  pub off_none : (j : StreamId) (es : List Effect) → Each (OffNone j) es → all (off j) es ≡ 0
  off_none j [] n = refl
  off_none j (e ∷ es) n = let a = n.0 in let b = off_none j es n.1 in omega (arith, a, b)

  abbrev pub OffAll : StreamId → Effect → Type 0
  OffAll j e = off j e ≡ of_effect p e

  pub off_all : (j : StreamId) (es : List Effect) → Each (OffAll j) es → all (off j) es ≡ all (of_effect p) es
  off_all j [] n = refl
  off_all j (e ∷ es) n = let a = n.0 in let b = off_all j es n.1 in omega (arith, a, b)

  default-causes : (Q : Effect → Type 0) (i : StreamId) (operation : ReadableOperation) (s : Slots) → ReadableCauses Q i → Each Q (on_readable (readable_operation i operation) i s).caused
  default-causes Q i operation s c =
      either (λ (d : Done). Each Q d.caused) (has_readable i s) (put_readable i s (readable_operation i operation (readable_acts i s))) (nothing s)
      (λ there. readable-does (λ (x : Out). Each Q x.effects) i (of-causes Q i c) operation (readable_acts i s) tt) (λ absent. tt)

  byte-causes : (Q : Effect → Type 0) (i : StreamId) (operation : ReadableOperation) (s : Slots) → ReadableCauses Q i → Each Q (on_byte (byte_readable_operation i operation) i s).caused
  byte-causes Q i operation s c =
      either (λ (d : Done). Each Q d.caused) (has_byte i s) (put_byte i s (byte_readable_operation i operation (byte_acts i s))) (nothing s)
      (λ there. byte_readable-does (λ (x : Out). Each Q x.effects) i (of-causes Q i c) operation (byte_acts i s) tt) (λ absent. tt)

  default-off : (j i : StreamId) (operation : ReadableOperation) (s : Slots) (same : Bool) → is_same j i ≡ same
      → Off j s (if same then 0 else of_readable p operation) (on_readable (readable_operation i operation) i s)
  unfolding row
  default-off j i operation s true e =
      let b : readable.Acts = readable_operation i operation (readable_acts i s) in
      let n : Each (OffNone j) (on_readable (readable_operation i operation) i s).caused = default-causes (OffNone j) i operation s
      (record { pull = refl; cancel = λ r q. refl; chunk = λ request v. rw e refl; close = λ request. rw e refl; error = λ request r. rw e refl }) in
      let none = off_none j (on_readable (readable_operation i operation) i s).caused n in
      let is : j.0 ≡ i.0 = eq_numbers j.0 i.0 e in
      either (λ (d : Done). all (off j) d.caused ≡ 0 → Off j s 0 d) (has_readable i s) (put_readable i s b) (nothing s)
      (λ h m. let k = except-same p j.0 s.streams (ReadableStream b.slots) in let f = ap (λ (n : ℕ). except p j.0 (slice_set s.streams n (ReadableStream b.slots))) is in omega (arith, m, k, f))
      (λ h m. omega (arith, m)) none
  default-off j i operation s false e =
      let b : readable.Acts = readable_operation i operation (readable_acts i s) in
      let n : Each (OffAll j) (on_readable (readable_operation i operation) i s).caused = default-causes (OffAll j) i operation s
      (record { pull = refl; cancel = λ r q. refl; chunk = λ request v. rw e refl; close = λ request. rw e refl; error = λ request r. rw e refl }) in
      let same = off_all j (on_readable (readable_operation i operation) i s).caused n in
      let h = readable-hands p i operation (readable_acts i s) in
      either (λ (d : Done). all (off j) d.caused ≡ all (of_effect p) d.caused → Off j s (of_readable p operation) d) (has_readable i s) (put_readable i s b) (nothing s)
      (λ there m.
      let k = except-set p j.0 s.streams i.0 (ReadableStream (readable_at i s)) (ReadableStream b.slots) (unequal_numbers j.0 i.0 e) (readable_there (slice_get s.streams i.0) there) in
      omega (arith, m, h, k))
      (λ there m. omega (arith, m)) same

  -- of a byte stream
  on_byte-off : (n : ℕ) (j i : StreamId) (operation : byte.Acts → byte.Acts) (s : Slots) (same : Bool) → is_same j i ≡ same → ByteHands p n (byte_acts i s) (operation (byte_acts i s))
      → (same ≡ true → Each (OffNone j) (on_byte operation i s).caused) → (same ≡ false → Each (OffAll j) (on_byte operation i s).caused) → Off j s (if same then 0 else n) (on_byte operation i s)
  on_byte-off n j i operation s true e h none all_of =
      let b : byte.Acts = operation (byte_acts i s) in
      let is : j.0 ≡ i.0 = eq_numbers j.0 i.0 e in
      either (λ (d : Done). all (off j) d.caused ≡ 0 → Off j s 0 d) (has_byte i s) (put_byte i s b) (nothing s)
      (λ h m. let k = except-same p j.0 s.streams (ByteStream b.slots) in let f = ap (λ (n : ℕ). except p j.0 (slice_set s.streams n (ByteStream b.slots))) is in omega (arith, m, k, f))
      (λ h m. omega (arith, m)) (off_none j (on_byte operation i s).caused (none refl))
  on_byte-off n j i operation s false e h none all_of =
      let b : byte.Acts = operation (byte_acts i s) in
      either (λ (d : Done). all (off j) d.caused ≡ all (of_effect p) d.caused → Off j s n d) (has_byte i s) (put_byte i s b) (nothing s)
      (λ there m.
      let k = except-set p j.0 s.streams i.0 (ByteStream (byte_at i s)) (ByteStream b.slots) (unequal_numbers j.0 i.0 e) (byte_there (slice_get s.streams i.0) there) in
      omega (arith, m, h, k))
      (λ there m. omega (arith, m)) (off_all j (on_byte operation i s).caused (all_of refl))

  pub byte-off : (j i : StreamId) (operation : ByteOperation) (s : Slots) (same : Bool) → is_same j i ≡ same → Off j s (if same then 0 else of_byte p operation) (on_byte (byte_operation i operation) i s)
  unfolding row
  byte-off j i operation s same e =
      on_byte-off (of_byte p operation) j i (byte_operation i operation) s same e (byte_given p i operation (byte_acts i s))
      (λ is. row-causes (OffNone j) (Byte i operation) s (record {
        readable = record { pull = refl; cancel = λ r q. refl; chunk = λ request v. rw (e, is) refl; close = λ request. rw (e, is) refl; error = λ request r. rw (e, is) refl };
        close_with = λ request b. rw (e, is) refl;
      }))
      (λ is. row-causes (OffAll j) (Byte i operation) s (record {
        readable = record { pull = refl; cancel = λ r q. refl; chunk = λ request v. rw (e, is) refl; close = λ request. rw (e, is) refl; error = λ request r. rw (e, is) refl };
        close_with = λ request b. rw (e, is) refl;
      }))

  pub readable-off : (j i : StreamId) (operation : ReadableOperation) (s : Slots) (same : Bool) → is_same j i ≡ same → Off j s (if same then 0 else of_readable p operation) (on_source operation i s)
  readable-off j i operation s same e =
      either (Off j s (if same then 0 else of_readable p operation)) (has_byte i s) (on_byte (byte_readable_operation i operation) i s) (on_readable (readable_operation i operation) i s)
      (λ there. on_byte-off (of_readable p operation) j i (byte_readable_operation i operation) s same e (byte_readable_given p i operation (byte_acts i s))
      (λ is. byte-causes (OffNone j) i operation s (record { pull = refl; cancel = λ r q. refl; chunk = λ request v. rw (e, is) refl; close = λ request. rw (e, is) refl; error = λ request r. rw (e, is) refl }))
      (λ is. byte-causes (OffAll j) i operation s (record { pull = refl; cancel = λ r q. refl; chunk = λ request v. rw (e, is) refl; close = λ request. rw (e, is) refl; error = λ request r. rw (e, is) refl })))
      (λ absent. default-off j i operation s same e)

  pub writable-off : (j i : StreamId) (operation : WritableOperation) (s : Slots) (same : Bool) → is_same j i ≡ same → except p j.0 (on_writable (writable_operation i operation) i s).slots.streams ≡ except p j.0 s.streams
  writable-off j i operation s true e =
      let b : Stream = WritableStream (writable_operation i operation (writable_acts i s)).slots in
      let is : j.0 ≡ i.0 = eq_numbers j.0 i.0 e in
      either (λ (d : Done). except p j.0 d.slots.streams ≡ except p j.0 s.streams) (has_writable i s) (put_writable i s (writable_operation i operation (writable_acts i s))) (nothing s)
      (λ h. sym (ap (λ (n : ℕ). except p j.0 (slice_set s.streams n b)) is) ∙ except-same p j.0 s.streams b)
      (λ h. refl)
  writable-off j i operation s false e =
      let b : Stream = WritableStream (writable_operation i operation (writable_acts i s)).slots in
      either (λ (d : Done). except p j.0 d.slots.streams ≡ except p j.0 s.streams) (has_writable i s) (put_writable i s (writable_operation i operation (writable_acts i s))) (nothing s)
      (λ h. let k = except-set p j.0 s.streams i.0 (WritableStream (writable_at i s)) b (unequal_numbers j.0 i.0 e) (writable_there (slice_get s.streams i.0) h) in omega (arith, k))
      (λ h. refl)

  pub idle-none : (s : Slots) (e : Effect) → IsIdle p e → all (of_effect p) (row e s).caused ≡ 0
  idle-none s e n = none-all p (row e s).caused (row-causes (IsNone p) e s (idle-causes p e n))

  pub idle-off : (j : StreamId) (s : Slots) (e : Effect) → IsIdle p e → except p j.0 (row e s).slots.streams ≡ except p j.0 s.streams → Off j s (off j e) (row e s)
  idle-off j s e n k = let c = idle-none s e n in let a = all_off j (row e s).caused in omega (arith, k, c, a)

  pub apart-off : (j : StreamId) (s : Slots) (e : Effect) → IsIdle p e → IsApart e → Off j s (off j e) (row e s)
  apart-off j s e n a = idle-off j s e n (ap (except p j.0) (row-streams e s a))

  pub chunk-off : (j : StreamId) (v : Value) (s : Slots) (request : ReadRequest) (n : ℕ) → Off j s n (chunk_steps v s request)
  chunk-off j v s (Promise q) n = omega arith
  chunk-off j v s (PipeRequest q) n = omega arith
  chunk-off j v s (TeeRequest t) n = omega arith

  pub close-off : (j : StreamId) (s : Slots) (request : ReadRequest) (n : ℕ) → Off j s n (close_steps s request)
  close-off j s (Promise q) n = omega arith
  close-off j s (PipeRequest q) n = omega arith
  close-off j s (TeeRequest t) n = omega arith

  pub close_with-off : (j : StreamId) (b : List ℕ) (s : Slots) (request : ReadRequest) (n : ℕ) → Off j s n (close_steps_with b s request)
  close_with-off j b s (Promise q) n = omega arith
  close_with-off j b s (PipeRequest q) n = omega arith
  close_with-off j b s (TeeRequest t) n = omega arith

  pub error-off : (j : StreamId) (e : Plain) (s : Slots) (request : ReadRequest) (n : ℕ) → Off j s n (error_steps e s request)
  error-off j e s (Promise q) n = omega arith
  error-off j e s (PipeRequest q) n = omega arith
  error-off j e s (TeeRequest t) n = omega arith

  pub row-off : (j : StreamId) (s : Slots) (e : Effect) → IsNoPipe e → Off j s (off j e) (row e s)
  unfolding row
  row-off j s (OnPipe q operation) n = absurd n
  row-off j s (OnReadable i operation) n = readable-off j i operation s (is_same j i) refl
  row-off j s (Byte i operation) n = byte-off j i operation s (is_same j i) refl
  row-off j s (OnWritable i operation) n = idle-off j s (OnWritable i operation) tt (writable-off j i operation s (is_same j i) refl)
  row-off j s (ChunkSteps i request v) n = chunk-off j v s request (off j (ChunkSteps i request v))
  row-off j s (CloseSteps i request) n = close-off j s request (off j (CloseSteps i request))
  row-off j s (CloseStepsWith i request b) n = close_with-off j b s request (off j (CloseStepsWith i request b))
  row-off j s (ErrorSteps i request e) n = error-off j e s request (off j (ErrorSteps i request e))
  row-off j s e n = apart-off j s e tt tt

  -- no read of the pipe is elsewhere than at its source
  abbrev pub Only : StreamId → List Stream → List Effect → Type 0
  Only j xs es = except p j.0 xs + all (off j) es ≤ 0

  abbrev pub OnlyAt : Option pipe.Slots → List Stream → List Effect → Type 0
  OnlyAt None xs es = Unit {0}
  OnlyAt (Some x) xs es = Only x.source xs es

  pub off-only : (j : StreamId) (s : Slots) (e : Effect) (es : List Effect) → Off j s (off j e) (row e s) → Only j s.streams (e ∷ es) → Only j (row e s).slots.streams ((row e s).caused ++ es)
  off-only j s e es k w = let a = all-append (off j) (row e s).caused es in omega (arith, k, w, a)

  pub other-only : (o : Option pipe.Slots) (s : Slots) (e : Effect) (es : List Effect) → ((j : StreamId) → Off j s (off j e) (row e s)) → OnlyAt o s.streams (e ∷ es) → OnlyAt o (row e s).slots.streams ((row e s).caused ++ es)
  other-only None s e es k w = tt
  other-only (Some x) s e es k w = off-only x.source s e es (k x.source) w

  -- what an operation of the pipe causes, it causes at its source

  pub own_off : (source : StreamId) (q : PipeId) (dest : StreamId) (e : Effect) → PipeCauses q source dest e → OffNone source e
  own_off source q dest (OnReadable i (Read request)) c = let same : is_same source i ≡ true = rw c.0 (is_same-refl source) in rw same refl
  own_off source q dest (OnReadable i operation) c = zero_or (is_same source i)
    where
      zero_or : (b : Bool) → ◌≡◌ {A = ℕ} (if b then 0 else 0) 0
      zero_or true = refl
      zero_or false = refl
  own_off source q dest (ChunkSteps i request v) c = absurd c
  own_off source q dest (CloseSteps i request) c = absurd c
  own_off source q dest (CloseStepsWith i request b) c = absurd c
  own_off source q dest (ErrorSteps i request e) c = absurd c
  own_off source q dest (Byte i operation) c = absurd c
  own_off source q dest _ c = refl
