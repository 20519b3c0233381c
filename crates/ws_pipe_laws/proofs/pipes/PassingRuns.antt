-- What a pipe passes on, and its read under way, in every run (`each_pipe_passes`, `one_read_waits_at_most`).
use Rattle.ws_steps.specs.declared.port.Side.{Side}
use Rattle.ws_steps.specs.declared.port.Side.TheVariants.{Readable as ReadableSide, Writable as WritableSide}
use Rattle.std.proofs.Common.{◌≡◌, ◌⊎◌, inl, inr, ⊎_elim, ℕ, zero, suc, ◌+◌, ◌≤◌, Bool, true, false, nat_eq, List, [], ◌∷◌, ◌++◌, length, length-append, Option, Some, None, slice_get, slice_set, refl, sym, ap, subst, ◌∙◌, append_assoc, append-nil, arith}
use Rattle.ws_pipe_laws.proofs.pipes.Reading.{port-none}
use Rattle.ws_value.specs.declared.{ids.PipeId.{PipeId}, ids.PromiseId.{PromiseId}, ids.SignalId.{SignalId}, ids.StreamId.{StreamId}}
use Rattle.ws_value.specs.declared.value.{Plain.{Plain}, Value.{Value}}
use Rattle.ws_steps.specs.declared.calls.{Call.{Call}, StartBy.{StartBy}, StartBy.TheVariants.{Now, Later}}
use Rattle.ws_steps.specs.declared.effects.Effect.{Effect}
use Rattle.ws_steps.specs.declared.effects.Effect.TheVariants.{Readable as OnReadable, Writable as OnWritable, Pipe as OnPipe, Signal as OnSignal, StartAlgorithm, PullAlgorithm, CancelAlgorithm, WriteAlgorithm, CloseAlgorithm, AbortAlgorithm, ChunkSteps, CloseSteps, ErrorSteps, Transform as OnTransform, Tee as OnTee, Port as OnPort}
use Rattle.ws_steps.specs.declared.pipes.{PipeOperation.{PipeOperation}, Prevent.{Prevent}, SignalOperation.{SignalOperation}, SignalOperation.TheVariants.{Add, Forget, Trigger}}
use Rattle.ws_steps.specs.declared.promises.{Job.{Job}}
use Rattle.ws_steps.specs.declared.readable.{ReadRequest.{ReadRequest}, ReadRequest.TheVariants.{Promise, Pipe as PipeRequest, Tee as TeeRequest}, ReadableOperation.{ReadableOperation}}
use Rattle.ws_steps.specs.declared.writable.{WritableOperation.{WritableOperation}, WritableOperation.TheVariants.{ReleaseWriter}}
use Rattle.ws_steps.specs.MakingCalls as making_calls
use Rattle.ws_steps.specs.LockCalls as lock_calls
use Rattle.ws_steps.specs.PipeCalls as pipe_calls
use Rattle.ws_steps.specs.Begun.{Begun}
use Rattle.ws_steps.specs.Calls.{begin}
use Rattle.ws_steps.specs.Jobs.{job_effects}
use Rattle.ws_steps.specs.Operations.{readable_operation, writable_operation, pipe_operation}
use Rattle.ws_pipe_laws.specs.pipes.PipeMoves.{starting}
use Rattle.ws_pipe_laws.specs.pipes.PipeReads.{is_of, held_values, one_if, IsPassing, EachPipePasses, IsShorterByOne, EachPipePassesAFront, in_stream, in_streams, OneReadWaitsAtMost}
use Rattle.ws_steps.specs.Pipes as pipe
use Rattle.ws_steps.specs.Pipes.{Acts}
use Rattle.ws_steps.specs.Promises.{Table, next_id, fresh, is_pending_at}
use Rattle.ws_steps.specs.Readable as readable
use Rattle.ws_steps.specs.Run.{Entry, run}
use Rattle.ws_steps.specs.Slots.{Slots, Stream, ReadableStream, WritableStream, Done, nothing, empty, found, ends_at, has_readable, has_writable, readable_at, writable_at, put_readable, put_writable, as_pipe, no_pipe, on_readable, on_writable, on_pipe_at}
use Rattle.ws_steps.specs.Turns.{row, chunk_steps, close_steps, error_steps}
use Rattle.ws_steps.proofs.PromiseLaws.{slice_get-set_other}
use Rattle.ws_laws.proofs.Begin.{begin-makes}
use Rattle.ws_laws.proofs.EachCall.{each_call}
use Rattle.ws_laws.proofs.Lists.{each-map}
use Rattle.ws_laws.proofs.PipeDoes.{pipe-causes}
use Rattle.ws_laws.proofs.Apart.{IsApart, IsNoPipe, row-pipes, row-streams}
use Rattle.ws_laws.proofs.Causes.{Causes, SignalCauses, row-causes}
use Rattle.ws_laws.proofs.Tables.{either, readable_acts, writable_acts, readable_there, writable_there, eq_numbers, unequal_numbers}
use Rattle.ws_laws.proofs.Walker.{IsHistory, GoesUntold, RestsUntold, run-holds}
use Rattle.ws_writable_laws.proofs.Shape.{all, all-append}
use Rattle.ws_pipe_laws.specs.pipes.PipeHistory.{Through, nothing_through, through_then, operation_through, effect_through, run_through}
use Rattle.ws_pipe_laws.proofs.pipes.Reading.{is_answer, of_readable, of_effect, Within, operation-within, IsNone, none-all, no_answer, other-none, transform-none, tee-none, readable-hands, of_byte, ByteHands, byte_readable_given, byte_given}
use Rattle.ws_pipe_laws.proofs.pipes.Passing.{operation-passing}
use Rattle.ws_steps.specs.Slots.{source_at}
use Rattle.ws_steps.specs.declared.effects.Effect.TheVariants.{CloseStepsWith}
use Rattle.ws_steps.specs.Slots.{ByteStream, has_byte, byte_at, on_byte, put_byte}
use Rattle.ws_steps.specs.Turns.{on_source}
use Rattle.ws_steps.specs.declared.effects.Effect.TheVariants.{Byte}
use Rattle.ws_steps.specs.declared.byte.ByteOperation.{ByteOperation}
use Rattle.ws_steps.specs.Operations.{byte_operation, byte_readable_operation}
use Rattle.ws_laws.proofs.Tables.{byte_acts, byte_there}
use Rattle.ws_steps.specs.Bytes as byte
use Rattle.ws_steps.specs.Turns.{close_steps_with}

pub through_history : IsHistory nothing_through through_then
through_history = record {
  left = λ f. refl;
  right = λ f k. record { read = append-nil f.read k; passed = append-nil f.passed k; dropped = append-nil f.dropped k };
  assoc = λ f g h k. record { read = append_assoc f.read g.read h.read k; passed = append_assoc f.passed g.passed h.passed k; dropped = append_assoc f.dropped g.dropped h.dropped k };
}

-- a place in the table of pipes

abbrev pub has_held : Option pipe.Slots → ℕ
has_held None = 0
has_held (Some x) = length (held_values x.held)

abbrev pub reads_now : Option pipe.Slots → Bool
reads_now None = false
reads_now (Some x) = x.reading

-- where there is no pipe, nothing went through it
abbrev pub Place : Through → Option pipe.Slots → Type 0
Place h None = h ≡ nothing_through
Place h (Some x) = IsPassing h x

pub place_same : (ps : List pipe.Slots) (n : ℕ) (x y : pipe.Slots) → slice_get ps n ≡ Some x → slice_get (slice_set ps n y) n ≡ Some y
place_same [] n x y e = cc
place_same (z ∷ ps) zero x y e = refl
place_same (z ∷ ps) (suc n) x y e = place_same ps n x y e

pub appended : (ps : List pipe.Slots) (y : pipe.Slots) (n : ℕ) → (slice_get (ps ++ y ∷ []) n ≡ slice_get ps n) ⊎ ((slice_get ps n ≡ None) × (slice_get (ps ++ y ∷ []) n ≡ Some y))
appended [] y zero = inr (refl, refl)
appended [] y (suc n) = inl refl
appended (x ∷ ps) y zero = inl refl
appended (x ∷ ps) y (suc n) = appended ps y n

-- the streams, where one is put in the place of another
pub streams-set : (p : PipeId) (xs : List Stream) (j : ℕ) (x y : Stream) → slice_get xs j ≡ Some x → in_streams p (slice_set xs j y) + in_stream p x ≡ in_streams p xs + in_stream p y
streams-set p [] j x y is = cc
streams-set p (z ∷ zs) zero x y is = let h : z ≡ x = cc in let k = ap (in_stream p) h in omega (arith, k)
streams-set p (z ∷ zs) (suc j) x y is = let h = streams-set p zs j x y is in omega (arith, h)

pub streams-append : (p : PipeId) (xs : List Stream) (x : Stream) → in_stream p x ≡ 0 → in_streams p (xs ++ x ∷ []) ≡ in_streams p xs
streams-append p [] x e = omega (arith, e)
streams-append p (z ∷ zs) x e = let h = streams-append p zs x e in omega (arith, h)

module _ (p : PipeId) where
  -- the reads that are under way are at most one, and none where the pipe isn't reading
  abbrev pub Few : Slots → List Effect → Type 0
  Few s es = in_streams p s.streams + all (of_effect p) es + has_held (slice_get s.pipes p.0) ≤ one_if (reads_now (slice_get s.pipes p.0))

  self : nat_eq p.0 p.0 ≡ true
  self = grind arith

  -- effects that are no operation of a pipe leave the pipes, and lead on as many reads as they stand for

  abbrev pub Carries : Slots → ℕ → Done → Type 0
  Carries s n d = in_streams p d.slots.streams + all (of_effect p) d.caused ≤ in_streams p s.streams + n

  carried : (s : Slots) (e : Effect) (es : List Effect) → IsNoPipe e → Carries s (of_effect p e) (row e s) → Few s (e ∷ es) → Few (row e s).slots ((row e s).caused ++ es)
  carried s e es n k w = let c = all-append (of_effect p) (row e s).caused es in rw (row-pipes e s n) (omega (arith, k, c, w))

  default-carries : (i : StreamId) (operation : ReadableOperation) (s : Slots) → Carries s (of_readable p operation) (on_readable (readable_operation i operation) i s)
  default-carries i operation s =
      let b : readable.Acts = readable_operation i operation (readable_acts i s) in
      let h = readable-hands p i operation (readable_acts i s) in
      either (Carries s (of_readable p operation)) (has_readable i s) (put_readable i s b) (nothing s)
      (λ e. let k = streams-set p s.streams i.0 (ReadableStream (readable_at i s)) (ReadableStream b.slots) (readable_there (slice_get s.streams i.0) e) in omega (arith, h, k))
      (λ e. omega arith)

  on_byte-carries : (n : ℕ) (i : StreamId) (operation : byte.Acts → byte.Acts) (s : Slots) → ByteHands p n (byte_acts i s) (operation (byte_acts i s)) → Carries s n (on_byte operation i s)
  on_byte-carries n i operation s h =
      let b : byte.Acts = operation (byte_acts i s) in
      either (Carries s n) (has_byte i s) (put_byte i s b) (nothing s)
      (λ e. let k = streams-set p s.streams i.0 (ByteStream (byte_at i s)) (ByteStream b.slots) (byte_there (slice_get s.streams i.0) e) in omega (arith, h, k))
      (λ e. omega arith)

  byte-carries : (i : StreamId) (operation : ByteOperation) (s : Slots) → Carries s (of_byte p operation) (on_byte (byte_operation i operation) i s)
  byte-carries i operation s = on_byte-carries (of_byte p operation) i (byte_operation i operation) s (byte_given p i operation (byte_acts i s))

  readable-carries : (i : StreamId) (operation : ReadableOperation) (s : Slots) → Carries s (of_readable p operation) (on_source operation i s)
  readable-carries i operation s =
      either (Carries s (of_readable p operation)) (has_byte i s) (on_byte (byte_readable_operation i operation) i s) (on_readable (readable_operation i operation) i s)
      (λ is. on_byte-carries (of_readable p operation) i (byte_readable_operation i operation) s (byte_readable_given p i operation (byte_acts i s)))
      (λ isnt. default-carries i operation s)

  signal-none : (operation : SignalOperation) → SignalCauses (IsNone p) operation
  signal-none (Trigger r) = λ q. no_answer (nat_eq p.0 q.0)
  signal-none (Add q) = tt
  signal-none (Forget q) = tt

  -- effects that lead no read on
  abbrev pub IsIdle : Effect → Type 0
  IsIdle (OnReadable i operation) = ⊥
  IsIdle (Byte i operation) = ⊥
  IsIdle (OnPipe q operation) = ⊥
  IsIdle (ChunkSteps i request v) = ⊥
  IsIdle (CloseSteps i request) = ⊥
  IsIdle (CloseStepsWith i request b) = ⊥
  IsIdle (ErrorSteps i request e) = ⊥
  IsIdle _ = Unit {0}

  pub idle-causes : (e : Effect) → IsIdle e → Causes (IsNone p) e
  idle-causes (OnReadable j operation) n = absurd n
  idle-causes (Byte j operation) n = absurd n
  idle-causes (OnWritable j operation) n = record { write = refl; close = refl; abort = λ r q. refl; hand_on = λ v. refl; take = λ v t d. refl; post = λ v c d. refl }
  idle-causes (OnPipe q operation) n = absurd n
  idle-causes (OnSignal a operation) n = signal-none operation
  idle-causes (OnTransform t operation) n = transform-none p t
  idle-causes (OnTee t operation) n = tee-none p t
  idle-causes (OnPort c operation) n = port-none p c
  idle-causes (StartAlgorithm j step start) n = (λ g u. refl, λ c u. refl)
  idle-causes (PullAlgorithm j) n = (λ c u. refl, (λ t u. refl, (λ t. refl, (λ u. refl, λ c. refl))))
  idle-causes (CancelAlgorithm j r q) n = (λ c u. refl, (λ t u. refl, (λ t half u. refl, λ c u. refl)))
  idle-causes (WriteAlgorithm j) n = (refl, (λ t u. refl, λ c u. refl))
  idle-causes (CloseAlgorithm j) n = (λ c u. refl, (λ t u. refl, λ c u. refl))
  idle-causes (AbortAlgorithm j r q) n = (λ c u. refl, (λ t u. refl, λ c u. refl))
  idle-causes (ChunkSteps j request v) n = absurd n
  idle-causes (CloseSteps j request) n = absurd n
  idle-causes (CloseStepsWith j request b) n = absurd n
  idle-causes (ErrorSteps j request e) n = absurd n
  idle-causes _ n = tt

  writable-streams : (i : StreamId) (operation : WritableOperation) (s : Slots) → in_streams p (on_writable (writable_operation i operation) i s).slots.streams ≡ in_streams p s.streams
  writable-streams i operation s =
      either (λ (d : Done). in_streams p d.slots.streams ≡ in_streams p s.streams) (has_writable i s) (put_writable i s (writable_operation i operation (writable_acts i s))) (nothing s)
      (λ e. let k = streams-set p s.streams i.0 (WritableStream (writable_at i s)) (WritableStream (writable_operation i operation (writable_acts i s)).slots) (writable_there (slice_get s.streams i.0) e) in omega (arith, k))
      (λ e. refl)

  idle-carries : (s : Slots) (e : Effect) → IsIdle e → in_streams p (row e s).slots.streams ≡ in_streams p s.streams → Carries s (of_effect p e) (row e s)
  idle-carries s e n k = let c = none-all p (row e s).caused (row-causes (IsNone p) e s (idle-causes e n)) in omega (arith, k, c)

  apart-carries : (s : Slots) (e : Effect) → IsIdle e → IsApart e → Carries s (of_effect p e) (row e s)
  apart-carries s e n a = idle-carries s e n (ap (in_streams p) (row-streams e s a))

  chunk-carries : (v : Value) (s : Slots) (request : ReadRequest) → Carries s (is_of p request) (chunk_steps v s request)
  chunk-carries v s (Promise q) = omega arith
  chunk-carries v s (PipeRequest q) = omega arith
  chunk-carries v s (TeeRequest t) = omega arith

  close-carries : (s : Slots) (request : ReadRequest) → Carries s (is_of p request) (close_steps s request)
  close-carries s (Promise q) = omega arith
  close-carries s (PipeRequest q) = omega arith
  close-carries s (TeeRequest t) = omega arith

  close_with-carries : (b : List ℕ) (s : Slots) (request : ReadRequest) → Carries s (is_of p request) (close_steps_with b s request)
  close_with-carries b s (Promise q) = omega arith
  close_with-carries b s (PipeRequest q) = omega arith
  close_with-carries b s (TeeRequest t) = omega arith

  error-carries : (e : Plain) (s : Slots) (request : ReadRequest) → Carries s (is_of p request) (error_steps e s request)
  error-carries e s (Promise q) = omega arith
  error-carries e s (PipeRequest q) = omega arith
  error-carries e s (TeeRequest t) = omega arith

  -- operations of pipes

  pipe-few : (q : PipeId) (operation : PipeOperation) (s : Slots) (es : List Effect) (o : Option pipe.Slots) (same : Bool) → slice_get s.pipes q.0 ≡ o → same ≡ nat_eq p.0 q.0 → Few s (OnPipe q operation ∷ es)
      → let d : Done = on_pipe_at (λ ends. pipe_operation q ends operation) q s o in Few d.slots (d.caused ++ es)
  pipe-few q operation s es None same e n w = omega (arith, w)
  pipe-few q operation s es (Some x) true e n w =
      let b : Acts = pipe_operation q (ends_at x s) operation (starting x s.promises) in
      let number : p.0 ≡ q.0 = eq_numbers p.0 q.0 (sym n) in
      let is : q ≡ p = ap (λ (n : ℕ). record { 0 = n }) (sym number) in
      let place : slice_get (slice_set s.pipes q.0 b.slots) p.0 ≡ Some b.slots = rw number (place_same s.pipes q.0 x b.slots e) in
      let there : slice_get s.pipes p.0 ≡ Some x = rw number e in
      let m : ℕ = in_streams p s.streams + all (of_effect p) es in
      let before : in_streams p s.streams + (is_answer operation + all (of_effect p) es) + length (held_values x.held) ≤ one_if x.reading = rw (there, ← n) at w in
      let after : Within m p b = subst (λ (r : PipeId). Within m p (pipe_operation r (ends_at x s) operation (starting x s.promises))) (sym is) (operation-within m p (ends_at x s) operation x s.promises (omega (arith, before))) in
      let c = all-append (of_effect p) b.out.effects es in
      rw place (omega (arith, after, c))
  pipe-few q operation s es (Some x) false e n w =
      let a : Acts = record { slots = x; out = found s } in
      let b : Acts = pipe_operation q (ends_at x s) operation a in
      let place : slice_get (slice_set s.pipes q.0 b.slots) p.0 ≡ slice_get s.pipes p.0 = slice_get-set_other s.pipes q.0 p.0 b.slots (λ i. unequal_numbers p.0 q.0 (sym n) (sym i)) in
      let none : all (of_effect p) b.out.effects ≡ 0 = none-all p b.out.effects (each-map _ (IsNone p) (other-none p q (sym n) x.source x.dest) b.out.effects (pipe-causes q (ends_at x s) operation a tt).1.1) in
      let c = all-append (of_effect p) b.out.effects es in
      rw place (omega (arith, none, c, w))

  pub row-few : (s : Slots) (e : Effect) (es : List Effect) → Few s (e ∷ es) → Few (row e s).slots ((row e s).caused ++ es)
  unfolding row
  row-few s (OnPipe q operation) es w = pipe-few q operation s es (slice_get s.pipes q.0) (nat_eq p.0 q.0) refl refl w
  row-few s (OnReadable i operation) es w = carried s (OnReadable i operation) es tt (readable-carries i operation s) w
  row-few s (Byte i operation) es w = carried s (Byte i operation) es tt (byte-carries i operation s) w
  row-few s (OnWritable i operation) es w = carried s (OnWritable i operation) es tt (idle-carries s (OnWritable i operation) tt (writable-streams i operation s)) w
  row-few s (ChunkSteps i request v) es w = carried s (ChunkSteps i request v) es tt (chunk-carries v s request) w
  row-few s (CloseSteps i request) es w = carried s (CloseSteps i request) es tt (close-carries s request) w
  row-few s (CloseStepsWith i request b) es w = carried s (CloseStepsWith i request b) es tt (close_with-carries b s request) w
  row-few s (ErrorSteps i request e) es w = carried s (ErrorSteps i request e) es tt (error-carries e s request) w
  row-few s e es w = carried s e es tt (apart-carries s e tt tt) w

  -- what went through

  no_operation : (operation : PipeOperation) → is_answer operation ≤ 0 → operation_through operation no_pipe ≡ nothing_through
  no_operation operation w = grind (arith, w)

  own-passing : (operation : PipeOperation) (h : Through) (s : Slots) (es : List Effect) (o : Option pipe.Slots) → slice_get s.pipes p.0 ≡ o → Few s (OnPipe p operation ∷ es) → Place h o
      → let d : Done = on_pipe_at (λ ends. pipe_operation p ends operation) p s o in Place (through_then h (operation_through operation (as_pipe o))) (slice_get d.slots.pipes p.0)
  own-passing operation h s es None e w k =
      let none : in_streams p s.streams + (is_answer operation + all (of_effect p) es) + 0 ≤ 0 = rw (e, self) at w in
      rw (e, no_operation operation (omega (arith, none))) (through_history.right h ∙ k)
  own-passing operation h s es (Some x) e w k =
      let b : Acts = pipe_operation p (ends_at x s) operation (starting x s.promises) in
      let some : in_streams p s.streams + (is_answer operation + all (of_effect p) es) + length (held_values x.held) ≤ one_if x.reading = rw (e, self) at w in
      rw (place_same s.pipes p.0 x b.slots e) (operation-passing p (ends_at x s) operation x s.promises h (omega (arith, some)) k)

  other_place : (q : PipeId) (operation : PipeOperation) (s : Slots) (o : Option pipe.Slots) → nat_eq p.0 q.0 ≡ false → slice_get (on_pipe_at (λ ends. pipe_operation q ends operation) q s o).slots.pipes p.0 ≡ slice_get s.pipes p.0
  other_place q operation s None n = refl
  other_place q operation s (Some x) n = slice_get-set_other s.pipes q.0 p.0 _ (λ i. unequal_numbers p.0 q.0 n (sym i))

  abbrev pub At : Through → Slots → Type 0
  At h s = Place h (slice_get s.pipes p.0)

  own_row : (h : Through) (s : Slots) (operation : PipeOperation) (es : List Effect) → Few s (OnPipe p operation ∷ es) → At h s → At (through_then h (effect_through p (OnPipe p operation) s)) (row (OnPipe p operation) s).slots
  unfolding row
  own_row h s operation es w k = rw self (own-passing operation h s es (slice_get s.pipes p.0) refl w k)

  pipe_row : (h : Through) (s : Slots) (q : PipeId) (operation : PipeOperation) (es : List Effect) (same : Bool) → same ≡ nat_eq p.0 q.0 → Few s (OnPipe q operation ∷ es) → At h s
      → At (through_then h (effect_through p (OnPipe q operation) s)) (row (OnPipe q operation) s).slots
  unfolding row
  pipe_row h s q operation es false n w k = rw (← n, other_place q operation s (slice_get s.pipes q.0) (sym n), through_history.right h) k
  pipe_row h s q operation es true n w k =
      let is : p ≡ q = ap (λ (n : ℕ). record { 0 = n }) (eq_numbers p.0 q.0 (sym n)) in
      subst (λ (z : PipeId). Few s (OnPipe z operation ∷ es) → At h s → At (through_then h (effect_through p (OnPipe z operation) s)) (row (OnPipe z operation) s).slots) is (own_row h s operation es) w k

  other_row : (h : Through) (s : Slots) (e : Effect) → IsNoPipe e → effect_through p e s ≡ nothing_through → At h s → At (through_then h (effect_through p e s)) (row e s).slots
  other_row h s e n told k = rw (told, through_history.right h, row-pipes e s n) k

  pub row-at : (h : Through) (s : Slots) (e : Effect) (es : List Effect) → Few s (e ∷ es) → At h s → At (through_then h (effect_through p e s)) (row e s).slots
  row-at h s (OnPipe q operation) es w k = pipe_row h s q operation es (nat_eq p.0 q.0) refl w k
  row-at h s e es w k = other_row h s e tt refl k

  -- calls

  renewed-none : (t : Table) (kept : Bool) (es : List Effect) → all (of_effect p) es ≡ 0 → all (of_effect p) (lock_calls.reject_renewed t kept ++ es) ≡ 0
  renewed-none t true es n = n
  renewed-none t false es n = omega (arith, n)

  begins-none : (me : PipeId) (a b : PromiseId) (signal : Option SignalId) (reason : Option Plain) → all (of_effect p) (pipe_calls.pipe_begins me a b signal reason) ≡ 0
  begins-none me a b signal (Some r) = let n = no_answer (nat_eq p.0 me.0) in omega (arith, n)
  begins-none me a b None None = refl
  begins-none me a b (Some g) None = refl

  start-none : (q : PromiseId) (j : StreamId) (start : StartBy) → all (of_effect p) (making_calls.start_transform q j start ∷ []) ≡ 0
  start-none q j Now = refl
  start-none q j Later = refl

  end-none : (side : Side) (j : StreamId) → all (of_effect p) (pipe_calls.start_end j side ∷ []) ≡ 0
  end-none ReadableSide j = refl
  end-none WritableSide j = refl

  pub call-none : (c : Call) (s : Slots) → all (of_effect p) (begin c s).done.caused ≡ 0
  call-none c s = each_call (λ (b : Begun). all (of_effect p) b.done.caused ≡ 0) c s (record {
    unchanged = λ reply. refl;
    rejected = λ fault. refl;
    make_readable = λ mark size start. refl;
    make_writable = λ mark size start. refl;
    get_byob = λ i is e. refl;
    release_byob = λ l closed i e. renewed-none s.promises (readable.is_readable (source_at i s).state) _ refl;
    read_into = λ l i closed room element least e f. refl;
    enqueue_bytes = λ i b e is some can. refl;
    finish_bytes = λ i e is can. refl;
    make_request = λ i reply is. refl;
    respond = λ r i b e is can. refl;
    make_bytes = λ mark auto start. refl;
    get_reader = λ i e. refl;
    get_writer = λ i e. refl;
    release_reader = λ l closed i e. renewed-none s.promises (readable.is_readable (source_at i s).state) _ refl;
    release_writer = λ l i w e f.
        let ready : Bool = is_pending_at w.ready s.promises in
        let t : Table = lock_calls.with_renewed s.promises ready in
        renewed-none s.promises ready _ (renewed-none t (is_pending_at w.closed t) (OnWritable i ReleaseWriter ∷ []) refl);
    cancel = λ reason i. refl;
    read = λ l i closed e f. refl;
    write = λ l v i e. refl;
    close = λ i. refl;
    abort = λ reason i e. refl;
    make_tee = λ i e is free untied. refl;
    make_transform = λ kind m n start. let k = start-none (next_id (fresh s.promises)) (record { 0 = length s.streams + 1 }) start in omega (arith, k);
    enqueue = λ i v e o can. refl;
    enqueue_half = λ i t v e o can. refl;
    fail_half = λ t reason. refl;
    terminate = λ t. refl;
    finish = λ i. refl;
    fail_readable = λ i reason. refl;
    fail_writable = λ i reason. refl;
    pipe = λ source dest prevent signal e f l m.
        let n = begins-none (record { 0 = length s.pipes }) (next_id s.promises) (next_id (fresh (fresh s.promises))) signal (pipe_calls.reason_of signal s) in
        omega (arith, n);
    make_signal = refl;
    open_end = λ side. end-none side _;
    send_readable = λ source there free.
        let n = begins-none (record { 0 = length s.pipes }) (next_id (fresh s.promises)) (next_id (fresh (fresh (fresh s.promises)))) None None in omega (arith, n);
    send_writable = λ dest there free.
        let n = begins-none (record { 0 = length s.pipes }) (next_id s.promises) (next_id (fresh (fresh s.promises))) None None in omega (arith, n);
    deliver = λ c m asked has. refl;
    trigger = λ a reason. refl;
    settle = λ h answer q e. refl;
  })

  -- what is known of the pipe
  abbrev pub Is : Through → Slots → List Effect → Type 0
  Is h s es = Few s es × At h s

  new_passing : (h : Through) (source dest : StreamId) (prevent : Prevent) (signal : Option SignalId) (promise : PromiseId) → h ≡ nothing_through → IsPassing h (pipe.set_up source dest prevent signal promise)
  new_passing h source dest prevent signal promise e = rw e (record { all = refl; live = λ l. refl; one = omega arith })

  pub pipe-made : (h : Through) (s : Slots) (source dest : StreamId) (prevent : Prevent) (signal : Option SignalId) (promise : PromiseId) → Is h s [] → Is h (record s { pipes = s.pipes ++ pipe.set_up source dest prevent signal promise ∷ [] }) []
  pipe-made h s source dest prevent signal promise k =
      let y : pipe.Slots = pipe.set_up source dest prevent signal promise in
      ⊎_elim (λ (e : slice_get (s.pipes ++ y ∷ []) p.0 ≡ slice_get s.pipes p.0). rw e k)
      (λ (e : (slice_get s.pipes p.0 ≡ None) × (slice_get (s.pipes ++ y ∷ []) p.0 ≡ Some y)).
      let few : in_streams p s.streams + 0 + 0 ≤ 0 = rw e.0 at k.0 in
      let none : h ≡ nothing_through = rw e.0 at k.1 in
      rw e.1 (omega (arith, few), new_passing h source dest prevent signal promise none))
      (appended s.pipes y p.0)

  pub stream-made : (h : Through) (s : Slots) (x : Stream) → in_stream p x ≡ 0 → Is h s [] → Is h (record s { streams = s.streams ++ x ∷ [] }) []
  stream-made h s x n k = let w = k.0 in let m = streams-append p s.streams x n in (omega (arith, w, m), k.1)

  pub job-none : (job : Job) → all (of_effect p) (job_effects job) ≡ 0
  job-none job = grind (arith, all-append, no_answer)

  pub call-is : (h : Through) (s : Slots) (c : Call) → Is h s [] → Is h (begin c s).done.slots (begin c s).done.caused
  call-is h s c k =
      let m = begin-makes (λ z. Is h z []) (record {
        promise = λ z k. k;
        locks = λ z ls k. k;
        hosts = λ z hs k. k;
        pipe = λ z source dest prevent signal promise k. pipe-made h z source dest prevent signal promise k;
        signal = λ z k. k;
        transform = λ z kind i j change k. k;
        tee = λ z source first second cancel k. k;
        port = λ z side stream backpressure k. k;
        bytes = λ z mark auto k. stream-made h z _ refl k;
        byob_requests = λ z hs k. k;
        readable = λ z owner mark size k. stream-made h z _ refl k;
        writable = λ z owner mark size k. stream-made h z _ refl k;
      }) c s k in
      let w = m.0 in
      let n = call-none c s in
      (omega (arith, w, n), m.1)

  pub goes : GoesUntold through_then (effect_through p) Is
  goes = record {
    row = λ h s e es k. (row-few s e es k.0, row-at h s e es k.0 k.1);
    call = λ h s c k. call-is h s c k;
    job = λ h s job e k. (let w = k.0 in let n = job-none job in omega (arith, w, n), k.1);
    answered = λ h s q k. k;
    older = λ h s k. k;
  }

  pub rests : RestsUntold Is
  rests = record { heard = λ h s k. k }

pub each_is : (entries : List Entry) (p : PipeId) → Is p (run_through p entries empty) (run entries empty) []
each_is entries p = run-holds nothing_through through_then through_history (effect_through p) (Is p) (goes p) (rests p) entries empty (omega arith, refl)

pub passing_of : (h : Through) (o : Option pipe.Slots) → Place h o → IsPassing h (as_pipe o)
passing_of h None e = rw e (record { all = refl; live = λ l. refl; one = omega arith })
passing_of h (Some x) i = i

pub each_pipe_passes : EachPipePasses
each_pipe_passes entries p = passing_of (run_through p entries empty) (slice_get (run entries empty).pipes p.0) (each_is entries p).1

few_of : (n : ℕ) (o : Option pipe.Slots) → n + 0 + has_held o ≤ one_if (reads_now o) → n + length (held_values (as_pipe o).held) ≤ one_if (as_pipe o).reading
few_of n None w = omega (arith, w)
few_of n (Some x) w = omega (arith, w)

pub one_read_waits_at_most : OneReadWaitsAtMost
one_read_waits_at_most entries p =
    let s : Slots = run entries empty in few_of (in_streams p s.streams) (slice_get s.pipes p.0) (each_is entries p).0

few_left : (h : Through) (x : pipe.Slots) (n : ℕ) → IsPassing h x → n + length (held_values x.held) ≤ one_if x.reading → IsShorterByOne h.passed h.read
few_left h x n i w = record {
  rest = h.dropped ++ held_values x.held;
  front = sym i.all;
  one = let k = length-append h.dropped (held_values x.held) in let o = i.one in omega (arith, k, o, w);
}

pub each_pipe_passes_a_front : EachPipePassesAFront
each_pipe_passes_a_front entries p =
    let s : Slots = run entries empty in
    few_left (run_through p entries empty) (as_pipe (slice_get s.pipes p.0)) (in_streams p s.streams) (each_pipe_passes entries p) (one_read_waits_at_most entries p)
