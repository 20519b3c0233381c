-- Who has the source of a tee (`each_tee_owns_its_source`): each operation of a reader that stands for the source is the tee's own.
use Rattle.ws_steps.specs.declared.port.Side.{Side as PortSide}
use Rattle.ws_steps.specs.declared.port.Side.TheVariants.{Readable as ReadableSide, Writable as WritableSide}
use Rattle.ws_value.specs.declared.ids.PortId.{PortId}
use Rattle.ws_laws.proofs.PortDoes.{PortCauses}
use Rattle.ws_pipe_laws.proofs.locks.Few.{new_other}
use Rattle.ws_steps.specs.PipeCalls as pipe_calls
use Rattle.std.proofs.Common.{◌≡◌, ◌≢◌, ℕ, zero, suc, ◌+◌, ◌≤◌, Bool, true, false, ◌&&◌, nat_eq, if◌then◌else◌, is_some, List, [], ◌∷◌, ◌++◌, length, map, All, Option, Some, None, slice_get, refl, sym, ap, subst, ◌∙◌, append_assoc, arith}
use Rattle.std.proofs.lemmas.List.Elements.{All-nil, All-cons}
use Rattle.ws_value.specs.declared.ids.{LockId.{LockId}, PipeId.{PipeId}, PromiseId.{PromiseId}, StreamId.{StreamId}, TeeId.{TeeId}}
use Rattle.ws_value.specs.declared.value.Plain.TheVariants.{Pair}
use Rattle.ws_steps.specs.declared.byte.{ByteOperation.{ByteOperation}, ByteOperation.TheVariants.{PullInto}}
use Rattle.ws_steps.specs.declared.calls.Call.{Call}
use Rattle.ws_steps.specs.declared.effects.{Effect.{Effect}, Effect.TheVariants.{Readable as OnReadable, Byte, Writable as OnWritable, Pipe as OnPipe, Tee as OnTee}}
use Rattle.ws_steps.specs.declared.locks.Lock.TheVariants.{Reader, ByobReader}
use Rattle.ws_steps.specs.declared.{pipes.Phase.TheVariants.{Flowing}, pipes.PipeOperation.{PipeOperation}, promises.Job.{Job}}
use Rattle.ws_steps.specs.declared.readable.{ReadRequest.{ReadRequest}, ReadRequest.TheVariants.{Promise, Pipe as PipeRequest, Tee as TeeRequest}, ReadableOperation.{ReadableOperation}, ReadableOperation.TheVariants.{Read, ReleaseReader, Cancel, CancelIfReadable}}
use Rattle.ws_steps.specs.declared.tee.TeeOperation.{TeeOperation}
use Rattle.ws_steps.specs.declared.transform.TransformId.{TransformId}
use Rattle.ws_steps.specs.declared.writable.WritableOperation.{WritableOperation}
use Rattle.ws_steps.specs.Begun.{Begun}
use Rattle.ws_steps.specs.MakingCalls.{make_tee}
use Rattle.ws_steps.specs.Calls.{begin}
use Rattle.ws_steps.specs.Histories.{is_same}
use Rattle.ws_steps.specs.Jobs.{job_effects}
use Rattle.ws_steps.specs.Operations.{readable_operation, byte_readable_operation, byte_operation, writable_operation, pipe_operation, tee_operation}
use Rattle.ws_steps.specs.Pipes as pipe
use Rattle.ws_steps.specs.Promises.{next_id, fresh}
use Rattle.ws_steps.specs.Run.{Entry, run, after_event}
use Rattle.ws_steps.specs.Slots.{Slots, Stream, ReadableStream, ByteStream, WritableStream, Done, found, empty, most_streams, ends_at, has_readable, has_byte, has_writable, readable_at, byte_at, source_at, lock_at, on_readable, on_byte, on_writable, on_pipe_at, on_tee_at, as_source, as_tee}
use Rattle.ws_steps.specs.Tee as tee
use Rattle.ws_steps.specs.Turns.{row, on_source}
use Rattle.ws_laws.proofs.Begin.{begin-makes}
use Rattle.ws_laws.proofs.EachCall.{each_call}
use Rattle.ws_laws.proofs.Halves.{get-stays, call-among_tees}
use Rattle.ws_laws.proofs.Lists.{Each, each-append, each-map}
use Rattle.ws_laws.proofs.PipeDoes.{PipeCauses, pipe-causes}
use Rattle.ws_laws.proofs.Apart.{IsNoPipe, IsNoTee, row-streams}
use Rattle.ws_laws.proofs.Causes.{Causes, row-causes}
use Rattle.ws_laws.proofs.Shapes.{TeeShape, tee_shape, tee_shapes, row-tee_shapes, map-there}
use Rattle.ws_laws.proofs.Tables.{either, is_same-refl, same_id, eq_numbers, unequal_numbers, readable_acts, byte_acts, readable_there, byte_there, on_readable-same, on_byte-same, on_byte-other, on_source-other, on_writable-same, on_writable-other}
use Rattle.ws_laws.proofs.TeeDoes.{TeeCauses, tee-causes}
use Rattle.ws_laws.proofs.TransformDoes.{TransformCauses}
use Rattle.ws_laws.proofs.Walker.{Stays, run-stays}
use Rattle.ws_promise_laws.proofs.Acting.{EachWaits}
use Rattle.ws_pipe_laws.specs.pipes.PipeHistory.{is_live, is_over}
use Rattle.ws_pipe_laws.specs.pipes.PipeMoves.{starting, is_idle, are_idle, Move, MoveRests, MoveWaits, MoveActs, MoveEnds, MoveFinishes}
use Rattle.ws_pipe_laws.specs.pipes.PipeReads.{one_if}
use Rattle.ws_pipe_laws.proofs.pipes.Moves.{each_pipe_moves}
use Rattle.ws_pipe_laws.specs.locks.Locks.{Reading, holds, in_locks, in_pipes, in_tees, is_locked, has_lock}
use Rattle.ws_pipe_laws.specs.locks.LockLaws.{spares, all_spare, OwnsSource, EachTeeOwnsItsSource}
use Rattle.ws_pipe_laws.proofs.locks.Defaults.{source-default}
use Rattle.ws_pipe_laws.proofs.locks.Asking.{requests_at, any, one_at_most}
use Rattle.ws_pipe_laws.proofs.locks.Begins.{free_reader}
use Rattle.ws_pipe_laws.proofs.locks.Few.{no_stream, other_than, call-few, row-few}
use Rattle.ws_pipe_laws.proofs.locks.Holding.{locks-there, pipes-there}
use Rattle.ws_pipe_laws.proofs.locks.Owning as owning
use Rattle.ws_pipe_laws.proofs.locks.PipeReads.{IsNoRead, NoRead, OneRead, Reads, operation-reads}
use Rattle.ws_pipe_laws.proofs.locks.Requests.{count, asked, asked_into, operation-few, byte_readable-few, byte-few}
use Rattle.ws_pipe_laws.proofs.locks.Rows.{is_there, Balanced, ending_over}
use Rattle.ws_pipe_laws.proofs.locks.Sources.{Known, known-stays, known-heard, known-empty}

-- a request that isn't the tee's
abbrev pub other_tee : TeeId → ReadRequest → ℕ
other_tee t (Promise q) = 1
other_tee t (PipeRequest p) = 1
other_tee t (TeeRequest u) = if nat_eq t.0 u.0 then 0 else 1

-- an operation of the reader of stream i is that of tee t
abbrev pub Fair : TeeId → StreamId → Effect → Type 0
Fair t i (OnReadable j (Read r)) = is_same j i ≡ true → r ≡ TeeRequest t
Fair t i (OnReadable j (Cancel r p)) = is_same j i ≡ true → r ≡ Pair t
Fair t i (OnReadable j (CancelIfReadable r p)) = is_same j i ≡ true → ⊥
Fair t i (OnReadable j ReleaseReader) = is_same j i ≡ true → ⊥
Fair t i (Byte j (PullInto room element minimum r)) = is_same j i ≡ true → ⊥
Fair t i _ = Unit {0}

-- the source of a tee has no other holder

shape-there : (n : ℕ) (xs : List tee.Slots) (x : TeeShape) → slice_get (map tee_shape xs) n ≡ Some x → 1 ≤ in_tees Reading x.source xs
shape-there n [] x e = cc
shape-there zero (y ∷ ys) x e =
    let h : tee_shape y ≡ x = cc in
    let same : is_same x.source y.source ≡ true = rw (← h) (is_same-refl y.source) in
    let one = ap one_if same in omega (arith, one)
shape-there (suc n) (y ∷ ys) x e = let rest = shape-there n ys x e in omega (arith, rest)

shapes-two : (m n : ℕ) (xs : List tee.Slots) (x y : TeeShape) → m ≢ n → slice_get (map tee_shape xs) m ≡ Some x → slice_get (map tee_shape xs) n ≡ Some y → x.source ≡ y.source → 2 ≤ in_tees Reading x.source xs
shapes-two m n [] x y k e f same = cc
shapes-two zero zero (z ∷ zs) x y k e f same = absurd (k refl)
shapes-two zero (suc n) (z ∷ zs) x y k e f same =
    let h : tee_shape z ≡ x = cc in
    let here : is_same x.source z.source ≡ true = rw (← h) (is_same-refl z.source) in
    let one = ap one_if here in
    let rest : 1 ≤ in_tees Reading x.source zs = rw same (shape-there n zs y f) in omega (arith, one, rest)
shapes-two (suc m) zero (z ∷ zs) x y k e f same =
    let h : tee_shape z ≡ y = cc in
    let here : is_same x.source z.source ≡ true = rw (same, ← h) (is_same-refl z.source) in
    let one = ap one_if here in
    let rest = shape-there m zs x e in omega (arith, one, rest)
shapes-two (suc m) (suc n) (z ∷ zs) x y k e f same = let rest = shapes-two m n zs x y (λ g. k (ap suc g)) e f same in omega (arith, rest)

pub record Alone (i : StreamId) (s : Slots) : Type 0 where
  pub locks : in_locks Reading i s.locks ≡ 0
  pub pipes : in_pipes Reading i s.pipes ≡ 0
  pub tees : in_tees Reading i s.tees ≤ 1

alone : (i : StreamId) (s : Slots) (es : List Effect) → Balanced Reading i s es → 1 ≤ in_tees Reading i s.tees → Alone i s
alone i s es b one =
    let few = b.few in
    let most = one_at_most (is_there Reading (slice_get s.streams i.0)) in
    record { locks = omega (arith, few, most, one); pipes = omega (arith, few, most, one); tees = omega (arith, few, most, one) }

pub same_tee : (t u : TeeId) (same : Bool) → same ≡ nat_eq t.0 u.0 → (xs : List tee.Slots) (x y : TeeShape) → slice_get (map tee_shape xs) t.0 ≡ Some x → slice_get (map tee_shape xs) u.0 ≡ Some y → in_tees Reading x.source xs ≤ 1
    → x.source ≡ y.source → u ≡ t
same_tee t u true s xs x y e f few same = ap (λ (n : ℕ). record { 0 = n }) (sym (eq_numbers t.0 u.0 (sym s)))
same_tee t u false s xs x y e f few same = let two = shapes-two t.0 u.0 xs x y (unequal_numbers t.0 u.0 (sym s)) e f same in absurd (omega (arith, two, few))

-- what is caused

module _ (t : TeeId) (i : StreamId) where
  transform_fair : (me : TransformId) (writable readable : StreamId) (e : Effect) → TransformCauses me writable readable e → Fair t i e
  transform_fair me writable readable e c = grind (arith, c)

  port_fair : (me : PortId) (stream : StreamId) (e : Effect) → PortCauses me stream e → Fair t i e
  port_fair me stream e c = grind (arith, c)

  other-fair : (e : Effect) → IsNoPipe e → IsNoTee e → Causes (Fair t i) e
  other-fair e n m = grind (arith, n, m, transform_fair, port_fair)

  at : (j source : StreamId) → j ≡ source → is_same j i ≡ true → source ≡ i
  at j source e h = sym e ∙ same_id j i h

  tee-fair : (u : TeeId) (source first second : StreamId) → (source ≡ i → u ≡ t) → (e : Effect) → TeeCauses u source first second e → Fair t i e
  tee-fair u source first second same (OnReadable j (Read r)) c = λ h. c.1 ∙ ap TeeRequest (same (at j source c.0 h))
  tee-fair u source first second same (OnReadable j (Cancel r p)) c = λ h. c.1 ∙ ap Pair (same (at j source c.0 h))
  tee-fair u source first second same (OnReadable j (CancelIfReadable r p)) c = absurd c
  tee-fair u source first second same (OnReadable j ReleaseReader) c = absurd c
  tee-fair u source first second same (OnReadable j operation) c = tt
  tee-fair u source first second same (Byte j operation) c = absurd c
  tee-fair u source first second same e c = tt

  pipe-fair : (p : PipeId) (source dest : StreamId) → source ≢ i → (e : Effect) → PipeCauses p source dest e → Fair t i e
  pipe-fair p source dest apart (OnReadable j (Read r)) c = λ h. absurd (apart (at j source c.0 h))
  pipe-fair p source dest apart (OnReadable j (Cancel r q)) c = λ h. absurd (apart (at j source c h))
  pipe-fair p source dest apart (OnReadable j (CancelIfReadable r q)) c = λ h. apart (at j source c h)
  pipe-fair p source dest apart (OnReadable j ReleaseReader) c = λ h. apart (at j source c h)
  pipe-fair p source dest apart (OnReadable j operation) c = tt
  pipe-fair p source dest apart (Byte j operation) c = absurd c
  pipe-fair p source dest apart e c = tt

  idle_fair : (e : Effect) → is_idle e ≡ true → IsNoRead e → Fair t i e
  idle_fair e idle none = grind (arith, idle, none)

  idles-fair : (es : List Effect) → are_idle es ≡ true → Each IsNoRead es → Each (Fair t i) es
  idles-fair [] idle none = tt
  idles-fair (e ∷ es) idle none = (idle_fair e (first (is_idle e) (are_idle es) idle) none.0, idles-fair es (second (is_idle e) (are_idle es) idle) none.1)
    where
      first : (a b : Bool) → a && b ≡ true → a ≡ true
      first a b h = grind arith

      second : (a b : Bool) → a && b ≡ true → b ≡ true
      second a b h = grind arith

  -- of a pipe that is over
  over_live : {A : Type 0} (x : pipe.Slots) → is_over x.phase ≡ true → is_live x.phase ≡ true → A
  over_live x o l = grind (arith, o, l)

  over_flowing : {A : Type 0} (x : pipe.Slots) → is_over x.phase ≡ true → x.phase ≡ Flowing → A
  over_flowing x o f = let wrong : is_over Flowing ≡ true = rw f at o in cc

  over-fair : (p : PipeId) (s : Slots) (operation : PipeOperation) (x : pipe.Slots) (es : List Effect) → slice_get s.pipes p.0 ≡ Some x → EachWaits s (OnPipe p operation ∷ es) → is_over x.phase ≡ true
      → Each (Fair t i) (pipe_operation p (ends_at x s) operation (starting x s.promises)).out.effects
  over-fair p s operation x es e w over = moves (each_pipe_moves p (ends_at x s) operation x s.promises)
    where
      b : pipe.Acts
      b = pipe_operation p (ends_at x s) operation (starting x s.promises)

      rests : b.slots.phase ≡ x.phase → are_idle b.out.effects ≡ true → Reads p x.source b → Each (Fair t i) b.out.effects
      rests same idle (NoRead n) = idles-fair b.out.effects idle n
      rests same idle (OneRead f is) = over_flowing x over (sym same ∙ f)

      moves : Move p (ends_at x s) operation x s.promises b → Each (Fair t i) b.out.effects
      moves (MoveRests phase action error idle) = rests phase idle (operation-reads p (ends_at x s) operation x s.promises)
      moves (MoveWaits phase slots named first out) = over_live x over named.live
      moves (MoveActs action y slots named written is alike) = over_live x over named.live
      moves (MoveEnds slots named written out) = over_live x over named.live
      moves (MoveFinishes o is slots out) = let live = ending_over p operation s x es e w o is in cc

  held-apart : (p : PipeId) (s : Slots) (x : pipe.Slots) → slice_get s.pipes p.0 ≡ Some x → is_over x.phase ≡ false → in_pipes Reading i s.pipes ≡ 0 → x.source ≢ i
  held-apart p s x e live none same =
      let there = pipes-there Reading i p.0 s.pipes x e in
      let self : is_same i x.source ≡ true = rw same (is_same-refl i) in
      let own : holds Reading i x ≡ true = rw (live, self) refl in
      let one = ap one_if own in omega (arith, there, one, none)

  pub piped-fair : (p : PipeId) (s : Slots) (operation : PipeOperation) (es : List Effect) → EachWaits s (OnPipe p operation ∷ es) → in_pipes Reading i s.pipes ≡ 0 → (o : Option pipe.Slots) → slice_get s.pipes p.0 ≡ o
      → Each (Fair t i) (on_pipe_at (λ ends. pipe_operation p ends operation) p s o).caused
  piped-fair p s operation es w none None e = tt
  piped-fair p s operation es w none (Some x) e = by (is_over x.phase) refl
    where
      b : pipe.Acts
      b = pipe_operation p (ends_at x s) operation (starting x s.promises)

      by : (over : Bool) → over ≡ is_over x.phase → Each (Fair t i) b.out.effects
      by true o = over-fair p s operation x es e w (sym o)
      by false o =
          each-map (PipeCauses p x.source x.dest) (Fair t i) (pipe-fair p x.source x.dest (held-apart p s x e (sym o) none)) b.out.effects
          (pipe-causes p (ends_at x s) operation (starting x s.promises) tt).1.1

  teed-fair : (u : TeeId) (s : Slots) (operation : TeeOperation) (x : TeeShape) → slice_get (tee_shapes s) t.0 ≡ Some x → x.source ≡ i → in_tees Reading i s.tees ≤ 1 → (o : Option tee.Slots) → slice_get s.tees u.0 ≡ o
      → Each (Fair t i) (on_tee_at (tee_operation u operation) u s o).caused
  teed-fair u s operation x mine is few None e = tt
  teed-fair u s operation x mine is few (Some y) e =
      let a : tee.Acts = record { slots = y; out = found s } in
      each-map (TeeCauses u y.source y.branch1 y.branch2) (Fair t i)
      (tee-fair u y.source y.branch1 y.branch2
      (λ same. same_tee t u (nat_eq t.0 u.0) refl s.tees x (tee_shape y) mine (map-there tee_shape s.tees u.0 y e) (rw is few) (is ∙ sym same)))
      (tee_operation u operation a).out.effects ((tee-causes u operation a).effects tt)

  -- the requests of the source

  abbrev AllOwn : Option Stream → Type 0
  AllOwn o = count (other_tee t) (requests_at o) ≤ 0

  own_request : other_tee t (TeeRequest t) ≡ 0
  own_request = let self : nat_eq t.0 t.0 ≡ true = grind arith in rw self refl

  asked-none : (operation : ReadableOperation) → Fair t i (OnReadable i operation) → asked (other_tee t) operation ≡ 0
  asked-none (Read r) f = ap (other_tee t) (f (is_same-refl i)) ∙ own_request
  asked-none operation f = refl

  into-none : (operation : ByteOperation) → Fair t i (Byte i operation) → asked_into (other_tee t) i operation ≡ 0
  into-none (PullInto room element minimum r) f = absurd (f (is_same-refl i))
  into-none operation f = refl

  default-own : (s : Slots) (operation : ReadableOperation) → Fair t i (OnReadable i operation) → AllOwn (slice_get s.streams i.0) → AllOwn (slice_get (on_readable (readable_operation i operation) i s).slots.streams i.0)
  default-own s operation f k = by (has_readable i s) refl
    where
      by : (there : Bool) → there ≡ has_readable i s → AllOwn (slice_get (on_readable (readable_operation i operation) i s).slots.streams i.0)
      by false e = rw (← e) k
      by true e =
          let before = readable_there (slice_get s.streams i.0) (sym e) in
          let few : AllOwn (Some (ReadableStream (readable_at i s))) = subst AllOwn before k in
          let n = operation-few (other_tee t) i operation (readable_acts i s) in
          let none = asked-none operation f in
          rw (on_readable-same (readable_operation i operation) i s (sym e)) (omega (arith, few, n, none))

  source-own : (s : Slots) (operation : ReadableOperation) → Fair t i (OnReadable i operation) → has_byte i s ≡ true → AllOwn (slice_get s.streams i.0)
      → AllOwn (slice_get (on_byte (byte_readable_operation i operation) i s).slots.streams i.0)
  source-own s operation f there k =
      let before = byte_there (slice_get s.streams i.0) there in
      let few : AllOwn (Some (ByteStream (byte_at i s))) = subst AllOwn before k in
      let n = byte_readable-few (other_tee t) i operation (byte_acts i s) refl in
      let none = asked-none operation f in
      rw (on_byte-same (byte_readable_operation i operation) i s there) (omega (arith, few, n, none))

  bytes-own : (s : Slots) (operation : ByteOperation) → Fair t i (Byte i operation) → AllOwn (slice_get s.streams i.0) → AllOwn (slice_get (on_byte (byte_operation i operation) i s).slots.streams i.0)
  bytes-own s operation f k = by (has_byte i s) refl
    where
      by : (there : Bool) → there ≡ has_byte i s → AllOwn (slice_get (on_byte (byte_operation i operation) i s).slots.streams i.0)
      by false e = rw (← e) k
      by true e =
          let before = byte_there (slice_get s.streams i.0) (sym e) in
          let few : AllOwn (Some (ByteStream (byte_at i s))) = subst AllOwn before k in
          let n = byte-few (other_tee t) i operation (byte_acts i s) refl in
          let none = into-none operation f in
          rw (on_byte-same (byte_operation i operation) i s (sym e)) (omega (arith, few, n, none))

  readable-own : (s : Slots) (j : StreamId) (operation : ReadableOperation) (same : Bool) → same ≡ is_same i j → Fair t i (OnReadable j operation) → AllOwn (slice_get s.streams i.0) → AllOwn (slice_get (on_source operation j s).slots.streams i.0)
  readable-own s j operation false n f k = rw (on_source-other operation j s i (sym n)) k
  readable-own s j operation true e f k =
      subst (λ (z : StreamId). Fair t i (OnReadable z operation) → AllOwn (slice_get (on_source operation z s).slots.streams i.0)) (same_id i j (sym e))
      (λ g. either (λ (d : Done). AllOwn (slice_get d.slots.streams i.0)) (has_byte i s) (on_byte (byte_readable_operation i operation) i s) (on_readable (readable_operation i operation) i s)
      (λ there. source-own s operation g there k) (λ none. default-own s operation g k)) f

  byte-own : (s : Slots) (j : StreamId) (operation : ByteOperation) (same : Bool) → same ≡ is_same i j → Fair t i (Byte j operation) → AllOwn (slice_get s.streams i.0) → AllOwn (slice_get (on_byte (byte_operation j operation) j s).slots.streams i.0)
  byte-own s j operation false n f k = rw (on_byte-other (byte_operation j operation) j s i (sym n)) k
  byte-own s j operation true e f k =
      subst (λ (z : StreamId). Fair t i (Byte z operation) → AllOwn (slice_get (on_byte (byte_operation z operation) z s).slots.streams i.0)) (same_id i j (sym e)) (λ g. bytes-own s operation g k) f

  writable-own : (s : Slots) (j : StreamId) (operation : WritableOperation) (same : Bool) → same ≡ is_same i j → AllOwn (slice_get s.streams i.0) → AllOwn (slice_get (on_writable (writable_operation j operation) j s).slots.streams i.0)
  writable-own s j operation false n k = rw (on_writable-other (writable_operation j operation) j s i (sym n)) k
  writable-own s j operation true e k = by (has_writable i s) refl
    where
      is : i ≡ j
      is = same_id i j (sym e)

      by : (there : Bool) → there ≡ has_writable i s → AllOwn (slice_get (on_writable (writable_operation j operation) j s).slots.streams i.0)
      by false n = rw (← is, ← n) k
      by true n = rw (← is, on_writable-same (writable_operation i operation) i s (sym n)) (omega arith)

  row-own : (s : Slots) (e : Effect) → Fair t i e → AllOwn (slice_get s.streams i.0) → AllOwn (slice_get (row e s).slots.streams i.0)
  unfolding row
  row-own s (OnReadable j operation) f k = readable-own s j operation (is_same i j) refl f k
  row-own s (Byte j operation) f k = byte-own s j operation (is_same i j) refl f k
  row-own s (OnWritable j operation) f k = writable-own s j operation (is_same i j) refl k
  row-own s e f k = rw (row-streams e s tt) k

-- at each moment of a run
pub record Owned (t : TeeId) (s : Slots) (es : List Effect) : Type 0 where
  pub known : Known s es
  pub few : length s.streams ≤ most_streams
  pub fair : (x : TeeShape) → slice_get (tee_shapes s) t.0 ≡ Some x → Each (Fair t x.source) es
  pub requests : (x : TeeShape) → slice_get (tee_shapes s) t.0 ≡ Some x → AllOwn t x.source (slice_get s.streams x.source.0)

module _ (t : TeeId) where
  pub alone-now : (s : Slots) (es : List Effect) (x : TeeShape) → Known s es → slice_get (tee_shapes s) t.0 ≡ Some x → Alone x.source s
  alone-now s es x k e = alone x.source s es (k.locked.each Reading x.source) (shape-there t.0 s.tees x e)

  caused-fair : (s : Slots) (e : Effect) (es : List Effect) (x : TeeShape) → Known s (e ∷ es) → slice_get (tee_shapes s) t.0 ≡ Some x → Each (Fair t x.source) (row e s).caused
  unfolding row
  caused-fair s (OnPipe p operation) es x k e = piped-fair t x.source p s operation es k.locked.waits (alone-now s _ x k e).pipes (slice_get s.pipes p.0) refl
  caused-fair s (OnTee u operation) es x k e = teed-fair t x.source u s operation x e refl (alone-now s _ x k e).tees (slice_get s.tees u.0) refl
  caused-fair s f es x k e = row-causes (Fair t x.source) f s (other-fair t x.source f tt tt)

  row-owned : (s : Slots) (e : Effect) (es : List Effect) → Owned t s (e ∷ es) → Owned t (row e s).slots ((row e s).caused ++ es)
  row-owned s e es k = record {
    known = known-stays.row s e es k.known;
    few = row-few e s k.few;
    fair = λ x now.
        let before : slice_get (tee_shapes s) t.0 ≡ Some x = rw (row-tee_shapes e s) at now in
        each-append (Fair t x.source) (row e s).caused es (caused-fair s e es x k.known before) (k.fair x before).1;
    requests = λ x now.
        let before : slice_get (tee_shapes s) t.0 ≡ Some x = rw (row-tee_shapes e s) at now in
        row-own t x.source s e (k.fair x before).0 (k.requests x before);
  }

  -- calls

  spare_fair : (i : StreamId) (e : Effect) → spares i no_stream e ≡ true → Fair t i e
  spare_fair i e spare = grind (arith, spare)

  spares-fair : (i : StreamId) (es : List Effect) → all_spare i no_stream es ≡ true → Each (Fair t i) es
  spares-fair i [] spare = tt
  spares-fair i (e ∷ es) spare = (spare_fair i e (first (spares i no_stream e) (all_spare i no_stream es) spare), spares-fair i es (second (spares i no_stream e) (all_spare i no_stream es) spare))
    where
      first : (a b : Bool) → a && b ≡ true → a ≡ true
      first a b h = grind arith

      second : (a b : Bool) → a && b ≡ true → b ≡ true
      second a b h = grind arith

  locked_by : (l : Bool) → 1 ≤ one_if l → l ≡ true
  locked_by true e = refl
  locked_by false e = absurd (omega (arith, e))

  -- between steps
  module _ (s : Slots) (k : Owned t s []) (x : TeeShape) (e : slice_get (tee_shapes s) t.0 ≡ Some x) where
    only : Alone x.source s
    only = alone-now s [] x k.known e

    pub locked-now : is_locked Reading x.source s ≡ true
    locked-now =
        let even = (k.known.locked.each Reading x.source).even in
        let one = shape-there t.0 s.tees x e in
        locked_by (is_locked Reading x.source s) (omega (arith, even, one))

    pub no_reader : (l : LockId) (closed : PromiseId) → lock_at l s ≢ Some (Reader (Some x.source) closed)
    no_reader l closed f =
        let n = locks-there Reading x.source l.0 s.locks (Reader (Some x.source) closed) f in
        let self = ap one_if (is_same-refl x.source) in
        let none = only.locks in omega (arith, n, self, none)

    pub no_byob_reader : (l : LockId) (closed : PromiseId) → lock_at l s ≢ Some (ByobReader (Some x.source) closed)
    no_byob_reader l closed f =
        let n = locks-there Reading x.source l.0 s.locks (ByobReader (Some x.source) closed) f in
        let self = ap one_if (is_same-refl x.source) in
        let none = only.locks in omega (arith, n, self, none)

    pub calls-spare : (c : Call) → all_spare x.source no_stream (begin c s).done.caused ≡ true
    calls-spare c =
        owning.each_call x.source no_stream s locked-now no_reader no_byob_reader
        (λ i there free. other_than most_streams s.streams i.0 k.few there) (λ l i there lock. other_than most_streams s.streams i.0 k.few there) (λ room. new_other (length s.streams) most_streams room) c

  there : (o : Option Stream) → has_lock Reading o ≡ true → (y : Stream) × (o ≡ Some y)
  there None e = cc
  there (Some y) e = (y, refl)

  stream-stays : (i : StreamId) (y : Stream) (c : Call) (s : Slots) → slice_get s.streams i.0 ≡ Some y → slice_get (begin c s).done.slots.streams i.0 ≡ Some y
  stream-stays i y c s at = begin-makes (λ z. slice_get z.streams i.0 ≡ Some y) (record {
    promise = λ z k. k;
    locks = λ z ls k. k;
    hosts = λ z hs k. k;
    pipe = λ z source dest prevent signal promise k. k;
    signal = λ z k. k;
    transform = λ z kind a b change k. k;
    tee = λ z source first second cancel k. k;
    port = λ z side stream backpressure k. k;
    readable = λ z owner mark size k. get-stays z.streams _ i.0 y k;
    bytes = λ z mark auto k. get-stays z.streams _ i.0 y k;
    byob_requests = λ z requests k. k;
    writable = λ z owner mark size k. get-stays z.streams _ i.0 y k;
  }) c s at

  call-kept : (c : Call) (s : Slots) (x : TeeShape) → Owned t s [] → slice_get (tee_shapes s) t.0 ≡ Some x → AllOwn t x.source (slice_get (begin c s).done.slots.streams x.source.0)
  call-kept c s x k e =
      let y = there (slice_get s.streams x.source.0) (locked-now s k x e) in
      rw (stream-stays x.source y.0 c s y.1) (subst (AllOwn t x.source) y.1 (k.requests x e))

  -- a new tee finds no request

  made-shape : (xs : List tee.Slots) (y : tee.Slots) (n : ℕ) (z : TeeShape) → slice_get (map tee_shape (xs ++ y ∷ [])) n ≡ Some z → slice_get (map tee_shape xs) n ≡ None → z ≡ tee_shape y
  made-shape [] y zero z e none = let h : tee_shape y ≡ z = cc in sym h
  made-shape [] y (suc n) z e none = cc
  made-shape (x ∷ xs) y zero z e none = cc
  made-shape (x ∷ xs) y (suc n) z e none = made-shape xs y n z e none

  other_few : (rs : List ReadRequest) → count (other_tee t) rs ≤ count any rs
  other_few [] = omega arith
  other_few (r ∷ rs) = let n = one r in let rest = other_few rs in omega (arith, n, rest)
    where
      one : (r : ReadRequest) → other_tee t r ≤ 1
      one r = grind arith

  abbrev IsNew : Begun → Type 0
  IsNew b = (x : TeeShape) → slice_get (tee_shapes b.done.slots) t.0 ≡ Some x
      → Each (Fair t x.source) b.done.caused × AllOwn t x.source (slice_get b.done.slots.streams x.source.0)

  module _ (s : Slots) (k : Known s []) (none : slice_get (tee_shapes s) t.0 ≡ None) where
    absent : {A : Type 0} (x : TeeShape) → slice_get (tee_shapes s) t.0 ≡ Some x → A
    absent x e = let wrong : None ≡ Some x = sym none ∙ e in cc

    source-free : (i : StreamId) (xs : List Stream) → has_readable i s ≡ true → is_some (source_at i s).reader ≡ false → AllOwn t i (slice_get (s.streams ++ xs) i.0)
    source-free i xs is free =
        let before = readable_there (slice_get s.streams i.0) is in
        let few = (k.queued i).free (free_reader (slice_get s.streams i.0) free).0 in
        let now : AllOwn t i (slice_get s.streams i.0) = let less = other_few (requests_at (slice_get s.streams i.0)) in omega (arith, few, less) in
        rw (get-stays s.streams xs i.0 (ReadableStream (readable_at i s)) before) (subst (AllOwn t i) before now)

    tee-new : (i : StreamId) → has_readable i s ≡ true → is_some (source_at i s).reader ≡ false → IsNew (make_tee i (record { 0 = length s.streams }) (record { 0 = length s.streams + 1 }) s)
    tee-new i is free x now =
        let y : tee.Slots = tee.set_up i (record { 0 = length s.streams }) (record { 0 = length s.streams + 1 }) (next_id (fresh s.promises)) in
        let same : x.source ≡ i = ap (λ (z : TeeShape). z.source) (made-shape s.tees y t.0 x now none) in
        rw same ((tt, (tt, (tt, (tt, tt)))), rw (append_assoc s.streams) (source-free i _ is free))

    opened : (side : PortSide) (x : TeeShape) → slice_get (tee_shapes (pipe_calls.open_end side (record { 0 = length s.streams }) s).done.slots) t.0 ≡ Some x → slice_get (tee_shapes s) t.0 ≡ Some x
    opened ReadableSide x e = e
    opened WritableSide x e = e

    call-new : (c : Call) → IsNew (begin c s)
    call-new c = each_call IsNew c s (record {
      unchanged = λ reply x e. absent x e;
      rejected = λ fault x e. absent x e;
      make_readable = λ mark size start x e. absent x e;
      make_bytes = λ mark auto start x e. absent x e;
      make_writable = λ mark size start x e. absent x e;
      make_transform = λ kind m n start x e. absent x e;
      make_tee = λ i c is free untied. tee-new i is free;
      get_reader = λ i f x e. absent x e;
      get_byob = λ i is f x e. absent x e;
      get_writer = λ i f x e. absent x e;
      release_reader = λ l closed i f x e. absent x e;
      release_byob = λ l closed i f x e. absent x e;
      release_writer = λ l i w f g x e. absent x e;
      cancel = λ reason i x e. absent x e;
      read = λ l i closed f g x e. absent x e;
      read_into = λ l i closed room element least f g x e. absent x e;
      write = λ l v i f x e. absent x e;
      close = λ i x e. absent x e;
      abort = λ reason i f x e. absent x e;
      enqueue = λ i v f o can x e. absent x e;
      enqueue_half = λ i u v f o can x e. absent x e;
      enqueue_bytes = λ i b f is some can x e. absent x e;
      finish = λ i x e. absent x e;
      finish_bytes = λ i f is can x e. absent x e;
      make_request = λ i reply is x e. absent x e;
      respond = λ q i b f is can x e. absent x e;
      fail_readable = λ i reason x e. absent x e;
      fail_writable = λ i reason x e. absent x e;
      fail_half = λ u reason x e. absent x e;
      terminate = λ u x e. absent x e;
      pipe = λ source dest prevent signal f g l m x e. absent x e;
      make_signal = λ x e. absent x e;
      open_end = λ side x e. absent x (opened side x e);
      send_readable = λ source there free x e. absent x e;
      send_writable = λ dest there free x e. absent x e;
      deliver = λ c m asked has x e. absent x e;
      trigger = λ a reason x e. absent x e;
      settle = λ h answer p f x e. absent x e;
    })

  some_shape : (x y : TeeShape) → ◌≡◌ {A = Option TeeShape} (Some x) (Some y) → x ≡ y
  some_shape x y e = cc

  call-both : (c : Call) (s : Slots) (o : Option TeeShape) → slice_get (tee_shapes s) t.0 ≡ o → Owned t s [] → IsNew (begin c s)
  call-both c s None e k x now = call-new s k.known e c x now
  call-both c s (Some y) e k x now =
      let same : y ≡ x = some_shape y x (sym (call-among_tees c s t y e) ∙ now) in
      rw (← same) (spares-fair y.source (begin c s).done.caused (calls-spare s k y e c), call-kept c s y k e)

  job_fair : (i : StreamId) (job : Job) → Each (Fair t i) (job_effects job)
  job_fair i job = grind arith

  pub owned-stays : Stays (Owned t)
  owned-stays = record {
    row = row-owned;
    call = λ s c k. record {
      known = known-stays.call s c k.known;
      few = call-few s k.few c;
      fair = λ x e. (call-both c s (slice_get (tee_shapes s) t.0) refl k x e).0;
      requests = λ x e. (call-both c s (slice_get (tee_shapes s) t.0) refl k x e).1;
    };
    job = λ s job e k. record { known = known-stays.job s job e k.known; few = k.few; fair = λ x f. job_fair x.source job; requests = k.requests };
    answered = λ s p k. record { known = known-stays.answered s p k.known; few = k.few; fair = λ x f. tt; requests = k.requests };
    older = λ s k. record { known = known-stays.older s k.known; few = k.few; fair = λ x f. tt; requests = k.requests };
  }

  pub owned-heard : (s : Slots) → Owned t s [] → Owned t (after_event s) []
  owned-heard s k = record { known = known-heard s k.known; few = k.few; fair = λ x f. tt; requests = k.requests }

  pub owned-empty : Owned t empty []
  owned-empty = record { known = known-empty; few = omega arith; fair = λ x e. cc; requests = λ x e. cc }

  run-owned : (entries : List Entry) → Owned t (run entries empty) []
  run-owned entries = run-stays (Owned t) owned-stays owned-heard entries empty owned-empty

  -- the law

  own_all : (rs : List ReadRequest) → count (other_tee t) rs ≤ 0 → All (λ r. r ≡ TeeRequest t) rs
  own_all [] n = All-nil (λ r. r ≡ TeeRequest t)
  own_all (r ∷ rs) n = All-cons (λ r. r ≡ TeeRequest t) r rs (one r (omega (arith, n))) (own_all rs (omega (arith, n)))
    where
      number : (u : TeeId) (same : Bool) → same ≡ nat_eq t.0 u.0 → (if same then 0 else 1) ≤ 0 → TeeRequest u ≡ TeeRequest t
      number u true e n = ap (λ (k : ℕ). TeeRequest (record { 0 = k })) (sym (eq_numbers t.0 u.0 (sym e)))
      number u false e n = absurd (omega (arith, n))

      one : (r : ReadRequest) → other_tee t r ≤ 0 → r ≡ TeeRequest t
      one (Promise q) n = absurd (omega (arith, n))
      one (PipeRequest p) n = absurd (omega (arith, n))
      one (TeeRequest u) n = number u (nat_eq t.0 u.0) refl n

  same_requests : (o : Option Stream) → requests_at o ≡ (as_source o).requests
  same_requests None = refl
  same_requests (Some (ReadableStream r)) = refl
  same_requests (Some (ByteStream b)) = refl
  same_requests (Some (WritableStream w)) = refl

  owns : (entries : List Entry) (o : Option tee.Slots) → slice_get (run entries empty).tees t.0 ≡ o → is_some o ≡ true → OwnsSource (run entries empty) t (as_tee o)
  owns entries None e is = cc
  owns entries (Some x) e is =
      let s : Slots = run entries empty in
      let k = run-owned entries in
      let f = map-there tee_shape s.tees t.0 x e in
      record {
        default = source-default entries t.0 x e;
        locked = locked-now s k (tee_shape x) f;
        no_reader = no_reader s k (tee_shape x) f;
        no_byob_reader = no_byob_reader s k (tee_shape x) f;
        calls = calls-spare s k (tee_shape x) f;
        requests = rw (← same_requests (slice_get s.streams x.source.0)) (own_all (requests_at (slice_get s.streams x.source.0)) (k.requests (tee_shape x) f));
      }

pub each_tee_owns_its_source : EachTeeOwnsItsSource
each_tee_owns_its_source entries t is = owns t entries (slice_get (run entries empty).tees t.0) refl is
