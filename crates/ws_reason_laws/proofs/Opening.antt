-- While a pipe flows or waits its destination is neither closing nor closed, where that was so as the pipe was made: nobody else has the
-- destination, and the pipe itself asks it to close only as it begins to act.
use Rattle.std.proofs.Common.{◌≡◌, ◌≢◌, ℕ, ◌≤◌, Bool, true, false, ◌&&◌, nat_eq, List, [], ◌∷◌, ◌++◌, length, Option, Some, None, slice_get, ⊎_elim, refl, sym, ap, subst, ◌∙◌, arith}
use Rattle.ws_value.specs.declared.ids.PipeId.{PipeId}
use Rattle.ws_value.specs.declared.ids.StreamId.{StreamId}
use Rattle.ws_steps.specs.declared.calls.Call.{Call}
use Rattle.ws_steps.specs.declared.effects.Effect.{Effect}
use Rattle.ws_steps.specs.declared.effects.Effect.TheVariants.{Readable, Byte, Writable, Pipe}
use Rattle.ws_steps.specs.declared.pipes.Phase.{Phase}
use Rattle.ws_steps.specs.declared.pipes.PipeOperation.{PipeOperation}
use Rattle.ws_steps.specs.declared.pipes.Prevent.{Prevent}
use Rattle.ws_steps.specs.declared.promises.Job.{Job}
use Rattle.ws_steps.specs.declared.writable.WritableOperation.{WritableOperation}
use Rattle.ws_steps.specs.MakingCalls.{add_stream}
use Rattle.ws_steps.specs.Calls.{begin}
use Rattle.ws_steps.specs.Histories.{is_same}
use Rattle.ws_steps.specs.Jobs.{job_effects}
use Rattle.ws_steps.specs.declared.byte.ByteOperation.{ByteOperation}
use Rattle.ws_steps.specs.Operations.{byte_operation, writable_operation, pipe_operation}
use Rattle.ws_steps.specs.Pipes as pipe
use Rattle.ws_steps.specs.Slots.{Slots, Stream, Done, nothing, as_writable, no_writable, has_writable, writable_at, put_writable, on_writable, on_pipe_at, ends_at, found}
use Rattle.ws_steps.specs.Turns.{row}
use Rattle.ws_steps.proofs.PromiseLaws.{slice_get-set_other}
use Rattle.ws_laws.proofs.Begin.{begin-makes}
use Rattle.ws_laws.proofs.Lists.{Each}
use Rattle.ws_laws.proofs.PipeDoes.{PipeCauses, pipe-causes}
use Rattle.ws_laws.proofs.Apart.{IsNoPipe, row-pipes, row-streams}
use Rattle.ws_laws.proofs.Causes.{Causes, row-causes}
use Rattle.ws_laws.proofs.Tables.{either, same_id, is_same-refl, eq_numbers, unequal_numbers, writable_acts, on_source-writable, on_byte-writable, on_writable-same, on_writable-other, place_before, no_stream}
use Rattle.ws_pipe_laws.specs.locks.Locks.{Writing, holds}
use Rattle.ws_pipe_laws.specs.locks.LockLaws.{spares, all_spare}
use Rattle.ws_pipe_laws.proofs.locks.Holding.{pipes-two}
use Rattle.ws_pipe_laws.proofs.locks.Rows.{is_there}
use Rattle.ws_pipe_laws.specs.pipes.PipeHistory.{is_over}
use Rattle.ws_pipe_laws.specs.pipes.PipeReads as reads
use Rattle.ws_pipe_laws.proofs.pipes.Courses.{place_same, appended}
use Rattle.ws_pipe_laws.proofs.pipes.Kept.{each_pipe_keeps_its_ends}
use Rattle.ws_writable_laws.proofs.Shape.{one_if, all, all-append}
use Rattle.ws_reason_laws.proofs.Asking.{is_asking, asks, goes, operation-quiet, operation-none}
use Rattle.ws_reason_laws.proofs.Closings.{Opened, Asks, Flies, operation-opened}
use Rattle.ws_reason_laws.proofs.Moments.{Moment, moment-flies}

-- while pipe `me` flows or waits, where it minds by its source and by what it isn't to do
abbrev pub Opens : (StreamId → Prevent → Bool) → PipeId → Slots → List Effect → Type 0
Opens minds me s es =
    (x : pipe.Slots) → slice_get s.pipes me.0 ≡ Some x → minds x.source x.prevent ≡ true → goes x.phase ≡ true → Opened x.dest (writable_at x.dest s) × (all (asks x.dest) es ≡ 0)

-- effects that ask for nothing

none_asks : (j : StreamId) (es : List Effect) → Each (λ e. asks j e ≡ 0) es → all (asks j) es ≡ 0
none_asks j [] n = refl
none_asks j (e ∷ es) n = let a = n.0 in let b = none_asks j es n.1 in omega (arith, a, b)

asks_none : (j : StreamId) (e : Effect) → IsNoPipe e → Causes (λ d. asks j d ≡ 0) e
asks_none j e n = grind (arith, n)

-- an operation of a pipe asks for nothing of another stream than its destination

asks_dest : (p : PipeId) (j source dest : StreamId) (e : Effect) → is_same j dest ≡ false → PipeCauses p source dest e → asks j e ≡ 0
asks_dest p j source dest e n c = grind (arith, n, c)

asks_other : (p : PipeId) (j source dest : StreamId) (es : List Effect) → is_same j dest ≡ false → Each (PipeCauses p source dest) es → all (asks j) es ≡ 0
asks_other p j source dest [] n c = refl
asks_other p j source dest (e ∷ es) n c = let a = asks_dest p j source dest e n c.0 in let b = asks_other p j source dest es n c.1 in omega (arith, a, b)

some_pipe : (x y : pipe.Slots) → ◌≡◌ {A = Option pipe.Slots} (Some x) (Some y) → x ≡ y
some_pipe x y e = cc

not_over : (phase : Phase) → goes phase ≡ true → is_over phase ≡ false
not_over phase g = grind (arith, g)

-- two pipes that go have different destinations

module _ (s : Slots) (es : List Effect) (m : Moment s es) where
  held_one : (j : StreamId) (x : pipe.Slots) → is_over x.phase ≡ false → is_same j x.dest ≡ true → reads.one_if (holds Writing j x) ≡ 1
  held_one j x o e = rw (o, e) refl

  most_one : (b : Bool) → reads.one_if b ≤ 1
  most_one true = omega arith
  most_one false = omega arith

  apart : (p q : PipeId) (x y : pipe.Slots) → p.0 ≢ q.0 → slice_get s.pipes p.0 ≡ Some x → slice_get s.pipes q.0 ≡ Some y → is_over x.phase ≡ false → is_over y.phase ≡ false → is_same x.dest y.dest ≡ true → ⊥
  apart p q x y n e f o u same =
      let one = held_one x.dest x o (is_same-refl x.dest) in
      let two = held_one x.dest y u same in
      let b = pipes-two Writing x.dest p.0 q.0 s.pipes x y n e f in
      let few = (m.locked.each Writing x.dest).few in
      let most = most_one (is_there Writing (slice_get s.streams x.dest.0)) in
      omega (arith, one, two, b, few, most)

-- an operation of the pipe itself, and of another

module _ (minds : StreamId → Prevent → Bool) (me : PipeId) (s : Slots) (es : List Effect) where
  own-opens : (operation : PipeOperation) (o : Option pipe.Slots) → slice_get s.pipes me.0 ≡ o → Opens minds me s (Pipe me operation ∷ es)
      → Opens minds me (on_pipe_at (λ ends. pipe_operation me ends operation) me s o).slots ((on_pipe_at (λ ends. pipe_operation me ends operation) me s o).caused ++ es)
  own-opens operation None e k x f v g = let h = k x f v g in let z = h.1 in (h.0, omega (arith, z))
  own-opens operation (Some y) e k x f v g =
      let a : pipe.Acts = record { slots = y; out = found s } in
      let b : pipe.Acts = pipe_operation me (ends_at y s) operation a in
      let is : x ≡ b.slots = some_pipe x b.slots (sym f ∙ place_same s.pipes me.0 y b.slots e) in
      let kept = each_pipe_keeps_its_ends me (ends_at y s) operation y s.promises in
      let same : b.slots.dest ≡ y.dest = kept.dest in
      let wants : minds b.slots.source b.slots.prevent ≡ true = subst (λ (z : pipe.Slots). minds z.source z.prevent ≡ true) is v in
      let wanted : minds y.source y.prevent ≡ true = rw (kept.source, kept.prevent) at wants in
      let going : goes b.slots.phase ≡ true = subst (λ (z : pipe.Slots). goes z.phase ≡ true) is g in
      let q = operation-quiet me y.dest (ends_at y s) operation a in
      let old = k y e wanted (q.before going) in
      let none = q.none going in
      let rest = old.1 in
      let all_ = all-append (asks y.dest) b.out.effects es in
      let to : x.dest ≡ y.dest = ap (λ (z : pipe.Slots). z.dest) is ∙ same in
      rw to (old.0, omega (arith, none, rest, all_))

  other-opens : (q : PipeId) (operation : PipeOperation) (o : Option pipe.Slots) → nat_eq me.0 q.0 ≡ false → slice_get s.pipes q.0 ≡ o → Moment s (Pipe q operation ∷ es) → Opens minds me s (Pipe q operation ∷ es)
      → Opens minds me (on_pipe_at (λ ends. pipe_operation q ends operation) q s o).slots ((on_pipe_at (λ ends. pipe_operation q ends operation) q s o).caused ++ es)
  other-opens q operation None n e m k x f v g = let h = k x f v g in let z = h.1 in (h.0, omega (arith, z))
  other-opens q operation (Some y) n e m k x f v g =
      let a : pipe.Acts = record { slots = y; out = found s } in
      let b : pipe.Acts = pipe_operation q (ends_at y s) operation a in
      let mine : slice_get s.pipes me.0 ≡ Some x = sym (slice_get-set_other s.pipes q.0 me.0 b.slots (λ i. unequal_numbers me.0 q.0 n (sym i))) ∙ f in
      let old = k x mine v g in
      let rest = old.1 in
      let none = asked x mine g (goes y.phase) refl in
      let all_ = all-append (asks x.dest) b.out.effects es in
      (old.0, omega (arith, none, rest, all_))
    where
      same : (x : pipe.Slots) → slice_get s.pipes me.0 ≡ Some x → goes x.phase ≡ true → goes y.phase ≡ true → (w : Bool) → is_same x.dest y.dest ≡ w
          → all (asks x.dest) (pipe_operation q (ends_at y s) operation (record { slots = y; out = found s })).out.effects ≡ 0
      same x f g h false d = asks_other q x.dest y.source y.dest _ d (pipe-causes q (ends_at y s) operation (record { slots = y; out = found s }) tt).1.1
      same x f g h true d = absurd (apart s (Pipe q operation ∷ es) m me q x y (unequal_numbers me.0 q.0 n) f e (not_over x.phase g) (not_over y.phase h) d)

      asked : (x : pipe.Slots) → slice_get s.pipes me.0 ≡ Some x → goes x.phase ≡ true → (w : Bool) → goes y.phase ≡ w
          → all (asks x.dest) (pipe_operation q (ends_at y s) operation (record { slots = y; out = found s })).out.effects ≡ 0
      asked x f g false h = operation-none q x.dest (ends_at y s) operation (record { slots = y; out = found s }) h
      asked x f g true h = same x f g h (is_same x.dest y.dest) refl

  pipe-opens : (q : PipeId) (operation : PipeOperation) (same : Bool) → same ≡ nat_eq me.0 q.0 → Moment s (Pipe q operation ∷ es) → Opens minds me s (Pipe q operation ∷ es)
      → Opens minds me (row (Pipe q operation) s).slots ((row (Pipe q operation) s).caused ++ es)
  unfolding row
  pipe-opens q operation false n m k = other-opens q operation (slice_get s.pipes q.0) (sym n) refl m k
  pipe-opens q operation true n m k =
      let is : me ≡ q = ap (λ (i : ℕ). record { 0 = i }) (eq_numbers me.0 q.0 (sym n)) in
      let h : Opens minds me s (Pipe me operation ∷ es) = subst (λ (p : PipeId). Opens minds me s (Pipe p operation ∷ es)) (sym is) k in
      subst (λ (p : PipeId). Opens minds me (on_pipe_at (λ ends. pipe_operation p ends operation) p s (slice_get s.pipes p.0)).slots ((on_pipe_at (λ ends. pipe_operation p ends operation) p s (slice_get s.pipes p.0)).caused ++ es)) is
      (own-opens operation (slice_get s.pipes me.0) refl h)

  -- an operation of a writable stream

  writable-opened : (j i : StreamId) (operation : WritableOperation) (same : Bool) → same ≡ is_same j i → one_if (same && is_asking operation) ≡ 0 → Flies i operation (writable_at i s) → Opened j (writable_at j s)
      → Opened j (writable_at j (on_writable (writable_operation i operation) i s).slots)
  writable-opened j i operation false n z f o =
      subst (λ (w : Option Stream). Opened j (as_writable w)) (sym (on_writable-other (writable_operation i operation) i s j (sym n))) o
  writable-opened j i operation true n z f o =
      let is : j ≡ i = same_id j i (sym n) in
      let at : Opened i (writable_at i s) = subst (λ (l : StreamId). Opened l (writable_at l s)) is o in
      let after : Opened i (writable_at i (on_writable (writable_operation i operation) i s).slots) =
      either (λ (d : Done). Opened i (writable_at i d.slots)) (has_writable i s) (put_writable i s (writable_operation i operation (writable_acts i s))) (nothing s)
      (λ h.
      let y = rw h at (on_writable-same (writable_operation i operation) i s h) in
      subst (λ (w : Option Stream). Opened i (as_writable w)) (sym y) (operation-opened i operation (writable_acts i s) (not_asks operation z) f at))
      (λ h. at) in
      subst (λ (l : StreamId). Opened l (writable_at l (on_writable (writable_operation i operation) i s).slots)) (sym is) after
    where
      not_asks : (operation : WritableOperation) → one_if (true && is_asking operation) ≡ 0 → Asks i operation → ⊥
      not_asks operation z a = grind (arith, z, a)

  -- what an effect that is none of a pipe leaves of the destination
  rest-opens : (e : Effect) → IsNoPipe e → ((j : StreamId) → asks j e ≡ 0 → Opened j (writable_at j s) → Opened j (writable_at j (row e s).slots)) → Opens minds me s (e ∷ es) → Opens minds me (row e s).slots ((row e s).caused ++ es)
  rest-opens e n stays k x f v g =
      let mine : slice_get s.pipes me.0 ≡ Some x = ap (λ (xs : List pipe.Slots). slice_get xs me.0) (sym (row-pipes e s n)) ∙ f in
      let old = k x mine v g in
      let all_ = old.1 in
      let caused = none_asks x.dest (row e s).caused (row-causes (λ d. asks x.dest d ≡ 0) e s (asks_none x.dest e n)) in
      let both = all-append (asks x.dest) (row e s).caused es in
      (stays x.dest (omega (arith, all_)) old.0, omega (arith, all_, caused, both))

  row_writable : (i : StreamId) (operation : WritableOperation) → Moment s (Writable i operation ∷ es) → (j : StreamId) → asks j (Writable i operation) ≡ 0 → Opened j (writable_at j s)
      → Opened j (writable_at j (row (Writable i operation) s).slots)
  unfolding row
  row_writable i operation m j z o = writable-opened j i operation (is_same j i) refl z (moment-flies i operation s es m) o

  row_readable : (i : StreamId) (operation : _) (j : StreamId) → Opened j (writable_at j s) → Opened j (writable_at j (row (Readable i operation) s).slots)
  unfolding row
  row_readable i operation j o = rw (on_source-writable operation i s j) o

  row_byte : (i : StreamId) (operation : ByteOperation) (j : StreamId) → Opened j (writable_at j s) → Opened j (writable_at j (row (Byte i operation) s).slots)
  unfolding row
  row_byte i operation j o = rw (on_byte-writable (byte_operation i operation) i s j) o

  pub row-opens : (e : Effect) → Moment s (e ∷ es) → Opens minds me s (e ∷ es) → Opens minds me (row e s).slots ((row e s).caused ++ es)
  row-opens (Pipe q operation) m k = pipe-opens q operation (nat_eq me.0 q.0) refl m k
  row-opens (Writable i operation) m k = rest-opens (Writable i operation) tt (row_writable i operation m) k
  row-opens (Readable i operation) m k = rest-opens (Readable i operation) tt (λ j z o. row_readable i operation j o) k
  row-opens (Byte i operation) m k = rest-opens (Byte i operation) tt (λ j z o. row_byte i operation j o) k
  row-opens e m k = rest-opens e tt (λ j z o. subst (λ (xs : List Stream). Opened j (as_writable (slice_get xs j.0))) (sym (row-streams e s tt)) o) k

-- calls

spares_asks : (source dest : StreamId) (e : Effect) → spares source dest e ≡ true → asks dest e ≡ 0
spares_asks source dest e h = grind (arith, h)

all_spare_asks : (source dest : StreamId) (es : List Effect) → all_spare source dest es ≡ true → all (asks dest) es ≡ 0
all_spare_asks source dest [] h = refl
all_spare_asks source dest (e ∷ es) h =
    let a = spares_asks source dest e (left (spares source dest e) (all_spare source dest es) h) in
    let b = all_spare_asks source dest es (right (spares source dest e) (all_spare source dest es) h) in
    omega (arith, a, b)
  where
    left : (a b : Bool) → a && b ≡ true → a ≡ true
    left a b h = grind arith

    right : (a b : Bool) → a && b ≡ true → b ≡ true
    right a b h = grind arith

module _ (me : PipeId) (y : pipe.Slots) where
  -- the pipe is there, and its destination is open
  abbrev At : Slots → Type 0
  At s = (slice_get s.pipes me.0 ≡ Some y) × (goes y.phase ≡ true → Opened y.dest (writable_at y.dest s))

  added : (s : Slots) (z : Stream) → At s → At (add_stream z s)
  added s z k = (k.0, λ g. by (nat_eq y.dest.0 (length s.streams)) refl (k.1 g))
    where
      by : (b : Bool) → nat_eq y.dest.0 (length s.streams) ≡ b → Opened y.dest (writable_at y.dest s) → Opened y.dest (writable_at y.dest (add_stream z s))
      by false n o = subst (λ (w : Option Stream). Opened y.dest (as_writable w)) (sym (place_before s.streams z y.dest.0 (unequal_numbers y.dest.0 (length s.streams) n))) o
      by true n o =
          let none = no_stream y.dest s.streams (eq_numbers y.dest.0 (length s.streams) n) in
          let c : Opened y.dest no_writable = subst (λ (w : Option Stream). Opened y.dest (as_writable w)) none o in
          let f = c.closed in cc

  piped : (s : Slots) (x : pipe.Slots) → slice_get s.pipes me.0 ≡ Some y → slice_get (s.pipes ++ x ∷ []) me.0 ≡ Some y
  piped s x k =
      ⊎_elim (λ (e : slice_get (s.pipes ++ x ∷ []) me.0 ≡ slice_get s.pipes me.0). e ∙ k)
      (λ (e : (slice_get s.pipes me.0 ≡ None) × (slice_get (s.pipes ++ x ∷ []) me.0 ≡ Some x)). let n : ◌≡◌ {A = Option pipe.Slots} None (Some y) = sym e.0 ∙ k in cc)
      (appended s.pipes x me.0)

  begin-at : (c : Call) (s : Slots) → At s → At (begin c s).done.slots
  begin-at c s k =
      begin-makes At (record {
        promise = λ z k. k;
        locks = λ z ls k. k;
        hosts = λ z hs k. k;
        pipe = λ z source dest prevent signal promise k. (piped z (pipe.set_up source dest prevent signal promise) k.0, k.1);
        signal = λ z k. k;
        transform = λ z kind i j change k. k;
        tee = λ z source first second cancel k. k;
        port = λ z side stream backpressure k. k;
        bytes = λ z mark auto k. added z _ k;
        byob_requests = λ z hs k. k;
        readable = λ z owner mark size k. added z _ k;
        writable = λ z owner mark size k. added z _ k;
      }) c s k

-- a pipe that is there stays as a call begins
begin-there : (me : PipeId) (y : pipe.Slots) (c : Call) (s : Slots) → slice_get s.pipes me.0 ≡ Some y → slice_get (begin c s).done.slots.pipes me.0 ≡ Some y
begin-there me y c s k =
    begin-makes (λ z. slice_get z.pipes me.0 ≡ Some y) (record {
      promise = λ z k. k;
      locks = λ z ls k. k;
      hosts = λ z hs k. k;
      pipe = λ z source dest prevent signal promise k. piped me y z (pipe.set_up source dest prevent signal promise) k;
      signal = λ z k. k;
      transform = λ z kind i j change k. k;
      tee = λ z source first second cancel k. k;
      port = λ z side stream backpressure k. k;
      bytes = λ z mark auto k. k;
      byob_requests = λ z hs k. k;
      readable = λ z owner mark size k. k;
      writable = λ z owner mark size k. k;
    }) c s k

-- what a call begins with, where it makes the pipe
abbrev pub NewOpens : (StreamId → Prevent → Bool) → PipeId → Call → Slots → Type 0
NewOpens minds me c s =
    (x : pipe.Slots) → slice_get s.pipes me.0 ≡ None → slice_get (begin c s).done.slots.pipes me.0 ≡ Some x → minds x.source x.prevent ≡ true → goes x.phase ≡ true
    → Opened x.dest (writable_at x.dest (begin c s).done.slots) × (all (asks x.dest) (begin c s).done.caused ≡ 0)

pub call-opens : (minds : StreamId → Prevent → Bool) (me : PipeId) (c : Call) (s : Slots) → Opens minds me s []
    → ((x : pipe.Slots) → slice_get s.pipes me.0 ≡ Some x → goes x.phase ≡ true → all_spare x.source x.dest (begin c s).done.caused ≡ true) → NewOpens minds me c s
    → Opens minds me (begin c s).done.slots (begin c s).done.caused
call-opens minds me c s k spared new x f v g = by (slice_get s.pipes me.0) refl
  where
    by : (o : Option pipe.Slots) → slice_get s.pipes me.0 ≡ o → Opened x.dest (writable_at x.dest (begin c s).done.slots) × (all (asks x.dest) (begin c s).done.caused ≡ 0)
    by None e = new x e f v g
    by (Some y) e =
        let is : x ≡ y = some_pipe x y (sym f ∙ (begin-there me y c s e)) in
        let wanted : minds y.source y.prevent ≡ true = subst (λ (w : pipe.Slots). minds w.source w.prevent ≡ true) is v in
        let z = begin-at me y c s (e, λ h. (k y e wanted h).0) in
        let h : goes y.phase ≡ true = subst (λ (w : pipe.Slots). goes w.phase ≡ true) is g in
        rw is (z.1 h, all_spare_asks y.source y.dest (begin c s).done.caused (spared y e h))

-- jobs

pub job-opens : (minds : StreamId → Prevent → Bool) (me : PipeId) (job : Job) (s z : Slots) → z.streams ≡ s.streams → z.pipes ≡ s.pipes → Opens minds me s [] → Opens minds me z (job_effects job)
job-opens minds me job s z e f k x there v g =
    let old = k x (ap (λ (xs : List pipe.Slots). slice_get xs me.0) (sym f) ∙ there) v g in
    (subst (λ (xs : List Stream). Opened x.dest (as_writable (slice_get xs x.dest.0))) (sym e) old.0, none job)
  where
    none : (job : Job) → all (asks x.dest) (job_effects job) ≡ 0
    none job = grind arith
