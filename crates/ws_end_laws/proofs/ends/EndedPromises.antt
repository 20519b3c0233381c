-- Once a pipe is over, its promise has the outcome of its end, or the effect that settles it so stands on the agenda.
use Rattle.std.proofs.Common.{◌≡◌, ◌⊎◌, inl, inr, ⊎_elim, ℕ, Bool, true, false, nat_eq, List, [], ◌∷◌, ◌++◌, Option, Some, None, Result, Ok, Err, slice_get, refl, sym, ap, subst, ◌∙◌, append-nil, arith}
use Rattle.ws_value.specs.declared.{ids.PipeId.{PipeId}, ids.PromiseId.{PromiseId}, ids.SignalId.{SignalId}, ids.StreamId.{StreamId}}
use Rattle.ws_value.specs.declared.value.{Plain.{Plain}}
use Rattle.ws_steps.specs.declared.{calls.Call.{Call}, effects.Effect.{Effect}, effects.Effect.TheVariants.{Pipe, Settle}}
use Rattle.ws_steps.specs.declared.pipes.{Ends.{Ends}, Phase.{Phase}, Phase.TheVariants.{Flowing, Waiting, Acting, Over}, Prevent.{Prevent}, PipeOperation.{PipeOperation}}
use Rattle.ws_steps.specs.declared.pipes.PipeOperation.TheVariants.{Look, LookReady, KeepChunk, ReadEnded, WriteChunk, GoOn, WriteEnded, Abort as AbortPipe, ActionSettled, PartSettled, NoParts}
use Rattle.ws_steps.specs.Calls.{begin}
use Rattle.ws_steps.specs.Effects.{Out}
use Rattle.ws_steps.specs.Operations.{pipe_operation}
use Rattle.ws_steps.specs.Pipes as pipe
use Rattle.ws_steps.specs.Pipes.{Acts, finalize, action_settled}
use Rattle.ws_steps.specs.Promises.{Table, outcome_at, is_pending, settled, fresh, after_next_job, watch}
use Rattle.ws_steps.specs.Run.{Entry, Called, Worked, Heard, run, step, after_event}
use Rattle.ws_steps.specs.Slots.{Slots, Done, empty, ends_at, as_pipe, on_pipe_at}
use Rattle.ws_steps.specs.Turns.{row}
use Rattle.ws_steps.proofs.PromiseLaws.{slice_get-set_other}
use Rattle.ws_laws.proofs.Begin.{begin-makes}
use Rattle.ws_laws.proofs.PipeDoes.{pipe-does}
use Rattle.ws_laws.proofs.Outcomes.{Keeps, keeps-entries, keeps-same, keeps-fresh, keeps-next, keeps-watch}
use Rattle.ws_laws.proofs.Rows.{row-changes}
use Rattle.ws_laws.proofs.Apart.{row-pipes}
use Rattle.ws_laws.proofs.Stays.{keeps-changes}
use Rattle.ws_laws.proofs.Straight.{straight_before, settled_straight}
use Rattle.ws_laws.proofs.Tables.{eq_numbers, unequal_numbers}
use Rattle.ws_laws.proofs.Truth.{false_true}
use Rattle.ws_laws.proofs.Walker.{GoesUntold, called-goes_untold, worked-goes_untold, nothing-told}
use Rattle.ws_pipe_laws.specs.pipes.PipeHistory.{is_live, is_over, error_after, Course, no_course, course_then, ended_by, came_to_end, operation_course, effect_course, step_course, run_course}
use Rattle.ws_pipe_laws.specs.pipes.PipeMoves.{starting, result_by, end_effects, signal_forgets, Move, MoveRests, MoveWaits, MoveActs, MoveEnds, MoveFinishes}
use Rattle.ws_pipe_laws.proofs.pipes.Courses.{is_history, place_same, appended}
use Rattle.ws_pipe_laws.proofs.pipes.Kept.{each_pipe_keeps_its_ends}
use Rattle.ws_pipe_laws.proofs.pipes.Moves.{each_pipe_moves}

-- the effect that settles promise d so stands among these
abbrev pub Stands : PromiseId → Result Plain Plain → List Effect → Type 0
Stands d r [] = ⊥
Stands d r (e ∷ es) = (e ≡ Settle d r) ⊎ Stands d r es

stands-behind : (d : PromiseId) (r : Result Plain Plain) (es fs : List Effect) → Stands d r fs → Stands d r (es ++ fs)
stands-behind d r [] fs k = k
stands-behind d r (e ∷ es) fs k = inr (stands-behind d r es fs k)

stands-before : (d : PromiseId) (r : Result Plain Plain) (es fs : List Effect) → Stands d r es → Stands d r (es ++ fs)
stands-before d r [] fs k = absurd k
stands-before d r (e ∷ es) fs (inl k) = inl k
stands-before d r (e ∷ es) fs (inr k) = inr (stands-before d r es fs k)

-- this is the last of these
abbrev pub IsLast : Option Plain → List (Option Plain) → Type 0
IsLast e es = (fs : List (Option Plain)) × (es ≡ fs ++ e ∷ [])

-- it is settled so, or is to be
abbrev pub Due : PromiseId → Option Plain → Table → List Effect → Type 0
Due d e t es = Stands d (result_by e) es ⊎ (outcome_at t d ≡ Some (settled (result_by e)))

pub record IsTold (h : Course) (d : PromiseId) (t : Table) (es : List Effect) : Type 0 where
  pub end : Option Plain
  pub last : IsLast end h.ended
  pub due : Due d end t es

-- a pipe that is over
abbrev pub Known : Course → Option pipe.Slots → Table → List Effect → Type 0
Known h None t es = Unit {0}
Known h (Some x) t es = is_over x.phase ≡ true → IsTold h x.promise t es

-- what ends it

end-stands : (me : PipeId) (x : pipe.Slots) (e : Option Plain) → Stands x.promise (result_by e) (end_effects me x e)
end-stands me x e = inr (inr (stands-behind x.promise (result_by e) (signal_forgets me x.signal) _ (inl refl)))

told-stands : (me : PipeId) (x : pipe.Slots) (d e : Option Plain) (t : Table) (out : Out) → d ≡ e → out ≡ record { promises = t; effects = end_effects me x e } → Stands x.promise (result_by d) out.effects
told-stands me x d e t out n is =
    subst (λ (o : Out). Stands x.promise (result_by d) o.effects) (sym is) (subst (λ (c : Option Plain). Stands x.promise (result_by c) (end_effects me x e)) (sym n) (end-stands me x e))

-- an operation that isn't the end of an action
plain-move : (me : PipeId) (ends : Ends) (operation : PipeOperation) (x : pipe.Slots) (t : Table) (b : Acts) → ended_by operation b.slots ≡ b.slots.error → is_over x.phase ≡ false → is_over b.slots.phase ≡ true
    → Move me ends operation x t b → Stands x.promise (result_by (ended_by operation b.slots)) b.out.effects
plain-move me ends operation x t b n f o (MoveRests q a e i) = let k : is_over b.slots.phase ≡ is_over x.phase = ap is_over q in false_true (is_over b.slots.phase) o (k ∙ f)
plain-move me ends operation x t b n f o (MoveWaits g q named v e) = let k : is_over b.slots.phase ≡ false = ap (λ (z : pipe.Slots). is_over z.phase) q in false_true (is_over b.slots.phase) o k
plain-move me ends operation x t b n f o (MoveActs action y q named w e alike) =
    let k : is_over b.slots.phase ≡ false = ap is_over alike.phase ∙ ap (λ (z : pipe.Slots). is_over z.phase) q in false_true (is_over b.slots.phase) o k
plain-move me ends operation x t b n f o (MoveEnds q named w e) = told-stands me x (ended_by operation b.slots) b.slots.error t b.out n e
plain-move me ends operation x t b n f o (MoveFinishes r is q e) =
    let k : ended_by operation b.slots ≡ error_after x.error r = ap (λ (z : PipeOperation). ended_by z b.slots) is ∙ ap (λ (z : pipe.Slots). error_after z.error r) q in
    told-stands me x (ended_by operation b.slots) (error_after x.error r) t b.out k e

-- the end of an action
action-ends : (me : PipeId) (ends : Ends) (r : Result Plain Plain) (x : pipe.Slots) (t : Table) → let b : Acts = pipe_operation me ends (ActionSettled r) (starting x t) in Stands x.promise (result_by (ended_by (ActionSettled r) b.slots)) b.out.effects
unfolding action_settled finalize
action-ends me ends (Ok v) x t = end-stands me x x.error
action-ends me ends (Err e) x t = end-stands me x (Some e)

ends-stands : (me : PipeId) (ends : Ends) (operation : PipeOperation) (x : pipe.Slots) (t : Table) → let b : Acts = pipe_operation me ends operation (starting x t) in is_over x.phase ≡ false → is_over b.slots.phase ≡ true
    → Stands x.promise (result_by (ended_by operation b.slots)) b.out.effects
ends-stands me ends (ActionSettled r) x t f o = action-ends me ends r x t
ends-stands me ends Look x t f o = plain-move me ends Look x t _ refl f o (each_pipe_moves me ends Look x t)
ends-stands me ends LookReady x t f o = plain-move me ends LookReady x t _ refl f o (each_pipe_moves me ends LookReady x t)
ends-stands me ends (KeepChunk v) x t f o = plain-move me ends (KeepChunk v) x t _ refl f o (each_pipe_moves me ends (KeepChunk v) x t)
ends-stands me ends ReadEnded x t f o = plain-move me ends ReadEnded x t _ refl f o (each_pipe_moves me ends ReadEnded x t)
ends-stands me ends WriteChunk x t f o = plain-move me ends WriteChunk x t _ refl f o (each_pipe_moves me ends WriteChunk x t)
ends-stands me ends GoOn x t f o = plain-move me ends GoOn x t _ refl f o (each_pipe_moves me ends GoOn x t)
ends-stands me ends WriteEnded x t f o = plain-move me ends WriteEnded x t _ refl f o (each_pipe_moves me ends WriteEnded x t)
ends-stands me ends (AbortPipe r) x t f o = plain-move me ends (AbortPipe r) x t _ refl f o (each_pipe_moves me ends (AbortPipe r) x t)
ends-stands me ends (PartSettled r) x t f o = plain-move me ends (PartSettled r) x t _ refl f o (each_pipe_moves me ends (PartSettled r) x t)
ends-stands me ends NoParts x t f o = plain-move me ends NoParts x t _ refl f o (each_pipe_moves me ends NoParts x t)

-- what goes on

settled-over : (r : Result Plain Plain) → is_pending (settled r) ≡ false
settled-over (Ok v) = refl
settled-over (Err e) = refl

-- what an effect that settles a promise so leaves
abbrev Settles : Effect → Table → Type 0
Settles e z = (d : PromiseId) (end : Option Plain) → e ≡ Settle d (result_by end) → outcome_at z d ≡ Some (settled (result_by end))

settle-settles : (d : PromiseId) (r : Result Plain Plain) (s : Slots) → (row (Settle d r) s).slots.promises.astray ≡ false → outcome_at (row (Settle d r) s).slots.promises d ≡ Some (settled r)
unfolding row
settle-settles d r s a = settled_straight d r s.promises a

row-settles : (e : Effect) (s : Slots) → (row e s).slots.promises.astray ≡ false → Settles e (row e s).slots.promises
row-settles e s a d end is =
    subst (λ (f : Effect). (row f s).slots.promises.astray ≡ false → outcome_at (row f s).slots.promises d ≡ Some (settled (result_by end))) (sym is) (settle-settles d (result_by end) s) a

-- the first effect is performed, which leaves the promises z of t
due-next : (d : PromiseId) (end : Option Plain) (e : Effect) (es caused : List Effect) (t z : Table) → Keeps t z → Settles e z → Due d end t (e ∷ es) → Due d end z (caused ++ es)
due-next d end e es caused t z k n (inl (inl is)) = inr (n d end is)
due-next d end e es caused t z k n (inl (inr r)) = inl (stands-behind d (result_by end) caused es r)
due-next d end e es caused t z k n (inr o) = inr (k.outcome d (settled (result_by end)) (settled-over (result_by end)) o)

due-kept : (d : PromiseId) (end : Option Plain) (t z : Table) (es : List Effect) → Keeps t z → Due d end t [] → Due d end z es
due-kept d end t z es k (inl n) = absurd n
due-kept d end t z es k (inr o) = inr (k.outcome d (settled (result_by end)) (settled-over (result_by end)) o)

known-kept : (h : Course) (o : Option pipe.Slots) (t z : Table) (es : List Effect) → Keeps t z → Known h o t [] → Known h o z es
known-kept h None t z es k n = tt
known-kept h (Some x) t z es k n = λ o. let m = n o in record { end = m.end; last = m.last; due = due-kept x.promise m.end t z es k m.due }

-- nothing happens to the pipe
known-next : (h : Course) (o : Option pipe.Slots) (e : Effect) (es caused : List Effect) (t z : Table) → Keeps t z → Settles e z → Known h o t (e ∷ es) → Known h o z (caused ++ es)
known-next h None e es caused t z k n m = tt
known-next h (Some x) e es caused t z k n m = λ o. let l = m o in record { end = l.end; last = l.last; due = due-next x.promise l.end e es caused t z k n l.due }

pub row-keeps : (e : Effect) (s : Slots) → Keeps s.promises (row e s).slots.promises
row-keeps e s = row-changes (Keeps s.promises) (keeps-changes s.promises) e s (keeps-same s.promises)

-- an operation of a pipe that is over leaves it over, and tells of no end
pub over-move : (me : PipeId) (ends : Ends) (operation : PipeOperation) (x : pipe.Slots) (t : Table) (b : Acts) → is_over x.phase ≡ true → Move me ends operation x t b → is_over b.slots.phase ≡ true
over-move me ends operation x t b o (MoveRests q a e i) = ap is_over q ∙ o
over-move me ends operation x t b o (MoveFinishes r is q e) = ap (λ (z : pipe.Slots). is_over z.phase) q
over-move me ends operation x t b o (MoveEnds q named w e) = ap (λ (z : pipe.Slots). is_over z.phase) q
over-move me ends operation x t b o (MoveWaits g q named v e) = false_true (is_over x.phase) o (ap is_over g)
over-move me ends operation x t b o (MoveActs action y q named w e alike) = by x.phase o named.live
  where
    by : (phase : Phase) → is_over phase ≡ true → is_live phase ≡ true → is_over b.slots.phase ≡ true
    by Flowing o l = cc
    by Waiting o l = cc
    by Acting o l = cc
    by Over o l = cc

pub none-comes : (operation : PipeOperation) (x y : pipe.Slots) → is_over x.phase ≡ true → came_to_end operation x y ≡ []
none-comes operation x y o = rw o refl

pub one-comes : (operation : PipeOperation) (x y : pipe.Slots) → is_over x.phase ≡ false → is_over y.phase ≡ true → came_to_end operation x y ≡ ended_by operation y ∷ []
one-comes operation x y f o = rw (f, o) refl

-- the walk

pub operation-keeps : (me : PipeId) (ends : Ends) (operation : PipeOperation) (x : pipe.Slots) (t : Table) → Keeps t (pipe_operation me ends operation (starting x t)).out.promises
operation-keeps me ends operation x t =
    pipe-does (Keeps t)
    (record {
      fresh = λ z k. (keeps-changes t).fresh z k;
      settle = λ z p o k. (keeps-changes t).settle z p o k;
      micro = λ z m k. (keeps-changes t).micro z m k;
    }) me ends operation (starting x t) (keeps-same t)

-- where no end is added, the last is the same
last-same : (e : Option Plain) (es fs : List (Option Plain)) → fs ≡ [] → IsLast e es → IsLast e (es ++ fs)
last-same e es fs n l = (l.0, ap (λ (gs : List (Option Plain)). es ++ gs) n ∙ (append-nil es ∙ l.1))

-- at each moment of a run
module _ (p : PipeId) where
  abbrev pub At : Course → Slots → List Effect → Type 0
  At h s es = s.promises.astray ≡ false → Known h (slice_get s.pipes p.0) s.promises es

  -- an operation of the pipe
  own-known : (h : Course) (s : Slots) (operation : PipeOperation) (es : List Effect) (x : pipe.Slots) (was : Bool) → is_over x.phase ≡ was → Known h (Some x) s.promises (Pipe p operation ∷ es)
      → let b : Acts = pipe_operation p (ends_at x s) operation (starting x s.promises) in Known (course_then h (operation_course operation x b.slots)) (Some b.slots) b.out.promises (b.out.effects ++ es)
  own-known h s operation es x true w k o =
      let b : Acts = pipe_operation p (ends_at x s) operation (starting x s.promises) in
      let same = (each_pipe_keeps_its_ends p (ends_at x s) operation x s.promises).promise in
      let l = known-next h (Some x) (Pipe p operation) es b.out.effects s.promises b.out.promises (operation-keeps p (ends_at x s) operation x s.promises) (λ d end f. cc) k w in
      record {
        end = l.end;
        last = last-same l.end h.ended (came_to_end operation x b.slots) (none-comes operation x b.slots w) l.last;
        due = subst (λ (d : PromiseId). Due d l.end b.out.promises (b.out.effects ++ es)) (sym same) l.due;
      }
  own-known h s operation es x false w k o =
      let b : Acts = pipe_operation p (ends_at x s) operation (starting x s.promises) in
      let same = (each_pipe_keeps_its_ends p (ends_at x s) operation x s.promises).promise in
      let end : Option Plain = ended_by operation b.slots in
      record {
        end = end;
        last = (h.ended, ap (λ (es : List (Option Plain)). h.ended ++ es) (one-comes operation x b.slots w o));
        due =
            subst (λ (d : PromiseId). Due d end b.out.promises (b.out.effects ++ es)) (sym same)
            (inl (stands-before x.promise (result_by end) b.out.effects es (ends-stands p (ends_at x s) operation x s.promises w o)));
      }

  own_place : (operation : PipeOperation) (h : Course) (s : Slots) (es : List Effect) (o : Option pipe.Slots) → slice_get s.pipes p.0 ≡ o → At h s (Pipe p operation ∷ es)
      → let d : Done = on_pipe_at (λ ends. pipe_operation p ends operation) p s o in
      d.slots.promises.astray ≡ false → Known (course_then h (operation_course operation (as_pipe o) (as_pipe (slice_get d.slots.pipes p.0)))) (slice_get d.slots.pipes p.0) d.slots.promises (d.caused ++ es)
  own_place operation h s es None e k a = rw e tt
  own_place operation h s es (Some x) e k a =
      let b : Acts = pipe_operation p (ends_at x s) operation (starting x s.promises) in
      let before : Known h (Some x) s.promises (Pipe p operation ∷ es) =
      subst (λ (o : Option pipe.Slots). Known h o s.promises (Pipe p operation ∷ es)) e (k (straight_before s.promises b.out.promises (operation-keeps p (ends_at x s) operation x s.promises) a)) in
      rw (place_same s.pipes p.0 x b.slots e) (own-known h s operation es x (is_over x.phase) refl before)

  self : nat_eq p.0 p.0 ≡ true
  self = grind arith

  own_row : (h : Course) (s : Slots) (operation : PipeOperation) (es : List Effect) → At h s (Pipe p operation ∷ es)
      → At (course_then h (effect_course p (Pipe p operation) s)) (row (Pipe p operation) s).slots ((row (Pipe p operation) s).caused ++ es)
  unfolding row
  own_row h s operation es k a = rw self (own_place operation h s es (slice_get s.pipes p.0) refl k a)

  -- and any other effect
  other_row : (h : Course) (s : Slots) (e : Effect) (es : List Effect) → slice_get (row e s).slots.pipes p.0 ≡ slice_get s.pipes p.0 → effect_course p e s ≡ no_course → At h s (e ∷ es)
      → At (course_then h (effect_course p e s)) (row e s).slots ((row e s).caused ++ es)
  other_row h s e es same told k a =
      let keeps = row-keeps e s in
      let l = known-next h (slice_get s.pipes p.0) e es (row e s).caused s.promises (row e s).slots.promises keeps (row-settles e s a) (k (straight_before s.promises (row e s).slots.promises keeps a)) in
      rw (told, is_history.right h, same) l

  other_place : (q : PipeId) (operation : PipeOperation) (s : Slots) (o : Option pipe.Slots) → nat_eq p.0 q.0 ≡ false → slice_get (on_pipe_at (λ ends. pipe_operation q ends operation) q s o).slots.pipes p.0 ≡ slice_get s.pipes p.0
  other_place q operation s None n = refl
  other_place q operation s (Some x) n = slice_get-set_other s.pipes q.0 p.0 _ (λ i. unequal_numbers p.0 q.0 n (sym i))

  beside : (q : PipeId) (operation : PipeOperation) (s : Slots) → nat_eq p.0 q.0 ≡ false → slice_get (row (Pipe q operation) s).slots.pipes p.0 ≡ slice_get s.pipes p.0
  unfolding row
  beside q operation s n = other_place q operation s (slice_get s.pipes q.0) n

  pipe_row : (h : Course) (s : Slots) (q : PipeId) (operation : PipeOperation) (es : List Effect) (same : Bool) → nat_eq p.0 q.0 ≡ same → At h s (Pipe q operation ∷ es)
      → At (course_then h (effect_course p (Pipe q operation) s)) (row (Pipe q operation) s).slots ((row (Pipe q operation) s).caused ++ es)
  pipe_row h s q operation es false n k = other_row h s (Pipe q operation) es (beside q operation s n) (rw n refl) k
  pipe_row h s q operation es true n k =
      let is : p ≡ q = ap (λ (n : ℕ). record { 0 = n }) (eq_numbers p.0 q.0 n) in
      subst (λ (z : PipeId). At h s (Pipe z operation ∷ es) → At (course_then h (effect_course p (Pipe z operation) s)) (row (Pipe z operation) s).slots ((row (Pipe z operation) s).caused ++ es)) is (own_row h s operation es) k

  row-at : (h : Course) (s : Slots) (e : Effect) (es : List Effect) → At h s (e ∷ es) → At (course_then h (effect_course p e s)) (row e s).slots ((row e s).caused ++ es)
  row-at h s (Pipe q operation) es k = pipe_row h s q operation es (nat_eq p.0 q.0) refl k
  row-at h s e es k = other_row h s e es (ap (λ (ps : List pipe.Slots). slice_get ps p.0) (row-pipes e s tt)) refl k

  -- only promises change
  changed : (h : Course) (s : Slots) (t : Table) (es : List Effect) → Keeps s.promises t → At h s [] → t.astray ≡ false → Known h (slice_get s.pipes p.0) t es
  changed h s t es keeps k a = known-kept h (slice_get s.pipes p.0) s.promises t es keeps (k (straight_before s.promises t keeps a))

  made : (h : Course) (s : Slots) (source dest : StreamId) (prevent : Prevent) (signal : Option SignalId) (promise : PromiseId) → At h s [] → At h (record s { pipes = s.pipes ++ pipe.set_up source dest prevent signal promise ∷ [] }) []
  made h s source dest prevent signal promise k a =
      let y : pipe.Slots = pipe.set_up source dest prevent signal promise in
      ⊎_elim (λ (e : slice_get (s.pipes ++ y ∷ []) p.0 ≡ slice_get s.pipes p.0). rw e (k a))
      (λ (e : (slice_get s.pipes p.0 ≡ None) × (slice_get (s.pipes ++ y ∷ []) p.0 ≡ Some y)). subst (λ (o : Option pipe.Slots). Known h o s.promises []) (sym e.1) (λ f. cc))
      (appended s.pipes y p.0)

  call-at : (h : Course) (c : Call) (s : Slots) → At h s [] → At h (begin c s).done.slots []
  call-at h c s k = begin-makes (λ z. At h z []) (record {
    promise = λ z k. changed h z (fresh z.promises) [] (keeps-fresh z.promises) k;
    locks = λ z ls k. k;
    hosts = λ z hs k. k;
    pipe = λ z source dest prevent signal promise k. made h z source dest prevent signal promise k;
    signal = λ z k. k;
    transform = λ z kind i j change k. k;
    tee = λ z source first second cancel k. k;
    port = λ z side stream backpressure k. k;
    bytes = λ z mark auto k. k;
    byob_requests = λ z hs k. k;
    readable = λ z owner mark size k. k;
    writable = λ z owner mark size k. k;
  }) c s k

  goes : GoesUntold course_then (effect_course p) At
  goes = record {
    row = row-at;
    call = λ h s c k. changed h (begin c s).done.slots (begin c s).done.slots.promises (begin c s).done.caused (keeps-same (begin c s).done.slots.promises) (call-at h c s k);
    job = λ h s job e k. changed h s (after_next_job s.promises) _ (keeps-next s.promises) k;
    answered = λ h s q k. changed h s (watch q s.promises) [] (keeps-watch q s.promises) k;
    older = λ h s k. k;
  }

  -- where nothing is performed
  rested : (h : Course) (s z : Slots) → At h z [] → At (course_then h (step_course p s Heard)) z []
  rested h s z k =
      let none : step_course p s Heard ≡ no_course = nothing-told no_course course_then is_history (effect_course p) s in
      subst (λ (f : Course). At (course_then h f) z []) (sym none) (subst (λ (f : Course). At f z []) (sym (is_history.right h)) k)

  step-at : (h : Course) (s : Slots) (x : Entry) → At h s [] → At (course_then h (step_course p s x)) (step s x) []
  step-at h s (Called c) k = called-goes_untold no_course course_then is_history (effect_course p) At goes h s c k
  step-at h s Worked k = worked-goes_untold no_course course_then is_history (effect_course p) At goes h s k
  step-at h s Heard k = rested h s (after_event s) (changed h s (after_event s).promises [] (keeps-entries s.promises (after_event s).promises refl (λ m. m)) k)

  run-at : (xs : List Entry) (h : Course) (s : Slots) → At h s [] → At (course_then h (run_course p xs s)) (run xs s) []
  run-at [] h s k = subst (λ (f : Course). At f s []) (sym (is_history.right h)) k
  run-at (x ∷ xs) h s k =
      subst (λ (f : Course). At f (run xs (step s x)) []) (is_history.assoc h (step_course p s x) (run_course p xs (step s x)))
      (run-at xs (course_then h (step_course p s x)) (step s x) (step-at h s x k))

pub ended-told : (entries : List Entry) (p : PipeId) → (run entries empty).promises.astray ≡ false
    → Known (run_course p entries empty) (slice_get (run entries empty).pipes p.0) (run entries empty).promises []
ended-told entries p a = run-at p entries no_course empty (λ b. tt) a
