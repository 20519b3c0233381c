-- The course of a pipe over every run.
use Rattle.std.proofs.Common.{◌≡◌, ◌≢◌, ◌⊎◌, inl, inr, ⊎_elim, ℕ, zero, suc, ◌≤◌, Bool, true, false, nat_eq, List, [], ◌∷◌, ◌++◌, Option, Some, None, Result, slice_get, slice_set, refl, sym, ap, subst, ◌∙◌, append_assoc, append-nil, arith}
use Rattle.std.proofs.Math.Path.{ap₂}
use Rattle.ws_value.specs.declared.{ids.PipeId.{PipeId}, ids.PromiseId.{PromiseId}, ids.SignalId.{SignalId}, ids.StreamId.{StreamId}, value.Plain.{Plain}}
use Rattle.ws_steps.specs.declared.{effects.Effect.{Effect}, effects.Effect.TheVariants.{Pipe}, pipes.Prevent.{Prevent}, pipes.Action.{Action}}
use Rattle.ws_steps.specs.declared.pipes.{Ends.{Ends}, Phase.{Phase}, Phase.TheVariants.{Flowing, Waiting, Acting, Over}, PipeOperation.{PipeOperation}}
use Rattle.ws_steps.specs.declared.pipes.PipeOperation.TheVariants.{Look, LookReady, KeepChunk, ReadEnded, WriteChunk, GoOn, WriteEnded, Abort as AbortPipe, ActionSettled, PartSettled, NoParts}
use Rattle.ws_steps.specs.Operations.{pipe_operation}
use Rattle.ws_pipe_laws.specs.pipes.PipeHistory.{shutdown, is_live, error_after, Course, no_course, course_then, ended_by, operation_course, effect_course}
use Rattle.ws_pipe_laws.specs.pipes.PipeMoves.{starting, Move, MoveRests, MoveWaits, MoveActs, MoveEnds, MoveFinishes}
use Rattle.ws_pipe_laws.specs.pipes.PipeReads.{HasEnded, WithoutAction, AfterAction, IsCourse, IsCourseAt, EachPipeHasACourse}
use Rattle.ws_steps.specs.Pipes as pipe
use Rattle.ws_steps.specs.Pipes.{Acts}
use Rattle.ws_steps.specs.Promises.{Table}
use Rattle.ws_steps.specs.Slots.{Slots, Done, empty, ends_at, as_pipe, on_pipe_at}
use Rattle.ws_steps.specs.Turns.{row}
use Rattle.ws_steps.proofs.PromiseLaws.{slice_get-set_other}
use Rattle.ws_laws.proofs.Begin.{begin-makes}
use Rattle.ws_laws.proofs.Apart.{IsNoPipe, row-pipes}
use Rattle.ws_laws.proofs.Tables.{eq_numbers, unequal_numbers}
use Rattle.ws_laws.proofs.Walker.{IsHistory, GoesUntold, RestsUntold, run-holds}
use Rattle.ws_promise_laws.proofs.Acting.{EachWaits, Waits, waits-stays, waits-heard, none-waits}
use Rattle.ws_promise_laws.proofs.PipeActs.{acts_now}
use Rattle.ws_promise_laws.proofs.Tokens.{one_if}
use Rattle.ws_pipe_laws.proofs.pipes.Moves.{each_pipe_moves}

pub is_history : IsHistory no_course course_then
is_history = record {
  left = λ f. refl;
  right = λ f k. record { shutdowns = append-nil f.shutdowns k; acted = append-nil f.acted k; ended = append-nil f.ended k };
  assoc = λ f g h k. record { shutdowns = append_assoc f.shutdowns g.shutdowns h.shutdowns k; acted = append_assoc f.acted g.acted h.acted k; ended = append_assoc f.ended g.ended h.ended k };
}

data LivePhase (phase : Phase) : Type 0 where
  IsFlowing : phase ≡ Flowing → LivePhase phase
  IsWaiting : phase ≡ Waiting → LivePhase phase

live_phase : (phase : Phase) → is_live phase ≡ true → LivePhase phase
live_phase Flowing e = IsFlowing refl
live_phase Waiting e = IsWaiting refl
live_phase Acting e = cc
live_phase Over e = cc

-- it rests
rests_course : (operation : PipeOperation) (x y : pipe.Slots) → y.phase ≡ x.phase → operation_course operation x y ≡ no_course
rests_course operation x y e = grind arith

-- it has the same shutdown as before
same_course : (h : Course) (x y : pipe.Slots) → y.phase ≡ x.phase → y.action ≡ x.action → y.error ≡ x.error → IsCourse h x → IsCourse h y
same_course h x y p a e i = record {
  flowing = λ f. i.flowing (sym p ∙ f);
  waiting = λ f. i.waiting (sym p ∙ f) ∙ ap₂ (λ (b : Option Action) (r : Option Plain). record { shutdowns = shutdown b r ∷ []; acted = []; ended = [] }) (sym a) (sym e);
  acting = λ f. let g = i.acting (sym p ∙ f) in ((λ n. g.0 (sym a ∙ n)), g.1 ∙ ap₂ (λ (b : Option Action) (r : Option Plain). record { shutdowns = shutdown b r ∷ []; acted = b ∷ []; ended = [] }) (sym a) (sym e));
  over = λ f. ended (i.over (sym p ∙ f));
}
  where
    ended : HasEnded h x → HasEnded h y
    ended (WithoutAction n c) = WithoutAction (a ∙ n) (c ∙ ap₂ (λ (b : Option Action) (r : Option Plain). record { shutdowns = shutdown b r ∷ []; acted = []; ended = r ∷ [] }) (sym a) (sym e))
    ended (AfterAction o n c) = AfterAction o (λ f. n (sym a ∙ f)) (c ∙ ap₂ (λ (b : Option Action) (r : Option Plain). record { shutdowns = shutdown b r ∷ []; acted = b ∷ []; ended = error_after r o ∷ [] }) (sym a) (sym e))

-- what is told where the phase moves

waits_course : (operation : PipeOperation) (x y : pipe.Slots) → x.phase ≡ Flowing → y.phase ≡ Waiting → operation_course operation x y ≡ record { shutdowns = shutdown y.action y.error ∷ []; acted = []; ended = [] }
waits_course operation x y f g = rw (f, g) refl

flowing_acts : (operation : PipeOperation) (x y : pipe.Slots) → x.phase ≡ Flowing → y.phase ≡ Acting → operation_course operation x y ≡ record { shutdowns = shutdown y.action y.error ∷ []; acted = y.action ∷ []; ended = [] }
flowing_acts operation x y f g = rw (f, g) refl

waiting_acts : (operation : PipeOperation) (x y : pipe.Slots) → x.phase ≡ Waiting → y.phase ≡ Acting → operation_course operation x y ≡ record { shutdowns = []; acted = y.action ∷ []; ended = [] }
waiting_acts operation x y f g = rw (f, g) refl

flowing_ends : (operation : PipeOperation) (x y : pipe.Slots) → x.phase ≡ Flowing → y.phase ≡ Over → operation_course operation x y ≡ record { shutdowns = shutdown y.action y.error ∷ []; acted = []; ended = ended_by operation y ∷ [] }
flowing_ends operation x y f g = rw (f, g) refl

waiting_ends : (operation : PipeOperation) (x y : pipe.Slots) → x.phase ≡ Waiting → y.phase ≡ Over → operation_course operation x y ≡ record { shutdowns = []; acted = []; ended = ended_by operation y ∷ [] }
waiting_ends operation x y f g = rw (f, g) refl

acting_ends : (operation : PipeOperation) (x y : pipe.Slots) → x.phase ≡ Acting → y.phase ≡ Over → operation_course operation x y ≡ record { shutdowns = []; acted = []; ended = ended_by operation y ∷ [] }
acting_ends operation x y f g = rw (f, g) refl

ended_plain : (operation : PipeOperation) (y : pipe.Slots) → ((o : Result Plain Plain) → operation ≡ ActionSettled o → ⊥) → ended_by operation y ≡ y.error
ended_plain (ActionSettled o) y n = absurd (n o refl)
ended_plain Look y n = refl
ended_plain LookReady y n = refl
ended_plain (KeepChunk v) y n = refl
ended_plain ReadEnded y n = refl
ended_plain WriteChunk y n = refl
ended_plain GoOn y n = refl
ended_plain WriteEnded y n = refl
ended_plain (AbortPipe r) y n = refl
ended_plain (PartSettled o) y n = refl
ended_plain NoParts y n = refl

only_waiting : (h : Course) (y : pipe.Slots) → y.phase ≡ Waiting → h ≡ record { shutdowns = shutdown y.action y.error ∷ []; acted = []; ended = [] } → IsCourse h y
only_waiting h y p e = record { flowing = λ f. let n : Waiting ≡ Flowing = sym p ∙ f in cc; waiting = λ f. e; acting = λ f. let n : Waiting ≡ Acting = sym p ∙ f in cc; over = λ f. let n : Waiting ≡ Over = sym p ∙ f in cc }

only_acting : (h : Course) (y : pipe.Slots) → y.phase ≡ Acting → y.action ≢ None → h ≡ record { shutdowns = shutdown y.action y.error ∷ []; acted = y.action ∷ []; ended = [] } → IsCourse h y
only_acting h y p n e = record { flowing = λ f. let n : Acting ≡ Flowing = sym p ∙ f in cc; waiting = λ f. let n : Acting ≡ Waiting = sym p ∙ f in cc; acting = λ f. (n, e); over = λ f. let n : Acting ≡ Over = sym p ∙ f in cc }

only_over : (h : Course) (y : pipe.Slots) → y.phase ≡ Over → HasEnded h y → IsCourse h y
only_over h y p e = record { flowing = λ f. let n : Over ≡ Flowing = sym p ∙ f in cc; waiting = λ f. let n : Over ≡ Waiting = sym p ∙ f in cc; acting = λ f. let n : Over ≡ Acting = sym p ∙ f in cc; over = λ f. e }

-- the shutdown that it had while it waited
waited : (x y : pipe.Slots) (h : Course) → h ≡ record { shutdowns = shutdown x.action x.error ∷ []; acted = []; ended = [] } → y.action ≡ x.action → y.error ≡ x.error → h ≡ record { shutdowns = shutdown y.action y.error ∷ []; acted = []; ended = [] }
waited x y h c a e = rw (a, e) c

module _ (p : PipeId) (ends : Ends) (operation : PipeOperation) (x : pipe.Slots) (b : Acts) (h : Course) (settled : (o : Result Plain Plain) → operation ≡ ActionSettled o → x.phase ≡ Acting) (c : IsCourse h x) where
  abbrev Goes : Type 0
  Goes = IsCourse (course_then h (operation_course operation x b.slots)) b.slots

  -- a pipe that goes on isn't ended by the settling of an action
  not_settled : LivePhase x.phase → (o : Result Plain Plain) → operation ≡ ActionSettled o → ⊥
  not_settled (IsFlowing f) o e = let n : Flowing ≡ Acting = sym f ∙ settled o e in cc
  not_settled (IsWaiting f) o e = let n : Waiting ≡ Acting = sym f ∙ settled o e in cc

  acts-on : b.slots.phase ≡ Acting → b.slots.action ≢ None → (x.phase ≡ Waiting → (b.slots.action ≡ x.action) × (b.slots.error ≡ x.error)) → LivePhase x.phase → Goes
  acts-on q n k (IsFlowing f) = only_acting _ b.slots q n (ap₂ course_then (c.flowing f) (flowing_acts operation x b.slots f q))
  acts-on q n k (IsWaiting f) = let s = k f in only_acting _ b.slots q n (ap₂ course_then (waited x b.slots h (c.waiting f) s.0 s.1) (waiting_acts operation x b.slots f q))

  ends-on : b.slots.phase ≡ Over → b.slots.action ≡ None → ended_by operation b.slots ≡ b.slots.error → (x.phase ≡ Waiting → (b.slots.action ≡ x.action) × (b.slots.error ≡ x.error)) → LivePhase x.phase → Goes
  ends-on q a plain k (IsFlowing f) =
      only_over _ b.slots q (WithoutAction a (ap₂ course_then (c.flowing f) (flowing_ends operation x b.slots f q) ∙ ap (λ (r : Option Plain). record { shutdowns = shutdown b.slots.action b.slots.error ∷ []; acted = []; ended = r ∷ [] }) plain))
  ends-on q a plain k (IsWaiting f) =
      let s = k f in
      only_over _ b.slots q
      (WithoutAction a (ap₂ course_then (waited x b.slots h (c.waiting f) s.0 s.1) (waiting_ends operation x b.slots f q) ∙ ap (λ (r : Option Plain). record { shutdowns = shutdown b.slots.action b.slots.error ∷ []; acted = []; ended = r ∷ [] }) plain))

  move-course : (t : Table) → Move p ends operation x t b → Goes
  move-course t (MoveRests q a e i) =
      subst (λ (z : Course). IsCourse (course_then h z) b.slots) (sym (rests_course operation x b.slots q)) (subst (λ (z : Course). IsCourse z b.slots) (sym (is_history.right h)) (same_course h x b.slots q a e c))
  move-course t (MoveWaits f q m v e) =
      let phase : b.slots.phase ≡ Waiting = ap (λ (z : pipe.Slots). z.phase) q in
      only_waiting _ b.slots phase (ap₂ course_then (c.flowing f) (waits_course operation x b.slots f phase))
  move-course t (MoveActs z y q m w e k) =
      let some : Some z ≢ None = λ f. cc in
      acts-on (k.phase ∙ ap (λ (z : pipe.Slots). z.phase) q) (λ g. some (sym (k.action ∙ ap (λ (z : pipe.Slots). z.action) q) ∙ g)) (λ f. let s = m.keeps f in (k.action ∙ s.0, k.error ∙ s.1)) (live_phase x.phase m.live)
  move-course t (MoveEnds q m w e) =
      ends-on (ap (λ (z : pipe.Slots). z.phase) q) (ap (λ (z : pipe.Slots). z.action) q) (ended_plain operation b.slots (not_settled (live_phase x.phase m.live))) m.keeps (live_phase x.phase m.live)
  move-course t (MoveFinishes o e q f) =
      let g : x.phase ≡ Acting = settled o e in
      let s = c.acting g in
      let phase : b.slots.phase ≡ Over = ap (λ (z : pipe.Slots). z.phase) q in
      let a : b.slots.action ≡ x.action = ap (λ (z : pipe.Slots). z.action) q in
      let r : b.slots.error ≡ x.error = ap (λ (z : pipe.Slots). z.error) q in
      let v : ended_by operation b.slots ≡ error_after b.slots.error o = ap (λ (z : PipeOperation). ended_by z b.slots) e in
      let before : h ≡ record { shutdowns = shutdown b.slots.action b.slots.error ∷ []; acted = b.slots.action ∷ []; ended = [] } = rw (a, r) s.1 in
      only_over _ b.slots phase
      (AfterAction o (λ n. s.0 (sym a ∙ n))
      (ap₂ course_then before (acting_ends operation x b.slots g phase) ∙ ap (λ (z : Option Plain). record { shutdowns = shutdown b.slots.action b.slots.error ∷ []; acted = b.slots.action ∷ []; ended = z ∷ [] }) v))

-- runs

acting_phase : (phase : Phase) (x : pipe.Slots) → phase ≡ x.phase → 1 ≤ one_if (acts_now (Some x)) → phase ≡ Acting
acting_phase Acting x e n = refl
acting_phase Flowing x e n = let m : 1 ≤ 0 = rw (← e) at n in absurd (omega arith)
acting_phase Waiting x e n = let m : 1 ≤ 0 = rw (← e) at n in absurd (omega arith)
acting_phase Over x e n = let m : 1 ≤ 0 = rw (← e) at n in absurd (omega arith)

pub place_same : (ps : List pipe.Slots) (n : ℕ) (x y : pipe.Slots) → slice_get ps n ≡ Some x → slice_get (slice_set ps n y) n ≡ Some y
place_same [] n x y e = cc
place_same (z ∷ ps) zero x y e = refl
place_same (z ∷ ps) (suc n) x y e = place_same ps n x y e

pub appended : (ps : List pipe.Slots) (y : pipe.Slots) (n : ℕ) → (slice_get (ps ++ y ∷ []) n ≡ slice_get ps n) ⊎ ((slice_get ps n ≡ None) × (slice_get (ps ++ y ∷ []) n ≡ Some y))
appended [] y zero = inr (refl, refl)
appended [] y (suc n) = inl refl
appended (x ∷ ps) y zero = inl refl
appended (x ∷ ps) y (suc n) = appended ps y n

module _ (p : PipeId) where
  abbrev At : Course → Slots → Type 0
  At h s = IsCourseAt h (slice_get s.pipes p.0)

  abbrev Is : Course → Slots → List Effect → Type 0
  Is h s es = At h s × EachWaits s es

  -- an operation of the pipe
  own_place : (operation : PipeOperation) (h : Course) (s : Slots) (o : Option pipe.Slots) → slice_get s.pipes p.0 ≡ o → ((r : Result Plain Plain) → operation ≡ ActionSettled r → 1 ≤ one_if (acts_now o)) → IsCourseAt h o
      → let d : Done = on_pipe_at (λ ends. pipe_operation p ends operation) p s o in IsCourseAt (course_then h (operation_course operation (as_pipe o) (as_pipe (slice_get d.slots.pipes p.0)))) (slice_get d.slots.pipes p.0)
  own_place operation h s None e settled k = rw e (is_history.right h ∙ k)
  own_place operation h s (Some x) e settled k =
      let b : Acts = pipe_operation p (ends_at x s) operation (starting x s.promises) in
      rw (place_same s.pipes p.0 x b.slots e) (move-course p (ends_at x s) operation x b h (λ r f. acting_phase x.phase x refl (settled r f)) k s.promises (each_pipe_moves p (ends_at x s) operation x s.promises))

  self : nat_eq p.0 p.0 ≡ true
  self = grind arith

  settles : (operation : PipeOperation) (s : Slots) (es : List Effect) → Waits p s (Pipe p operation ∷ es) → (r : Result Plain Plain) → operation ≡ ActionSettled r → 1 ≤ one_if (acts_now (slice_get s.pipes p.0))
  settles operation s es w r e =
      let v : Waits p s (Pipe p (ActionSettled r) ∷ es) = subst (λ (z : PipeOperation). Waits p s (Pipe p z ∷ es)) e w in
      let one : one_if (nat_eq p.0 p.0) ≡ 1 = ap one_if self in
      omega (arith, v, one)

  own_row : (h : Course) (s : Slots) (operation : PipeOperation) (es : List Effect) → Is h s (Pipe p operation ∷ es) → At (course_then h (effect_course p (Pipe p operation) s)) (row (Pipe p operation) s).slots
  unfolding row
  own_row h s operation es k = rw self (own_place operation h s (slice_get s.pipes p.0) refl (settles operation s es (k.1 p)) k.0)

  other_place : (q : PipeId) (operation : PipeOperation) (s : Slots) (o : Option pipe.Slots) → nat_eq p.0 q.0 ≡ false → slice_get (on_pipe_at (λ ends. pipe_operation q ends operation) q s o).slots.pipes p.0 ≡ slice_get s.pipes p.0
  other_place q operation s None n = refl
  other_place q operation s (Some x) n = slice_get-set_other s.pipes q.0 p.0 _ (λ i. unequal_numbers p.0 q.0 n (sym i))

  pipe_row : (h : Course) (s : Slots) (q : PipeId) (operation : PipeOperation) (es : List Effect) (same : Bool) → same ≡ nat_eq p.0 q.0 → Is h s (Pipe q operation ∷ es)
      → At (course_then h (effect_course p (Pipe q operation) s)) (row (Pipe q operation) s).slots
  unfolding row
  pipe_row h s q operation es false n k = rw (← n, other_place q operation s (slice_get s.pipes q.0) (sym n), is_history.right h) k.0
  pipe_row h s q operation es true n k =
      let is : p ≡ q = ap (λ (n : ℕ). record { 0 = n }) (eq_numbers p.0 q.0 (sym n)) in
      subst (λ (z : PipeId). Is h s (Pipe z operation ∷ es) → At (course_then h (effect_course p (Pipe z operation) s)) (row (Pipe z operation) s).slots) is (own_row h s operation es) k

  other_row : (h : Course) (s : Slots) (e : Effect) → IsNoPipe e → effect_course p e s ≡ no_course → At h s → At (course_then h (effect_course p e s)) (row e s).slots
  other_row h s e n told k = rw (told, is_history.right h, row-pipes e s n) k

  row-at : (h : Course) (s : Slots) (e : Effect) (es : List Effect) → Is h s (e ∷ es) → At (course_then h (effect_course p e s)) (row e s).slots
  row-at h s (Pipe q operation) es k = pipe_row h s q operation es (nat_eq p.0 q.0) refl k
  row-at h s e es k = other_row h s e tt refl k.0

  made : (h : Course) (s : Slots) (source dest : StreamId) (prevent : Prevent) (signal : Option SignalId) (promise : PromiseId) → At h s → At h (record s { pipes = s.pipes ++ pipe.set_up source dest prevent signal promise ∷ [] })
  made h s source dest prevent signal promise k =
      let y : pipe.Slots = pipe.set_up source dest prevent signal promise in
      ⊎_elim (λ (e : slice_get (s.pipes ++ y ∷ []) p.0 ≡ slice_get s.pipes p.0). rw e k)
      (λ (e : (slice_get s.pipes p.0 ≡ None) × (slice_get (s.pipes ++ y ∷ []) p.0 ≡ Some y)).
      let none : h ≡ no_course = rw e.0 at k in
      rw e.1 (record { flowing = λ f. none; waiting = λ f. cc; acting = λ f. cc; over = λ f. cc }))
      (appended s.pipes y p.0)

  goes : GoesUntold course_then (effect_course p) Is
  goes = record {
    row = λ h s e es k. (row-at h s e es k, waits-stays.row s e es k.1);
    call = λ h s c k. (
      begin-makes (λ z. At h z) (record {
        promise = λ z k. k;
        locks = λ z ls k. k;
        hosts = λ z hs k. k;
        pipe = λ z source dest prevent signal promise k. made h z source dest prevent signal promise k;
        signal = λ z k. k;
        transform = λ z kind i j change k. k;
        tee = λ z source first second cancel k. k;
        port = λ z side stream backpressure k. k;
        bytes = λ z mark auto k. k;
        byob_requests = λ z hs k. k;
        readable = λ z owner mark size k. k;
        writable = λ z owner mark size k. k;
      }) c s k.0,
      waits-stays.call s c k.1,
    );
    job = λ h s job e k. (k.0, waits-stays.job s job e k.1);
    answered = λ h s q k. (k.0, waits-stays.answered s q k.1);
    older = λ h s k. (k.0, waits-stays.older s k.1);
  }

  rests : RestsUntold Is
  rests = record { heard = λ h s k. (k.0, waits-heard s k.1) }

pub each_pipe_has_a_course : EachPipeHasACourse
each_pipe_has_a_course entries p =
    (run-holds no_course course_then is_history (effect_course p) (Is p) (goes p) (rests p) entries empty (refl, (λ q. none-waits q))).0
