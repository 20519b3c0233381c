-- What a pipe passed on that may close its destination (`each_pipe_that_may_close_passed_all`, `each_fulfilled_pipe_passed_all_it_read`).
use Rattle.std.proofs.Common.{◌≡◌, ◌⊎◌, inl, inr, false, List, [], ◌∷◌, ◌++◌, Option, Some, None, Result, Ok, Err, slice_get, refl, sym, ap, subst, ◌∙◌}
use Rattle.ws_value.specs.declared.{ids.PipeId.{PipeId}, value.Plain.{Plain}}
use Rattle.ws_steps.specs.declared.pipes.{Phase.{Phase}, Phase.TheVariants.{Flowing, Waiting, Acting, Over}}
use Rattle.ws_steps.specs.Pipes as pipe
use Rattle.ws_steps.specs.Promises.{Table}
use Rattle.ws_steps.specs.Run.{Entry, run, step, moments_in}
use Rattle.ws_steps.specs.Slots.{Slots, empty, as_pipe, pipe_at, writable_at}
use Rattle.ws_steps.specs.Turns.{Moment}
use Rattle.ws_steps.specs.Writable as writable
use Rattle.ws_laws.proofs.Truth.{false_true}
use Rattle.ws_pipe_laws.specs.pipes.PipeHistory.{is_live, error_after, Course, course_then, effect_course, step_course, step_moments, run_course, run_through, run_moments}
use Rattle.ws_pipe_laws.specs.pipes.PipeReads.{HasEnded, WithoutAction, AfterAction, IsCourse, IsCourseAt}
use Rattle.ws_pipe_laws.specs.pipes.PipeWrites.{AllMoments}
use Rattle.ws_pipe_laws.proofs.pipes.Courses.{is_history, each_pipe_has_a_course}
use Rattle.ws_promise_laws.proofs.Runs.{none_goes_astray}
use Rattle.ws_end_laws.specs.wrote.WroteLaws.{IsPassedOn}
use Rattle.ws_end_laws.specs.ends.PassedAll.{EachPipeThatMayClosePassedAll, EachFulfilledPipePassedAllItRead}
use Rattle.ws_end_laws.proofs.ends.Doomed.{FailsAt, course_in, Doomed, Asks, Gives, Opens, Queues, Hears, Failed}
use Rattle.ws_end_laws.proofs.ends.DoomedRuns.{DoomIn, Judges, Living, Dead}
use Rattle.ws_end_laws.proofs.ends.DoomedSteps.{run-doomed}
use Rattle.ws_end_laws.proofs.ends.Finding.{ActsAt, Writes, Fails, all_map}
use Rattle.ws_end_laws.proofs.ends.PassedAll.{same-moments, none_ended, passed-unless}
use Rattle.ws_end_laws.proofs.ends.PromiseEnds.{last-one, ended-fulfilled}

-- what is told of moments is what is told of the run

module _ (p : PipeId) where
  course-append : (ms ns : List Moment) → course_in p (ms ++ ns) ≡ course_then (course_in p ms) (course_in p ns)
  course-append [] ns = sym (is_history.left (course_in p ns))
  course-append (m ∷ ms) ns =
      ap (course_then (effect_course p m.effect m.found)) (course-append ms ns) ∙ sym (is_history.assoc (effect_course p m.effect m.found) (course_in p ms) (course_in p ns))

  course-step : (s : Slots) (x : Entry) → course_in p (step_moments s x) ≡ step_course p s x
  course-step s x = ap (course_in p) (same-moments (moments_in s x))

  course-run : (xs : List Entry) (s : Slots) → course_in p (run_moments xs s) ≡ run_course p xs s
  course-run [] s = refl
  course-run (x ∷ xs) s =
      course-append (step_moments s x) (run_moments xs (step s x))
      ∙ (ap (λ (f : Course). course_then f (course_in p (run_moments xs (step s x)))) (course-step s x) ∙ ap (course_then (step_course p s x)) (course-run xs (step s x)))

-- a pipe that ended without an error is over, and its shutdown had none

first_is : (a b : Option Plain) → ◌≡◌ {A = List (Option Plain)} (a ∷ []) (b ∷ []) → a ≡ b
first_is a b e = cc

after_none : (e : Option Plain) (o : Result Plain Plain) → error_after e o ≡ None → e ≡ None
after_none e (Ok v) n = n
after_none e (Err r) n = cc

has_none : (h : Course) (x : pipe.Slots) → HasEnded h x → h.ended ≡ None ∷ [] → x.error ≡ None
has_none h x (WithoutAction a e) f = first_is x.error None (sym (ap (λ (c : Course). c.ended) e) ∙ f)
has_none h x (AfterAction o a e) f = after_none x.error o (first_is (error_after x.error o) None (sym (ap (λ (c : Course). c.ended) e) ∙ f))

over-plain : (h : Course) (x : pipe.Slots) (phase : Phase) → x.phase ≡ phase → IsCourse h x → h.ended ≡ None ∷ [] → (x.phase ≡ Over) × (x.error ≡ None)
over-plain h x Flowing e c f = none_ended h (ap (λ (k : Course). k.ended) (c.flowing e)) f
over-plain h x Waiting e c f = none_ended h (ap (λ (k : Course). k.ended) (c.waiting e)) f
over-plain h x Acting e c f = none_ended h (ap (λ (k : Course). k.ended) (c.acting e).1) f
over-plain h x Over e c f = (e, has_none h x (c.over e) f)

-- it isn't doomed

never_acting : (x : pipe.Slots) → x.phase ≡ Over → x.phase ≡ Acting → ⊥
never_acting x o a = let n : Over ≡ Acting = sym o ∙ a in absurd (cc)

undoomed : (entries : List Entry) (p : PipeId) (x : pipe.Slots) (w : writable.Slots) (t : Table) → x.phase ≡ Over → (run_course p entries empty).ended ≡ None ∷ [] → Doomed p (run_moments entries empty) x w t [] → ⊥
undoomed entries p x w t o e (Asks d rest a is u f k n) = never_acting x o a
undoomed entries p x w t o e (Gives d a u i k n) = never_acting x o a
undoomed entries p x w t o e (Opens d a u k n) = never_acting x o a
undoomed entries p x w t o e (Queues d a k n) = never_acting x o a
undoomed entries p x w t o e (Hears r rest a is) = never_acting x o a
undoomed entries p x w t o e (Failed r c l) =
    let same : (course_in p (run_moments entries empty)).ended ≡ None ∷ [] = ap (λ (f : Course). f.ended) (course-run p entries empty) ∙ e in
    let n : Some r ≡ None = last-one l.0 (Some r) None (sym l.1 ∙ same) in
    absurd (cc)

-- so it didn't act while its destination failed, unless it had waited
never-failed : (p : PipeId) (x : pipe.Slots) (w : writable.Slots) (m : Moment) → (ActsAt p m → FailsAt p m → ⊥) → ActsAt p m → Fails p m w → Writes p m
never-failed p x w m never a f = by (pipe_at p m.found).phase refl
  where
    by : (phase : Phase) → (pipe_at p m.found).phase ≡ phase → Writes p m
    by Flowing e = absurd (never a (record { flowing = e; failing = record { state = f.then_; flight = f.unclosed.flight }; unclosed = f.unclosed }))
    by Waiting e = inl e
    by Acting e = false_true (is_live (pipe_at p m.found).phase) a.live (ap is_live e)
    by Over e = false_true (is_live (pipe_at p m.found).phase) a.live (ap is_live e)

pub each_pipe_that_may_close_passed_all : EachPipeThatMayClosePassedAll
each_pipe_that_may_close_passed_all entries p ended may =
    by (slice_get s.pipes p.0) refl (run-doomed p entries).doom (each_pipe_has_a_course entries p)
  where
    s : Slots
    s = run entries empty

    ms : List Moment
    ms = run_moments entries empty

    there : (x : pipe.Slots) → slice_get s.pipes p.0 ≡ Some x → x.phase ≡ Over → x.error ≡ None → AllMoments (Judges p ms x (writable_at x.dest s) s.promises []) ms → IsPassedOn (run_through p entries empty)
    there x e o n why =
        let is : pipe_at p s ≡ x = ap as_pipe e in
        let close : x.prevent.close ≡ false = subst (λ (y : pipe.Slots). y.prevent.close ≡ false) is may in
        let w : writable.Slots = writable_at (pipe_at p s).dest s in
        passed-unless entries p
        (all_map (Judges p ms x (writable_at x.dest s) s.promises []) (λ m. ActsAt p m → Fails p m w → Writes p m)
        (λ m j a f. never-failed p x w m (λ b c. undoomed entries p x (writable_at x.dest s) s.promises o ended (j b c n close)) a f) ms why) ended

    by : (o : Option pipe.Slots) → slice_get s.pipes p.0 ≡ o → DoomIn p ms o s.streams s.promises [] → IsCourseAt (run_course p entries empty) o → IsPassedOn (run_through p entries empty)
    by None e a c = none_ended (run_course p entries empty) (ap (λ (h : Course). h.ended) c) ended
    by (Some x) e a c = dead (a (none_goes_astray entries))
      where
        k : (x.phase ≡ Over) × (x.error ≡ None)
        k = over-plain (run_course p entries empty) x x.phase refl c ended

        dead : Living p ms x ⊎ Dead p ms x (writable_at x.dest s) s.promises [] → IsPassedOn (run_through p entries empty)
        dead (inl l) = false_true (is_live x.phase) l.live (ap is_live k.0)
        dead (inr d) = there x e k.0 k.1 d.why

pub each_fulfilled_pipe_passed_all_it_read : EachFulfilledPipePassedAllItRead
each_fulfilled_pipe_passed_all_it_read entries p x v e fulfilled close =
    each_pipe_that_may_close_passed_all entries p (ended-fulfilled entries p x v e fulfilled) (subst (λ (y : pipe.Slots). y.prevent.close ≡ false) (sym (ap as_pipe e)) close)
