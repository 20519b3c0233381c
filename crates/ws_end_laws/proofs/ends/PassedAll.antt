-- What a pipe passed on that ended without an error (`each_unfailing_pipe_passed_all`, `each_pipe_that_closed_passed_all`).
use Rattle.std.proofs.Common.{◌≡◌, ◌⊎◌, inl, inr, ⊎_elim, Bool, true, false, List, [], ◌∷◌, ◌++◌, Option, Some, None, slice_get, refl, sym, ap, subst, ◌∙◌}
use Rattle.ws_value.specs.declared.{ids.PipeId.{PipeId}, value.Plain.{Plain}, value.Value.{Value}}
use Rattle.ws_steps.specs.declared.pipes.{Phase.{Phase}, Phase.TheVariants.{Flowing, Waiting, Acting, Over}}
use Rattle.ws_steps.specs.declared.writable.WritableState.TheVariants.{Closed}
use Rattle.ws_steps.specs.Histories.{along}
use Rattle.ws_steps.specs.Pipes as pipe
use Rattle.ws_steps.specs.Run.{Entry, run, step, moments_in}
use Rattle.ws_steps.specs.Slots.{Slots, empty, as_pipe, pipe_at, writable_at}
use Rattle.ws_steps.specs.Turns.{Moment}
use Rattle.ws_steps.specs.Writable as writable
use Rattle.ws_laws.proofs.Lists.{append_none}
use Rattle.ws_laws.proofs.Truth.{false_true}
use Rattle.ws_pipe_laws.specs.pipes.PipeHistory.{is_live, is_over, Course, Through, through_then, effect_through, effect_moment, step_moments, step_through, run_course, run_through, run_moments}
use Rattle.ws_pipe_laws.specs.pipes.PipeReads.{held_values, IsPassing, IsCourseAt}
use Rattle.ws_pipe_laws.specs.pipes.PipeWrites.{AllMoments, leaves}
use Rattle.ws_pipe_laws.proofs.pipes.Courses.{each_pipe_has_a_course}
use Rattle.ws_pipe_laws.proofs.pipes.PassingRuns.{through_history, each_pipe_passes}
use Rattle.ws_end_laws.specs.wrote.WroteLaws.{through_in, IsPassedOn, WritesFirst}
use Rattle.ws_end_laws.proofs.wrote.Fulfilled.{each_fulfilled_pipe_passed_all}
use Rattle.ws_end_laws.specs.ends.PassedAll.{is_failing, FindsNoFailure, EachUnfailingPipePassedAll, EachPipeThatClosedPassedAll}
use Rattle.ws_end_laws.proofs.ends.Failing.{Failing}
use Rattle.ws_end_laws.proofs.ends.Finding.{ActsAt, Never, Writes, Fails, Why, Judged}
use Rattle.ws_end_laws.proofs.ends.FindingRuns.{AtIn, run-is}
use Rattle.ws_end_laws.proofs.ends.PromiseEnds.{none-ended}

-- what is told of moments is what is told of the run

pub same-moments : (ms : List Moment) → along [] ◌++◌ effect_moment ms ≡ ms
same-moments [] = refl
same-moments (m ∷ ms) = ap (λ (ns : List Moment). m ∷ ns) (same-moments ms)

module _ (p : PipeId) where
  through-append : (ms ns : List Moment) → through_in p (ms ++ ns) ≡ through_then (through_in p ms) (through_in p ns)
  through-append [] ns = sym (through_history.left (through_in p ns))
  through-append (m ∷ ms) ns =
      ap (through_then (effect_through p m.effect m.found)) (through-append ms ns) ∙ sym (through_history.assoc (effect_through p m.effect m.found) (through_in p ms) (through_in p ns))

  through-step : (s : Slots) (x : Entry) → through_in p (step_moments s x) ≡ step_through p s x
  through-step s x = ap (through_in p) (same-moments (moments_in s x))

  through-run : (xs : List Entry) (s : Slots) → through_in p (run_moments xs s) ≡ run_through p xs s
  through-run [] s = refl
  through-run (x ∷ xs) s =
      through-append (step_moments s x) (run_moments xs (step s x))
      ∙ (ap (λ (f : Through). through_then f (through_in p (run_moments xs (step s x)))) (through-step s x) ∙ ap (through_then (step_through p s x)) (through-run xs (step s x)))

-- a pipe that read nothing passed on all
nothing-read : (h : Through) (x : pipe.Slots) → IsPassing h x → h.read ≡ [] → IsPassedOn h
nothing-read h x k n =
    let a = append_none h.passed (h.dropped ++ held_values x.held) (sym k.all ∙ n) in
    let b = append_none h.dropped (held_values x.held) a.1 in
    record { passed = a.0 ∙ sym n; dropped = b.0 }

-- either it never read, or it wrote first whenever it acted

module _ (p : PipeId) (vs : List Value) (x : pipe.Slots) (w : writable.Slots) where
  one : (m : Moment) (l a : Bool) → is_live (pipe_at p m.found).phase ≡ l → is_live (pipe_at p (leaves m)).phase ≡ a → Judged p vs x w m → (ActsAt p m → Fails p m w → Writes p m) → WritesFirst p m ⊎ Never vs x
  one m false a e f j n = inl (λ g h. false_true (is_live (pipe_at p m.found).phase) g e)
  one m true true e f j n = inl (λ g h. false_true (is_live (pipe_at p (leaves m)).phase) f h)
  one m true false e f j n = by (j acts)
    where
      acts : ActsAt p m
      acts = record { live = e; acts = f }

      by : Why p m vs x w → WritesFirst p m ⊎ Never vs x
      by (inl k) = inr k
      by (inr (inl k)) = inl (λ g h. k)
      by (inr (inr k)) = inl (λ g h. n acts k)

  all : (ms : List Moment) → AllMoments (Judged p vs x w) ms → AllMoments (λ m. ActsAt p m → Fails p m w → Writes p m) ms → AllMoments (WritesFirst p) ms ⊎ Never vs x
  all [] j n = inl tt
  all (m ∷ ms) j n = both (one m (is_live (pipe_at p m.found).phase) (is_live (pipe_at p (leaves m)).phase) refl refl j.0 n.0) (all ms j.1 n.1)
    where
      both : WritesFirst p m ⊎ Never vs x → AllMoments (WritesFirst p) ms ⊎ Never vs x → AllMoments (WritesFirst p) (m ∷ ms) ⊎ Never vs x
      both (inr k) b = inr k
      both (inl f) (inr k) = inr k
      both (inl f) (inl g) = inl (f, g)

pub each_moment : (P : Moment → Type 0) → ((m : Moment) → P m) → (ms : List Moment) → AllMoments P ms
each_moment P f [] = tt
each_moment P f (m ∷ ms) = (f m, each_moment P f ms)

-- a pipe that ended isn't live

pub none_ended : {A : Type 0} (h : Course) → h.ended ≡ [] → h.ended ≡ None ∷ [] → A
none_ended h e f = let n : ◌≡◌ {A = List (Option Plain)} [] (None ∷ []) = sym e ∙ f in absurd (cc)

live_over : (phase : Phase) → is_live phase ≡ true → is_over phase ≡ false
live_over Flowing l = refl
live_over Waiting l = refl
live_over Acting l = cc
live_over Over l = cc

-- where it acted while its destination failed, that must be excluded
pub passed-unless : (entries : List Entry) (p : PipeId) → let s : Slots = run entries empty in
    AllMoments (λ m. ActsAt p m → Fails p m (writable_at (pipe_at p s).dest s) → Writes p m) (run_moments entries empty) → (run_course p entries empty).ended ≡ None ∷ [] → IsPassedOn (run_through p entries empty)
passed-unless entries p excluded ended =
    by (slice_get (run entries empty).pipes p.0) refl (run-is p entries).at (each_pipe_has_a_course entries p)
  where
    s : Slots
    s = run entries empty

    ms : List Moment
    ms = run_moments entries empty

    there : (x : pipe.Slots) → slice_get s.pipes p.0 ≡ Some x → AllMoments (Judged p (through_in p ms).read x (writable_at x.dest s)) ms → IsPassedOn (run_through p entries empty)
    there x e why =
        let is : pipe_at p s ≡ x = ap as_pipe e in
        let n : AllMoments (λ m. ActsAt p m → Fails p m (writable_at x.dest s) → Writes p m) ms = subst (λ (y : pipe.Slots). AllMoments (λ m. ActsAt p m → Fails p m (writable_at y.dest s) → Writes p m) ms) is excluded in
        ⊎_elim (λ (f : AllMoments (WritesFirst p) ms). each_fulfilled_pipe_passed_all entries p f ended)
        (λ (k : Never (through_in p ms).read x). nothing-read (run_through p entries empty) (pipe_at p s) (each_pipe_passes entries p) (ap (λ (f : Through). f.read) (sym (through-run p entries empty)) ∙ k.none))
        (all p (through_in p ms).read x (writable_at x.dest s) ms why n)

    by : (o : Option pipe.Slots) → slice_get s.pipes p.0 ≡ o → AtIn p ms o s.streams [] → IsCourseAt (run_course p entries empty) o → IsPassedOn (run_through p entries empty)
    by None e a c = none_ended (run_course p entries empty) (ap (λ (h : Course). h.ended) c) ended
    by (Some x) e (inl k) c = none_ended (run_course p entries empty) (none-ended (run_course p entries empty) x x.phase refl (live_over x.phase k.live) c) ended
    by (Some x) e (inr k) c = there x e k.why

pub each_unfailing_pipe_passed_all : EachUnfailingPipePassedAll
each_unfailing_pipe_passed_all entries p unfailing ended =
    passed-unless entries p (excluded (run_moments entries empty) unfailing) ended
  where
    w : writable.Slots
    w = writable_at (pipe_at p (run entries empty)).dest (run entries empty)

    excluded : (ms : List Moment) → AllMoments (FindsNoFailure p) ms → AllMoments (λ m. ActsAt p m → Fails p m w → Writes p m) ms
    excluded [] k = tt
    excluded (m ∷ ms) k = (
      (λ a f. ⊎_elim (λ (g : (pipe_at p m.found).phase ≡ Waiting). inl g)
          (λ (n : is_failing (writable_at (pipe_at p m.found).dest m.found).state ≡ false). false_true (is_failing (writable_at (pipe_at p m.found).dest m.found).state) f.then_ n) (k.0 a.live a.acts)),
      excluded ms k.1,
    )

-- a stream that fails isn't closed
failing-open : (w : writable.Slots) → Failing w → w.state ≡ Closed → ⊥
failing-open w f e = false_true (is_failing w.state) f.state (ap is_failing e)

pub each_pipe_that_closed_passed_all : EachPipeThatClosedPassedAll
each_pipe_that_closed_passed_all entries p ended closed =
    let w : writable.Slots = writable_at (pipe_at p (run entries empty)).dest (run entries empty) in
    passed-unless entries p (each_moment (λ m. ActsAt p m → Fails p m w → Writes p m) (λ m a f. absurd (failing-open w f.now closed)) (run_moments entries empty)) ended
