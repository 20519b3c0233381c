-- The promise of a pipe and the pipe's end, over every run (`each_promise_is_open_until_the_end`, `each_outcome_tells_the_end`).
use Rattle.std.proofs.Common.{◌≡◌, inl, inr, Bool, true, false, List, [], ◌∷◌, ◌++◌, Option, Some, None, slice_get, refl, sym, ap, subst, ◌∙◌}
use Rattle.ws_value.specs.declared.{ids.PipeId.{PipeId}, ids.PromiseId.{PromiseId}}
use Rattle.ws_value.specs.declared.value.{Outcome.{Outcome}, Outcome.TheVariants.{Pending, Fulfilled, Rejected}, Plain.{Plain}, Plain.TheVariants.{Undefined}}
use Rattle.ws_steps.specs.declared.pipes.{Phase.{Phase}, Phase.TheVariants.{Flowing, Waiting, Acting, Over}}
use Rattle.ws_steps.specs.Pipes as pipe
use Rattle.ws_steps.specs.Promises.{Table, outcome_at, settled}
use Rattle.ws_steps.specs.Run.{Entry, run}
use Rattle.ws_steps.specs.Slots.{empty}
use Rattle.ws_pipe_laws.specs.pipes.PipeHistory.{is_over, error_after, Course, run_course}
use Rattle.ws_pipe_laws.specs.pipes.PipeMoves.{result_by}
use Rattle.ws_pipe_laws.specs.pipes.PipeReads.{HasEnded, WithoutAction, AfterAction, IsCourse, IsCourseAt}
use Rattle.ws_pipe_laws.proofs.pipes.Courses.{each_pipe_has_a_course}
use Rattle.ws_promise_laws.proofs.Runs.{none_goes_astray}
use Rattle.ws_end_laws.specs.ends.PromiseEnds.{outcome_of_end, IsOpenUntilTheEnd, EachPromiseIsOpenUntilTheEnd, TellsTheEnd, EachOutcomeTellsTheEnd}
use Rattle.ws_end_laws.proofs.ends.OpenPromises.{pipe-open}
use Rattle.ws_end_laws.proofs.ends.EndedPromises.{Known, IsTold, Due, ended-told}

-- the course of a pipe that is there
pub course-of : (entries : List Entry) (p : PipeId) (x : pipe.Slots) → slice_get (run entries empty).pipes p.0 ≡ Some x → IsCourse (run_course p entries empty) x
course-of entries p x e = subst (IsCourseAt (run_course p entries empty)) e (each_pipe_has_a_course entries p)

phase-over : (phase : Phase) → is_over phase ≡ true → phase ≡ Over
phase-over Flowing o = cc
phase-over Waiting o = cc
phase-over Acting o = cc
phase-over Over o = refl

-- a pipe that isn't over has no end
pub none-ended : (h : Course) (x : pipe.Slots) (phase : Phase) → x.phase ≡ phase → is_over phase ≡ false → IsCourse h x → h.ended ≡ []
none-ended h x Flowing e n c = ap (λ (f : Course). f.ended) (c.flowing e)
none-ended h x Waiting e n c = ap (λ (f : Course). f.ended) (c.waiting e)
none-ended h x Acting e n c = ap (λ (f : Course). f.ended) (c.acting e).1
none-ended h x Over e n c = cc

-- and one that is over has one
one-ended : (h : Course) (x : pipe.Slots) → HasEnded h x → (e : Option Plain) × (h.ended ≡ e ∷ [])
one-ended h x (WithoutAction n c) = (x.error, ap (λ (f : Course). f.ended) c)
one-ended h x (AfterAction o n c) = (error_after x.error o, ap (λ (f : Course). f.ended) c)

-- the last of one is that one
pub last-one : (fs : List (Option Plain)) (d e : Option Plain) → fs ++ d ∷ [] ≡ e ∷ [] → d ≡ e
last-one [] d e k = cc
last-one (f ∷ []) d e k = cc
last-one (f ∷ g ∷ fs) d e k = cc

outcome-is : (e : Option Plain) → settled (result_by e) ≡ outcome_of_end e
outcome-is None = refl
outcome-is (Some e) = refl

-- nothing is still to settle it between steps
due-none : (d : PromiseId) (e : Option Plain) (t : Table) → Due d e t [] → outcome_at t d ≡ Some (settled (result_by e))
due-none d e t (inl n) = absurd n
due-none d e t (inr o) = o

pub each_promise_is_open_until_the_end : EachPromiseIsOpenUntilTheEnd
each_promise_is_open_until_the_end entries p x there = record {
  before = λ n. (none-ended (run_course p entries empty) x x.phase refl n (course-of entries p x there), pipe-open entries p x there n);
  after = λ o.
      let h : Course = run_course p entries empty in
      let t : Table = (run entries empty).promises in
      let one = one-ended h x ((course-of entries p x there).over (phase-over x.phase o)) in
      let told : IsTold h x.promise t [] =
      subst (λ (y : Option pipe.Slots). Known h y t []) there (ended-told entries p (none_goes_astray entries)) o in
      let same : told.end ≡ one.0 = last-one told.last.0 told.end one.0 (sym told.last.1 ∙ one.1) in
      (one.0, (one.1, (due-none x.promise told.end t told.due ∙ ap Some (outcome-is told.end ∙ ap outcome_of_end same))));
}

-- what the outcome tells

some_outcome : (x y : Outcome) → ◌≡◌ {A = Option Outcome} (Some x) (Some y) → x ≡ y
some_outcome x y e = cc

end-pending : (e : Option Plain) → outcome_of_end e ≡ Pending → ⊥
end-pending None k = cc
end-pending (Some r) k = cc

end-fulfilled : (e : Option Plain) (v : Plain) → outcome_of_end e ≡ Fulfilled v → (v ≡ Undefined) × (e ≡ None)
end-fulfilled None v k = (cc, refl)
end-fulfilled (Some r) v k = cc

end-rejected : (e : Option Plain) (r : Plain) → outcome_of_end e ≡ Rejected r → e ≡ Some r
end-rejected None r k = cc
end-rejected (Some d) r k = cc

tells : (x : pipe.Slots) (ended : List (Option Plain)) (outcome : Option Outcome) (over : Bool) → is_over x.phase ≡ over → IsOpenUntilTheEnd x ended outcome → TellsTheEnd ended outcome
tells x ended outcome false o k =
    let b = k.before o in
    record {
      pending = λ e. b.0;
      fulfilled = λ v e. let n : ◌≡◌ {A = Option Outcome} (Some Pending) (Some (Fulfilled v)) = sym b.1 ∙ e in cc;
      rejected = λ r e. let n : ◌≡◌ {A = Option Outcome} (Some Pending) (Some (Rejected r)) = sym b.1 ∙ e in cc;
    }
tells x ended outcome true o k =
    let a = k.after o in
    let is : outcome ≡ Some (outcome_of_end a.0) = a.1.1 in
    record {
      pending = λ e. absurd (end-pending a.0 (some_outcome (outcome_of_end a.0) Pending (sym is ∙ e)));
      fulfilled = λ v e. let f = end-fulfilled a.0 v (some_outcome (outcome_of_end a.0) (Fulfilled v) (sym is ∙ e)) in (f.0, a.1.0 ∙ ap (λ (d : Option Plain). d ∷ []) f.1);
      rejected = λ r e. a.1.0 ∙ ap (λ (d : Option Plain). d ∷ []) (end-rejected a.0 r (some_outcome (outcome_of_end a.0) (Rejected r) (sym is ∙ e)));
    }

pub each_outcome_tells_the_end : EachOutcomeTellsTheEnd
each_outcome_tells_the_end entries p x there =
    tells x (run_course p entries empty).ended (outcome_at (run entries empty).promises x.promise) (is_over x.phase) refl (each_promise_is_open_until_the_end entries p x there)

-- for the laws of ends

-- a pipe whose promise is fulfilled ended once, without an error
pub ended-fulfilled : (entries : List Entry) (p : PipeId) (x : pipe.Slots) (v : Plain) → slice_get (run entries empty).pipes p.0 ≡ Some x
    → outcome_at (run entries empty).promises x.promise ≡ Some (Fulfilled v) → (run_course p entries empty).ended ≡ None ∷ []
ended-fulfilled entries p x v there e = ((each_outcome_tells_the_end entries p x there).fulfilled v e).1

-- and one whose promise is rejected ended once, with that error
pub ended-rejected : (entries : List Entry) (p : PipeId) (x : pipe.Slots) (r : Plain) → slice_get (run entries empty).pipes p.0 ≡ Some x
    → outcome_at (run entries empty).promises x.promise ≡ Some (Rejected r) → (run_course p entries empty).ended ≡ Some r ∷ []
ended-rejected entries p x r there e = (each_outcome_tells_the_end entries p x there).rejected r e
