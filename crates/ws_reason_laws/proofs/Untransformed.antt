-- A realm whose calls make no transform stream has none.
use Rattle.std.proofs.Common.{◌≡◌, Bool, true, false, List, [], ◌∷◌, map, Option, Some, None, refl, ap, ◌∙◌, arith}
use Rattle.ws_steps.specs.declared.calls.Call.{Call}
use Rattle.ws_steps.specs.declared.calls.Call.TheVariants.{MakeTransform, ReadInto}
use Rattle.ws_steps.specs.declared.promises.Job.{Job}
use Rattle.ws_steps.specs.Calls.{begin}
use Rattle.ws_steps.specs.Jobs.{begin_job, job_begun}
use Rattle.ws_steps.specs.Promises.{next_job}
use Rattle.ws_steps.specs.Run.{Entry, Called, Worked, Heard, step, run}
use Rattle.ws_steps.specs.Slots.{Slots, lock_at}
use Rattle.ws_steps.specs.Transform as transform
use Rattle.ws_laws.proofs.Halves.{step-shapes}
use Rattle.ws_laws.proofs.Into.{into-either}
use Rattle.ws_laws.proofs.Shapes.{transform_shape}

-- whether an entry makes one
abbrev pub makes_transform : Call → Bool
makes_transform (MakeTransform kind writable_mark readable_mark start) = true
makes_transform _ = false

abbrev pub MakesNone : Entry → Type 0
MakesNone (Called c) = makes_transform c ≡ false
MakesNone _ = Unit {0}

pub call-same : (c : Call) (s : Slots) → makes_transform c ≡ false → (begin c s).done.slots.transforms ≡ s.transforms
unfolding begin
call-same (MakeTransform kind writable_mark readable_mark start) s n = cc
call-same (ReadInto l room element least) s n = into-either (λ b. b.done.slots.transforms ≡ s.transforms) room element least s refl (λ f. refl) (λ i. refl) (lock_at l s)
call-same c s n = grind arith

job-same : (s : Slots) (job : Option Job) → (job_begun s job).slots.transforms ≡ s.transforms
job-same s None = refl
job-same s (Some job) = refl

no_shape : (ts : List transform.Slots) → map transform_shape ts ≡ [] → ts ≡ []
no_shape [] e = refl
no_shape (t ∷ ts) e = cc

-- over a step
pub step-none : (x : Entry) (s : Slots) → MakesNone x → s.transforms ≡ [] → (step s x).transforms ≡ []
unfolding begin_job
step-none (Called c) s n e =
    no_shape (step s (Called c)).transforms (step-shapes (Called c) s ∙ ap (λ (ts : List transform.Slots). map transform_shape ts) (call-same c s n ∙ e))
step-none Worked s n e =
    no_shape (step s Worked).transforms (step-shapes Worked s ∙ ap (λ (ts : List transform.Slots). map transform_shape ts) (job-same s (next_job s.promises) ∙ e))
step-none Heard s n e = e

-- over a run
abbrev pub AllMakeNone : List Entry → Type 0
AllMakeNone [] = Unit {0}
AllMakeNone (x ∷ xs) = MakesNone x × AllMakeNone xs

pub run-none : (xs : List Entry) (s : Slots) → AllMakeNone xs → s.transforms ≡ [] → (run xs s).transforms ≡ []
run-none [] s n e = e
run-none (x ∷ xs) s n e = run-none xs (step s x) n.1 (step-none x s n.0 e)
