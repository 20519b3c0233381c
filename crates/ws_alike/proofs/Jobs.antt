-- A job doesn't look at a promise that isn't named, and names it nowhere.
use Rattle.std.proofs.Common.{◌≡◌, ◌∙◌, ℕ, List, [], ◌∷◌, Option, Some, None, Result, Ok, Err, refl, ap, arith}
use Rattle.ws_value.specs.declared.ids.PromiseId.{PromiseId}
use Rattle.ws_value.specs.declared.value.Plain.{Plain}
use Rattle.ws_steps.specs.declared.promises.Job.{Job}
use Rattle.ws_steps.specs.declared.promises.Job.TheVariants.{Reaction as ReactionJob, Follow, Settle, Micro as MicroJob}
use Rattle.ws_steps.specs.declared.promises.Micro.{Micro}
use Rattle.ws_steps.specs.declared.promises.Micro.TheVariants.{PipeLook, PipeWrite, PipeNoParts, TeeHand}
use Rattle.ws_steps.specs.declared.promises.Step.{Step}
use Rattle.ws_steps.specs.declared.promises.Step.TheVariants.{ReadableStart, ReadablePull, ReturnUndefined, WritableStart, WritableWrite, WritableClose, WritableAbort, PipeEnds, PipeReady, PipeWrote, PipeActed, PipePart, TransformChanged, Transformed, TransformFlushed, TransformAborted, TransformCancelled, TeeEnds, PortUnblocked}
use Rattle.ws_steps.specs.Jobs.{steps, returned, resolved, micro_steps, job_effects, job_begun, begin_job}
use Rattle.ws_steps.specs.Promises.{first_job, next_job}
use Rattle.ws_steps.specs.Slots.{Slots, causes, with_promises}
use Rattle.ws_alike.specs.Named.{in_option, in_step, in_job, in_jobs, in_effects, in_effect}
use Rattle.ws_alike.specs.Blind.{StaysBlind}
use Rattle.ws_alike.proofs.Rows.{Fit, nothing-stays}
use Rattle.ws_alike.proofs.Using.{takes}
use Rattle.ws_alike.proofs.Lists.{all-append}

steps-none : (p : PromiseId) (step : Step) (o : Result Plain Plain) → in_step p step ≡ 0 → in_effects p (steps step o) ≡ 0
steps-none p (ReadableStart i) o n = omega (arith, n)
steps-none p (ReadablePull i) o n = omega (arith, n)
steps-none p ReturnUndefined o n = omega (arith, n)
steps-none p (WritableStart i) o n = omega (arith, n)
steps-none p (WritableWrite i) o n = omega (arith, n)
steps-none p (WritableClose i) o n = omega (arith, n)
steps-none p (WritableAbort i q) o n = omega (arith, n)
steps-none p (PipeEnds q) o n = omega (arith, n)
steps-none p (PipeReady q) o n = omega (arith, n)
steps-none p (PipeWrote q) o n = omega (arith, n)
steps-none p (PipeActed q) o n = omega (arith, n)
steps-none p (PipePart q) o n = omega (arith, n)
steps-none p (TransformChanged t d) (Ok v) n = omega (arith, n)
steps-none p (TransformChanged t d) (Err r) n = omega (arith, n)
steps-none p (Transformed t) (Ok v) n = refl
steps-none p (Transformed t) (Err r) n = refl
steps-none p (TransformFlushed t q) o n = omega (arith, n)
steps-none p (TransformAborted t q r) o n = omega (arith, n)
steps-none p (TransformCancelled t q r) o n = omega (arith, n)
steps-none p (TeeEnds t) o n = omega (arith, n)
steps-none p (PortUnblocked c d) (Ok v) n = omega (arith, n)
steps-none p (PortUnblocked c d) (Err r) n = omega (arith, n)

resolved-none : (p : PromiseId) (d : Option PromiseId) (o : Result Plain Plain) → in_option p d ≡ 0 → in_effects p (resolved d o) ≡ 0
resolved-none p None o n = refl
resolved-none p (Some q) o n = omega (arith, n)

micro-none : (p : PromiseId) (m : Micro) → in_effects p (micro_steps m) ≡ 0
micro-none p (PipeLook i) = refl
micro-none p (PipeWrite i) = refl
micro-none p (PipeNoParts i) = refl
micro-none p (TeeHand t) = refl

effects-none : (p : PromiseId) (job : Job) → in_job p job ≡ 0 → in_effects p (job_effects job) ≡ 0
effects-none p (ReactionJob step outcome derived) n =
    let app = all-append (in_effect p) (steps step outcome) (resolved derived (returned step outcome)) in
    let a = steps-none p step outcome (omega (arith, n)) in
    let b = resolved-none p derived (returned step outcome) (omega (arith, n)) in
    omega (arith, app, a, b)
effects-none p (Follow q r) n = refl
effects-none p (Settle q outcome) n = omega (arith, n)
effects-none p (MicroJob m) n = micro-none p m

first-names : (p : PromiseId) (js : List Job) (job : Job) → Some job ≡ first_job js → in_jobs p js ≡ 0 → in_job p job ≡ 0
first-names p [] job is n = cc
first-names p (j ∷ js) job is n =
    let here : in_job p j ≡ 0 = omega (arith, n) in
    named job j is here
  where
    named : (a c : Job) → Some a ≡ Some c → in_job p c ≡ 0 → in_job p a ≡ 0
    named a c e h = ap (λ o. in_first o) e ∙ h
      where
        in_first : Option Job → ℕ
        in_first None = 0
        in_first (Some x) = in_job p x

begun-stays : (p : PromiseId) (s : Slots) (o : Option Job) → o ≡ next_job s.promises → Fit p s → StaysBlind p (λ z. job_begun z o) s
begun-stays p s None is fits = nothing-stays p s fits
begun-stays p s (Some job) is fits =
    let none = effects-none p job (first-names p s.promises.jobs job is (omega (arith, fits.none))) in
    let k = takes p s.promises (record { made = fits.made; none = omega (arith, fits.none) }) in
    record { blind = λ x. ap (λ t. causes (job_effects job) (with_promises t s)) (k.blind x); unnamed = omega (arith, k.unnamed, none, fits.none); more = k.more }

pub job-stays : (p : PromiseId) (s : Slots) → Fit p s → StaysBlind p begin_job s
unfolding begin_job
job-stays p s fits = let k = begun-stays p s (next_job s.promises) refl fits in record { blind = k.blind; unnamed = k.unnamed; more = k.more }
