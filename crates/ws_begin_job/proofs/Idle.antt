-- A job begins, or none is queued.
use Rattle.std.proofs.Common.{◌≡◌, Bool, true, false, List, [], ◌∷◌, None, refl}
use Rattle.std.specs.Prelude.{not}
use Rattle.ws_steps.specs.declared.promises.Job.{Job}
use Rattle.ws_steps.specs.Promises.{Table, next_job, first_job, after_next_job}
use Rattle.ws_steps.specs.Queues.{is_empty}
use Rattle.ws_steps.specs.Run.{is_idle}
use Rattle.ws_steps.specs.Jobs.{begin_job}
use Rattle.ws_steps.specs.Slots.{Slots, nothing}

first-none : (js : List Job) → first_job js ≡ None → js ≡ []
first-none [] none = refl
first-none (job ∷ jobs) none = cc

-- where no job is queued, none is taken
pub idle : (t : Table) → next_job t ≡ None → (is_empty t.jobs ≡ true) × (after_next_job t ≡ t)
unfolding after_next_job
idle t none = let empty : t.jobs ≡ [] = first-none t.jobs none in rw empty (refl, refl)

first-is-none : (js : List Job) → is_empty js ≡ true → first_job js ≡ None
first-is-none [] empty = refl
first-is-none (job ∷ jobs) empty = cc

idle-none : (t : Table) → is_empty t.jobs ≡ true → next_job t ≡ None
idle-none t empty = first-is-none t.jobs empty

pub begins-none : (s : Slots) → next_job s.promises ≡ None → begin_job s ≡ nothing s
unfolding begin_job
begins-none s none = rw none refl

pub idle-begins : (s : Slots) → is_idle s ≡ true → begin_job s ≡ nothing s
idle-begins s empty = begins-none s (idle-none s.promises empty)

pub not-false : (b : Bool) → false ≡ not b → b ≡ true
not-false true e = refl
not-false false e = cc
