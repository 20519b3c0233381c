-- When a write of the writable half of a transform stream waits for its backpressure to change, and what the host enqueues meanwhile.
use Rattle.std.specs.Prelude.{Bool, false, ◌||◌, if◌then◌else◌, List, [], ◌∷◌, ◌++◌, Option, Some, None}
use Rattle.ws_value.specs.declared.ids.StreamId.{StreamId}
use Rattle.ws_value.specs.declared.value.Value.{Value}
use Rattle.ws_steps.specs.declared.promises.Job.{Job}
use Rattle.ws_steps.specs.declared.promises.Job.TheVariants.{Reaction as ReactionJob}
use Rattle.ws_steps.specs.declared.promises.Reaction.{Reaction}
use Rattle.ws_steps.specs.declared.promises.Reaction.TheVariants.{Perform}
use Rattle.ws_steps.specs.declared.promises.Step.{Step}
use Rattle.ws_steps.specs.declared.promises.Step.TheVariants.{TransformChanged}
use Rattle.ws_steps.specs.declared.transform.TransformId.{TransformId}
use Rattle.ws_steps.specs.Histories.{over}
use Rattle.ws_steps.specs.Promises.{Entry as PromiseEntry}
use Rattle.ws_steps.specs.ReadableHistory.{accepted_in_step}
use Rattle.ws_steps.specs.Run.{Entry}
use Rattle.ws_steps.specs.Slots.{Slots}
use Rattle.ws_transform_laws.specs.TransformHistory.{is_same_transform}

-- the step by which a write of transform stream t goes on that waited
abbrev pub goes_on : TransformId → Step → Bool
goes_on t (TransformChanged u d) = is_same_transform t u
goes_on t _ = false

-- it is registered with a promise

abbrev pub is_registered : TransformId → Reaction → Bool
is_registered t (Perform step derived) = goes_on t step
is_registered t _ = false

abbrev pub among_reactions : TransformId → List Reaction → Bool
among_reactions t [] = false
among_reactions t (r ∷ rs) = is_registered t r || among_reactions t rs

abbrev pub among_entries : TransformId → List (Option PromiseEntry) → Bool
among_entries t [] = false
among_entries t (None ∷ es) = among_entries t es
among_entries t (Some e ∷ es) = among_reactions t e.reactions || among_entries t es

-- or a job

abbrev pub is_queued : TransformId → Job → Bool
is_queued t (ReactionJob step outcome derived) = goes_on t step
is_queued t _ = false

abbrev pub among_jobs : TransformId → List Job → Bool
among_jobs t [] = false
among_jobs t (j ∷ js) = is_queued t j || among_jobs t js

-- whether a write of the writable half of transform stream t waits for the backpressure to change, or the job by which it goes on is still to come
abbrev pub write_waits : TransformId → Slots → Bool
write_waits t s = among_entries t s.promises.entries || among_jobs t s.promises.jobs

-- the value of a step's call that enqueues into readable half r of transform stream t, where it is answered Done, and a write waits
abbrev pub step_meanwhile : TransformId → StreamId → Slots → Entry → List Value
step_meanwhile t r s x = if write_waits t s then accepted_in_step r s x else []

-- in a run
abbrev pub run_meanwhile : TransformId → StreamId → List Entry → Slots → List Value
run_meanwhile t r xs s = over [] ◌++◌ (step_meanwhile t r) xs s
