-- Which reactions and which jobs the short forms stand for.
use Rattle.std.specs.Prelude.{ℕ, List, [], ◌∷◌, Option, Some, None, Ok}
use Rattle.ws_value.specs.declared.ids.PipeId.{PipeId}
use Rattle.ws_value.specs.declared.ids.PromiseId.{PromiseId}
use Rattle.ws_value.specs.declared.value.Plain.TheVariants.{Undefined}
use Rattle.ws_steps.specs.Promises.{job_of}
use Rattle.ws_steps.specs.declared.promises.Job.{Job}
use Rattle.ws_steps.specs.declared.promises.Job.TheVariants.{Follow as FollowJob, Micro as MicroJob}
use Rattle.ws_steps.specs.declared.promises.Micro.TheVariants as micro
use Rattle.ws_steps.specs.declared.promises.Reaction.{Reaction}
use Rattle.ws_steps.specs.declared.promises.Reaction.TheVariants as reaction
use Rattle.ws_steps.specs.declared.promises.Step.{Step}
use Rattle.ws_steps.specs.declared.promises.Step.TheVariants as step
use Rattle.ws_jobs.specs.declared.short.Short.{Short}
use Rattle.ws_jobs.specs.declared.short.Short.TheVariants.{Whole, Pulled, Wrote, PipeReady, PipeWrote, Changed, Transformed, Adopt, PipeWrite, Follow}

abbrev pub alone : Step → Option Reaction
alone s = Some (reaction.Perform s None)

abbrev pub pipe_id : ℕ → PipeId
pipe_id n = record { 0 = n }

abbrev pub promise_id : ℕ → PromiseId
promise_id n = record { 0 = n }

-- the reaction, where it stands for one
abbrev pub reaction_in : Short → Option Reaction
reaction_in Whole = None
reaction_in (Pulled i) = alone (step.ReadablePull i)
reaction_in (Wrote i) = alone (step.WritableWrite i)
reaction_in (PipeReady n) = alone (step.PipeReady (pipe_id n))
reaction_in (PipeWrote n) = alone (step.PipeWrote (pipe_id n))
reaction_in (Changed t n) = alone (step.TransformChanged t (promise_id n))
reaction_in (Transformed t n) = Some (reaction.Perform (step.Transformed t) (Some (promise_id n)))
reaction_in (Adopt n) = Some (reaction.Adopt (promise_id n))
reaction_in (PipeWrite n) = None
reaction_in (Follow p q) = None

abbrev pub reactions_of : Option Reaction → List Reaction
reactions_of None = []
reactions_of (Some r) = r ∷ []

-- the reaction, as a list of at most one
abbrev pub reactions_in : Short → List Reaction
reactions_in s = reactions_of (reaction_in s)

-- the job of this reaction to a promise that was fulfilled with undefined
abbrev pub job_by : Option Reaction → Option Job
job_by None = None
job_by (Some r) = Some (job_of (Ok Undefined) r)

-- the job, where it stands for one
abbrev pub job_in : Short → Option Job
job_in Whole = None
job_in (Pulled i) = job_by (reaction_in (Pulled i))
job_in (Wrote i) = job_by (reaction_in (Wrote i))
job_in (PipeReady n) = job_by (reaction_in (PipeReady n))
job_in (PipeWrote n) = job_by (reaction_in (PipeWrote n))
job_in (Changed t n) = job_by (reaction_in (Changed t n))
job_in (Transformed t n) = job_by (reaction_in (Transformed t n))
job_in (Adopt n) = job_by (reaction_in (Adopt n))
job_in (PipeWrite n) = Some (MicroJob (micro.PipeWrite (pipe_id n)))
job_in (Follow p q) = Some (FollowJob (promise_id p) (promise_id q))
