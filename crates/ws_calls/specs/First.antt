-- The one effect of a job that each chunk meets on its way through a pipe.
use Rattle.std.specs.Prelude.{◌≡◌, Bool, true, false, Ok, Some, [], ◌∷◌}
use Rattle.ws_value.specs.declared.value.Plain.TheVariants.{Undefined}
use Rattle.ws_jobs.specs.declared.short.Short.{Short}
use Rattle.ws_jobs.specs.declared.short.Short.TheVariants as short
use Rattle.ws_steps.specs.declared.effects.Effect.{Effect}
use Rattle.ws_steps.specs.declared.effects.Effect.TheVariants.{Readable, Writable, Pipe, Transform, Settle}
use Rattle.ws_steps.specs.declared.pipes.PipeOperation.TheVariants.{WriteChunk, LookReady, WriteEnded}
use Rattle.ws_steps.specs.declared.readable.ReadableOperation.TheVariants.{PullSettled}
use Rattle.ws_steps.specs.declared.transform.TransformOperation.TheVariants.{WriteGoesOn as TransformGoesOn}
use Rattle.ws_steps.specs.declared.writable.WritableOperation.TheVariants.{WriteSettled}
use Rattle.ws_steps.specs.Jobs.{begin_job, job_effects}
use Rattle.ws_steps.specs.Promises.{next_job, after_next_job}
use Rattle.ws_steps.specs.declared.promises.Job.{Job}
use Rattle.ws_steps.specs.Run.{is_idle}
use Rattle.ws_steps.specs.Slots.{causes}
use Rattle.ws_steps.specs.Turns.{performed}
use Rattle.ws_tables.specs.Room.{CanTurn, HasRoomForAll, IsKept}
use Rattle.ws_tables.specs.View.{slots_of}
use Rattle.ws_tables.specs.declared.tables.Tables.{Tables}
use Rattle.ws_calls.specs.declared.first.First.{First}
use Rattle.ws_calls.specs.declared.first.First.TheVariants.{Pulled, Wrote, PipeWrites, PipeReady, PipeWrote, WriteGoesOn, Fulfils}
use Rattle.ws_begin.specs.Begin.{IsBegun}

abbrev pub effect_of : First → Effect
effect_of (Pulled i) = Readable i (PullSettled (Ok Undefined))
effect_of (Wrote i) = Writable i (WriteSettled (Ok Undefined))
effect_of (PipeWrites p) = Pipe p WriteChunk
effect_of (PipeReady p) = Pipe p LookReady
effect_of (PipeWrote p) = Pipe p WriteEnded
effect_of (WriteGoesOn t d) = Transform t (TransformGoesOn d)
effect_of (Fulfils p) = Settle p (Ok Undefined)

-- a job has no short form: it stands whole in another queue, or there is none
abbrev pub is_whole : Short → Bool
is_whole short.Whole = true
is_whole (short.Pulled i) = false
is_whole (short.Wrote i) = false
is_whole (short.PipeReady n) = false
is_whole (short.PipeWrote n) = false
is_whole (short.Changed t n) = false
is_whole (short.Transformed t n) = false
is_whole (short.Adopt n) = false
is_whole (short.PipeWrite n) = false
is_whole (short.Follow p q) = false

-- the first job is taken out of the queue
abbrev pub without_first : Tables → Tables
without_first t = record t { promises = record t.promises { table = after_next_job t.promises.table } }

-- there are places for an effect and all that comes of it
pub record Fits (e : Effect) (t : Tables) : Type 0 where
  pub room : HasRoomForAll (e ∷ []) t
  pub turns : CanTurn (e ∷ []) t.under_way t
  pub kept : IsKept t

-- there are places for the first job, where it is one that each chunk meets, or has no effect
pub record FitsFirst (t : Tables) : Type 0 where
  pub one : (first : First) (job : Job) → next_job t.promises.table ≡ Some job → job_effects job ≡ effect_of first ∷ [] → Fits (effect_of first) (without_first t)
  pub none : (job : Job) → next_job t.promises.table ≡ Some job → job_effects job ≡ [] → IsBegun (without_first t)

-- the first job was taken out of the queue and its first effect performed: what is caused makes of the slots what the job makes, and there
-- are places for it
pub record Began (t t' : Tables) : Type 0 where
  pub begun : IsBegun t'
  pub slots : performed (causes t'.caused.effects (slots_of t')) ≡ performed (begin_job (slots_of t))
  pub busy : is_idle (slots_of t) ≡ false
