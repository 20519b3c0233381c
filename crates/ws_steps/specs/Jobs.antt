-- One job: it is taken out of the queue, and causes its effects.
use Rattle.std.specs.Prelude.{List, [], ◌∷◌, ◌++◌, Option, Some, None, Result, Ok, Err}
use Rattle.ws_value.specs.declared.ids.PortId.{PortId}
use Rattle.ws_value.specs.declared.ids.PromiseId.{PromiseId}
use Rattle.ws_value.specs.declared.value.Plain.{Plain}
use Rattle.ws_value.specs.declared.value.Plain.TheVariants.{Undefined}
use Rattle.ws_steps.specs.declared.effects.Effect.{Effect}
use Rattle.ws_steps.specs.declared.effects.Effect.TheVariants.{Readable, Writable, Pipe, Transform, Tee, Port, Settle as SettlePromise}
use Rattle.ws_steps.specs.declared.pipes.PipeOperation.TheVariants.{Look, LookReady, WriteChunk, WriteEnded, ActionSettled, PartSettled, NoParts}
use Rattle.ws_steps.specs.declared.port.PortOperation.TheVariants.{WriteGoesOn as PortGoesOn}
use Rattle.ws_steps.specs.declared.promises.Job.{Job}
use Rattle.ws_steps.specs.declared.promises.Job.TheVariants.{Reaction, Follow, Settle, Micro as MicroJob}
use Rattle.ws_steps.specs.declared.promises.Micro.{Micro}
use Rattle.ws_steps.specs.declared.promises.Micro.TheVariants.{PipeLook, PipeWrite, PipeNoParts, TeeHand}
use Rattle.ws_steps.specs.declared.promises.Step.{Step}
use Rattle.ws_steps.specs.declared.promises.Step.TheVariants.{ReadableStart, ReadablePull, ReturnUndefined, WritableStart, WritableWrite, WritableClose, WritableAbort, PipeEnds, PipeReady, PipeWrote, PipeActed, PipePart, TransformChanged, Transformed, TransformFlushed, TransformAborted, TransformCancelled, TeeEnds, PortUnblocked}
use Rattle.ws_steps.specs.declared.readable.ReadableOperation.TheVariants.{StartSettled, PullSettled}
use Rattle.ws_steps.specs.declared.tee.TeeOperation.TheVariants.{HandChunk, ReaderSettled}
use Rattle.ws_steps.specs.declared.transform.TransformId.{TransformId}
use Rattle.ws_steps.specs.declared.transform.TransformOperation.TheVariants.{WriteGoesOn, Error as ErrorTransform, FlushSettled, AbortSettled as SinkAbortSettled, CancelSettled}
use Rattle.ws_steps.specs.declared.writable.WritableOperation.TheVariants.{StartSettled as WritableStartSettled, WriteSettled, CloseSettled, AbortSettled}
use Rattle.ws_steps.specs.Promises.{next_job, after_next_job}
use Rattle.ws_steps.specs.Slots.{Slots, Done, nothing, causes, with_promises}

-- the write that waited for a change promise goes on; on rejection there are no steps
abbrev pub changed : TransformId → PromiseId → Result Plain Plain → List Effect
changed t d (Ok v) = Transform t (WriteGoesOn d) ∷ []
changed t d (Err r) = SettlePromise d (Err r) ∷ []

-- the write that waited for a backpressure promise goes on; on rejection there are no steps
abbrev pub unblocked : PortId → PromiseId → Result Plain Plain → List Effect
unblocked c d (Ok v) = Port c (PortGoesOn d) ∷ []
unblocked c d (Err r) = SettlePromise d (Err r) ∷ []

-- where the transform algorithm failed, the transform stream is errored
abbrev pub transformed : TransformId → Result Plain Plain → List Effect
transformed t (Ok v) = []
transformed t (Err r) = Transform t (ErrorTransform r) ∷ []

-- the steps of a reaction
abbrev pub steps : Step → Result Plain Plain → List Effect
steps (ReadableStart i) outcome = Readable i (StartSettled outcome) ∷ []
steps (ReadablePull i) outcome = Readable i (PullSettled outcome) ∷ []
steps ReturnUndefined outcome = []
steps (WritableStart i) outcome = Writable i (WritableStartSettled outcome) ∷ []
steps (WritableWrite i) outcome = Writable i (WriteSettled outcome) ∷ []
steps (WritableClose i) outcome = Writable i (CloseSettled outcome) ∷ []
steps (WritableAbort i p) outcome = Writable i (AbortSettled p outcome) ∷ []
steps (PipeEnds p) outcome = Pipe p Look ∷ []
steps (PipeReady p) outcome = Pipe p LookReady ∷ []
steps (PipeWrote p) outcome = Pipe p WriteEnded ∷ []
steps (PipeActed p) outcome = Pipe p (ActionSettled outcome) ∷ []
steps (PipePart p) outcome = Pipe p (PartSettled outcome) ∷ []
steps (TransformChanged t d) outcome = changed t d outcome
steps (Transformed t) outcome = transformed t outcome
steps (TransformFlushed t p) outcome = Transform t (FlushSettled p outcome) ∷ []
steps (TransformAborted t p r) outcome = Transform t (SinkAbortSettled p r outcome) ∷ []
steps (TransformCancelled t p r) outcome = Transform t (CancelSettled p r outcome) ∷ []
steps (TeeEnds t) outcome = Tee t (ReaderSettled outcome) ∷ []
steps (PortUnblocked c d) outcome = unblocked c d outcome

-- what the steps return or throw; where there are none for the outcome, it goes on
abbrev pub returned : Step → Result Plain Plain → Result Plain Plain
returned ReturnUndefined (Ok v) = Ok Undefined
returned ReturnUndefined (Err r) = Err r
returned (ReadableStart i) outcome = Ok Undefined
returned (ReadablePull i) outcome = Ok Undefined
returned (WritableStart i) outcome = Ok Undefined
returned (WritableWrite i) outcome = Ok Undefined
returned (WritableClose i) outcome = Ok Undefined
returned (WritableAbort i p) outcome = Ok Undefined
returned (PipeEnds p) outcome = Ok Undefined
returned (PipeReady p) outcome = Ok Undefined
returned (PipeWrote p) outcome = Ok Undefined
returned (PipeActed p) outcome = Ok Undefined
returned (PipePart p) outcome = Ok Undefined
returned (TransformChanged t d) outcome = Ok Undefined
returned (Transformed t) outcome = outcome
returned (TransformFlushed t p) outcome = Ok Undefined
returned (TransformAborted t p r) outcome = Ok Undefined
returned (TransformCancelled t p r) outcome = Ok Undefined
returned (TeeEnds t) outcome = Ok Undefined
returned (PortUnblocked c d) outcome = Ok Undefined

-- the derived promise, where there is one, is resolved with what the steps return, once they are performed
abbrev pub resolved : Option PromiseId → Result Plain Plain → List Effect
resolved None outcome = []
resolved (Some p) outcome = SettlePromise p outcome ∷ []

-- the steps of a microtask
abbrev pub micro_steps : Micro → List Effect
micro_steps (PipeLook p) = Pipe p Look ∷ []
micro_steps (PipeWrite p) = Pipe p WriteChunk ∷ []
micro_steps (PipeNoParts p) = Pipe p NoParts ∷ []
micro_steps (TeeHand t) = Tee t HandChunk ∷ []

abbrev pub job_effects : Job → List Effect
job_effects (Reaction step outcome derived) = steps step outcome ++ resolved derived (returned step outcome)
job_effects (Follow p q) = []
job_effects (Settle p outcome) = SettlePromise p outcome ∷ []
job_effects (MicroJob m) = micro_steps m

abbrev pub job_begun : Slots → Option Job → Done
job_begun s None = nothing s
job_begun s (Some job) = causes (job_effects job) (with_promises (after_next_job s.promises) s)

-- the first job, where there is one, is taken out of the queue
unfoldable pub begin_job : Slots → Done
begin_job s = job_begun s (next_job s.promises)
