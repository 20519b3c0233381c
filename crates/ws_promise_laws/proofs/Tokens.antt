-- How often a promise stands where it is to be settled: in effects, in reactions and in jobs.
use Rattle.std.proofs.Common.{◌≡◌, ℕ, ◌+◌, Bool, true, false, nat_eq, List, [], ◌∷◌, ◌++◌, Option, Some, None, arith}
use Rattle.ws_value.specs.declared.ids.PromiseId.{PromiseId}
use Rattle.ws_steps.specs.declared.byte.ByteOperation.{ByteOperation}
use Rattle.ws_steps.specs.declared.byte.ByteOperation.TheVariants.{InitializeByobReader, PullInto}
use Rattle.ws_steps.specs.declared.effects.Effect.{Effect}
use Rattle.ws_steps.specs.declared.effects.Effect.TheVariants.{Readable, Byte, Writable, Pipe, Signal, Transform, Tee, Port, StartAlgorithm, PullAlgorithm, CancelAlgorithm, WriteAlgorithm, CloseAlgorithm, AbortAlgorithm, ChunkSteps, CloseSteps, CloseStepsWith, ErrorSteps, Give, Settle as SettleEffect, Queue, CallHost}
use Rattle.ws_steps.specs.declared.{effects.Use.{Use}, effects.Use.TheVariants.{React, Resolve}, promises.Job.{Job}}
use Rattle.ws_steps.specs.declared.{promises.Job.TheVariants.{Reaction as ReactionJob, Follow, Settle, Micro as MicroJob}, promises.Reaction.{Reaction}}
use Rattle.ws_steps.specs.declared.{promises.Reaction.TheVariants.{Perform, Adopt}, promises.Step.{Step}, promises.Step.TheVariants.{WritableAbort, TransformChanged, TransformFlushed, TransformAborted, TransformCancelled, PortUnblocked}, readable.ReadRequest.{ReadRequest}}
use Rattle.ws_steps.specs.declared.{readable.ReadRequest.TheVariants.{Promise, Pipe as PipeRequest, Tee as TeeRequest}, readable.ReadableOperation.{ReadableOperation}}
use Rattle.ws_steps.specs.declared.{readable.ReadableOperation.TheVariants.{InitializeReader, Read, Cancel, CancelIfReadable}, writable.WritableOperation.{WritableOperation}}
use Rattle.ws_steps.specs.declared.writable.WritableOperation.TheVariants.{SetUpWriter, Write, Close as CloseWritable, ClosePropagating, Abort, AbortIfWritable, HandOn, AbortSettled}
use Rattle.ws_steps.specs.declared.transform.Taker.TheVariants.{ToTransform, ToPort}
use Rattle.ws_steps.specs.declared.transform.TransformOperation.{TransformOperation}
use Rattle.ws_steps.specs.declared.port.PortOperation.{PortOperation}
use Rattle.ws_steps.specs.declared.port.PortOperation.TheVariants.{Leave, Write as WriteByPort, WriteGoesOn as PortGoesOn, PostChunk, Close as CloseByPort}
use Rattle.ws_steps.specs.declared.tee.TeeOperation.{TeeOperation}
use Rattle.ws_steps.specs.declared.tee.TeeOperation.TheVariants.{CancelBranch}
use Rattle.ws_steps.specs.declared.transform.TransformOperation.TheVariants.{SinkWrite, WriteGoesOn, TransformChunk, SourcePull, SinkClose, SinkAbort, SourceCancel, FlushSettled, AbortSettled as SinkAbortSettled, CancelSettled}

abbrev pub one_if : Bool → ℕ
one_if true = 1
one_if false = 0

-- 1 where it is the same promise, and else 0
abbrev pub names : PromiseId → PromiseId → ℕ
names x q = one_if (nat_eq x.0 q.0)

abbrev pub names_any : PromiseId → Option PromiseId → ℕ
names_any x None = 0
names_any x (Some q) = names x q

-- in a reaction

abbrev pub in_step : PromiseId → Step → ℕ
in_step x (WritableAbort i p) = names x p
in_step x (TransformChanged t d) = names x d
in_step x (TransformFlushed t p) = names x p
in_step x (TransformAborted t p r) = names x p
in_step x (TransformCancelled t p r) = names x p
in_step x (PortUnblocked c d) = names x d
in_step x _ = 0

abbrev pub in_reaction : PromiseId → Reaction → ℕ
in_reaction x (Perform step derived) = in_step x step + names_any x derived
in_reaction x (Adopt p) = 0

-- whether promise p adopts by this reaction what it followed
abbrev pub adopts : PromiseId → Reaction → ℕ
adopts p (Perform step derived) = 0
adopts p (Adopt q) = names p q

-- what a job that is taken out of the queue hands to its effects
abbrev pub in_hand : PromiseId → Option Job → ℕ
in_hand x None = 0
in_hand x (Some (ReactionJob step outcome derived)) = in_step x step + names_any x derived
in_hand x (Some (Follow p q)) = 0
in_hand x (Some (Settle p outcome)) = names x p
in_hand x (Some (MicroJob m)) = 0

-- in effects

abbrev pub of_request : PromiseId → ReadRequest → ℕ
of_request x (Promise p) = names x p
of_request x (PipeRequest p) = 0
of_request x (TeeRequest t) = 0

abbrev pub of_use : PromiseId → Use → ℕ
of_use x (React step derived) = in_step x step + names_any x derived
of_use x (Resolve q) = names x q

abbrev pub of_readable : PromiseId → ReadableOperation → ℕ
of_readable x (InitializeReader closed) = names x closed
of_readable x (Read request) = of_request x request
of_readable x (Cancel r p) = names x p
of_readable x (CancelIfReadable r p) = names x p
of_readable x _ = 0

abbrev pub of_byte : PromiseId → ByteOperation → ℕ
of_byte x (InitializeByobReader closed) = names x closed
of_byte x (PullInto room element minimum request) = of_request x request
of_byte x _ = 0

abbrev pub of_writable : PromiseId → WritableOperation → ℕ
of_writable x (SetUpWriter w) = names x w.ready + names x w.closed
of_writable x (Write v p) = names x p
of_writable x (CloseWritable p) = names x p
of_writable x (ClosePropagating p) = names x p
of_writable x (Abort r p) = names x p
of_writable x (AbortIfWritable r p) = names x p
of_writable x (HandOn (ToTransform t d)) = names x d
of_writable x (HandOn (ToPort c d)) = names x d
of_writable x (AbortSettled p outcome) = names x p
of_writable x _ = 0

abbrev pub of_transform : PromiseId → TransformOperation → ℕ
of_transform x (SinkWrite u) = of_use x u
of_transform x (WriteGoesOn d) = names x d
of_transform x (TransformChunk v d) = names x d
of_transform x (SourcePull u) = of_use x u
of_transform x (SinkClose u) = of_use x u
of_transform x (SinkAbort r u) = of_use x u
of_transform x (SourceCancel r u) = of_use x u
of_transform x (FlushSettled p outcome) = names x p
of_transform x (SinkAbortSettled p r outcome) = names x p
of_transform x (CancelSettled p r outcome) = names x p
of_transform x _ = 0

abbrev pub of_tee : PromiseId → TeeOperation → ℕ
of_tee x (CancelBranch half r u) = of_use x u
of_tee x _ = 0

abbrev pub of_port : PromiseId → PortOperation → ℕ
of_port x (Leave r u) = of_use x u
of_port x (WriteByPort u) = of_use x u
of_port x (PortGoesOn d) = names x d
of_port x (PostChunk v d) = names x d
of_port x (CloseByPort u) = of_use x u
of_port x _ = 0

abbrev pub of_effect : PromiseId → Effect → ℕ
of_effect x (Readable i operation) = of_readable x operation
of_effect x (Byte i operation) = of_byte x operation
of_effect x (Writable i operation) = of_writable x operation
of_effect x (Pipe p operation) = 0
of_effect x (Signal a operation) = 0
of_effect x (Transform t operation) = of_transform x operation
of_effect x (Tee t operation) = of_tee x operation
of_effect x (Port c operation) = of_port x operation
of_effect x (StartAlgorithm i step start) = in_step x step
of_effect x (PullAlgorithm i) = 0
of_effect x (CancelAlgorithm i r p) = names x p
of_effect x (WriteAlgorithm i) = 0
of_effect x (CloseAlgorithm i) = 0
of_effect x (AbortAlgorithm i r p) = names x p
of_effect x (ChunkSteps i request v) = of_request x request
of_effect x (CloseSteps i request) = of_request x request
of_effect x (CloseStepsWith i request b) = of_request x request
of_effect x (ErrorSteps i request e) = of_request x request
of_effect x (Give gift u) = of_use x u
of_effect x (SettleEffect p outcome) = names x p
of_effect x (Queue m) = 0
of_effect x (CallHost call u) = of_use x u

abbrev pub in_effects : PromiseId → List Effect → ℕ
in_effects x [] = 0
in_effects x (e ∷ es) = of_effect x e + in_effects x es

pub in_effects-append : (x : PromiseId) (es ds : List Effect) → in_effects x (es ++ ds) ≡ in_effects x es + in_effects x ds
in_effects-append x [] ds = omega arith
in_effects-append x (e ∷ es) ds = let n = in_effects-append x es ds in omega arith
