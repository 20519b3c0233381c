-- What is bad about reasons, wherever they stand. A class weighs each reason, 0 where it may stand, and tells of each promise whether it hands
-- on the reason with which it is rejected. The others are the promises of readers, but those of tees, and of writers, of reads, writes and
-- closes, and of other pipes than one: those may be rejected with any reason, and nothing that looks at a reason reacts to them. The reason
-- with which the readable half of a transform stream is cancelled becomes an error, and so may a TypeError.
use Rattle.std.proofs.Common.{◌≡◌, ℕ, suc, ◌+◌, Bool, true, false, not, ◌&&◌, ◌||◌, nat_eq, if◌then◌else◌, List, [], ◌∷◌, length, Option, Some, None, Result, Ok, Err}
use Rattle.ws_value.specs.declared.ids.PipeId.{PipeId}
use Rattle.ws_value.specs.declared.ids.PromiseId.{PromiseId}
use Rattle.ws_value.specs.declared.ids.StreamId.{StreamId}
use Rattle.ws_value.specs.declared.value.Message.{Message}
use Rattle.ws_value.specs.declared.value.Message.TheVariants.{Error as ErrorMessage}
use Rattle.ws_value.specs.declared.value.Outcome.{Outcome}
use Rattle.ws_value.specs.declared.value.Outcome.TheVariants.{Rejected}
use Rattle.ws_value.specs.declared.value.Plain.{Plain}
use Rattle.ws_steps.specs.declared.byte.ByteOperation.{ByteOperation}
use Rattle.ws_steps.specs.declared.byte.ByteOperation.TheVariants as byte_names
use Rattle.ws_steps.specs.declared.effects.Effect.{Effect}
use Rattle.ws_steps.specs.declared.effects.Effect.TheVariants.{Readable as OnReadable, Byte, Writable as OnWritable, Pipe as OnPipe, Signal as OnSignal, Transform as OnTransform, Tee as OnTee, Port as OnPort, StartAlgorithm, CancelAlgorithm, AbortAlgorithm, ErrorSteps, Give, Settle as SettleEffect, CallHost}
use Rattle.ws_steps.specs.declared.effects.Gift.{Gift}
use Rattle.ws_steps.specs.declared.effects.Gift.TheVariants.{This, Fresh}
use Rattle.ws_steps.specs.declared.effects.Use.{Use}
use Rattle.ws_steps.specs.declared.effects.Use.TheVariants.{React, Resolve}
use Rattle.ws_steps.specs.declared.pipes.Action.{Action}
use Rattle.ws_steps.specs.declared.pipes.Action.TheVariants.{AbortDest, CancelSource, CloseDest, BySignal}
use Rattle.ws_steps.specs.declared.pipes.Ends.{Ends}
use Rattle.ws_steps.specs.declared.pipes.PipeOperation.{PipeOperation}
use Rattle.ws_steps.specs.declared.pipes.PipeOperation.TheVariants.{Abort as AbortPipe, ActionSettled, PartSettled}
use Rattle.ws_steps.specs.declared.pipes.Prevent.{Prevent}
use Rattle.ws_steps.specs.declared.pipes.SignalOperation.{SignalOperation}
use Rattle.ws_steps.specs.declared.pipes.SignalOperation.TheVariants.{Trigger}
use Rattle.ws_steps.specs.declared.promises.Job.{Job}
use Rattle.ws_steps.specs.declared.promises.Job.TheVariants.{Reaction as ReactionJob, Follow, Settle, Micro as MicroJob}
use Rattle.ws_steps.specs.declared.promises.Reaction.{Reaction}
use Rattle.ws_steps.specs.declared.promises.Reaction.TheVariants.{Perform, Adopt}
use Rattle.ws_steps.specs.declared.promises.Step.{Step}
use Rattle.ws_steps.specs.declared.promises.Step.TheVariants.{PipeEnds, PipeReady, PipeWrote, TransformAborted, TransformCancelled}
use Rattle.ws_steps.specs.declared.readable.ReadRequest.{ReadRequest}
use Rattle.ws_steps.specs.declared.readable.ReadRequest.TheVariants.{Promise, Pipe as PipeRequest, Tee as TeeRequest}
use Rattle.ws_steps.specs.declared.readable.ReadableOperation.{ReadableOperation}
use Rattle.ws_steps.specs.declared.readable.ReadableOperation.TheVariants.{InitializeReader, Read, Cancel, CancelIfReadable, Error, StartSettled, PullSettled}
use Rattle.ws_steps.specs.declared.readable.ReadableState.{ReadableState}
use Rattle.ws_steps.specs.declared.readable.ReadableState.TheVariants as state
use Rattle.ws_steps.specs.declared.tee.TeeOperation.{TeeOperation}
use Rattle.ws_steps.specs.declared.port.PortOperation.{PortOperation}
use Rattle.ws_steps.specs.declared.port.PortOperation.TheVariants as port_names
use Rattle.ws_steps.specs.declared.tee.TeeOperation.TheVariants as tee_names
use Rattle.ws_steps.specs.declared.transform.Halves.{Halves}
use Rattle.ws_steps.specs.declared.transform.Kind.{Kind}
use Rattle.ws_steps.specs.declared.transform.Kind.TheVariants.{Identity}
use Rattle.ws_steps.specs.declared.transform.TransformOperation.{TransformOperation}
use Rattle.ws_steps.specs.declared.transform.TransformOperation.TheVariants as transform_names
use Rattle.ws_steps.specs.declared.writable.PendingAbort.{PendingAbort}
use Rattle.ws_steps.specs.declared.writable.WritableOperation.{WritableOperation}
use Rattle.ws_steps.specs.declared.writable.WritableOperation.TheVariants as write
use Rattle.ws_steps.specs.declared.writable.WritableState.{WritableState}
use Rattle.ws_steps.specs.declared.writable.WritableState.TheVariants.{Writable, Erroring, Errored, Closed}
use Rattle.ws_steps.specs.declared.writable.Writer.{Writer}
use Rattle.ws_steps.specs.Effects.{type_error}
use Rattle.ws_steps.specs.Pipes as pipe
use Rattle.ws_steps.specs.Promises.{Entry, Table}
use Rattle.ws_steps.specs.Readable as readable
use Rattle.ws_steps.specs.Slots.{Slots, Stream, ReadableStream, ByteStream, WritableStream}
use Rattle.ws_steps.specs.Tee as tee
use Rattle.ws_steps.specs.Cross as cross
use Rattle.ws_steps.specs.Transform as transform
use Rattle.ws_steps.specs.Writable as writable

pub record Class : Type 0 where
  pub bad : Plain → ℕ
  pub hands : ℕ → Bool
  -- the pipe whose promise is looked at
  pub me : PipeId
  -- whether the stream of this number is a half of a transform stream
  pub half : ℕ → Bool
  -- whether a tee reads the stream of this number: its reader isn't let go of
  pub teed : ℕ → Bool

abbrev pub of_result : Class → Result Plain Plain → ℕ
of_result k (Ok v) = 0
of_result k (Err r) = k.bad r

abbrev pub of_reason : Class → Option Plain → ℕ
of_reason k None = 0
of_reason k (Some r) = k.bad r

-- the reason of a cancel of stream i, which a transform stream makes the error of its writable half
abbrev pub cancelled : Class → StreamId → Plain → ℕ
cancelled k i r = if k.half i.0 then k.bad r else 0

-- the reason that a step carries
abbrev pub of_step : Class → Step → ℕ
of_step k (TransformAborted t p r) = k.bad r
of_step k (TransformCancelled t p r) = k.bad r
of_step k _ = 0

-- how bad reasons are, together
abbrev pub bad_of : (Plain → ℕ) → List Plain → ℕ
bad_of bad [] = 0
bad_of bad (r ∷ rs) = bad r + bad_of bad rs

-- 0 where the promise of this number hands on, and where it doesn't

abbrev pub loud : Class → ℕ → ℕ
loud k n = if k.hands n then 0 else 1

abbrev pub soft : Class → ℕ → ℕ
soft k n = if k.hands n then 1 else 0

abbrev pub loud_one : Class → Option PromiseId → ℕ
loud_one k None = 0
loud_one k (Some p) = loud k p.0

-- the settling of a promise
abbrev pub settles : Class → ℕ → Result Plain Plain → ℕ
settles k n o = if k.hands n then of_result k o else 0

-- among the promises

-- steps that look at no reason
abbrev pub is_deaf : Step → Bool
is_deaf (PipeEnds p) = true
is_deaf (PipeReady p) = true
is_deaf (PipeWrote p) = true
is_deaf _ = false

abbrev pub in_reaction : Class → ℕ → Reaction → ℕ
in_reaction k n (Perform step derived) = of_step k step + (if is_deaf step then 0 else loud k n)
in_reaction k n (Adopt p) = loud k n

abbrev pub in_reactions : Class → ℕ → List Reaction → ℕ
in_reactions k n [] = 0
in_reactions k n (r ∷ rs) = in_reaction k n r + in_reactions k n rs

abbrev pub in_outcome : Class → ℕ → Outcome → ℕ
in_outcome k n (Rejected r) = if k.hands n then k.bad r else 0
in_outcome k n _ = 0

abbrev pub in_entry : Class → ℕ → Option Entry → ℕ
in_entry k n None = 0
in_entry k n (Some e) = in_outcome k n e.outcome + in_reactions k n e.reactions

abbrev pub in_entries : Class → ℕ → List (Option Entry) → ℕ
in_entries k n [] = 0
in_entries k n (x ∷ xs) = in_entry k n x + in_entries k (suc n) xs

abbrev pub in_job : Class → Job → ℕ
in_job k (ReactionJob step o derived) = of_step k step + (if is_deaf step then 0 else of_result k o)
in_job k (Follow p q) = loud k q.0
in_job k (Settle p o) = of_result k o
in_job k (MicroJob m) = 0

abbrev pub in_jobs : Class → List Job → ℕ
in_jobs k [] = 0
in_jobs k (j ∷ js) = in_job k j + in_jobs k js

unfoldable pub in_table : Class → Table → ℕ
in_table k t = in_entries k 0 t.entries + in_jobs k t.jobs

-- in effects

abbrev pub in_request : Class → ReadRequest → ℕ
in_request k (Promise p) = soft k p.0
in_request k (PipeRequest p) = 0
in_request k (TeeRequest t) = 0

abbrev pub in_requests : Class → List ReadRequest → ℕ
in_requests k [] = 0
in_requests k (r ∷ rs) = in_request k r + in_requests k rs

-- what is done with promise n
abbrev pub uses : Class → ℕ → Use → ℕ
uses k n (React step derived) = of_step k step + (if is_deaf step then 0 else loud k n)
uses k n (Resolve p) = loud k n

-- the reason that is carried in what is done
abbrev pub of_use : Class → Use → ℕ
of_use k (React step derived) = of_step k step
of_use k (Resolve p) = 0

abbrev pub gives : Class → Gift → Use → ℕ
gives k (This p) u = uses k p.0 u
gives k (Fresh o) u = of_result k o + of_use k u

-- the closed promise of a reader of stream n, and where no tee reads that

abbrev pub soft_reader : Class → Option PromiseId → ℕ
soft_reader k None = 0
soft_reader k (Some closed) = soft k closed.0

abbrev pub in_reader : Class → ℕ → Option PromiseId → ℕ
in_reader k n None = 0
in_reader k n (Some closed) = if k.teed n then 0 else soft k closed.0

abbrev pub of_readable : Class → StreamId → ReadableOperation → ℕ
of_readable k i (InitializeReader closed) = in_reader k i.0 (Some closed)
of_readable k i (Read request) = in_request k request
of_readable k i (Cancel r p) = cancelled k i r
of_readable k i (CancelIfReadable r p) = cancelled k i r
of_readable k i (Error e) = k.bad e
of_readable k i (StartSettled o) = of_result k o
of_readable k i (PullSettled o) = of_result k o
of_readable k i _ = 0

abbrev pub of_byte : Class → StreamId → ByteOperation → ℕ
of_byte k i (byte_names.InitializeByobReader closed) = in_reader k i.0 (Some closed)
of_byte k i (byte_names.PullInto room element minimum request) = in_request k request
of_byte k i _ = 0

abbrev pub of_writable : Class → WritableOperation → ℕ
of_writable k (write.SetUpWriter w) = soft k w.ready.0 + soft k w.closed.0
of_writable k (write.Write v p) = soft k p.0
of_writable k (write.Close p) = soft k p.0
of_writable k (write.Abort r p) = k.bad r + loud k p.0
of_writable k (write.AbortIfWritable r p) = k.bad r + loud k p.0
of_writable k (write.ErrorIfNeeded e) = k.bad e
of_writable k (write.StartSettled o) = of_result k o
of_writable k (write.WriteSettled o) = of_result k o
of_writable k (write.CloseSettled o) = of_result k o
of_writable k (write.AbortSettled p o) = of_result k o
of_writable k _ = 0

abbrev pub of_pipe : Class → PipeOperation → ℕ
of_pipe k (AbortPipe r) = k.bad r
of_pipe k (ActionSettled o) = of_result k o
of_pipe k (PartSettled o) = of_result k o
of_pipe k _ = 0

abbrev pub of_signal : Class → SignalOperation → ℕ
of_signal k (Trigger r) = k.bad r
of_signal k _ = 0

abbrev pub of_transform : Class → TransformOperation → ℕ
of_transform k (transform_names.SinkWrite u) = of_use k u
of_transform k (transform_names.Error e) = k.bad e
of_transform k (transform_names.SourcePull u) = of_use k u
of_transform k (transform_names.SinkClose u) = of_use k u
of_transform k (transform_names.SinkAbort r u) = k.bad r + of_use k u
of_transform k transform_names.Terminate = k.bad type_error
of_transform k (transform_names.SourceCancel r u) = k.bad r + of_use k u
of_transform k (transform_names.FlushSettled p o) = of_result k o
of_transform k (transform_names.AbortSettled p r o) = k.bad r + of_result k o
of_transform k (transform_names.CancelSettled p r o) = k.bad r + of_result k o
of_transform k _ = 0

-- a branch is cancelled with any reason: that goes no further but within a pair
abbrev pub of_tee : Class → TeeOperation → ℕ
of_tee k (tee_names.CancelBranch half r u) = of_use k u
of_tee k (tee_names.ReaderSettled o) = of_result k o
of_tee k _ = 0

abbrev pub of_message : Class → Message → ℕ
of_message k (ErrorMessage r) = k.bad r
of_message k _ = 0

abbrev pub of_port : Class → PortOperation → ℕ
of_port k (port_names.Leave r u) = of_use k u
of_port k (port_names.Write u) = of_use k u
of_port k (port_names.Close u) = of_use k u
of_port k (port_names.Deliver m) = of_message k m
of_port k _ = 0

abbrev pub in_effect : Class → Effect → ℕ
in_effect k (OnReadable i operation) = of_readable k i operation
in_effect k (Byte i operation) = of_byte k i operation
in_effect k (OnWritable i operation) = of_writable k operation
in_effect k (OnPipe p operation) = of_pipe k operation
in_effect k (OnSignal a operation) = of_signal k operation
in_effect k (OnTransform t operation) = of_transform k operation
in_effect k (OnTee t operation) = of_tee k operation
in_effect k (OnPort t operation) = of_port k operation
in_effect k (StartAlgorithm i step start) = of_step k step
in_effect k (CancelAlgorithm i r p) = cancelled k i r
in_effect k (AbortAlgorithm i r p) = k.bad r
in_effect k (ErrorSteps i request e) = in_request k request
in_effect k (Give gift u) = gives k gift u
in_effect k (SettleEffect p o) = settles k p.0 o
in_effect k (CallHost call u) = of_use k u
in_effect k _ = 0

abbrev pub in_effects : Class → List Effect → ℕ
in_effects k [] = 0
in_effects k (e ∷ es) = in_effect k e + in_effects k es

-- in records

abbrev pub is_errored : ReadableState → Bool
is_errored state.Readable = false
is_errored state.Closed = false
is_errored state.Errored = true

-- of the stream of number n
abbrev pub in_readable : Class → ℕ → readable.Slots → ℕ
in_readable k n x = (if is_errored x.state then k.bad x.stored_error else 0) + (in_reader k n x.reader + in_requests k x.requests)

-- whether there is a stored error
abbrev pub has_error : WritableState → Bool
has_error Writable = false
has_error Erroring = true
has_error Errored = true
has_error Closed = false

abbrev pub in_writer : Class → Option Writer → ℕ
in_writer k None = 0
in_writer k (Some w) = soft k w.ready.0 + soft k w.closed.0

abbrev pub in_abort : Class → Option PendingAbort → ℕ
in_abort k None = 0
in_abort k (Some abort) = loud k abort.promise.0 + (if abort.was_already_erroring then 0 else k.bad abort.reason)

abbrev pub in_writable : Class → writable.Slots → ℕ
in_writable k x = (if has_error x.state then k.bad x.stored_error else 0) + (in_writer k x.writer + in_abort k x.pending_abort)

abbrev pub in_stream : Class → ℕ → Stream → ℕ
in_stream k n (ReadableStream x) = in_readable k n x
in_stream k n (ByteStream x) = in_readable k n x.stream
in_stream k n (WritableStream x) = in_writable k x

abbrev pub in_streams : Class → ℕ → List Stream → ℕ
in_streams k n [] = 0
in_streams k n (x ∷ xs) = in_stream k n x + in_streams k (suc n) xs

-- a cancel does nothing with its reason but hand it to the host, or to a transform stream
abbrev pub in_action : Class → StreamId → Option Action → ℕ
in_action k source None = 0
in_action k source (Some (AbortDest r)) = k.bad r
in_action k source (Some (CancelSource r)) = cancelled k source r
in_action k source (Some CloseDest) = 0
in_action k source (Some (BySignal r)) = k.bad r

-- pipe n, which is the one that is looked at, or else may be rejected with anything
abbrev pub of_error : Class → ℕ → PromiseId → Option Plain → ℕ
of_error k n promise e = if nat_eq n k.me.0 then of_reason k e else soft k promise.0

abbrev pub in_pipe : Class → ℕ → pipe.Slots → ℕ
in_pipe k n x = in_action k x.source x.action + of_error k n x.promise x.error

abbrev pub in_pipes : Class → ℕ → List pipe.Slots → ℕ
in_pipes k n [] = 0
in_pipes k n (x ∷ xs) = in_pipe k n x + in_pipes k (suc n) xs

abbrev pub in_signals : Class → List pipe.Signal → ℕ
in_signals k [] = 0
in_signals k (x ∷ xs) = of_reason k x.reason + in_signals k xs

-- whether pipe p may not find its destination closing or closed, where a TypeError is bad: where it is the one that is looked at, and where it
-- would cancel a half of a transform stream
abbrev pub minds : (Plain → ℕ) → (ℕ → Bool) → PipeId → PipeId → StreamId → Prevent → Bool
minds bad half me p source prevent = not (nat_eq (bad type_error) 0) && (nat_eq p.0 me.0 || (half source.0 && not prevent.cancel))

-- what a pipe looks at
abbrev pub in_ends : Class → Ends → ℕ
in_ends k ends =
    (if is_errored ends.source_state then k.bad ends.source_error else 0)
    + ((if has_error ends.dest_state then k.bad ends.dest_error else 0) + loud_one k ends.dest_abort)

-- an identity that can't enqueue fails with a TypeError
abbrev pub of_kind : (Plain → ℕ) → Kind → ℕ
of_kind bad Identity = bad type_error
of_kind bad _ = 0

abbrev pub in_transform : Class → transform.Slots → ℕ
in_transform k x = of_kind k.bad x.kind + (loud k x.change.0 + loud_one k x.finish)

abbrev pub in_transforms : Class → List transform.Slots → ℕ
in_transforms k [] = 0
in_transforms k (x ∷ xs) = in_transform k x + in_transforms k xs

-- what a transform stream looks at
abbrev pub in_halves : Class → Halves → ℕ
in_halves k halves =
    (if is_errored halves.readable_state then k.bad halves.readable_error else 0) + (if has_error halves.writable_state then k.bad halves.writable_error else 0)

-- a tee: its cancel promise is settled as the cancel of its source is
abbrev pub in_tee : Class → tee.Slots → ℕ
in_tee k x = loud k x.cancel.0

abbrev pub in_tees : Class → List tee.Slots → ℕ
in_tees k [] = 0
in_tees k (x ∷ xs) = in_tee k x + in_tees k xs

-- a port: its backpressure promise hands on
abbrev pub in_port : Class → cross.Slots → ℕ
in_port k x = loud_one k x.backpressure

abbrev pub in_ports : Class → List cross.Slots → ℕ
in_ports k [] = 0
in_ports k (x ∷ xs) = in_port k x + in_ports k xs

abbrev pub in_slots : Class → Slots → ℕ
in_slots k s =
    in_streams k 0 s.streams + (in_pipes k 0 s.pipes + (in_signals k s.signals + (in_transforms k s.transforms + (in_tees k s.tees + (in_ports k s.ports + in_table k s.promises)))))

-- nothing bad stands in the slots, nor in what is still to be performed
abbrev pub AllGood : Class → Slots → List Effect → Type 0
AllGood k s es = in_slots k s + in_effects k es ≡ 0

-- how many promises there are
abbrev pub count : Table → ℕ
count t = length t.entries
