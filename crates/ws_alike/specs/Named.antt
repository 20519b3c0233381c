-- How often a promise is named: by the records of a realm, by its jobs, by the reactions that wait, and by effects.
use Rattle.std.specs.Prelude.{ℕ, ◌+◌, nat_eq, if◌then◌else◌, List, [], ◌∷◌, Option, Some, None}
use Rattle.ws_value.specs.declared.ids.PromiseId.{PromiseId}
use Rattle.ws_steps.specs.declared.byte.ByteOperation.{ByteOperation}
use Rattle.ws_steps.specs.declared.byte.ByteOperation.TheVariants.{InitializeByobReader, PullInto}
use Rattle.ws_steps.specs.declared.effects.Effect.{Effect}
use Rattle.ws_steps.specs.declared.effects.Effect.TheVariants.{Readable, Byte, Writable, Transform, Tee, Port, StartAlgorithm, CancelAlgorithm, AbortAlgorithm, ChunkSteps, CloseSteps, CloseStepsWith, ErrorSteps, Give, Settle as SettleEffect, CallHost}
use Rattle.ws_steps.specs.declared.effects.Gift.{Gift}
use Rattle.ws_steps.specs.declared.effects.Gift.TheVariants.{This, Fresh}
use Rattle.ws_steps.specs.declared.effects.Use.{Use}
use Rattle.ws_steps.specs.declared.effects.Use.TheVariants.{React, Resolve}
use Rattle.ws_steps.specs.declared.locks.Lock.{Lock}
use Rattle.ws_steps.specs.declared.locks.Lock.TheVariants.{Reader, ByobReader, Writer as WriterLock, ReleasedWriter, Inner}
use Rattle.ws_steps.specs.declared.port.PortOperation.{PortOperation}
use Rattle.ws_steps.specs.declared.port.PortOperation.TheVariants.{Leave, Write as WriteByPort, WriteGoesOn as PortGoesOn, PostChunk, Close as CloseByPort}
use Rattle.ws_steps.specs.declared.promises.Job.{Job}
use Rattle.ws_steps.specs.declared.promises.Job.TheVariants.{Reaction as ReactionJob, Follow, Settle, Micro as MicroJob}
use Rattle.ws_steps.specs.declared.promises.Reaction.{Reaction}
use Rattle.ws_steps.specs.declared.promises.Reaction.TheVariants.{Perform, Adopt}
use Rattle.ws_steps.specs.declared.promises.Step.{Step}
use Rattle.ws_steps.specs.declared.promises.Step.TheVariants.{WritableAbort, TransformChanged, TransformFlushed, TransformAborted, TransformCancelled, PortUnblocked}
use Rattle.ws_steps.specs.declared.readable.ReadRequest.{ReadRequest}
use Rattle.ws_steps.specs.declared.readable.ReadRequest.TheVariants.{Promise, Pipe as PipeRequest, Tee as TeeRequest}
use Rattle.ws_steps.specs.declared.readable.ReadableOperation.{ReadableOperation}
use Rattle.ws_steps.specs.declared.readable.ReadableOperation.TheVariants.{InitializeReader, Read, Cancel, CancelIfReadable}
use Rattle.ws_steps.specs.declared.tee.TeeOperation.{TeeOperation}
use Rattle.ws_steps.specs.declared.tee.TeeOperation.TheVariants.{CancelBranch}
use Rattle.ws_steps.specs.declared.transform.Taker.{Taker}
use Rattle.ws_steps.specs.declared.transform.Taker.TheVariants.{ToHost, ToTransform, ToPort}
use Rattle.ws_steps.specs.declared.transform.TransformOperation.{TransformOperation}
use Rattle.ws_steps.specs.declared.transform.TransformOperation.TheVariants.{SinkWrite, WriteGoesOn, TransformChunk, SourcePull, SinkClose, SinkAbort, SourceCancel, FlushSettled, AbortSettled as SinkAbortSettled, CancelSettled}
use Rattle.ws_steps.specs.declared.writable.PendingAbort.{PendingAbort}
use Rattle.ws_steps.specs.declared.writable.WritableOperation.{WritableOperation}
use Rattle.ws_steps.specs.declared.writable.WritableOperation.TheVariants.{SetUpWriter, Write, Close as CloseWritable, ClosePropagating, Abort, AbortIfWritable, HandOn, AbortSettled}
use Rattle.ws_steps.specs.declared.writable.Writer.{Writer}
use Rattle.ws_steps.specs.Promises.{Entry, Table, is_pending}
use Rattle.ws_steps.specs.Cross as cross
use Rattle.ws_steps.specs.Pipes as pipe
use Rattle.ws_steps.specs.Readable as readable
use Rattle.ws_steps.specs.Slots.{Slots, Stream, ReadableStream, ByteStream, WritableStream}
use Rattle.ws_steps.specs.Tee as tee
use Rattle.ws_steps.specs.Transform as transform
use Rattle.ws_steps.specs.Writable as writable

-- 1 where it is this promise
abbrev pub one : PromiseId → PromiseId → ℕ
one p q = if nat_eq p.0 q.0 then 1 else 0

abbrev pub in_option : PromiseId → Option PromiseId → ℕ
in_option p None = 0
in_option p (Some q) = one p q

-- how often a list names it, where f tells how often an element does
abbrev pub in_all : {X : Type 0} → (X → ℕ) → List X → ℕ
in_all f [] = 0
in_all f (x ∷ xs) = f x + in_all f xs

abbrev pub in_list : PromiseId → List PromiseId → ℕ
in_list p xs = in_all (one p) xs

-- jobs and reactions

abbrev pub in_step : PromiseId → Step → ℕ
in_step p (WritableAbort i q) = one p q
in_step p (TransformChanged t q) = one p q
in_step p (TransformFlushed t q) = one p q
in_step p (TransformAborted t q r) = one p q
in_step p (TransformCancelled t q r) = one p q
in_step p (PortUnblocked c q) = one p q
in_step p _ = 0

abbrev pub in_reaction : PromiseId → Reaction → ℕ
in_reaction p (Perform step derived) = in_step p step + in_option p derived
in_reaction p (Adopt q) = one p q

abbrev pub in_reactions : PromiseId → List Reaction → ℕ
in_reactions p xs = in_all (in_reaction p) xs

abbrev pub in_job : PromiseId → Job → ℕ
in_job p (ReactionJob step outcome derived) = in_step p step + in_option p derived
in_job p (Follow q r) = one p q + one p r
in_job p (Settle q outcome) = one p q
in_job p (MicroJob m) = 0

abbrev pub in_jobs : PromiseId → List Job → ℕ
in_jobs p xs = in_all (in_job p) xs

-- settling empties the reactions, so those of a promise that has settled are none
abbrev pub in_entry : PromiseId → Option Entry → ℕ
in_entry p None = 0
in_entry p (Some e) = if is_pending e.outcome then in_reactions p e.reactions else 0

abbrev pub in_entries : PromiseId → List (Option Entry) → ℕ
in_entries p xs = in_all (in_entry p) xs

abbrev pub in_table : PromiseId → Table → ℕ
in_table p t = in_jobs p t.jobs + in_entries p t.entries

-- records

abbrev pub in_request : PromiseId → ReadRequest → ℕ
in_request p (Promise q) = one p q
in_request p (PipeRequest q) = 0
in_request p (TeeRequest t) = 0

abbrev pub in_requests : PromiseId → List ReadRequest → ℕ
in_requests p xs = in_all (in_request p) xs

abbrev pub in_readable : PromiseId → readable.Slots → ℕ
in_readable p s = in_option p s.reader + in_requests p s.requests

abbrev pub in_writer : PromiseId → Option Writer → ℕ
in_writer p None = 0
in_writer p (Some w) = one p w.ready + one p w.closed

abbrev pub in_pending_abort : PromiseId → Option PendingAbort → ℕ
in_pending_abort p None = 0
in_pending_abort p (Some a) = one p a.promise

abbrev pub in_writable : PromiseId → writable.Slots → ℕ
in_writable p s =
    in_writer p s.writer
    + (in_list p s.write_requests
    + (in_option p s.write_in_flight
    + (in_option p s.close_request + (in_option p s.close_in_flight + in_pending_abort p s.pending_abort))))

abbrev pub in_stream : PromiseId → Stream → ℕ
in_stream p (ReadableStream s) = in_readable p s
in_stream p (ByteStream s) = in_readable p s.stream
in_stream p (WritableStream s) = in_writable p s

abbrev pub in_transform : PromiseId → transform.Slots → ℕ
in_transform p s = one p s.change + in_option p s.finish

abbrev pub in_tee : PromiseId → tee.Slots → ℕ
in_tee p s = one p s.cancel

abbrev pub in_port : PromiseId → cross.Slots → ℕ
in_port p s = in_option p s.backpressure

abbrev pub in_pipe : PromiseId → pipe.Slots → ℕ
in_pipe p s = one p s.promise + in_option p s.whole

abbrev pub in_lock : PromiseId → Lock → ℕ
in_lock p (Reader stream closed) = one p closed
in_lock p (ByobReader stream closed) = one p closed
in_lock p (WriterLock i) = 0
in_lock p (ReleasedWriter w) = one p w.ready + one p w.closed
in_lock p Inner = 0

-- how often the slots of a realm name the promise
abbrev pub in_slots : PromiseId → Slots → ℕ
in_slots p s =
    in_table p s.promises
    + (in_all (in_stream p) s.streams
    + (in_all (in_transform p) s.transforms
    + (in_all (in_tee p) s.tees
    + (in_all (in_port p) s.ports
    + (in_all (in_pipe p) s.pipes + (in_all (in_lock p) s.locks + in_all (in_option p) s.hosts))))))

-- effects

abbrev pub in_use : PromiseId → Use → ℕ
in_use p (React step derived) = in_step p step + in_option p derived
in_use p (Resolve q) = one p q

abbrev pub in_gift : PromiseId → Gift → ℕ
in_gift p (This q) = one p q
in_gift p (Fresh outcome) = 0

abbrev pub in_readable_operation : PromiseId → ReadableOperation → ℕ
in_readable_operation p (InitializeReader q) = one p q
in_readable_operation p (Read request) = in_request p request
in_readable_operation p (Cancel r q) = one p q
in_readable_operation p (CancelIfReadable r q) = one p q
in_readable_operation p _ = 0

abbrev pub in_byte_operation : PromiseId → ByteOperation → ℕ
in_byte_operation p (InitializeByobReader q) = one p q
in_byte_operation p (PullInto room element minimum request) = in_request p request
in_byte_operation p _ = 0

abbrev pub in_taker : PromiseId → Taker → ℕ
in_taker p ToHost = 0
in_taker p (ToTransform t q) = one p q
in_taker p (ToPort c q) = one p q

abbrev pub in_writable_operation : PromiseId → WritableOperation → ℕ
in_writable_operation p (SetUpWriter w) = one p w.ready + one p w.closed
in_writable_operation p (Write v q) = one p q
in_writable_operation p (CloseWritable q) = one p q
in_writable_operation p (ClosePropagating q) = one p q
in_writable_operation p (Abort r q) = one p q
in_writable_operation p (AbortIfWritable r q) = one p q
in_writable_operation p (HandOn taker) = in_taker p taker
in_writable_operation p (AbortSettled q outcome) = one p q
in_writable_operation p _ = 0

abbrev pub in_transform_operation : PromiseId → TransformOperation → ℕ
in_transform_operation p (SinkWrite u) = in_use p u
in_transform_operation p (WriteGoesOn q) = one p q
in_transform_operation p (TransformChunk v q) = one p q
in_transform_operation p (SourcePull u) = in_use p u
in_transform_operation p (SinkClose u) = in_use p u
in_transform_operation p (SinkAbort r u) = in_use p u
in_transform_operation p (SourceCancel r u) = in_use p u
in_transform_operation p (FlushSettled q outcome) = one p q
in_transform_operation p (SinkAbortSettled q r outcome) = one p q
in_transform_operation p (CancelSettled q r outcome) = one p q
in_transform_operation p _ = 0

abbrev pub in_tee_operation : PromiseId → TeeOperation → ℕ
in_tee_operation p (CancelBranch half r u) = in_use p u
in_tee_operation p _ = 0

abbrev pub in_port_operation : PromiseId → PortOperation → ℕ
in_port_operation p (Leave r u) = in_use p u
in_port_operation p (WriteByPort u) = in_use p u
in_port_operation p (PortGoesOn q) = one p q
in_port_operation p (PostChunk v q) = one p q
in_port_operation p (CloseByPort u) = in_use p u
in_port_operation p _ = 0

abbrev pub in_effect : PromiseId → Effect → ℕ
in_effect p (Readable i operation) = in_readable_operation p operation
in_effect p (Byte i operation) = in_byte_operation p operation
in_effect p (Writable i operation) = in_writable_operation p operation
in_effect p (Transform t operation) = in_transform_operation p operation
in_effect p (Tee t operation) = in_tee_operation p operation
in_effect p (Port c operation) = in_port_operation p operation
in_effect p (StartAlgorithm i step start) = in_step p step
in_effect p (CancelAlgorithm i r q) = one p q
in_effect p (AbortAlgorithm i r q) = one p q
in_effect p (ChunkSteps i request v) = in_request p request
in_effect p (CloseSteps i request) = in_request p request
in_effect p (CloseStepsWith i request b) = in_request p request
in_effect p (ErrorSteps i request e) = in_request p request
in_effect p (Give gift u) = in_gift p gift + in_use p u
in_effect p (SettleEffect q outcome) = one p q
in_effect p (CallHost call u) = in_use p u
in_effect p _ = 0

abbrev pub in_effects : PromiseId → List Effect → ℕ
in_effects p xs = in_all (in_effect p) xs
