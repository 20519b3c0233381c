-- The operations of one record that stand on the agenda, by their names.
use Rattle.std.specs.Prelude.{length, Bool}
use Rattle.ws_value.specs.declared.ids.PipeId.{PipeId}
use Rattle.ws_value.specs.declared.ids.PortId.{PortId}
use Rattle.ws_value.specs.declared.ids.StreamId.{StreamId}
use Rattle.ws_value.specs.declared.ids.TeeId.{TeeId}
use Rattle.ws_steps.specs.declared.byte.ByteOperation.{ByteOperation}
use Rattle.ws_steps.specs.declared.byte.ByteOperation.TheVariants.{InitializeByobReader, Enqueue as EnqueueBytes, PullInto, MakeRequest, Respond}
use Rattle.ws_steps.specs.declared.byte.ReaderKind.TheVariants.{Default, Byob}
use Rattle.ws_steps.specs.declared.pipes.Ends.{Ends}
use Rattle.ws_steps.specs.declared.pipes.PipeOperation.{PipeOperation}
use Rattle.ws_steps.specs.declared.pipes.PipeOperation.TheVariants.{Look, LookReady, KeepChunk, ReadEnded, WriteChunk, GoOn, WriteEnded, Abort as AbortPipe, ActionSettled, PartSettled, NoParts}
use Rattle.ws_steps.specs.declared.pipes.SignalOperation.{SignalOperation}
use Rattle.ws_steps.specs.declared.pipes.SignalOperation.TheVariants.{Add, Forget, Trigger}
use Rattle.ws_steps.specs.declared.port.PortOperation.{PortOperation}
use Rattle.ws_steps.specs.declared.port.PortOperation.TheVariants.{Pull, Leave, Write as WriteByPort, WriteGoesOn as PortGoesOn, PostChunk, Close as CloseByPort, Deliver, Unblock as UnblockPort}
use Rattle.ws_steps.specs.declared.readable.ReadableOperation.{ReadableOperation}
use Rattle.ws_steps.specs.declared.readable.ReadableOperation.TheVariants.{InitializeReader, ReleaseReader, Disturb, Read, Cancel, CancelIfReadable, Enqueue, Close, Error, StartSettled, PullSettled}
use Rattle.ws_steps.specs.declared.tee.TeeOperation.{TeeOperation}
use Rattle.ws_steps.specs.declared.tee.TeeOperation.TheVariants.{PullBranch, KeepChunk as KeepByTee, SourceClosed, SourceErrored, HandChunk, Handed, CancelBranch, ReaderSettled}
use Rattle.ws_steps.specs.declared.transform.Halves.{Halves}
use Rattle.ws_steps.specs.declared.transform.TransformId.{TransformId}
use Rattle.ws_steps.specs.declared.transform.TransformOperation.{TransformOperation}
use Rattle.ws_steps.specs.declared.transform.TransformOperation.TheVariants.{SinkWrite, WriteGoesOn, TransformChunk, Enqueue as EnqueueByTransform, Enqueued, Error as ErrorTransform, Unblock, Terminate, SourcePull, SinkClose, SinkAbort, SourceCancel, FlushSettled, AbortSettled as SinkAbortSettled, CancelSettled}
use Rattle.ws_steps.specs.declared.writable.WritableOperation.{WritableOperation}
use Rattle.ws_steps.specs.declared.writable.WritableOperation.TheVariants.{SetUpWriter, ReleaseWriter, Write, Close as CloseWritable, ClosePropagating, Abort, AbortIfWritable, ErrorIfNeeded, HandOn, StartSettled as WritableStartSettled, WriteSettled, CloseSettled, AbortSettled}
use Rattle.ws_steps.specs.Bytes as byte
use Rattle.ws_steps.specs.Cross as cross
use Rattle.ws_steps.specs.Pipes as pipe
use Rattle.ws_steps.specs.Readable as readable
use Rattle.ws_steps.specs.Tee as tee
use Rattle.ws_steps.specs.Transform as transform
use Rattle.ws_steps.specs.Writable as writable

abbrev pub readable_operation : StreamId → ReadableOperation → readable.Acts → readable.Acts
readable_operation i (InitializeReader closed) a = readable.reader_generic_initialize closed a
readable_operation i ReleaseReader a = readable.reader_release i a
readable_operation i Disturb a = readable.disturb a
readable_operation i (Read request) a = readable.default_reader_read i request a
readable_operation i (Cancel r p) a = readable.stream_cancel i r p a
readable_operation i (CancelIfReadable r p) a = readable.cancel_if_readable i r p a
readable_operation i (Enqueue v) a = readable.controller_enqueue i v a
readable_operation i Close a = readable.controller_close i a
readable_operation i (Error e) a = readable.controller_error i e a
readable_operation i (StartSettled outcome) a = readable.start_settled i outcome a
readable_operation i (PullSettled outcome) a = readable.pull_settled i outcome a

-- the same of a stream with a byte controller, which enqueues bytes by an operation of its own
abbrev pub byte_readable_operation : StreamId → ReadableOperation → byte.Acts → byte.Acts
byte_readable_operation i (InitializeReader closed) a = byte.reader_initialize Default closed a
byte_readable_operation i ReleaseReader a = byte.reader_release i a
byte_readable_operation i Disturb a = byte.in_stream readable.disturb a
byte_readable_operation i (Read request) a = byte.read i request a
byte_readable_operation i (Cancel r p) a = byte.stream_cancel i r p a
byte_readable_operation i (CancelIfReadable r p) a = byte.cancel_if_readable i r p a
byte_readable_operation i (Enqueue v) a = a
byte_readable_operation i Close a = byte.controller_close i a
byte_readable_operation i (Error e) a = byte.controller_error i e a
byte_readable_operation i (StartSettled outcome) a = byte.start_settled i outcome a
byte_readable_operation i (PullSettled outcome) a = byte.pull_settled i outcome a

abbrev pub byte_operation : StreamId → ByteOperation → byte.Acts → byte.Acts
byte_operation i (InitializeByobReader closed) a = byte.reader_initialize Byob closed a
byte_operation i (EnqueueBytes b) a = byte.controller_enqueue i b a
byte_operation i (PullInto room element minimum request) a = byte.read_into i (length room) element minimum request a
byte_operation i (MakeRequest q) a = byte.make_request q a
byte_operation i (Respond b) a = byte.respond i b a

abbrev pub writable_operation : StreamId → WritableOperation → writable.Acts → writable.Acts
writable_operation i (SetUpWriter w) a = writable.set_up_writer w a
writable_operation i ReleaseWriter a = writable.writer_release a
writable_operation i (Write v p) a = writable.writer_write i v p a
writable_operation i (CloseWritable p) a = writable.stream_close i p a
writable_operation i (ClosePropagating p) a = writable.close_with_error_propagation i p a
writable_operation i (Abort r p) a = writable.stream_abort i r p a
writable_operation i (AbortIfWritable r p) a = writable.abort_if_writable i r p a
writable_operation i (ErrorIfNeeded e) a = writable.controller_error_if_needed i e a
writable_operation i (HandOn taker) a = writable.hand_on i taker a
writable_operation i (WritableStartSettled outcome) a = writable.start_settled i outcome a
writable_operation i (WriteSettled outcome) a = writable.write_settled i outcome a
writable_operation i (CloseSettled outcome) a = writable.close_settled i outcome a
writable_operation i (AbortSettled p outcome) a = writable.abort_settled p outcome a

abbrev pub pipe_operation : PipeId → Ends → PipeOperation → pipe.Acts → pipe.Acts
pipe_operation me ends Look a = pipe.look me ends a
pipe_operation me ends LookReady a = pipe.look_ready me ends a
pipe_operation me ends (KeepChunk v) a = pipe.keep_chunk me v a
pipe_operation me ends ReadEnded a = pipe.read_ended me a
pipe_operation me ends WriteChunk a = pipe.write_chunk me a
pipe_operation me ends GoOn a = pipe.go_on me ends a
pipe_operation me ends WriteEnded a = pipe.write_ended me ends a
pipe_operation me ends (AbortPipe r) a = pipe.abort me ends r a
pipe_operation me ends (ActionSettled outcome) a = pipe.action_settled me outcome a
pipe_operation me ends (PartSettled outcome) a = pipe.part_settled outcome a
pipe_operation me ends NoParts a = pipe.no_parts a

abbrev pub signal_operation : SignalOperation → pipe.Signal → pipe.Signalled
signal_operation (Add p) x = pipe.add_pipe p x
signal_operation (Forget p) x = pipe.forget_pipe p x
signal_operation (Trigger r) x = pipe.trigger r x

abbrev pub transform_operation : TransformId → Halves → TransformOperation → transform.Acts → transform.Acts
transform_operation me halves (SinkWrite u) a = transform.sink_write me u a
transform_operation me halves (WriteGoesOn d) a = transform.write_goes_on me halves d a
transform_operation me halves (TransformChunk v d) a = transform.transform_chunk me halves v d a
transform_operation me halves (EnqueueByTransform v) a = transform.enqueue me v a
transform_operation me halves Enqueued a = transform.enqueued halves a
transform_operation me halves (ErrorTransform e) a = transform.transform_error me e a
transform_operation me halves Unblock a = transform.unblock a
transform_operation me halves Terminate a = transform.terminate me a
transform_operation me halves (SourcePull u) a = transform.source_pull u a
transform_operation me halves (SinkClose u) a = transform.sink_close me u a
transform_operation me halves (SinkAbort r u) a = transform.sink_abort me r u a
transform_operation me halves (SourceCancel r u) a = transform.source_cancel me r u a
transform_operation me halves (FlushSettled p outcome) a = transform.flush_settled p halves outcome a
transform_operation me halves (SinkAbortSettled p r outcome) a = transform.abort_settled p halves r outcome a
transform_operation me halves (CancelSettled p r outcome) a = transform.cancel_settled me p halves r outcome a

abbrev pub tee_operation : TeeId → TeeOperation → tee.Acts → tee.Acts
tee_operation me PullBranch a = tee.pull_branch me a
tee_operation me (KeepByTee v) a = tee.keep_chunk me v a
tee_operation me SourceClosed a = tee.source_closed a
tee_operation me SourceErrored a = tee.source_errored a
tee_operation me HandChunk a = tee.hand_chunk me a
tee_operation me Handed a = tee.handed me a
tee_operation me (CancelBranch half r u) a = tee.cancel_branch me half r u a
tee_operation me (ReaderSettled outcome) a = tee.reader_settled outcome a

-- `clones` tells whether the chunk that is first in the queue of a writable end can be cloned
abbrev pub port_operation : PortId → Bool → PortOperation → cross.Acts → cross.Acts
port_operation me clones Pull a = cross.pull me a
port_operation me clones (Leave r u) a = cross.leave me r u a
port_operation me clones (WriteByPort u) a = cross.write me u a
port_operation me clones (PortGoesOn d) a = cross.write_goes_on me clones d a
port_operation me clones (PostChunk v d) a = cross.post_chunk me v d a
port_operation me clones (CloseByPort u) a = cross.close me u a
port_operation me clones (Deliver m) a = cross.deliver me m a
port_operation me clones UnblockPort a = cross.unblock a
