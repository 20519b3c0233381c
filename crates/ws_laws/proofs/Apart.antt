-- Other effects than the operations of streams, pipes, tees and ports leave these as they were, and each leaves all locks.
use Rattle.std.proofs.Common.{◌≡◌, List, Option, Some, None, refl, slice_get}
use Rattle.ws_value.specs.declared.ids.PipeId.{PipeId}
use Rattle.ws_value.specs.declared.ids.PortId.{PortId}
use Rattle.ws_value.specs.declared.ids.SignalId.{SignalId}
use Rattle.ws_value.specs.declared.ids.StreamId.{StreamId}
use Rattle.ws_value.specs.declared.ids.TeeId.{TeeId}
use Rattle.ws_steps.specs.declared.calls.Event.TheVariants.{Signal}
use Rattle.ws_steps.specs.declared.calls.StartBy.TheVariants.{Now, Later}
use Rattle.ws_steps.specs.declared.byte.ByteOperation.{ByteOperation}
use Rattle.ws_steps.specs.declared.effects.Effect.{Effect}
use Rattle.ws_steps.specs.declared.readable.ReadableOperation.{ReadableOperation}
use Rattle.ws_steps.specs.declared.effects.Effect.TheVariants.{Readable, Byte, Writable, Pipe, Signal, Transform, Tee, Port, StartAlgorithm, ChunkSteps, CloseSteps, CloseStepsWith, ErrorSteps}
use Rattle.ws_steps.specs.declared.readable.ReadRequest.TheVariants.{Promise, Pipe as PipeRequest, Tee as TeeRequest}
use Rattle.ws_steps.specs.declared.pipes.PipeOperation.{PipeOperation}
use Rattle.ws_steps.specs.declared.pipes.SignalOperation.{SignalOperation}
use Rattle.ws_steps.specs.declared.transform.TransformId.{TransformId}
use Rattle.ws_steps.specs.declared.transform.TransformOperation.{TransformOperation}
use Rattle.ws_steps.specs.declared.port.PortOperation.{PortOperation}
use Rattle.ws_steps.specs.declared.tee.TeeOperation.{TeeOperation}
use Rattle.ws_steps.specs.Promises.{Table}
use Rattle.ws_steps.specs.Operations.{readable_operation, byte_readable_operation, byte_operation, writable_operation, pipe_operation, signal_operation, transform_operation, tee_operation, port_operation}
use Rattle.ws_steps.specs.Slots.{Slots, Stream, Done, nothing, has_readable, has_byte, has_writable, put_readable, put_byte, put_writable, on_readable, on_byte, on_pipe_at, on_signal_at, on_transform_at, on_tee_at, on_port_at}
use Rattle.ws_steps.specs.Turns.{row, call_host, on_source}
use Rattle.ws_steps.specs.Pipes as pipe
use Rattle.ws_steps.specs.Transform as transform
use Rattle.ws_steps.specs.Tee as tee
use Rattle.ws_steps.specs.Cross as cross
use Rattle.ws_laws.proofs.Tables.{either, readable_acts, byte_acts, writable_acts}

-- other effects than operations leave all streams

abbrev pub IsApart : Effect → Type 0
IsApart (Readable i operation) = ⊥
IsApart (Byte i operation) = ⊥
IsApart (Writable i operation) = ⊥
IsApart _ = Unit {0}

pipe-streams : (p : PipeId) (operation : PipeOperation) (s : Slots) (o : Option pipe.Slots)
    → (on_pipe_at (λ ends. pipe_operation p ends operation) p s o).slots.streams ≡ s.streams
pipe-streams p operation s None = refl
pipe-streams p operation s (Some x) = refl

signal-streams : (a : SignalId) (operation : SignalOperation) (s : Slots) (o : Option pipe.Signal)
    → (on_signal_at (signal_operation operation) a s o).slots.streams ≡ s.streams
signal-streams a operation s None = refl
signal-streams a operation s (Some x) = refl

transform-streams : (t : TransformId) (operation : TransformOperation) (s : Slots) (o : Option transform.Slots)
    → (on_transform_at (λ halves. transform_operation t halves operation) t s o).slots.streams ≡ s.streams
transform-streams t operation s None = refl
transform-streams t operation s (Some x) = refl

tee-streams : (t : TeeId) (operation : TeeOperation) (s : Slots) (o : Option tee.Slots)
    → (on_tee_at (tee_operation t operation) t s o).slots.streams ≡ s.streams
tee-streams t operation s None = refl
tee-streams t operation s (Some x) = refl

port-streams : (c : PortId) (operation : PortOperation) (s : Slots) (o : Option cross.Slots)
    → (on_port_at (λ clones. port_operation c clones operation) c s o).slots.streams ≡ s.streams
port-streams c operation s None = refl
port-streams c operation s (Some x) = refl

pub row-streams : (e : Effect) (s : Slots) → IsApart e → (row e s).slots.streams ≡ s.streams
unfolding row call_host
row-streams (Readable i operation) s apart = absurd apart
row-streams (Byte i operation) s apart = absurd apart
row-streams (Writable i operation) s apart = absurd apart
row-streams (Pipe p operation) s apart = pipe-streams p operation s (slice_get s.pipes p.0)
row-streams (Signal a operation) s apart = signal-streams a operation s (slice_get s.signals a.0)
row-streams (Transform t operation) s apart = transform-streams t operation s (slice_get s.transforms t.0)
row-streams (Tee t operation) s apart = tee-streams t operation s (slice_get s.tees t.0)
row-streams (Port c operation) s apart = port-streams c operation s (slice_get s.ports c.0)
row-streams (StartAlgorithm i step Now) s apart = refl
row-streams (StartAlgorithm i step Later) s apart = refl
row-streams (ChunkSteps i (Promise p) v) s apart = refl
row-streams (CloseSteps i (Promise p)) s apart = refl
row-streams (ErrorSteps i (Promise p) e) s apart = refl
row-streams (ChunkSteps i (PipeRequest p) v) s apart = refl
row-streams (ChunkSteps i (TeeRequest t) v) s apart = refl
row-streams (CloseSteps i (PipeRequest p)) s apart = refl
row-streams (CloseSteps i (TeeRequest t)) s apart = refl
row-streams (CloseStepsWith i (Promise p) b) s apart = refl
row-streams (CloseStepsWith i (PipeRequest p) b) s apart = refl
row-streams (CloseStepsWith i (TeeRequest t) b) s apart = refl
row-streams (ErrorSteps i (PipeRequest p) e) s apart = refl
row-streams (ErrorSteps i (TeeRequest t) e) s apart = refl
row-streams _ s apart = refl

pipe-locks : (p : PipeId) (operation : PipeOperation) (s : Slots) (o : Option pipe.Slots)
    → (on_pipe_at (λ ends. pipe_operation p ends operation) p s o).slots.locks ≡ s.locks
pipe-locks p operation s None = refl
pipe-locks p operation s (Some x) = refl

signal-locks : (a : SignalId) (operation : SignalOperation) (s : Slots) (o : Option pipe.Signal)
    → (on_signal_at (signal_operation operation) a s o).slots.locks ≡ s.locks
signal-locks a operation s None = refl
signal-locks a operation s (Some x) = refl

transform-locks : (t : TransformId) (operation : TransformOperation) (s : Slots) (o : Option transform.Slots)
    → (on_transform_at (λ halves. transform_operation t halves operation) t s o).slots.locks ≡ s.locks
transform-locks t operation s None = refl
transform-locks t operation s (Some x) = refl

tee-locks : (t : TeeId) (operation : TeeOperation) (s : Slots) (o : Option tee.Slots)
    → (on_tee_at (tee_operation t operation) t s o).slots.locks ≡ s.locks
tee-locks t operation s None = refl
tee-locks t operation s (Some x) = refl

port-locks : (c : PortId) (operation : PortOperation) (s : Slots) (o : Option cross.Slots)
    → (on_port_at (λ clones. port_operation c clones operation) c s o).slots.locks ≡ s.locks
port-locks c operation s None = refl
port-locks c operation s (Some x) = refl

-- what an operation of a stream leaves: all but the streams and the promises
module _ {X : Type 0} (look : Slots → X) (blind : (s : Slots) (streams : List Stream) (t : Table) → look (record s { streams = streams; promises = t }) ≡ look s) where
  pub byte-leaves : (i : StreamId) (operation : ByteOperation) (s : Slots) → look (on_byte (byte_operation i operation) i s).slots ≡ look s
  byte-leaves i operation s =
      either (λ (d : Done). look d.slots ≡ look s) (has_byte i s) (put_byte i s (byte_operation i operation (byte_acts i s))) (nothing s) (λ e. blind s _ _) (λ e. refl)

  pub source-leaves : (i : StreamId) (operation : ReadableOperation) (s : Slots) → look (on_source operation i s).slots ≡ look s
  source-leaves i operation s =
      either (λ (d : Done). look d.slots ≡ look s) (has_byte i s) (on_byte (byte_readable_operation i operation) i s) (on_readable (readable_operation i operation) i s)
      (λ is. either (λ (d : Done). look d.slots ≡ look s) (has_byte i s) (put_byte i s (byte_readable_operation i operation (byte_acts i s))) (nothing s) (λ e. blind s _ _) (λ e. refl))
      (λ isnt. either (λ (d : Done). look d.slots ≡ look s) (has_readable i s) (put_readable i s (readable_operation i operation (readable_acts i s))) (nothing s) (λ e. blind s _ _) (λ e. refl))

-- each effect leaves all locks
pub row-locks : (e : Effect) (s : Slots) → (row e s).slots.locks ≡ s.locks
unfolding row call_host
row-locks (Readable i operation) s = source-leaves (λ z. z.locks) (λ z x o. refl) i operation s
row-locks (Byte i operation) s = byte-leaves (λ z. z.locks) (λ z x o. refl) i operation s
row-locks (Writable i operation) s =
    either (λ (d : Done). d.slots.locks ≡ s.locks) (has_writable i s) (put_writable i s (writable_operation i operation (writable_acts i s))) (nothing s) (λ e. refl) (λ e. refl)
row-locks (Pipe p operation) s = pipe-locks p operation s (slice_get s.pipes p.0)
row-locks (Signal a operation) s = signal-locks a operation s (slice_get s.signals a.0)
row-locks (Transform t operation) s = transform-locks t operation s (slice_get s.transforms t.0)
row-locks (Tee t operation) s = tee-locks t operation s (slice_get s.tees t.0)
row-locks (Port c operation) s = port-locks c operation s (slice_get s.ports c.0)
row-locks (StartAlgorithm i step Now) s = refl
row-locks (StartAlgorithm i step Later) s = refl
row-locks (ChunkSteps i (Promise p) v) s = refl
row-locks (CloseSteps i (Promise p)) s = refl
row-locks (ErrorSteps i (Promise p) e) s = refl
row-locks (ChunkSteps i (PipeRequest p) v) s = refl
row-locks (ChunkSteps i (TeeRequest t) v) s = refl
row-locks (CloseSteps i (PipeRequest p)) s = refl
row-locks (CloseSteps i (TeeRequest t)) s = refl
row-locks (CloseStepsWith i (Promise p) b) s = refl
row-locks (CloseStepsWith i (PipeRequest p) b) s = refl
row-locks (CloseStepsWith i (TeeRequest t) b) s = refl
row-locks (ErrorSteps i (PipeRequest p) e) s = refl
row-locks (ErrorSteps i (TeeRequest t) e) s = refl
row-locks _ s = refl

-- other effects than operations of pipes leave the pipes

abbrev pub IsNoPipe : Effect → Type 0
IsNoPipe (Pipe p operation) = ⊥
IsNoPipe _ = Unit {0}

signal-pipes : (a : SignalId) (operation : SignalOperation) (s : Slots) (o : Option pipe.Signal)
    → (on_signal_at (signal_operation operation) a s o).slots.pipes ≡ s.pipes
signal-pipes a operation s None = refl
signal-pipes a operation s (Some x) = refl

transform-pipes : (t : TransformId) (operation : TransformOperation) (s : Slots) (o : Option transform.Slots)
    → (on_transform_at (λ halves. transform_operation t halves operation) t s o).slots.pipes ≡ s.pipes
transform-pipes t operation s None = refl
transform-pipes t operation s (Some x) = refl

tee-pipes : (t : TeeId) (operation : TeeOperation) (s : Slots) (o : Option tee.Slots)
    → (on_tee_at (tee_operation t operation) t s o).slots.pipes ≡ s.pipes
tee-pipes t operation s None = refl
tee-pipes t operation s (Some x) = refl

port-pipes : (c : PortId) (operation : PortOperation) (s : Slots) (o : Option cross.Slots)
    → (on_port_at (λ clones. port_operation c clones operation) c s o).slots.pipes ≡ s.pipes
port-pipes c operation s None = refl
port-pipes c operation s (Some x) = refl

pub row-pipes : (e : Effect) (s : Slots) → IsNoPipe e → (row e s).slots.pipes ≡ s.pipes
unfolding row call_host
row-pipes (Readable i operation) s n = source-leaves (λ z. z.pipes) (λ z x o. refl) i operation s
row-pipes (Byte i operation) s n = byte-leaves (λ z. z.pipes) (λ z x o. refl) i operation s
row-pipes (Writable i operation) s n =
    either (λ (d : Done). d.slots.pipes ≡ s.pipes) (has_writable i s) (put_writable i s (writable_operation i operation (writable_acts i s))) (nothing s) (λ e. refl) (λ e. refl)
row-pipes (Pipe p operation) s n = absurd n
row-pipes (Signal a operation) s n = signal-pipes a operation s (slice_get s.signals a.0)
row-pipes (Transform t operation) s n = transform-pipes t operation s (slice_get s.transforms t.0)
row-pipes (Tee t operation) s n = tee-pipes t operation s (slice_get s.tees t.0)
row-pipes (Port c operation) s n = port-pipes c operation s (slice_get s.ports c.0)
row-pipes (StartAlgorithm i step Now) s n = refl
row-pipes (StartAlgorithm i step Later) s n = refl
row-pipes (ChunkSteps i (Promise p) v) s n = refl
row-pipes (CloseSteps i (Promise p)) s n = refl
row-pipes (ErrorSteps i (Promise p) e) s n = refl
row-pipes (ChunkSteps i (PipeRequest p) v) s n = refl
row-pipes (ChunkSteps i (TeeRequest t) v) s n = refl
row-pipes (CloseSteps i (PipeRequest p)) s n = refl
row-pipes (CloseSteps i (TeeRequest t)) s n = refl
row-pipes (CloseStepsWith i (Promise p) b) s n = refl
row-pipes (CloseStepsWith i (PipeRequest p) b) s n = refl
row-pipes (CloseStepsWith i (TeeRequest t) b) s n = refl
row-pipes (ErrorSteps i (PipeRequest p) e) s n = refl
row-pipes (ErrorSteps i (TeeRequest t) e) s n = refl
row-pipes _ s n = refl

-- other effects than operations of tees leave the tees

abbrev pub IsNoTee : Effect → Type 0
IsNoTee (Tee t operation) = ⊥
IsNoTee _ = Unit {0}

signal-tees : (a : SignalId) (operation : SignalOperation) (s : Slots) (o : Option pipe.Signal)
    → (on_signal_at (signal_operation operation) a s o).slots.tees ≡ s.tees
signal-tees a operation s None = refl
signal-tees a operation s (Some x) = refl

transform-tees : (t : TransformId) (operation : TransformOperation) (s : Slots) (o : Option transform.Slots)
    → (on_transform_at (λ halves. transform_operation t halves operation) t s o).slots.tees ≡ s.tees
transform-tees t operation s None = refl
transform-tees t operation s (Some x) = refl

pipe-tees : (p : PipeId) (operation : PipeOperation) (s : Slots) (o : Option pipe.Slots)
    → (on_pipe_at (λ ends. pipe_operation p ends operation) p s o).slots.tees ≡ s.tees
pipe-tees p operation s None = refl
pipe-tees p operation s (Some x) = refl

port-tees : (c : PortId) (operation : PortOperation) (s : Slots) (o : Option cross.Slots)
    → (on_port_at (λ clones. port_operation c clones operation) c s o).slots.tees ≡ s.tees
port-tees c operation s None = refl
port-tees c operation s (Some x) = refl

pub row-tees : (e : Effect) (s : Slots) → IsNoTee e → (row e s).slots.tees ≡ s.tees
unfolding row call_host
row-tees (Readable i operation) s n = source-leaves (λ z. z.tees) (λ z x o. refl) i operation s
row-tees (Byte i operation) s n = byte-leaves (λ z. z.tees) (λ z x o. refl) i operation s
row-tees (Writable i operation) s n =
    either (λ (d : Done). d.slots.tees ≡ s.tees) (has_writable i s) (put_writable i s (writable_operation i operation (writable_acts i s))) (nothing s) (λ e. refl) (λ e. refl)
row-tees (Pipe p operation) s n = pipe-tees p operation s (slice_get s.pipes p.0)
row-tees (Signal a operation) s n = signal-tees a operation s (slice_get s.signals a.0)
row-tees (Transform t operation) s n = transform-tees t operation s (slice_get s.transforms t.0)
row-tees (Tee t operation) s n = absurd n
row-tees (Port c operation) s n = port-tees c operation s (slice_get s.ports c.0)
row-tees (StartAlgorithm i step Now) s n = refl
row-tees (StartAlgorithm i step Later) s n = refl
row-tees (ChunkSteps i (Promise p) v) s n = refl
row-tees (CloseSteps i (Promise p)) s n = refl
row-tees (ErrorSteps i (Promise p) e) s n = refl
row-tees (ChunkSteps i (PipeRequest p) v) s n = refl
row-tees (ChunkSteps i (TeeRequest t) v) s n = refl
row-tees (CloseSteps i (PipeRequest p)) s n = refl
row-tees (CloseSteps i (TeeRequest t)) s n = refl
row-tees (CloseStepsWith i (Promise p) b) s n = refl
row-tees (CloseStepsWith i (PipeRequest p) b) s n = refl
row-tees (CloseStepsWith i (TeeRequest t) b) s n = refl
row-tees (ErrorSteps i (PipeRequest p) e) s n = refl
row-tees (ErrorSteps i (TeeRequest t) e) s n = refl
row-tees _ s n = refl

-- other effects than operations of ports leave the ports

abbrev pub IsNoPort : Effect → Type 0
IsNoPort (Port c operation) = ⊥
IsNoPort _ = Unit {0}

signal-ports : (a : SignalId) (operation : SignalOperation) (s : Slots) (o : Option pipe.Signal)
    → (on_signal_at (signal_operation operation) a s o).slots.ports ≡ s.ports
signal-ports a operation s None = refl
signal-ports a operation s (Some x) = refl

transform-ports : (t : TransformId) (operation : TransformOperation) (s : Slots) (o : Option transform.Slots)
    → (on_transform_at (λ halves. transform_operation t halves operation) t s o).slots.ports ≡ s.ports
transform-ports t operation s None = refl
transform-ports t operation s (Some x) = refl

pipe-ports : (p : PipeId) (operation : PipeOperation) (s : Slots) (o : Option pipe.Slots)
    → (on_pipe_at (λ ends. pipe_operation p ends operation) p s o).slots.ports ≡ s.ports
pipe-ports p operation s None = refl
pipe-ports p operation s (Some x) = refl

tee-ports : (t : TeeId) (operation : TeeOperation) (s : Slots) (o : Option tee.Slots)
    → (on_tee_at (tee_operation t operation) t s o).slots.ports ≡ s.ports
tee-ports t operation s None = refl
tee-ports t operation s (Some x) = refl

pub row-ports : (e : Effect) (s : Slots) → IsNoPort e → (row e s).slots.ports ≡ s.ports
unfolding row call_host
row-ports (Readable i operation) s n = source-leaves (λ z. z.ports) (λ z x o. refl) i operation s
row-ports (Byte i operation) s n = byte-leaves (λ z. z.ports) (λ z x o. refl) i operation s
row-ports (Writable i operation) s n =
    either (λ (d : Done). d.slots.ports ≡ s.ports) (has_writable i s) (put_writable i s (writable_operation i operation (writable_acts i s))) (nothing s) (λ e. refl) (λ e. refl)
row-ports (Pipe p operation) s n = pipe-ports p operation s (slice_get s.pipes p.0)
row-ports (Signal a operation) s n = signal-ports a operation s (slice_get s.signals a.0)
row-ports (Transform t operation) s n = transform-ports t operation s (slice_get s.transforms t.0)
row-ports (Tee t operation) s n = tee-ports t operation s (slice_get s.tees t.0)
row-ports (Port c operation) s n = absurd n
row-ports (StartAlgorithm i step Now) s n = refl
row-ports (StartAlgorithm i step Later) s n = refl
row-ports (ChunkSteps i (Promise p) v) s n = refl
row-ports (CloseSteps i (Promise p)) s n = refl
row-ports (ErrorSteps i (Promise p) e) s n = refl
row-ports (ChunkSteps i (PipeRequest p) v) s n = refl
row-ports (ChunkSteps i (TeeRequest t) v) s n = refl
row-ports (CloseSteps i (PipeRequest p)) s n = refl
row-ports (CloseSteps i (TeeRequest t)) s n = refl
row-ports (CloseStepsWith i (Promise p) b) s n = refl
row-ports (CloseStepsWith i (PipeRequest p) b) s n = refl
row-ports (CloseStepsWith i (TeeRequest t) b) s n = refl
row-ports (ErrorSteps i (PipeRequest p) e) s n = refl
row-ports (ErrorSteps i (TeeRequest t) e) s n = refl
row-ports _ s n = refl
