-- The calls on pipes and signals, and on ports.
use Rattle.std.specs.Prelude.{false, if◌then◌else◌, List, [], ◌∷◌, ◌++◌, length, Option, Some, None}
use Rattle.ws_value.specs.declared.ids.PipeId.{PipeId}
use Rattle.ws_value.specs.declared.ids.PortId.{PortId}
use Rattle.ws_value.specs.declared.ids.PromiseId.{PromiseId}
use Rattle.ws_value.specs.declared.ids.SignalId.{SignalId}
use Rattle.ws_value.specs.declared.ids.StreamId.{StreamId}
use Rattle.ws_value.specs.declared.value.Plain.{Plain}
use Rattle.ws_steps.specs.declared.calls.Reply.TheVariants.{Promise, Signal as ReplySignal, Port as ReplyPort, MadePort}
use Rattle.ws_steps.specs.declared.calls.StartBy.TheVariants.{Now}
use Rattle.ws_steps.specs.declared.effects.Effect.{Effect}
use Rattle.ws_steps.specs.declared.effects.Effect.TheVariants.{Readable, Writable, Pipe as OnPipe, Signal as OnSignal, StartAlgorithm, Queue}
use Rattle.ws_steps.specs.declared.effects.Owner.TheVariants.{EndOf}
use Rattle.ws_steps.specs.declared.locks.Lock.TheVariants.{Inner}
use Rattle.ws_steps.specs.declared.readable.ReadableOperation.TheVariants.{InitializeReader, Disturb}
use Rattle.ws_steps.specs.declared.pipes.PipeOperation.TheVariants.{Abort as AbortPipe}
use Rattle.ws_steps.specs.declared.pipes.Prevent.{Prevent}
use Rattle.ws_steps.specs.declared.pipes.SignalOperation.TheVariants.{Add as AddPipe}
use Rattle.ws_steps.specs.declared.port.Side.{Side}
use Rattle.ws_steps.specs.declared.port.Side.TheVariants.{Readable as ReadableSide, Writable as WritableSide}
use Rattle.ws_steps.specs.declared.promises.Micro.TheVariants.{PipeLook}
use Rattle.ws_steps.specs.declared.promises.Step.TheVariants.{ReadableStart, WritableStart, PipeEnds}
use Rattle.ws_steps.specs.declared.readable.SizeBy.TheVariants.{Count}
use Rattle.ws_steps.specs.declared.writable.WritableOperation.TheVariants.{SetUpWriter}
use Rattle.ws_steps.specs.declared.writable.Writer.{Writer}
use Rattle.ws_steps.specs.Promises.{Table, next_id, fresh}
use Rattle.ws_steps.specs.Cross as cross
use Rattle.ws_steps.specs.Pipes as pipe
use Rattle.ws_steps.specs.Readable as readable
use Rattle.ws_steps.specs.ReadableLooks as readable_looks
use Rattle.ws_steps.specs.Writable as writable
use Rattle.ws_steps.specs.WritableLooks as writable_looks
use Rattle.ws_steps.specs.Slots.{Slots, Stream, ReadableStream, WritableStream, nothing, causes, has_source, source_at, writable_at, signal_at, has_signal}
use Rattle.ws_steps.specs.Begun.{Begun, unsupported, throws_data_clone, begun, rejected, for_source, for_writable, unlocked_readable, unlocked_writable}
use Rattle.ws_steps.specs.MakingCalls.{add_stream, make_stream}

-- pipes and signals

-- a call on a signal, where there is one of this number
abbrev pub for_signal : SignalId → (Slots → Begun) → Slots → Begun
for_signal a operation s = if has_signal a s then operation s else unsupported s

abbrev pub for_signal_where : Option SignalId → (Slots → Begun) → Slots → Begun
for_signal_where None operation s = operation s
for_signal_where (Some a) operation s = for_signal a operation s

-- the reason of the signal, where there is one that was triggered
abbrev pub reason_of : Option SignalId → Slots → Option Plain
reason_of None s = None
reason_of (Some a) s = (signal_at a s).reason

abbrev pub adding : PipeId → Option SignalId → List Effect
adding me None = []
adding me (Some a) = OnSignal a (AddPipe me) ∷ []

-- a pipe whose signal was triggered is aborted at once. Else it is added to its signal, reacts to the closed promises of its reader and of
-- its writer, and a microtask looks
abbrev pub pipe_begins : PipeId → PromiseId → PromiseId → Option SignalId → Option Plain → List Effect
pipe_begins me reader_closed writer_closed signal (Some r) = OnPipe me (AbortPipe r) ∷ []
pipe_begins me reader_closed writer_closed signal None =
    adding me signal
    ++ (pipe.reacts reader_closed (PipeEnds me) ∷ pipe.reacts writer_closed (PipeEnds me) ∷ Queue (PipeLook me) ∷ [])

-- ReadableStreamPipeTo: a reader and a writer of the pipe's own take the two streams, the source is disturbed, and the pipe begins. The
-- promise that is answered is the pipe's
abbrev pub pipe_to : StreamId → StreamId → Prevent → Option SignalId → Slots → Begun
pipe_to source dest prevent signal s =
    let t : Table = s.promises in
    let closed : PromiseId = next_id t in
    let w : Writer = record { ready = next_id (fresh t); closed = next_id (fresh (fresh t)) } in
    let promise : PromiseId = next_id (fresh (fresh (fresh t))) in
    let me : PipeId = record { 0 = length s.pipes } in
    begun (Promise promise)
    (causes
    (Readable source (InitializeReader closed)
    ∷ Writable dest (SetUpWriter w)
    ∷ Readable source Disturb
    ∷ pipe_begins me closed w.closed signal (reason_of signal s))
    (record s {
      pipes = s.pipes ++ pipe.set_up source dest prevent signal promise ∷ [];
      locks = s.locks ++ Inner ∷ Inner ∷ [];
      promises = fresh (fresh (fresh (fresh t)));
    }))

-- the ends are unlocked, the source first
abbrev pub pipe_unlocked : StreamId → StreamId → Prevent → Option SignalId → Slots → Begun
pipe_unlocked source dest prevent signal s =
    if readable_looks.is_locked (source_at source s) then rejected s
    else if writable_looks.is_locked (writable_at dest s) then rejected s
    else pipe_to source dest prevent signal s

abbrev pub pipe_call : StreamId → StreamId → Prevent → Option SignalId → Slots → Begun
pipe_call source dest prevent signal s =
    for_source source (for_writable dest (for_signal_where signal (pipe_unlocked source dest prevent signal))) s

abbrev pub make_signal : Slots → Begun
make_signal s = begun (ReplySignal (record { 0 = length s.signals })) (nothing (record s { signals = s.signals ++ pipe.new_signal ∷ [] }))

-- ports

-- the stream at this end of port c, which counts its chunks: a readable one with the mark 0, or a writable one with the mark 1
abbrev pub end_of : PortId → Side → Stream
end_of c ReadableSide = ReadableStream (readable.set_up (EndOf c) 0 Count)
end_of c WritableSide = WritableStream (writable.set_up (EndOf c) 1 Count)

-- its start algorithm gives undefined
abbrev pub start_end : StreamId → Side → Effect
start_end i ReadableSide = StartAlgorithm i (ReadableStart i) Now
start_end i WritableSide = StartAlgorithm i (WritableStart i) Now

-- a new port with the new stream i. The backpressure promise of a writable end is new
abbrev pub add_port : StreamId → Slots → Side → Slots
add_port i s ReadableSide =
    record (add_stream (end_of (record { 0 = length s.ports }) ReadableSide) s) { ports = s.ports ++ cross.set_up ReadableSide i None ∷ [] }
add_port i s WritableSide =
    record (add_stream (end_of (record { 0 = length s.ports }) WritableSide) s) {
      ports = s.ports ++ cross.set_up WritableSide i (Some (next_id s.promises)) ∷ [];
      promises = fresh s.promises;
    }

-- SetUpCrossRealmTransformReadable, SetUpCrossRealmTransformWritable
abbrev pub open_end : Side → StreamId → Slots → Begun
open_end side i s = begun (MadePort i (record { 0 = length s.ports })) (causes (start_end i side ∷ []) (add_port i s side))

abbrev pub no_prevent : Prevent
no_prevent = record { close = false; abort = false; cancel = false }

-- the end of a new port is set up, and then a pipe begins
abbrev pub sent_by : StreamId → Side → Slots → Begun → Begun
sent_by i side s piped =
    begun (ReplyPort (record { 0 = length s.ports })) (record piped.done { caused = start_end i side ∷ piped.done.caused })

-- the transfer steps of a readable stream: a pipe from it into a writable stream i at the end of a new port
abbrev pub send_readable : StreamId → StreamId → Slots → Begun
send_readable source i s = sent_by i WritableSide s (pipe_to source i no_prevent None (add_port i s WritableSide))

-- the transfer steps of a writable stream: a pipe into it from a readable stream i at the end of a new port
abbrev pub send_writable : StreamId → StreamId → Slots → Begun
send_writable dest i s = sent_by i ReadableSide s (pipe_to i dest no_prevent None (add_port i s ReadableSide))

abbrev pub send : StreamId → Slots → Begun
send i s =
    if has_source i s
    then unlocked_readable i throws_data_clone (λ source. make_stream (send_readable source)) s
    else unlocked_writable i throws_data_clone (λ dest. make_stream (send_writable dest)) s
