-- One link: a pipe from a readable stream to a writable stream, and what lies on it, oldest first, told with a mark. Each end is the host's
-- own, or a half of a transform stream whose algorithms are the host's. The source may have a controller of either kind.
use Rattle.std.specs.Prelude.{Bool, true, false, not, ◌&&◌, is_some, nat_eq, if◌then◌else◌, List, [], ◌∷◌, Option, Some, None, Ok}
use Rattle.ws_value.specs.declared.ids.PipeId.{PipeId}
use Rattle.ws_value.specs.declared.ids.PortId.{PortId}
use Rattle.ws_value.specs.declared.ids.StreamId.{StreamId}
use Rattle.ws_value.specs.declared.value.Message.{Message}
use Rattle.ws_value.specs.declared.value.Message.TheVariants.{Pull, Chunk as ChunkMessage, Close as CloseMessage, Error as ErrorMessage}
use Rattle.ws_value.specs.declared.value.Value.{Value}
use Rattle.ws_value.specs.declared.value.Value.TheVariants.{Plain as PlainValue, Bytes}
use Rattle.ws_steps.specs.declared.calls.Call.{Call}
use Rattle.ws_steps.specs.declared.calls.Call.TheVariants.{GetReader, GetByob, GetWriter, Tee, Cancel, Close, Abort, Enqueue, Finish, Fail, Terminate, Pipe, Send, Deliver}
use Rattle.ws_steps.specs.declared.calls.Event.{Event}
use Rattle.ws_steps.specs.declared.calls.Event.TheVariants.{Host as HostCalled, Post}
use Rattle.ws_steps.specs.declared.calls.HostCall.{HostCall}
use Rattle.ws_steps.specs.declared.calls.HostCall.TheVariants.{Write as HostWrite, Close as HostClose, Transform as HostTransform, Flush as HostFlush}
use Rattle.ws_steps.specs.declared.effects.Owner.{Owner}
use Rattle.ws_steps.specs.declared.effects.Owner.TheVariants.{Host, HalfOf, BranchOf, EndOf}
use Rattle.ws_steps.specs.declared.pipes.Phase.{Phase}
use Rattle.ws_steps.specs.declared.pipes.Phase.TheVariants.{Flowing, Waiting, Acting, Over}
use Rattle.ws_steps.specs.declared.promises.Job.{Job}
use Rattle.ws_steps.specs.declared.promises.Job.TheVariants.{Reaction}
use Rattle.ws_steps.specs.declared.promises.Step.TheVariants.{TransformFlushed}
use Rattle.ws_steps.specs.declared.queue.Queued.{Queued}
use Rattle.ws_steps.specs.declared.readable.ReadableState.{ReadableState}
use Rattle.ws_steps.specs.declared.readable.ReadableState.TheVariants.{Readable, Closed as ReadableClosed, Errored as ReadableErrored}
use Rattle.ws_steps.specs.declared.transform.TransformId.{TransformId}
use Rattle.ws_steps.specs.declared.writable.WritableState.{WritableState}
use Rattle.ws_steps.specs.declared.writable.WritableState.TheVariants.{Writable, Erroring, Errored as WritableErrored, Closed as WritableClosed}
use Rattle.ws_steps.specs.declared.writable.WriteRecord.{WriteRecord}
use Rattle.ws_steps.specs.declared.writable.WriteRecord.TheVariants.{Chunk, InFlight, CloseMark}
use Rattle.ws_steps.specs.Histories.{is_same}
use Rattle.ws_steps.specs.Pipes as pipe
use Rattle.ws_steps.specs.PortHistory.{is_same_port}
use Rattle.ws_steps.specs.Readable as readable
use Rattle.ws_steps.specs.Writable as writable
use Rattle.ws_steps.specs.Slots.{Slots, has_byte, owner_at, source_at, writable_at, transform_at, pipe_at}
use Rattle.ws_flow.specs.Told.{Mark, Open, Closed, Lost, Told, told, then_told}

-- nothing was told, and more may come
abbrev pub silence : Told Value
silence = told [] Open

-- in the destination

-- the queue from its first record on: a chunk is told, the place of one that was handed on isn't, and a close mark ends it
abbrev pub before_todo : WriteRecord → Told Value → Told Value
before_todo (Chunk v) t = told (v ∷ t.items) t.mark
before_todo InFlight t = t
before_todo CloseMark t = told [] Closed

abbrev pub todo_of : List (Queued WriteRecord) → Told Value
todo_of [] = silence
todo_of (q ∷ qs) = before_todo q.value (todo_of qs)

-- by the state, and by whether a close is in flight: one in flight ends all, and an erroring stream loses what isn't handed on
abbrev pub sink_by : WritableState → Bool → Told Value → Told Value
sink_by WritableClosed closing t = told [] Closed
sink_by WritableErrored closing t = told [] Lost
sink_by Writable true t = told [] Closed
sink_by Erroring true t = told [] Closed
sink_by Writable false t = t
sink_by Erroring false t = told t.items Lost

-- what is in a writable stream: the chunks that aren't handed on, and how they end
abbrev pub in_sink : writable.Slots → Told Value
in_sink w = sink_by w.state (is_some w.close_in_flight) (todo_of w.queue)

-- in the source

abbrev pub values : List (Queued Value) → List Value
values [] = []
values (q ∷ qs) = q.value ∷ values qs

abbrev pub closing_mark : Bool → Mark
closing_mark true = Closed
closing_mark false = Open

abbrev pub source_by : ReadableState → Bool → List Value → Told Value
source_by Readable requested vs = told vs (closing_mark requested)
source_by ReadableClosed requested vs = told [] Closed
source_by ReadableErrored requested vs = told [] Lost

-- what is in a readable stream: the chunks of its queue, all where a close was requested
abbrev pub in_source : readable.Slots → Told Value
in_source r = source_by r.state r.close_requested (values r.queue)

-- in the pipe

abbrev pub held_items : Option Value → List Value
held_items None = []
held_items (Some v) = v ∷ []

-- first what the pipe holds, and then t; once it acts it passes nothing on
abbrev pub piped_by : Phase → Option Value → Told Value → Told Value
piped_by Flowing held t = then_told (told (held_items held) Open) t
piped_by Waiting held t = then_told (told (held_items held) Open) t
piped_by Acting held t = told [] Lost
piped_by Over held t = told [] Lost

abbrev pub in_pipe : pipe.Slots → Told Value → Told Value
in_pipe x t = piped_by x.phase x.held t

-- what lies on the link of pipe p from stream i to stream j, oldest first: in the destination, in the pipe, in the source
abbrev pub lies : StreamId → StreamId → PipeId → Slots → Told Value
lies i j p s = then_told (in_sink (writable_at j s)) (in_pipe (pipe_at p s) (in_source (source_at i s)))

-- what the host hears

-- by what the host hears of a destination: by the write and the close algorithm of this sink, by the transform and the flush algorithm of this
-- transform stream, which name its readable half, or by the chunks and the close that this port posts
pub data Ear : Type 0 where
  OfSink : StreamId → Ear
  OfTransform : TransformId → StreamId → Ear
  OfPort : PortId → Ear

abbrev pub ear_by : StreamId → Slots → Owner → Ear
ear_by j s Host = OfSink j
ear_by j s (HalfOf t) = OfTransform t (transform_at t s).readable
ear_by j s (BranchOf t half) = OfSink j
ear_by j s (EndOf c) = OfPort c

-- of stream j
abbrev pub ear_at : StreamId → Slots → Ear
ear_at j s = ear_by j s (owner_at j s)

abbrev pub is_sink : Ear → StreamId → Bool
is_sink (OfSink j) k = is_same j k
is_sink (OfTransform t r) k = false
is_sink (OfPort c) k = false

abbrev pub is_half : Ear → StreamId → Bool
is_half (OfSink j) k = false
is_half (OfTransform t r) k = is_same r k
is_half (OfPort c) k = false

abbrev pub is_port : Ear → PortId → Bool
is_port (OfSink j) d = false
is_port (OfTransform t r) d = false
is_port (OfPort c) d = is_same_port c d

abbrev pub heard_call : Ear → HostCall → Told Value
heard_call w (HostWrite k v) = if is_sink w k then told (v ∷ []) Open else silence
heard_call w (HostClose k) = if is_sink w k then told [] Closed else silence
heard_call w (HostTransform k v) = if is_half w k then told (v ∷ []) Open else silence
heard_call w (HostFlush k) = if is_half w k then told [] Closed else silence
heard_call w _ = silence

abbrev pub heard_post : Message → Told Value
heard_post Pull = silence
heard_post (ChunkMessage v) = told (v ∷ []) Open
heard_post CloseMessage = told [] Closed
heard_post (ErrorMessage r) = silence

-- what an event tells of a destination: a chunk that is written, transformed or posted, or the close or the flush
abbrev pub heard_of : Ear → Event → Told Value
heard_of w (HostCalled id call) = heard_call w call
heard_of w (Post d m) = if is_port w d then heard_post m else silence
heard_of w _ = silence

-- what the events tell that the host hasn't taken
abbrev pub unheard : Ear → List Event → Told Value
unheard w [] = silence
unheard w (e ∷ es) = then_told (heard_of w e) (unheard w es)

-- what is behind the host: what it hasn't heard yet, and then what lies on the link
abbrev pub behind : StreamId → StreamId → PipeId → Slots → Told Value
behind i j p s = then_told (unheard (ear_at j s) s.promises.events) (lies i j p s)

-- calls

-- by what chunks come to a source: by a source of the host's own, with a default controller or with a byte controller, by this transform
-- stream, or by this port
pub data Giver : Type 0 where
  OfSource : Giver
  OfByteSource : Giver
  OfHalf : TransformId → Giver
  OfEnd : PortId → Giver

abbrev pub giver_by : Bool → Owner → Giver
giver_by true o = OfByteSource
giver_by false Host = OfSource
giver_by false (HalfOf t) = OfHalf t
giver_by false (BranchOf t half) = OfSource
giver_by false (EndOf c) = OfEnd c

-- to stream i
abbrev pub giver_at : StreamId → Slots → Giver
giver_at i s = giver_by (has_byte i s) (owner_at i s)

-- a chunk that is enqueued is let in; but a byte controller lets in bytes alone, and some, and no host enqueues at the end of a port
abbrev pub lets_in : Giver → Value → Told Value
lets_in OfSource v = told (v ∷ []) Open
lets_in OfByteSource (PlainValue v) = silence
lets_in OfByteSource (Bytes []) = silence
lets_in OfByteSource (Bytes (n ∷ ns)) = told (Bytes (n ∷ ns) ∷ []) Open
lets_in (OfHalf t) v = told (v ∷ []) Open
lets_in (OfEnd c) v = silence

abbrev pub is_end : Giver → PortId → Bool
is_end OfSource d = false
is_end OfByteSource d = false
is_end (OfHalf t) d = false
is_end (OfEnd c) d = is_same_port c d

-- what a message that is delivered brings to a source: a chunk, or the end
abbrev pub delivered : Message → Told Value
delivered Pull = silence
delivered (ChunkMessage v) = told (v ∷ []) Open
delivered CloseMessage = told [] Closed
delivered (ErrorMessage r) = silence

-- what a call brings to stream i: a chunk that is enqueued or delivered, or the end. The host finishes a stream of its own, terminates a
-- transform stream, and delivers a close. What is delivered to a port that isn't entangled comes behind the end of its stream
abbrev pub enters : Giver → StreamId → Call → Told Value
enters g i (Enqueue k v) = if is_same i k then lets_in g v else silence
enters OfSource i (Finish k) = if is_same i k then told [] Closed else silence
enters OfByteSource i (Finish k) = if is_same i k then told [] Closed else silence
enters (OfHalf t) i (Terminate k) = if is_same i k then told [] Closed else silence
enters (OfEnd c) i (Deliver d m) = if is_same_port c d then delivered m else silence
enters g i _ = silence

-- what a job brings to a stream: the end, where it is the reaction to the flush algorithm of its transform stream, which went well
abbrev pub half_enters : TransformId → Job → Told Value
half_enters t (Reaction (TransformFlushed k p) (Ok v) derived) = if nat_eq t.0 k.0 then told [] Closed else silence
half_enters t _ = silence

abbrev pub job_enters : Giver → Job → Told Value
job_enters OfSource job = silence
job_enters OfByteSource job = silence
job_enters (OfHalf t) job = half_enters t job
job_enters (OfEnd c) job = silence

abbrev pub next_enters : Giver → Option Job → Told Value
next_enters g None = silence
next_enters g (Some job) = job_enters g job

-- whether a call leaves the link alone: all do but those by number that lock, cancel, close, abort, fail or send one of its ends, or pipe from
-- or to one of them. What the host does to the source is its own: it enqueues, finishes or terminates, and fails; so is what it does to the
-- other half where an end is a half of a transform stream, and so is each message that it delivers where an end is the end of a port
abbrev pub leaves : StreamId → StreamId → Call → Bool
leaves i j (GetReader k) = not (is_same i k)
leaves i j (GetByob k) = not (is_same i k)
leaves i j (Tee k) = not (is_same i k)
leaves i j (Cancel k reason) = not (is_same i k)
leaves i j (GetWriter k) = not (is_same j k)
leaves i j (Close k) = not (is_same j k)
leaves i j (Abort k reason) = not (is_same j k)
leaves i j (Fail k reason) = not (is_same j k)
leaves i j (Pipe source dest prevent signal) = not (is_same i source) && not (is_same j dest)
leaves i j (Send k) = not (is_same i k) && not (is_same j k)
leaves i j _ = true
