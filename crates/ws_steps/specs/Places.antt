-- What an effect may take, with all that comes of it: so many turns, and so many places of each kind in memory. A price list says what
-- one of each costs; what is said for every price list is said of each kind.
use Rattle.std.specs.Prelude.{ℕ, ◌+◌, ◌*◌, ◌≡◌, ◌≤◌, Bool, true, false, nat_eq, if◌then◌else◌, List, [], ◌∷◌, length, Option, Some, None, slice_get}
use Rattle.ws_value.specs.declared.ids.PipeId.{PipeId}
use Rattle.ws_value.specs.declared.ids.SignalId.{SignalId}
use Rattle.ws_value.specs.declared.ids.StreamId.{StreamId}
use Rattle.ws_value.specs.declared.value.Plain.{Plain}
use Rattle.ws_value.specs.declared.value.Outcome.{Outcome}
use Rattle.ws_value.specs.declared.value.Outcome.TheVariants.{Pending, Fulfilled, Given, Finished, Rejected}
use Rattle.ws_steps.specs.declared.byte.ByteOperation.{ByteOperation}
use Rattle.ws_steps.specs.declared.byte.ByteOperation.TheVariants.{InitializeByobReader, Enqueue as EnqueueBytes, PullInto, MakeRequest, Respond}
use Rattle.ws_steps.specs.declared.calls.StartBy.{StartBy}
use Rattle.ws_steps.specs.declared.calls.StartBy.TheVariants.{Now, Later}
use Rattle.ws_steps.specs.declared.effects.Effect.{Effect}
use Rattle.ws_steps.specs.declared.effects.Effect.TheVariants.{Readable, Byte, Writable, Pipe, Signal, Transform, Tee, Port, StartAlgorithm, PullAlgorithm, CancelAlgorithm, WriteAlgorithm, CloseAlgorithm, AbortAlgorithm, ChunkSteps, CloseSteps, CloseStepsWith, ErrorSteps, Give, Settle, Queue, CallHost}
use Rattle.ws_steps.specs.declared.effects.Gift.{Gift}
use Rattle.ws_steps.specs.declared.effects.Gift.TheVariants.{This, Fresh}
use Rattle.ws_steps.specs.declared.pipes.PipeOperation.{PipeOperation}
use Rattle.ws_steps.specs.declared.pipes.PipeOperation.TheVariants.{Look, LookReady, KeepChunk, ReadEnded, WriteChunk, GoOn, WriteEnded, Abort as AbortPipe, ActionSettled, PartSettled, NoParts}
use Rattle.ws_steps.specs.declared.pipes.SignalOperation.{SignalOperation}
use Rattle.ws_steps.specs.declared.pipes.SignalOperation.TheVariants.{Add, Forget, Trigger}
use Rattle.ws_steps.specs.declared.port.PortOperation.{PortOperation}
use Rattle.ws_steps.specs.declared.port.PortOperation.TheVariants.{Pull, Leave, Write as WriteByPort, WriteGoesOn as PortGoesOn, PostChunk, Close as CloseByPort, Deliver, Unblock as UnblockPort}
use Rattle.ws_steps.specs.declared.readable.ReadRequest.{ReadRequest}
use Rattle.ws_steps.specs.declared.readable.ReadRequest.TheVariants.{Promise, Pipe as PipeRequest, Tee as TeeRequest}
use Rattle.ws_steps.specs.declared.readable.ReadableOperation.{ReadableOperation}
use Rattle.ws_steps.specs.declared.readable.ReadableOperation.TheVariants.{InitializeReader, ReleaseReader, Disturb, Read, Cancel, CancelIfReadable, Enqueue, Close, Error, StartSettled, PullSettled}
use Rattle.ws_steps.specs.declared.tee.TeeOperation.{TeeOperation}
use Rattle.ws_steps.specs.declared.tee.TeeOperation.TheVariants.{PullBranch, KeepChunk as KeepByTee, SourceClosed, SourceErrored, HandChunk, Handed, CancelBranch, ReaderSettled}
use Rattle.ws_steps.specs.declared.tee.TeePhase.{TeePhase}
use Rattle.ws_steps.specs.declared.tee.TeePhase.TheVariants.{Resting, Reading, Over}
use Rattle.ws_steps.specs.declared.transform.Taker.{Taker}
use Rattle.ws_steps.specs.declared.transform.Taker.TheVariants.{ToHost, ToTransform, ToPort}
use Rattle.ws_steps.specs.declared.transform.TransformOperation.{TransformOperation}
use Rattle.ws_steps.specs.declared.transform.TransformOperation.TheVariants.{SinkWrite, WriteGoesOn, TransformChunk, Enqueue as EnqueueByTransform, Enqueued, Error as ErrorTransform, Unblock, Terminate, SourcePull, SinkClose, SinkAbort, SourceCancel, FlushSettled, AbortSettled as SinkAbortSettled, CancelSettled}
use Rattle.ws_steps.specs.declared.writable.WritableOperation.{WritableOperation}
use Rattle.ws_steps.specs.declared.writable.WritableOperation.TheVariants.{SetUpWriter, ReleaseWriter, Write, Close as CloseWritable, ClosePropagating, Abort, AbortIfWritable, ErrorIfNeeded, HandOn, StartSettled as WritableStartSettled, WriteSettled, CloseSettled, AbortSettled}
use Rattle.ws_steps.specs.Pipes as pipe
use Rattle.ws_steps.specs.Promises.{Entry, Table}
use Rattle.ws_steps.specs.Slots.{Slots, Stream, ReadableStream, ByteStream, WritableStream}
use Rattle.ws_steps.specs.Tee as tee

-- the prices of a turn, a promise, a job or a reaction, an event, a host's number, an entry in the queue of a stream, one in the list of
-- its read or write requests, a pipe in the list of a signal, a descriptor of a byte stream, and the second copy of a chunk that a tee hands
-- to its branches. A read request of a tee has the price of the stream where it is asked: so the requests of one stream can be counted alone
pub record Prices : Type 0 where
  pub turn : ℕ
  pub promise : ℕ
  pub job : ℕ
  pub event : ℕ
  pub host : ℕ
  pub queued : ℕ
  pub request : ℕ
  pub member : ℕ
  pub descriptor : ℕ
  pub copy : ℕ
  pub reads : StreamId → ℕ

-- the price of so many of each: its seven numbers, here and in each line below, are turns, promises, jobs, events, host's numbers, queued
-- entries and requests, in this order
abbrev pub price : Prices → ℕ → ℕ → ℕ → ℕ → ℕ → ℕ → ℕ → ℕ
price π t p j e h q r = t * π.turn + p * π.promise + j * π.job + e * π.event + h * π.host + q * π.queued + r * π.request

-- so much for each
abbrev pub each : {A : Type 0} → ℕ → List A → ℕ
each c [] = 0
each c (x ∷ xs) = c + each c xs

-- the price of a request of a tee at stream i is that of any request, and at another stream no more
pub record Counts (π : Prices) (i : StreamId) : Type 0 where
  pub here : π.reads i ≡ π.request
  pub others : (j : StreamId) → π.reads j ≤ π.request

-- what an effect may take, with all that comes of it

abbrev pub gift_price : Prices → Gift → ℕ
gift_price π (This p) = price π 1 0 1 0 0 0 0
gift_price π (Fresh outcome) = price π 1 1 1 0 0 0 0

abbrev pub start_price : Prices → StartBy → ℕ
start_price π Now = price π 2 1 1 0 0 0 0
start_price π Later = price π 3 2 2 1 1 0 0

-- a read of stream i by a tee, which has a default controller
abbrev pub tee_read : Prices → StreamId → ℕ
tee_read π i = price π 6 1 2 1 1 0 0 + π.reads i

-- a read of stream i
abbrev pub read_price : Prices → StreamId → ReadRequest → ℕ
read_price π i (Promise p) = price π 6 1 2 1 1 1 1 + π.descriptor
read_price π i (PipeRequest p) = price π 6 1 2 1 1 1 1 + π.descriptor
read_price π i (TeeRequest t) = tee_read π i

abbrev pub readable_price : Prices → StreamId → ReadableOperation → ℕ
readable_price π i (InitializeReader closed) = price π 1 0 0 0 0 0 0
readable_price π i ReleaseReader = price π 1 0 0 0 0 0 0
readable_price π i Disturb = price π 1 0 0 0 0 0 0
readable_price π i (Read request) = read_price π i request
readable_price π i (Cancel r p) = price π 5 2 2 1 1 0 0
readable_price π i (CancelIfReadable r p) = price π 5 2 2 1 1 0 0
readable_price π i (Enqueue v) = price π 4 1 1 1 1 1 0
readable_price π i Close = price π 1 0 0 0 0 0 0
readable_price π i (Error e) = price π 1 0 0 0 0 0 0
readable_price π i (StartSettled outcome) = price π 4 1 1 1 1 0 0
readable_price π i (PullSettled outcome) = price π 4 1 1 1 1 0 0

-- a descriptor keeps the price of an entry, for its bytes may go to the queue
abbrev pub byte_price : Prices → ByteOperation → ℕ
byte_price π (InitializeByobReader closed) = price π 1 0 0 0 0 0 0
byte_price π (EnqueueBytes b) = price π 4 1 1 1 1 1 0
byte_price π (PullInto room element minimum request) = price π 6 1 2 1 1 1 1 + π.descriptor
byte_price π (MakeRequest q) = price π 1 0 0 0 0 0 0
byte_price π (Respond b) = price π 4 1 1 1 1 1 0

-- of who takes a chunk that is handed on: a call of the host's algorithm, a transform, which may enqueue into its readable half, or a port
abbrev pub taker_price : Prices → Taker → ℕ
taker_price π ToHost = price π 1 1 1 1 1 0 0
taker_price π (ToTransform t d) = price π 7 3 2 1 1 1 0
taker_price π (ToPort c d) = price π 2 1 1 1 0 0 0

abbrev pub writable_price : Prices → WritableOperation → ℕ
writable_price π (SetUpWriter w) = price π 1 0 0 0 0 0 0
writable_price π ReleaseWriter = price π 1 0 0 0 0 0 0
writable_price π (Write v p) = price π 12 5 3 1 1 2 1
writable_price π (CloseWritable p) = price π 12 4 3 1 1 2 0
writable_price π (ClosePropagating p) = price π 12 4 3 1 1 2 0
writable_price π (Abort r p) = price π 5 3 2 2 1 0 0
writable_price π (AbortIfWritable r p) = price π 5 3 2 2 1 0 0
writable_price π (ErrorIfNeeded e) = price π 5 3 2 1 1 0 0
writable_price π (HandOn taker) = price π 1 0 0 0 0 0 0 + taker_price π taker
writable_price π (WritableStartSettled outcome) = price π 12 5 3 1 1 1 0
writable_price π (WriteSettled outcome) = price π 12 5 3 1 1 1 0
writable_price π (CloseSettled outcome) = price π 5 3 2 1 1 0 0
writable_price π (AbortSettled p outcome) = price π 1 0 0 0 0 0 0

-- a look of a pipe, which may read, wait, or shut down with all that its action does
abbrev pub look_price : Prices → ℕ
look_price π = price π 14 8 7 3 2 2 1 + π.descriptor

-- the abort of a pipe by its signal, which neither reads nor closes
abbrev pub abort_price : Prices → ℕ
abort_price π = price π 14 8 7 3 2 0 0

abbrev pub pipe_price : Prices → PipeOperation → ℕ
pipe_price π Look = look_price π
pipe_price π LookReady = look_price π
pipe_price π (KeepChunk v) = price π 1 0 1 0 0 0 0
pipe_price π ReadEnded = price π 1 0 1 0 0 0 0
pipe_price π WriteChunk = look_price π + price π 14 6 4 1 1 2 1
pipe_price π GoOn = look_price π
pipe_price π WriteEnded = look_price π
pipe_price π (AbortPipe r) = abort_price π
pipe_price π (ActionSettled outcome) = price π 5 0 0 0 0 0 0
pipe_price π (PartSettled outcome) = price π 1 0 0 0 0 0 0
pipe_price π NoParts = price π 1 0 0 0 0 0 0

-- a pipe that is added to a signal pays for its abort
abbrev pub signal_price : Prices → SignalOperation → ℕ
signal_price π (Add p) = price π 1 0 0 0 0 0 0 + (abort_price π + π.member)
signal_price π (Forget p) = price π 1 0 0 0 0 0 0
signal_price π (Trigger r) = price π 1 0 0 0 0 0 0

-- an operation of a transform stream; what it does to its halves is counted in
abbrev pub transform_price : Prices → TransformOperation → ℕ
transform_price π (SinkWrite u) = price π 10 4 3 1 1 1 0
transform_price π (WriteGoesOn d) = price π 10 4 3 1 1 1 0
transform_price π (TransformChunk v d) = price π 7 3 2 1 1 1 0
transform_price π (EnqueueByTransform v) = price π 6 2 1 1 1 1 0
transform_price π Enqueued = price π 1 1 0 0 0 0 0
transform_price π (ErrorTransform e) = price π 8 4 2 1 1 0 0
transform_price π Unblock = price π 1 1 0 0 0 0 0
transform_price π Terminate = price π 8 4 2 1 1 0 0
transform_price π (SourcePull u) = price π 2 1 1 0 0 0 0
transform_price π (SinkClose u) = price π 3 2 2 1 1 0 0
transform_price π (SinkAbort r u) = price π 3 2 2 1 1 0 0
transform_price π (SourceCancel r u) = price π 3 2 2 1 1 0 0
transform_price π (FlushSettled p outcome) = price π 3 0 0 0 0 0 0
transform_price π (SinkAbortSettled p r outcome) = price π 3 0 0 0 0 0 0
transform_price π (CancelSettled p r outcome) = price π 8 4 2 1 1 0 0

-- an operation of a tee. What a branch's pull or cancel does to the source the tee pays for, for which it keeps the price
abbrev pub tee_price : Prices → TeeOperation → ℕ
tee_price π PullBranch = price π 1 0 0 0 0 0 0
tee_price π (KeepByTee v) = price π 1 0 1 0 0 0 0
tee_price π SourceClosed = price π 1 0 0 0 0 0 0
tee_price π SourceErrored = price π 1 0 0 0 0 0 0
tee_price π HandChunk = price π 16 3 4 3 3 2 1 + π.copy
tee_price π Handed = price π 7 1 2 1 1 0 1
tee_price π (CancelBranch half r u) = price π 2 1 1 0 0 0 0
tee_price π (ReaderSettled outcome) = price π 4 0 0 0 0 0 0

-- an operation of a port; what a message does to its stream is counted in
abbrev pub port_price : Prices → PortOperation → ℕ
port_price π Pull = price π 1 0 0 1 0 0 0
port_price π (Leave r u) = price π 2 1 1 1 0 0 0
port_price π (WriteByPort u) = price π 3 2 2 0 0 0 0
port_price π (PortGoesOn d) = price π 4 2 1 1 0 0 0
port_price π (PostChunk v d) = price π 2 1 1 1 0 0 0
port_price π (CloseByPort u) = price π 2 1 1 1 0 0 0
port_price π (Deliver m) = price π 7 3 2 1 1 1 0
port_price π UnblockPort = price π 1 0 0 0 0 0 0

abbrev pub effect_price : Prices → Effect → ℕ
effect_price π (Readable i operation) = readable_price π i operation
effect_price π (Byte i operation) = byte_price π operation
effect_price π (Writable i operation) = writable_price π operation
effect_price π (Pipe p operation) = pipe_price π operation
effect_price π (Signal a operation) = signal_price π operation
effect_price π (Transform t operation) = transform_price π operation
effect_price π (Tee t operation) = tee_price π operation
effect_price π (Port c operation) = port_price π operation
effect_price π (StartAlgorithm i step start) = start_price π start
effect_price π (PullAlgorithm i) = price π 3 1 1 1 1 0 0
effect_price π (CancelAlgorithm i r p) = price π 4 2 2 1 1 0 0
effect_price π (WriteAlgorithm i) = price π 11 4 3 1 1 1 0
effect_price π (CloseAlgorithm i) = price π 4 2 2 1 1 0 0
effect_price π (AbortAlgorithm i r p) = price π 4 2 2 1 1 0 0
effect_price π (ChunkSteps i request v) = price π 2 0 1 0 0 0 0
effect_price π (CloseSteps i request) = price π 2 0 1 0 0 0 0
effect_price π (CloseStepsWith i request b) = price π 2 0 1 0 0 0 0
effect_price π (ErrorSteps i request e) = price π 2 0 1 0 0 0 0
effect_price π (Give gift u) = gift_price π gift
effect_price π (Settle p outcome) = price π 1 0 0 0 0 0 0
effect_price π (Queue m) = price π 1 0 1 0 0 0 0
effect_price π (CallHost call u) = price π 1 1 1 1 1 0 0

abbrev pub prices_of : Prices → List Effect → ℕ
prices_of π [] = 0
prices_of π (e ∷ es) = effect_price π e + prices_of π es

-- what the records keep for later: the steps of each read request that waits, which are paid for when it is asked; an entry in the queue for
-- each descriptor, which is paid for when it is added; the abort of each pipe of a signal that wasn't triggered, likewise; and of a tee the
-- read of its source, while it rests, the close of its branches, until it is over, and the cancel of its source, until both branches are
-- cancelled

abbrev pub steps_price : Prices → ℕ
steps_price π = price π 2 0 1 0 0 0 0

abbrev pub keeps : Prices → Stream → ℕ
keeps π (ReadableStream r) = each (steps_price π) r.requests
keeps π (ByteStream b) = each (steps_price π) b.stream.requests + each π.queued b.descriptors
keeps π (WritableStream w) = 0

abbrev pub all_keep : Prices → List Stream → ℕ
all_keep π [] = 0
all_keep π (x ∷ xs) = keeps π x + all_keep π xs

abbrev pub signal_keeps_by : Prices → List PipeId → Option Plain → ℕ
signal_keeps_by π pipes (Some r) = 0
signal_keeps_by π pipes None = each (abort_price π) pipes

abbrev pub signal_keeps : Prices → pipe.Signal → ℕ
signal_keeps π x = signal_keeps_by π x.pipes x.reason

abbrev pub signals_keep : Prices → List pipe.Signal → ℕ
signals_keep π [] = 0
signals_keep π (x ∷ xs) = signal_keeps π x + signals_keep π xs

abbrev pub phase_keeps : Prices → StreamId → TeePhase → ℕ
phase_keeps π i Resting = tee_read π i + price π 3 0 0 0 0 0 0
phase_keeps π i Reading = price π 3 0 0 0 0 0 0
phase_keeps π i Over = 0

abbrev pub cancel_keeps : Prices → Bool → ℕ
cancel_keeps π true = price π 6 2 3 1 1 0 0
cancel_keeps π false = 0

abbrev pub tee_keeps : Prices → tee.Slots → ℕ
tee_keeps π x = phase_keeps π x.source x.phase + cancel_keeps π (tee.is_wanted x)

abbrev pub tees_keep : Prices → List tee.Slots → ℕ
tees_keep π [] = 0
tees_keep π (x ∷ xs) = tee_keeps π x + tees_keep π xs

-- what all records keep
abbrev pub all_kept : Prices → Slots → ℕ
all_kept π s = all_keep π s.streams + signals_keep π s.signals + tees_keep π s.tees

-- what these effects and all that comes of them may take
abbrev pub need : Prices → Slots → List Effect → ℕ
need π s es = prices_of π es + all_kept π s

-- price lists with one price

abbrev pub turns_alone : Prices
turns_alone = record { turn = 1; promise = 0; job = 0; event = 0; host = 0; queued = 0; request = 0; member = 0; descriptor = 0; copy = 0; reads = λ j. 0 }

abbrev pub promises_alone : Prices
promises_alone = record { turn = 0; promise = 1; job = 0; event = 0; host = 0; queued = 0; request = 0; member = 0; descriptor = 0; copy = 0; reads = λ j. 0 }

abbrev pub jobs_alone : Prices
jobs_alone = record { turn = 0; promise = 0; job = 1; event = 0; host = 0; queued = 0; request = 0; member = 0; descriptor = 0; copy = 0; reads = λ j. 0 }

abbrev pub events_alone : Prices
events_alone = record { turn = 0; promise = 0; job = 0; event = 1; host = 0; queued = 0; request = 0; member = 0; descriptor = 0; copy = 0; reads = λ j. 0 }

abbrev pub hosts_alone : Prices
hosts_alone = record { turn = 0; promise = 0; job = 0; event = 0; host = 1; queued = 0; request = 0; member = 0; descriptor = 0; copy = 0; reads = λ j. 0 }

abbrev pub queued_alone : Prices
queued_alone = record { turn = 0; promise = 0; job = 0; event = 0; host = 0; queued = 1; request = 0; member = 0; descriptor = 0; copy = 0; reads = λ j. 0 }

abbrev pub requests_alone : Prices
requests_alone = record { turn = 0; promise = 0; job = 0; event = 0; host = 0; queued = 0; request = 1; member = 0; descriptor = 0; copy = 0; reads = λ j. 1 }

-- those of tees at stream i alone
abbrev pub requests_at : StreamId → Prices
requests_at i = record requests_alone { reads = λ j. if nat_eq i.0 j.0 then 1 else 0 }

abbrev pub members_alone : Prices
members_alone = record { turn = 0; promise = 0; job = 0; event = 0; host = 0; queued = 0; request = 0; member = 1; descriptor = 0; copy = 0; reads = λ j. 0 }

abbrev pub descriptors_alone : Prices
descriptors_alone = record { turn = 0; promise = 0; job = 0; event = 0; host = 0; queued = 0; request = 0; member = 0; descriptor = 1; copy = 0; reads = λ j. 0 }

abbrev pub copies_alone : Prices
copies_alone = record { turn = 0; promise = 0; job = 0; event = 0; host = 0; queued = 0; request = 0; member = 0; descriptor = 0; copy = 1; reads = λ j. 0 }

-- as many turns as effects may take, with all that comes of them
abbrev pub measure : Slots → List Effect → ℕ
measure s es = need turns_alone s es

-- the places that are taken

abbrev pub reactions_of : Option Entry → ℕ
reactions_of None = 0
reactions_of (Some e) = length e.reactions

abbrev pub reactions_in : List (Option Entry) → ℕ
reactions_in [] = 0
reactions_in (e ∷ es) = reactions_of e + reactions_in es

-- a promise that is watched and pending has an event to come
abbrev pub unnoted_by : Outcome → Option ℕ → ℕ
unnoted_by outcome None = 0
unnoted_by Pending (Some rank) = 1
unnoted_by (Fulfilled v) (Some rank) = 0
unnoted_by (Given v) (Some rank) = 0
unnoted_by (Finished v) (Some rank) = 0
unnoted_by (Rejected r) (Some rank) = 0

abbrev pub unnoted_of : Option Entry → ℕ
unnoted_of None = 0
unnoted_of (Some e) = unnoted_by e.outcome e.rank

abbrev pub unnoted_in : List (Option Entry) → ℕ
unnoted_in [] = 0
unnoted_in (e ∷ es) = unnoted_of e + unnoted_in es

-- the promises, of which a number keeps its place for good; the jobs and the reactions; the events, and those that are to come of
-- watched promises. So a promise that settles takes no place
unfoldable pub table_size : Prices → Table → ℕ
table_size π t =
    π.promise * length t.entries
    + (π.job * (length t.jobs + reactions_in t.entries) + π.event * (length t.events + unnoted_in t.entries))

-- the entries of the queue of a stream, of its read or write requests, and of its descriptors
abbrev pub entries_of : Prices → Option Stream → ℕ
entries_of π None = 0
entries_of π (Some (ReadableStream r)) = each π.queued r.queue + each π.request r.requests
entries_of π (Some (ByteStream b)) = each π.queued b.queue + each π.request b.stream.requests + each π.descriptor b.descriptors
entries_of π (Some (WritableStream w)) = each π.queued w.queue + each π.request w.write_requests

-- the pipes of a signal
abbrev pub members_of : Prices → Option pipe.Signal → ℕ
members_of π None = 0
members_of π (Some x) = each π.member x.pipes

-- the places in the tables of promises, jobs, events and host's numbers, in the lists of stream i, and in the list of signal a
abbrev pub size : Prices → StreamId → SignalId → Slots → ℕ
size π i a s =
    table_size π s.promises + π.host * length s.hosts + entries_of π (slice_get s.streams i.0) + members_of π (slice_get s.signals a.0)

-- what the row of an effect takes by itself

abbrev pub own_gift : Prices → Gift → ℕ
own_gift π (This p) = price π 0 0 1 0 0 0 0
own_gift π (Fresh outcome) = price π 0 1 1 0 0 0 0

abbrev pub own_start : Prices → StartBy → ℕ
own_start π Now = 0
own_start π Later = price π 0 1 0 0 0 0 0

abbrev pub own_read : Prices → StreamId → ReadRequest → ℕ
own_read π i (Promise p) = price π 0 0 0 0 0 0 1 + π.descriptor
own_read π i (PipeRequest p) = price π 0 0 0 0 0 0 1 + π.descriptor
own_read π i (TeeRequest t) = π.reads i

abbrev pub own_readable : Prices → StreamId → ReadableOperation → ℕ
own_readable π i (Read request) = own_read π i request
own_readable π i (Enqueue v) = price π 0 0 0 0 0 1 0
own_readable π i _ = 0

-- of the entries that it adds to the queue, those of descriptors that it removes aren't its own
abbrev pub own_byte : Prices → ByteOperation → ℕ
own_byte π (EnqueueBytes b) = price π 0 0 0 0 0 1 0
own_byte π (PullInto room element minimum request) = price π 0 0 0 0 0 0 1 + π.descriptor
own_byte π (Respond b) = price π 0 0 0 0 0 1 0
own_byte π _ = 0

abbrev pub own_writable : Prices → WritableOperation → ℕ
own_writable π (Write v p) = price π 0 1 0 0 0 1 1
own_writable π (CloseWritable p) = price π 0 0 0 0 0 1 0
own_writable π (ClosePropagating p) = price π 0 0 0 0 0 1 0
own_writable π (Abort r p) = price π 0 1 0 1 0 0 0
own_writable π (AbortIfWritable r p) = price π 0 1 0 1 0 0 0
own_writable π (ErrorIfNeeded e) = price π 0 1 0 0 0 0 0
own_writable π (WritableStartSettled outcome) = price π 0 1 0 0 0 0 0
own_writable π (WriteSettled outcome) = price π 0 1 0 0 0 0 0
own_writable π (CloseSettled outcome) = price π 0 1 0 0 0 0 0
own_writable π _ = 0

abbrev pub own_pipe : Prices → PipeOperation → ℕ
own_pipe π (KeepChunk v) = price π 0 0 1 0 0 0 0
own_pipe π ReadEnded = price π 0 0 1 0 0 0 0
own_pipe π WriteChunk = price π 0 1 0 0 0 0 0
own_pipe π (ActionSettled outcome) = 0
own_pipe π (PartSettled outcome) = 0
own_pipe π NoParts = 0
own_pipe π _ = price π 0 3 0 0 0 0 0

abbrev pub own_signal : Prices → SignalOperation → ℕ
own_signal π (Add p) = π.member
own_signal π (Forget p) = 0
own_signal π (Trigger r) = 0

abbrev pub own_transform : Prices → TransformOperation → ℕ
own_transform π (SinkWrite u) = π.promise
own_transform π (WriteGoesOn d) = π.promise
own_transform π Enqueued = π.promise
own_transform π Unblock = π.promise
own_transform π (SourcePull u) = π.promise
own_transform π (SinkClose u) = π.promise
own_transform π (SinkAbort r u) = π.promise
own_transform π (SourceCancel r u) = π.promise
own_transform π _ = 0

abbrev pub own_tee : Prices → TeeOperation → ℕ
own_tee π (KeepByTee v) = π.job
own_tee π HandChunk = π.copy
own_tee π (CancelBranch half r u) = π.promise
own_tee π _ = 0

abbrev pub own_port : Prices → PortOperation → ℕ
own_port π Pull = π.event
own_port π (Leave r u) = π.event
own_port π (WriteByPort u) = π.promise
own_port π (PortGoesOn d) = π.promise + π.event
own_port π (PostChunk v d) = π.event
own_port π (CloseByPort u) = π.event
own_port π _ = 0

abbrev pub own : Prices → Effect → ℕ
own π (Readable i operation) = own_readable π i operation
own π (Byte i operation) = own_byte π operation
own π (Writable i operation) = own_writable π operation
own π (Pipe p operation) = own_pipe π operation
own π (Signal a operation) = own_signal π operation
own π (Transform t operation) = own_transform π operation
own π (Tee t operation) = own_tee π operation
own π (Port c operation) = own_port π operation
own π (Queue m) = π.job
own π (StartAlgorithm i step start) = own_start π start
own π (Give gift u) = own_gift π gift
own π (CallHost call u) = price π 0 1 1 1 1 0 0
own π _ = 0

-- what any call or job may take besides what the records keep. The promise that a reply names takes an event, now or when it settles
abbrev pub step_price : Prices → ℕ
step_price π = price π 28 14 11 4 3 4 2 + (π.member + π.descriptor + π.copy)

-- what is to be prepared for the next call or job, whichever it is
abbrev pub room : Prices → Slots → ℕ
room π s = all_kept π s + step_price π
