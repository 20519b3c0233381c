-- What went through a readable stream.
use Rattle.std.specs.Prelude.{ℕ, ◌+◌, Bool, false, ◌&&◌, ◌||◌, if◌then◌else◌, List, [], ◌∷◌, ◌++◌, Option, Some, None}
use Rattle.ws_value.specs.declared.ids.PromiseId.{PromiseId}
use Rattle.ws_value.specs.declared.ids.StreamId.{StreamId}
use Rattle.ws_value.specs.declared.value.Value.{Value}
use Rattle.ws_steps.specs.declared.calls.Call.{Call}
use Rattle.ws_steps.specs.declared.calls.Call.TheVariants.{Enqueue as EnqueueCall, Read as ReadCall}
use Rattle.ws_steps.specs.declared.calls.Reply.{Reply}
use Rattle.ws_steps.specs.declared.calls.Reply.TheVariants.{Done, Promise as Named}
use Rattle.ws_steps.specs.declared.effects.Effect.{Effect}
use Rattle.ws_steps.specs.declared.effects.Effect.TheVariants.{Readable, ChunkSteps}
use Rattle.ws_steps.specs.declared.locks.Lock.{Lock}
use Rattle.ws_steps.specs.declared.locks.Lock.TheVariants.{Reader, ByobReader, Writer, ReleasedWriter, Inner}
use Rattle.ws_steps.specs.declared.queue.Queued.{Queued}
use Rattle.ws_steps.specs.declared.readable.ReadRequest.{ReadRequest}
use Rattle.ws_steps.specs.declared.readable.ReadRequest.TheVariants.{Promise, Pipe, Tee}
use Rattle.ws_steps.specs.declared.readable.ReadableOperation.{ReadableOperation}
use Rattle.ws_steps.specs.declared.readable.ReadableOperation.TheVariants.{ReleaseReader, Enqueue, Read, Cancel, CancelIfReadable}
use Rattle.ws_steps.specs.Readable as readable
use Rattle.ws_steps.specs.Slots.{Slots, has_source, lock_at, readable_at, source_at}
use Rattle.ws_steps.specs.Run.{Entry, Called, Worked, Heard, reply_to, step}
use Rattle.ws_steps.specs.Histories.{is_same, in_step, over}

-- what went through a readable stream: the values that ReadableStreamDefaultControllerEnqueue accepted, the values with which
-- chunk steps were performed, whether a cancel closed the stream, and how many reads were asked of it while it was readable
pub record Flow : Type 0 where
  pub entered : List Value
  pub given : List Value
  pub cancelled : Bool
  pub asked : ℕ

abbrev pub no_flow : Flow
no_flow = record { entered = []; given = []; cancelled = false; asked = 0 }

-- first f, then g
abbrev pub flow_then : Flow → Flow → Flow
flow_then f g =
    record {
      entered = f.entered ++ g.entered;
      given = f.given ++ g.given;
      cancelled = f.cancelled || g.cancelled;
      asked = f.asked + g.asked;
    }

-- the values in a queue
abbrev pub values : List (Queued Value) → List Value
values [] = []
values (q ∷ qs) = q.value ∷ values qs

-- an operation of the stream. ReadableStreamDefaultControllerEnqueue: the chunk enters where the controller can take it.
-- ReadableStreamDefaultReaderRead: a read is asked of a readable stream. ReadableStreamCancel: a readable stream is cancelled
abbrev pub operation_flow : ReadableOperation → readable.Slots → Flow
operation_flow (Enqueue v) s = if readable.can_close_or_enqueue s then record no_flow { entered = v ∷ [] } else no_flow
operation_flow (Read request) s = record no_flow { asked = if readable.is_readable s.state then 1 else 0 }
operation_flow (Cancel reason p) s = record no_flow { cancelled = readable.is_readable s.state }
operation_flow (CancelIfReadable reason p) s = record no_flow { cancelled = readable.is_readable s.state }
operation_flow _ s = no_flow

-- what goes through readable stream i by an effect: an operation, or the chunk steps of a request of it
abbrev pub effect_flow : StreamId → Effect → Slots → Flow
effect_flow i (Readable j operation) s = if is_same i j then operation_flow operation (readable_at j s) else no_flow
effect_flow i (ChunkSteps j request v) s = if is_same i j then record no_flow { given = v ∷ [] } else no_flow
effect_flow i _ s = no_flow

-- in a step
abbrev pub step_flow : StreamId → Slots → Entry → Flow
step_flow i s x = in_step no_flow flow_then (effect_flow i) s x

-- in a run
abbrev pub run_flow : StreamId → List Entry → Slots → Flow
run_flow i xs s = over no_flow flow_then (step_flow i) xs s

-- the value of a call that enqueues into stream i, where it is answered Done
abbrev pub accepted_by : StreamId → Call → Reply → List Value
accepted_by i (EnqueueCall j v) Done = if is_same i j then v ∷ [] else []
accepted_by i _ _ = []

abbrev pub accepted_in_step : StreamId → Slots → Entry → List Value
accepted_in_step i s (Called c) = accepted_by i c (reply_to c s)
accepted_in_step i s Worked = []
accepted_in_step i s Heard = []

-- the values of the calls of a run that enqueue into stream i and are answered Done, in their order
abbrev pub accepted : StreamId → List Entry → Slots → List Value
accepted i [] s = []
accepted i (x ∷ xs) s = accepted_in_step i s x ++ accepted i xs (step s x)

-- the reads of a readable stream

-- the requests that ReadableStreamDefaultReaderRead was given, in every state of the stream, and those that waited where
-- ReadableStreamReaderGenericRelease took their reader from the stream
pub record Reads : Type 0 where
  pub asked : List ReadRequest
  pub released : List ReadRequest

abbrev pub no_reads : Reads
no_reads = record { asked = []; released = [] }

-- first f, then g
abbrev pub reads_then : Reads → Reads → Reads
reads_then f g = record { asked = f.asked ++ g.asked; released = f.released ++ g.released }

-- an operation of the stream
abbrev pub operation_reads : ReadableOperation → readable.Slots → Reads
operation_reads (Read request) s = record no_reads { asked = request ∷ [] }
operation_reads ReleaseReader s = record no_reads { released = readable.waiting s }
operation_reads _ s = no_reads

-- what is asked of readable stream i, where there is one with a controller of either kind, by an effect
abbrev pub effect_reads : StreamId → Effect → Slots → Reads
effect_reads i (Readable j operation) s =
    if is_same i j && has_source j s then operation_reads operation (source_at j s) else no_reads
effect_reads i _ s = no_reads

-- in a step
abbrev pub step_reads : StreamId → Slots → Entry → Reads
step_reads i s x = in_step no_reads reads_then (effect_reads i) s x

-- in a run
abbrev pub run_reads : StreamId → List Entry → Slots → Reads
run_reads i xs s = over no_reads reads_then (step_reads i) xs s

-- reads as calls tell them: the promises that are answered to calls that read

-- the promises of requests that are for one
abbrev pub promises_of : List ReadRequest → List PromiseId
promises_of [] = []
promises_of (Promise p ∷ rs) = p ∷ promises_of rs
promises_of (Pipe p ∷ rs) = promises_of rs
promises_of (Tee t ∷ rs) = promises_of rs

-- the promise that a reply names
abbrev pub named_by : Reply → List PromiseId
named_by (Named p) = p ∷ []
named_by _ = []

-- the promise of a read by this lock, where that is a reader which has stream i
abbrev pub asked_with : StreamId → Reply → Option Lock → List PromiseId
asked_with i reply None = []
asked_with i reply (Some (Reader None closed)) = []
asked_with i reply (Some (Reader (Some j) closed)) = if is_same i j then named_by reply else []
asked_with i reply (Some (ByobReader stream closed)) = []
asked_with i reply (Some (Writer j)) = []
asked_with i reply (Some (ReleasedWriter w)) = []
asked_with i reply (Some Inner) = []

-- the promise of a call that reads from stream i
abbrev pub call_asked : StreamId → Call → Slots → List PromiseId
call_asked i (ReadCall l) s = asked_with i (reply_to (ReadCall l) s) (lock_at l s)
call_asked i _ s = []

-- in a step
abbrev pub asked_in_step : StreamId → Slots → Entry → List PromiseId
asked_in_step i s (Called c) = call_asked i c s
asked_in_step i s Worked = []
asked_in_step i s Heard = []

-- in a run
abbrev pub asked_by_calls : StreamId → List Entry → Slots → List PromiseId
asked_by_calls i [] s = []
asked_by_calls i (x ∷ xs) s = asked_in_step i s x ++ asked_by_calls i xs (step s x)

-- what became of a read: it got a chunk, the stream closed, the stream errored, or its reader was released while it waited
pub data ReadAnswer : Type 0 where
  Gets : Value → ReadAnswer
  Ends : ReadAnswer
  Fails : ReadAnswer
  Released : ReadAnswer

-- a read that was answered
pub record Answered : Type 0 where
  pub request : ReadRequest
  pub answer : ReadAnswer

abbrev pub requests_of : List Answered → List ReadRequest
requests_of [] = []
requests_of (a ∷ more) = a.request ∷ requests_of more

abbrev pub chunk_got : ReadAnswer → List Value
chunk_got (Gets v) = v ∷ []
chunk_got _ = []

-- the chunks that they got
abbrev pub chunks_got : List Answered → List Value
chunks_got [] = []
chunks_got (a ∷ more) = chunk_got a.answer ++ chunks_got more

abbrev pub if_released : ReadRequest → ReadAnswer → List ReadRequest
if_released request Released = request ∷ []
if_released request _ = []

-- the requests of those whose reader was released
abbrev pub released_of : List Answered → List ReadRequest
released_of [] = []
released_of (a ∷ more) = if_released a.request a.answer ++ released_of more
