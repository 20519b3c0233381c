-- What went through a writable stream.
use Rattle.std.specs.Prelude.{ℕ, ◌+◌, Bool, true, false, ◌&&◌, if◌then◌else◌, is_some, List, [], ◌∷◌, ◌++◌, Option, Some, None, Result, Ok, Err, slice_get}
use Rattle.ws_value.specs.declared.ids.PromiseId.{PromiseId}
use Rattle.ws_value.specs.declared.ids.StreamId.{StreamId}
use Rattle.ws_value.specs.declared.value.Plain.{Plain}
use Rattle.ws_value.specs.declared.value.Value.{Value}
use Rattle.ws_steps.specs.declared.calls.Call.{Call}
use Rattle.ws_steps.specs.declared.calls.Call.TheVariants.{Write as WriteCall}
use Rattle.ws_steps.specs.declared.calls.Event.{Event}
use Rattle.ws_steps.specs.declared.calls.Event.TheVariants.{Host}
use Rattle.ws_steps.specs.declared.calls.HostCall.TheVariants.{Write as HostWrite, Close as HostClose}
use Rattle.ws_steps.specs.declared.calls.Reply.{Reply}
use Rattle.ws_steps.specs.declared.calls.Reply.TheVariants.{Promise}
use Rattle.ws_steps.specs.declared.effects.Effect.{Effect}
use Rattle.ws_steps.specs.declared.effects.Effect.TheVariants.{Writable, Pipe, CloseAlgorithm}
use Rattle.ws_steps.specs.declared.locks.Lock.{Lock}
use Rattle.ws_steps.specs.declared.locks.Lock.TheVariants.{Reader, ByobReader, Writer, ReleasedWriter, Inner}
use Rattle.ws_steps.specs.declared.pipes.Phase.{Phase}
use Rattle.ws_steps.specs.declared.pipes.Phase.TheVariants.{Flowing, Waiting, Acting, Over}
use Rattle.ws_steps.specs.declared.pipes.PipeOperation.TheVariants.{WriteChunk}
use Rattle.ws_steps.specs.declared.queue.Queued.{Queued}
use Rattle.ws_steps.specs.declared.writable.WritableOperation.{WritableOperation}
use Rattle.ws_steps.specs.declared.writable.WritableOperation.TheVariants.{Write, HandOn, WriteSettled}
use Rattle.ws_steps.specs.declared.writable.WriteRecord.{WriteRecord}
use Rattle.ws_steps.specs.declared.writable.WriteRecord.TheVariants.{Chunk, InFlight, CloseMark}
use Rattle.ws_steps.specs.Pipes as pipe
use Rattle.ws_steps.specs.Promises.{next_id}
use Rattle.ws_steps.specs.Writable as writable
use Rattle.ws_steps.specs.Slots.{Slots, lock_at, writable_at}
use Rattle.ws_steps.specs.Run.{Entry, Called, Worked, Heard, step, reply_to}
use Rattle.ws_steps.specs.Histories.{is_same, in_step, over}

-- what went through a writable stream: the values that WritableStreamDefaultWriterWrite appended, the values with which its write
-- algorithm was performed, each as it is handed on, to the host's algorithm, to that of a transform stream or to be posted by a port, how
-- many of these writes were fulfilled, and how often its close algorithm was performed
pub record Writes : Type 0 where
  pub written : List Value
  pub acted : List Value
  pub fulfilled : ℕ
  pub closes : ℕ

abbrev pub no_writes : Writes
no_writes = record { written = []; acted = []; fulfilled = 0; closes = 0 }

-- first f, then g
abbrev pub writes_then : Writes → Writes → Writes
writes_then f g =
    record {
      written = f.written ++ g.written;
      acted = f.acted ++ g.acted;
      fulfilled = f.fulfilled + g.fulfilled;
      closes = f.closes + g.closes;
    }

abbrev pub chunk_of : WriteRecord → List Value
chunk_of (Chunk v) = v ∷ []
chunk_of InFlight = []
chunk_of CloseMark = []

-- the chunks in a queue; one that was handed on has left it
abbrev pub todo : List (Queued WriteRecord) → List Value
todo [] = []
todo (q ∷ qs) = chunk_of q.value ++ todo qs

-- a chunk is appended where its write isn't refused
abbrev pub written_unless : Value → Option Plain → List Value
written_unless v (Some e) = []
written_unless v None = v ∷ []

-- WritableStreamDefaultWriterWrite
abbrev pub written_by : Value → writable.Slots → List Value
written_by v s = written_unless v (writable.write_refusal s)

-- the chunk at the front of the queue, where one stands there
abbrev pub first_chunk : List (Queued WriteRecord) → List Value
first_chunk [] = []
first_chunk (q ∷ qs) = chunk_of q.value

-- WritableStreamFinishInFlightWrite: the write in flight is fulfilled
abbrev pub fulfilled_by : Result Plain Plain → writable.Slots → ℕ
fulfilled_by (Ok v) s = if is_some s.write_in_flight then 1 else 0
fulfilled_by (Err e) s = 0

-- an operation of the stream
abbrev pub operation_writes : WritableOperation → writable.Slots → Writes
operation_writes (Write v p) s = record no_writes { written = written_by v s }
operation_writes (HandOn taker) s = record no_writes { acted = first_chunk s.queue }
operation_writes (WriteSettled outcome) s = record no_writes { fulfilled = fulfilled_by outcome s }
operation_writes _ s = no_writes

-- what goes through writable stream i by an effect: an operation, or the performing of its close algorithm
abbrev pub effect_writes : StreamId → Effect → Slots → Writes
effect_writes i (Writable j operation) s = if is_same i j then operation_writes operation (writable_at j s) else no_writes
effect_writes i (CloseAlgorithm j) s = if is_same i j then record no_writes { closes = 1 } else no_writes
effect_writes i _ s = no_writes

-- in a step
abbrev pub step_writes : StreamId → Slots → Entry → Writes
step_writes i s x = in_step no_writes writes_then (effect_writes i) s x

-- in a run
abbrev pub run_writes : StreamId → List Entry → Slots → Writes
run_writes i xs s = over no_writes writes_then (step_writes i) xs s

-- the promises of the writes that are appended, in their order

abbrev pub promised_by : List Value → PromiseId → List PromiseId
promised_by [] p = []
promised_by (v ∷ vs) p = p ∷ []

abbrev pub operation_promised : WritableOperation → writable.Slots → List PromiseId
operation_promised (Write v p) s = promised_by (written_by v s) p
operation_promised _ s = []

-- the promise of the write that an effect appends to stream i
abbrev pub effect_promised : StreamId → Effect → Slots → List PromiseId
effect_promised i (Writable j operation) s = if is_same i j then operation_promised operation (writable_at j s) else []
effect_promised i _ s = []

-- in a step
abbrev pub step_promised : StreamId → Slots → Entry → List PromiseId
step_promised i s x = in_step [] ◌++◌ (effect_promised i) s x

-- in a run
abbrev pub run_promised : StreamId → List Entry → Slots → List PromiseId
run_promised i xs s = over [] ◌++◌ (step_promised i) xs s

-- writes as calls tell them: the values that calls write to a stream, where these are appended to its queue, and the promises that the
-- replies of these calls name

-- what a write by this lock appends to stream i
abbrev pub written_with : StreamId → Value → Slots → Option Lock → List Value
written_with i v s None = []
written_with i v s (Some (Reader stream closed)) = []
written_with i v s (Some (ByobReader stream closed)) = []
written_with i v s (Some (Writer j)) = if is_same i j then written_by v (writable_at j s) else []
written_with i v s (Some (ReleasedWriter w)) = []
written_with i v s (Some Inner) = []

-- what is written to stream i by a call
abbrev pub call_written : StreamId → Call → Slots → List Value
call_written i (WriteCall l v) s = written_with i v s (lock_at l s)
call_written i _ s = []

-- the promise that a reply names, where the call wrote
abbrev pub answered_by : List Value → Reply → List PromiseId
answered_by [] reply = []
answered_by (v ∷ vs) (Promise p) = p ∷ []
answered_by (v ∷ vs) _ = []

-- in a step

abbrev pub written_in_step : StreamId → Slots → Entry → List Value
written_in_step i s (Called c) = call_written i c s
written_in_step i s Worked = []
written_in_step i s Heard = []

abbrev pub answered_in_step : StreamId → Slots → Entry → List PromiseId
answered_in_step i s (Called c) = answered_by (call_written i c s) (reply_to c s)
answered_in_step i s Worked = []
answered_in_step i s Heard = []

-- writes as pipes tell them: the chunk that a pipe holds where it writes, where it is appended to the queue, and the promise of that
-- write, which is new

-- whether a pipe writes in this phase
abbrev pub may_write : Phase → Bool
may_write Flowing = true
may_write Waiting = true
may_write Acting = false
may_write Over = false

abbrev pub written_from : StreamId → StreamId → Slots → Phase → Option Value → List Value
written_from i dest s phase None = []
written_from i dest s phase (Some v) = if may_write phase && is_same i dest then written_by v (writable_at dest s) else []

abbrev pub piped_to : StreamId → Slots → Option pipe.Slots → List Value
piped_to i s None = []
piped_to i s (Some x) = written_from i x.dest s x.phase x.held

-- what a pipe writes to stream i by an effect
abbrev pub effect_piped : StreamId → Effect → Slots → List Value
effect_piped i (Pipe p WriteChunk) s = piped_to i s (slice_get s.pipes p.0)
effect_piped i _ s = []

-- and the promise of this write
abbrev pub effect_piped_promised : StreamId → Effect → Slots → List PromiseId
effect_piped_promised i e s = promised_by (effect_piped i e s) (next_id s.promises)

-- in a step

abbrev pub step_piped : StreamId → Slots → Entry → List Value
step_piped i s x = in_step [] ◌++◌ (effect_piped i) s x

abbrev pub step_piped_promised : StreamId → Slots → Entry → List PromiseId
step_piped_promised i s x = in_step [] ◌++◌ (effect_piped_promised i) s x

-- in a run: in each step what its call wrote, and then what pipes wrote

abbrev pub written_in_run : StreamId → List Entry → Slots → List Value
written_in_run i [] s = []
written_in_run i (x ∷ xs) s = (written_in_step i s x ++ step_piped i s x) ++ written_in_run i xs (step s x)

abbrev pub answered_in_run : StreamId → List Entry → Slots → List PromiseId
answered_in_run i [] s = []
answered_in_run i (x ∷ xs) s = (answered_in_step i s x ++ step_piped_promised i s x) ++ answered_in_run i xs (step s x)

-- what a host hears of these

-- the value of an event that calls the write algorithm of stream i
abbrev pub heard_write : StreamId → Event → List Value
heard_write i (Host id (HostWrite j v)) = if is_same i j then v ∷ [] else []
heard_write i _ = []

-- the values of such events, in their order
abbrev pub heard_writes : StreamId → List Event → List Value
heard_writes i [] = []
heard_writes i (e ∷ es) = heard_write i e ++ heard_writes i es

-- whether an event calls the close algorithm of stream i
abbrev pub heard_close : StreamId → Event → ℕ
heard_close i (Host id (HostClose j)) = if is_same i j then 1 else 0
heard_close i _ = 0

-- how many such events there are
abbrev pub heard_closes : StreamId → List Event → ℕ
heard_closes i [] = 0
heard_closes i (e ∷ es) = heard_close i e + heard_closes i es
