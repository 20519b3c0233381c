-- What is seen of the record of a writable stream.
use Rattle.std.specs.Prelude.{ℕ, ◌+◌, ◌-◌, ◌≤◌, ◌==◌, Bool, true, false, ◌&&◌, nat_le, Option, Some, None, is_none, length}
use Rattle.ws_value.specs.declared.ids.StreamId.{StreamId}
use Rattle.ws_value.specs.declared.value.Value.{Value}
use Rattle.ws_promise.specs.Seen.{Seen, SeenAgenda, out_of, HasPromiseRoom, HasEventRoom}
use Rattle.ws_queue.specs.Seen.{Lists}
use Rattle.ws_steps.specs.declared.writable.WritableOperation.{WritableOperation}
use Rattle.ws_steps.specs.declared.writable.WritableOperation.TheVariants.{Write, HandOn, WriteSettled}
use Rattle.ws_steps.specs.declared.writable.WriteRecord.{WriteRecord}
use Rattle.ws_steps.specs.declared.writable.WriteRecord.TheVariants.{Chunk, InFlight, CloseMark}
use Rattle.ws_steps.specs.Queues.{is_empty}
use Rattle.ws_steps.specs.Places.{own_writable, promises_alone, events_alone, queued_alone, requests_alone}
use Rattle.ws_steps.specs.declared.effects.Effect.TheVariants.{WriteAlgorithm}
use Rattle.ws_steps.specs.declared.transform.Taker.{Taker}
use Rattle.ws_steps.specs.Writable.{Slots, Acts, causing, taken_by}

-- the slots, and the places in memory
pub record SeenWritable : Type 0 where
  pub slots : Slots
  pub room : Lists

-- there are places for n more entries of the queue, and for n more write requests
abbrev pub HasQueueRoom : ℕ → SeenWritable → Type 0
HasQueueRoom n w = n + length w.slots.queue ≤ w.room.queue

abbrev pub HasRequestRoom : ℕ → SeenWritable → Type 0
HasRequestRoom n w = n + length w.slots.write_requests ≤ w.room.requests

-- whether there are places for n more of each
abbrev pub has_room : ℕ → SeenWritable → Bool
has_room n w = nat_le n (w.room.queue - length w.slots.queue) && nat_le n (w.room.requests - length w.slots.write_requests)

-- a stream, the promises and the agenda, as an operation of the stream finds and leaves them
abbrev pub acts_of : SeenWritable → Seen → SeenAgenda → Acts
acts_of w p fx = record { slots = w.slots; out = out_of p fx }

-- there are places for what an operation takes by itself
pub record HasRoomFor (operation : WritableOperation) (w : SeenWritable) (p : Seen) : Type 0 where
  pub promises : HasPromiseRoom (own_writable promises_alone operation) p
  pub events : HasEventRoom (own_writable events_alone operation) p
  pub queue : HasQueueRoom (own_writable queued_alone operation) w
  pub requests : HasRequestRoom (own_writable requests_alone operation) w

-- whether the way of a chunk through a pipe meets the operation
abbrev pub is_common : WritableOperation → Bool
is_common (Write v p) = true
is_common (HandOn taker) = true
is_common (WriteSettled outcome) = true
is_common _ = false

-- whether a chunk stands there
abbrev pub is_chunk : Option WriteRecord → Bool
is_chunk None = false
is_chunk (Some (Chunk v)) = true
is_chunk (Some InFlight) = false
is_chunk (Some CloseMark) = false

-- whether the controller has started, no write is in flight, and none waits
abbrev pub is_free : Slots → Bool
is_free s = s.started && (is_none s.write_in_flight && ((length s.write_requests == 0) && is_empty s.queue))

-- the write algorithm is caused, where it is
abbrev pub writing_where : Bool → StreamId → Acts → Acts
writing_where true me a = causing (WriteAlgorithm me) a
writing_where false me a = a

-- a chunk is handed on, where there is one
abbrev pub handing : StreamId → Taker → Option Value → Acts → Acts
handing me taker None a = a
handing me taker (Some v) a = causing (taken_by me v taker) a
