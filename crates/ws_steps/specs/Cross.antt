-- A message port, and the stream at this end of it (SetUpCrossRealmTransformReadable, SetUpCrossRealmTransformWritable). The stream is one
-- of its own, whose algorithms are operations of the port. Each operation is a function of the port's slots, of whether the chunk that is
-- first in the queue of a writable end can be cloned, and of what it leaves outside them: the promises, with what the host hears of, and the
-- effects that it causes, in order. `me` is the port's own number, by which an effect names it.
use Rattle.std.specs.Prelude.{Bool, true, false, if◌then◌else◌, List, [], ◌∷◌, Option, Some, None, Result, Ok, Err}
use Rattle.ws_value.specs.declared.fault.Fault.TheVariants.{DataClone}
use Rattle.ws_value.specs.declared.ids.PortId.{PortId}
use Rattle.ws_value.specs.declared.ids.PromiseId.{PromiseId}
use Rattle.ws_value.specs.declared.ids.StreamId.{StreamId}
use Rattle.ws_value.specs.declared.value.Message.{Message}
use Rattle.ws_value.specs.declared.value.Message.TheVariants.{Pull as PullMessage, Chunk as ChunkMessage, Close as CloseMessage, Error as ErrorMessage}
use Rattle.ws_value.specs.declared.value.Plain.{Plain}
use Rattle.ws_value.specs.declared.value.Plain.TheVariants.{Undefined, Fault as FaultReason}
use Rattle.ws_value.specs.declared.value.Value.{Value}
use Rattle.ws_value.specs.Values.{is_cloneable, is_value_cloneable}
use Rattle.ws_steps.specs.declared.calls.Event.TheVariants.{Post}
use Rattle.ws_steps.specs.declared.effects.Effect.{Effect}
use Rattle.ws_steps.specs.declared.effects.Effect.TheVariants.{Readable as OnReadable, Writable as OnWritable, Port as OnPort, Give}
use Rattle.ws_steps.specs.declared.effects.Gift.TheVariants.{This, Fresh}
use Rattle.ws_steps.specs.declared.effects.Use.{Use}
use Rattle.ws_steps.specs.declared.effects.Use.TheVariants.{React, Resolve}
use Rattle.ws_steps.specs.declared.port.PortOperation.TheVariants.{Unblock}
use Rattle.ws_steps.specs.declared.port.Side.{Side}
use Rattle.ws_steps.specs.declared.port.Side.TheVariants.{Readable as ReadableSide, Writable as WritableSide}
use Rattle.ws_steps.specs.declared.promises.Step.TheVariants.{PortUnblocked}
use Rattle.ws_steps.specs.declared.readable.ReadableOperation.TheVariants.{Enqueue as EnqueueChunk, Close as CloseReadable, Error as ErrorReadable}
use Rattle.ws_steps.specs.declared.transform.Taker.TheVariants.{ToPort}
use Rattle.ws_steps.specs.declared.writable.WritableOperation.TheVariants.{ErrorIfNeeded, HandOn}
use Rattle.ws_steps.specs.declared.writable.WriteRecord.{WriteRecord}
use Rattle.ws_steps.specs.declared.writable.WriteRecord.TheVariants.{Chunk, InFlight, CloseMark}
use Rattle.ws_steps.specs.Promises.{next_id, fresh, tell}
use Rattle.ws_steps.specs.Effects.{Out, cause_all, settling}

-- the slots of a port
pub record Slots : Type 0 where
  pub side : Side
  pub stream : StreamId
  -- whether it is entangled
  pub live : Bool
  -- of a writable end: the backpressure promise, while it is pending. A write that finds none goes on in a job; whether there is a fulfilled
  -- one until then, nobody can tell
  pub backpressure : Option PromiseId

-- what an operation changes
pub record Acts : Type 0 where
  pub slots : Slots
  pub out : Out

-- a new port; the backpressure promise of a writable end is new
abbrev pub set_up : Side → StreamId → Option PromiseId → Slots
set_up side stream backpressure = record { side = side; stream = stream; live = true; backpressure = backpressure }

-- effects after the others
abbrev pub causing : List Effect → Acts → Acts
causing effects a = record a { out = cause_all effects a.out }

abbrev pub with_slots : Slots → Acts → Acts
with_slots s a = record a { slots = s }

-- something is done with a new promise
abbrev pub with_fresh : (PromiseId → Acts → Acts) → Acts → Acts
with_fresh operation a = operation (next_id a.out.promises) (record a { out = record a.out { promises = fresh a.out.promises } })

-- a result that is undefined
abbrev pub done : Result Plain Plain
done = Ok Undefined

abbrev pub data_clone : Plain
data_clone = FaultReason DataClone

-- messages

abbrev pub posting : PortId → Message → Acts → Acts
posting me m a = record a { out = record a.out { promises = tell (Post me m) a.out.promises } }

-- PackAndPostMessage, of a message that can be cloned: where the port isn't entangled, it is dropped
abbrev pub post : PortId → Message → Acts → Acts
post me m a = if a.slots.live then posting me m a else a

-- PackAndPostMessageHandlingError, by whether the message can be cloned: where not, an error is posted in its place
abbrev pub post_or_fail : PortId → Message → Acts → Bool → Acts
post_or_fail me m a true = post me m a
post_or_fail me m a false = post me (ErrorMessage data_clone) a

-- its result
abbrev pub posted : Bool → Result Plain Plain
posted true = done
posted false = Err data_clone

-- Disentangle
abbrev pub disentangle : Acts → Acts
disentangle a = with_slots (record a.slots { live = false }) a

-- the algorithms of both ends

-- the pull algorithm of a readable end, whose promise is resolved with undefined
unfoldable pub pull : PortId → Acts → Acts
pull me a = post me PullMessage a

-- the cancel algorithm of a readable end, and the abort algorithm of a writable one: post the reason, and disentangle. The result is resolved
-- with undefined, or rejected where the reason can't be cloned
unfoldable pub leave : PortId → Plain → Use → Acts → Acts
leave me r u a =
    causing (Give (Fresh (posted (is_cloneable r))) u ∷ []) (disentangle (post_or_fail me (ErrorMessage r) a (is_cloneable r)))

-- the close algorithm of a writable end: post that, and disentangle
unfoldable pub close : PortId → Use → Acts → Acts
close me u a = causing (Give (Fresh done) u ∷ []) (disentangle (post me CloseMessage a))

-- writes

-- the write goes on once this promise has settled, with d as its result
abbrev pub wait_for : Option PromiseId → PortId → PromiseId → Effect
wait_for None me d = Give (Fresh done) (React (PortUnblocked me d) None)
wait_for (Some p) me d = Give (This p) (React (PortUnblocked me d) None)

-- the write algorithm of a writable end: where there is no backpressure promise, it becomes one that is resolved with undefined. The result is
-- that of reacting to it, which is new
unfoldable pub write : PortId → Use → Acts → Acts
write me u a = with_fresh (λ d. causing (wait_for a.slots.backpressure me d ∷ Give (This d) u ∷ [])) a

abbrev pub hold_back : Acts → Acts
hold_back a = with_fresh (λ p b. with_slots (record b.slots { backpressure = Some p }) b) a

abbrev pub hand_on : PortId → PromiseId → Acts → Bool → Acts
hand_on me d a true = causing (OnWritable a.slots.stream (HandOn (ToPort me d)) ∷ []) a
hand_on me d a false =
    causing (Give (Fresh (Err data_clone)) (Resolve d) ∷ []) (disentangle (post me (ErrorMessage data_clone) a))

abbrev pub go_on : PortId → Bool → PromiseId → Acts → Option PromiseId → Acts
go_on me clones d a None = hand_on me d (hold_back a) clones
go_on me clones d a (Some p) = causing (wait_for (Some p) me d ∷ []) a

-- the backpressure promise was fulfilled, and there is none: it becomes a new one, and the chunk is handed on, to be posted. Where it can't be
-- cloned, an error is posted in its place, disentangle, and d is resolved with a promise that is rejected. Nothing but a write that goes on
-- makes a new one; were there one all the same, the write would wait for it
unfoldable pub write_goes_on : PortId → Bool → PromiseId → Acts → Acts
write_goes_on me clones d a = go_on me clones d a a.slots.backpressure

-- the chunk that was handed on is posted, and d is resolved with a promise that is resolved with undefined
unfoldable pub post_chunk : PortId → Value → PromiseId → Acts → Acts
post_chunk me v d a = causing (Give (Fresh done) (Resolve d) ∷ []) (post me (ChunkMessage v) a)

-- messages that come

abbrev pub unblock_by : Acts → Option PromiseId → Acts
unblock_by a None = a
unblock_by a (Some p) = with_slots (record a.slots { backpressure = None }) (record a { out = settling p done a.out })

-- where there is a backpressure promise, fulfil it, and clear it
unfoldable pub unblock : Acts → Acts
unblock a = unblock_by a a.slots.backpressure

-- a readable end takes a chunk by ReadableStreamDefaultControllerEnqueue, a close by ReadableStreamDefaultControllerClose, and an error by
-- ReadableStreamDefaultControllerError; after the last two, disentangle. A writable end takes a pull by an end of the backpressure, and an
-- error by WritableStreamDefaultControllerErrorIfNeeded and then the same. Neither takes another message
abbrev pub deliver_to : PortId → Message → Acts → Side → Acts
deliver_to me PullMessage a ReadableSide = a
deliver_to me (ChunkMessage v) a ReadableSide = causing (OnReadable a.slots.stream (EnqueueChunk v) ∷ []) a
deliver_to me CloseMessage a ReadableSide = disentangle (causing (OnReadable a.slots.stream CloseReadable ∷ []) a)
deliver_to me (ErrorMessage r) a ReadableSide = disentangle (causing (OnReadable a.slots.stream (ErrorReadable r) ∷ []) a)
deliver_to me PullMessage a WritableSide = unblock a
deliver_to me (ChunkMessage v) a WritableSide = a
deliver_to me CloseMessage a WritableSide = a
deliver_to me (ErrorMessage r) a WritableSide = causing (OnWritable a.slots.stream (ErrorIfNeeded r) ∷ OnPort me Unblock ∷ []) a

-- a message comes, where the port is entangled
unfoldable pub deliver : PortId → Message → Acts → Acts
deliver me m a = if a.slots.live then deliver_to me m a a.slots.side else a

-- whether the chunk that is first in a queue can be cloned; where none is, nothing can fail
abbrev pub clones_first : Option WriteRecord → Bool
clones_first None = true
clones_first (Some (Chunk v)) = is_value_cloneable v
clones_first (Some InFlight) = true
clones_first (Some CloseMark) = true
