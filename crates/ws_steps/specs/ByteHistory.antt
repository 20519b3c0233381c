-- What went through a readable stream with a byte controller.
use Rattle.std.specs.Prelude.{ℕ, Bool, true, false, not, ◌&&◌, ◌||◌, if◌then◌else◌, List, [], ◌∷◌, ◌++◌, length, Option, Some, None}
use Rattle.ws_value.specs.declared.ids.StreamId.{StreamId}
use Rattle.ws_value.specs.declared.value.Value.{Value}
use Rattle.ws_value.specs.declared.value.Value.TheVariants.{Plain as PlainValue, Bytes}
use Rattle.ws_steps.specs.declared.byte.ByteOperation.{ByteOperation}
use Rattle.ws_steps.specs.declared.byte.ByteOperation.TheVariants.{Enqueue, Respond}
use Rattle.ws_steps.specs.declared.calls.Call.{Call}
use Rattle.ws_steps.specs.declared.calls.Call.TheVariants.{Enqueue as EnqueueCall, Respond as RespondCall}
use Rattle.ws_steps.specs.declared.calls.Reply.{Reply}
use Rattle.ws_steps.specs.declared.calls.Reply.TheVariants.{Done as ReplyDone}
use Rattle.ws_steps.specs.declared.effects.Effect.{Effect}
use Rattle.ws_steps.specs.declared.effects.Effect.TheVariants.{Readable, Byte, ChunkSteps, CloseStepsWith}
use Rattle.ws_steps.specs.declared.readable.ReadableOperation.{ReadableOperation}
use Rattle.ws_steps.specs.declared.readable.ReadableOperation.TheVariants.{Cancel, CancelIfReadable}
use Rattle.ws_steps.specs.Bytes as byte
use Rattle.ws_steps.specs.Descriptors.{Descriptor}
use Rattle.ws_steps.specs.Queues.{is_empty}
use Rattle.ws_steps.specs.Readable as readable
use Rattle.ws_steps.specs.Slots.{Slots, has_byte, byte_at, stream_of_request}
use Rattle.ws_steps.specs.Turns.{row}
use Rattle.ws_steps.specs.Run.{Entry, Called, Worked, Heard, step, reply_to}
use Rattle.ws_steps.specs.Histories.{is_same, in_step, over}

-- the bytes of a queue
abbrev pub joined : List (List ℕ) → List ℕ
joined [] = []
joined (b ∷ bs) = b ++ joined bs

abbrev pub first_filled : List Descriptor → List ℕ
first_filled [] = []
first_filled (d ∷ ds) = d.filled

-- the bytes that a byte stream keeps: those that were filled into the room of the first descriptor, and then the queue
abbrev pub kept : byte.Slots → List ℕ
kept s = first_filled s.descriptors ++ joined s.queue

-- what went through a byte stream: the bytes that ReadableByteStreamControllerEnqueue accepted and those of responses while it was readable;
-- the bytes with which chunk steps, and close steps of read-into requests, were performed; whether a cancel closed it; whether a descriptor
-- was left when it closed; and whether there was a response once it was closed
pub record ByteFlow : Type 0 where
  pub entered : List ℕ
  pub given : List ℕ
  pub cancelled : Bool
  pub left : Bool
  pub answered : Bool

abbrev pub no_bytes : ByteFlow
no_bytes = record { entered = []; given = []; cancelled = false; left = false; answered = false }

-- first f, then g
abbrev pub bytes_then : ByteFlow → ByteFlow → ByteFlow
bytes_then f g =
    record {
      entered = f.entered ++ g.entered;
      given = f.given ++ g.given;
      cancelled = f.cancelled || g.cancelled;
      left = f.left || g.left;
      answered = f.answered || g.answered;
    }

abbrev pub value_bytes : Value → List ℕ
value_bytes (PlainValue r) = []
value_bytes (Bytes b) = b

-- a response fills a descriptor, where there is one
abbrev pub entered_into : List Descriptor → List ℕ → List ℕ
entered_into [] b = []
entered_into (d ∷ ds) b = b

-- the bytes that an operation lets in
abbrev pub entered_by : ByteOperation → byte.Slots → List ℕ
entered_by (Enqueue b) s = if byte.can_take s then b else []
entered_by (Respond b) s = if byte.may_respond (length b) s && readable.is_readable s.stream.state then entered_into s.descriptors b else []
entered_by _ s = []

abbrev pub cancels : ReadableOperation → Bool
cancels (Cancel reason p) = true
cancels (CancelIfReadable reason p) = true
cancels _ = false

abbrev pub responds : ByteOperation → Bool
responds (Respond b) = true
responds _ = false

-- from x to y the stream has closed, and a descriptor is left
abbrev pub closes_with_descriptor : byte.Slots → byte.Slots → Bool
closes_with_descriptor x y = readable.is_readable x.stream.state && byte.is_closed y.stream.state && not (is_empty y.descriptors)

-- an operation that either kind of controller has, from x to y
abbrev pub shared_bytes : ReadableOperation → byte.Slots → byte.Slots → ByteFlow
shared_bytes operation x y =
    record no_bytes { cancelled = cancels operation && readable.is_readable x.stream.state; left = closes_with_descriptor x y }

-- an operation of a byte controller, from x to y
abbrev pub own_bytes : ByteOperation → byte.Slots → byte.Slots → ByteFlow
own_bytes operation x y =
    record no_bytes {
      entered = entered_by operation x;
      left = closes_with_descriptor x y;
      answered = responds operation && byte.is_closed x.stream.state;
    }

-- what goes through byte stream i by an effect: an operation, or the steps of a request of it
abbrev pub effect_bytes : StreamId → Effect → Slots → ByteFlow
effect_bytes i (Readable j operation) s =
    if is_same i j then shared_bytes operation (byte_at j s) (byte_at j (row (Readable j operation) s).slots) else no_bytes
effect_bytes i (Byte j operation) s =
    if is_same i j then own_bytes operation (byte_at j s) (byte_at j (row (Byte j operation) s).slots) else no_bytes
effect_bytes i (ChunkSteps j request v) s = if is_same i j then record no_bytes { given = value_bytes v } else no_bytes
effect_bytes i (CloseStepsWith j request b) s = if is_same i j then record no_bytes { given = b } else no_bytes
effect_bytes i _ s = no_bytes

-- in a step
abbrev pub step_bytes : StreamId → Slots → Entry → ByteFlow
step_bytes i s x = in_step no_bytes bytes_then (effect_bytes i) s x

-- in a run
abbrev pub run_bytes : StreamId → List Entry → Slots → ByteFlow
run_bytes i xs s = over no_bytes bytes_then (step_bytes i) xs s

-- what calls tell: the bytes of those that enqueue into byte stream i, and that respond to a request of it

abbrev pub responded_to : StreamId → List ℕ → Option StreamId → List ℕ
responded_to i b None = []
responded_to i b (Some j) = if is_same i j then b else []

-- the bytes of a call that is answered Done
abbrev pub accepted_by : StreamId → Call → Slots → Reply → List ℕ
accepted_by i (EnqueueCall j v) s ReplyDone = if is_same i j && has_byte j s then value_bytes v else []
accepted_by i (RespondCall q b) s ReplyDone = responded_to i b (stream_of_request q s)
accepted_by i _ s _ = []

-- in a step
abbrev pub accepted_in_step : StreamId → Slots → Entry → List ℕ
accepted_in_step i s (Called c) = accepted_by i c s (reply_to c s)
accepted_in_step i s Worked = []
accepted_in_step i s Heard = []

-- in a run
abbrev pub accepted_bytes : StreamId → List Entry → Slots → List ℕ
accepted_bytes i [] s = []
accepted_bytes i (x ∷ xs) s = accepted_in_step i s x ++ accepted_bytes i xs (step s x)
