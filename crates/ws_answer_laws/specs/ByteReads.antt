-- The reads of a byte stream, of readers of either kind: what is asked of it, and what becomes of a read.
use Rattle.std.specs.Prelude.{ℕ, Bool, false, not, ◌&&◌, ◌||◌, if◌then◌else◌, List, [], ◌∷◌, ◌++◌, length, Option, Some, None}
use Rattle.ws_value.specs.declared.ids.PromiseId.{PromiseId}
use Rattle.ws_value.specs.declared.ids.StreamId.{StreamId}
use Rattle.ws_value.specs.declared.value.Outcome.{Outcome}
use Rattle.ws_value.specs.declared.value.Outcome.TheVariants.{Given, Finished, Rejected}
use Rattle.ws_value.specs.declared.value.Plain.{Plain}
use Rattle.ws_value.specs.declared.value.Plain.TheVariants.{Undefined}
use Rattle.ws_value.specs.declared.value.Value.TheVariants.{Plain as PlainValue, Bytes}
use Rattle.ws_steps.specs.declared.byte.ByteOperation.{ByteOperation}
use Rattle.ws_steps.specs.declared.byte.ByteOperation.TheVariants.{PullInto, Respond}
use Rattle.ws_steps.specs.declared.calls.Call.{Call}
use Rattle.ws_steps.specs.declared.calls.Call.TheVariants.{Read as ReadCall, ReadInto as ReadIntoCall}
use Rattle.ws_steps.specs.declared.calls.Reply.{Reply}
use Rattle.ws_steps.specs.declared.effects.Effect.{Effect}
use Rattle.ws_steps.specs.declared.effects.Effect.TheVariants.{Readable, Byte}
use Rattle.ws_steps.specs.declared.locks.Lock.{Lock}
use Rattle.ws_steps.specs.declared.locks.Lock.TheVariants.{Reader, ByobReader, Writer, ReleasedWriter, Inner}
use Rattle.ws_steps.specs.declared.readable.ReadRequest.{ReadRequest}
use Rattle.ws_steps.specs.declared.readable.ReadableOperation.{ReadableOperation}
use Rattle.ws_steps.specs.declared.readable.ReadableOperation.TheVariants.{ReleaseReader, Read}
use Rattle.ws_steps.specs.Bytes as byte
use Rattle.ws_steps.specs.Descriptors.{Descriptor, is_for_nobody}
use Rattle.ws_steps.specs.Effects.{type_error}
use Rattle.ws_steps.specs.Histories.{is_same, in_step, over}
use Rattle.ws_steps.specs.LockCalls.{has_least}
use Rattle.ws_steps.specs.Queues.{is_empty}
use Rattle.ws_steps.specs.Readable as readable
use Rattle.ws_steps.specs.ReadableHistory.{named_by, asked_with}
use Rattle.ws_steps.specs.Slots.{Slots, has_byte, byte_at, lock_at}
use Rattle.ws_steps.specs.Run.{Entry, Called, Worked, Heard, reply_to, step}

-- the requests that ReadableStreamDefaultReaderRead and ReadableStreamBYOBReaderRead were given, in this order, in
-- every state of the stream; those of them that got in line behind the others that wait, and those that overtook one
-- that waits; those that waited where ReadableStreamReaderGenericRelease took their reader from the stream; and whether
-- a response put bytes into the queue beside a read that waits
pub record ByteReads : Type 0 where
  pub asked : List ReadRequest
  pub lined : List ReadRequest
  pub overtaking : List ReadRequest
  pub released : List ReadRequest
  pub spilled : Bool

abbrev pub no_reads : ByteReads
no_reads = record { asked = []; lined = []; overtaking = []; released = []; spilled = false }

-- first f, then g
abbrev pub reads_then : ByteReads → ByteReads → ByteReads
reads_then f g =
    record {
      asked = f.asked ++ g.asked;
      lined = f.lined ++ g.lined;
      overtaking = f.overtaking ++ g.overtaking;
      released = f.released ++ g.released;
      spilled = f.spilled || g.spilled;
    }

-- a read by a default reader finds bytes in the queue, and another read that waits; it gets these bytes
abbrev pub overtakes : byte.Slots → Bool
overtakes x = readable.is_readable x.stream.state && (not (is_empty x.queue) && not (is_empty x.stream.requests))

-- one read is asked, which overtakes one that waits or not
abbrev pub one_asked : ReadRequest → Bool → ByteReads
one_asked request over =
    record no_reads {
      asked = request ∷ [];
      lined = if over then [] else request ∷ [];
      overtaking = if over then request ∷ [] else [];
    }

-- an operation that either kind of controller has. A tee's request is for a source with a default controller
abbrev pub shared_reads : ReadableOperation → byte.Slots → ByteReads
shared_reads (Read request) x = if byte.is_of_tee request then no_reads else one_asked request (overtakes x)
shared_reads ReleaseReader x = record no_reads { released = readable.waiting x.stream }
shared_reads _ x = no_reads

-- whether the first room is that of a reader that was released
abbrev pub first_is_for_nobody : List Descriptor → Bool
first_is_for_nobody [] = false
first_is_for_nobody (d ∷ ds) = is_for_nobody d.room_kind

-- a response comes to such a room while a read waits: its bytes go to the queue, beside that read
abbrev pub spills : ByteOperation → byte.Slots → Bool
spills (Respond b) x =
    readable.is_readable x.stream.state && (first_is_for_nobody x.descriptors && not (is_empty x.stream.requests))
spills _ x = false

-- an operation of a byte controller
abbrev pub own_reads : ByteOperation → byte.Slots → ByteReads
own_reads (PullInto room element minimum request) x = one_asked request false
own_reads (Respond b) x = record no_reads { spilled = spills (Respond b) x }
own_reads _ x = no_reads

-- what is asked of byte stream i by an effect
abbrev pub effect_byte_reads : StreamId → Effect → Slots → ByteReads
effect_byte_reads i (Readable j operation) s =
    if is_same i j && has_byte j s then shared_reads operation (byte_at j s) else no_reads
effect_byte_reads i (Byte j operation) s =
    if is_same i j && has_byte j s then own_reads operation (byte_at j s) else no_reads
effect_byte_reads i _ s = no_reads

-- in a step
abbrev pub step_byte_reads : StreamId → Slots → Entry → ByteReads
step_byte_reads i s x = in_step no_reads reads_then (effect_byte_reads i) s x

-- in a run
abbrev pub run_byte_reads : StreamId → List Entry → Slots → ByteReads
run_byte_reads i xs s = over no_reads reads_then (step_byte_reads i) xs s

-- reads as calls tell them: the promises that are answered to calls that read

-- the promise of a read into a room by this lock, where that is a BYOB reader which has stream i
abbrev pub into_with : StreamId → Reply → Option Lock → List PromiseId
into_with i reply None = []
into_with i reply (Some (Reader stream closed)) = []
into_with i reply (Some (ByobReader None closed)) = []
into_with i reply (Some (ByobReader (Some j) closed)) = if is_same i j then named_by reply else []
into_with i reply (Some (Writer j)) = []
into_with i reply (Some (ReleasedWriter w)) = []
into_with i reply (Some Inner) = []

-- the promise of a call that reads from byte stream i. A call that wants more elements than its view has, or none, asks
-- no read
abbrev pub call_byte_asked : StreamId → Call → Slots → List PromiseId
call_byte_asked i (ReadCall l) s = if has_byte i s then asked_with i (reply_to (ReadCall l) s) (lock_at l s) else []
call_byte_asked i (ReadIntoCall l room element least) s =
    if has_byte i s && has_least (length room) element least
    then into_with i (reply_to (ReadIntoCall l room element least) s) (lock_at l s)
    else []
call_byte_asked i _ s = []

-- in a step
abbrev pub byte_asked_in_step : StreamId → Slots → Entry → List PromiseId
byte_asked_in_step i s (Called c) = call_byte_asked i c s
byte_asked_in_step i s Worked = []
byte_asked_in_step i s Heard = []

-- in a run
abbrev pub byte_asked_by_calls : StreamId → List Entry → Slots → List PromiseId
byte_asked_by_calls i [] s = []
byte_asked_by_calls i (x ∷ xs) s = byte_asked_in_step i s x ++ byte_asked_by_calls i xs (step s x)

-- what became of a read: it got bytes; the stream closed, and the room was handed back with these bytes, or there was
-- none; the stream errored, with this reason; or its reader was released while it waited
pub data ByteAnswer : Type 0 where
  Gets : List ℕ → ByteAnswer
  HandedBack : List ℕ → ByteAnswer
  Ends : ByteAnswer
  Fails : Plain → ByteAnswer
  Released : ByteAnswer

-- a read that was answered, and whether it overtook one that waited
pub record Answered : Type 0 where
  pub request : ReadRequest
  pub answer : ByteAnswer
  pub overtook : Bool

abbrev pub requests_of : List Answered → List ReadRequest
requests_of [] = []
requests_of (a ∷ more) = a.request ∷ requests_of more

-- those that got in line, and those that overtook one
abbrev pub in_line : List Answered → List Answered
in_line [] = []
in_line (a ∷ more) = if a.overtook then in_line more else a ∷ in_line more

abbrev pub overtakers : List Answered → List Answered
overtakers [] = []
overtakers (a ∷ more) = if a.overtook then a ∷ overtakers more else overtakers more

abbrev pub bytes_got : ByteAnswer → List ℕ
bytes_got (Gets b) = b
bytes_got (HandedBack b) = b
bytes_got _ = []

-- the bytes that they got, joined
abbrev pub all_bytes : List Answered → List ℕ
all_bytes [] = []
all_bytes (a ∷ more) = bytes_got a.answer ++ all_bytes more

abbrev pub if_released : ReadRequest → ByteAnswer → List ReadRequest
if_released request Released = request ∷ []
if_released request _ = []

-- the requests of those whose reader was released
abbrev pub released_of : List Answered → List ReadRequest
released_of [] = []
released_of (a ∷ more) = if_released a.request a.answer ++ released_of more

-- the outcome of the promise of a read that was answered so
abbrev pub answer_outcome : ByteAnswer → Outcome
answer_outcome (Gets b) = Given (Bytes b)
answer_outcome (HandedBack b) = Finished (Bytes b)
answer_outcome Ends = Finished (PlainValue Undefined)
answer_outcome (Fails e) = Rejected e
answer_outcome Released = Rejected type_error
