-- The lines of a task: its reply, its events, and whether a job is still queued. Each ends with a line feed.
use Rattle.std.specs.Prelude.{ℕ, Bool, true, false, List, [], ◌++◌, Option, Some, None, codes, decimal}
use Rattle.ws_value.specs.declared.ids.HostId.{HostId}
use Rattle.ws_value.specs.declared.ids.PortId.{PortId}
use Rattle.ws_value.specs.declared.ids.StreamId.{StreamId}
use Rattle.ws_value.specs.declared.ids.TeeId.{TeeId}
use Rattle.ws_value.specs.declared.value.Message.{Message}
use Rattle.ws_value.specs.declared.value.Message.TheVariants.{Pull as PullMessage, Chunk as ChunkMessage, Close as CloseMessage, Error as ErrorMessage}
use Rattle.ws_value.specs.declared.value.Outcome.{Outcome}
use Rattle.ws_value.specs.declared.value.Plain.{Plain}
use Rattle.ws_value.specs.declared.value.Outcome.TheVariants.{Pending, Fulfilled, Given, Finished, Rejected}
use Rattle.ws_steps.specs.declared.calls.HostCall.{HostCall}
use Rattle.ws_steps.specs.declared.calls.HostCall.TheVariants.{Start, Pull, Cancel, Write, Close, Abort, Transform, Flush, CancelTransform}
use Rattle.ws_steps.specs.declared.calls.Reply.{Reply}
use Rattle.ws_print.specs.Values.{numbered, plain_text, value_text, tee_in, tee_in_value}
use Rattle.ws_print.specs.Replies.{promise_name, reply_text}

-- the reply to the call on the script's line of this number
abbrev pub reply_line : ℕ → Option ℕ → Reply → List ℕ
reply_line number rank reply = decimal number ++ codes " " ++ reply_text rank reply ++ codes "\n"

-- what follows is told with the two reasons that a tee keeps, where what an event tells is a pair

-- a call of a host's algorithm, with the stream that it is for
abbrev pub host_call_text : Option (Plain × Plain) → HostCall → List ℕ
host_call_text pair (Start stream) = numbered (codes "start s") stream.0
host_call_text pair (Pull stream) = numbered (codes "pull s") stream.0
host_call_text pair (Cancel stream reason) = numbered (codes "cancel s") stream.0 ++ codes " " ++ plain_text pair reason
host_call_text pair (Write stream value) = numbered (codes "write s") stream.0 ++ codes " " ++ value_text pair value
host_call_text pair (Close stream) = numbered (codes "close s") stream.0
host_call_text pair (Abort stream reason) = numbered (codes "abort s") stream.0 ++ codes " " ++ plain_text pair reason
host_call_text pair (Transform stream value) =
    numbered (codes "transform s") stream.0 ++ codes " " ++ value_text pair value
host_call_text pair (Flush stream) = numbered (codes "flush s") stream.0
host_call_text pair (CancelTransform stream reason) =
    numbered (codes "canceltransform s") stream.0 ++ codes " " ++ plain_text pair reason

-- the event of such a call, with the number by which the host settles its promise
abbrev pub host_text : Option (Plain × Plain) → HostId → HostCall → List ℕ
host_text pair id call = numbered (codes "  host h") id.0 ++ codes " " ++ host_call_text pair call ++ codes "\n"

-- the state of a promise, with its result
abbrev pub outcome_text : Option (Plain × Plain) → Outcome → List ℕ
outcome_text pair Pending = codes "pending"
outcome_text pair (Fulfilled plain) = codes "fulfilled " ++ plain_text pair plain
outcome_text pair (Given value) = codes "given " ++ value_text pair value
outcome_text pair (Finished value) = codes "finished " ++ value_text pair value
outcome_text pair (Rejected reason) = codes "rejected " ++ plain_text pair reason

-- the same, or `unknown` of a promise that isn't there
abbrev pub outcome_if_known : Option (Plain × Plain) → Option Outcome → List ℕ
outcome_if_known pair (Some outcome) = outcome_text pair outcome
outcome_if_known pair None = codes "unknown"

-- the event of a promise that has settled
abbrev pub settled_text : Option (Plain × Plain) → Option ℕ → Option Outcome → List ℕ
settled_text pair rank outcome = codes "  " ++ promise_name rank ++ codes " " ++ outcome_if_known pair outcome ++ codes "\n"

-- the event of a writable stream's first abort, with its reason
abbrev pub signal_text : Option (Plain × Plain) → StreamId → Plain → List ℕ
signal_text pair stream reason = numbered (codes "  signal s") stream.0 ++ codes " " ++ plain_text pair reason ++ codes "\n"

-- a message, as a script writes it. A pair can't be cloned, so no message that is posted has one
abbrev pub message_text : Message → List ℕ
message_text PullMessage = codes "pull"
message_text (ChunkMessage value) = codes "chunk " ++ value_text None value
message_text CloseMessage = codes "close"
message_text (ErrorMessage reason) = codes "error " ++ plain_text None reason

-- the event of a message that was posted
abbrev pub post_text : PortId → Message → List ℕ
post_text port message = numbered (codes "  post c") port.0 ++ codes " " ++ message_text message ++ codes "\n"

-- the line that says that a job is still queued, where one is
abbrev pub again_text : Bool → List ℕ
again_text true = codes "  again\n"
again_text false = []

-- the tee whose two reasons a call of a host's algorithm tells, where it tells a pair
abbrev pub tee_in_call : HostCall → Option TeeId
tee_in_call (Start stream) = None
tee_in_call (Pull stream) = None
tee_in_call (Cancel stream reason) = tee_in reason
tee_in_call (Write stream value) = tee_in_value value
tee_in_call (Close stream) = None
tee_in_call (Abort stream reason) = tee_in reason
tee_in_call (Transform stream value) = tee_in_value value
tee_in_call (Flush stream) = None
tee_in_call (CancelTransform stream reason) = tee_in reason

-- the tee whose two reasons a promise has settled with, where it has with a pair
abbrev pub tee_in_outcome : Option Outcome → Option TeeId
tee_in_outcome None = None
tee_in_outcome (Some Pending) = None
tee_in_outcome (Some (Fulfilled plain)) = tee_in plain
tee_in_outcome (Some (Given value)) = tee_in_value value
tee_in_outcome (Some (Finished value)) = tee_in_value value
tee_in_outcome (Some (Rejected reason)) = tee_in reason
