-- The messages that a node takes as they stand, and what stands in the place of another one.
use Rattle.std.specs.Prelude.{nat_lt, Bool, true, false, if◌then◌else◌, List, length, map}
use Rattle.ws_value.specs.declared.fault.Fault.TheVariants.{TypeError}
use Rattle.ws_value.specs.declared.value.Message.{Message}
use Rattle.ws_value.specs.declared.value.Message.TheVariants.{Pull, Chunk, Close, Error}
use Rattle.ws_value.specs.declared.value.Plain.{Plain}
use Rattle.ws_value.specs.declared.value.Plain.TheVariants.{Undefined, Number, Fault as FaultReason, Pair, Local}
use Rattle.ws_value.specs.declared.value.Value.{Value}
use Rattle.ws_value.specs.declared.value.Value.TheVariants.{Plain as PlainValue, Bytes}
use Rattle.ws_value.specs.declared.fault.Fault.{Fault}
use Rattle.ws_value.specs.declared.fault.Fault.TheVariants as fault

-- a reason that a node may send on: a fault, but not that something couldn't be cloned
abbrev pub is_fair_fault : Fault → Bool
is_fair_fault fault.DataClone = false
is_fair_fault _ = true

abbrev pub is_fair_reason : Plain → Bool
is_fair_reason (FaultReason f) = is_fair_fault f
is_fair_reason Undefined = false
is_fair_reason (Number k) = false
is_fair_reason (Pair t) = false
is_fair_reason (Local k) = false

-- chunks are bytes, fewer than 2^25
abbrev pub is_fair_chunk : Value → Bool
is_fair_chunk (Bytes b) = nat_lt (length b) 33554432
is_fair_chunk (PlainValue v) = false

abbrev pub is_fair : Message → Bool
is_fair Pull = true
is_fair (Chunk v) = is_fair_chunk v
is_fair Close = true
is_fair (Error r) = is_fair_reason r

-- any other message is taken for an error. No node sends one
abbrev pub as_fair : Message → Message
as_fair m = if is_fair m then m else Error (FaultReason TypeError)

abbrev pub fairly : List Message → List Message
fairly ms = map as_fair ms
