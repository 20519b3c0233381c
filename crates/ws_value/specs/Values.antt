-- Values: which can be sent in a message, and how long they are.
use Rattle.std.specs.Prelude.{ℕ, Bool, true, false, length}
use Rattle.ws_value.specs.declared.value.Plain.{Plain}
use Rattle.ws_value.specs.declared.value.Plain.TheVariants.{Undefined, Number, Fault, Pair, Local}
use Rattle.ws_value.specs.declared.value.Value.{Value}
use Rattle.ws_value.specs.declared.value.Value.TheVariants.{Plain as PlainValue, Bytes}

-- whether a plain value can be cloned into a message: all but a tee's pair of reasons and a value of the host's own
abbrev pub is_cloneable : Plain → Bool
is_cloneable Undefined = true
is_cloneable (Number n) = true
is_cloneable (Fault f) = true
is_cloneable (Pair t) = false
is_cloneable (Local n) = false

-- the same of a value: bytes can always be cloned
abbrev pub is_value_cloneable : Value → Bool
is_value_cloneable (PlainValue p) = is_cloneable p
is_value_cloneable (Bytes chunk) = true

-- the byte length of a value, which is 0 where it isn't bytes
abbrev pub byte_length : Value → ℕ
byte_length (PlainValue p) = 0
byte_length (Bytes chunk) = length chunk
