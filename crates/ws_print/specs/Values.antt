-- The text of values, reasons and faults.
use Rattle.std.specs.Prelude.{ℕ, List, ◌++◌, Option, Some, None, codes, decimal}
use Rattle.hex.specs.Hex.{encode_lower}
use Rattle.ws_value.specs.declared.fault.Fault.{Fault}
use Rattle.ws_value.specs.declared.fault.Fault.TheVariants.{TypeError, RangeError, DataClone, User, Read, Write, Stage, TooMuch, Abort, NoMemory}
use Rattle.ws_value.specs.declared.ids.TeeId.{TeeId}
use Rattle.ws_value.specs.declared.value.Plain.{Plain}
use Rattle.ws_value.specs.declared.value.Plain.TheVariants.{Undefined, Number, Fault as PlainFault, Pair, Local}
use Rattle.ws_value.specs.declared.value.Value.{Value}
use Rattle.ws_value.specs.declared.value.Value.TheVariants.{Plain as PlainValue, Bytes}

-- words and a number in decimal
abbrev pub numbered : List ℕ → ℕ → List ℕ
numbered words number = words ++ decimal number

-- a fault by its name, a host's own by `e` and its number
abbrev pub fault_text : Fault → List ℕ
fault_text TypeError = codes "TypeError"
fault_text RangeError = codes "RangeError"
fault_text DataClone = codes "DataClone"
fault_text (User number) = numbered (codes "e") number
fault_text Read = codes "Read"
fault_text Write = codes "Write"
fault_text (Stage index code place) =
    numbered (codes "Stage(") index ++ numbered (codes ",") code ++ numbered (codes ",") place ++ codes ")"
fault_text TooMuch = codes "TooMuch"
fault_text Abort = codes "Abort"
fault_text NoMemory = codes "NoMemory"

-- a plain value, as a script writes it. Of the two reasons that a tee keeps there is the word `pair` alone
abbrev pub lone_text : Plain → List ℕ
lone_text Undefined = codes "undefined"
lone_text (Number number) = numbered (codes "n") number
lone_text (PlainFault fault) = fault_text fault
lone_text (Pair tee) = codes "pair"
lone_text (Local number) = numbered (codes "k") number

-- the two reasons that a tee keeps, where they are known. Of a pair among them there is the word alone
abbrev pub pair_text : Option (Plain × Plain) → List ℕ
pair_text (Some (first, second)) = codes "[" ++ lone_text first ++ codes "," ++ lone_text second ++ codes "]"
pair_text None = codes "pair"

-- a plain value, with the two reasons that its tee keeps, where it is a pair
abbrev pub plain_text : Option (Plain × Plain) → Plain → List ℕ
plain_text pair Undefined = lone_text Undefined
plain_text pair (Number number) = lone_text (Number number)
plain_text pair (PlainFault fault) = lone_text (PlainFault fault)
plain_text pair (Pair tee) = pair_text pair
plain_text pair (Local number) = lone_text (Local number)

-- a value: a plain one, or `x` and the bytes in hexadecimal
abbrev pub value_text : Option (Plain × Plain) → Value → List ℕ
value_text pair (PlainValue plain) = plain_text pair plain
value_text pair (Bytes bytes) = codes "x" ++ encode_lower bytes

-- the tee whose reasons a plain value names, where it is a pair
abbrev pub tee_in : Plain → Option TeeId
tee_in Undefined = None
tee_in (Number number) = None
tee_in (PlainFault fault) = None
tee_in (Pair tee) = Some tee
tee_in (Local number) = None

abbrev pub tee_in_value : Value → Option TeeId
tee_in_value (PlainValue plain) = tee_in plain
tee_in_value (Bytes bytes) = None
