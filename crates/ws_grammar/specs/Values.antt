-- Names of objects, reasons and values.
use Rattle.std.specs.Prelude.{ℕ, ◌^◌, ◌==◌, if◌then◌else◌, List, [], ◌∷◌, Option, Some, None, option_map, codes, Result, Ok, Err}
use Rattle.std.specs.Str.{bytes_eq}
use Rattle.hex.specs.Hex.{decode_of}
use Rattle.hex.specs.declared.error.FromHexError.{FromHexError}
use Rattle.ws_value.specs.declared.ids.StreamId.{StreamId}
use Rattle.ws_value.specs.declared.ids.LockId.{LockId}
use Rattle.ws_value.specs.declared.ids.HostId.{HostId}
use Rattle.ws_value.specs.declared.ids.PortId.{PortId}
use Rattle.ws_value.specs.declared.ids.RequestId.{RequestId}
use Rattle.ws_value.specs.declared.ids.SignalId.{SignalId}
use Rattle.ws_value.specs.declared.fault.Fault.TheVariants.{User}
use Rattle.ws_value.specs.declared.value.Plain.{Plain}
use Rattle.ws_value.specs.declared.value.Plain.TheVariants.{Undefined, Number, Fault, Local}
use Rattle.ws_value.specs.declared.value.Value.{Value}
use Rattle.ws_value.specs.declared.value.Value.TheVariants.{Plain as PlainValue, Bytes}
use Rattle.ws_grammar.specs.Numbers.{number_below}

-- the number below the limit that stands after a letter
abbrev pub number_after : ℕ → ℕ → List ℕ → Option ℕ
number_after letter limit [] = None
number_after letter limit (first ∷ digits) = if first == letter then number_below limit digits else None

-- `s` (115) with a number below 2^32
abbrev pub stream_named : List ℕ → Option StreamId
stream_named word = option_map (λ number. record { 0 = number }) (number_after 115 (2 ^ 32) word)

-- `l` (108) with a number below 2^128
abbrev pub lock_named : List ℕ → Option LockId
lock_named word = option_map (λ number. record { 0 = number }) (number_after 108 (2 ^ 128) word)

-- `h` (104) with a number below 2^128
abbrev pub host_named : List ℕ → Option HostId
host_named word = option_map (λ number. record { 0 = number }) (number_after 104 (2 ^ 128) word)

-- `q` (113) with a number below 2^128
abbrev pub request_named : List ℕ → Option RequestId
request_named word = option_map (λ number. record { 0 = number }) (number_after 113 (2 ^ 128) word)

-- `a` (97) with a number below 2^128
abbrev pub signal_named : List ℕ → Option SignalId
signal_named word = option_map (λ number. record { 0 = number }) (number_after 97 (2 ^ 128) word)

-- `c` (99) with a number below 2^128
abbrev pub port_named : List ℕ → Option PortId
port_named word = option_map (λ number. record { 0 = number }) (number_after 99 (2 ^ 128) word)

-- a reason by its letter: `n` (110) with a number below 2^64, `e` (101) or `k` (107) with one below 2^32
abbrev pub lettered_reason : ℕ → List ℕ → Option Plain
lettered_reason letter digits =
    if letter == 110 then option_map Number (number_below (2 ^ 64) digits)
    else if letter == 101 then option_map (λ number. Fault (User number)) (number_below (2 ^ 32) digits)
    else if letter == 107 then option_map Local (number_below (2 ^ 32) digits)
    else None

-- a reason: `undefined`, or a letter and its number
abbrev pub reason_of : List ℕ → Option Plain
reason_of [] = None
reason_of (letter ∷ digits) =
    if bytes_eq (letter ∷ digits) (codes "undefined") then Some Undefined else lettered_reason letter digits

-- the bytes, if decoding gave some
abbrev pub bytes_if_decoded : Result (List ℕ) FromHexError → Option (List ℕ)
bytes_if_decoded (Ok bytes) = Some bytes
bytes_if_decoded (Err fault) = None

-- the bytes of an even number of hexadecimal digits, in either case
abbrev pub hex_bytes : List ℕ → Option (List ℕ)
hex_bytes digits = bytes_if_decoded (decode_of digits)

-- bytes: `x`, the byte 120, with hexadecimal digits
abbrev pub bytes_of : List ℕ → Option (List ℕ)
bytes_of [] = None
bytes_of (letter ∷ digits) = if letter == 120 then hex_bytes digits else None

-- a value: bytes, or a reason
abbrev pub value_of : List ℕ → Option Value
value_of [] = None
value_of (letter ∷ digits) =
    if letter == 120 then option_map Bytes (hex_bytes digits)
    else option_map PlainValue (reason_of (letter ∷ digits))
