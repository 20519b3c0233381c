-- The stages by their kinds: how each is read from a pipeline file, and its text.
use Rattle.std.specs.Prelude.{ℕ, ℤ, pos, List, [], ◌∷◌, ◌++◌, codes, Result, Ok, Err, if◌then◌else◌}
use Rattle.std.specs.Fmt.{signed_decimal}
use Rattle.std.specs.Str.{bytes_eq}
use Rattle.hex.specs.declared.error.FromHexError.{FromHexError}
use Rattle.hex.specs.Hex.{decode_of, encode_lower}
use Rattle.toml.specs.Data.{Members}
use Rattle.ws_flow.specs.declared.plan.Stage.{Stage}
use Rattle.ws_flow.specs.declared.plan.Stage.TheVariants.{Lines, Fixed, Hex, Unhex, Mask, Number, Frame, Unframe}
use Rattle.ws_flow.specs.declared.refusal.Refusal.{Refusal}
use Rattle.ws_flow.specs.declared.refusal.Refusal.TheVariants.{WrongKey, UnknownKind}
use Rattle.ws_plan.specs.Keys.{◌>>=◌, integer_or, some_integer, some_text, only}

-- the keys that each stage may have, and one or none of its kind's own
abbrev pub stage_keys : List (List ℕ) → List (List ℕ)
stage_keys own = codes "kind" ∷ codes "worker" ∷ own

-- a stage with no key of its own
abbrev pub plain_of : Stage → Members → Result Stage Refusal
plain_of stage ms = only (stage_keys []) ms >>= λ u. Ok stage

-- the key `max`
abbrev pub most_of : Members → Result ℤ Refusal
most_of ms = only (stage_keys (codes "max" ∷ [])) ms >>= λ u. integer_or (pos 65536) (codes "max") ms

abbrev pub lines_of : Members → Result Stage Refusal
lines_of ms = most_of ms >>= λ most. Ok (Lines most)

abbrev pub unframe_of : Members → Result Stage Refusal
unframe_of ms = most_of ms >>= λ most. Ok (Unframe most)

abbrev pub fixed_of : Members → Result Stage Refusal
fixed_of ms = only (stage_keys (codes "n" ∷ [])) ms >>= λ u. (some_integer (codes "n") ms >>= λ n. Ok (Fixed n))

-- the bytes of a mask's key
abbrev pub key_of : Result (List ℕ) FromHexError → Result (List ℕ) Refusal
key_of (Ok bytes) = Ok bytes
key_of (Err e) = Err WrongKey

abbrev pub mask_of : Members → Result Stage Refusal
mask_of ms =
    only (stage_keys (codes "key" ∷ [])) ms >>= λ u. (some_text (codes "key") ms >>= λ digits. (key_of (decode_of digits) >>= λ key. Ok (Mask key)))

-- a stage of this kind, if it is one
abbrev pub of_kind : List ℕ → Members → Result Stage Refusal
of_kind kind ms =
    if bytes_eq kind (codes "lines") then lines_of ms
    else if bytes_eq kind (codes "fixed") then fixed_of ms
    else if bytes_eq kind (codes "hex") then plain_of Hex ms
    else if bytes_eq kind (codes "unhex") then plain_of Unhex ms
    else if bytes_eq kind (codes "mask") then mask_of ms
    else if bytes_eq kind (codes "number") then plain_of Number ms
    else if bytes_eq kind (codes "frame") then plain_of Frame ms
    else if bytes_eq kind (codes "unframe") then unframe_of ms
    else Err UnknownKind

-- words and a number in decimal
abbrev pub numbered : List ℕ → ℤ → List ℕ
numbered words n = words ++ signed_decimal n

-- a stage's kind, with its number or its key
abbrev pub stage_text : Stage → List ℕ
stage_text (Lines most) = numbered (codes "lines ") most
stage_text (Fixed n) = numbered (codes "fixed ") n
stage_text Hex = codes "hex"
stage_text Unhex = codes "unhex"
stage_text (Mask key) = codes "mask " ++ encode_lower key
stage_text Number = codes "number"
stage_text Frame = codes "frame"
stage_text (Unframe most) = numbered (codes "unframe ") most
