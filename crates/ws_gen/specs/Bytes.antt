-- Bytes that are made of a number.
use Rattle.std.specs.Prelude.{ℕ, zero, suc, ◌+◌, ◌*◌, ◌%◌, ◌==◌, List, [], ◌∷◌, slice_index, if◌then◌else◌}
use Rattle.hex.specs.Hex.{lower_digits}

-- the number after another
abbrev pub next_number : ℕ → ℕ
next_number x = (75 * x + 74) % 65537

abbrev pub number_after : ℕ → ℕ → ℕ
number_after zero x = x
number_after (suc n) x = number_after n (next_number x)

-- its byte: a line feed, or else a digit
abbrev pub byte_of : ℕ → ℕ
byte_of x = if x % 64 == 0 then 10 else slice_index lower_digits (x % 16)

-- so many bytes, of the numbers after this one
abbrev pub generated : ℕ → ℕ → List ℕ
generated zero x = []
generated (suc n) x = byte_of (next_number x) ∷ generated n (next_number x)
