-- Numbers in decimal.
use Rattle.std.specs.Prelude.{ℕ, Bool, false, ◌==◌, ◌&&◌, not, nat_lt, List, [], ◌∷◌, Option, Some, None, if◌then◌else◌}
use Rattle.std.specs.Char.{is_ascii_digit}
use Rattle.std.specs.List.{list_all}
use Rattle.std.specs.Str.Parse.{digits_value}

-- whether a word is made of decimal digits, at least one, of which the first is 0 only where it stands alone
abbrev pub is_decimal : List ℕ → Bool
is_decimal [] = false
is_decimal (digit ∷ []) = is_ascii_digit digit
is_decimal (first ∷ second ∷ rest) = not (first == 48) && list_all is_ascii_digit (first ∷ second ∷ rest)

-- the number that a word stands for, if it is a decimal number below the limit
abbrev pub number_below : ℕ → List ℕ → Option ℕ
number_below limit word =
    if is_decimal word && nat_lt (digits_value 10 word) limit then Some (digits_value 10 word) else None
