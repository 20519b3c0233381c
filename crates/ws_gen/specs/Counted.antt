-- What a sink keeps of bytes that it only counts.
use Rattle.std.specs.Prelude.{◌≡◌, ◌-◌, ◌^◌, ◌==◌, ℕ, List, count_by, length, min, sum}

-- up to the last value of a `u128`
abbrev pub capped : ℕ → ℕ
capped n = min n (2 ^ 128 - 1)

-- how many bytes there are, how many of them are line feeds, and their sum; at its last value a count stands for that or more
pub record Counted (bytes newlines total : ℕ) (xs : List ℕ) : Type 0 where
  pub bytes_are : bytes ≡ capped (length xs)
  pub newlines_are : newlines ≡ capped (count_by (λ x. x == 10) xs)
  pub total_is : total ≡ capped (sum xs)
