-- What is seen of values by number.
use Rattle.std.specs.Prelude.{ℕ, nat_lt, ◌==◌, if◌then◌else◌, List, [], ◌∷◌, Option, Some, None}

-- the values that are kept, each with its number, in rising order; the number that is given next; and how many more
-- values there are places for
pub record SeenPlaces (T : Type 0) : Type 0 where
  pub kept : List (ℕ × T)
  pub next : ℕ
  pub spare : ℕ

module _ {T : Type 0} where
  -- the value of this number, where it is kept
  abbrev pub value_in : ℕ → List (ℕ × T) → Option T
  value_in n [] = None
  value_in n (x ∷ xs) = if x.0 == n then Some x.1 else value_in n xs

  -- all but that of this number
  abbrev pub without : ℕ → List (ℕ × T) → List (ℕ × T)
  without n [] = []
  without n (x ∷ xs) = if x.0 == n then without n xs else x ∷ without n xs

  -- the same with another value of this number, where it is kept
  abbrev pub with_value : ℕ → T → List (ℕ × T) → List (ℕ × T)
  with_value n v [] = []
  with_value n v (x ∷ xs) = (if x.0 == n then (n, v) else x) ∷ with_value n v xs

  -- the same with a value of this number, which has none, at its place in the order
  abbrev pub put_in : ℕ → T → List (ℕ × T) → List (ℕ × T)
  put_in n v [] = (n, v) ∷ []
  put_in n v (x ∷ xs) = if nat_lt n x.0 then (n, v) ∷ x ∷ xs else x ∷ put_in n v xs
