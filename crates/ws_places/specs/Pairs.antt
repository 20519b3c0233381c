-- How pairs of a number and a place stand for values by number.
use Rattle.std.specs.Prelude.{ℕ, suc, ◌≢◌, ◌<◌, ◌≤◌, List, [], ◌∷◌, ◌++◌, Option, Some, None, IsSome, slice_index_or}
use Rattle.ws_places.specs.declared.places.Pair.{Pair}

-- the numbers rise from lo on, and are below hi
abbrev pub Rising : ℕ → ℕ → List Pair → Type 0
Rising lo hi [] = Unit {0}
Rising lo hi (q ∷ qs) = (lo ≤ q.number) × (q.number < hi) × Rising (suc q.number) hi qs

-- no pair has this place
abbrev pub NotAt : ℕ → List Pair → Type 0
NotAt k [] = Unit {0}
NotAt k (q ∷ qs) = (q.place ≢ Some k) × NotAt k qs

abbrev pub Elsewhere : Option ℕ → List Pair → Type 0
Elsewhere None qs = Unit {0}
Elsewhere (Some k) qs = NotAt k qs

-- no two pairs have one place
abbrev pub Apart : List Pair → Type 0
Apart [] = Unit {0}
Apart (q ∷ qs) = Elsewhere q.place qs × Apart qs

module _ {T : Type 0} where
  -- the value at a place
  abbrev pub value_at : Option ℕ → List (Option T) → Option T
  value_at None ss = None
  value_at (Some k) ss = slice_index_or ss k None

  abbrev pub kept_by : ℕ → Option T → List (ℕ × T)
  kept_by n None = []
  kept_by n (Some v) = (n, v) ∷ []

  -- the values with their numbers
  abbrev pub kept_of : List Pair → List (Option T) → List (ℕ × T)
  kept_of [] ss = []
  kept_of (q ∷ qs) ss = kept_by q.number (value_at q.place ss) ++ kept_of qs ss

  abbrev pub IsThere : Option ℕ → List (Option T) → Type 0
  IsThere None ss = Unit {0}
  IsThere (Some k) ss = IsSome (slice_index_or ss k None)

  -- each place that a pair has has a value
  abbrev pub Held : List Pair → List (Option T) → Type 0
  Held [] ss = Unit {0}
  Held (q ∷ qs) ss = IsThere q.place ss × Held qs ss

  pub record IsSound (qs : List Pair) (ss : List (Option T)) (next : ℕ) : Type 0 where
    pub rising : Rising 0 next qs
    pub apart : Apart qs
    pub held : Held qs ss
