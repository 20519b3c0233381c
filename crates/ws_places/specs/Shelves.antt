-- How values, and the places whose values were let go of, stand for what lies at each place.
use Rattle.std.specs.Prelude.{ℕ, suc, ◌≡◌, ◌<◌, ◌≤◌, ◌+◌, ◌==◌, Bool, true, false, if◌then◌else◌, List, [], ◌∷◌, length, Option, Some, None}

-- what lies at each place, and for how many more values there are places
pub record SeenShelf (T : Type 0) : Type 0 where
  pub slots : List (Option T)
  pub spare : ℕ

-- whether the place is one of these
abbrev pub is_among : ℕ → List ℕ → Bool
is_among k [] = false
is_among k (f ∷ fs) = if f == k then true else is_among k fs

-- no place stands twice among these
abbrev pub Distinct : List ℕ → Type 0
Distinct [] = Unit {0}
Distinct (f ∷ fs) = (is_among f fs ≡ false) × Distinct fs

-- each of these is below n
abbrev pub Within : ℕ → List ℕ → Type 0
Within n [] = Unit {0}
Within n (f ∷ fs) = (f < n) × Within n fs

module _ {T : Type 0} where
  abbrev pub slot_of : Bool → T → Option T
  slot_of true v = None
  slot_of false v = Some v

  -- what lies at these places, of which the first has number k
  abbrev pub slots_from : ℕ → List T → List ℕ → List (Option T)
  slots_from k [] fs = []
  slots_from k (v ∷ vs) fs = slot_of (is_among k fs) v ∷ slots_from (suc k) vs fs

  -- how many values there are
  abbrev pub one_where_some : Option T → ℕ
  one_where_some None = 0
  one_where_some (Some v) = 1

  abbrev pub count_some : List (Option T) → ℕ
  count_some [] = 0
  count_some (o ∷ os) = one_where_some o + count_some os

  -- each place whose value was let go of is told of once, and there is room to tell of each
  pub record IsShelf (vs : List T) (fs : List ℕ) (room : ℕ) : Type 0 where
    pub distinct : Distinct fs
    pub within : Within (length vs) fs
    pub count : count_some (slots_from 0 vs fs) + length fs ≡ length vs
    pub enough : length vs ≤ room
