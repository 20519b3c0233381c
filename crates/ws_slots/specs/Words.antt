-- How the values that are kept stand for the slots of promises.
use Rattle.std.specs.Prelude.{ℕ, zero, suc, ◌<◌, ◌≤◌, ◌||◌, not, is_some, true, ◌∷◌, [], Bool, false, ◌≡◌, List, Option, Some, None, slice_get, slice_set}
use Rattle.ws_value.specs.declared.value.Outcome.{Outcome}
use Rattle.ws_value.specs.declared.value.Outcome.TheVariants.{Pending, Fulfilled}
use Rattle.ws_value.specs.declared.value.Plain.TheVariants.{Undefined}
use Rattle.ws_steps.specs.Promises.{is_pending}
use Rattle.ws_steps.specs.declared.promises.Reaction.{Reaction}
use Rattle.ws_slots.specs.Slot.{Slot}
use Rattle.ws_slots.specs.declared.slots.Open.{Open}
use Rattle.ws_slots.specs.declared.slots.Settled.{Settled}
use Rattle.ws_jobs.specs.Shorts.{reaction_in}
use Rattle.ws_places.specs.Seen.{value_in}

-- the slots of promises by number, and for how many promises there are places
pub record SeenSlots : Type 0 where
  pub items : List (Option Slot)
  pub limit : ℕ

abbrev pub new_slot : Slot
new_slot = record { outcome = Pending; follows = false; waits = 0; rank = None; first = None }

-- the slot of a promise that was fulfilled with undefined
abbrev pub ended_slot : Option ℕ → Slot
ended_slot rank = record { outcome = Fulfilled Undefined; follows = false; waits = 0; rank = rank; first = None }

-- the slot of a pending promise
abbrev pub slot_of : Open → Slot
slot_of o = record { outcome = Pending; follows = o.follows; waits = o.waits; rank = o.rank; first = reaction_in o.first }

-- the slot of one that has settled
abbrev pub settled_slot : Settled → Slot
settled_slot s = record { outcome = s.outcome; follows = false; waits = 0; rank = s.rank; first = None }

abbrev pub slot_in : Option Open → Option Settled → Slot
slot_in (Some o) s = slot_of o
slot_in None (Some s) = settled_slot s
slot_in None None = ended_slot None

-- the slots of so many promises, of which the first has number k: one that takes no place was fulfilled with undefined
-- while nobody watched it
abbrev pub items_from : ℕ → ℕ → List (ℕ × Open) → List (ℕ × Settled) → List (Option Slot)
items_from k zero os ss = []
items_from k (suc n) os ss = Some (slot_in (value_in k os) (value_in k ss)) ∷ items_from (suc k) n os ss

-- each that has settled was given a number below n, and isn't pending
abbrev pub Apart : ℕ → List (ℕ × Open) → List (ℕ × Settled) → Type 0
Apart n os ss = (k : ℕ) (s : Settled) → value_in k ss ≡ Some s → (k < n) × (value_in k os ≡ None) × (is_pending s.outcome ≡ false)

-- whether there is such a promise that hasn't settled
abbrev pub is_pending_slot : Option (Option Slot) → Bool
is_pending_slot None = false
is_pending_slot (Some None) = false
is_pending_slot (Some (Some s)) = is_pending s.outcome

-- how many promises became watched before this one, where it is watched
abbrev pub rank_in : Option (Option Slot) → Option ℕ
rank_in None = None
rank_in (Some None) = None
rank_in (Some (Some s)) = s.rank

-- there is a promise with this number and this outcome
pub record HasOutcome (ss : List (Option Slot)) (i : ℕ) (outcome : Outcome) : Type 0 where
  pub slot : Slot
  pub there : slice_get ss i ≡ Some (Some slot)
  pub has : slot.outcome ≡ outcome

-- whether it has settled and nobody watches it
abbrev pub is_loose_slot : Slot → Bool
is_loose_slot s = not (is_pending s.outcome || is_some s.rank)

pub record IsLooseAt (ss : List (Option Slot)) (i : ℕ) : Type 0 where
  pub slot : Slot
  pub there : slice_get ss i ≡ Some (Some slot)
  pub loose : is_loose_slot slot ≡ true

abbrev pub IsSlotAt : List (Option Slot) → ℕ → Type 0
IsSlotAt ss i = (s : Slot) × (slice_get ss i ≡ Some (Some s))

-- of these from lo on and before hi none takes a place
abbrev pub NonePlaced : ℕ → ℕ → List (Option Slot) → Type 0
NonePlaced lo hi ss = (i : ℕ) (s : Slot) → lo ≤ i → i < hi → slice_get ss i ≡ Some (Some s) → s ≡ ended_slot None

-- of these from lo on and before hi each that has settled and that nobody watches was fulfilled with undefined
abbrev pub NoneSpent : ℕ → ℕ → List (Option Slot) → Type 0
NoneSpent lo hi ss =
    (i : ℕ) (s : Slot) → lo ≤ i → i < hi → slice_get ss i ≡ Some (Some s) → is_loose_slot s ≡ true → s ≡ ended_slot None

-- nobody waited for the promise of this number, and now this reaction does
pub record WaitsFirst (ss ts : List (Option Slot)) (i : ℕ) (r : Option Reaction) : Type 0 where
  pub slot : Slot
  pub there : slice_get ss i ≡ Some (Some slot)
  pub pending : is_pending slot.outcome ≡ true
  pub nobody : slot.waits ≡ 0
  pub written : ts ≡ slice_set ss i (Some (record slot { waits = 1; first = r }))
