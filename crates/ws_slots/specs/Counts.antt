-- How many places hold a watched promise that is pending, and how many one that isn't watched.
use Rattle.std.specs.Prelude.{ℕ, zero, suc, ◌+◌, Bool, false, not, ◌||◌, is_some, if◌then◌else◌, [], ◌∷◌, List, Option, Some, None}
use Rattle.std.specs.List.{sum_by}
use Rattle.ws_steps.specs.Places.{unnoted_by}
use Rattle.ws_steps.specs.Promises.{is_pending}
use Rattle.ws_alike.specs.Alike.{is_undefined}
use Rattle.ws_slots.specs.Slot.{Slot}

abbrev pub one_where_some : Option ℕ → ℕ
one_where_some None = 0
one_where_some (Some rank) = 1

abbrev pub one_where_none : Option ℕ → ℕ
one_where_none None = 1
one_where_none (Some rank) = 0

-- 1 for a watched promise whose settling is yet to come
abbrev pub unnoted : Option Slot → ℕ
unnoted None = 0
unnoted (Some s) = unnoted_by s.outcome s.rank

-- 1 for a promise that isn't watched
abbrev pub unwatched : Option Slot → ℕ
unwatched None = 0
unwatched (Some s) = one_where_none s.rank

abbrev pub unnoted_in : List (Option Slot) → ℕ
unnoted_in ss = sum_by unnoted ss

abbrev pub unwatched_in : List (Option Slot) → ℕ
unwatched_in ss = sum_by unwatched ss

-- whether it is kept: it is no promise that was fulfilled with undefined while nobody watched it
abbrev pub is_kept_slot : Option Slot → Bool
is_kept_slot None = false
is_kept_slot (Some s) = is_pending s.outcome || (is_some s.rank || not (is_undefined s.outcome))

abbrev pub one_where_kept : Option Slot → ℕ
one_where_kept s = if is_kept_slot s then 1 else 0

-- how many of the first n are kept
abbrev pub kept_to : ℕ → List (Option Slot) → ℕ
kept_to zero ss = 0
kept_to (suc n) [] = 0
kept_to (suc n) (s ∷ ss) = one_where_kept s + kept_to n ss
