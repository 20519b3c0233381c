-- What is seen of a realm.
use Rattle.std.specs.Prelude.{ℕ, ◌^◌, ◌+◌, ◌≡◌, ◌<◌, Bool, true, false, Option, Some, None}
use Rattle.ws_value.specs.declared.ids.PromiseId.{PromiseId}
use Rattle.ws_value.specs.declared.value.Outcome.{Outcome}
use Rattle.ws_steps.specs.Promises.{outcome_at, rank_at}
use Rattle.ws_steps.specs.Run.{is_idle, work}
use Rattle.ws_steps.specs.Slots.{Slots}

-- its slots, and whether all memory was taken that the next call or job can need
pub record SeenRealm : Type 0 where
  pub slots : Slots
  pub prepared : Bool

-- the most calls and jobs of a realm
abbrev pub oldest : ℕ
oldest = 2 ^ 62

abbrev pub where_named : Option ℕ → Option Outcome → Option Outcome
where_named None outcome = None
where_named (Some rank) outcome = outcome

-- the state of a promise that a reply named
abbrev pub outcome_named : PromiseId → Slots → Option Outcome
outcome_named p s = where_named (rank_at s.promises p) (outcome_at s.promises p)

-- some jobs were performed whole, one after another, fewer than so many; the next, which is queued, was refused and changed nothing
pub record StopsWithin (most : ℕ) (r z : SeenRealm) : Type 0 where
  pub done : ℕ
  pub fewer : done < most
  pub slots : z.slots ≡ work done r.slots
  -- none of them was cut short: each counts in the age
  pub age : z.slots.age ≡ r.slots.age + done
  pub queued : is_idle z.slots ≡ false
  -- where memory was taken before, the first isn't refused
  pub prepared : r.prepared ≡ true → 0 < done
  pub untouched : done ≡ 0 → z ≡ r
