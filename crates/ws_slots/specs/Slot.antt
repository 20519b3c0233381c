-- The slot of a promise, as it is seen.
use Rattle.std.specs.Prelude.{ℕ, Bool, Option}
use Rattle.ws_value.specs.declared.value.Outcome.{Outcome}
use Rattle.ws_steps.specs.declared.promises.Reaction.{Reaction}

-- a promise: its state and result, whether it follows another, how many reactions wait for it, how many became watched
-- before it, where it is watched, and the reaction that stands beside it, which was registered first
pub record Slot : Type 0 where
  pub outcome : Outcome
  pub follows : Bool
  pub waits : ℕ
  pub rank : Option ℕ
  pub first : Option Reaction
