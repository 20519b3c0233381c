-- Events that a host has heard of.
use Rattle.std.specs.Prelude.{◌≡◌, ℕ, drop}
use Rattle.ws_steps.specs.Slots.{Slots, with_promises}

-- some of the first events were taken, and nothing else changed
pub record IsPartlyHeard (old new : Slots) : Type 0 where
  pub count : ℕ
  pub slots : new ≡ with_promises (record old.promises { events = drop count old.promises.events }) old
