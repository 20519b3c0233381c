-- What a run with workers needs before its first turn.
use Rattle.std.specs.Prelude.{◌≡◌, ◌≤◌, ℕ, [], vec_capacity, vec_len}
use Rattle.ws_runner.specs.declared.ready.Ready.{Ready}

-- there are so many workers, and room for as many nodes, handed out and handed back
pub record IsReadyFor (count : ℕ) (ready : Ready) : Type 0 where
  pub workers : vec_len ready.workers ≡ count
  pub no_places : ready.places.items ≡ []
  pub places : count ≤ vec_capacity ready.places
  pub none_back : ready.room.items ≡ []
  pub room : count ≤ vec_capacity ready.room
