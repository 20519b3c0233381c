-- What an input and an output tell at one moment.
use Rattle.std.specs.Prelude.{◌≡◌, ℕ, Bool, Option}
use Rattle.ws_io.specs.Feed.{Feed}

-- their counts of faults, the input's bytes, and whether the output is finished
pub record Moment : Type 0 where
  pub read_faults : ℕ
  pub write_faults : ℕ
  pub feed : Option Feed
  pub finished : Option Bool

abbrev pub moment : ℕ → Option Feed → ℕ → Option Bool → Moment
moment read_faults feed write_faults finished =
    record { read_faults = read_faults; write_faults = write_faults; feed = feed; finished = finished }

-- neither count rose
pub record NoFault (old new : Moment) : Type 0 where
  pub read : new.read_faults ≡ old.read_faults
  pub write : new.write_faults ≡ old.write_faults
