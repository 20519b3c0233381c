-- What a read of the input gives.
use Rattle.std.specs.Prelude.{◌≡◌, ◌≤◌, ◌<◌, ℕ, List, [], length, Option, Result, Ok, Err}
use Rattle.ws_io.specs.Faults.{Rose}
use Rattle.ws_io.specs.Feed.{Feed, Fed, IsEmpty, IsEnded, KeepsEnd}
use Rattle.ws_io.specs.declared.outside.Failed.{Failed}

-- a read of the input with room for `want` bytes moved these, and none only where none were left
pub record IsPiece (old new : Option Feed) (before now want : ℕ) (piece : List ℕ) : Type 0 where
  pub moved : Fed old new piece
  pub short : length piece ≤ want
  pub calm : now ≡ before
  pub end : length piece ≡ 0 → IsEmpty old × IsEnded new
  pub before_end : 0 < length piece → KeepsEnd old new

-- the read failed, moved nothing, and isn't the end
pub record IsFailedRead (old new : Option Feed) (before now : ℕ) : Type 0 where
  pub moved : Fed old new []
  pub before_end : KeepsEnd old new
  pub rose : Rose before now

abbrev pub GivesPiece : Option Feed → Option Feed → ℕ → ℕ → ℕ → Result (List ℕ) Failed → Type 0
GivesPiece old new before now want (Ok piece) = IsPiece old new before now want piece
GivesPiece old new before now want (Err failed) = IsFailedRead old new before now
