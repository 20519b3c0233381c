-- What a room holds after its bytes were lent to be written.
use Rattle.std.specs.Prelude.{ℕ, List, ◌++◌, length, take, drop}

-- the room once these bytes were written at its front; it keeps its length
abbrev pub overwritten : List ℕ → List ℕ → List ℕ
overwritten room bytes = take (length room) (bytes ++ drop (length bytes) room)
