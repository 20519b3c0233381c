-- A room whose whole length was written holds what was written.
use Rattle.std.proofs.Common.{◌≡◌, ◌∙◌, ℕ, List, length, drop, arith}
use Rattle.std.proofs.lemmas.List.{take-append-le, take_all}
use Rattle.ws_value.specs.Room.{overwritten}

pub overwritten-whole : (room bytes : List ℕ) → length bytes ≡ length room → overwritten room bytes ≡ bytes
overwritten-whole room bytes same =
    take-append-le (length room) bytes (drop (length bytes) room) (omega arith) ∙ take_all (length room) bytes (omega arith)
