-- What a clause sees of the ends of a row.
use Rattle.std.specs.Prelude.{List}
use Rattle.atomic_table.specs.Seated.{TableId}
use Rattle.ws_value.specs.declared.value.Message.{Message}

-- which row the sender is of, and what it posted, in order
pub record Posted : Type 0 where
  pub row : TableId
  pub sent : List Message

-- which row the receiver is of, and what it took, in order
pub record Taken : Type 0 where
  pub row : TableId
  pub received : List Message
