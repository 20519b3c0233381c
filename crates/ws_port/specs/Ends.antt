-- What a clause sees of the ends of a row, and what holds of them between two calls.
use Rattle.std.specs.Prelude.{◌≡◌, ℕ, ◌+◌, ◌≤◌, true, false, List, [], length, None}
use Rattle.atomic_table.specs.Table.{Me}
use Rattle.atomic_table.specs.Seated.{TableId}
use Rattle.ws_value.specs.declared.value.Message.{Message}
use Rattle.ws_port.specs.declared.rule.View.{View}
use Rattle.ws_port.specs.Rule.{Place}

-- which row the sender is of, what it posted, in order, how many of these it last found taken, and how often it looked
pub record Posted : Type 0 where
  pub row : TableId
  pub sent : List Message
  pub seen : ℕ
  pub looks : ℕ

-- which row the receiver is of, what it took, in order, how many it last found posted, and how often it looked
pub record Taken : Type 0 where
  pub row : TableId
  pub received : List Message
  pub seen : ℕ
  pub looks : ℕ

-- the seat is at this table, which has two words and eight places
abbrev pub IsAtRow : TableId → TableId → Type 0
IsAtRow table seat = (seat ≡ table) × (seat.words ≡ 2) × (seat.slots ≡ 8)

-- Between two calls the seat holds no place
abbrev pub CanPost : Me Place View → ℕ → Type 0
CanPost v posted = (v.1 ≡ []) × (v.0.sends ≡ true) × (v.0.outgoing.holds ≡ false) × (posted ≡ length v.0.outgoing.sent)

abbrev pub CanTake : Me Place View → ℕ → Type 0
CanTake v taken = (v.1 ≡ []) × (v.0.takes ≡ true) × (v.0.incoming.held ≡ None) × (taken ≡ length v.0.incoming.received)

-- a seat with both parts: at most eight more were sent than were received before, and no more are received now than were sent
abbrev pub IsWithin : View → View → Type 0
IsWithin old new = (length old.outgoing.sent ≤ length old.incoming.received + 8) × (length new.incoming.received ≤ length old.outgoing.sent)
