-- What a clause sees of an end of an edge, and what its calls do.
use Rattle.std.specs.Prelude.{◌≡◌, ℕ, ◌+◌, ◌^◌, ◌<◌, ◌≤◌, Bool, false, List, [], ◌∷◌, ◌++◌, length, if◌then◌else◌}
use Rattle.ws_value.specs.declared.value.Message.{Message}
use Rattle.ws_value.specs.declared.value.Message.TheVariants.{Error}
use Rattle.ws_value.specs.declared.value.Plain.{Plain}
use Rattle.ws_steps.specs.PortHistory.{has_end}
use Rattle.ws_port.specs.Ends.{Posted, Taken}

-- what was taken from the one row, what was posted to the other, what waits to be posted, in order, and whether the marks of what was posted are kept
pub record AtEdge : Type 0 where
  pub from : Taken
  pub to : Posted
  pub waiting : List Message
  pub traced : Bool

-- all that the end was given to post
abbrev pub given : AtEdge → List Message
given e = e.to.sent ++ e.waiting

-- from one moment to the next a first part of what waited was posted, and the rest waits
pub record PostsFirst (old new : AtEdge) : Type 0 where
  pub posted : List Message
  pub sent : new.to.sent ≡ old.to.sent ++ posted
  pub rest : old.waiting ≡ posted ++ new.waiting

-- in between it was looked whether the row has room, and the last look found eight messages in it
abbrev pub FindsFull : Posted → Posted → Type 0
FindsFull old new = (old.looks < new.looks) × (length new.sent ≡ new.seen + 8)

-- in between it was looked whether there is a message, and the last look found none
abbrev pub FindsNone : Taken → Taken → Type 0
FindsNone old new = (old.looks < new.looks) × (length new.received ≡ new.seen)

-- the last error, where neither a close nor an error was given before
abbrev pub last_error : Plain → AtEdge → List Message
last_error reason e = if has_end (given e) then [] else Error reason ∷ []

-- What an end keeps of all that it was given: how many messages that are, and whether a close or an error is among them. Until
-- then there is a place for a last error, and fewer than 2^62 were given
pub record IsCounted (all : List Message) (count : ℕ) (ended : Bool) (waiting capacity : ℕ) : Type 0 where
  pub counted : count ≡ length all
  pub few : count ≤ 2 ^ 62
  pub ended_is : ended ≡ has_end all
  pub place : ended ≡ false → waiting < capacity
  pub fewer : ended ≡ false → count < 2 ^ 62

-- From one moment of an end to a later one: this was taken, and more was given to be posted. Of what waited and was given a first
-- part was posted
pub record IsLater (old new : AtEdge) (taken more : List Message) : Type 0 where
  pub from_row : new.from.row ≡ old.from.row
  pub to_row : new.to.row ≡ old.to.row
  pub traced : new.traced ≡ old.traced
  pub received : new.from.received ≡ old.from.received ++ taken
  pub gives : given new ≡ given old ++ more
  pub posted : List Message
  pub sent : new.to.sent ≡ old.to.sent ++ posted
  pub from_looks : old.from.looks ≤ new.from.looks
  pub to_looks : old.to.looks ≤ new.to.looks
