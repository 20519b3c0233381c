-- How a script's text is read from an input.
use Rattle.std.specs.Prelude.{◌≡◌, ◌+◌, ◌≤◌, ℕ, List, ◌++◌, length, Option}
use Rattle.ws_io.specs.Faults.{Rose}
use Rattle.ws_io.specs.Feed.{Feed, Fed, IsEnded, IsEmpty}
use Rattle.ws_io.specs.declared.status.Status.{Status}
use Rattle.ws_io.specs.declared.status.Status.TheVariants.{ReadFault, NoMemory}
use Rattle.ws_grammar.specs.Lines.{most_bytes}

-- the most bytes that are read: one more than a script may have
abbrev pub most_of_a_text : ℕ
most_of_a_text = most_bytes + 1

-- one read moved so many bytes, at most `room`, to the end of the text; none came only where the input has ended
pub record ReadsMore (old new : Option Feed) (before now room count : ℕ) (text text' : List ℕ) : Type 0 where
  pub piece : List ℕ
  pub moved : Fed old new piece
  pub appended : text' ≡ text ++ piece
  pub counted : length piece ≡ count
  pub within : count ≤ room
  pub calm : now ≡ before
  pub end : count ≡ 0 → IsEnded new × IsEmpty new

-- these bytes were read without a fault: all that the input had, or more than a script may have
pub record ReadsText (old new : Option Feed) (before now : ℕ) (text : List ℕ) : Type 0 where
  pub moved : Fed old new text
  pub bound : length text ≤ most_of_a_text
  pub calm : now ≡ before
  pub end : length text ≤ most_bytes → IsEnded new × IsEmpty new

-- why reading stops: a read failed, or memory can't be had
abbrev pub IsReadStop : Status → ℕ → ℕ → Type 0
IsReadStop ReadFault before now = Rose before now
IsReadStop NoMemory before now = Unit {0}
IsReadStop _ before now = ⊥

-- reading stopped for such a cause, after some bytes, at most `most`
pub record StopsReading (status : Status) (most : ℕ) (old new : Option Feed) (before now : ℕ) : Type 0 where
  pub taken : List ℕ
  pub moved : Fed old new taken
  pub bound : length taken ≤ most
  pub cause : IsReadStop status before now
