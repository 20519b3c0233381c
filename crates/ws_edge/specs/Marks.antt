-- The marks of messages: what each was, without what it carried. An end keeps those of what it posted, or none.
use Rattle.std.specs.Prelude.{◌≡◌, ℕ, ◌+◌, ◌≤◌, Bool, false, List, [], ◌∷◌, ◌++◌, length, map, Option, Some, None}
use Rattle.std.specs.Global.{Vec}
use Rattle.std.specs.Vec.{vec_capacity}
use Rattle.ws_value.specs.declared.value.Message.{Message}
use Rattle.ws_value.specs.declared.value.Message.TheVariants as message
use Rattle.ws_value.specs.declared.value.Value.TheVariants.{Plain, Bytes}
use Rattle.ws_edge.specs.declared.mark.Mark.{Mark}
use Rattle.ws_edge.specs.declared.mark.Mark.TheVariants.{Pull, Chunk, Close, Error}

abbrev pub mark_of : Message → Mark
mark_of message.Pull = Pull
mark_of (message.Chunk (Bytes bytes)) = Chunk (length bytes)
mark_of (message.Chunk (Plain v)) = Chunk 0
mark_of message.Close = Close
mark_of (message.Error reason) = Error

abbrev pub marks_of : List Message → List Mark
marks_of ms = map mark_of ms

-- those that are kept
abbrev pub kept : Option (Vec Mark) → Option (List Mark)
kept None = None
kept (Some marks) = Some marks.items

abbrev pub mark_by : Option (Vec Mark) → Message → Option Mark
mark_by None m = None
mark_by (Some marks) m = Some (mark_of m)

abbrev pub remembered : Option (List Mark) → Option Mark → Option (List Mark)
remembered (Some marks) (Some mark) = Some (marks ++ mark ∷ [])
remembered (Some marks) None = Some marks
remembered None mark = None

-- so many more may be kept without memory
abbrev pub HasRoom : Option (Vec Mark) → ℕ → Type 0
HasRoom None n = Unit {0}
HasRoom (Some marks) n = length marks.items + n ≤ vec_capacity marks

abbrev pub MarksAre : Option (List Mark) → List Message → Type 0
MarksAre None sent = Unit {0}
MarksAre (Some marks) sent = marks ≡ marks_of sent

-- What is kept is the marks of what was sent, with room for those of what waits, and until a close or an error was given for one more
pub record AreMarked (marks : Option (Vec Mark)) (sent : List Message) (waiting : ℕ) (ended : Bool) : Type 0 where
  pub are : MarksAre (kept marks) sent
  pub room : HasRoom marks waiting
  pub last : ended ≡ false → HasRoom marks (waiting + 1)
