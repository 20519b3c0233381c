-- What is seen of pull-into descriptors.
use Rattle.std.specs.Prelude.{◌≡◌, ℕ, ◌+◌, ◌%◌, ◌<◌, ◌≤◌, Bool, true, false, List, [], ◌++◌, length}
use Rattle.ws_steps.specs.declared.byte.RoomKind.{RoomKind}
use Rattle.ws_steps.specs.Descriptors.{Descriptor, Processed, process_descriptors}

-- what holds of a descriptor that waits: whole elements are wanted, there is room for them, and they aren't filled yet
pub record IsFine (d : Descriptor) : Type 0 where
  pub element : 0 < d.element
  pub whole : d.minimum % d.element ≡ 0
  pub wanted : length d.filled < d.minimum
  pub fits : d.minimum ≤ d.room

-- what there is room for
abbrev pub Takes : ℕ → Descriptor → Type 0
Takes n d = length d.filled + n ≤ d.room

-- a descriptor of whose room nothing is filled
abbrev pub unfilled : ℕ → ℕ → ℕ → RoomKind → Descriptor
unfilled room minimum element kind = record { filled = []; room = room; minimum = minimum; element = element; room_kind = kind }

-- descriptors that are ready before what processing goes on to leave
abbrev pub before : List Descriptor → Processed → Processed
before ready x = record x { ready = ready ++ x.ready }

-- processing goes on, or rests
abbrev pub processing : Bool → List Descriptor → List (List ℕ) → Processed
processing true ds queue = process_descriptors ds queue
processing false ds queue = record { ready = []; waiting = ds; queue = queue }
