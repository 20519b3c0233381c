-- Pull-into descriptors of a byte stream, and how their rooms are filled from its queue.
use Rattle.std.specs.Prelude.{ℕ, ◌+◌, ◌-◌, ◌%◌, min, Bool, true, false, nat_le, nat_lt, if◌then◌else◌, zero, suc, List, [], ◌∷◌, ◌++◌, length, Option, Some, None}
use Rattle.ws_value.specs.declared.fault.Fault.{Fault}
use Rattle.ws_value.specs.declared.fault.Fault.TheVariants.{TypeError, RangeError}
use Rattle.ws_steps.specs.declared.byte.RoomKind.{RoomKind}
use Rattle.ws_steps.specs.declared.byte.RoomKind.TheVariants.{ForDefault, ForByob, ForNobody}
use Rattle.ws_steps.specs.declared.readable.ReadableState.{ReadableState}
use Rattle.ws_steps.specs.declared.readable.ReadableState.TheVariants.{Closed}
use Rattle.ws_steps.specs.Queues.{total_bytes, front_bytes, after_bytes}

-- a pull-into descriptor: the bytes that were filled into its room, the length of the room, how many are to be filled at least, the size of
-- an element, and for whom
pub record Descriptor : Type 0 where
  pub filled : List ℕ
  pub room : ℕ
  pub minimum : ℕ
  pub element : ℕ
  pub room_kind : RoomKind

abbrev pub is_for_nobody : RoomKind → Bool
is_for_nobody ForDefault = false
is_for_nobody ForByob = false
is_for_nobody ForNobody = true

-- the first is kept, for nobody, and the others are dropped
abbrev pub without_reader : List Descriptor → List Descriptor
without_reader [] = []
without_reader (d ∷ ds) = record d { room_kind = ForNobody } ∷ []

-- all but the first
abbrev pub rest_of : List Descriptor → List Descriptor
rest_of [] = []
rest_of (d ∷ ds) = ds

-- the first descriptor has a part of an element
abbrev pub has_part : List Descriptor → Bool
has_part [] = false
has_part (d ∷ ds) = nat_lt 0 (length d.filled % d.element)

-- how many bytes have room in the view of a request
abbrev pub room_left : Descriptor → ℕ
room_left d = d.room - length d.filled

-- what filling a descriptor from the queue leaves: whether it is ready, itself, and the queue
pub record Filling : Type 0 where
  pub ready : Bool
  pub descriptor : Descriptor
  pub queue : List (List ℕ)

-- n bytes are taken from the queue's front
abbrev pub fill_with : ℕ → Bool → Descriptor → List (List ℕ) → Filling
fill_with n ready d queue =
    record { ready = ready; descriptor = record d { filled = d.filled ++ front_bytes n queue }; queue = after_bytes n queue }

-- ReadableByteStreamControllerFillPullIntoDescriptorFromQueue: m bytes could be filled, with which whole elements reach to a. Where these are
-- the minimum or more, fill up to a, and the descriptor is ready; else fill m
abbrev pub fill_from_queue : Descriptor → List (List ℕ) → Filling
fill_from_queue d queue =
    let m : ℕ = min (total_bytes queue) (d.room - length d.filled) in
    let a : ℕ = (length d.filled + m) - ((length d.filled + m) % d.element) in
    if nat_le d.minimum a then fill_with (a - length d.filled) true d queue else fill_with m false d queue

-- what processing descriptors leaves: those that are ready, the others, and the queue
pub record Processed : Type 0 where
  pub ready : List Descriptor
  pub waiting : List Descriptor
  pub queue : List (List ℕ)

abbrev pub also_ready : Descriptor → Processed → Processed
also_ready d x = record x { ready = d ∷ x.ready }

-- ReadableByteStreamControllerProcessPullIntoDescriptorsUsingQueue: descriptors are filled while there are bytes. One that isn't ready took
-- all that there were
abbrev pub process_descriptors : List Descriptor → List (List ℕ) → Processed
process_descriptors [] queue = record { ready = []; waiting = []; queue = queue }
process_descriptors (d ∷ ds) [] = record { ready = []; waiting = d ∷ ds; queue = [] }
process_descriptors (d ∷ ds) (b ∷ bs) =
    let f : Filling = fill_from_queue d (b ∷ bs) in
    elim f.ready [
      | true ↦ also_ready f.descriptor (process_descriptors ds f.queue)
      | false ↦ record { ready = []; waiting = f.descriptor ∷ ds; queue = f.queue }
    ]

-- what a response of n bytes throws
abbrev pub respond_throws : ℕ → ReadableState → List Descriptor → Option Fault
respond_throws zero Closed ds = None
respond_throws (suc n) Closed ds = Some TypeError
respond_throws zero _ ds = Some TypeError
respond_throws n _ [] = None
respond_throws n _ (d ∷ ds) = if nat_lt d.room (length d.filled + n) then Some RangeError else None
