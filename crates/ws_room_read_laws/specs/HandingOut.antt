-- What reads of a closed byte stream wait for, and what a response hands out to them.
use Rattle.std.specs.Prelude.{◌≡◌, ℕ, ◌%◌, true, if◌then◌else◌, List, [], ◌∷◌, length, None}
use Rattle.ws_value.specs.declared.ids.StreamId.{StreamId}
use Rattle.ws_steps.specs.declared.effects.Effect.{Effect}
use Rattle.ws_steps.specs.declared.effects.Effect.TheVariants.{CloseStepsWith}
use Rattle.ws_steps.specs.declared.readable.ReadRequest.{ReadRequest}
use Rattle.ws_steps.specs.declared.readable.ReadableState.TheVariants.{Closed}
use Rattle.ws_steps.specs.Bytes as byte
use Rattle.ws_steps.specs.Descriptors.{Descriptor, is_for_nobody}
use Rattle.ws_steps.specs.Promises.{Table}
use Rattle.ws_steps.specs.Slots.{Slots, has_byte, byte_at, empty}
use Rattle.ws_steps.specs.Run.{Entry, run}

-- the rooms that aren't for nobody; only the first may be
abbrev pub rooms_of : List Descriptor → List Descriptor
rooms_of [] = []
rooms_of (d ∷ ds) = if is_for_nobody d.room_kind then ds else d ∷ ds

abbrev pub AllWhole : List Descriptor → Type 0
AllWhole [] = Unit {0}
AllWhole (d ∷ ds) = (length d.filled % d.element ≡ 0) × AllWhole ds

-- each request gets what was filled into the room at its place, with its close steps
abbrev pub hand_out : StreamId → List ReadRequest → List Descriptor → List Effect
hand_out me [] ds = []
hand_out me (r ∷ rs) [] = []
hand_out me (r ∷ rs) (d ∷ ds) = CloseStepsWith me r d.filled ∷ hand_out me rs ds

pub record IsHandedOut (me : StreamId) (x : byte.Slots) : Type 0 where
  pub each : length (rooms_of x.descriptors) ≡ length x.stream.requests
  pub whole : AllWhole (rooms_of x.descriptors)
  pub response : (t : Table) → byte.respond me [] (record { slots = x; out = record { promises = t; effects = [] } })
      ≡ record {
        slots = record x { stream = record x.stream { requests = [] }; descriptors = []; request = None };
        out = record { promises = t; effects = hand_out me x.stream.requests (rooms_of x.descriptors) };
      }

abbrev pub EachClosedRoomIsHandedOut : Type 0
EachClosedRoomIsHandedOut =
    (entries : List Entry) (i : StreamId) → let x : byte.Slots = byte_at i (run entries empty) in
    has_byte i (run entries empty) ≡ true → x.stream.state ≡ Closed → byte.has_byob_reader x ≡ true → IsHandedOut i x
