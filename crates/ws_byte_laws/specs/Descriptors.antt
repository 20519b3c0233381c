-- What every byte stream keeps: its pull-into descriptors, its queue and its BYOB request.
use Rattle.std.specs.Prelude.{◌≡◌, ◌≢◌, ◌<◌, ◌≤◌, ◌*◌, ℕ, true, List, [], ◌∷◌, length, Option, Some, None}
use Rattle.ws_value.specs.declared.ids.PromiseId.{PromiseId}
use Rattle.ws_value.specs.declared.ids.StreamId.{StreamId}
use Rattle.ws_steps.specs.declared.byte.ReaderKind.{ReaderKind}
use Rattle.ws_steps.specs.declared.byte.ReaderKind.TheVariants.{Default, Byob}
use Rattle.ws_steps.specs.declared.byte.RoomKind.{RoomKind}
use Rattle.ws_steps.specs.declared.byte.RoomKind.TheVariants.{ForDefault, ForByob, ForNobody}
use Rattle.ws_steps.specs.declared.readable.ReadableState.TheVariants.{Readable, Closed, Errored}
use Rattle.ws_steps.specs.Bytes as byte
use Rattle.ws_steps.specs.Descriptors.{Descriptor}
use Rattle.ws_steps.specs.Slots.{Slots, has_byte, byte_at, empty}
use Rattle.ws_steps.specs.Run.{Entry, run}

-- a descriptor that waits: its minimum is of whole elements, isn't reached yet, and fits into the room
pub record Fit (d : Descriptor) : Type 0 where
  pub units : ℕ
  pub whole : d.minimum ≡ d.element * units
  pub short : length d.filled < d.minimum
  pub room : d.minimum ≤ d.room
  pub element : d.room_kind ≡ ForDefault → d.element ≡ 1
  pub minimum : d.room_kind ≡ ForDefault → d.minimum ≡ 1

-- a descriptor behind the first: it is for the reader that the stream has, and nothing is filled
pub record Later (r : RoomKind) (d : Descriptor) : Type 0 where
  pub fit : Fit d
  pub empty : d.filled ≡ []
  pub room_kind : d.room_kind ≡ r

abbrev pub AllLater : RoomKind → List Descriptor → Type 0
AllLater r [] = Unit {0}
AllLater r (d ∷ ds) = Later r d × AllLater r ds

-- for whom the rooms are that a stream's reader reads into
abbrev pub reads : Option PromiseId → ReaderKind → RoomKind
reads None kind = ForNobody
reads (Some closed) Default = ForDefault
reads (Some closed) Byob = ForByob

-- The first descriptor, by what it is for: beside the reader, its filled bytes, the number of the others, the queue, and the number of
-- requests. One that a BYOB reader reads into has an empty queue, and as many requests as there are descriptors wait at least. One that was
-- allocated for a default reader has an empty queue while a read waits. One whose reader was released has an empty queue once it has bytes,
-- and each of the others has a request
abbrev pub First : RoomKind → RoomKind → List ℕ → ℕ → List (List ℕ) → ℕ → Type 0
First ForNobody r filled others queue n = (filled ≢ [] → queue ≡ []) × (others ≤ n) × (r ≡ ForDefault → n ≢ 0 → queue ≡ []) × (r ≡ ForNobody → n ≡ 0)
First ForByob r filled others queue n = (r ≡ ForByob) × (queue ≡ []) × (others < n)
First ForDefault r filled others queue n = (r ≡ ForDefault) × (others ≤ n) × (n ≢ 0 → queue ≡ [])

-- the descriptors of a readable stream
abbrev pub Good : RoomKind → List Descriptor → List (List ℕ) → ℕ → Type 0
Good r [] queue n = r ≡ ForNobody → n ≡ 0
Good r (d ∷ ds) queue n = Fit d × AllLater r ds × First d.room_kind r d.filled (length ds) queue n

-- no descriptor but the first has filled bytes
abbrev pub AllEmpty : List Descriptor → Type 0
AllEmpty [] = Unit {0}
AllEmpty (d ∷ ds) = (d.filled ≡ []) × AllEmpty ds

abbrev pub OnlyFirst : List Descriptor → Type 0
OnlyFirst [] = Unit {0}
OnlyFirst (d ∷ ds) = AllEmpty ds

abbrev pub requests_of : byte.Slots → ℕ
requests_of s = length s.stream.requests

abbrev pub IsGood : byte.Slots → Type 0
IsGood s = Good (reads s.stream.reader s.reader_kind) s.descriptors s.queue (requests_of s)

-- what a stream keeps of its descriptors and its queue, by its state
pub record Held (s : byte.Slots) : Type 0 where
  pub readable : s.stream.state ≡ Readable → IsGood s
  pub closed : s.stream.state ≡ Closed → (s.queue ≡ []) × OnlyFirst s.descriptors
  pub errored : s.stream.state ≡ Errored → (s.queue ≡ []) × (s.descriptors ≡ [])

-- a BYOB request that lives stands for a descriptor: while the stream is readable there is one, and an errored stream has no request
pub record Backed (x : byte.Slots) : Type 0 where
  pub live : x.stream.state ≡ Readable → x.descriptors ≡ [] → x.request ≡ None
  pub dead : x.stream.state ≡ Errored → x.request ≡ None

pub record Sound (x : byte.Slots) : Type 0 where
  pub held : Held x
  pub backed : Backed x

abbrev pub EachByteStreamIsSound : Type 0
EachByteStreamIsSound = (entries : List Entry) (i : StreamId) → let s : Slots = run entries empty in has_byte i s ≡ true → Sound (byte_at i s)
