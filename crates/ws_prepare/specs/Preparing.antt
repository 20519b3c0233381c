-- The places that are made before a call or job.
use Rattle.std.specs.Prelude.{ℕ, ◌≡◌, ◌+◌, ◌*◌, ◌≤◌, ◌<◌, List, length, Some, slice_get, vec_len, vec_capacity}
use Rattle.ws_value.specs.declared.ids.SignalId.{SignalId}
use Rattle.ws_value.specs.declared.ids.StreamId.{StreamId}
use Rattle.ws_pipe.specs.Seen.{SeenSignal, HasMemberRoom}
use Rattle.ws_prepare.specs.declared.memory.TheConstants.{PLACES_FOR_EACH, PLACES_FOR_ANY}
use Rattle.ws_tables.specs.declared.tables.Stream.{Stream}
use Rattle.ws_tables.specs.declared.tables.Tables.{Tables}
use Rattle.ws_tables.specs.Room.{HasPlaces, EachHasPlaces, EachHasMembers, EachHasCopies}

-- so many places serve any list, beside those of read requests that wait
abbrev pub base_places : Tables → ℕ
base_places t = (t.aborts + vec_len t.tees) * PLACES_FOR_EACH + PLACES_FOR_ANY

-- no stream and no signal waits for places, and no tee for copies
pub record IsMade (t : Tables) : Type 0 where
  pub places : EachHasPlaces t.streams.items
  pub members : EachHasMembers 1 t.signals.items
  pub copies : EachHasCopies 1 t.tees.items

-- there are places for n effects
pub record HasTurns (n : ℕ) (t : Tables) : Type 0 where
  pub caused : n ≤ t.caused.capacity
  pub others : n ≤ vec_capacity t.others
  pub under_way : n ≤ vec_capacity t.under_way

-- there are places for n answers of hosts, to note n streams, and to note a signal
pub record HasNotes (n : ℕ) (t : Tables) : Type 0 where
  pub hosts : n + length t.hosts.items ≤ t.hosts.capacity
  pub grown : vec_len t.grown + n ≤ vec_capacity t.grown
  pub full : vec_len t.full < vec_capacity t.full

-- and for the records that a call can make
pub record HasRecords (t : Tables) : Type 0 where
  pub locks : vec_len t.locks + 2 ≤ vec_capacity t.locks
  pub byob_requests : vec_len t.byob_requests < vec_capacity t.byob_requests
  pub streams : vec_len t.streams + 2 ≤ vec_capacity t.streams
  pub transforms : vec_len t.transforms < vec_capacity t.transforms
  pub tees : vec_len t.tees < vec_capacity t.tees
  pub ports : vec_len t.ports < vec_capacity t.ports
  pub pipes : vec_len t.pipes < vec_capacity t.pipes
  pub signals : vec_len t.signals < vec_capacity t.signals

-- memory is taken

-- the stream of this number, where there is one, has places for any call or job
abbrev pub HasPlacesAt : StreamId → Tables → Type 0
HasPlacesAt i t = (x : Stream) → slice_get t.streams.items i.0 ≡ Some x → HasPlaces x

-- each stream that had such places has them
abbrev pub PlacesStay : List Stream → List Stream → Type 0
PlacesStay xs ys = (i : ℕ) (y : Stream) → slice_get ys i ≡ Some y → (x : Stream) × ((slice_get xs i ≡ Some x) × (HasPlaces x → HasPlaces y))

-- the signal of this number, where there is one, has a place for one pipe more
abbrev pub HasMembersAt : SignalId → Tables → Type 0
HasMembersAt a t = (x : SeenSignal) → slice_get t.signals.items a.0 ≡ Some x → HasMemberRoom 1 x

-- a signal has the same pipes, and no fewer places
pub record IsRoomier (x y : SeenSignal) : Type 0 where
  pub signal : y.signal ≡ x.signal
  pub room : x.room ≤ y.room

abbrev pub MembersGrow : List SeenSignal → List SeenSignal → Type 0
MembersGrow xs ys = (i : ℕ) (y : SeenSignal) → slice_get ys i ≡ Some y → (x : SeenSignal) × ((slice_get xs i ≡ Some x) × IsRoomier x y)

-- nothing changed beside the streams, and where places are to be made there
pub record StaysBesideStreams (t t' : Tables) : Type 0 where
  pub tables : t' ≡ record t { streams = t'.streams; grown = t'.grown }

-- nothing changed beside the signals, and where places are to be made there
pub record StaysBesideSignals (t t' : Tables) : Type 0 where
  pub tables : t' ≡ record t { signals = t'.signals; full = t'.full }

-- nothing changed beside the tees, and whether copies are to be made there
pub record StaysBesideTees (t t' : Tables) : Type 0 where
  pub tables : t' ≡ record t { tees = t'.tees; uncopied = t'.uncopied }
  pub length : vec_len t'.tees ≡ vec_len t.tees
  pub capacity : vec_capacity t'.tees ≡ vec_capacity t.tees

-- nothing changed beside the agenda
pub record StaysBesideAgenda (t t' : Tables) : Type 0 where
  pub tables : t' ≡ record t { caused = t'.caused; others = t'.others; under_way = t'.under_way }
