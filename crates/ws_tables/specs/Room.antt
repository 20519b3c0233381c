-- The places in memory that a realm has, and those that it may come to need.
use Rattle.std.specs.Prelude.{ℕ, zero, suc, ◌≡◌, ◌+◌, ◌*◌, ◌≤◌, ◌<◌, ◌⊎◌, List, [], ◌∷◌, length, Option, Some, None, false, ⊤, Contains, slice_get, vec_len, vec_capacity}
use Rattle.std.specs.Global.{Vec}
use Rattle.ws_value.specs.declared.ids.SignalId.{SignalId}
use Rattle.ws_value.specs.declared.ids.StreamId.{StreamId}
use Rattle.ws_pipe.specs.Seen.{SeenSignal, HasMemberRoom, aborts_of}
use Rattle.ws_promise.specs.Seen.{Room, HasPromiseRoom, HasJobRoom, HasEventRoom, HasRoom}
use Rattle.ws_byte.specs.Seen.{Lists as ByteLists, HasSpares}
use Rattle.ws_queue.specs.Seen.{Lists as TwoLists}
use Rattle.ws_tee.specs.Seen.{SeenTee, CanHand}
use Rattle.ws_steps.specs.declared.effects.Effect.{Effect}
use Rattle.ws_steps.specs.Pipes as pipe
use Rattle.ws_steps.specs.Places.{Prices, own, prices_of, steps_price, abort_price, tees_keep, turns_alone, promises_alone, jobs_alone, events_alone, hosts_alone, queued_alone, requests_alone, requests_at, members_alone, descriptors_alone, copies_alone}
use Rattle.ws_steps.specs.Slots.{Slots, Stream as SeenStream, ReadableStream, ByteStream, WritableStream, reads_any}
use Rattle.ws_steps.specs.Tee as tee
use Rattle.ws_tables.specs.View.{slots_of}
use Rattle.ws_tables.specs.declared.tables.Stream.{Stream}
use Rattle.ws_tables.specs.declared.tables.Stream.TheVariants.{Readable, Bytes, Writable}
use Rattle.ws_tables.specs.declared.tables.Tables.{Tables}

-- the lists of a stream: the places that they have, and the entries in them

-- a byte stream alone has a list of descriptors
pub record Lists : Type 0 where
  pub queue : ℕ
  pub requests : ℕ
  pub descriptors : Option ℕ

abbrev pub two_lists : TwoLists → Lists
two_lists l = record { queue = l.queue; requests = l.requests; descriptors = None }

abbrev pub byte_lists : ByteLists → Lists
byte_lists l = record { queue = l.queue; requests = l.requests; descriptors = Some l.descriptors }

abbrev pub room_of : Stream → Lists
room_of (Readable r) = two_lists r.room
room_of (Bytes b) = byte_lists b.room
room_of (Writable w) = two_lists w.room

-- each descriptor has a place in the queue, to which its bytes may go
abbrev pub queued_in : Stream → ℕ
queued_in (Readable r) = length r.slots.queue
queued_in (Bytes b) = length b.slots.queue + length b.slots.descriptors
queued_in (Writable w) = length w.slots.queue

abbrev pub requested_in : Stream → ℕ
requested_in (Readable r) = length r.slots.requests
requested_in (Bytes b) = length b.slots.stream.requests
requested_in (Writable w) = length w.slots.write_requests

abbrev pub described_in : Stream → ℕ
described_in (Readable r) = 0
described_in (Bytes b) = length b.slots.descriptors
described_in (Writable w) = 0

-- so many have places, where there is such a list
abbrev pub IsWithin : ℕ → Option ℕ → Type 0
IsWithin n None = ⊤
IsWithin n (Some m) = n ≤ m

-- there are places for q more entries of the queue, r more requests and d more descriptors
pub record HasLists (q r d : ℕ) (x : Stream) : Type 0 where
  pub queue : q + queued_in x ≤ (room_of x).queue
  pub requests : r + requested_in x ≤ (room_of x).requests
  pub descriptors : IsWithin (d + described_in x) (room_of x).descriptors

-- in each stream, for so many requests by its number
abbrev pub EachHasLists : ℕ → (ℕ → ℕ) → ℕ → List Stream → Type 0
EachHasLists q r d xs = (i : ℕ) (x : Stream) → slice_get xs i ≡ Some x → HasLists q (r i) d x

-- a byte stream whose controller allocates rooms has n of them
abbrev pub HasRooms : ℕ → Stream → Type 0
HasRooms n (Readable r) = ⊤
HasRooms n (Bytes b) = HasSpares n b
HasRooms n (Writable w) = ⊤

-- and so has each
abbrev pub EachHasRooms : ℕ → List Stream → Type 0
EachHasRooms n xs = (i : ℕ) (x : Stream) → slice_get xs i ≡ Some x → HasRooms n x

abbrev pub RoomsStay : List Stream → List Stream → Type 0
RoomsStay xs ys = (n : ℕ) → EachHasRooms n xs → EachHasRooms n ys

-- a stream has places for what any call or job adds, and more
abbrev pub HasPlaces : Stream → Type 0
HasPlaces x = HasLists 4 4 4 x × HasRooms 1 x

abbrev pub EachHasPlaces : List Stream → Type 0
EachHasPlaces xs = (i : ℕ) (x : Stream) → slice_get xs i ≡ Some x → HasPlaces x

-- each stream has them, or they are to be made there
abbrev pub AllCovered : List StreamId → List Stream → Type 0
AllCovered grown xs = (i : StreamId) (x : Stream) → slice_get xs i.0 ≡ Some x → HasPlaces x ⊎ Contains grown i

abbrev pub IsCovered : Tables → Type 0
IsCovered t = AllCovered t.grown.items t.streams.items

-- the places in the list of a signal
abbrev pub members_room : SeenSignal → ℕ
members_room x = x.room

-- in the list of each signal there are places for m more pipes
abbrev pub EachHasMembers : ℕ → List SeenSignal → Type 0
EachHasMembers m xs = (i : ℕ) (x : SeenSignal) → slice_get xs i ≡ Some x → HasMemberRoom m x

-- each signal has a place for one pipe more, or places are to be made there
abbrev pub AllHaveMembers : List SignalId → List SeenSignal → Type 0
AllHaveMembers full xs = (a : SignalId) (x : SeenSignal) → slice_get xs a.0 ≡ Some x → HasMemberRoom 1 x ⊎ Contains full a

abbrev pub HaveMembers : Tables → Type 0
HaveMembers t = AllHaveMembers t.full.items t.signals.items

-- what a tee holds can be handed on, where n chunks are handed on
abbrev pub HasCopies : ℕ → SeenTee → Type 0
HasCopies zero x = ⊤
HasCopies (suc n) x = CanHand x

abbrev pub EachHasCopies : ℕ → List SeenTee → Type 0
EachHasCopies n xs = (i : ℕ) (x : SeenTee) → slice_get xs i ≡ Some x → HasCopies n x

-- each tee can hand on what it holds, unless copies are to be made
abbrev pub IsCopied : Tables → Type 0
IsCopied t = t.uncopied ≡ false → EachHasCopies 1 t.tees.items

-- each tee reads one of the n streams that there are, and no two read the same
abbrev pub HaveOwnSources : ℕ → List tee.Slots → Type 0
HaveOwnSources n [] = ⊤
HaveOwnSources n (x ∷ xs) = (x.source.0 < n) × ((reads_any x.source xs ≡ false) × HaveOwnSources n xs)

abbrev pub AreSourced : Slots → Type 0
AreSourced s = HaveOwnSources (length s.streams) s.tees

-- the places that the tables have, beside those in the lists of streams and signals, and the list for the effect under way
pub record Places : Type 0 where
  pub promises : Room
  pub hosts : ℕ
  pub caused : ℕ
  pub others : ℕ
  pub under_way : Vec Effect
  pub grown : ℕ
  pub full : ℕ

abbrev pub places_of : Tables → Places
places_of t =
    record {
      promises = t.promises.room;
      hosts = t.hosts.capacity;
      caused = t.caused.capacity;
      others = vec_capacity t.others;
      under_way = t.under_way;
      grown = vec_capacity t.grown;
      full = vec_capacity t.full;
    }

-- what is kept for later: the read requests that wait, the aborts of pipes by signals that weren't triggered, and what tees do to their sources

abbrev pub waits_of : SeenStream → ℕ
waits_of (ReadableStream r) = length r.requests
waits_of (ByteStream b) = length b.stream.requests
waits_of (WritableStream w) = 0

abbrev pub waiting_in : List SeenStream → ℕ
waiting_in [] = 0
waiting_in (x ∷ xs) = waits_of x + waiting_in xs

abbrev pub aborts_in : List pipe.Signal → ℕ
aborts_in [] = 0
aborts_in (x ∷ xs) = aborts_of x + aborts_in xs

-- and what that may take
abbrev pub later : Prices → Tables → ℕ
later π t = t.waiting * steps_price π + t.aborts * abort_price π + tees_keep π (slots_of t).tees

-- each pipe made a promise for each of its writes that haven't settled
abbrev pub AreCounted : ℕ → List pipe.Slots → Type 0
AreCounted n xs = (i : ℕ) (x : pipe.Slots) → slice_get xs i ≡ Some x → x.unsettled ≤ n

abbrev pub IsCounted : Slots → Type 0
IsCounted s = AreCounted (length s.promises.entries) s.pipes

-- each transform stream was made with two streams, and each tee, so there are no more of them than streams
abbrev pub HasFew : Slots → Type 0
HasFew s = (length s.transforms ≤ length s.streams) × (length s.tees ≤ length s.streams)

-- what holds of the tables at each moment: how many read requests wait is known and how many pipes a trigger would abort, and in which
-- streams and signals places are to be made, and whether copies of chunks are
pub record IsKept (t : Tables) : Type 0 where
  pub waiting : t.waiting ≡ waiting_in (slots_of t).streams
  pub covered : IsCovered t
  pub aborts : t.aborts ≡ aborts_in (slots_of t).signals
  pub members : HaveMembers t
  pub copied : IsCopied t
  pub sourced : AreSourced (slots_of t)
  pub counted : IsCounted (slots_of t)
  pub few : HasFew (slots_of t)

-- the requests that these effects, and tees, may yet make at stream i
abbrev pub asked : List Effect → Tables → ℕ → ℕ
asked es t i = prices_of (requests_at (record { 0 = i })) es + tees_keep (requests_at (record { 0 = i })) (slots_of t).tees

-- there are copies of chunks, where the first of these effects hands one on. None behind it does
abbrev pub AreCopied : List Effect → Tables → Type 0
AreCopied [] t = ⊤
AreCopied (e ∷ es) t = EachHasCopies (own copies_alone e) t.tees.items × (prices_of copies_alone es ≡ 0)

-- there are places for these effects and all that comes of them, and to watch one promise: that takes a place for an event, and one for the
-- promise where it took none any more
pub record HasRoomForAll (es : List Effect) (t : Tables) : Type 0 where
  pub promises : HasPromiseRoom (prices_of promises_alone es + later promises_alone t + 1) t.promises
  pub jobs : HasJobRoom (prices_of jobs_alone es + later jobs_alone t) t.promises
  pub events : HasEventRoom (prices_of events_alone es + later events_alone t + 1) t.promises
  pub hosts : prices_of hosts_alone es + later hosts_alone t + length t.hosts.items ≤ t.hosts.capacity
  pub caused : prices_of turns_alone es + later turns_alone t + 6 ≤ t.caused.capacity
  pub others : prices_of turns_alone es + later turns_alone t + 6 ≤ vec_capacity t.others
  pub lists : EachHasLists (prices_of queued_alone es) (asked es t) (prices_of descriptors_alone es) t.streams.items
  -- one descriptor may come yet, at most, and each byte stream has a room for it
  pub once : prices_of descriptors_alone es ≤ 1
  pub rooms : EachHasRooms (prices_of descriptors_alone es) t.streams.items
  pub grown : prices_of queued_alone es + prices_of requests_alone es + tees_keep requests_alone (slots_of t).tees + vec_len t.grown ≤ vec_capacity t.grown
  pub members : EachHasMembers (prices_of members_alone es) t.signals.items
  pub full : prices_of members_alone es + vec_len t.full ≤ vec_capacity t.full
  pub copies : AreCopied es t

-- so many for each read request that waits, so many for each pipe that a trigger would abort, so many for each tee, and so many more
abbrev pub places_for : ℕ → ℕ → ℕ → ℕ → Tables → ℕ
places_for a_wait an_abort a_tee more t = t.waiting * a_wait + t.aborts * an_abort + vec_len t.tees * a_tee + more

-- there are places for all that the next call or job adds to the records that there are, whichever it is
pub record IsReady (t : Tables) : Type 0 where
  pub promises : HasRoom (places_for 0 8 3 15 t) t.promises
  pub jobs : HasJobRoom (places_for 1 7 5 11 t) t.promises
  pub hosts : places_for 0 2 2 3 t + length t.hosts.items ≤ t.hosts.capacity
  pub caused : places_for 2 14 15 34 t ≤ t.caused.capacity
  pub others : places_for 2 14 15 34 t ≤ vec_capacity t.others
  pub under_way : places_for 2 14 15 34 t ≤ vec_capacity t.under_way
  -- beside the source of each tee, a call or job adds four entries to queues and two requests at most, or makes two streams
  pub grown : vec_len t.grown + places_for 0 0 1 6 t ≤ vec_capacity t.grown
  pub places : EachHasPlaces t.streams.items
  pub full : vec_len t.full < vec_capacity t.full
  pub members : EachHasMembers 1 t.signals.items
  pub copies : EachHasCopies 1 t.tees.items

-- and for the records that a call makes: a job makes none, nor does the enqueuing of a chunk
pub record IsPrepared (t : Tables) : Type 0 where
  pub ready : IsReady t
  pub locks : vec_len t.locks + 2 ≤ vec_capacity t.locks
  pub byob_requests : vec_len t.byob_requests < vec_capacity t.byob_requests
  pub streams : vec_len t.streams + 2 ≤ vec_capacity t.streams
  pub transforms : vec_len t.transforms < vec_capacity t.transforms
  pub tees : vec_len t.tees < vec_capacity t.tees
  pub ports : vec_len t.ports < vec_capacity t.ports
  pub pipes : vec_len t.pipes < vec_capacity t.pipes
  pub signals : vec_len t.signals < vec_capacity t.signals

-- between calls and jobs: no effect waits
pub record IsResting (t : Tables) : Type 0 where
  pub caused : t.caused.effects ≡ []
  pub others : t.others.items ≡ []
  pub under_way : t.under_way.items ≡ []
  pub kept : IsKept t

-- nothing changed that concerns the lists of streams and signals, and no pipe and no tee
pub record KeepsRecords (t t' : Tables) : Type 0 where
  pub streams : t'.streams ≡ t.streams
  pub grown : t'.grown ≡ t.grown
  pub waiting : t'.waiting ≡ t.waiting
  pub pipes : t'.pipes ≡ t.pipes
  pub signals : t'.signals ≡ t.signals
  pub full : t'.full ≡ t.full
  pub aborts : t'.aborts ≡ t.aborts
  pub tees : t'.tees ≡ t.tees
  pub uncopied : t'.uncopied ≡ t.uncopied

-- so many places are enough for these effects and all that comes of them
abbrev pub AreEnough : ℕ → List Effect → Tables → Type 0
AreEnough n es t = prices_of turns_alone es + later turns_alone t + 6 ≤ n

-- the list for the effect under way is empty, and has places enough
pub record CanTurn (es : List Effect) (v : Vec Effect) (t : Tables) : Type 0 where
  pub empty : v.items ≡ []
  pub places : AreEnough (vec_capacity v) es t
