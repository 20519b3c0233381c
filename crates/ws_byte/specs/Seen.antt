-- What is seen of the record of a byte stream.
use Rattle.std.specs.Prelude.{ℕ, ◌+◌, ◌<◌, ◌≤◌, Bool, true, false, List, [], ◌∷◌, ◌++◌, length, Option, Some, None, if◌then◌else◌, ⊤}
use Rattle.ws_value.specs.declared.ids.StreamId.{StreamId}
use Rattle.ws_promise.specs.Seen.{Seen, SeenAgenda, out_of}
use Rattle.ws_queue.specs.Seen.{SeenByteQueue}
use Rattle.ws_descriptors.specs.Seen.{Takes}
use Rattle.ws_readable.specs.Seen.{SeenReadable}
use Rattle.ws_steps.specs.declared.byte.ByteOperation.{ByteOperation}
use Rattle.ws_steps.specs.declared.readable.ReadRequest.{ReadRequest}
use Rattle.ws_steps.specs.declared.readable.ReadRequest.TheVariants.{Promise, Pipe, Tee}
use Rattle.ws_steps.specs.declared.readable.ReadableOperation.{ReadableOperation}
use Rattle.ws_steps.specs.declared.readable.ReadableOperation.TheVariants.{Read}
use Rattle.ws_steps.specs.Bytes.{Slots, Acts, with_slots, process_requests}
use Rattle.ws_steps.specs.Descriptors.{Descriptor, is_for_nobody, room_left}
use Rattle.ws_steps.specs.Queues.{append_bytes}
use Rattle.ws_steps.specs.Places.{own_readable, own_byte, queued_alone, requests_alone, descriptors_alone}

-- the places in memory for entries of the queue, for requests, and for descriptors
pub record Lists : Type 0 where
  pub queue : ℕ
  pub requests : ℕ
  pub descriptors : ℕ

-- the slots, those places, and how many rooms there are that the controller may give to a descriptor
pub record SeenByteStream : Type 0 where
  pub slots : Slots
  pub room : Lists
  pub spares : ℕ

abbrev pub count : {A : Type 0} → Option A → ℕ
count None = 0
count (Some x) = 1

-- there are places for n more: in the queue besides those for the descriptors, of which each may give its bytes to the queue
abbrev pub HasQueueRoom : ℕ → SeenByteStream → Type 0
HasQueueRoom n s = n + (length s.slots.queue + length s.slots.descriptors) ≤ s.room.queue

abbrev pub HasRequestRoom : ℕ → SeenByteStream → Type 0
HasRequestRoom n s = n + length s.slots.stream.requests ≤ s.room.requests

abbrev pub HasDescriptorRoom : ℕ → SeenByteStream → Type 0
HasDescriptorRoom n s = n + length s.slots.descriptors ≤ s.room.descriptors

-- where the controller allocates rooms, there are n
abbrev pub HasSpares : ℕ → SeenByteStream → Type 0
HasSpares n s = 0 < s.slots.auto → n ≤ s.spares

pub record HasRoom (n : ℕ) (s : SeenByteStream) : Type 0 where
  pub queue : HasQueueRoom n s
  pub requests : HasRequestRoom n s
  pub descriptors : HasDescriptorRoom n s
  pub spare : HasSpares 1 s

-- the rooms that an operation gives to descriptors
abbrev pub spares_to : ReadRequest → ℕ
spares_to (Promise p) = 1
spares_to (Pipe p) = 1
spares_to (Tee t) = 0

abbrev pub spares_for : ReadableOperation → ℕ
spares_for (Read request) = spares_to request
spares_for _ = 0

-- there are places for what an operation of stream i takes by itself
pub record HasRoomFor (i : StreamId) (operation : ReadableOperation) (s : SeenByteStream) : Type 0 where
  pub queue : HasQueueRoom 0 s
  pub requests : HasRequestRoom (own_readable requests_alone i operation) s
  pub descriptors : HasDescriptorRoom (own_readable descriptors_alone i operation) s
  pub spares : HasSpares (spares_for operation) s

pub record HasByteRoomFor (operation : ByteOperation) (s : SeenByteStream) : Type 0 where
  pub queue : HasQueueRoom (own_byte queued_alone operation) s
  pub requests : HasRequestRoom (own_byte requests_alone operation) s
  pub descriptors : HasDescriptorRoom (own_byte descriptors_alone operation) s

-- a stream, the promises and the agenda, as an operation of the stream finds and leaves them
abbrev pub acts_of : SeenByteStream → Seen → SeenAgenda → Acts
acts_of s p fx = record { slots = s.slots; out = out_of p fx }

-- the same with another stream part and another queue
abbrev pub acts_with : Slots → SeenReadable → SeenByteQueue → Seen → SeenAgenda → Acts
acts_with s r q p fx = record { slots = record s { stream = r.slots; queue = q.entries }; out = out_of p fx }

-- the requests that wait are served from the queue, or not
abbrev pub serving : StreamId → Bool → Acts → Acts
serving me true a = process_requests me a.slots.stream.requests a
serving me false a = a

-- the first descriptor has room for n bytes more, where there is one
abbrev pub FirstTakes : ℕ → List Descriptor → Type 0
FirstTakes n [] = ⊤
FirstTakes n (d ∷ ds) = Takes n d

-- the first descriptor is for nobody
abbrev pub is_renounced : List Descriptor → Bool
is_renounced [] = false
is_renounced (d ∷ ds) = is_for_nobody d.room_kind

-- this descriptor before the others
abbrev pub with_first : Descriptor → Acts → Acts
with_first d a = with_slots (record a.slots { descriptors = d ∷ a.slots.descriptors }) a

-- how many bytes have room in the view of a request, where there is a descriptor
abbrev pub first_room_left : List Descriptor → Option ℕ
first_room_left [] = None
first_room_left (d ∷ ds) = Some (room_left d)

-- the first descriptor, where there is one
abbrev pub first_of : List Descriptor → Option Descriptor
first_of [] = None
first_of (d ∷ ds) = Some d

-- the first descriptor goes to the queue
abbrev pub detached : Slots → List Descriptor → Slots
detached s [] = s
detached s (d ∷ ds) = record s { descriptors = ds; queue = append_bytes d.filled s.queue }

-- the request is invalidated where there are descriptors, and the first one goes to the queue where it is for nobody
abbrev pub renounced : Slots → List Descriptor → Slots
renounced s [] = s
renounced s (d ∷ ds) =
    if is_for_nobody d.room_kind then record s { request = None; descriptors = ds; queue = append_bytes d.filled s.queue } else record s { request = None }

-- a descriptor and a request wait behind the others
abbrev pub after_waiting : Descriptor → ReadRequest → Slots → Slots
after_waiting d q s =
    record s { stream = record s.stream { requests = s.stream.requests ++ q ∷ [] }; descriptors = s.descriptors ++ d ∷ [] }
