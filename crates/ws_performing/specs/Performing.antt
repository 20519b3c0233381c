-- The performing of effects, in the places that there are.
use Rattle.std.specs.Prelude.{ℕ, ◌≡◌, ◌+◌, ◌≤◌, ◌<◌, List, [], ◌∷◌, ◌++◌, length, map, reverse, Bool, ◌&&◌, not, if◌then◌else◌, vec_len, vec_capacity}
use Rattle.std.specs.Global.{Vec}
use Rattle.ws_value.specs.declared.ids.SignalId.{SignalId}
use Rattle.ws_value.specs.declared.ids.StreamId.{StreamId}
use Rattle.ws_promise.specs.Seen.{HasPromiseRoom, HasJobRoom, HasEventRoom}
use Rattle.ws_steps.specs.declared.effects.Effect.{Effect}
use Rattle.ws_steps.specs.Places.{own, effect_price, prices_of, tees_keep, turns_alone, promises_alone, jobs_alone, events_alone, hosts_alone, queued_alone, requests_alone, requests_at, members_alone, descriptors_alone, copies_alone, measure}
use Rattle.ws_steps.specs.Slots.{causes}
use Rattle.ws_steps.specs.Turns.{row, performed}
use Rattle.ws_tables.specs.View.{slots_of}
use Rattle.ws_tables.specs.declared.tables.Tables.{Tables}
use Rattle.ws_tables.specs.Room.{room_of, EachHasLists, EachHasRooms, RoomsStay, members_room, EachHasMembers, EachHasCopies, places_of, later, IsKept, HasRoomForAll, IsResting, KeepsRecords, AreEnough}

-- there are places for what the row of an effect takes by itself, and for the streams that it may come to note
pub record HasRoomFor (e : Effect) (t : Tables) : Type 0 where
  pub promises : HasPromiseRoom (own promises_alone e) t.promises
  pub jobs : HasJobRoom (own jobs_alone e) t.promises
  pub events : HasEventRoom (own events_alone e) t.promises
  pub hosts : own hosts_alone e + length t.hosts.items ≤ t.hosts.capacity
  pub caused : effect_price turns_alone e + later turns_alone t + 6 ≤ t.caused.capacity
  pub others : effect_price turns_alone e + later turns_alone t + 6 ≤ vec_capacity t.others
  pub lists : EachHasLists (own queued_alone e) (λ i. own (requests_at (record { 0 = i })) e) (own descriptors_alone e) t.streams.items
  pub rooms : EachHasRooms (own descriptors_alone e) t.streams.items
  pub grown : effect_price queued_alone e + effect_price requests_alone e + vec_len t.grown ≤ vec_capacity t.grown
  pub members : EachHasMembers (own members_alone e) t.signals.items
  pub full : own members_alone e + vec_len t.full ≤ vec_capacity t.full
  pub copies : EachHasCopies (own copies_alone e) t.tees.items

-- the row of an effect is performed, in the places that there are
pub record Performs (e : Effect) (t t' : Tables) : Type 0 where
  pub slots : slots_of t' ≡ (row e (slots_of t)).slots
  pub caused : t'.caused.effects ≡ (row e (slots_of t)).caused
  pub others : t'.others ≡ t.others
  pub places : places_of t' ≡ places_of t
  pub lists : map room_of t'.streams.items ≡ map room_of t.streams.items
  pub rooms : own descriptors_alone e ≡ 0 → RoomsStay t.streams.items t'.streams.items
  pub grown : vec_len t'.grown + prices_of queued_alone t'.caused.effects + prices_of requests_alone t'.caused.effects + tees_keep requests_alone (slots_of t').tees
      ≤ vec_len t.grown + effect_price queued_alone e + effect_price requests_alone e + tees_keep requests_alone (slots_of t).tees
  pub members : map members_room t'.signals.items ≡ map members_room t.signals.items
  pub full : vec_len t'.full + prices_of members_alone t'.caused.effects ≤ vec_len t.full + effect_price members_alone e

-- a stream that had the places for any call or job, and hasn't any more, is noted
pub record NotesGrowth (i : StreamId) (had_room has_room : Bool) (t t' : Tables) : Type 0 where
  pub tables : t' ≡ record t { grown = t'.grown }
  pub grown : t'.grown.items ≡ (if had_room && not has_room then t.grown.items ++ i ∷ [] else t.grown.items)
  pub capacity : vec_capacity t'.grown ≡ vec_capacity t.grown

-- a signal in which there was a place, and there is none any more, is noted
pub record NotesFull (a : SignalId) (had_room has_room : Bool) (t t' : Tables) : Type 0 where
  pub tables : t' ≡ record t { full = t'.full }
  pub full : t'.full.items ≡ (if had_room && not has_room then t.full.items ++ a ∷ [] else t.full.items)
  pub capacity : vec_capacity t'.full ≡ vec_capacity t.full

-- what was caused goes before the effects that wait, of which the next stands last

abbrev pub CanPutFirst : Tables → Type 0
CanPutFirst t = vec_len t.others + length t.caused.effects ≤ vec_capacity t.others

-- what was caused, before the effects that wait
abbrev pub effects_of : Tables → List Effect
effects_of t = t.caused.effects ++ reverse t.others.items

-- an effect was performed: what is left makes of the slots what the effect and those that wait make of them, takes fewer turns, and has its places
pub record GoesOn (e : Effect) (t t' : Tables) : Type 0 where
  pub slots : performed (causes (effects_of t') (slots_of t')) ≡ performed (causes (e ∷ reverse t.others.items) (slots_of t))
  pub fewer : measure (slots_of t') (effects_of t') < measure (slots_of t) (e ∷ reverse t.others.items)
  pub room : HasRoomForAll (effects_of t') t'
  pub turns : (n : ℕ) → AreEnough n (e ∷ reverse t.others.items) t → AreEnough n (effects_of t') t'
  pub fits : CanPutFirst t'
  pub others : t'.others ≡ t.others
  pub kept : IsKept t'

-- the first of what is to be performed stands alone in the list for the effect under way
pub record TakesFirst (t t' : Tables) (v : Vec Effect) : Type 0 where
  pub alone : length v.items ≡ 1
  pub effects : effects_of t ≡ v.items ++ reverse t'.others.items

-- nothing was left to be performed
pub record FindsNone (t t' : Tables) (v : Vec Effect) : Type 0 where
  pub effects : effects_of t ≡ []
  pub others : t'.others.items ≡ []
  pub under_way : v.items ≡ []

-- two lists have as many places as both had before, in either order
abbrev pub KeepsLeast : ℕ → ℕ → ℕ → ℕ → Type 0
KeepsLeast a b a' b' = (n : ℕ) → n ≤ a → n ≤ b → (n ≤ a') × (n ≤ b')

-- none is left of what was caused, and nothing changes but the effects
pub record TakesOut (t t' : Tables) : Type 0 where
  pub caused : t'.caused.effects ≡ []
  pub slots : slots_of t' ≡ slots_of t
  pub promises : t'.promises ≡ t.promises
  pub hosts : t'.hosts ≡ t.hosts
  pub places : places_of t' ≡ record (places_of t) { caused = t'.caused.capacity }
  pub records : KeepsRecords t t'

-- all that was caused is performed, with all that comes of it, in the places that there are; and there are places to watch one promise
pub record PerformsAll (t t' : Tables) : Type 0 where
  pub slots : slots_of t' ≡ performed (causes t.caused.effects (slots_of t))
  pub resting : IsResting t'
  pub age : t'.age ≡ t.age
  pub promises : HasPromiseRoom 1 t'.promises
  pub events : HasEventRoom 1 t'.promises
