-- A byte stream performed an operation: what that leaves of a realm.
use Rattle.std.proofs.Common.{◌≡◌, ◌≤◌, ◌<◌, ◌↔◌, ℕ, ◌+◌, Bool, true, false, not, ◌&&◌, if◌then◌else◌, [], ◌∷◌, ◌++◌, length, map, Some, refl, sym, ap, ◌∙◌, subst, arith}
use Rattle.std.specs.Prelude.{slice_get, slice_set, vec_len, ◌-◌, IsTrue}
use Rattle.std.proofs.lemmas.Bool.{false≢true}
use Rattle.ws_value.specs.declared.ids.StreamId.{StreamId}
use Rattle.ws_promise.specs.Seen.{Seen, SeenAgenda}
use Rattle.ws_byte.specs.Seen.{SeenByteStream, HasRoom, HasSpares, spares_for, acts_of}
use Rattle.ws_steps.specs.declared.byte.ByteOperation.{ByteOperation}
use Rattle.ws_steps.specs.declared.effects.Effect.{Effect}
use Rattle.ws_steps.specs.declared.effects.Effect.TheVariants.{Readable, Byte}
use Rattle.ws_steps.specs.declared.readable.ReadableOperation.{ReadableOperation}
use Rattle.ws_steps.specs.Places.{effect_price, own, prices_of, tees_keep, queued_alone, requests_alone, members_alone, descriptors_alone}
use Rattle.ws_steps.specs.Slots.{Slots, Done}
use Rattle.ws_steps.specs.Turns.{row}
use Rattle.ws_tables.specs.View.{slots_of, stream_of, tee_of}
use Rattle.ws_tables.specs.Room.{places_of, byte_lists, room_of, members_room, waiting_in, HasFew, AreSourced, IsKept}
use Rattle.ws_performing.specs.Performing.{Performs}
use Rattle.ws_tables.specs.declared.tables.Stream.TheVariants.{Bytes}
use Rattle.ws_tables.specs.declared.tables.Tables.{Tables}
use Rattle.ws_performing.proofs.Bytes.{ByteTook}
use Rattle.ws_tables.proofs.BytePlaces.{bytes-ready, ready-bytes}
use Rattle.ws_tables.proofs.Counts.{counted-on, row-more, row-few, row-sourced}
use Rattle.ws_performing.proofs.Streams.{waits-among, waits-after, rooms-put, cover, noted-grown, noted-length}
use Rattle.ws_tables.proofs.Elements.{map-put}

-- what the operation e of byte stream i takes: x and y are the record before and after it, p and fx the promises and the agenda
pub record Acted (e : Effect) (i : StreamId) (t : Tables) (x y : SeenByteStream) (p : Seen) (fx : SeenAgenda) : Type 0 where
  pub at : slice_get t.streams.items i.0 ≡ Some (Bytes x)
  pub took : ByteTook (λ π. effect_price π e) (acts_of x t.promises t.caused) (acts_of y p fx)
  pub room : y.room ≡ x.room
  pub auto : y.slots.auto ≡ x.slots.auto
  pub spares : x.spares ≤ own descriptors_alone e + y.spares
  -- a descriptor comes with a request
  pub own_price : own descriptors_alone e ≤ effect_price requests_alone e
  pub price : effect_price descriptors_alone e ≤ effect_price requests_alone e

-- and that was put in its place; where it had places for any call or job, and hasn't any more, that was noted
pub record Put (i : StreamId) (t z : Tables) (x y : SeenByteStream) (p : Seen) (fx : SeenAgenda) (had has : Bool) : Type 0 where
  pub streams : z.streams.items ≡ slice_set t.streams.items i.0 (Bytes y)
  pub slots : slots_of z ≡ record (slots_of t) { streams = map stream_of (slice_set t.streams.items i.0 (Bytes y)); promises = p.table }
  pub caused : z.caused.effects ≡ fx.effects
  pub others : z.others ≡ t.others
  pub places : places_of z ≡ record (places_of t) { promises = p.room; caused = fx.capacity }
  pub grown : z.grown.items ≡ (if had && not has then t.grown.items ++ i ∷ [] else t.grown.items)
  pub waiting : z.waiting ≡ (t.waiting - length x.slots.stream.requests) + length y.slots.stream.requests
  pub signals : z.signals ≡ t.signals
  pub full : z.full ≡ t.full
  pub aborts : z.aborts ≡ t.aborts
  pub pipes : z.pipes ≡ t.pipes
  pub tees : z.tees ≡ t.tees
  pub uncopied : z.uncopied ≡ t.uncopied

module _ (e : Effect) (i : StreamId) (t : Tables) (x y : SeenByteStream) (p : Seen) (fx : SeenAgenda) (did : Acted e i t x y p fx) where
  rooms-stay : own descriptors_alone e ≡ 0 → (n : ℕ) → HasSpares n x → HasSpares n y
  rooms-stay none n h some =
      let g = h (subst (λ (a : ℕ). 0 < a) did.auto some) in let s = did.spares in omega (arith, g, s, none)

  -- a place or a room that is gone was paid for
  has-room : effect_price queued_alone e + effect_price requests_alone e ≡ 0 → HasRoom 4 x → HasRoom 4 y
  has-room none h =
      let q = did.took.queued.list in let r = did.took.requested.list in let d = did.took.described.list in
      let o = did.own_price in let k = did.price in
      let same = did.room in
      let rq = ap (λ z. z.queue) same in let rr = ap (λ z. z.requests) same in let rd = ap (λ z. z.descriptors) same in
      let hq = h.queue in let hr = h.requests in let hd = h.descriptors in
      record {
        queue = omega (arith, q, none, hq, rq);
        requests = omega (arith, r, none, hr, rr);
        descriptors = omega (arith, d, k, none, hd, rd);
        spare = rooms-stay (omega (arith, o, none)) 1 h.spare;
      }

  pub paid-for : (had has : Bool) → (IsTrue had ↔ HasRoom 4 x) → (IsTrue has ↔ HasRoom 4 y) → had ≡ true → has ≡ false
      → prices_of queued_alone fx.effects + prices_of requests_alone fx.effects < effect_price queued_alone e + effect_price requests_alone e
  paid-for had has before after is isnt =
      let f = did.took.free in
      let none : effect_price queued_alone e + effect_price requests_alone e ≡ 0 → ⊥ = λ z. false≢true (sym isnt ∙ after.1 (has-room z (before.0 is))) in
      grind (arith, f.0, f.1, none)

  module _ (z : Tables) (had has : Bool) (before : IsTrue had ↔ HasRoom 4 x) (after : IsTrue has ↔ HasRoom 4 y) (put : Put i t z x y p fx had has)
      (is : row e (slots_of t)
      ≡ record { slots = record (slots_of t) { streams = map stream_of (slice_set t.streams.items i.0 (Bytes y)); promises = p.table }; caused = fx.effects }) where
    pub performs : p.room ≡ t.promises.room → fx.capacity ≡ t.caused.capacity → Performs e t z
    performs promise_room effect_room =
        let q = ap (prices_of queued_alone) put.caused in
        let r = ap (prices_of requests_alone) put.caused in
        let m = ap (prices_of members_alone) put.caused in
        record {
          slots = put.slots ∙ ap (λ (d : Done). d.slots) (sym is);
          caused = put.caused ∙ ap (λ (d : Done). d.caused) (sym is);
          others = put.others;
          places = put.places ∙ rw (promise_room, effect_room) refl;
          lists = ap (map room_of) put.streams ∙ map-put room_of t.streams.items i.0 (Bytes x) (Bytes y) did.at (ap byte_lists did.room);
          rooms = λ none. rw (put.streams) (rooms-put t.streams.items i.0 (Bytes x) (Bytes y) did.at (rooms-stay none));
          grown =
              let g = noted-grown (vec_len t.grown) (vec_len z.grown) (effect_price queued_alone e) (effect_price requests_alone e) (prices_of queued_alone fx.effects) (prices_of requests_alone fx.effects) had has
              did.took.queued.caused did.took.requested.caused (paid-for had has before after)
              (rw (z.grown.ok.0, t.grown.ok.0, put.grown) (noted-length t.grown.items i (had && not has))) in
              let o = ap (λ v. tees_keep requests_alone (map tee_of v.items)) put.tees in
              omega (arith, g, q, r, o);
          members = ap (λ v. map members_room v.items) put.signals;
          full = let none = did.took.members in let l = ap vec_len put.full in omega (arith, none, m, l);
        }

    pub kept : p.room ≡ t.promises.room → fx.capacity ≡ t.caused.capacity → IsKept t → IsKept z
    kept promise_room effect_room was = record {
      waiting =
          let w = waits-after t.streams.items i.0 (Bytes x) (Bytes y) did.at in
          let k = waits-among t.streams.items i.0 (Bytes x) did.at in
          let streams = ap (λ xs. waiting_in (map stream_of xs)) put.streams in
          let now = put.waiting in
          omega (arith, w, k, streams, now, was.waiting);
      covered =
          rw (put.grown, put.streams)
          (cover t.grown.items i (Bytes y) had has (Bytes x) t.streams.items was.covered did.at (λ h. before.1 (ready-bytes x h)) (λ h. bytes-ready y (after.0 h)));
      aborts = rw (put.aborts, put.signals) was.aborts;
      members = rw (put.full, put.signals) was.members;
      copied = rw (put.uncopied, put.tees) was.copied;
      sourced = subst AreSourced (sym (performs promise_room effect_room).slots) (row-sourced e (slots_of t) was.sourced);
      counted = rw (put.pipes, ap (λ (s : Slots). s.promises) put.slots) (counted-on (length t.promises.table.entries) (length p.table.entries) t.pipes.items (row-more e (slots_of t) _ is) was.counted);
      few = subst HasFew (sym (performs promise_room effect_room).slots) (row-few e (slots_of t) was.few);
    }

-- a descriptor comes with a request

pub byte_readable-priced : (i : StreamId) (operation : ReadableOperation)
    → (own descriptors_alone (Readable i operation) ≤ effect_price requests_alone (Readable i operation)) × (effect_price descriptors_alone (Readable i operation) ≤ effect_price requests_alone (Readable i operation))
byte_readable-priced i operation = grind arith

pub byte-priced : (i : StreamId) (operation : ByteOperation)
    → (own descriptors_alone (Byte i operation) ≤ effect_price requests_alone (Byte i operation)) × (effect_price descriptors_alone (Byte i operation) ≤ effect_price requests_alone (Byte i operation))
byte-priced i operation = grind arith

-- the rooms that an operation uses are its own descriptors

rooms-used : (i : StreamId) (operation : ReadableOperation) → spares_for operation ≡ own descriptors_alone (Readable i operation)
rooms-used i operation = grind arith

pub rooms-for : (x : SeenByteStream) (operation : ReadableOperation) (i : StreamId) → HasSpares (own descriptors_alone (Readable i operation)) x → HasSpares (spares_for operation) x
rooms-for x operation i h some = let g = h some in let e = rooms-used i operation in omega (arith, g, e)

pub spares-own : (x y : SeenByteStream) (operation : ReadableOperation) (i : StreamId) → x.spares ≤ spares_for operation + y.spares → x.spares ≤ own descriptors_alone (Readable i operation) + y.spares
spares-own x y operation i h = let e = rooms-used i operation in omega (arith, h, e)
