-- One turn: the first effect is performed, and what it caused goes before the others.
use Rattle.std.proofs.Common.{◌≡◌, ◌<◌, ◌≤◌, ◌+◌, ℕ, zero, suc, List, [], ◌∷◌, ◌++◌, length, reverse, refl, sym, ap, subst, ◌∙◌, length-append, arith}
use Rattle.std.specs.Global.{Vec}
use Rattle.std.specs.Prelude.{slice_get, vec_len, vec_capacity}
use Rattle.ws_value.specs.declared.ids.StreamId.{StreamId}
use Rattle.ws_steps.specs.declared.effects.Effect.{Effect}
use Rattle.ws_steps.specs.Places.{effect_price, prices_of, measure, turns_alone, promises_alone, jobs_alone, events_alone, hosts_alone, queued_alone, requests_alone, requests_at, members_alone, descriptors_alone, copies_alone, own}
use Rattle.ws_steps.specs.Slots.{Slots, causes}
use Rattle.ws_steps.specs.Turns.{row, performed}
use Rattle.ws_room_laws.proofs.Readables.{prices-append}
use Rattle.ws_room_laws.proofs.Rows.{falls, measure-fall}
use Rattle.ws_room_laws.proofs.Room.{effects-stand}
use Rattle.ws_room_laws.proofs.Turns.{performed_next, performed_none}
use Rattle.ws_tables.specs.View.{slots_of}
use Rattle.ws_tables.specs.Room.{Places, Lists, HasRooms, EachHasRooms, RoomsStay, room_of, members_room, HasRoomForAll, AreCopied, IsKept, AreEnough, CanTurn, later}
use Rattle.ws_performing.specs.Performing.{CanPutFirst, GoesOn, HasRoomFor, Performs, PerformsAll, TakesFirst, FindsNone, KeepsLeast, TakesOut, effects_of}
use Rattle.ws_tables.specs.declared.tables.Stream.{Stream as StreamRecord}
use Rattle.ws_tables.specs.declared.tables.Stream.TheVariants.{Readable, Bytes, Writable}
use Rattle.ws_tables.specs.declared.tables.Tables.{Tables}
use Rattle.ws_performing.proofs.Fits.{Takes, takes, requested-at, described-at, within-less, members-at, same-room, own-within, own-within-at, own-copies}
use Rattle.ws_performing.proofs.Handing.{row-hands}
use Rattle.ws_performing.proofs.Held.{held_at, queued-at, row-queues, row-describes}
use Rattle.ws_performing.proofs.Keeps.{later-is}
use Rattle.ws_tables.proofs.Places.{kept_same}
use Rattle.ws_performing.proofs.Streams.{each-one}
use Rattle.std.proofs.lemmas.List.{length-reverse, append-nil}
use Rattle.ws_laws.proofs.Ages.{performed-age}

-- what is left to perform makes of the slots what all makes of the first, and there are places for it
pub record Performing (t s : Tables) : Type 0 where
  pub slots : performed (causes (effects_of s) (slots_of s)) ≡ performed (causes t.caused.effects (slots_of t))
  pub room : HasRoomForAll (effects_of s) s
  pub kept : IsKept s
  pub fits : CanPutFirst s

copied-same : (es : List Effect) (s a : Tables) → a.tees ≡ s.tees → AreCopied es s → AreCopied es a
copied-same [] s a same copied = tt
copied-same (e ∷ es) s a same copied = rw same copied

-- an effect was taken out: there are places for all as before
pub taken-room : (es : List Effect) (s a : Tables) → TakesOut s a → AreEnough a.caused.capacity es s → HasRoomForAll es s → HasRoomForAll es a
taken-room es s a out turns room =
    let caps = out.places in
    let o = ap (λ (p : Places). p.others) caps in
    let same = out.records in
    record {
      promises = rw (out.promises, same.waiting, same.aborts, same.tees) room.promises;
      jobs = rw (out.promises, same.waiting, same.aborts, same.tees) room.jobs;
      events = rw (out.promises, same.waiting, same.aborts, same.tees) room.events;
      hosts = rw (out.hosts, same.waiting, same.aborts, same.tees) room.hosts;
      caused = rw (same.waiting, same.aborts, same.tees) turns;
      others = rw (o, same.waiting, same.aborts, same.tees) room.others;
      lists = rw (same.streams, same.tees) room.lists;
      once = room.once;
      rooms = rw (same.streams) room.rooms;
      grown = rw (same.grown, same.tees) room.grown;
      members = rw (same.signals) room.members;
      full = rw (same.full) room.full;
      copies = copied-same es s a same.tees room.copies;
    }

pub taken-kept : (s a : Tables) → TakesOut s a → IsKept s → IsKept a
taken-kept s a out kept = kept_same s a out.slots out.records kept

-- where there are rooms, there are for fewer
pub rooms-less : (n m : ℕ) (x : StreamRecord) → n ≤ m → HasRooms m x → HasRooms n x
rooms-less n m (Readable r) less h = tt
rooms-less n m (Bytes b) less h = λ some. let g = h some in omega (arith, g, less)
rooms-less n m (Writable w) less h = tt

pub no-rooms : (x : StreamRecord) → HasRooms 0 x
no-rooms (Readable r) = tt
no-rooms (Bytes b) = λ some. omega arith
no-rooms (Writable w) = tt

-- there are places for the first effect
pub room-for : (e : Effect) (rest : List Effect) (t : Tables) → HasRoomForAll (e ∷ rest) t → HasRoomFor e t
room-for e rest t room =
    let own = own-within e in
    let a = own.0 in let b = own.1 in let c = own.2 in let d = own.3 in let q = own.4 in let r = own.5 in let m = own.6 in let d = own.7 in
    record {
      promises = let h = room.promises in omega (arith, h, a);
      jobs = let h = room.jobs in omega (arith, h, b);
      events = let h = room.events in omega (arith, h, c);
      hosts = let h = room.hosts in omega (arith, h, d);
      caused = let h = room.caused in omega (arith, h);
      others = let h = room.others in omega (arith, h);
      lists = λ i x is.
          let h = room.lists i x is in
          let hq = h.queue in let hr = h.requests in
          let own-r = own-within-at (record { 0 = i }) e in
          record {
            queue = omega (arith, hq, q);
            requests = omega (arith, hr, own-r);
            descriptors = within-less _ _ (room_of x).descriptors (omega (arith, d)) h.descriptors;
          };
      rooms = λ i x is. rooms-less _ _ x (omega (arith, d)) (room.rooms i x is);
      grown = let h = room.grown in omega (arith, h);
      members = λ i x is. let h = room.members i x is in omega (arith, h, m);
      full = let h = room.full in omega (arith, h, m);
      copies = room.copies.0;
    }

-- what the row takes with all that is left
took : (e : Effect) (rest : List Effect) (s : Slots) → Takes (λ π. prices_of π (e ∷ rest)) s (row e s).slots ((row e s).caused ++ rest)
took e rest s = takes (λ π. prices_of π (e ∷ rest)) s (row e s).slots ((row e s).caused ++ rest) (λ π i a c. let h = falls π i a c e rest s in omega (arith, h))

left : (e : Effect) (rest : List Effect) (t t' : Tables) → Performs e t t' → Takes (λ π. prices_of π (e ∷ rest)) (slots_of t) (slots_of t') (t'.caused.effects ++ rest)
left e rest t t' did = rw (did.slots, did.caused) (took e rest (slots_of t))

queues : (e : Effect) (t t' : Tables) → Performs e t t' → (i : StreamId)
    → prices_of queued_alone t'.caused.effects + held_at (slice_get (slots_of t').streams i.0) ≤ held_at (slice_get (slots_of t).streams i.0) + effect_price queued_alone e
queues e t t' did i =
    let h = row-queues e (slots_of t) i in
    let s = ap (λ (z : Slots). held_at (slice_get z.streams i.0)) did.slots in
    let c = ap (prices_of queued_alone) did.caused in
    omega (arith, h, s, c)

describes : (e : Effect) (t t' : Tables) → Performs e t t' → own descriptors_alone e + prices_of descriptors_alone t'.caused.effects ≤ effect_price descriptors_alone e
describes e t t' did = rw (did.caused) (row-describes e (slots_of t))

-- a room is used by the one descriptor that comes
rooms-by : (o n p r c : ℕ) (xs ys : List StreamRecord) → o + c ≤ p → p + r ≤ 1 → n ≡ c + r → EachHasRooms (p + r) xs → (o ≡ 0 → RoomsStay xs ys) → EachHasRooms n ys
rooms-by zero n p r c xs ys own once is rooms stay i y there = rooms-less n (p + r) y (omega (arith, own, is)) (stay refl (p + r) rooms i y there)
rooms-by (suc o) n p r c xs ys own once is rooms stay i y there = let none : n ≡ 0 = omega (arith, own, once, is) in rw none (no-rooms y)

rooms-left : (e : Effect) (rest : List Effect) (t t' : Tables) → HasRoomForAll (e ∷ rest) t → Performs e t t' → EachHasRooms (prices_of descriptors_alone (t'.caused.effects ++ rest)) t'.streams.items
rooms-left e rest t t' room did =
    rooms-by (own descriptors_alone e) (prices_of descriptors_alone (t'.caused.effects ++ rest)) (effect_price descriptors_alone e) (prices_of descriptors_alone rest)
    (prices_of descriptors_alone t'.caused.effects) t.streams.items t'.streams.items (describes e t t' did) room.once (prices-append descriptors_alone t'.caused.effects rest) room.rooms did.rooms

-- where none is handed on, no copy is asked for
pub copied-none : (es : List Effect) (t : Tables) → prices_of copies_alone es ≡ 0 → AreCopied es t
copied-none [] t none = tt
copied-none (e ∷ es) t none =
    let less = own-copies e in
    let nothing-own : own copies_alone e ≡ 0 = omega (arith, less, none) in
    (rw nothing-own (λ i x is. tt), omega (arith, none))

-- no chunk is handed on but by the first
copies-left : (e : Effect) (rest : List Effect) (t t' : Tables) → HasRoomForAll (e ∷ rest) t → Performs e t t' → AreCopied (t'.caused.effects ++ rest) t'
copies-left e rest t t' room did =
    let a : prices_of copies_alone t'.caused.effects ≡ 0 = ap (prices_of copies_alone) did.caused ∙ row-hands e (slots_of t) in
    let b = prices-append copies_alone t'.caused.effects rest in
    let c = room.copies.1 in
    copied-none (t'.caused.effects ++ rest) t' (omega (arith, a, b, c))

-- each effect that is left takes a turn
pub put-fits : (e : Effect) (rest : List Effect) (t t' : Tables) → HasRoomForAll (e ∷ rest) t → IsKept t → Performs e t t' → vec_len t.others ≡ length rest → CanPutFirst t'
put-fits e rest t t' room kept did others =
    let h = (left e rest t t' did).turns in
    let many = effects-stand turns_alone (t'.caused.effects ++ rest) in
    let count = each-one (t'.caused.effects ++ rest) in
    let sum = length-append t'.caused.effects rest in
    let cap = ap (λ (p : Places). p.others) did.places in
    let len = ap vec_len did.others in
    let places = room.others in
    let keeps = later-is turns_alone t refl kept in
    omega (arith, h, many, count, sum, cap, len, places, keeps, others)

-- what is left takes fewer turns
pub next-turns : (e : Effect) (rest : List Effect) (t t' : Tables) (n : ℕ) → AreEnough n (e ∷ rest) t → IsKept t → Performs e t t' → IsKept t' → AreEnough n (t'.caused.effects ++ rest) t'
next-turns e rest t t' n places kept did kept' =
    let a = (left e rest t t' did).turns in
    let turns = later-is turns_alone t refl kept in
    let turns' = later-is turns_alone t' refl kept' in
    omega (arith, places, a, turns, turns')

-- there are places for what is left
pub next-room : (e : Effect) (rest : List Effect) (t t' : Tables) → HasRoomForAll (e ∷ rest) t → IsKept t → Performs e t t' → IsKept t' → HasRoomForAll (t'.caused.effects ++ rest) t'
next-room e rest t t' room kept did kept' =
    let took = left e rest t t' did in
    let caps = did.places in
    let pr = ap (λ (p : Places). p.promises.promises) caps in
    let jr = ap (λ (p : Places). p.promises.jobs) caps in
    let er = ap (λ (p : Places). p.promises.events) caps in
    let hc = ap (λ (p : Places). p.hosts) caps in
    let cc' = ap (λ (p : Places). p.caused) caps in
    let oc = ap (λ (p : Places). p.others) caps in
    let gc = ap (λ (p : Places). p.grown) caps in
    let fc = ap (λ (p : Places). p.full) caps in
    let q = prices-append queued_alone t'.caused.effects rest in
    let r = prices-append requests_alone t'.caused.effects rest in
    let m = prices-append members_alone t'.caused.effects rest in
    let described = describes e t t' did in
    let dp = prices-append descriptors_alone t'.caused.effects rest in
    let turns = later-is turns_alone t refl kept in
    let turns' = later-is turns_alone t' refl kept' in
    record {
      promises = let h = room.promises in let a = took.promises in let k = later-is promises_alone t refl kept in let k' = later-is promises_alone t' refl kept' in omega (arith, h, a, pr, k, k');
      jobs = let h = room.jobs in let a = took.jobs in let k = later-is jobs_alone t refl kept in let k' = later-is jobs_alone t' refl kept' in omega (arith, h, a, jr, k, k');
      events = let h = room.events in let a = took.events in let k = later-is events_alone t refl kept in let k' = later-is events_alone t' refl kept' in omega (arith, h, a, er, k, k');
      hosts =
          let h = room.hosts in let a = took.hosts in let k = later-is hosts_alone t refl kept in let k' = later-is hosts_alone t' refl kept' in omega (arith, h, a, hc, k, k');
      caused = let h = room.caused in let a = took.turns in omega (arith, h, a, cc', turns, turns');
      others = let h = room.others in let a = took.turns in omega (arith, h, a, oc, turns, turns');
      lists = λ i y is.
          let before = same-room room_of t.streams.items t'.streams.items i y did.lists is in
          let x = before.0 in
          let h = room.lists i x before.1.0 in
          let hq = h.queue in let hr = h.requests in
          let lists = before.1.1 in
          let lq = ap (λ (l : Lists). l.queue) lists in
          let lr = ap (λ (l : Lists). l.requests) lists in
          let a = queues e t t' did (record { 0 = i }) in
          let b = took.requested (record { 0 = i }) in
          let ra = prices-append (requests_at (record { 0 = i })) t'.caused.effects rest in
          let d = took.described (record { 0 = i }) in
          let qx = queued-at t.streams.items i x before.1.0 in
          let qy = queued-at t'.streams.items i y is in
          let rx = requested-at (record { 0 = i }) t.streams.items i x before.1.0 in
          let ry = requested-at (record { 0 = i }) t'.streams.items i y is in
          let dx = described-at t.streams.items i x before.1.0 in
          let dy = described-at t'.streams.items i y is in
          record {
            queue = omega (arith, hq, a, qx, qy, lq, q);
            requests = omega (arith, hr, b, ra, rx, ry, lr);
            descriptors =
                rw (ap (λ (l : Lists). l.descriptors) lists)
                (within-less _ _ (room_of x).descriptors (omega (arith, d, dx, dy)) h.descriptors);
          };
      once = let one = room.once in omega (arith, one, described, dp);
      rooms = rooms-left e rest t t' room did;
      grown = let h = room.grown in let a = did.grown in omega (arith, h, a, gc, q, r);
      members = λ i y is.
          let before = same-room members_room t.signals.items t'.signals.items i y did.members is in
          let x = before.0 in
          let h = room.members i x before.1.0 in
          let lists = before.1.1 in
          let a = took.members (record { 0 = i }) in
          let mx = members-at t.signals.items i x before.1.0 in
          let my = members-at t'.signals.items i y is in
          omega (arith, h, a, mx, my, lists);
      full = let h = room.full in let a = did.full in omega (arith, h, a, fc, m);
      copies = copies-left e rest t t' room did;
    }

module _ (t s a : Tables) (e : Effect) (was : Performing t s) (first : effects_of s ≡ e ∷ reverse a.others.items) (out : TakesOut s a)
    (turns : AreEnough a.caused.capacity (effects_of s) s) where
  -- where the first effect was taken out, there are places for it and the others
  pub found : HasRoomForAll (e ∷ reverse a.others.items) a
  found =
      taken-room (e ∷ reverse a.others.items) s a out (subst (λ es. AreEnough a.caused.capacity es s) first turns)
      (subst (λ es. HasRoomForAll es s) first was.room)

  pub found-kept : IsKept a
  found-kept = taken-kept s a out was.kept

  module _ (b : Tables) (did : GoesOn e a b) where
    pub turn-fewer : measure (slots_of b) (effects_of b) < measure (slots_of s) (effects_of s)
    turn-fewer =
        let less = did.fewer in
        let same = ap (λ (x : Slots). measure x (e ∷ reverse a.others.items)) out.slots in
        let before = ap (measure (slots_of s)) first in
        omega (arith, less, same, before)

    pub turn-kept : Performing t b
    turn-kept = record {
      slots =
          did.slots
          ∙ (ap (λ (x : Slots). performed (causes (e ∷ reverse a.others.items) x)) out.slots
          ∙ (ap (λ es. performed (causes es (slots_of s))) (sym first) ∙ was.slots));
      room = did.room;
      kept = did.kept;
      fits = did.fits;
    }

-- the loop: the list for the effect under way stands beside the tables

-- it is left there, and is empty
pub record Turning (t s : Tables) (v : Vec Effect) : Type 0 where
  pub performing : Performing t s
  pub turns : CanTurn (effects_of s) v s

-- the first effect that is left stands in the list for the effect under way
module _ (t s a : Tables) (v w : Vec Effect) (was : Turning t s v) (took : TakesFirst s a w) (out : TakesOut s a)
    (least : KeepsLeast s.caused.capacity (vec_capacity v) a.caused.capacity (vec_capacity w)) where
  both : AreEnough a.caused.capacity (effects_of s) s × AreEnough (vec_capacity w) (effects_of s) s
  both = least (prices_of turns_alone (effects_of s) + later turns_alone s + 6) was.performing.room.caused was.turns.places

  module _ (e : Effect) (alone : w.items ≡ e ∷ []) where
    pub first-is : effects_of s ≡ e ∷ reverse a.others.items
    first-is = took.effects ∙ ap (λ es. es ++ reverse a.others.items) alone

    pub turn-room : HasRoomForAll (e ∷ reverse a.others.items) a
    turn-room = found t s a e was.performing first-is out both.0

    pub turn-found : IsKept a
    turn-found = found-kept t s a e was.performing first-is out both.0

    module _ (b : Tables) (did : GoesOn e a b) where
      pub turn-less : measure (slots_of b) (effects_of b) < measure (slots_of s) (effects_of s)
      turn-less = turn-fewer t s a e was.performing first-is out both.0 b did

      pub turn-on : (u : Vec Effect) → u.items ≡ [] → vec_capacity u ≡ vec_capacity w → Turning t b u
      turn-on u empty places =
          let turns = subst (λ es. AreEnough (vec_capacity w) es s) first-is both.1 in
          let turns' : AreEnough (vec_capacity w) (e ∷ reverse a.others.items) a = rw (out.records.waiting, out.records.aborts, out.records.tees) turns in
          record {
            performing = turn-kept t s a e was.performing first-is out both.0 b did;
            turns = record { empty = empty; places = rw places (did.turns (vec_capacity w) turns') };
          }

-- the loop begins

pub first-puts : (t : Tables) → t.others.items ≡ [] → HasRoomForAll t.caused.effects t → CanPutFirst t
first-puts t none room =
    let h = room.others in
    let many = effects-stand turns_alone t.caused.effects in
    let count = each-one t.caused.effects in
    let len = t.others.ok.0 in
    let zero = ap length none in
    omega (arith, h, many, count, len, zero)

-- the list for the effect under way is taken out, and put back

room-with : (es : List Effect) (v : Vec Effect) (t : Tables) → HasRoomForAll es t → HasRoomForAll es (record t { under_way = v })
room-with es v t room =
    record {
      promises = room.promises;
      jobs = room.jobs;
      events = room.events;
      hosts = room.hosts;
      caused = room.caused;
      others = room.others;
      lists = room.lists;
      once = room.once;
      rooms = room.rooms;
      grown = room.grown;
      members = room.members;
      full = room.full;
      copies = copied-same es t (record t { under_way = v }) refl room.copies;
    }

kept-with : (v : Vec Effect) (t : Tables) → IsKept t → IsKept (record t { under_way = v })
kept-with v t kept =
    kept_same t (record t { under_way = v }) refl (record { streams = refl; grown = refl; waiting = refl; pipes = refl; signals = refl; full = refl; aborts = refl; tees = refl; uncopied = refl }) kept

pub begins : (t : Tables) (v : Vec Effect) → t.others.items ≡ [] → CanTurn t.caused.effects t.under_way t → HasRoomForAll t.caused.effects t → IsKept t
    → Turning t (record t { under_way = v }) t.under_way
begins t v none turns room kept =
    let all : effects_of t ≡ t.caused.effects = ap (λ es. t.caused.effects ++ reverse es) none ∙ append-nil t.caused.effects in
    record {
      performing =
          record {
            slots = ap (λ es. performed (causes es (slots_of t))) all;
            room = subst (λ es. HasRoomForAll es (record t { under_way = v })) (sym all) (room-with t.caused.effects v t room);
            kept = kept-with v t kept;
            fits = first-puts t none room;
          };
      turns =
          record {
            empty = turns.empty;
            places = subst (λ es. AreEnough (vec_capacity t.under_way) es t) (sym all) turns.places;
          };
    }

-- the loop ends

pub ends : (t s z : Tables) (v w : Vec Effect) → FindsNone s z w → TakesOut s z → Turning t s v → PerformsAll t (record z { under_way = w })
ends t s z v w none out turning =
    let was = turning.performing in
    let same : slots_of z ≡ performed (causes t.caused.effects (slots_of t)) =
    out.slots ∙ (sym (performed_none (slots_of s)) ∙ (ap (λ es. performed (causes es (slots_of s))) (sym none.effects) ∙ was.slots)) in
    record {
      slots = same;
      resting = record { caused = out.caused; others = none.others; under_way = none.under_way; kept = kept-with w z (taken-kept s z out was.kept) };
      age = ap (λ (x : Slots). x.age) same ∙ performed-age (causes t.caused.effects (slots_of t));
      promises = let h = was.room.promises in rw (out.promises) (omega (arith, h));
      events = let h = was.room.events in rw (out.promises) (omega (arith, h));
    }
