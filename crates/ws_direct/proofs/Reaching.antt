-- What is reached in steps.
use Rattle.std.proofs.Common.{◌≡◌, ◌≤◌, ◌∙◌, ℕ, List, [], ◌∷◌, ◌++◌, length, refl, sym, ap, subst, append_assoc, arith}
use Rattle.ws_promise.specs.Seen.{SeenAgenda, HasEffectRoom}
use Rattle.ws_steps.specs.declared.effects.Effect.{Effect}
use Rattle.ws_steps.specs.Slots.{causes}
use Rattle.ws_steps.specs.Turns.{row, performed}
use Rattle.ws_room_laws.proofs.Turns.{performed_next}
use Rattle.ws_tables.specs.View.{slots_of}
use Rattle.ws_tables.specs.Room.{Places, room_of, AreCopied, AreEnough, HasRoomForAll, IsKept, KeepsRecords}
use Rattle.ws_tables.specs.declared.tables.Tables.{Tables}
use Rattle.ws_tables.proofs.Places.{kept_same}
use Rattle.ws_performing.specs.Performing.{Performs}
use Rattle.ws_performing.proofs.Fits.{within-less}
use Rattle.ws_performing.proofs.Kept.{kept_by}
use Rattle.ws_performing.proofs.Turns.{rooms-less, next-room, next-turns}
use Rattle.ws_direct.specs.Directly.{Reaches, IsReadyFor, PerformsDirectly, leaving}

abbrev pub no-effects : SeenAgenda
no-effects = record { effects = []; capacity = 0 }

-- these effects are caused
abbrev pub causing : List Effect → Tables → Tables
causing es t = record t { caused = record t.caused { effects = es } }

-- what is caused takes no places

copied-with : (es fs : List Effect) (t : Tables) → AreCopied es (causing fs t) → AreCopied es t
copied-with [] fs t h = tt
copied-with (e ∷ es) fs t h = h

room-with : (es fs : List Effect) (t : Tables) → HasRoomForAll es (causing fs t) → HasRoomForAll es t
room-with es fs t room =
    record {
      promises = room.promises;
      jobs = room.jobs;
      events = room.events;
      hosts = room.hosts;
      caused = room.caused;
      others = room.others;
      lists = room.lists;
      once = room.once;
      rooms = room.rooms;
      grown = room.grown;
      members = room.members;
      full = room.full;
      copies = copied-with es fs t room.copies;
    }

copied-again : (es fs : List Effect) (t : Tables) → AreCopied es t → AreCopied es (causing fs t)
copied-again [] fs t h = tt
copied-again (e ∷ es) fs t h = h

room-again : (es fs : List Effect) (t : Tables) → HasRoomForAll es t → HasRoomForAll es (causing fs t)
room-again es fs t room =
    record {
      promises = room.promises;
      jobs = room.jobs;
      events = room.events;
      hosts = room.hosts;
      caused = room.caused;
      others = room.others;
      lists = room.lists;
      once = room.once;
      rooms = room.rooms;
      grown = room.grown;
      members = room.members;
      full = room.full;
      copies = copied-again es fs t room.copies;
    }

-- where there are places for effects, there are for the first
pub room-first : (e : Effect) (es : List Effect) (t : Tables) → HasRoomForAll (e ∷ es) t → HasRoomForAll (e ∷ []) t
room-first e es t room = record {
  promises = let h = room.promises in omega (arith, h);
  jobs = let h = room.jobs in omega (arith, h);
  events = let h = room.events in omega (arith, h);
  hosts = let h = room.hosts in omega (arith, h);
  caused = let h = room.caused in omega (arith, h);
  others = let h = room.others in omega (arith, h);
  lists = λ i x is.
      let h = room.lists i x is in
      let hq = h.queue in let hr = h.requests in
      record { queue = omega (arith, hq); requests = omega (arith, hr); descriptors = within-less _ _ (room_of x).descriptors (omega arith) h.descriptors };
  once = let h = room.once in omega (arith, h);
  rooms = λ i x is. rooms-less _ _ x (omega arith) (room.rooms i x is);
  grown = let h = room.grown in omega (arith, h);
  members = λ i x is. let h = room.members i x is in omega (arith, h);
  full = let h = room.full in omega (arith, h);
  copies = (room.copies.0, refl);
}

pub kept-with : (fs : List Effect) (t : Tables) → IsKept t → IsKept (causing fs t)
kept-with fs t kept =
    kept_same t (causing fs t) refl (record { streams = refl; grown = refl; waiting = refl; pipes = refl; signals = refl; full = refl; aborts = refl; tees = refl; uncopied = refl }) kept

kept-without : (fs : List Effect) (t : Tables) → IsKept (causing fs t) → IsKept t
kept-without fs t kept =
    kept_same (causing fs t) t refl (record { streams = refl; grown = refl; waiting = refl; pipes = refl; signals = refl; full = refl; aborts = refl; tees = refl; uncopied = refl }) kept

-- nothing happens
pub stays : (es : List Effect) (t : Tables) → IsKept t → Reaches es t es t
stays es t kept = record {
  slots = λ rest. refl;
  room = λ rest h. h;
  turns = λ n rest h. h;
  others = refl;
  under_way = refl;
  kept = kept;
}

-- effects are caused where none was
pub left : (es : List Effect) (t t' : Tables) → t' ≡ causing es t → IsKept t → PerformsDirectly es t t'
left es t t' is kept =
    subst (λ (z : Tables). Reaches es t z.caused.effects z) (sym is)
    (record {
      slots = λ rest. refl;
      room = λ rest h. room-again (es ++ rest) es t h;
      turns = λ n rest h. h;
      others = refl;
      under_way = refl;
      kept = kept-with es t kept;
    })

-- one step after another
pub then : (es fs gs : List Effect) (t u v : Tables) → Reaches es t fs u → Reaches fs u gs v → Reaches es t gs v
then es fs gs t u v a b = record {
  slots = λ rest. b.slots rest ∙ a.slots rest;
  room = λ rest h. b.room rest (a.room rest h);
  turns = λ n rest h. b.turns n rest (a.turns n rest h);
  others = b.others ∙ a.others;
  under_way = b.under_way ∙ a.under_way;
  kept = b.kept;
}

-- and beside others, which wait
pub beside : (es fs gs : List Effect) (t u : Tables) → Reaches es t fs u → Reaches (es ++ gs) t (fs ++ gs) u
beside es fs gs t u a =
    record {
      slots = λ rest.
          ap (λ xs. performed (causes xs (slots_of u))) (append_assoc fs gs rest)
          ∙ (a.slots (gs ++ rest) ∙ ap (λ xs. performed (causes xs (slots_of t))) (sym (append_assoc es gs rest)));
      room = λ rest h.
          subst (λ xs. HasRoomForAll xs u) (sym (append_assoc fs gs rest)) (a.room (gs ++ rest) (subst (λ xs. HasRoomForAll xs t) (append_assoc es gs rest) h));
      turns = λ n rest h.
          subst (λ xs. AreEnough n xs u) (sym (append_assoc fs gs rest)) (a.turns n (gs ++ rest) (subst (λ xs. AreEnough n xs t) (append_assoc es gs rest) h));
      others = a.others;
      under_way = a.under_way;
      kept = a.kept;
    }

-- the row of an effect is performed
pub by : (e : Effect) (es : List Effect) (t t' : Tables) → IsKept t → Performs e t (causing es t') → IsKept t' → Reaches (e ∷ []) t es t'
by e es t t' kept did kept' =
    let z : Tables = causing es t' in
    let also : IsKept z = kept-with es t' kept' in
    record {
      slots = λ rest.
          ap (λ s. performed (causes (es ++ rest) s)) did.slots
          ∙ (ap (λ xs. performed (causes (xs ++ rest) (row e (slots_of t)).slots)) did.caused ∙ sym (performed_next (slots_of t) e rest));
      room = λ rest h. room-with (es ++ rest) es t' (next-room e rest t z h kept did also);
      turns = λ n rest h. next-turns e rest t z n h kept did also;
      others = did.others;
      under_way = ap (λ (p : Places). p.under_way) did.places;
      kept = kept';
    }

-- where it concerns no record that counts
pub by-records : (e : Effect) (es : List Effect) (t t' : Tables) → IsKept t → Performs e t (causing es t') → KeepsRecords t t' → Reaches (e ∷ []) t es t'
by-records e es t t' kept did same =
    by e es t t' kept did
    (kept-without es t'
    (kept_by e t (causing es t') did
    (record {
      streams = same.streams;
      grown = same.grown;
      waiting = same.waiting;
      pipes = same.pipes;
      signals = same.signals;
      full = same.full;
      aborts = same.aborts;
      tees = same.tees;
      uncopied = same.uncopied;
    })
    kept))

-- the first of what is left is ready, where nothing is caused
pub next-ready : (e f : Effect) (fs : List Effect) (t u : Tables) → HasRoomForAll (e ∷ []) t → Reaches (e ∷ []) t (f ∷ fs) u → u.caused.effects ≡ [] → IsReadyFor (f ∷ []) u
next-ready e f fs t u room reached quiet =
    let all : HasRoomForAll ((f ∷ fs) ++ []) u = reached.room [] room in
    record { quiet = quiet; room = room-first f (fs ++ []) u all; kept = reached.kept }

-- nothing is left
pub quietly : (es : List Effect) (t t' : Tables) → t'.caused.effects ≡ [] → Reaches es t [] t' → PerformsDirectly es t t'
quietly es t t' quiet reached = subst (λ xs. Reaches es t xs t') (sym quiet) reached

-- an effect does nothing
pub nothing-done : (e : Effect) (t : Tables) → IsReadyFor (e ∷ []) t → Performs e t t → PerformsDirectly (e ∷ []) t t
nothing-done e t ready did = by e t.caused.effects t t ready.kept did ready.kept

-- there are places for some effects that are caused
pub effect-room : (n : ℕ) (es : List Effect) (t : Tables) → n ≤ 6 → IsReadyFor es t → HasEffectRoom n t.caused
effect-room n es t few ready = let none = ap length ready.quiet in let h = ready.room.caused in omega (arith, few, none, h)

-- one effect is caused alone
pub one-left : (e : Effect) (t t' : Tables) → IsReadyFor (e ∷ []) t → t' ≡ leaving e t → PerformsDirectly (e ∷ []) t t'
one-left e t t' ready is = left (e ∷ []) t t' (is ∙ ap (λ xs. record t { caused = record t.caused { effects = xs ++ e ∷ [] } }) ready.quiet) ready.kept

-- what is caused is what the row causes
pub did-so : (e : Effect) (t t' : Tables) → IsReadyFor (e ∷ []) t → Performs e t t' → KeepsRecords t t' → PerformsDirectly (e ∷ []) t t'
did-so e t t' ready did same = by-records e t'.caused.effects t t' ready.kept did same
