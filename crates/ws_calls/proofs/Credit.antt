-- Places for several jobs: what one of them takes, and what it leaves to the others.
use Rattle.std.proofs.Common.{◌≡◌, ◌∙◌, ◌≤◌, ◌<◌, ◌+◌, ◌*◌, ℕ, zero, suc, ◌⊎◌, ⊎_elim, Contains, List, [], ◌∷◌, ◌++◌, length, map, Some, Ok, refl, sym, ap, subst, arith}
use Rattle.std.specs.Prelude.{Result, slice_get, slice_set, vec_len, vec_capacity, None}
use Rattle.ws_value.specs.declared.ids.SignalId.{SignalId}
use Rattle.ws_value.specs.declared.ids.StreamId.{StreamId}
use Rattle.ws_value.specs.declared.ids.PromiseId.{PromiseId}
use Rattle.ws_value.specs.declared.value.Plain.{Plain}
use Rattle.ws_value.specs.declared.value.Plain.TheVariants.{Undefined}
use Rattle.ws_promise.specs.Seen.{Room, Seen, HasRoom, HasJobRoom, jobs_in, events_in}
use Rattle.ws_steps.specs.declared.effects.Effect.{Effect}
use Rattle.ws_steps.specs.declared.effects.Effect.TheVariants.{CancelAlgorithm, Transform}
use Rattle.ws_steps.specs.declared.transform.TransformOperation.TheVariants as transform
use Rattle.ws_value.specs.declared.value.Value.{Value}
use Rattle.ws_steps.specs.declared.transform.TransformId.{TransformId}
use Rattle.ws_tee.specs.Seen.{SeenTee}
use Rattle.ws_steps.specs.Promises.{settle}
use Rattle.ws_room_laws.proofs.Tables.{settle-size}
use Rattle.ws_steps.specs.Places.{Prices, table_size, own, effect_price, prices_of, step_price, tees_keep, turns_alone, promises_alone, jobs_alone, events_alone, hosts_alone, queued_alone, requests_alone, requests_at, members_alone, descriptors_alone, copies_alone}
use Rattle.ws_steps.specs.Slots.{Slots}
use Rattle.ws_tables.specs.View.{slots_of, tee_of}
use Rattle.ws_tables.specs.Room.{AreCopied, AreEnough, CanTurn, EachHasMembers, EachHasPlaces, HasCopies, HasRoomForAll, IsKept, KeepsRecords, Places, places_of, room_of, later}
use Rattle.ws_tables.specs.declared.tables.Tables.{Tables}
use Rattle.ws_tables.proofs.Loops.{empty}
use Rattle.ws_performing.proofs.Fits.{Takes, within-less}
use Rattle.ws_performing.proofs.Keeps.{later-is}
use Rattle.ws_performing.proofs.Turns.{rooms-less}
use Rattle.ws_direct.specs.Directly.{PerformsDirectly}
use Rattle.ws_direct.proofs.Behind.{room-front}
use Rattle.ws_calls.specs.Credit.{HasPlacesFor, IsAtHand}
use Rattle.ws_calls.specs.First.{Fits, effect_of}
use Rattle.ws_calls.specs.declared.first.First.{First}
use Rattle.ws_calls.specs.declared.first.First.TheVariants.{Pulled, Wrote, PipeWrites, PipeReady, PipeWrote, WriteGoesOn, Fulfils}

-- What other jobs may take stands behind the effect under way as effects that need nothing of the lists of streams: seven for a job.

abbrev one : Effect
one = CancelAlgorithm (record { 0 = 0 }) Undefined (record { 0 = 0 })

abbrev pub others : ℕ → List Effect
others zero = []
others (suc n) = one ∷ one ∷ one ∷ one ∷ one ∷ one ∷ one ∷ others n

others-turns : (n : ℕ) → prices_of turns_alone (others n) ≡ n * 28
others-turns zero = refl
others-turns (suc n) = let h = others-turns n in omega (arith, h)

others-promises : (n : ℕ) → prices_of promises_alone (others n) ≡ n * 14
others-promises zero = refl
others-promises (suc n) = let h = others-promises n in omega (arith, h)

others-jobs : (n : ℕ) → prices_of jobs_alone (others n) ≡ n * 14
others-jobs zero = refl
others-jobs (suc n) = let h = others-jobs n in omega (arith, h)

others-events : (n : ℕ) → prices_of events_alone (others n) ≡ n * 7
others-events zero = refl
others-events (suc n) = let h = others-events n in omega (arith, h)

others-hosts : (n : ℕ) → prices_of hosts_alone (others n) ≡ n * 7
others-hosts zero = refl
others-hosts (suc n) = let h = others-hosts n in omega (arith, h)

others-queued : (n : ℕ) → prices_of queued_alone (others n) ≡ 0
others-queued zero = refl
others-queued (suc n) = let h = others-queued n in omega (arith, h)

others-requests : (n : ℕ) → prices_of requests_alone (others n) ≡ 0
others-requests zero = refl
others-requests (suc n) = let h = others-requests n in omega (arith, h)

others-at : (i n : ℕ) → prices_of (requests_at (record { 0 = i })) (others n) ≡ 0
others-at i zero = refl
others-at i (suc n) = let h = others-at i n in omega (arith, h)

others-members : (n : ℕ) → prices_of members_alone (others n) ≡ 0
others-members zero = refl
others-members (suc n) = let h = others-members n in omega (arith, h)

others-descriptors : (n : ℕ) → prices_of descriptors_alone (others n) ≡ 0
others-descriptors zero = refl
others-descriptors (suc n) = let h = others-descriptors n in omega (arith, h)

others-copies : (n : ℕ) → prices_of copies_alone (others n) ≡ 0
others-copies zero = refl
others-copies (suc n) = let h = others-copies n in omega (arith, h)

others-copied : (n : ℕ) (t : Tables) → AreCopied (others n) t
others-copied zero t = tt
others-copied (suc n) t = (λ i x is. tt, let h = others-copies n in omega (arith, h))

-- what an effect of such a job takes of the lists
pub record IsModest (e : Effect) : Type 0 where
  queued : effect_price queued_alone e ≤ 4
  noted : effect_price queued_alone e + effect_price requests_alone e ≤ 6
  asked : (i : ℕ) → effect_price (requests_at (record { 0 = i })) e ≤ 4
  described : effect_price descriptors_alone e ≤ 1
  members : effect_price members_alone e ≡ 0
  copies : own copies_alone e ≡ 0

pub modest-first : (first : First) → IsModest (effect_of first)
modest-first (Pulled i) = record { queued = omega arith; noted = omega arith; asked = λ j. omega arith; described = omega arith; members = refl; copies = refl }
modest-first (Wrote i) = record { queued = omega arith; noted = omega arith; asked = λ j. omega arith; described = omega arith; members = refl; copies = refl }
modest-first (PipeWrites p) = record { queued = omega arith; noted = omega arith; asked = λ j. omega arith; described = omega arith; members = refl; copies = refl }
modest-first (PipeReady p) = record { queued = omega arith; noted = omega arith; asked = λ j. omega arith; described = omega arith; members = refl; copies = refl }
modest-first (PipeWrote p) = record { queued = omega arith; noted = omega arith; asked = λ j. omega arith; described = omega arith; members = refl; copies = refl }
modest-first (WriteGoesOn t p) = record { queued = omega arith; noted = omega arith; asked = λ j. omega arith; described = omega arith; members = refl; copies = refl }
modest-first (Fulfils p) = record { queued = omega arith; noted = omega arith; asked = λ j. omega arith; described = omega arith; members = refl; copies = refl }

pub modest-enqueue : (t : TransformId) (chunk : Value) → IsModest (Transform t (transform.Enqueue chunk))
modest-enqueue t chunk = record { queued = omega arith; noted = omega arith; asked = λ j. omega arith; described = omega arith; members = refl; copies = refl }

-- the effects with which a job begins, where it has one of those or none: they take no more than any job
pub record Begun (es : List Effect) (t t' : Tables) : Type 0 where
  pub takes : Takes step_price (slots_of t) (slots_of t') es
  pub places : places_of t' ≡ places_of t
  pub records : KeepsRecords t t'
  pub kept : IsKept t
  pub kept' : IsKept t'

-- there is no tee, which would keep anything
no-tees-keep : (π : Prices) (t : Tables) → vec_len t.tees ≡ 0 → tees_keep π (slots_of t).tees ≡ 0
no-tees-keep π t none = ap (λ xs. tees_keep π (map tee_of xs)) (empty t.tees.items (let l = t.tees.ok.0 in omega (arith, none, l)))

less-copies : (n : ℕ) (x : SeenTee) → n ≡ 0 → HasCopies n x
less-copies n x none = subst (λ k. HasCopies k x) (sym none) tt

-- as the places are found, so they stay for a job's effect and for the other jobs
pub afford : (n : ℕ) (e : Effect) (t t' : Tables) → IsModest e → Begun (e ∷ []) t t' → EachHasPlaces t.streams.items → IsAtHand t → HasPlacesFor (n + 1) t
    → HasRoomForAll (e ∷ others n) t' × AreEnough (vec_capacity t'.under_way) (e ∷ others n) t'
afford n e t t' modest begun lists hand has =
    let took = begun.takes in
    let caps = begun.places in
    let same = begun.records in
    let kept = begun.kept in
    let kept' = begun.kept' in
    let pr = ap (λ (p : Places). p.promises.promises) caps in
    let jr = ap (λ (p : Places). p.promises.jobs) caps in
    let er = ap (λ (p : Places). p.promises.events) caps in
    let hc = ap (λ (p : Places). p.hosts) caps in
    let ac = ap (λ (p : Places). p.caused) caps in
    let oc = ap (λ (p : Places). p.others) caps in
    let uc = ap (λ (p : Places). vec_capacity p.under_way) caps in
    let gc = ap (λ (p : Places). p.grown) caps in
    let fc = ap (λ (p : Places). p.full) caps in
    let turns = later-is turns_alone t refl kept in
    let turns' = later-is turns_alone t' refl kept' in
    let many = others-turns n in
    let q = others-queued n in
    let r = others-requests n in
    let d = others-descriptors n in
    let m = others-members n in
    let tees : vec_len t'.tees ≡ 0 = ap vec_len same.tees ∙ hand.tees in
    let members = modest.members in (
      record {
        promises =
            let h = has.promises in let a = took.promises in let b = others-promises n in let k = later-is promises_alone t refl kept in let k' = later-is promises_alone t' refl kept' in
            omega (arith, h, a, b, pr, k, k');
        jobs =
            let h = has.jobs in let a = took.jobs in let b = others-jobs n in let k = later-is jobs_alone t refl kept in let k' = later-is jobs_alone t' refl kept' in
            omega (arith, h, a, b, jr, k, k');
        events =
            let h = has.events in let a = took.events in let b = others-events n in let k = later-is events_alone t refl kept in let k' = later-is events_alone t' refl kept' in
            omega (arith, h, a, b, er, k, k');
        hosts =
            let h = has.hosts in let a = took.hosts in let b = others-hosts n in let k = later-is hosts_alone t refl kept in let k' = later-is hosts_alone t' refl kept' in
            omega (arith, h, a, b, hc, k, k');
        caused = let h = has.caused in let a = took.turns in omega (arith, h, a, many, ac, turns, turns');
        others = let h = has.others in let a = took.turns in omega (arith, h, a, many, oc, turns, turns');
        lists = λ i x is.
            let h = lists i x (ap (λ v. slice_get v.items i) (sym same.streams) ∙ is) in
            let hq = h.0.queue in let hr = h.0.requests in
            let eq = modest.queued in let ea = modest.asked i in let ed = modest.described in
            let oa = others-at i n in
            let none = no-tees-keep (requests_at (record { 0 = i })) t' tees in
            record {
              queue = omega (arith, hq, eq, q);
              requests = omega (arith, hr, ea, oa, none);
              descriptors = within-less _ _ (room_of x).descriptors (omega (arith, ed, d)) h.0.descriptors;
            };
        once = let ed = modest.described in omega (arith, ed, d);
        rooms = λ i x is.
            let h = lists i x (ap (λ v. slice_get v.items i) (sym same.streams) ∙ is) in
            let ed = modest.described in
            rooms-less _ _ x (omega (arith, ed, d)) h.1;
        grown =
            let noted = modest.noted in let none = no-tees-keep requests_alone t' tees in let len = ap vec_len same.grown in let few = hand.grown in let cap = hand.notes in
            omega (arith, noted, none, len, few, cap, q, r, gc);
        members = λ i x is.
            let h = has.any.members i x (ap (λ v. slice_get v.items i) (sym same.signals) ∙ is) in
            omega (arith, h, members, m);
        full = let h = has.any.full in let len = ap vec_len same.full in omega (arith, h, members, m, len, fc);
        copies = (λ i x is. less-copies (own copies_alone e) x modest.copies, others-copies n);
      },
      (let h = has.under_way in let a = took.turns in omega (arith, h, a, many, uc, turns, turns')),
    )

-- where it has none, for the others
pub afford-none : (n : ℕ) (t t' : Tables) → Begun [] t t' → HasPlacesFor (n + 1) t → HasRoomForAll (others n) t' × AreEnough (vec_capacity t'.under_way) (others n) t'
afford-none n t t' begun has =
    let took = begun.takes in
    let caps = begun.places in
    let same = begun.records in
    let kept = begun.kept in
    let kept' = begun.kept' in
    let pr = ap (λ (p : Places). p.promises.promises) caps in
    let jr = ap (λ (p : Places). p.promises.jobs) caps in
    let er = ap (λ (p : Places). p.promises.events) caps in
    let hc = ap (λ (p : Places). p.hosts) caps in
    let ac = ap (λ (p : Places). p.caused) caps in
    let oc = ap (λ (p : Places). p.others) caps in
    let uc = ap (λ (p : Places). vec_capacity p.under_way) caps in
    let gc = ap (λ (p : Places). p.grown) caps in
    let fc = ap (λ (p : Places). p.full) caps in
    let turns = later-is turns_alone t refl kept in
    let turns' = later-is turns_alone t' refl kept' in
    let many = others-turns n in
    let q = others-queued n in
    let r = others-requests n in
    let d = others-descriptors n in
    let m = others-members n in (
      record {
        promises =
            let h = has.promises in let a = took.promises in let b = others-promises n in let k = later-is promises_alone t refl kept in let k' = later-is promises_alone t' refl kept' in
            omega (arith, h, a, b, pr, k, k');
        jobs =
            let h = has.jobs in let a = took.jobs in let b = others-jobs n in let k = later-is jobs_alone t refl kept in let k' = later-is jobs_alone t' refl kept' in
            omega (arith, h, a, b, jr, k, k');
        events =
            let h = has.events in let a = took.events in let b = others-events n in let k = later-is events_alone t refl kept in let k' = later-is events_alone t' refl kept' in
            omega (arith, h, a, b, er, k, k');
        hosts =
            let h = has.hosts in let a = took.hosts in let b = others-hosts n in let k = later-is hosts_alone t refl kept in let k' = later-is hosts_alone t' refl kept' in
            omega (arith, h, a, b, hc, k, k');
        caused = let h = has.caused in let a = took.turns in omega (arith, h, a, many, ac, turns, turns');
        others = let h = has.others in let a = took.turns in omega (arith, h, a, many, oc, turns, turns');
        lists = λ i x is.
            let h = has.any.lists i x (ap (λ v. slice_get v.items i) (sym same.streams) ∙ is) in
            let hq = h.queue in let hr = h.requests in
            let oa = others-at i n in
            let tees = ap (λ v. tees_keep (requests_at (record { 0 = i })) (map tee_of v.items)) same.tees in
            record {
              queue = omega (arith, hq, q);
              requests = omega (arith, hr, oa, tees);
              descriptors = within-less _ _ (room_of x).descriptors (omega (arith, d)) h.descriptors;
            };
        once = omega (arith, d);
        rooms = λ i x is. rooms-less _ _ x (omega (arith, d)) (has.any.rooms i x (ap (λ v. slice_get v.items i) (sym same.streams) ∙ is));
        grown =
            let h = has.any.grown in let tees = ap (λ v. tees_keep requests_alone (map tee_of v.items)) same.tees in let len = ap vec_len same.grown in
            omega (arith, h, tees, len, q, r, gc);
        members = λ i x is. let h = has.any.members i x (ap (λ v. slice_get v.items i) (sym same.signals) ∙ is) in omega (arith, h, m);
        full = let h = has.any.full in let len = ap vec_len same.full in omega (arith, h, m, len, fc);
        copies = others-copied n t';
      },
      (let h = has.under_way in let a = took.turns in omega (arith, h, a, many, uc, turns, turns')),
    )

-- there are places for that effect alone
pub fits-one : (n : ℕ) (e : Effect) (t : Tables) → HasRoomForAll (e ∷ others n) t → AreEnough (vec_capacity t.under_way) (e ∷ others n) t → t.under_way.items ≡ [] → IsKept t → Fits e t
fits-one n e t room turns empty kept = record {
  room = room-front (e ∷ []) (others n) t room;
  turns = record { empty = empty; places = omega (arith, turns) };
  kept = kept;
}

-- where nothing waits behind, there are places for the other jobs
pub places-of-others : (n : ℕ) (t : Tables) → HasRoomForAll (others n) t → AreEnough (vec_capacity t.under_way) (others n) t → HasPlacesFor n t
places-of-others n t room turns =
    let many = others-turns n in
    record {
      any = room-front [] (others n) t room;
      promises = let h = room.promises in let b = others-promises n in omega (arith, h, b);
      jobs = let h = room.jobs in let b = others-jobs n in omega (arith, h, b);
      events = let h = room.events in let b = others-events n in omega (arith, h, b);
      hosts = let h = room.hosts in let b = others-hosts n in omega (arith, h, b);
      caused = let h = room.caused in omega (arith, h, many);
      others = let h = room.others in omega (arith, h, many);
      under_way = omega (arith, turns, many);
    }

-- the effect was performed, and nothing is left of it
pub left-to-others : (n : ℕ) (e : Effect) (t t' : Tables) → PerformsDirectly (e ∷ []) t t' → t'.caused.effects ≡ []
    → HasRoomForAll (e ∷ others n) t → AreEnough (vec_capacity t.under_way) (e ∷ others n) t → HasPlacesFor n t'
left-to-others n e t t' did quiet room turns =
    let k = vec_capacity t.under_way in
    places-of-others n t'
    (subst (λ es. HasRoomForAll (es ++ others n) t') quiet (did.room (others n) room))
    (subst (λ v. AreEnough (vec_capacity v) (others n) t') (sym did.under_way)
    (subst (λ es. AreEnough k (es ++ others n) t') quiet (did.turns k (others n) turns)))

-- one call or job more was performed
pub aged : (n a : ℕ) (t : Tables) → HasPlacesFor n t → HasPlacesFor n (record t { age = a })
aged n a t has =
    let any = has.any in
    record {
      any =
          record {
            promises = any.promises;
            jobs = any.jobs;
            events = any.events;
            hosts = any.hosts;
            caused = any.caused;
            others = any.others;
            lists = any.lists;
            once = any.once;
            rooms = any.rooms;
            grown = any.grown;
            members = any.members;
            full = any.full;
            copies = any.copies;
          };
      promises = has.promises;
      jobs = has.jobs;
      events = has.events;
      hosts = has.hosts;
      caused = has.caused;
      others = has.others;
      under_way = has.under_way;
    }

-- promises that take no more places leave those that there were, as do the answers of hosts
pub with-fewer : (n : ℕ) (p : Seen) (t t' : Tables) → t' ≡ record t { promises = p; hosts = t'.hosts; age = t'.age } → p.room ≡ t.promises.room
    → length p.table.entries ≤ length t.promises.table.entries → jobs_in p.table ≤ jobs_in t.promises.table → events_in p.table ≤ events_in t.promises.table
    → length t'.hosts.items ≤ length t.hosts.items → t'.hosts.capacity ≡ t.hosts.capacity → HasPlacesFor n t → HasPlacesFor n t'
with-fewer n p t t' is room entries jobs events hosts capacity has =
    let pr = ap (λ (r : Room). r.promises) room in
    let jr = ap (λ (r : Room). r.jobs) room in
    let er = ap (λ (r : Room). r.events) room in
    let any = has.any in
    rw is
    (record {
      any =
          record {
            promises = let h = any.promises in omega (arith, h, entries, pr);
            jobs = let h = any.jobs in omega (arith, h, jobs, jr);
            events = let h = any.events in omega (arith, h, events, er);
            hosts = let h = any.hosts in omega (arith, h, hosts, capacity);
            caused = any.caused;
            others = any.others;
            lists = any.lists;
            once = any.once;
            rooms = any.rooms;
            grown = any.grown;
            members = any.members;
            full = any.full;
            copies = any.copies;
          };
      promises = let h = has.promises in omega (arith, h, entries, pr);
      jobs = let h = has.jobs in omega (arith, h, jobs, jr);
      events = let h = has.events in omega (arith, h, events, er);
      hosts = let h = has.hosts in omega (arith, h, hosts, capacity);
      caused = has.caused;
      others = has.others;
      under_way = has.under_way;
    })

nothing-in : {X : Type 0} (x : X) → Contains {X = X} [] x → ⊥
nothing-in x (k, less, is) = omega (arith, less)

-- no stream waits for places
pub have-places : (t : Tables) → IsKept t → vec_len t.grown ≡ 0 → EachHasPlaces t.streams.items
have-places t kept none i x is =
    let nobody = empty t.grown.items (let l = t.grown.ok.0 in omega (arith, none, l)) in
    let number : StreamId = record { 0 = i } in
    ⊎_elim (λ h. h) (λ c. absurd (nothing-in number (subst (λ g. Contains g number) nobody c))) (kept.covered number x is)

-- and no signal
pub have-members : (t : Tables) → IsKept t → vec_len t.full ≡ 0 → EachHasMembers 1 t.signals.items
have-members t kept none i x is =
    let nobody = empty t.full.items (let l = t.full.ok.0 in omega (arith, none, l)) in
    let number : SignalId = record { 0 = i } in
    ⊎_elim (λ h. h) (λ c. absurd (nothing-in number (subst (λ g. Contains g number) nobody c))) (kept.members number x is)

-- the places that were looked for
pub found : (n : ℕ) (t : Tables) → EachHasPlaces t.streams.items → EachHasMembers 1 t.signals.items → IsAtHand t → t.aborts ≡ 0 → vec_len t.full ≡ 0
    → n * 28 + t.waiting + t.waiting + 6 ≤ t.caused.capacity → n * 28 + t.waiting + t.waiting + 6 ≤ vec_capacity t.others
    → n * 28 + t.waiting + t.waiting + 6 ≤ vec_capacity t.under_way → HasRoom (n * 14 + 1) t.promises → HasJobRoom (n * 14 + t.waiting) t.promises
    → n * 7 + length t.hosts.items ≤ t.hosts.capacity → HasPlacesFor n t
found n t lists signals hand none nobody caused others under-way room jobs hosts =
    let kt = no-tees-keep turns_alone t hand.tees in
    let kp = no-tees-keep promises_alone t hand.tees in
    let kj = no-tees-keep jobs_alone t hand.tees in
    let ke = no-tees-keep events_alone t hand.tees in
    let kh = no-tees-keep hosts_alone t hand.tees in
    let p = room.promises in
    let e = room.events in
    record {
      any =
          record {
            promises = omega (arith, p, none, kp);
            jobs = omega (arith, jobs, none, kj);
            events = omega (arith, e, none, ke);
            hosts = omega (arith, hosts, none, kh);
            caused = omega (arith, caused, none, kt);
            others = omega (arith, others, none, kt);
            lists = λ i x is.
                let h = lists i x is in
                let hq = h.0.queue in let hr = h.0.requests in
                let k = no-tees-keep (requests_at (record { 0 = i })) t hand.tees in
                record { queue = omega (arith, hq); requests = omega (arith, hr, k); descriptors = within-less _ _ (room_of x).descriptors (omega arith) h.0.descriptors };
            once = omega arith;
            rooms = λ i x is. rooms-less _ _ x (omega arith) (lists i x is).1;
            grown = let k = no-tees-keep requests_alone t hand.tees in let len = hand.grown in omega (arith, k, len);
            members = λ i x is. let h = signals i x is in omega (arith, h);
            full = omega (arith, nobody);
            copies = tt;
          };
      promises = omega (arith, p, none, kp);
      jobs = omega (arith, jobs, none, kj);
      events = omega (arith, e, none, ke);
      hosts = omega (arith, hosts, none, kh);
      caused = omega (arith, caused, none, kt);
      others = omega (arith, others, none, kt);
      under_way = omega (arith, under-way, none, kt);
    }

set-length : {X : Type 0} (xs : List X) (i : ℕ) (y : X) → length (slice_set xs i y) ≡ length xs
set-length [] i y = refl
set-length (x ∷ xs) zero y = refl
set-length (x ∷ xs) (suc i) y = ap suc (set-length xs i y)

-- an answer of the host that it is done fulfils a promise: that takes no place
pub settled-places : (n : ℕ) (p : PromiseId) (outcome : Result Plain Plain) (h a : ℕ) (t : Tables) → HasPlacesFor n t
    → HasPlacesFor n
    (record t {
      promises = record t.promises { table = settle p outcome t.promises.table };
      hosts = record t.hosts { items = slice_set t.hosts.items h None };
      age = a;
    })
unfolding table_size
settled-places n p outcome h a t has =
    let entries = settle-size promises_alone p outcome t.promises.table in
    let jobs = settle-size jobs_alone p outcome t.promises.table in
    let events = settle-size events_alone p outcome t.promises.table in
    let hosts = set-length t.hosts.items h None in
    with-fewer n (record t.promises { table = settle p outcome t.promises.table }) t _ refl refl (omega (arith, entries)) (omega (arith, jobs)) (omega (arith, events)) (omega (arith, hosts)) refl has
