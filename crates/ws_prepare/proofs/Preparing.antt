-- Places are made in the lists of streams and signals.
use Rattle.std.proofs.Common.{◌≡◌, ◌≤◌, ◌+◌, ℕ, zero, suc, inl, inr, ⊎_elim, List, [], ◌∷◌, ◌++◌, length, Some, refl, sym, ap, subst, ◌∙◌, Contains, arith}
use Rattle.std.specs.Prelude.{slice_get, slice_set, Result, Ok, Err, OnOk}
use Rattle.std.proofs.lemmas.List.Elements.{Contains-append_cases}
use Rattle.ws_value.specs.declared.ids.SignalId.{SignalId}
use Rattle.ws_value.specs.declared.ids.StreamId.{StreamId}
use Rattle.ws_room_laws.proofs.Rows.{get-other, same-or}
use Rattle.ws_pipe.specs.Seen.{SeenSignal, HasMemberRoom}
use Rattle.ws_tables.specs.Room.{HasPlaces, EachHasPlaces, AllCovered, EachHasMembers, AllHaveMembers, places_for, IsReady, IsPrepared}
use Rattle.ws_prepare.specs.Preparing.{PlacesStay, IsRoomier, MembersGrow, base_places, IsMade, HasTurns, HasNotes, HasRecords}
use Rattle.ws_tables.specs.declared.tables.Tables.{Tables}
use Rattle.ws_promise.specs.Seen.{Seen, Grows, HasRoom, HasJobRoom, jobs_in, events_in}
use Rattle.ws_steps.specs.Promises.{Table}
use Rattle.ws_tables.specs.declared.tables.Stream.{Stream}
use Rattle.ws_tables.proofs.Elements.{put-is}

-- one stream got places
pub places-put : (xs : List Stream) (j : ℕ) (x y : Stream) → slice_get xs j ≡ Some x → (HasPlaces x → HasPlaces y) → PlacesStay xs (slice_set xs j y)
places-put xs j x y is stay i z there =
    ⊎_elim
    (λ (same : i ≡ j).
    let z-is : y ≡ z = put-is xs j y z (ap (slice_get (slice_set xs j y)) (sym same) ∙ there) in
    (x, (ap (slice_get xs) same ∙ is, subst (λ w. HasPlaces x → HasPlaces w) z-is stay)))
    (λ other. (z, (sym (get-other xs j i y other) ∙ there, λ h. h)))
    (same-or i j)

no-more : {X : Type 0} (j : X) → Contains {X = X} [] j → ⊥
no-more j (k, less, is) = omega (arith, less)

one-of : {X : Type 0} (x y : X) → Contains (x ∷ []) y → y ≡ x
one-of x y (zero, less, is) = sym is
one-of x y (suc k, less, is) = absurd (omega arith)

-- one stream of those that wait got places
pub covered-next : (grown rest : List StreamId) (j : StreamId) (xs ys : List Stream) → grown ≡ rest ++ j ∷ [] → AllCovered grown xs → PlacesStay xs ys
    → ((x : Stream) → slice_get ys j.0 ≡ Some x → HasPlaces x) → AllCovered rest ys
covered-next grown rest j xs ys last covered stay made i y there =
    let before = stay i.0 y there in
    ⊎_elim (λ h. inl (before.1.1 h))
    (λ c. ⊎_elim (λ h. inr h) (λ h. inl (made y (ap (λ (k : StreamId). slice_get ys k.0) (sym (one-of j i h)) ∙ there)))
    (Contains-append_cases rest (j ∷ []) i (subst (λ g. Contains g i) last c)))
    (covered i before.0 before.1.0)

-- no stream waits for places
pub all-covered : (grown : List StreamId) (xs : List Stream) → grown ≡ [] → AllCovered grown xs → EachHasPlaces xs
all-covered grown xs none covered i x is =
    ⊎_elim (λ h. h) (λ c. absurd (no-more (record { 0 = i }) (subst (λ g. Contains g (record { 0 = i })) none c))) (covered (record { 0 = i }) x is)

-- no signal waits for places
pub all-have : (full : List SignalId) (xs : List SeenSignal) → full ≡ [] → AllHaveMembers full xs → EachHasMembers 1 xs
all-have full xs none covered i x is =
    ⊎_elim (λ h. h) (λ c. absurd (no-more (record { 0 = i }) (subst (λ g. Contains g (record { 0 = i })) none c))) (covered (record { 0 = i }) x is)

roomier-same : (x : SeenSignal) → IsRoomier x x
roomier-same x = record { signal = refl; room = omega arith }

-- one signal got places
pub members-put : (xs : List SeenSignal) (j : ℕ) (x y : SeenSignal) → slice_get xs j ≡ Some x → IsRoomier x y → MembersGrow xs (slice_set xs j y)
members-put xs j x y is roomier i z there =
    ⊎_elim
    (λ (same : i ≡ j).
    let z-is : y ≡ z = put-is xs j y z (ap (slice_get (slice_set xs j y)) (sym same) ∙ there) in
    (x, (ap (slice_get xs) same ∙ is, subst (λ w. IsRoomier x w) z-is roomier)))
    (λ other. (z, (sym (get-other xs j i y other) ∙ there, roomier-same z)))
    (same-or i j)

-- promises that get places keep those that they had
pub grown-room : (n : ℕ) (p q : Seen) → q.table ≡ p.table → Grows p.room q.room → HasRoom n p → HasRoom n q
grown-room n p q same grows room =
    let a = ap (λ (t : Table). length t.entries) same in
    let b = ap jobs_in same in
    let d = ap events_in same in
    let g = grows.promises in let h = grows.jobs in let i = grows.events in
    let r = room.promises in let s = room.jobs in let t = room.events in
    record { promises = omega (arith, a, g, r); jobs = omega (arith, b, h, s); events = omega (arith, d, i, t) }

pub on_ok : {T E : Type 0} (r : Result T E) (P Q : Type 0) → (P → Q) → OnOk r P → OnOk r Q
on_ok (Ok x) P Q f h = f h
on_ok (Err e) P Q f h = tt

pub on_both : {T E : Type 0} (r : Result T E) (P Q : Type 0) → OnOk r P → OnOk r Q → OnOk r (P × Q)
on_both (Ok x) P Q a b = (a, b)
on_both (Err e) P Q a b = tt

-- the stream that is put at a number has the places
pub made-at : {T E : Type 0} (r : Result T E) (xs : List Stream) (i : StreamId) (y : Stream) → OnOk r (HasPlaces y) → OnOk r ((x : Stream) → slice_get (slice_set xs i.0 y) i.0 ≡ Some x → HasPlaces x)
made-at r xs i y h = on_ok r (HasPlaces y) _ (λ has x is. subst HasPlaces (put-is xs i.0 y x is) has) h

-- so has the signal
pub members-made : {T E : Type 0} (r : Result T E) (xs : List SeenSignal) (a : SignalId) (y : SeenSignal) → OnOk r (HasMemberRoom 1 y) → OnOk r ((x : SeenSignal) → slice_get (slice_set xs a.0 y) a.0 ≡ Some x → HasMemberRoom 1 x)
members-made r xs a y h = on_ok r (HasMemberRoom 1 y) _ (λ has x is. subst (HasMemberRoom 1) (put-is xs a.0 y x is) has) h

fewer-room : (m n : ℕ) (p : Seen) → m ≤ n → HasRoom n p → HasRoom m p
fewer-room m n p less room =
    let a = room.promises in let b = room.jobs in let d = room.events in
    record { promises = omega (arith, less, a); jobs = omega (arith, less, b); events = omega (arith, less, d) }

-- so many places each are enough for what the next call or job adds to the records that there are
pub made-ready : (t : Tables) (base jobs turns : ℕ) → base_places t ≤ base → base + t.waiting ≤ jobs → jobs + t.waiting ≤ turns
    → IsMade t → HasTurns turns t → HasRoom base t.promises → HasJobRoom jobs t.promises → HasNotes base t → IsReady t
made-ready t base jobs turns is-base is-jobs is-turns made has-turns room job-room notes =
    let caused = has-turns.caused in let others = has-turns.others in let under-way = has-turns.under_way in
    let hosts = notes.hosts in let grown = notes.grown in
    record {
      promises = fewer-room (places_for 0 8 3 15 t) base t.promises (omega (arith, is-base)) room;
      jobs = omega (arith, is-base, is-jobs, job-room);
      hosts = omega (arith, is-base, hosts);
      caused = omega (arith, is-base, is-jobs, is-turns, caused);
      others = omega (arith, is-base, is-jobs, is-turns, others);
      under_way = omega (arith, is-base, is-jobs, is-turns, under-way);
      grown = omega (arith, is-base, grown);
      places = made.places;
      full = notes.full;
      members = made.members;
      copies = made.copies;
    }

-- and with places for the records that a call makes, for whatever is called next
pub prepared : (t : Tables) → IsReady t → HasRecords t → IsPrepared t
prepared t ready records = record {
  ready = ready;
  locks = records.locks;
  byob_requests = records.byob_requests;
  streams = records.streams;
  transforms = records.transforms;
  tees = records.tees;
  ports = records.ports;
  pipes = records.pipes;
  signals = records.signals;
}

-- so many places each are enough for whatever is called next
pub made-prepared : (t : Tables) (base jobs turns : ℕ) → base_places t ≤ base → base + t.waiting ≤ jobs → jobs + t.waiting ≤ turns
    → IsMade t → HasTurns turns t → HasRoom base t.promises → HasJobRoom jobs t.promises → HasNotes base t → HasRecords t → IsPrepared t
made-prepared t base jobs turns is-base is-jobs is-turns made has-turns room job-room notes records =
    prepared t (made-ready t base jobs turns is-base is-jobs is-turns made has-turns room job-room notes) records
