-- A call or a job has begun: there are places for its effects and all that comes of them.
use Rattle.std.proofs.Common.{◌≡◌, ◌≤◌, ℕ, zero, suc, ◌+◌, ◌⊎◌, inl, inr, ⊎_elim, List, [], ◌∷◌, ◌++◌, length, map, Option, Some, None, refl, sym, ap, subst, ◌∙◌, length-append, arith}
use Rattle.std.specs.Prelude.{slice_get, vec_len, vec_capacity}
use Rattle.std.proofs.lemmas.List.{length-map}
use Rattle.std.proofs.lemmas.List.Elements.{Contains-append_left, Contains-append_right}
use Rattle.ws_value.specs.declared.ids.SignalId.{SignalId}
use Rattle.ws_value.specs.declared.ids.StreamId.{StreamId}
use Rattle.ws_pipe.specs.Seen.{SeenSignal, HasMemberRoom, aborts_of}
use Rattle.ws_tee.specs.Seen.{SeenTee}
use Rattle.ws_steps.specs.declared.calls.Call.{Call}
use Rattle.ws_steps.specs.declared.calls.Reply.{Reply}
use Rattle.ws_steps.specs.declared.calls.Reply.TheVariants as replies
use Rattle.ws_steps.specs.declared.effects.Effect.{Effect}
use Rattle.ws_steps.specs.Calls.{begin}
use Rattle.ws_steps.specs.Jobs.{begin_job}
use Rattle.ws_steps.specs.Pipes as pipe
use Rattle.ws_steps.specs.Places.{Prices, Counts, all_kept, tees_keep, need, size, prices_of, own, step_price, entries_of, members_of, turns_alone, promises_alone, jobs_alone, events_alone, hosts_alone, queued_alone, requests_alone, requests_at, members_alone, descriptors_alone, copies_alone}
use Rattle.ws_steps.specs.Slots.{Slots, Done}
use Rattle.ws_room_laws.proofs.Room.{Begins as BeginsWithin, begin-fits, job-fits}
use Rattle.ws_laws.proofs.Begin.{begin-makes}
use Rattle.ws_tables.specs.View.{slots_of, stream_of, signal_of, tee_of}
use Rattle.ws_tables.specs.Room.{Places, places_of, room_of, queued_in, requested_in, described_in, waiting_in, aborts_in, IsWithin, HasLists, HasRooms, AllCovered, AllHaveMembers, IsCounted, HasFew, AreSourced, HasCopies, AreCopied, asked, CanTurn, HasRoomForAll, IsReady, IsResting, IsKept}
use Rattle.ws_begin.specs.Begin.{IsBegun, IsEmpty, Answers, MakesNone, MakesOne, MakesTwo, MakesSignal, RecordsAfter}
use Rattle.ws_begin_job.specs.Begin.{Begins}
use Rattle.ws_tables.specs.declared.tables.Stream.{Stream as StreamRecord}
use Rattle.ws_tables.specs.declared.tables.Stream.TheVariants.{Readable, Bytes, Writable}
use Rattle.ws_tables.specs.declared.tables.Tables.{Tables}
use Rattle.ws_performing.proofs.Fits.{Takes, takes, within-less, queued-within, all-at-one, members-at}
use Rattle.ws_performing.proofs.Keeps.{later-is, one-tee, no-tee, more-sources, tees-turns, tees-promises, tees-jobs, tees-events, tees-hosts, tees-requests}
use Rattle.ws_performing.proofs.Turns.{rooms-less, no-rooms, copied-none}
use Rattle.ws_calls.proofs.Made.{Sourced, HandsFirst, added, counted-makes, job-counted, begin-few, job-few, begin-sourced, job-sourced, begin-hands, job-hands}

-- what has begun leaves the places as they are, and makes one stream, or two, or one signal, or none of these
record Starts (d : Done) (t t' : Tables) : Type 0 where
  slots : slots_of t' ≡ d.slots
  caused : t'.caused.effects ≡ d.caused
  others : t'.others ≡ t.others
  places : places_of t' ≡ places_of t
  waiting : t'.waiting ≡ t.waiting
  aborts : t'.aborts ≡ t.aborts
  counted : IsCounted d.slots
  few : HasFew d.slots
  sourced : Sourced (slots_of t) d
  -- the first effect alone may hand a chunk on
  handing : HandsFirst d.caused
  records : MakesNone t t' ⊎ (MakesOne t t' ⊎ (MakesSignal t t' ⊎ MakesTwo t t'))

which-made : (reply : Reply) (t t' : Tables) → RecordsAfter reply t t' → MakesNone t t' ⊎ (MakesOne t t' ⊎ (MakesSignal t t' ⊎ MakesTwo t t'))
which-made replies.Done t t' h = inl h
which-made (replies.Made i) t t' h = inr (inl h)
which-made (replies.MadeTwo i j) t t' h = inr (inr (inr h))
which-made (replies.Signal a) t t' h = inr (inr (inl h))
which-made (replies.Port c) t t' h = inr (inl h)
which-made (replies.MadePort i c) t t' h = inr (inl h)
which-made (replies.Lock l) t t' h = inl h
which-made (replies.Promise p) t t' h = inl h
which-made (replies.Request request) t t' h = inl h
which-made (replies.Size n) t t' h = inl h
which-made (replies.State looks) t t' h = inl h
which-made (replies.Throws reason) t t' h = inl h
which-made replies.TooMany t t' h = inl h

-- a new stream has no requests
waits-new : (xs : List StreamRecord) (x : StreamRecord) → requested_in x ≡ 0 → waiting_in (map stream_of (xs ++ x ∷ [])) ≡ waiting_in (map stream_of xs)
waits-new [] (Readable r) none = omega (arith, none)
waits-new [] (Bytes b) none = omega (arith, none)
waits-new [] (Writable w) none = refl
waits-new (y ∷ ys) x none = let h = waits-new ys x none in omega (arith, h)

cover-new : (grown : List StreamId) (xs : List StreamRecord) (x : StreamRecord) → AllCovered grown xs → AllCovered (grown ++ record { 0 = length xs } ∷ []) (xs ++ x ∷ [])
cover-new grown xs x covered i y is =
    let new : StreamId = record { 0 = length xs } in
    ⊎_elim
    (λ h. ⊎_elim (λ l. inl l) (λ c. inr (Contains-append_left grown (new ∷ []) i c)) (covered i y h))
    (λ h. let number : i ≡ new = ap (λ n. record { 0 = n }) h.0 in inr (rw number (Contains-append_right grown (new ∷ []) new (0, omega arith, refl))))
    (added xs x y i.0 is)

cover-two : (grown : List StreamId) (xs : List StreamRecord) (x y : StreamRecord) → AllCovered grown xs
    → AllCovered ((grown ++ record { 0 = length xs } ∷ []) ++ record { 0 = length xs + 1 } ∷ []) ((xs ++ x ∷ []) ++ y ∷ [])
cover-two grown xs x y covered =
    subst (λ n. AllCovered ((grown ++ record { 0 = length xs } ∷ []) ++ record { 0 = n } ∷ []) ((xs ++ x ∷ []) ++ y ∷ [])) (length-append xs (x ∷ []))
    (cover-new (grown ++ record { 0 = length xs } ∷ []) (xs ++ x ∷ []) y (cover-new grown xs x covered))

-- a new signal aborts no pipes
aborts-new : (xs : List SeenSignal) (x : SeenSignal) → x.signal ≡ pipe.new_signal → aborts_in (map signal_of (xs ++ x ∷ [])) ≡ aborts_in (map signal_of xs)
aborts-new [] x none = let h = ap aborts_of none in omega (arith, h)
aborts-new (y ∷ ys) x none = let h = aborts-new ys x none in omega (arith, h)

cover-signal : (full : List SignalId) (xs : List SeenSignal) (x : SeenSignal) → AllHaveMembers full xs → AllHaveMembers (full ++ record { 0 = length xs } ∷ []) (xs ++ x ∷ [])
cover-signal full xs x covered i y is =
    let new : SignalId = record { 0 = length xs } in
    ⊎_elim
    (λ h. ⊎_elim (λ l. inl l) (λ c. inr (Contains-append_left full (new ∷ []) i c)) (covered i y h))
    (λ h. let number : i ≡ new = ap (λ n. record { 0 = n }) h.0 in inr (rw number (Contains-append_right full (new ∷ []) new (0, omega arith, refl))))
    (added xs x y i.0 is)

kept : (d : Done) (t t' : Tables) → Starts d t t' → IsKept t → IsKept t'
kept d t t' start was =
    let counted : IsCounted (slots_of t') = subst (λ (s : Slots). IsCounted s) (sym start.slots) start.counted in
    let few : HasFew (slots_of t') = subst HasFew (sym start.slots) start.few in
    let own : AreSourced (slots_of t') =
    subst AreSourced (sym start.slots) (more-sources (length (slots_of t).streams) (length d.slots.streams) d.slots.tees start.sourced.1.0 start.sourced.0) in
    ⊎_elim
    (λ (none : MakesNone t t'). record {
      waiting = start.waiting ∙ (was.waiting ∙ ap (λ v. waiting_in (map stream_of v.items)) (sym none.streams));
      covered = rw (none.grown, none.streams) was.covered;
      aborts = start.aborts ∙ (was.aborts ∙ ap (λ v. aborts_in (map signal_of v.items)) (sym none.signals));
      members = rw (none.full, none.signals) was.members;
      copied = rw (none.uncopied, none.tees) was.copied;
      sourced = own;
      counted = counted;
      few = few;
    })
    (λ made. ⊎_elim
    (λ (one : MakesOne t t'). record {
      waiting = start.waiting ∙ (was.waiting ∙ (sym (waits-new t.streams.items one.stream one.empty.requested) ∙ ap (λ xs. waiting_in (map stream_of xs)) (sym one.streams)));
      covered = rw (one.grown, one.streams) (cover-new t.grown.items t.streams.items one.stream was.covered);
      aborts = start.aborts ∙ (was.aborts ∙ ap (λ v. aborts_in (map signal_of v.items)) (sym one.signals));
      members = rw (one.full, one.signals) was.members;
      copied = rw (one.uncopied, one.tees) was.copied;
      sourced = own;
      counted = counted;
      few = few;
    })
    (λ rest. ⊎_elim
    (λ (one : MakesSignal t t'). record {
      waiting = start.waiting ∙ (was.waiting ∙ ap (λ v. waiting_in (map stream_of v.items)) (sym one.streams));
      covered = rw (one.grown, one.streams) was.covered;
      aborts = start.aborts ∙ (was.aborts ∙ (sym (aborts-new t.signals.items one.signal one.empty) ∙ ap (λ xs. aborts_in (map signal_of xs)) (sym one.signals)));
      members = rw (one.full, one.signals) (cover-signal t.full.items t.signals.items one.signal was.members);
      copied = rw (one.uncopied, one.tees) was.copied;
      sourced = own;
      counted = counted;
      few = few;
    })
    (λ (two : MakesTwo t t'). record {
      waiting =
          start.waiting
          ∙ (was.waiting
          ∙ (sym (waits-new t.streams.items two.first two.first_empty.requested)
          ∙ (sym (waits-new (t.streams.items ++ two.first ∷ []) two.second two.second_empty.requested) ∙ ap (λ xs. waiting_in (map stream_of xs)) (sym two.streams))));
      covered = rw (two.grown, two.streams) (cover-two t.grown.items t.streams.items two.first two.second was.covered);
      aborts = start.aborts ∙ (was.aborts ∙ ap (λ v. aborts_in (map signal_of v.items)) (sym two.signals));
      members = rw (two.full, two.signals) was.members;
      copied = λ is. rw (two.tees is) (was.copied (two.uncopied is));
      sourced = own;
      counted = counted;
      few = few;
    })
    rest)
    made)
    start.records

within-none : (n : ℕ) → n ≡ 0 → (places : Option ℕ) → IsWithin n places
within-none n none None = tt
within-none n none (Some p) = omega (arith, none)

-- one chunk is handed on at most

own-one : (e : Effect) → own copies_alone e ≤ 1
own-one e = grind arith

fewer-copies : (n : ℕ) (x : SeenTee) → n ≤ 1 → HasCopies 1 x → HasCopies n x
fewer-copies zero x less can = tt
fewer-copies (suc n) x less can = can

-- what is taken stays within what is prepared for any call or job
module _ (d : Done) (t t' : Tables) (within : (π : Prices) (i : StreamId) (a : SignalId) → Counts π i → BeginsWithin π i a (all_kept π (slots_of t) + step_price π) (slots_of t) d)
    (ready : IsReady t) (was : IsKept t) (start : Starts d t t') where
  took : Takes step_price (slots_of t) (slots_of t') t'.caused.effects
  took = rw (start.slots, start.caused) (takes step_price (slots_of t) d.slots d.caused (λ π i a c. let h = within π i a c in omega (arith, h)))

  -- what the effects make in lists

  queued-few : t'.streams ≡ t.streams → prices_of queued_alone t'.caused.effects ≤ 4
  queued-few same =
      let items = ap (λ v. map stream_of v.items) same in
      queued-within 4 (slots_of t) (slots_of t') t'.caused.effects items
      (subst (λ (z : Slots). (i : StreamId) (a : SignalId) → size queued_alone i a z + need queued_alone z t'.caused.effects ≤ size queued_alone i a (slots_of t) + (all_kept queued_alone (slots_of t) + 4))
      (sym start.slots)
      (subst (λ es. (i : StreamId) (a : SignalId) → size queued_alone i a d.slots + need queued_alone d.slots es ≤ size queued_alone i a (slots_of t) + (all_kept queued_alone (slots_of t) + 4))
      (sym start.caused) (λ i a. within queued_alone i a (record { here = refl; others = λ j. omega arith }))))

  requested-few : t'.streams ≡ t.streams → t'.tees ≡ t.tees → prices_of requests_alone t'.caused.effects ≤ 2
  requested-few same tees =
      let a = took.asked (record { 0 = 0 }) in
      let q = ap (λ v. entries_of requests_alone (slice_get (map stream_of v.items) 0)) same in
      let k = ap (λ v. tees_keep requests_alone (map tee_of v.items)) tees in
      omega (arith, a, q, k)

  described-few : t'.streams ≡ t.streams → prices_of descriptors_alone t'.caused.effects ≤ 1
  described-few same =
      let a = took.described (record { 0 = 0 }) in
      let q = ap (λ v. entries_of descriptors_alone (slice_get (map stream_of v.items) 0)) same in
      omega (arith, a, q)

  members-few : t'.signals ≡ t.signals → prices_of members_alone t'.caused.effects ≤ 1
  members-few same =
      let a = took.members (record { 0 = 0 }) in
      let q = ap (λ v. members_of members_alone (slice_get (map signal_of v.items) 0)) same in
      omega (arith, a, q)

  -- a stream that there was has places, and a new one needs none

  abbrev Few : Type 0
  Few = (prices_of queued_alone t'.caused.effects ≤ 4) × (prices_of requests_alone t'.caused.effects ≤ 2) × (prices_of descriptors_alone t'.caused.effects ≤ 1)

  abbrev Has : ℕ → StreamRecord → Type 0
  Has i y = HasLists (prices_of queued_alone t'.caused.effects) (asked t'.caused.effects t' i) (prices_of descriptors_alone t'.caused.effects) y × HasRooms (prices_of descriptors_alone t'.caused.effects) y

  -- a tee keeps one place at its source
  asked-few : (i : ℕ) → asked t'.caused.effects t' i ≤ prices_of requests_alone t'.caused.effects + 1
  asked-few i =
      let a = all-at-one (record { 0 = i }) t'.caused.effects in
      let b = one-tee (length (slots_of t').streams) (record { 0 = i }) (slots_of t').tees (kept d t t' start was).sourced in
      omega (arith, a, b)

  -- and none at a new stream
  asked-none : prices_of requests_alone t'.caused.effects ≡ 0 → (i : ℕ) → length t.streams.items ≤ i → asked t'.caused.effects t' i ≡ 0
  asked-none none i new =
      let a = all-at-one (record { 0 = i }) t'.caused.effects in
      let m = length-map t.streams.items stream_of in
      let b = no-tee (length (slots_of t).streams) (record { 0 = i }) d.slots.tees (omega (arith, new, m)) start.sourced.0 in
      let k = ap (λ (s : Slots). tees_keep (requests_at (record { 0 = i })) s.tees) start.slots in
      omega (arith, a, b, k, none)

  before-has : Few → (i : ℕ) (y : StreamRecord) → slice_get t.streams.items i ≡ Some y → Has i y
  before-has few i y before =
      let h = ready.places i y before in
      let hq = h.0.queue in let hr = h.0.requests in
      let q = few.0 in let r = few.1 in let n = few.2 in let one = asked-few i in (
        record {
          queue = omega (arith, hq, q);
          requests = omega (arith, hr, r, one);
          descriptors = within-less _ _ (room_of y).descriptors (omega (arith, n)) h.0.descriptors;
        },
        rooms-less _ _ y n h.1,
      )

  new-has : prices_of queued_alone t'.caused.effects ≡ 0 → prices_of requests_alone t'.caused.effects ≡ 0 → prices_of descriptors_alone t'.caused.effects ≡ 0
      → (i : ℕ) → length t.streams.items ≤ i → (x y : StreamRecord) → IsEmpty x → x ≡ y → Has i y
  new-has q r n i new x y empty same =
      let eq = ap queued_in (sym same) ∙ empty.queued in let er = ap requested_in (sym same) ∙ empty.requested in let en = ap described_in (sym same) ∙ empty.described in
      let none = asked-none r i new in (
        record {
          queue = omega (arith, q, eq);
          requests = omega (arith, none, er);
          descriptors = within-none (prices_of descriptors_alone t'.caused.effects + described_in y) (omega (arith, n, en)) (room_of y).descriptors;
        },
        rooms-less _ 0 y (omega (arith, n)) (no-rooms y),
      )

  few : Few
  few =
      ⊎_elim
      (λ (none : MakesNone t t'). (queued-few none.streams, requested-few none.streams none.tees, described-few none.streams))
      (λ made. ⊎_elim
      (λ (one : MakesOne t t'). let q = one.queued in let r = one.requested in let n = one.described in (omega (arith, q), omega (arith, r), omega (arith, n)))
      (λ rest. ⊎_elim
      (λ (one : MakesSignal t t'). (queued-few one.streams, requested-few one.streams one.tees, described-few one.streams))
      (λ (two : MakesTwo t t'). let q = two.queued in let r = two.requested in let n = two.described in (omega (arith, q), omega (arith, r), omega (arith, n)))
      rest)
      made)
      start.records

  same-has : (i : ℕ) (y : StreamRecord) → slice_get t'.streams.items i ≡ Some y → t'.streams ≡ t.streams → Has i y
  same-has i y is same = before-has few i y (ap (λ v. slice_get v.items i) (sym same) ∙ is)

  one-has : (i : ℕ) (y : StreamRecord) → slice_get t'.streams.items i ≡ Some y → MakesOne t t' → Has i y
  one-has i y is one =
      ⊎_elim (before-has few i y) (λ h. let at = h.0 in new-has one.queued one.requested one.described i (omega (arith, at)) one.stream y one.empty h.1)
      (added t.streams.items one.stream y i (ap (λ xs. slice_get xs i) (sym one.streams) ∙ is))

  two-has : (i : ℕ) (y : StreamRecord) → slice_get t'.streams.items i ≡ Some y → MakesTwo t t' → Has i y
  two-has i y is two =
      ⊎_elim
      (λ before.
      ⊎_elim (before-has few i y) (λ h. let at = h.0 in new-has two.queued two.requested two.described i (omega (arith, at)) two.first y two.first_empty h.1)
      (added t.streams.items two.first y i before))
      (λ h. let at = h.0 in let many = length-append t.streams.items (two.first ∷ []) in new-has two.queued two.requested two.described i (omega (arith, at, many)) two.second y two.second_empty h.1)
      (added (t.streams.items ++ two.first ∷ []) two.second y i (ap (λ xs. slice_get xs i) (sym two.streams) ∙ is))

  each-has : (i : ℕ) (y : StreamRecord) → slice_get t'.streams.items i ≡ Some y → Has i y
  each-has i y is =
      ⊎_elim (λ (none : MakesNone t t'). same-has i y is none.streams)
      (λ made. ⊎_elim (λ (one : MakesOne t t'). one-has i y is one)
      (λ rest. ⊎_elim (λ (one : MakesSignal t t'). same-has i y is one.streams) (λ (two : MakesTwo t t'). two-has i y is two) rest) made) start.records

  members-before : (i : ℕ) (y : SeenSignal) → slice_get t'.signals.items i ≡ Some y → slice_get t.signals.items i ≡ Some y → HasMemberRoom (prices_of members_alone t'.caused.effects) y
  members-before i y is before =
      let a = took.members (record { 0 = i }) in
      let h = ready.members i y before in
      let mx = members-at t.signals.items i y before in
      let my = members-at t'.signals.items i y is in
      omega (arith, h, a, mx, my)

  members-same : (i : ℕ) (y : SeenSignal) → slice_get t'.signals.items i ≡ Some y → t'.signals ≡ t.signals → HasMemberRoom (prices_of members_alone t'.caused.effects) y
  members-same i y is same = members-before i y is (ap (λ v. slice_get v.items i) (sym same) ∙ is)

  members-made : (i : ℕ) (y : SeenSignal) → slice_get t'.signals.items i ≡ Some y → MakesSignal t t' → HasMemberRoom (prices_of members_alone t'.caused.effects) y
  members-made i y is one =
      ⊎_elim (members-before i y is)
      (λ h. let m = one.members in let e = ap (λ (x : SeenSignal). length x.signal.pipes) (sym h.1) ∙ ap (λ (x : pipe.Signal). length x.pipes) one.empty in omega (arith, m, e))
      (added t.signals.items one.signal y i (ap (λ xs. slice_get xs i) (sym one.signals) ∙ is))

  -- where a chunk is handed on, the tees are as before, which were prepared

  first-copied : (es : List Effect) → t'.tees ≡ t.tees → HandsFirst es → AreCopied es t'
  first-copied [] same hands = tt
  first-copied (e ∷ es) same hands = (λ i x is. fewer-copies (own copies_alone e) x (own-one e) (ready.copies i x (ap (λ v. slice_get v.items i) (sym same) ∙ is)), hands)

  each-copied : AreCopied t'.caused.effects t'
  each-copied =
      let hands = subst HandsFirst (sym start.caused) start.handing in
      ⊎_elim (λ (none : MakesNone t t'). first-copied t'.caused.effects none.tees hands)
      (λ made. ⊎_elim (λ (one : MakesOne t t'). first-copied t'.caused.effects one.tees hands)
      (λ rest.
      ⊎_elim (λ (one : MakesSignal t t'). first-copied t'.caused.effects one.tees hands)
      (λ (two : MakesTwo t t'). copied-none t'.caused.effects t' two.copies) rest) made) start.records

  -- what tees keep of each kind

  same-tees : t'.tees ≡ t.tees → length (slots_of t').tees ≡ length (slots_of t).tees
  same-tees same = ap (λ v. length (map tee_of v.items)) same

  many-tees : length (slots_of t).tees ≡ vec_len t.tees
  many-tees = let m = length-map t.tees.items tee_of in let l = t.tees.ok.0 in omega (arith, m, l)

  fits : HasRoomForAll t'.caused.effects t'
  fits =
      let caps = start.places in
      let pr = ap (λ (p : Places). p.promises.promises) caps in
      let jr = ap (λ (p : Places). p.promises.jobs) caps in
      let er = ap (λ (p : Places). p.promises.events) caps in
      let hc = ap (λ (p : Places). p.hosts) caps in
      let ac = ap (λ (p : Places). p.caused) caps in
      let oc = ap (λ (p : Places). p.others) caps in
      let gc = ap (λ (p : Places). p.grown) caps in
      let fc = ap (λ (p : Places). p.full) caps in
      let now = kept d t t' start was in
      let turns = later-is turns_alone t refl was in let turns' = later-is turns_alone t' refl now in
      let xs = (slots_of t).tees in
      let n = many-tees in
      let most = tees-turns xs in
      record {
        promises = let h = ready.promises.promises in let a = took.promises in let k = later-is promises_alone t refl was in let k' = later-is promises_alone t' refl now in omega (arith, h, a, pr, k, k', n, tees-promises xs);
        jobs = let h = ready.jobs in let a = took.jobs in let k = later-is jobs_alone t refl was in let k' = later-is jobs_alone t' refl now in omega (arith, h, a, jr, k, k', n, tees-jobs xs);
        events = let h = ready.promises.events in let a = took.events in let k = later-is events_alone t refl was in let k' = later-is events_alone t' refl now in omega (arith, h, a, er, k, k', n, tees-events xs);
        hosts =
            let h = ready.hosts in let a = took.hosts in let k = later-is hosts_alone t refl was in let k' = later-is hosts_alone t' refl now in omega (arith, h, a, hc, k, k', n, tees-hosts xs);
        caused = let h = ready.caused in let a = took.turns in omega (arith, h, a, ac, turns, turns', n, most);
        others = let h = ready.others in let a = took.turns in omega (arith, h, a, oc, turns, turns', n, most);
        lists = λ i y is. (each-has i y is).0;
        once = few.2;
        rooms = λ i y is. (each-has i y is).1;
        grown =
            let h = ready.grown in
            let m = tees-requests (slots_of t').tees in
            let k = ap (λ (s : Slots). length s.tees) start.slots in
            let o = start.sourced.1.1 in
            ⊎_elim
            (λ (none : MakesNone t t').
            let q = queued-few none.streams in let r = requested-few none.streams none.tees in let l = ap vec_len none.grown in let e = same-tees none.tees in omega (arith, h, q, r, l, gc, m, n, e))
            (λ made. ⊎_elim
            (λ (one : MakesOne t t'). let q = one.queued in let r = one.requested in let l = one.counted in let e = same-tees one.tees in omega (arith, h, q, r, l, gc, m, n, e))
            (λ rest. ⊎_elim
            (λ (one : MakesSignal t t').
            let q = queued-few one.streams in let r = requested-few one.streams one.tees in let l = ap vec_len one.grown in let e = same-tees one.tees in omega (arith, h, q, r, l, gc, m, n, e))
            (λ (two : MakesTwo t t'). let q = two.queued in let r = two.requested in let l = two.counted in omega (arith, h, q, r, l, gc, m, n, k, o))
            rest)
            made)
            start.records;
        members = λ i y is.
            ⊎_elim (λ (none : MakesNone t t'). members-same i y is none.signals)
            (λ made. ⊎_elim (λ (one : MakesOne t t'). members-same i y is one.signals)
            (λ rest. ⊎_elim (λ (one : MakesSignal t t'). members-made i y is one) (λ (two : MakesTwo t t'). members-same i y is two.signals) rest) made) start.records;
        full =
            let h = ready.full in
            ⊎_elim
            (λ (none : MakesNone t t'). let m = members-few none.signals in let l = ap vec_len none.full in omega (arith, h, m, l, fc))
            (λ made. ⊎_elim
            (λ (one : MakesOne t t'). let m = members-few one.signals in let l = ap vec_len one.full in omega (arith, h, m, l, fc))
            (λ rest. ⊎_elim
            (λ (one : MakesSignal t t'). let m = one.members in let l = one.counted in omega (arith, h, m, l, fc))
            (λ (two : MakesTwo t t'). let m = members-few two.signals in let l = ap vec_len two.full in omega (arith, h, m, l, fc))
            rest)
            made)
            start.records;
        copies = each-copied;
      }

  turns-fit : t.under_way.items ≡ [] → CanTurn t'.caused.effects t'.under_way t'
  turns-fit none =
      let caps = start.places in
      let uc = ap (λ (p : Places). vec_capacity p.under_way) caps in
      let turns = later-is turns_alone t refl was in let turns' = later-is turns_alone t' refl (kept d t t' start was) in
      let n = many-tees in
      let most = tees-turns (slots_of t).tees in
      record {
        empty = ap (λ (p : Places). p.under_way.items) caps ∙ none;
        places = let h = ready.under_way in let a = took.turns in omega (arith, h, a, uc, turns, turns', n, most);
      }

starts : (d : Done) (t t' : Tables)
    → ((π : Prices) (i : StreamId) (a : SignalId) → Counts π i → BeginsWithin π i a (all_kept π (slots_of t) + step_price π) (slots_of t) d)
    → IsReady t → IsResting t → Starts d t t' → IsBegun t'
starts d t t' within ready rest start = record {
  others = ap (λ v. v.items) start.others ∙ rest.others;
  turns = turns-fit d t t' within ready rest.kept start rest.under_way;
  room = fits d t t' within ready rest.kept start;
  kept = kept d t t' start rest.kept;
}

pub call-begins : (c : Call) (reply : Reply) (t t' : Tables) → IsReady t → IsResting t → Answers (begin c (slots_of t)) reply t t' → IsBegun t'
call-begins c reply t t' ready rest did =
    starts (begin c (slots_of t)).done t t' (λ π i a counts. let h = begin-fits π i a counts (slots_of t) c in omega (arith, h)) ready rest
    (record {
      slots = did.slots;
      caused = did.caused;
      others = did.others;
      places = did.places;
      waiting = did.waiting;
      aborts = did.aborts;
      counted = begin-makes IsCounted counted-makes c (slots_of t) rest.kept.counted;
      few = begin-few c (slots_of t) rest.kept.few;
      sourced = begin-sourced c (slots_of t) rest.kept.sourced;
      handing = begin-hands c (slots_of t);
      records = which-made reply t t' did.records;
    })

pub job-begins : (t t' : Tables) → IsReady t → IsResting t → Begins (begin_job (slots_of t)) t t' → IsBegun t'
job-begins t t' ready rest did =
    let same = did.records in
    starts (begin_job (slots_of t)) t t' (λ π i a counts. job-fits π i a counts (slots_of t)) ready rest
    (record {
      slots = did.slots;
      caused = did.caused;
      others = did.others;
      places = did.places;
      waiting = same.waiting;
      aborts = same.aborts;
      counted = job-counted (slots_of t) rest.kept.counted;
      few = job-few (slots_of t) rest.kept.few;
      sourced = job-sourced (slots_of t) rest.kept.sourced;
      handing = job-hands (slots_of t);
      records = inl (record { streams = same.streams; grown = same.grown; signals = same.signals; full = same.full; tees = same.tees; uncopied = same.uncopied });
    })

-- what a job or a call begins with takes no more than any of them

pub job-takes : (t : Tables) (s' : Slots) (es : List Effect) → s' ≡ (begin_job (slots_of t)).slots → es ≡ (begin_job (slots_of t)).caused → Takes step_price (slots_of t) s' es
job-takes t s' es slots caused =
    let d = begin_job (slots_of t) in
    rw (slots, caused) (takes step_price (slots_of t) d.slots d.caused (λ π i a counts. let h = job-fits π i a counts (slots_of t) in omega (arith, h)))

pub call-takes : (c : Call) (t : Tables) (s' : Slots) (es : List Effect) → s' ≡ (begin c (slots_of t)).done.slots → es ≡ (begin c (slots_of t)).done.caused
    → Takes step_price (slots_of t) s' es
call-takes c t s' es slots caused =
    let d = (begin c (slots_of t)).done in
    rw (slots, caused) (takes step_price (slots_of t) d.slots d.caused (λ π i a counts. let h = begin-fits π i a counts (slots_of t) c in omega (arith, h)))
