-- What is kept by each change of the pairs and of the places, and what a call finds.
use Rattle.std.proofs.Common.{◌≡◌, suc, zero, ap, ◌≢◌, ◌∙◌, ℕ, ◌+◌, ◌<◌, ◌≤◌, List, [], ◌∷◌, ◌++◌, length, Option, Some, None, refl, sym, arith, inl, inr}
use Rattle.std.proofs.lemmas.Bool.{cases_lt}
use Rattle.std.specs.List.{insert}
use Rattle.std.specs.Prelude.{IsSome, filter, slice_get, slice_set, slice_index_or}
use Rattle.ws_places.specs.declared.places.Pair.{Pair}
use Rattle.ws_places.specs.Pairs.{value_at, kept_of, IsSound}
use Rattle.ws_places.specs.Seen.{value_in, without, with_value, put_in}
use Rattle.ws_places.proofs.OrderLemmas.{rising-below, rising-to, rising-push, rising-set, is_held, rising-filter, rising-inserted, after-found}
use Rattle.ws_places.proofs.HeldLemmas.{held-not_at, held-same, apart-push, held-push, apart-set, held-released, apart-filter, held-filter, held-written, apart-again, held-again, apart-inserted, held-inserted, held-index, some-within, some-value, set-here, set-there}
use Rattle.ws_places.proofs.KeptLemmas.{value-gone, value-there, value-none, kept-released, kept-written, kept-again, kept-inserted}

index-less : (qs : List Pair) (i : ℕ) (q : Pair) → slice_get qs i ≡ Some q → i < length qs
index-less [] i q g = cc
index-less (x ∷ qs) zero q g = omega arith
index-less (x ∷ qs) (suc i) q g = let l = index-less qs i q g in omega (arith, l)

same-number : (qs : List Pair) (i : ℕ) (q : Pair) → slice_get qs i ≡ Some q → (r : Pair) → slice_get qs i ≡ Some r → r.number ≡ q.number
same-number [] i q g r f = cc
same-number (x ∷ qs) zero q g r f = let is : r ≡ q = cc in ap (λ (y : Pair). y.number) is
same-number (x ∷ qs) (suc i) q g r f = same-number qs i q g r f

module _ {T : Type 0} where
  pub sound-push : (n k : ℕ) (v : T) (qs : List Pair) (ss ts : List (Option T)) → IsSound qs ss n → slice_index_or ss k None ≡ None → slice_index_or ts k None ≡ Some v
      → ((m : ℕ) → m ≢ k → slice_index_or ts m None ≡ slice_index_or ss m None) → IsSound (qs ++ (record { number = n; place = Some k }) ∷ []) ts (n + 1)
  sound-push n k v qs ss ts s free new h =
      let not = held-not_at k qs ss s.held free in
      record {
        rising = rising-push 0 n qs (Some k) (omega arith) s.rising;
        apart = apart-push k n qs not s.apart;
        held = held-push n k v qs ts (held-same k qs ss ts not h s.held) new;
      }

  pub sound-released : (next i k : ℕ) (qs : List Pair) (q : Pair) (ss ts : List (Option T)) → IsSound qs ss next → slice_get qs i ≡ Some q → q.place ≡ Some k
      → ((m : ℕ) → m ≢ k → slice_index_or ts m None ≡ slice_index_or ss m None) → IsSound (slice_set qs i (record { number = q.number; place = None })) ts next
  sound-released next i k qs q ss ts s g e o = record {
    rising = rising-set 0 next i qs q (record { number = q.number; place = None }) g refl s.rising;
    apart = apart-set i qs q.number s.apart;
    held = held-released i k qs q ss ts s.apart g e o s.held;
  }

  pub sound-filter : (qs : List Pair) (ss : List (Option T)) (next : ℕ) → IsSound qs ss next → IsSound (filter is_held qs) ss next
  sound-filter qs ss next s = record {
    rising = rising-filter 0 next qs s.rising;
    apart = apart-filter qs s.apart;
    held = held-filter qs ss s.held;
  }

  sound-written : (k next : ℕ) (w : T) (qs : List Pair) (ss ts : List (Option T)) → slice_index_or ts k None ≡ Some w → ((m : ℕ) → m ≢ k → slice_index_or ts m None ≡ slice_index_or ss m None) → IsSound qs ss next → IsSound qs ts next
  sound-written k next w qs ss ts new o s = record { rising = s.rising; apart = s.apart; held = held-written k w qs ss ts new o s.held }

  pub sound-again : (next i k : ℕ) (v : T) (qs : List Pair) (q : Pair) (ss ts : List (Option T)) → IsSound qs ss next → slice_get qs i ≡ Some q → slice_index_or ss k None ≡ None → slice_index_or ts k None ≡ Some v
      → ((m : ℕ) → m ≢ k → slice_index_or ts m None ≡ slice_index_or ss m None) → IsSound (slice_set qs i (record { number = q.number; place = Some k })) ts next
  sound-again next i k v qs q ss ts s g free new o =
      let not = held-not_at k qs ss s.held free in
      record {
        rising = rising-set 0 next i qs q (record { number = q.number; place = Some k }) g refl s.rising;
        apart = apart-again i k q.number qs not s.apart;
        held = held-again i k q.number v qs ss ts not new o s.held;
      }

  pub sound-inserted : (next i k n : ℕ) (v : T) (qs : List Pair) (ss ts : List (Option T)) → IsSound qs ss next → n < next → i ≤ length qs → ((j : ℕ) (q : Pair) → slice_get qs j ≡ Some q → j < i → q.number < n) → ((j : ℕ) (q : Pair) → slice_get qs j ≡ Some q → i ≤ j → n < q.number)
      → slice_index_or ss k None ≡ None → slice_index_or ts k None ≡ Some v → ((m : ℕ) → m ≢ k → slice_index_or ts m None ≡ slice_index_or ss m None) → IsSound (insert qs i (record { number = n; place = Some k })) ts next
  sound-inserted next i k n v qs ss ts s given w before after free new o =
      let not = held-not_at k qs ss s.held free in
      record {
        rising = rising-inserted 0 next i n (Some k) qs (omega arith) given w s.rising before after;
        apart = apart-inserted i k n qs not s.apart;
        held = held-inserted i k n v qs ts new (held-same k qs ss ts not o s.held);
      }

  pub lent-sound : (next i k : ℕ) (w : T) (qs : List Pair) (q : Pair) (ss : List (Option T)) → IsSound qs ss next → slice_get qs i ≡ Some q → q.place ≡ Some k → IsSound qs (slice_set ss k (Some w)) next
  lent-sound next i k w qs q ss s g e =
      let there = held-index i k qs q ss s.held g e in
      sound-written k next w qs ss (slice_set ss k (Some w)) (set-here k w ss (some-within k ss there)) (λ m d. set-there k m w ss d) s

  pub found : (next i n : ℕ) (qs : List Pair) (q : Pair) (ss : List (Option T)) (o : Option ℕ) (xs : List (ℕ × T)) → IsSound qs ss next → slice_get qs i ≡ Some q → q.number ≡ n → q.place ≡ o → kept_of qs ss ≡ xs
      → value_in n xs ≡ value_at o ss
  found next i n qs q ss o xs s g number place kept = rw (← number, ← place, ← kept) (value-there 0 next i qs q ss s.rising g)

  pub not-found : (n i : ℕ) (qs : List Pair) (ss : List (Option T)) (xs : List (ℕ × T)) → ((j : ℕ) (q : Pair) → slice_get qs j ≡ Some q → j < i → q.number < n) → ((j : ℕ) (q : Pair) → slice_get qs j ≡ Some q → i ≤ j → n < q.number) → kept_of qs ss ≡ xs
      → value_in n xs ≡ None
  not-found n i qs ss xs before after kept =
      rw (← kept) (value-none n qs ss (λ j q g e. elim (cases_lt j i) [
        | inl l ↦ absurd (omega (arith, before j q g l, e))
        | inr l ↦ absurd (omega (arith, after j q g l, e))
      ]))

  pub kept-without : (next i k n : ℕ) (qs : List Pair) (q : Pair) (ss ts : List (Option T)) (xs : List (ℕ × T)) → IsSound qs ss next → slice_get qs i ≡ Some q → q.number ≡ n → q.place ≡ Some k
      → ((m : ℕ) → m ≢ k → slice_index_or ts m None ≡ slice_index_or ss m None) → kept_of qs ss ≡ xs → kept_of (slice_set qs i (record { number = q.number; place = None })) ts ≡ without n xs
  kept-without next i k n qs q ss ts xs s g number place o kept = rw (← number, ← kept) (kept-released 0 next i k qs q ss ts s.rising s.apart g place o)

  pub kept-put : (next i k n : ℕ) (v : T) (qs : List Pair) (ss ts : List (Option T)) (xs : List (ℕ × T)) → IsSound qs ss next → i ≤ length qs → ((j : ℕ) (q : Pair) → slice_get qs j ≡ Some q → j < i → q.number < n) → ((j : ℕ) (q : Pair) → slice_get qs j ≡ Some q → i ≤ j → n < q.number)
      → slice_index_or ss k None ≡ None → slice_index_or ts k None ≡ Some v → ((m : ℕ) → m ≢ k → slice_index_or ts m None ≡ slice_index_or ss m None) → kept_of qs ss ≡ xs
      → kept_of (insert qs i (record { number = n; place = Some k })) ts ≡ put_in n v xs
  kept-put next i k n v qs ss ts xs s w before after free new o kept =
      rw (← kept) (kept-inserted 0 next i k n v qs ss ts s.rising w before after (held-not_at k qs ss s.held free) new o)

  pub kept-put_again : (next i k n : ℕ) (v : T) (qs : List Pair) (q : Pair) (ss ts : List (Option T)) (xs : List (ℕ × T)) → IsSound qs ss next → slice_get qs i ≡ Some q → q.number ≡ n → value_in n xs ≡ None
      → slice_index_or ss k None ≡ None → slice_index_or ts k None ≡ Some v → ((m : ℕ) → m ≢ k → slice_index_or ts m None ≡ slice_index_or ss m None) → kept_of qs ss ≡ xs
      → kept_of (slice_set qs i (record { number = q.number; place = Some k })) ts ≡ put_in n v xs
  kept-put_again next i k n v qs q ss ts xs s g number none free new o kept =
      let gone : value_at q.place ss ≡ None = sym (found next i n qs q ss q.place xs s g number refl kept) ∙ none in
      rw (← number, ← kept) (kept-again 0 next i k v qs q ss ts s.rising g gone (held-not_at k qs ss s.held free) new o)

  pub lent-kept : (next i k n : ℕ) (w : T) (qs : List Pair) (q : Pair) (ss : List (Option T)) (xs : List (ℕ × T)) → IsSound qs ss next → slice_get qs i ≡ Some q → q.number ≡ n → q.place ≡ Some k → kept_of qs ss ≡ xs
      → kept_of qs (slice_set ss k (Some w)) ≡ with_value n w xs
  lent-kept next i k n w qs q ss xs s g number e kept =
      let there = held-index i k qs q ss s.held g e in
      let old = some-value (slice_index_or ss k None) there in
      rw (← number, ← kept) (kept-written 0 next i k qs q old.0 w ss (slice_set ss k (Some w)) s.rising s.apart g e old.1 (set-here k w ss (some-within k ss there)) (λ m d. set-there k m w ss d))

  pub not-given : (next : ℕ) (qs : List Pair) (ss : List (Option T)) (xs : List (ℕ × T)) → IsSound qs ss next → kept_of qs ss ≡ xs → value_in next xs ≡ None
  not-given next qs ss xs s kept = rw (← kept) (value-none next qs ss (λ i q g e. absurd (omega (arith, e, rising-below 0 next i qs q s.rising g))))

  -- looking on from a number
  pub none-from : (n start : ℕ) (qs : List Pair) (ss : List (Option T)) (xs : List (ℕ × T)) → ((j : ℕ) (q : Pair) → slice_get qs j ≡ Some q → j < start → q.number < n) → ((j : ℕ) (q : Pair) → slice_get qs j ≡ Some q → start ≤ j → q.place ≡ None)
      → kept_of qs ss ≡ xs → (m : ℕ) → n ≤ m → value_in m xs ≡ None
  none-from n start qs ss xs before gone kept m h =
      rw (← kept) (value-gone m qs ss (λ j q g e. elim (cases_lt j start) [
        | inl l ↦ absurd (omega (arith, before j q g l, e, h))
        | inr l ↦ gone j q g (omega (arith, l))
      ]))

  pub some-from : (next n start i : ℕ) (qs : List Pair) (q : Pair) (ss : List (Option T)) (xs : List (ℕ × T)) → IsSound qs ss next → slice_get qs i ≡ Some q → IsSome q.place
      → ((j : ℕ) (q : Pair) → slice_get qs j ≡ Some q → j < start → q.number < n) → ((j : ℕ) (q : Pair) → slice_get qs j ≡ Some q → start ≤ j → j < i → q.place ≡ None) → kept_of qs ss ≡ xs
      → IsSome (value_in q.number xs) × ((m : ℕ) → n ≤ m → m < q.number → value_in m xs ≡ None)
  some-from next n start i qs q ss xs s g there before gone kept =
      let k = some-value q.place there in
      let held = held-index i k.0 qs q ss s.held g k.1 in (
        rw (found next i q.number qs q ss (Some k.0) xs s g refl k.1 kept) held,
        λ m h l. rw (← kept) (value-gone m qs ss (λ j r f e. elim (cases_lt j start) [
          | inl a ↦ absurd (omega (arith, before j r f a, e, h))
          | inr a ↦ elim (cases_lt j i) [
            | inl b ↦ gone j r f (omega (arith, a)) b
            | inr b ↦ absurd (let up = after-found next i q.number qs s.rising (index-less qs i q g) (same-number qs i q g) j r f (omega (arith, b)) in omega (arith, up, e, l))
          ]
        ])),
      )

  pub sound-later : (next later : ℕ) (qs : List Pair) (ss : List (Option T)) → next ≤ later → IsSound qs ss next → IsSound qs ss later
  sound-later next later qs ss l s = record { rising = rising-to 0 next later qs l s.rising; apart = s.apart; held = s.held }
