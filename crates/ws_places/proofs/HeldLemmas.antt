-- Each pair has a place of its own, and a value lies in it, whatever changes.
use Rattle.std.proofs.Common.{◌≡◌, ◌≢◌, ◌∙◌, ℕ, ◌<◌, suc, zero, Bool, true, false, if◌then◌else◌, List, [], ◌∷◌, ◌++◌, length, cond, count_by, Option, Some, None, refl, ap, arith, inl, inr}
use Rattle.std.proofs.lemmas.Bool.{cases_eq}
use Rattle.std.proofs.lemmas.List.Sums.{sum_by-set}
use Rattle.std.specs.List.{insert}
use Rattle.std.specs.Prelude.{is_some, filter, slice_get, slice_set, slice_index_or}
use Rattle.ws_places.specs.declared.places.Pair.{Pair}
use Rattle.ws_places.specs.Pairs.{NotAt, Elsewhere, Apart, IsThere, Held}
use Rattle.ws_places.proofs.OrderLemmas.{is_held}

not_at-index : (k i : ℕ) (qs : List Pair) (q : Pair) → NotAt k qs → slice_get qs i ≡ Some q → q.place ≢ Some k
not_at-index k i [] q h g = cc
not_at-index k zero (x ∷ qs) q h g = λ e. h.0 cc
not_at-index k (suc i) (x ∷ qs) q h g = not_at-index k i qs q h.1 g

pub elsewhere-index : (o : Option ℕ) (k i : ℕ) (qs : List Pair) (q : Pair) → Elsewhere o qs → slice_get qs i ≡ Some q → q.place ≡ Some k → o ≢ Some k
elsewhere-index None k i qs q h g e = λ n. cc
elsewhere-index (Some m) k i qs q h g e = λ n. not_at-index m i qs q h g (cc)

-- a value that isn't there isn't some
no : {T : Type 0} (o : Option T) → o ≡ None → is_some o ≡ true → ⊥
no None e h = cc
no (Some v) e h = cc

module _ {T : Type 0} where
  pub held-not_at : (k : ℕ) (qs : List Pair) (ss : List (Option T)) → Held qs ss → slice_index_or ss k None ≡ None → NotAt k qs
  held-not_at k [] ss h e = tt
  held-not_at k (q ∷ qs) ss h e = (there-not k q.place ss h.0 e, held-not_at k qs ss h.1 e)
    where
      there-not : (k : ℕ) (o : Option ℕ) (ss : List (Option T)) → IsThere o ss → slice_index_or ss k None ≡ None → o ≢ Some k
      there-not k None ss h e = λ n. cc
      there-not k (Some m) ss h e = λ n.
          let is : m ≡ k = cc in
          let read : slice_index_or ss m None ≡ None = ap (λ j. slice_index_or ss j None) is ∙ e in
          no (slice_index_or ss m None) read h

  there-same : (k : ℕ) (o : Option ℕ) (ss ts : List (Option T)) → o ≢ Some k → ((m : ℕ) → m ≢ k → slice_index_or ts m None ≡ slice_index_or ss m None) → IsThere o ss → IsThere o ts
  there-same k None ss ts n h t = tt
  there-same k (Some m) ss ts n h t = let e = h m (λ e. n (ap Some e)) in rw e t

  pub held-same : (k : ℕ) (qs : List Pair) (ss ts : List (Option T)) → NotAt k qs → ((m : ℕ) → m ≢ k → slice_index_or ts m None ≡ slice_index_or ss m None) → Held qs ss → Held qs ts
  held-same k [] ss ts n h t = tt
  held-same k (q ∷ qs) ss ts n h t = (there-same k q.place ss ts n.0 h t.0, held-same k qs ss ts n.1 h t.1)

-- a pair is added
not_at-push : (m k n : ℕ) (qs : List Pair) → m ≢ k → NotAt m qs → NotAt m (qs ++ (record { number = n; place = Some k }) ∷ [])
not_at-push m k n [] d h = (λ e. d (cc), tt)
not_at-push m k n (q ∷ qs) d h = (h.0, not_at-push m k n qs d h.1)

elsewhere-push : (o : Option ℕ) (k n : ℕ) (qs : List Pair) → o ≢ Some k → Elsewhere o qs → Elsewhere o (qs ++ (record { number = n; place = Some k }) ∷ [])
elsewhere-push None k n qs d h = tt
elsewhere-push (Some m) k n qs d h = not_at-push m k n qs (λ e. d (ap Some e)) h

pub apart-push : (k n : ℕ) (qs : List Pair) → NotAt k qs → Apart qs → Apart (qs ++ (record { number = n; place = Some k }) ∷ [])
apart-push k n [] h a = (tt, tt)
apart-push k n (q ∷ qs) h a = (elsewhere-push q.place k n qs h.0 a.0, apart-push k n qs h.1 a.1)

module _ {T : Type 0} where
  pub held-push : (n k : ℕ) (v : T) (qs : List Pair) (ts : List (Option T)) → Held qs ts → slice_index_or ts k None ≡ Some v → Held (qs ++ (record { number = n; place = Some k }) ∷ []) ts
  held-push n k v [] ts h e = (rw e refl, tt)
  held-push n k v (q ∷ qs) ts h e = (h.0, held-push n k v qs ts h.1 e)

-- a value is let go of
not_at-set : (m i : ℕ) (qs : List Pair) (n : ℕ) → NotAt m qs → NotAt m (slice_set qs i (record { number = n; place = None }))
not_at-set m i [] n h = tt
not_at-set m zero (q ∷ qs) n h = (λ e. cc, h.1)
not_at-set m (suc i) (q ∷ qs) n h = (h.0, not_at-set m i qs n h.1)

elsewhere-set : (o : Option ℕ) (i : ℕ) (qs : List Pair) (n : ℕ) → Elsewhere o qs → Elsewhere o (slice_set qs i (record { number = n; place = None }))
elsewhere-set None i qs n h = tt
elsewhere-set (Some m) i qs n h = not_at-set m i qs n h

pub apart-set : (i : ℕ) (qs : List Pair) (n : ℕ) → Apart qs → Apart (slice_set qs i (record { number = n; place = None }))
apart-set i [] n h = tt
apart-set zero (q ∷ qs) n h = (tt, h.1)
apart-set (suc i) (q ∷ qs) n h = (elsewhere-set q.place i qs n h.0, apart-set i qs n h.1)

module _ {T : Type 0} where
  pub held-released : (i k : ℕ) (qs : List Pair) (q : Pair) (ss ts : List (Option T)) → Apart qs → slice_get qs i ≡ Some q → q.place ≡ Some k
      → ((m : ℕ) → m ≢ k → slice_index_or ts m None ≡ slice_index_or ss m None) → Held qs ss → Held (slice_set qs i (record { number = q.number; place = None })) ts
  held-released i k [] q ss ts a g e o h = cc
  held-released zero k (x ∷ qs) q ss ts a g e o h =
      let is : x ≡ q = cc in
      let place : x.place ≡ Some k = ap (λ (y : Pair). y.place) is ∙ e in
      let not : NotAt k qs = rw place at a.0 in
      (tt, held-same k qs ss ts not o h.1)
  held-released (suc i) k (x ∷ qs) q ss ts a g e o h =
      (there-same k x.place ss ts (elsewhere-index x.place k i qs q a.0 g e) o h.0, held-released i k qs q ss ts a.1 g e o h.1)

-- the pairs of values that were let go of are dropped
not_at-filter : (m : ℕ) (qs : List Pair) → NotAt m qs → NotAt m (filter is_held qs)
not_at-filter m [] h = tt
not_at-filter m (q ∷ qs) h = after (is_held q) (not_at-filter m qs h.1)
  where
    after : (b : Bool) → NotAt m (filter is_held qs) → NotAt m (if b then q ∷ filter is_held qs else filter is_held qs)
    after true rest = (h.0, rest)
    after false rest = rest

elsewhere-filter : (o : Option ℕ) (qs : List Pair) → Elsewhere o qs → Elsewhere o (filter is_held qs)
elsewhere-filter None qs h = tt
elsewhere-filter (Some m) qs h = not_at-filter m qs h

pub apart-filter : (qs : List Pair) → Apart qs → Apart (filter is_held qs)
apart-filter [] h = tt
apart-filter (q ∷ qs) h = after (is_held q) (apart-filter qs h.1)
  where
    after : (b : Bool) → Apart (filter is_held qs) → Apart (if b then q ∷ filter is_held qs else filter is_held qs)
    after true rest = (elsewhere-filter q.place qs h.0, rest)
    after false rest = rest

module _ {T : Type 0} where
  pub held-filter : (qs : List Pair) (ss : List (Option T)) → Held qs ss → Held (filter is_held qs) ss
  held-filter [] ss h = tt
  held-filter (q ∷ qs) ss h = after (is_held q) (held-filter qs ss h.1)
    where
      after : (b : Bool) → Held (filter is_held qs) ss → Held (if b then q ∷ filter is_held qs else filter is_held qs) ss
      after true rest = (h.0, rest)
      after false rest = rest

  -- a value is written
  there-written : (o : Option ℕ) (k : ℕ) (w : T) (ss ts : List (Option T)) → slice_index_or ts k None ≡ Some w → ((m : ℕ) → m ≢ k → slice_index_or ts m None ≡ slice_index_or ss m None) → IsThere o ss → IsThere o ts
  there-written None k w ss ts new o h = tt
  there-written (Some m) k w ss ts new o h =
      elim (cases_eq m k) [
        | inl same ↦ rw (same, new) refl
        | inr differs ↦ rw (o m differs) h
      ]

  pub held-written : (k : ℕ) (w : T) (qs : List Pair) (ss ts : List (Option T)) → slice_index_or ts k None ≡ Some w → ((m : ℕ) → m ≢ k → slice_index_or ts m None ≡ slice_index_or ss m None) → Held qs ss → Held qs ts
  held-written k w [] ss ts new o h = tt
  held-written k w (q ∷ qs) ss ts new o h = (there-written q.place k w ss ts new o h.0, held-written k w qs ss ts new o h.1)

-- a value is put under a number whose pair has lost its place
not_at-again : (m i k n : ℕ) (qs : List Pair) → m ≢ k → NotAt m qs → NotAt m (slice_set qs i (record { number = n; place = Some k }))
not_at-again m i k n [] d h = tt
not_at-again m zero k n (q ∷ qs) d h = (λ e. d (cc), h.1)
not_at-again m (suc i) k n (q ∷ qs) d h = (h.0, not_at-again m i k n qs d h.1)

elsewhere-again : (o : Option ℕ) (i k n : ℕ) (qs : List Pair) → o ≢ Some k → Elsewhere o qs → Elsewhere o (slice_set qs i (record { number = n; place = Some k }))
elsewhere-again None i k n qs d h = tt
elsewhere-again (Some m) i k n qs d h = not_at-again m i k n qs (λ e. d (ap Some e)) h

pub apart-again : (i k n : ℕ) (qs : List Pair) → NotAt k qs → Apart qs → Apart (slice_set qs i (record { number = n; place = Some k }))
apart-again i k n [] h a = tt
apart-again zero k n (q ∷ qs) h a = (h.1, a.1)
apart-again (suc i) k n (q ∷ qs) h a = (elsewhere-again q.place i k n qs h.0 a.0, apart-again i k n qs h.1 a.1)

module _ {T : Type 0} where
  pub held-again : (i k : ℕ) (n : ℕ) (v : T) (qs : List Pair) (ss ts : List (Option T)) → NotAt k qs → slice_index_or ts k None ≡ Some v → ((m : ℕ) → m ≢ k → slice_index_or ts m None ≡ slice_index_or ss m None)
      → Held qs ss → Held (slice_set qs i (record { number = n; place = Some k })) ts
  held-again i k n v [] ss ts h new o s = tt
  held-again zero k n v (x ∷ qs) ss ts h new o s = (rw new refl, held-same k qs ss ts h.1 o s.1)
  held-again (suc i) k n v (x ∷ qs) ss ts h new o s = (there-same k x.place ss ts h.0 o s.0, held-again i k n v qs ss ts h.1 new o s.1)

-- a pair is inserted in the order
not_at-inserted : (m i k n : ℕ) (qs : List Pair) → m ≢ k → NotAt m qs → NotAt m (insert qs i (record { number = n; place = Some k }))
not_at-inserted m zero k n qs d h = (λ e. d (cc), h)
not_at-inserted m (suc i) k n [] d h = (λ e. d (cc), tt)
not_at-inserted m (suc i) k n (q ∷ qs) d h = (h.0, not_at-inserted m i k n qs d h.1)

elsewhere-inserted : (o : Option ℕ) (i k n : ℕ) (qs : List Pair) → o ≢ Some k → Elsewhere o qs → Elsewhere o (insert qs i (record { number = n; place = Some k }))
elsewhere-inserted None i k n qs d h = tt
elsewhere-inserted (Some m) i k n qs d h = not_at-inserted m i k n qs (λ e. d (ap Some e)) h

pub apart-inserted : (i k n : ℕ) (qs : List Pair) → NotAt k qs → Apart qs → Apart (insert qs i (record { number = n; place = Some k }))
apart-inserted zero k n qs h a = (h, a)
apart-inserted (suc i) k n [] h a = (tt, tt)
apart-inserted (suc i) k n (q ∷ qs) h a = (elsewhere-inserted q.place i k n qs h.0 a.0, apart-inserted i k n qs h.1 a.1)

module _ {T : Type 0} where
  pub held-inserted : (i k n : ℕ) (v : T) (qs : List Pair) (ts : List (Option T)) → slice_index_or ts k None ≡ Some v → Held qs ts → Held (insert qs i (record { number = n; place = Some k })) ts
  held-inserted zero k n v qs ts new h = (rw new refl, h)
  held-inserted (suc i) k n v [] ts new h = (rw new refl, tt)
  held-inserted (suc i) k n v (q ∷ qs) ts new h = (h.0, held-inserted i k n v qs ts new h.1)

  -- a value is written where it stands
  pub held-index : (i k : ℕ) (qs : List Pair) (q : Pair) (ss : List (Option T)) → Held qs ss → slice_get qs i ≡ Some q → q.place ≡ Some k → is_some (slice_index_or ss k None) ≡ true
  held-index i k [] q ss h g e = cc
  held-index zero k (x ∷ qs) q ss h g e =
      let is : x ≡ q = cc in
      let place : x.place ≡ Some k = ap (λ (y : Pair). y.place) is ∙ e in
      rw place at h.0
  held-index (suc i) k (x ∷ qs) q ss h g e = held-index i k qs q ss h.1 g e

  pub some-within : (k : ℕ) (ss : List (Option T)) → is_some (slice_index_or ss k None) ≡ true → k < length ss
  some-within k [] h = cc
  some-within zero (s ∷ ss) h = omega arith
  some-within (suc k) (s ∷ ss) h = let later = some-within k ss h in omega arith

  pub some-value : (o : Option T) → is_some o ≡ true → (v : T) × (o ≡ Some v)
  some-value None h = cc
  some-value (Some v) h = (v, refl)

  pub set-here : (k : ℕ) (w : T) (ss : List (Option T)) → k < length ss → slice_index_or (slice_set ss k (Some w)) k None ≡ Some w
  set-here k w [] h = absurd (omega (arith, h))
  set-here zero w (s ∷ ss) h = refl
  set-here (suc k) w (s ∷ ss) h = set-here k w ss (omega (arith, h))

  pub set-there : (k m : ℕ) (w : T) (ss : List (Option T)) → m ≢ k → slice_index_or (slice_set ss k (Some w)) m None ≡ slice_index_or ss m None
  set-there k m w [] d = refl
  set-there zero zero w (s ∷ ss) d = absurd (d refl)
  set-there zero (suc m) w (s ∷ ss) d = refl
  set-there (suc k) zero w (s ∷ ss) d = refl
  set-there (suc k) (suc m) w (s ∷ ss) d = set-there k m w ss (λ e. d (ap suc e))

  count-written : (k : ℕ) (w : T) (ss : List (Option T)) → is_some (slice_index_or ss k None) ≡ true → count_by is_some (slice_set ss k (Some w)) ≡ count_by is_some ss
  count-written k w ss h =
      let n = sum_by-set (λ (o : Option T). cond (is_some o) 1 0) ss k (Some w) None (some-within k ss h) in
      let one : ◌≡◌ {A = ℕ} (cond (is_some (slice_index_or ss k None)) 1 0) 1 = rw h refl in
      omega (arith, n, one)

  pub lent-count : (i k : ℕ) (w : T) (qs : List Pair) (q : Pair) (ss : List (Option T)) → Held qs ss → slice_get qs i ≡ Some q → q.place ≡ Some k → count_by is_some (slice_set ss k (Some w)) ≡ count_by is_some ss
  lent-count i k w qs q ss h g e = count-written k w ss (held-index i k qs q ss h g e)
