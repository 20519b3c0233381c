-- For what values the pairs stand, and what a change of the pairs and of the places does to these.
use Rattle.std.proofs.Common.{◌≡◌, ◌≢◌, ◌∙◌, ℕ, ◌<◌, ◌≤◌, suc, zero, Bool, true, false, if◌then◌else◌, nat_lt, List, [], ◌∷◌, ◌++◌, length, Option, Some, None, refl, sym, ap, arith}
use Rattle.std.specs.List.{insert}
use Rattle.std.specs.Prelude.{is_some, filter, slice_get, slice_set, slice_index_or, ◌==◌}
use Rattle.ws_places.specs.declared.places.Pair.{Pair}
use Rattle.ws_places.specs.Pairs.{Rising, NotAt, Apart, value_at, kept_by, kept_of, Held}
use Rattle.ws_places.specs.Seen.{value_in, without, with_value, put_in}
use Rattle.ws_places.proofs.OrderLemmas.{rising-from, rising-least, is_held, rising-after}
use Rattle.ws_places.proofs.HeldLemmas.{elsewhere-index, held-not_at}

unequal : (m n : ℕ) → m ≢ n → (m == n) ≡ false
unequal m n h = grind (arith, h)

equal : (n : ℕ) → (n == n) ≡ true
equal n = grind arith

module _ {T : Type 0} where
  value_at-same : (k : ℕ) (o : Option ℕ) (ss ts : List (Option T)) → o ≢ Some k → ((m : ℕ) → m ≢ k → slice_index_or ts m None ≡ slice_index_or ss m None) → value_at o ts ≡ value_at o ss
  value_at-same k None ss ts n h = refl
  value_at-same k (Some m) ss ts n h = h m (λ e. n (ap Some e))

  -- what isn't told of one place stays
  kept-not_at : (k : ℕ) (qs : List Pair) (ss ts : List (Option T)) → NotAt k qs → ((m : ℕ) → m ≢ k → slice_index_or ts m None ≡ slice_index_or ss m None) → kept_of qs ts ≡ kept_of qs ss
  kept-not_at k [] ss ts n h = refl
  kept-not_at k (q ∷ qs) ss ts n h =
      let here = value_at-same k q.place ss ts n.0 h in
      let rest = kept-not_at k qs ss ts n.1 h in
      rw (here, rest) refl

  -- a pair is added
  kept-append : (qs rs : List Pair) (ss : List (Option T)) → kept_of (qs ++ rs) ss ≡ kept_of qs ss ++ kept_of rs ss
  kept-append [] rs ss = refl
  kept-append (q ∷ qs) rs ss = after (value_at q.place ss) (kept-append qs rs ss)
    where
      after : (o : Option T) → kept_of (qs ++ rs) ss ≡ kept_of qs ss ++ kept_of rs ss → kept_by q.number o ++ kept_of (qs ++ rs) ss ≡ (kept_by q.number o ++ kept_of qs ss) ++ kept_of rs ss
      after None rest = rest
      after (Some v) rest = ap (λ xs. (q.number, v) ∷ xs) rest

  pub kept-push : (n k : ℕ) (v : T) (qs : List Pair) (ss ts : List (Option T)) → Held qs ss → slice_index_or ss k None ≡ None → slice_index_or ts k None ≡ Some v
      → ((m : ℕ) → m ≢ k → slice_index_or ts m None ≡ slice_index_or ss m None) → kept_of (qs ++ (record { number = n; place = Some k }) ∷ []) ts ≡ kept_of qs ss ++ (n, v) ∷ []
  kept-push n k v qs ss ts held free new h =
      let same = kept-not_at k qs ss ts (held-not_at k qs ss held free) h in
      kept-append qs ((record { number = n; place = Some k }) ∷ []) ts ∙ (ap (λ xs. xs ++ kept_of ((record { number = n; place = Some k }) ∷ []) ts) same ∙ ap (λ o. kept_of qs ss ++ (kept_by n o ++ [])) new)

  -- what is found
  value-later : (n hi : ℕ) (qs : List Pair) (ss : List (Option T)) → Rising (suc n) hi qs → value_in n (kept_of qs ss) ≡ None
  value-later n hi [] ss h = refl
  value-later n hi (q ∷ qs) ss h = after (value_at q.place ss) (value-later n hi qs ss (rising-from (suc q.number) (suc n) hi qs (omega (arith, h.0)) h.2))
    where
      after : (o : Option T) → value_in n (kept_of qs ss) ≡ None → value_in n (kept_by q.number o ++ kept_of qs ss) ≡ None
      after None rest = rest
      after (Some v) rest =
          let differs : q.number ≢ n = λ e. absurd (omega (arith, e, h.0)) in
          rw (unequal q.number n differs) rest

  -- a number whose pairs have no place has no value
  pub value-gone : (n : ℕ) (qs : List Pair) (ss : List (Option T)) → ((j : ℕ) (q : Pair) → slice_get qs j ≡ Some q → q.number ≡ n → q.place ≡ None) → value_in n (kept_of qs ss) ≡ None
  value-gone n [] ss h = refl
  value-gone n (q ∷ qs) ss h = after (q.number == n) refl (value_at q.place ss) refl (value-gone n qs ss (λ j r g e. h (suc j) r g e))
    where
      after : (c : Bool) → (q.number == n) ≡ c → (o : Option T) → value_at q.place ss ≡ o → value_in n (kept_of qs ss) ≡ None → value_in n (kept_by q.number (value_at q.place ss) ++ kept_of qs ss) ≡ None
      after true e o v rest = let here : q.place ≡ None = h 0 q refl (grind arith) in rw here rest
      after false e None v rest = rw v rest
      after false e (Some w) v rest = rw (v, e) rest

  pub value-there : (lo hi i : ℕ) (qs : List Pair) (q : Pair) (ss : List (Option T)) → Rising lo hi qs → slice_get qs i ≡ Some q → value_in q.number (kept_of qs ss) ≡ value_at q.place ss
  value-there lo hi i [] q ss h g = cc
  value-there lo hi zero (x ∷ qs) q ss h g =
      let is : x ≡ q = cc in
      rw (← is) (after (value_at x.place ss))
    where
      after : (o : Option T) → value_in x.number (kept_by x.number o ++ kept_of qs ss) ≡ o
      after None = value-later x.number hi qs ss h.2
      after (Some v) = rw (equal x.number) refl
  value-there lo hi (suc i) (x ∷ qs) q ss h g = after (value_at x.place ss) (value-there (suc x.number) hi i qs q ss h.2 g)
    where
      differs : x.number ≢ q.number
      differs e =
          let later = rising-least (suc x.number) hi i qs q h.2 g in
          absurd (omega (arith, e, later))

      after : (o : Option T) → value_in q.number (kept_of qs ss) ≡ value_at q.place ss → value_in q.number (kept_by x.number o ++ kept_of qs ss) ≡ value_at q.place ss
      after None rest = rest
      after (Some v) rest = rw (unequal x.number q.number differs) rest

  pub value-none : (n : ℕ) (qs : List Pair) (ss : List (Option T)) → ((i : ℕ) (q : Pair) → slice_get qs i ≡ Some q → q.number ≢ n) → value_in n (kept_of qs ss) ≡ None
  value-none n [] ss h = refl
  value-none n (q ∷ qs) ss h = after (value_at q.place ss) (value-none n qs ss (λ i r g. h (suc i) r g))
    where
      after : (o : Option T) → value_in n (kept_of qs ss) ≡ None → value_in n (kept_by q.number o ++ kept_of qs ss) ≡ None
      after None rest = rest
      after (Some v) rest = rw (unequal q.number n (h 0 q refl)) rest

  -- a value is let go of
  without-later : (n hi : ℕ) (qs : List Pair) (ss : List (Option T)) → Rising (suc n) hi qs → without n (kept_of qs ss) ≡ kept_of qs ss
  without-later n hi [] ss h = refl
  without-later n hi (q ∷ qs) ss h = after (value_at q.place ss) (without-later n hi qs ss (rising-from (suc q.number) (suc n) hi qs (omega (arith, h.0)) h.2))
    where
      differs : q.number ≢ n
      differs e = absurd (omega (arith, e, h.0))

      after : (o : Option T) → without n (kept_of qs ss) ≡ kept_of qs ss → without n (kept_by q.number o ++ kept_of qs ss) ≡ kept_by q.number o ++ kept_of qs ss
      after None rest = rest
      after (Some v) rest = rw (unequal q.number n differs) (ap (λ xs. (q.number, v) ∷ xs) rest)

  pub kept-released : (lo hi i k : ℕ) (qs : List Pair) (q : Pair) (ss ts : List (Option T)) → Rising lo hi qs → Apart qs → slice_get qs i ≡ Some q → q.place ≡ Some k
      → ((m : ℕ) → m ≢ k → slice_index_or ts m None ≡ slice_index_or ss m None) → kept_of (slice_set qs i (record { number = q.number; place = None })) ts ≡ without q.number (kept_of qs ss)
  kept-released lo hi i k [] q ss ts h a g e o = cc
  kept-released lo hi zero k (x ∷ qs) q ss ts h a g e o =
      let is : x ≡ q = cc in
      let place : x.place ≡ Some k = ap (λ (y : Pair). y.place) is ∙ e in
      let not : NotAt k qs = rw place at a.0 in
      let rest = kept-not_at k qs ss ts not o in
      rw (← is) (rest ∙ sym (after (value_at x.place ss)))
    where
      after : (v : Option T) → without x.number (kept_by x.number v ++ kept_of qs ss) ≡ kept_of qs ss
      after None = without-later x.number hi qs ss h.2
      after (Some v) = rw (equal x.number) (without-later x.number hi qs ss h.2)
  kept-released lo hi (suc i) k (x ∷ qs) q ss ts h a g e o =
      let here = value_at-same k x.place ss ts (elsewhere-index x.place k i qs q a.0 g e) o in
      let rest = kept-released (suc x.number) hi i k qs q ss ts h.2 a.1 g e o in
      rw (here, rest) (sym (after (value_at x.place ss)))
    where
      differs : x.number ≢ q.number
      differs e =
          let later = rising-least (suc x.number) hi i qs q h.2 g in
          absurd (omega (arith, e, later))

      after : (v : Option T) → without q.number (kept_by x.number v ++ kept_of qs ss) ≡ kept_by x.number v ++ without q.number (kept_of qs ss)
      after None = refl
      after (Some v) = rw (unequal x.number q.number differs) refl

  -- one that was let go of already has no value
  pub without-none : (n : ℕ) (xs : List (ℕ × T)) → value_in n xs ≡ None → without n xs ≡ xs
  without-none n [] h = refl
  without-none n (x ∷ xs) h = after (x.0 == n) refl (λ r. without-none n xs r)
    where
      after : (b : Bool) → (x.0 == n) ≡ b → (value_in n xs ≡ None → without n xs ≡ xs) → without n (x ∷ xs) ≡ x ∷ xs
      after true e rest =
          let k : Some x.1 ≡ None = rw e at h in
          cc
      after false e rest = rw e (ap (λ ys. x ∷ ys) (rest (rw e at h)))

  pub kept-filter : (qs : List Pair) (ss : List (Option T)) → kept_of (filter is_held qs) ss ≡ kept_of qs ss
  kept-filter [] ss = refl
  kept-filter (q ∷ qs) ss = after q.place refl (kept-filter qs ss)
    where
      after : (o : Option ℕ) → q.place ≡ o → kept_of (filter is_held qs) ss ≡ kept_of qs ss → kept_of (if is_some q.place then q ∷ filter is_held qs else filter is_held qs) ss ≡ kept_by q.number (value_at q.place ss) ++ kept_of qs ss
      after None e rest = rw e rest
      after (Some k) e rest = rw e (ap (λ xs. kept_by q.number (slice_index_or ss k None) ++ xs) rest)

  -- a value is written
  with_value-later : (n hi : ℕ) (w : T) (qs : List Pair) (ss : List (Option T)) → Rising (suc n) hi qs → with_value n w (kept_of qs ss) ≡ kept_of qs ss
  with_value-later n hi w [] ss h = refl
  with_value-later n hi w (q ∷ qs) ss h = after (value_at q.place ss) (with_value-later n hi w qs ss (rising-from (suc q.number) (suc n) hi qs (omega (arith, h.0)) h.2))
    where
      differs : q.number ≢ n
      differs e = absurd (omega (arith, e, h.0))

      after : (o : Option T) → with_value n w (kept_of qs ss) ≡ kept_of qs ss → with_value n w (kept_by q.number o ++ kept_of qs ss) ≡ kept_by q.number o ++ kept_of qs ss
      after None rest = rest
      after (Some v) rest = rw (unequal q.number n differs) (ap (λ xs. (q.number, v) ∷ xs) rest)

  pub kept-written : (lo hi i k : ℕ) (qs : List Pair) (q : Pair) (v w : T) (ss ts : List (Option T)) → Rising lo hi qs → Apart qs → slice_get qs i ≡ Some q → q.place ≡ Some k
      → slice_index_or ss k None ≡ Some v → slice_index_or ts k None ≡ Some w → ((m : ℕ) → m ≢ k → slice_index_or ts m None ≡ slice_index_or ss m None)
      → kept_of qs ts ≡ with_value q.number w (kept_of qs ss)
  kept-written lo hi i k [] q v w ss ts h a g e old new o = cc
  kept-written lo hi zero k (x ∷ qs) q v w ss ts h a g e old new o =
      let is : x ≡ q = cc in
      let place : x.place ≡ Some k = ap (λ (y : Pair). y.place) is ∙ e in
      let not : NotAt k qs = rw place at a.0 in
      let rest = kept-not_at k qs ss ts not o in
      let later = with_value-later x.number hi w qs ss h.2 in
      rw (← is, place, old, new, equal x.number, later, rest) refl
  kept-written lo hi (suc i) k (x ∷ qs) q v w ss ts h a g e old new o =
      let here = value_at-same k x.place ss ts (elsewhere-index x.place k i qs q a.0 g e) o in
      let rest = kept-written (suc x.number) hi i k qs q v w ss ts h.2 a.1 g e old new o in
      rw (here, rest) (sym (after (value_at x.place ss)))
    where
      differs : x.number ≢ q.number
      differs e =
          let later = rising-least (suc x.number) hi i qs q h.2 g in
          absurd (omega (arith, e, later))

      after : (u : Option T) → with_value q.number w (kept_by x.number u ++ kept_of qs ss) ≡ kept_by x.number u ++ with_value q.number w (kept_of qs ss)
      after None = refl
      after (Some u) = rw (unequal x.number q.number differs) refl

  -- a value is put under a number that was given before and has none
  put_in-later : (n hi : ℕ) (v : T) (qs : List Pair) (ss : List (Option T)) → Rising (suc n) hi qs → put_in n v (kept_of qs ss) ≡ (n, v) ∷ kept_of qs ss
  put_in-later n hi v [] ss h = refl
  put_in-later n hi v (q ∷ qs) ss h = after (value_at q.place ss) (put_in-later n hi v qs ss (rising-from (suc q.number) (suc n) hi qs (omega (arith, h.0)) h.2))
    where
      less : nat_lt n q.number ≡ true
      less = grind (arith, h)

      after : (o : Option T) → put_in n v (kept_of qs ss) ≡ (n, v) ∷ kept_of qs ss → put_in n v (kept_by q.number o ++ kept_of qs ss) ≡ (n, v) ∷ (kept_by q.number o ++ kept_of qs ss)
      after None rest = rest
      after (Some u) rest = rw less refl

  -- its pair has lost its place
  pub kept-again : (lo hi i k : ℕ) (v : T) (qs : List Pair) (q : Pair) (ss ts : List (Option T)) → Rising lo hi qs → slice_get qs i ≡ Some q → value_at q.place ss ≡ None → NotAt k qs
      → slice_index_or ts k None ≡ Some v → ((m : ℕ) → m ≢ k → slice_index_or ts m None ≡ slice_index_or ss m None)
      → kept_of (slice_set qs i (record { number = q.number; place = Some k })) ts ≡ put_in q.number v (kept_of qs ss)
  kept-again lo hi i k v [] q ss ts h g e n new o = cc
  kept-again lo hi zero k v (x ∷ qs) q ss ts h g e n new o =
      let is : x ≡ q = cc in
      let none : value_at x.place ss ≡ None = ap (λ (y : Pair). value_at y.place ss) is ∙ e in
      let rest = kept-not_at k qs ss ts n.1 o in
      let later = put_in-later x.number hi v qs ss h.2 in
      rw (← is, new, none, later, rest) refl
  kept-again lo hi (suc i) k v (x ∷ qs) q ss ts h g e n new o =
      let here = value_at-same k x.place ss ts n.0 o in
      let rest = kept-again (suc x.number) hi i k v qs q ss ts h.2 g e n.1 new o in
      rw (here, rest) (sym (after (value_at x.place ss)))
    where
      later : suc x.number ≤ q.number
      later = rising-least (suc x.number) hi i qs q h.2 g

      not-less : nat_lt q.number x.number ≡ false
      not-less = grind (arith, later)

      after : (u : Option T) → put_in q.number v (kept_by x.number u ++ kept_of qs ss) ≡ kept_by x.number u ++ put_in q.number v (kept_of qs ss)
      after None = refl
      after (Some u) = rw not-less refl

  pub kept-inserted : (lo hi i k n : ℕ) (v : T) (qs : List Pair) (ss ts : List (Option T)) → Rising lo hi qs → i ≤ length qs → ((j : ℕ) (q : Pair) → slice_get qs j ≡ Some q → j < i → q.number < n) → ((j : ℕ) (q : Pair) → slice_get qs j ≡ Some q → i ≤ j → n < q.number)
      → NotAt k qs → slice_index_or ts k None ≡ Some v → ((m : ℕ) → m ≢ k → slice_index_or ts m None ≡ slice_index_or ss m None)
      → kept_of (insert qs i (record { number = n; place = Some k })) ts ≡ put_in n v (kept_of qs ss)
  kept-inserted lo hi zero k n v qs ss ts h w before after not new o =
      let later = put_in-later n hi v qs ss (rising-after lo hi n qs h (λ j q g. after j q g (omega arith))) in
      let rest = kept-not_at k qs ss ts not o in
      rw (new, later, rest) refl
  kept-inserted lo hi (suc i) k n v [] ss ts h w before after not new o = absurd (omega (arith, w))
  kept-inserted lo hi (suc i) k n v (x ∷ qs) ss ts h w before after not new o =
      let here = value_at-same k x.place ss ts not.0 o in
      let rest = kept-inserted (suc x.number) hi i k n v qs ss ts h.2 (omega (arith, w)) (λ j r g s. before (suc j) r g (omega (arith, s))) (λ j r g s. after (suc j) r g (omega (arith, s))) not.1 new o in
      rw (here, rest) (sym (past (value_at x.place ss)))
    where
      less : x.number < n
      less = before 0 x refl (omega arith)

      not-less : nat_lt n x.number ≡ false
      not-less = grind (arith, less)

      past : (u : Option T) → put_in n v (kept_by x.number u ++ kept_of qs ss) ≡ kept_by x.number u ++ put_in n v (kept_of qs ss)
      past None = refl
      past (Some u) = rw not-less refl

  -- there are no more values than pairs

  length-kept : (qs : List Pair) (ss : List (Option T)) → length (kept_of qs ss) ≤ length qs
  length-kept [] ss = omega arith
  length-kept (q ∷ qs) ss = after (value_at q.place ss) (length-kept qs ss)
    where
      after : (o : Option T) → length (kept_of qs ss) ≤ length qs → length (kept_by q.number o ++ kept_of qs ss) ≤ suc (length qs)
      after None rest = omega (arith, rest)
      after (Some v) rest = omega (arith, rest)

  pub kept-most : (qs : List Pair) (ss : List (Option T)) (xs : List (ℕ × T)) (n : ℕ) → kept_of qs ss ≡ xs → n ≡ length qs → length xs ≤ n
  kept-most qs ss xs n e is = let most = length-kept qs ss in rw (← e) (omega (arith, most, is))
