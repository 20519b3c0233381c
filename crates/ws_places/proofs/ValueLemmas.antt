-- What is told of one number once the value of a number was kept, written or let go of.
use Rattle.std.proofs.Common.{◌≡◌, ◌≢◌, ◌∙◌, ℕ, Bool, true, false, nat_lt, if◌then◌else◌, List, [], ◌∷◌, ◌++◌, Some, None, refl, sym, arith}
use Rattle.std.specs.Prelude.{◌==◌}
use Rattle.ws_places.specs.Seen.{value_in, without, with_value, put_in}

unequal : (m n : ℕ) → m ≢ n → (m == n) ≡ false
unequal m n h = grind (arith, h)

equal : (n : ℕ) → (n == n) ≡ true
equal n = grind arith

is-equal : (m n : ℕ) → (m == n) ≡ true → m ≡ n
is-equal m n h = grind arith

module _ {T : Type 0} where
  step : (m : ℕ) (x : ℕ × T) (a b : List (ℕ × T)) (c : Bool) → value_in m a ≡ value_in m b → (if c then Some x.1 else value_in m a) ≡ (if c then Some x.1 else value_in m b)
  step m x a b true e = refl
  step m x a b false e = e

  pub value-kept : (m n : ℕ) (v : T) (xs : List (ℕ × T)) → m ≢ n → value_in m (xs ++ (n, v) ∷ []) ≡ value_in m xs
  value-kept m n v [] d = rw (unequal n m (λ e. d (sym e))) refl
  value-kept m n v (x ∷ xs) d = step m x (xs ++ (n, v) ∷ []) xs (x.0 == m) (value-kept m n v xs d)

  pub value-new : (n : ℕ) (v : T) (xs : List (ℕ × T)) → value_in n xs ≡ None → value_in n (xs ++ (n, v) ∷ []) ≡ Some v
  value-new n v [] h = rw (equal n) refl
  value-new n v (x ∷ xs) h = after (x.0 == n) h (λ r. value-new n v xs r)
    where
      after : (c : Bool) → (if c then Some x.1 else value_in n xs) ≡ None → (value_in n xs ≡ None → value_in n (xs ++ (n, v) ∷ []) ≡ Some v) → (if c then Some x.1 else value_in n (xs ++ (n, v) ∷ [])) ≡ Some v
      after true h rest = cc
      after false h rest = rest h

  pub value-without_other : (m n : ℕ) (xs : List (ℕ × T)) → m ≢ n → value_in m (without n xs) ≡ value_in m xs
  value-without_other m n [] d = refl
  value-without_other m n (x ∷ xs) d = after (x.0 == n) refl (value-without_other m n xs d)
    where
      after : (c : Bool) → (x.0 == n) ≡ c → value_in m (without n xs) ≡ value_in m xs → value_in m (if c then without n xs else x ∷ without n xs) ≡ value_in m (x ∷ xs)
      after true e rest =
          let is : x.0 ≡ n = is-equal x.0 n e in
          let differs : x.0 ≢ m = λ f. d (sym f ∙ is) in
          rw (unequal x.0 m differs) rest
      after false e rest = step m x (without n xs) xs (x.0 == m) rest

  pub value-without : (n : ℕ) (xs : List (ℕ × T)) → value_in n (without n xs) ≡ None
  value-without n [] = refl
  value-without n (x ∷ xs) = after (x.0 == n) refl (value-without n xs)
    where
      after : (c : Bool) → (x.0 == n) ≡ c → value_in n (without n xs) ≡ None → value_in n (if c then without n xs else x ∷ without n xs) ≡ None
      after true e rest = rest
      after false e rest = rw e rest

  pub value-with_other : (m n : ℕ) (w : T) (xs : List (ℕ × T)) → m ≢ n → value_in m (with_value n w xs) ≡ value_in m xs
  value-with_other m n w [] d = refl
  value-with_other m n w (x ∷ xs) d = after (x.0 == n) refl (value-with_other m n w xs d)
    where
      after : (c : Bool) → (x.0 == n) ≡ c → value_in m (with_value n w xs) ≡ value_in m xs → value_in m ((if c then (n, w) else x) ∷ with_value n w xs) ≡ value_in m (x ∷ xs)
      after true e rest =
          let is : x.0 ≡ n = is-equal x.0 n e in
          let differs : x.0 ≢ m = λ f. d (sym f ∙ is) in
          rw (unequal x.0 m differs, unequal n m (λ f. d (sym f))) rest
      after false e rest = step m x (with_value n w xs) xs (x.0 == m) rest

  pub value-with : (n : ℕ) (v w : T) (xs : List (ℕ × T)) → value_in n xs ≡ Some v → value_in n (with_value n w xs) ≡ Some w
  value-with n v w [] h = cc
  value-with n v w (x ∷ xs) h = after (x.0 == n) refl h (λ r. value-with n v w xs r)
    where
      after : (c : Bool) → (x.0 == n) ≡ c → (if c then Some x.1 else value_in n xs) ≡ Some v → (value_in n xs ≡ Some v → value_in n (with_value n w xs) ≡ Some w) → value_in n ((if c then (n, w) else x) ∷ with_value n w xs) ≡ Some w
      after true e h rest = rw (equal n) refl
      after false e h rest = rw e (rest h)

  pub value-put_other : (m n : ℕ) (w : T) (xs : List (ℕ × T)) → m ≢ n → value_in m (put_in n w xs) ≡ value_in m xs
  value-put_other m n w [] d = rw (unequal n m (λ e. d (sym e))) refl
  value-put_other m n w (x ∷ xs) d = after (nat_lt n x.0) (value-put_other m n w xs d)
    where
      after : (c : Bool) → value_in m (put_in n w xs) ≡ value_in m xs → value_in m (if c then (n, w) ∷ x ∷ xs else x ∷ put_in n w xs) ≡ value_in m (x ∷ xs)
      after true rest = rw (unequal n m (λ e. d (sym e))) refl
      after false rest = step m x (put_in n w xs) xs (x.0 == m) rest

  pub value-put : (n : ℕ) (w : T) (xs : List (ℕ × T)) → value_in n xs ≡ None → value_in n (put_in n w xs) ≡ Some w
  value-put n w [] h = rw (equal n) refl
  value-put n w (x ∷ xs) h = after (nat_lt n x.0) (x.0 == n) h (λ r. value-put n w xs r) refl
    where
      after : (c d : Bool) → (if d then Some x.1 else value_in n xs) ≡ None → (value_in n xs ≡ None → value_in n (put_in n w xs) ≡ Some w) → (x.0 == n) ≡ d → value_in n (if c then (n, w) ∷ x ∷ xs else x ∷ put_in n w xs) ≡ Some w
      after true d h rest e = rw (equal n) refl
      after false true h rest e = cc
      after false false h rest e = rw e (rest h)
