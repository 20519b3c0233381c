-- Whether all of a list are so, told one by one.
use Rattle.std.proofs.Common.{◌≡◌, ◌<◌, ◌≤◌, ◌+◌, ℕ, zero, suc, List, [], ◌∷◌, length, drop, Bool, true, false, refl, sym, ap, subst, ◌∙◌, arith}
use Rattle.std.specs.Prelude.{get_or, not, ◌&&◌}
use Rattle.std.specs.List.{list_all}

all-at : {A : Type 0} (p : A → Bool) (xs : List A) (n : ℕ) (d : A) → n < length xs → list_all p (drop n xs) ≡ (p (get_or xs n d) && list_all p (drop (suc n) xs))
all-at p [] n d within = absurd (omega arith)
all-at p (x ∷ xs) zero d within = refl
all-at p (x ∷ xs) (suc n) d within = all-at p xs n d (omega arith)

and-false : (a b : Bool) → a ≡ false → (a && b) ≡ false
and-false true b e = absurd (cc)
and-false false b e = refl

and-true : (a b : Bool) → a ≡ true → (a && b) ≡ b
and-true true b e = refl
and-true false b e = absurd (cc)

module _ {A : Type 0} (p : A → Bool) (xs ys : List A) (n : ℕ) (x d : A) (t : Bool) (same : ys ≡ xs) (within : n < length ys) (rest : list_all p (drop n xs) ≡ list_all p xs)
    (is : x ≡ get_or ys n d) (told : t ≡ p x) where
  here : list_all p (drop n xs) ≡ (t && list_all p (drop (suc n) xs))
  here =
      let within_xs : n < length xs = subst (λ (q : List A). n < length q) same within in
      all-at p xs n d within_xs ∙ ap (λ b. b && list_all p (drop (suc n) xs)) (ap p (ap (λ (q : List A). get_or q n d) (sym same) ∙ sym is) ∙ sym told)

  pub one-not : t ≡ false → false ≡ list_all p xs
  one-not so = sym (sym rest ∙ (here ∙ and-false t _ so))

  pub one-more : t ≡ true → list_all p (drop (n + 1) xs) ≡ list_all p xs
  one-more so =
      let e : n + 1 ≡ suc n = omega arith in
      ap (λ k. list_all p (drop k xs)) e ∙ (sym (and-true t _ so) ∙ (sym here ∙ rest))

all-of-none : {A : Type 0} (p : A → Bool) (xs : List A) (n : ℕ) → length xs ≤ n → list_all p (drop n xs) ≡ true
all-of-none p [] zero e = refl
all-of-none p [] (suc n) e = refl
all-of-none p (x ∷ xs) zero e = absurd (omega arith)
all-of-none p (x ∷ xs) (suc n) e = all-of-none p xs n (omega arith)

pub all-so : {A : Type 0} (p : A → Bool) (xs ys : List A) (n : ℕ) → ys ≡ xs → length ys ≤ n → list_all p (drop n xs) ≡ list_all p xs → true ≡ list_all p xs
all-so p xs ys n same past rest = sym (all-of-none p xs n (subst (λ (q : List _). length q ≤ n) same past)) ∙ rest

pub ended-so : (none settled all : Bool) → false ≡ not none → true ≡ settled → true ≡ all → true ≡ (none && (settled && all))
ended-so true settled all e f g = f ∙ (sym (and-true settled settled (sym f)) ∙ (ap (λ b. settled && b) (sym f ∙ g)))
ended-so false settled all e f g = absurd (cc)

pub ended-not : (none settled all : Bool) → false ≡ all → false ≡ (none && (settled && all))
ended-not true true all e = e
ended-not true false all e = refl
ended-not false settled all e = refl
