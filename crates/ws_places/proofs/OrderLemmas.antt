-- What the rising order of the numbers says of the pairs.
use Rattle.std.proofs.Common.{◌≡◌, ◌∙◌, ℕ, ◌+◌, ◌<◌, ◌≤◌, suc, zero, Bool, true, false, if◌then◌else◌, List, [], ◌∷◌, ◌++◌, length, get_or, Option, Some, refl, sym, ap, arith, inl, inr}
use Rattle.std.proofs.lemmas.Bool.{cases_eq}
use Rattle.std.proofs.lemmas.Option.{slice_get_read}
use Rattle.std.specs.List.{insert}
use Rattle.std.specs.Prelude.{is_some, filter, slice_get, slice_set}
use Rattle.ws_places.specs.declared.places.Pair.{Pair}
use Rattle.ws_places.specs.Pairs.{Rising}

pub rising-from : (lo ko hi : ℕ) (qs : List Pair) → ko ≤ lo → Rising lo hi qs → Rising ko hi qs
rising-from lo ko hi [] l h = tt
rising-from lo ko hi (q ∷ qs) l h = (omega (arith, h.0), h.1, h.2)

pub rising-to : (lo hi ho : ℕ) (qs : List Pair) → hi ≤ ho → Rising lo hi qs → Rising lo ho qs
rising-to lo hi ho [] l h = tt
rising-to lo hi ho (q ∷ qs) l h = (h.0, omega (arith, h.1), rising-to (suc q.number) hi ho qs l h.2)

pub rising-least : (lo hi i : ℕ) (qs : List Pair) (q : Pair) → Rising lo hi qs → slice_get qs i ≡ Some q → lo ≤ q.number
rising-least lo hi i [] q h g = cc
rising-least lo hi zero (r ∷ qs) q h g =
    let is : r ≡ q = cc in
    let n : r.number ≡ q.number = ap (λ (x : Pair). x.number) is in
    omega (arith, h.0, n)
rising-least lo hi (suc i) (r ∷ qs) q h g =
    let later = rising-least (suc r.number) hi i qs q h.2 g in
    omega (arith, h.0, later)

-- one that stands later has a greater number
pub rising-index : (lo hi i j : ℕ) (qs : List Pair) (q r : Pair) → Rising lo hi qs → i < j → slice_get qs i ≡ Some q → slice_get qs j ≡ Some r → q.number < r.number
rising-index lo hi i j [] q r h l a b = cc
rising-index lo hi i zero (x ∷ qs) q r h l a b = absurd (omega (arith, l))
rising-index lo hi zero (suc j) (x ∷ qs) q r h l a b =
    let is : x ≡ q = cc in
    let n : x.number ≡ q.number = ap (λ (y : Pair). y.number) is in
    let later = rising-least (suc x.number) hi j qs r h.2 b in
    omega (arith, later, n)
rising-index lo hi (suc i) (suc j) (x ∷ qs) q r h l a b = rising-index (suc x.number) hi i j qs q r h.2 (omega (arith, l)) a b

-- no value has a number that wasn't given
pub rising-below : (lo hi i : ℕ) (qs : List Pair) (q : Pair) → Rising lo hi qs → slice_get qs i ≡ Some q → q.number < hi
rising-below lo hi i [] q h g = cc
rising-below lo hi zero (x ∷ qs) q h g =
    let is : x ≡ q = cc in
    let n : x.number ≡ q.number = ap (λ (y : Pair). y.number) is in
    omega (arith, h.1, n)
rising-below lo hi (suc i) (x ∷ qs) q h g = rising-below (suc x.number) hi i qs q h.2 g

pub rising-push : (lo n : ℕ) (qs : List Pair) (o : Option ℕ) → lo ≤ n → Rising lo n qs → Rising lo (n + 1) (qs ++ (record { number = n; place = o }) ∷ [])
rising-push lo n [] o l h = (l, omega arith, tt)
rising-push lo n (q ∷ qs) o l h = (h.0, omega (arith, h.1), rising-push (suc q.number) n qs o (omega (arith, h.1)) h.2)

pub rising-set : (lo hi i : ℕ) (qs : List Pair) (q r : Pair) → slice_get qs i ≡ Some q → r.number ≡ q.number → Rising lo hi qs → Rising lo hi (slice_set qs i r)
rising-set lo hi i [] q r g e h = tt
rising-set lo hi zero (x ∷ qs) q r g e h =
    let is : x ≡ q = cc in
    let n : x.number ≡ r.number = ap (λ (y : Pair). y.number) is ∙ sym e in
    (omega (arith, h.0, n), omega (arith, h.1, n), rising-from (suc x.number) (suc r.number) hi qs (omega (arith, n)) h.2)
rising-set lo hi (suc i) (x ∷ qs) q r g e h = (h.0, h.1, rising-set (suc x.number) hi i qs q r g e h.2)

-- the pairs of values that were let go of are dropped
abbrev pub is_held : Pair → Bool
is_held q = is_some q.place

pub rising-filter : (lo hi : ℕ) (qs : List Pair) → Rising lo hi qs → Rising lo hi (filter is_held qs)
rising-filter lo hi [] h = tt
rising-filter lo hi (q ∷ qs) h = after (is_held q) (rising-filter (suc q.number) hi qs h.2)
  where
    after : (b : Bool) → Rising (suc q.number) hi (filter is_held qs) → Rising lo hi (if b then q ∷ filter is_held qs else filter is_held qs)
    after true rest = (h.0, h.1, rest)
    after false rest = rising-from (suc q.number) lo hi (filter is_held qs) (omega (arith, h.0)) rest

-- a pair is inserted in the order
pub rising-after : (lo hi n : ℕ) (qs : List Pair) → Rising lo hi qs → ((j : ℕ) (q : Pair) → slice_get qs j ≡ Some q → n < q.number) → Rising (suc n) hi qs
rising-after lo hi n [] h after = tt
rising-after lo hi n (q ∷ qs) h after = (after 0 q refl, h.1, h.2)

pub rising-inserted : (lo hi i n : ℕ) (o : Option ℕ) (qs : List Pair) → lo ≤ n → n < hi → i ≤ length qs → Rising lo hi qs → ((j : ℕ) (q : Pair) → slice_get qs j ≡ Some q → j < i → q.number < n) → ((j : ℕ) (q : Pair) → slice_get qs j ≡ Some q → i ≤ j → n < q.number)
    → Rising lo hi (insert qs i (record { number = n; place = o }))
rising-inserted lo hi zero n o qs l m w h before after = (l, m, rising-after lo hi n qs h (λ j q g. after j q g (omega arith)))
rising-inserted lo hi (suc i) n o [] l m w h before after = absurd (omega (arith, w))
rising-inserted lo hi (suc i) n o (q ∷ qs) l m w h before after =
    (h.0, h.1, rising-inserted (suc q.number) hi i n o qs (before 0 q refl (omega arith)) m (omega (arith, w)) h.2 (λ j r g s. before (suc j) r g (omega (arith, s))) (λ j r g s. after (suc j) r g (omega (arith, s))))

-- halving
same-pair : (i j : ℕ) (qs : List Pair) (q r : Pair) → i ≡ j → slice_get qs i ≡ Some q → slice_get qs j ≡ Some r → q.number ≡ r.number
same-pair i j qs q r e a b =
    let c : slice_get qs j ≡ Some q = ap (slice_get qs) (sym e) ∙ a in
    let is : q ≡ r = cc in
    ap (λ (x : Pair). x.number) is

pub same-place : (qs : List Pair) (i : ℕ) (q r : Pair) → slice_get qs i ≡ Some q → slice_get qs i ≡ Some r → q.place ≡ r.place
same-place qs i q r a b =
    let is : q ≡ r = cc in
    ap (λ (x : Pair). x.place) is

pub above : (lo hi m j n : ℕ) (qs : List Pair) (q r : Pair) → Rising lo hi qs → slice_get qs m ≡ Some r → n < r.number → slice_get qs j ≡ Some q → m ≤ j → n < q.number
above lo hi m j n qs q r h a less b l =
    elim (cases_eq m j) [
      | inl same ↦ omega (arith, less, same-pair m j qs r q same a b)
      | inr differs ↦ omega (arith, less, rising-index lo hi m j qs r q h (omega (arith, l, differs)) a b)
    ]

pub below : (lo hi m j n : ℕ) (qs : List Pair) (q r : Pair) → Rising lo hi qs → slice_get qs m ≡ Some r → r.number < n → slice_get qs j ≡ Some q → j ≤ m → q.number < n
below lo hi m j n qs q r h a less b l =
    elim (cases_eq j m) [
      | inl same ↦ omega (arith, less, same-pair j m qs q r same b a)
      | inr differs ↦ omega (arith, less, rising-index lo hi j m qs q r h (omega (arith, l, differs)) b a)
    ]

-- what a read of a pair gives
pub pair-read : (qs : List Pair) (n i : ℕ) (q : Pair) → n ≡ length qs → i < n → q ≡ get_or qs i q → slice_get qs i ≡ Some q
pair-read qs n i q l h g = slice_get_read qs n i q l h g

-- the pair at an index
pub pair-at : (qs : List Pair) (i : ℕ) → i < length qs → (q : Pair) × (slice_get qs i ≡ Some q)
pair-at [] i l = absurd (omega (arith, l))
pair-at (q ∷ qs) zero l = (q, refl)
pair-at (q ∷ qs) (suc i) l = pair-at qs i (omega (arith, l))

pub before-found : (hi i n : ℕ) (qs : List Pair) → Rising 0 hi qs → i < length qs → ((r : Pair) → slice_get qs i ≡ Some r → r.number ≡ n)
    → (j : ℕ) (q : Pair) → slice_get qs j ≡ Some q → j < i → q.number < n
before-found hi i n qs h w is j q g l =
    let r = pair-at qs i w in
    let k = rising-index 0 hi j i qs q r.0 h l g r.1 in
    let e = is r.0 r.1 in
    omega (arith, k, e)

pub after-found : (hi i n : ℕ) (qs : List Pair) → Rising 0 hi qs → i < length qs → ((r : Pair) → slice_get qs i ≡ Some r → r.number ≡ n)
    → (j : ℕ) (q : Pair) → slice_get qs j ≡ Some q → i ≤ j → n ≤ q.number
after-found hi i n qs h w is j q g l = elim (cases_eq i j) [
  | inl e ↦ let f = is q (rw e g) in omega (arith, f)
  | inr d ↦
      let r = pair-at qs i w in
      let k = rising-index 0 hi i j qs r.0 q h (omega (arith, l, d)) r.1 g in
      let f = is r.0 r.1 in omega (arith, k, f)
]
