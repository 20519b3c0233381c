-- How the values that are kept stand for the slots of promises.
use Rattle.std.proofs.Common.{◌≡◌, ◌≢◌, ◌∙◌, ℕ, ◌+◌, ◌<◌, ◌≤◌, suc, zero, Bool, true, false, if◌then◌else◌, List, [], ◌∷◌, ◌++◌, length, Option, Some, None, refl, sym, ap, arith, add-one}
use Rattle.std.proofs.Common.{Bor, inl, inr}
use Rattle.std.proofs.lemmas.Bool.{cases_eq, cases_lt}
use Rattle.std.specs.Prelude.{◌==◌, slice_get, slice_set, option_copied, IfSome, IfNone}
use Rattle.std.proofs.lemmas.Option.{slice_get_past}
use Rattle.ws_slots.specs.Slot.{Slot}
use Rattle.ws_slots.specs.declared.slots.Open.{Open}
use Rattle.ws_slots.specs.declared.slots.Settled.{Settled}
use Rattle.ws_slots.specs.Words.{Apart, ended_slot, is_pending_slot, items_from, slot_in, slot_of, settled_slot}
use Rattle.ws_steps.specs.Promises.{is_pending}
use Rattle.ws_places.specs.Seen.{value_in, without, with_value, put_in}
use Rattle.ws_places.proofs.ValueLemmas.{value-kept, value-new, value-without, value-without_other, value-with, value-with_other, value-put, value-put_other}

length-items : (k n : ℕ) (os : List (ℕ × Open)) (ss : List (ℕ × Settled)) → length (items_from k n os ss) ≡ n
length-items k zero os ss = refl
length-items k (suc n) os ss = ap suc (length-items (suc k) n os ss)

get-items : (k n i j : ℕ) (os : List (ℕ × Open)) (ss : List (ℕ × Settled)) → i < n → j ≡ k + i → slice_get (items_from k n os ss) i ≡ Some (Some (slot_in (value_in j os) (value_in j ss)))
get-items k zero i j os ss l e = absurd (omega (arith, l))
get-items k (suc n) zero j os ss l e = let is : j ≡ k = omega (arith, e) in rw is refl
get-items k (suc n) (suc i) j os ss l e = get-items (suc k) n i j os ss (omega (arith, l)) (omega (arith, e))

items-same : (k n : ℕ) (os : List (ℕ × Open)) (ss : List (ℕ × Settled)) (ps : List (ℕ × Open)) (ts : List (ℕ × Settled)) → ((m : ℕ) → m < k + n → slot_in (value_in m ps) (value_in m ts) ≡ slot_in (value_in m os) (value_in m ss)) → items_from k n ps ts ≡ items_from k n os ss
items-same k zero os ss ps ts h = refl
items-same k (suc n) os ss ps ts h =
    let here = h k (omega arith) in
    let rest = items-same (suc k) n os ss ps ts (λ m l. h m (omega (arith, l))) in
    rw (here, rest) refl

items-push : (k n j : ℕ) (os : List (ℕ × Open)) (ss : List (ℕ × Settled)) → j ≡ k + n → items_from k (suc n) os ss ≡ items_from k n os ss ++ Some (slot_in (value_in j os) (value_in j ss)) ∷ []
items-push k zero j os ss e = let is : j ≡ k = omega (arith, e) in rw is refl
items-push k (suc n) j os ss e = ap (λ xs. Some (slot_in (value_in k os) (value_in k ss)) ∷ xs) (items-push (suc k) n j os ss (omega (arith, e)))

pub items-set : (k n i j : ℕ) (os : List (ℕ × Open)) (ss : List (ℕ × Settled)) (ps : List (ℕ × Open)) (ts : List (ℕ × Settled)) → i < n → j ≡ k + i → ((m : ℕ) → m ≢ j → slot_in (value_in m ps) (value_in m ts) ≡ slot_in (value_in m os) (value_in m ss)) → items_from k n ps ts ≡ slice_set (items_from k n os ss) i (Some (slot_in (value_in j ps) (value_in j ts)))
items-set k zero i j os ss ps ts l e h = absurd (omega (arith, l))
items-set k (suc n) zero j os ss ps ts l e h =
    let is : j ≡ k = omega (arith, e) in
    let rest = items-later (suc k) n j os ss ps ts (omega (arith, is)) h in
    rw (is, rest) refl
  where
    items-later : (k n j : ℕ) (os : List (ℕ × Open)) (ss : List (ℕ × Settled)) (ps : List (ℕ × Open)) (ts : List (ℕ × Settled)) → j < k → ((m : ℕ) → m ≢ j → slot_in (value_in m ps) (value_in m ts) ≡ slot_in (value_in m os) (value_in m ss)) → items_from k n ps ts ≡ items_from k n os ss
    items-later k zero j os ss ps ts l h = refl
    items-later k (suc n) j os ss ps ts l h =
        let here = h k (λ e. absurd (omega (arith, e, l))) in
        let rest = items-later (suc k) n j os ss ps ts (omega (arith, l)) h in
        rw (here, rest) refl
items-set k (suc n) (suc i) j os ss ps ts l e h =
    let here = h k (λ f. absurd (omega (arith, e, f))) in
    let rest = items-set (suc k) n i j os ss ps ts (omega (arith, l)) (omega (arith, e)) h in
    rw (here, rest) refl

-- what a call finds, where these are the slots

pub length-shown : (n : ℕ) (os : List (ℕ × Open)) (ss : List (ℕ × Settled)) (xs : List (Option Slot)) → items_from 0 n os ss ≡ xs → length xs ≡ n
length-shown n os ss xs e = sym (ap length e) ∙ length-items 0 n os ss

pub get-shown : (n p : ℕ) (os : List (ℕ × Open)) (ss : List (ℕ × Settled)) (xs : List (Option Slot)) (o : Option Open) (s : Option Settled) → items_from 0 n os ss ≡ xs → p < n → value_in p os ≡ o → value_in p ss ≡ s → slice_get xs p ≡ Some (Some (slot_in o s))
get-shown n p os ss xs o s e l v w = rw (← e, ← v, ← w) (get-items 0 n p p os ss l (omega arith))

-- one that is pending
pub open-shown : (n p : ℕ) (os : List (ℕ × Open)) (ss : List (ℕ × Settled)) (xs : List (Option Slot)) (o : Open) → items_from 0 n os ss ≡ xs → p < n → value_in p os ≡ Some o → slice_get xs p ≡ Some (Some (slot_of o))
open-shown n p os ss xs o e l v = get-shown n p os ss xs (Some o) (value_in p ss) e l v refl

pub past-shown : (n p : ℕ) (os : List (ℕ × Open)) (ss : List (ℕ × Settled)) (xs : List (Option Slot)) → items_from 0 n os ss ≡ xs → n ≤ p → slice_get xs p ≡ None
past-shown n p os ss xs e l = slice_get_past xs p (omega (arith, length-shown n os ss xs e, l))

-- a new promise
pub pushed : (n : ℕ) (o : Open) (os ps : List (ℕ × Open)) (ss : List (ℕ × Settled)) (xs : List (Option Slot)) → items_from 0 n os ss ≡ xs → value_in n os ≡ None → ps ≡ os ++ (n, o) ∷ [] → items_from 0 (n + 1) ps ss ≡ xs ++ Some (slot_of o) ∷ []
pushed n o os ps ss xs e none is =
    let same = items-same 0 n os ss (os ++ (n, o) ∷ []) ss (λ m l. ap (λ v. slot_in v (value_in m ss)) (value-kept m n o os (λ f. absurd (omega (arith, f, l))))) in
    let new = value-new n o os none in
    rw (is, add-one n, items-push 0 n n (os ++ (n, o) ∷ []) ss (omega arith), new, same, e) refl

-- a pending promise is written
pub written : (n p : ℕ) (v w : Open) (os : List (ℕ × Open)) (ss : List (ℕ × Settled)) (xs : List (Option Slot)) → items_from 0 n os ss ≡ xs → p < n → value_in p os ≡ Some v → items_from 0 n (with_value p w os) ss ≡ slice_set xs p (Some (slot_of w))
written n p v w os ss xs e l there =
    let set = items-set 0 n p p os ss (with_value p w os) ss l (omega arith) (λ m d. ap (λ o. slot_in o (value_in m ss)) (value-with_other m p w os d)) in
    let new = value-with p v w os there in
    rw (← e, set, new) refl

-- one that has settled is written
pub settled-written : (n p : ℕ) (v w : Settled) (os : List (ℕ × Open)) (ss : List (ℕ × Settled)) (xs : List (Option Slot)) → items_from 0 n os ss ≡ xs → p < n → value_in p os ≡ None → value_in p ss ≡ Some v → items_from 0 n os (with_value p w ss) ≡ slice_set xs p (Some (settled_slot w))
settled-written n p v w os ss xs e l none there =
    let set = items-set 0 n p p os ss os (with_value p w ss) l (omega arith) (λ m d. ap (λ s. slot_in (value_in m os) s) (value-with_other m p w ss d)) in
    let new = value-with p v w ss there in
    rw (← e, set, new, none) refl

-- a promise that was fulfilled with undefined gives up its place
pub given-up : (n p : ℕ) (os : List (ℕ × Open)) (ss : List (ℕ × Settled)) (xs : List (Option Slot)) → items_from 0 n os ss ≡ xs → p < n → value_in p ss ≡ None → items_from 0 n (without p os) ss ≡ slice_set xs p (Some (ended_slot None))
given-up n p os ss xs e l gone =
    let set = items-set 0 n p p os ss (without p os) ss l (omega arith) (λ m d. ap (λ o. slot_in o (value_in m ss)) (value-without_other m p os d)) in
    let none = value-without p os in
    rw (← e, set, none, gone) refl

-- it takes one again, among those that have settled
pub taken-again : (n p : ℕ) (w : Settled) (os : List (ℕ × Open)) (ss : List (ℕ × Settled)) (xs : List (Option Slot)) → items_from 0 n os ss ≡ xs → p < n → value_in p os ≡ None → value_in p ss ≡ None → items_from 0 n os (put_in p w ss) ≡ slice_set xs p (Some (settled_slot w))
taken-again n p w os ss xs e l none gone =
    let set = items-set 0 n p p os ss os (put_in p w ss) l (omega arith) (λ m d. ap (λ s. slot_in (value_in m os) s) (value-put_other m p w ss d)) in
    let new = value-put p w ss gone in
    rw (← e, set, new, none) refl

-- a pending promise settles otherwise
pub ended-otherwise : (n p : ℕ) (w : Settled) (os : List (ℕ × Open)) (ss : List (ℕ × Settled)) (xs : List (Option Slot)) → items_from 0 n os ss ≡ xs → p < n → value_in p ss ≡ None → items_from 0 n (without p os) (put_in p w ss) ≡ slice_set xs p (Some (settled_slot w))
ended-otherwise n p w os ss xs e l gone =
    let set = items-set 0 n p p os ss (without p os) (put_in p w ss) l (omega arith) (λ m d. other m (value-without_other m p os d) (value-put_other m p w ss d)) in
    let none = value-without p os in
    let new = value-put p w ss gone in
    rw (← e, set, none, new) refl
  where
    other : (m : ℕ) → value_in m (without p os) ≡ value_in m os → value_in m (put_in p w ss) ≡ value_in m ss → slot_in (value_in m (without p os)) (value_in m (put_in p w ss)) ≡ slot_in (value_in m os) (value_in m ss)
    other m a b = rw (a, b) refl

-- a pending promise has a place

no-slot : (o : Option (Option Slot)) → o ≡ None → is_pending_slot o ≡ true → ⊥
no-slot None f h = cc
no-slot (Some o) f h = cc

pub placed : (n p : ℕ) (os : List (ℕ × Open)) (ss : List (ℕ × Settled)) (xs : List (Option Slot)) → items_from 0 n os ss ≡ xs → is_pending_slot (slice_get xs p) ≡ true → p < n
placed n p os ss xs e h = elim (cases_lt p n) [
  | inl l ↦ l
  | inr l ↦ absurd (no-slot (slice_get xs p) (past-shown n p os ss xs e l) h)
]

differ : (b : Bool) → b ≡ true → b ≡ false → ⊥
differ true h f = cc
differ false h f = cc

-- where it is pending, it has a place
pub has-place : (n p : ℕ) (os : List (ℕ × Open)) (ss : List (ℕ × Settled)) (xs : List (Option Slot)) → items_from 0 n os ss ≡ xs → Apart n os ss → is_pending_slot (slice_get xs p) ≡ true → value_in p os ≢ None
has-place n p os ss xs e a h none = differ (is_pending_slot (slice_get xs p)) h (after (value_in p ss) refl)
  where
    after : (o : Option Settled) → value_in p ss ≡ o → is_pending_slot (slice_get xs p) ≡ false
    after None i = rw (get-shown n p os ss xs None None e (placed n p os ss xs e h) none i) refl
    after (Some s) i = rw (get-shown n p os ss xs None (Some s) e (placed n p os ss xs e h) none i) ((a p s i).2)

-- one that is pending hasn't settled
pub not-settled : (n p : ℕ) (v : Open) (os : List (ℕ × Open)) (ss : List (ℕ × Settled)) → Apart n os ss → value_in p os ≡ Some v → value_in p ss ≡ None
not-settled n p v os ss a there = after (value_in p ss) refl
  where
    after : (o : Option Settled) → value_in p ss ≡ o → o ≡ None
    after None i = refl
    after (Some s) i = let none = (a p s i).1 in cc

-- the slot that is read is the one that is shown
pub same-slot : (n p : ℕ) (os : List (ℕ × Open)) (ss : List (ℕ × Settled)) (xs : List (Option Slot)) (v : Open) (s : Slot) → items_from 0 n os ss ≡ xs → p < n → value_in p os ≡ Some v → slice_get xs p ≡ Some (Some s) → s ≡ slot_of v
same-slot n p os ss xs v s e l there g =
    let shown : slice_get xs p ≡ Some (Some (slot_of v)) = open-shown n p os ss xs v e l there in
    cc

pub same-settled : (n p : ℕ) (os : List (ℕ × Open)) (ss : List (ℕ × Settled)) (xs : List (Option Slot)) (v : Settled) (s : Slot) → items_from 0 n os ss ≡ xs → p < n → value_in p os ≡ None → value_in p ss ≡ Some v → slice_get xs p ≡ Some (Some s) → s ≡ settled_slot v
same-settled n p os ss xs v s e l none there g =
    let shown : slice_get xs p ≡ Some (Some (settled_slot v)) = get-shown n p os ss xs None (Some v) e l none there in
    cc

pub same-ended : (n p : ℕ) (os : List (ℕ × Open)) (ss : List (ℕ × Settled)) (xs : List (Option Slot)) (s : Slot) → items_from 0 n os ss ≡ xs → p < n → value_in p os ≡ None → value_in p ss ≡ None → slice_get xs p ≡ Some (Some s) → s ≡ ended_slot None
same-ended n p os ss xs s e l none gone g =
    let shown : slice_get xs p ≡ Some (Some (ended_slot None)) = get-shown n p os ss xs None None e l none gone in
    cc

-- what is found at a number that was given

pub found-some : (n p : ℕ) (os : List (ℕ × Open)) (ss : List (ℕ × Settled)) (xs : List (Option Slot)) (o : Option (Bor Open)) → items_from 0 n os ss ≡ xs → p < n → option_copied o ≡ value_in p os
    → IfSome o (λ o'. (slice_get xs p ≡ Some (Some (slot_of o'.now))) × (is_pending (slot_of o'.now).outcome ≡ true))
found-some n p os ss xs None e l there = tt
found-some n p os ss xs (Some v) e l there = (open-shown n p os ss xs v.now e l (sym there), refl)

pub found-none : (n p : ℕ) (os : List (ℕ × Open)) (ss : List (ℕ × Settled)) (xs : List (Option Slot)) (o : Option (Bor Open)) → items_from 0 n os ss ≡ xs → Apart n os ss → p < n → option_copied o ≡ value_in p os
    → IfNone o (is_pending_slot (slice_get xs p) ≡ false)
found-none n p os ss xs None e a l there = after (value_in p ss) refl
  where
    after : (o : Option Settled) → value_in p ss ≡ o → is_pending_slot (slice_get xs p) ≡ false
    after None i = rw (get-shown n p os ss xs None None e l (sym there) i) refl
    after (Some s) i = rw (get-shown n p os ss xs None (Some s) e l (sym there) i) ((a p s i).2)
found-none n p os ss xs (Some v) e a l there = tt

pub found-past : (n p : ℕ) (os : List (ℕ × Open)) (ss : List (ℕ × Settled)) (xs : List (Option Slot)) → items_from 0 n os ss ≡ xs → n ≤ p → is_pending_slot (slice_get xs p) ≡ false
found-past n p os ss xs e l = rw (past-shown n p os ss xs e l) refl

-- another is kept at a number, or none: there are as many
pub written-length : (n : ℕ) (os ps : List (ℕ × Open)) (ss ts : List (ℕ × Settled)) (xs : List (Option Slot)) → items_from 0 n os ss ≡ xs → length (items_from 0 n ps ts) ≡ length xs
written-length n os ps ss ts xs e = length-items 0 n ps ts ∙ sym (length-shown n os ss xs e)

-- those that have settled stay apart from those that are pending

pub apart-push : (n : ℕ) (o : Open) (os : List (ℕ × Open)) (ss : List (ℕ × Settled)) → Apart n os ss → Apart (n + 1) (os ++ (n, o) ∷ []) ss
apart-push n o os ss a = λ k s i.
    let at = a k s i in
    (omega (arith, at.0), value-kept k n o os (λ f. absurd (omega (arith, f, at.0))) ∙ at.1, at.2)

pub apart-written : (n p : ℕ) (v w : Open) (os : List (ℕ × Open)) (ss : List (ℕ × Settled)) → value_in p os ≡ Some v → Apart n os ss → Apart n (with_value p w os) ss
apart-written n p v w os ss there a = λ k s i.
    let at = a k s i in
    (at.0, value-with_other k p w os (λ f. absurd (no (value_in k os) v (ap (λ m. value_in m os) f ∙ there) at.1)) ∙ at.1, at.2)
  where
    no : (o : Option Open) (v : Open) → o ≡ Some v → o ≡ None → ⊥
    no None v a b = cc
    no (Some u) v a b = cc

pub apart-without : (n p : ℕ) (os : List (ℕ × Open)) (ss : List (ℕ × Settled)) → Apart n os ss → Apart n (without p os) ss
apart-without n p os ss a = λ k s i.
    let at = a k s i in (
      at.0,
      elim (cases_eq k p) [
        | inl same ↦ rw same (value-without p os)
        | inr differs ↦ value-without_other k p os differs ∙ at.1
      ],
      at.2,
    )

pub apart-put : (n p : ℕ) (w : Settled) (os : List (ℕ × Open)) (ss : List (ℕ × Settled)) → p < n → value_in p os ≡ None → value_in p ss ≡ None → is_pending w.outcome ≡ false → Apart n os ss → Apart n os (put_in p w ss)
apart-put n p w os ss l none gone f a = λ k s i. elim (cases_eq k p) [
  | inl same ↦
      let new : value_in p (put_in p w ss) ≡ Some s = rw same at i in
      let is : s ≡ w = one s w (value_in p (put_in p w ss)) new (value-put p w ss gone) in
      (omega (arith, same, l), rw same none, rw is f)
  | inr differs ↦ a k s (sym (value-put_other k p w ss differs) ∙ i)
]
  where
    one : (s w : Settled) (o : Option Settled) → o ≡ Some s → o ≡ Some w → s ≡ w
    one s w o a b = cc

pub apart-settled : (n p : ℕ) (v w : Settled) (os : List (ℕ × Open)) (ss : List (ℕ × Settled)) → value_in p ss ≡ Some v → w.outcome ≡ v.outcome → Apart n os ss → Apart n os (with_value p w ss)
apart-settled n p v w os ss there same a = λ k s i. elim (cases_eq k p) [
  | inl e ↦
      let new : value_in p (with_value p w ss) ≡ Some s = rw e at i in
      let is : s ≡ w = one s w (value_in p (with_value p w ss)) new (value-with p v w ss there) in
      let old = a p v there in
      (omega (arith, e, old.0), rw e (old.1), rw (is, same) (old.2))
  | inr differs ↦ a k s (sym (value-with_other k p w ss differs) ∙ i)
]
  where
    one : (s w : Settled) (o : Option Settled) → o ≡ Some s → o ≡ Some w → s ≡ w
    one s w o a b = cc

-- how many are pending

pub length-more : {T : Type 0} (x : T) (xs : List T) → length (xs ++ x ∷ []) ≡ length xs + 1
length-more x [] = refl
length-more x (y ∷ xs) = let rest = length-more x xs in omega (arith, rest)

pub length-with : {T : Type 0} (n : ℕ) (w : T) (xs : List (ℕ × T)) → length (with_value n w xs) ≡ length xs
length-with n w [] = refl
length-with n w (x ∷ xs) = ap suc (length-with n w xs)

most : {T : Type 0} (n : ℕ) (xs : List (ℕ × T)) → length (without n xs) ≤ length xs
most n [] = omega arith
most n (x ∷ xs) = after (x.0 == n) (most n xs)
  where
    after : (b : Bool) → length (without n xs) ≤ length xs → length (if b then without n xs else x ∷ without n xs) ≤ suc (length xs)
    after true rest = omega (arith, rest)
    after false rest = omega (arith, rest)

pub length-less : {T : Type 0} (n : ℕ) (v : T) (xs : List (ℕ × T)) → value_in n xs ≡ Some v → length (without n xs) < length xs
length-less n v [] h = cc
length-less n v (x ∷ xs) h = after (x.0 == n) h (most n xs) (λ r. length-less n v xs r)
  where
    after : (b : Bool) → (if b then Some x.1 else value_in n xs) ≡ Some v → length (without n xs) ≤ length xs → (value_in n xs ≡ Some v → length (without n xs) < length xs) → length (if b then without n xs else x ∷ without n xs) < suc (length xs)
    after true h least rest = omega (arith, least)
    after false h least rest = let r = rest h in omega (arith, r)

pub some-kept : {T : Type 0} (o : Option T) → o ≢ None → (v : T) × (o ≡ Some v)
some-kept None h = absurd (h refl)
some-kept (Some v) h = (v, refl)

-- where what is written is what was there, the slots are the same
pub unwritten : (n p : ℕ) (v : Open) (os : List (ℕ × Open)) (ss : List (ℕ × Settled)) → value_in p os ≡ Some v → items_from 0 n (with_value p v os) ss ≡ items_from 0 n os ss
unwritten n p v os ss there = items-same 0 n os ss (with_value p v os) ss (λ m l. elim (cases_eq m p) [
  | inl same ↦ let new = value-with p v v os there in rw (same, new, there) refl
  | inr differs ↦ ap (λ o. slot_in o (value_in m ss)) (value-with_other m p v os differs)
])

pub settled-unwritten : (n p : ℕ) (v : Settled) (os : List (ℕ × Open)) (ss : List (ℕ × Settled)) → value_in p ss ≡ Some v → items_from 0 n os (with_value p v ss) ≡ items_from 0 n os ss
settled-unwritten n p v os ss there = items-same 0 n os ss os (with_value p v ss) (λ m l. elim (cases_eq m p) [
  | inl same ↦ let new = value-with p v v ss there in rw (same, new, there) refl
  | inr differs ↦ ap (λ s. slot_in (value_in m os) s) (value-with_other m p v ss differs)
])
