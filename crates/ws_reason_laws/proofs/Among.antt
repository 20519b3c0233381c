-- Whether a reason is among others.
use Rattle.std.proofs.Common.{◌≡◌, ℕ, zero, suc, ◌<◌, Bool, true, false, nat_eq, ◌&&◌, ◌||◌, if◌then◌else◌, List, [], ◌∷◌, ◌++◌, Contains, ⊎_elim, refl, sym, ap, subst, ◌∙◌, append_assoc, arith}
use Rattle.std.specs.List.{slice_index_or}
use Rattle.std.proofs.lemmas.List.Elements.{Contains-append_right, Contains-append_cases}
use Rattle.ws_value.specs.declared.fault.Fault.{Fault}
use Rattle.ws_value.specs.declared.fault.Fault.TheVariants.{TypeError, RangeError, DataClone, User, Read, Write, Stage, TooMuch, Abort, NoMemory}
use Rattle.ws_value.specs.declared.ids.TeeId.{TeeId}
use Rattle.ws_value.specs.declared.value.Plain.{Plain}
use Rattle.ws_value.specs.declared.value.Plain.TheVariants.{Undefined, Number, Fault as FaultReason, Pair, Local}
use Rattle.ws_reason_laws.proofs.Weights.{bad_of}

-- the same fault, and the same reason

abbrev same_fault : Fault → Fault → Bool
same_fault TypeError TypeError = true
same_fault RangeError RangeError = true
same_fault DataClone DataClone = true
same_fault (User m) (User n) = nat_eq m n
same_fault Read Read = true
same_fault Write Write = true
same_fault (Stage i c p) (Stage j d q) = nat_eq i j && (nat_eq c d && nat_eq p q)
same_fault TooMuch TooMuch = true
same_fault Abort Abort = true
same_fault NoMemory NoMemory = true
same_fault _ _ = false

abbrev pub same_reason : Plain → Plain → Bool
same_reason Undefined Undefined = true
same_reason (Number m) (Number n) = nat_eq m n
same_reason (FaultReason f) (FaultReason g) = same_fault f g
same_reason (Pair t) (Pair u) = nat_eq t.0 u.0
same_reason (Local m) (Local n) = nat_eq m n
same_reason _ _ = false

nat_self : (n : ℕ) → nat_eq n n ≡ true
nat_self n = grind arith

nat_same : (m n : ℕ) → nat_eq m n ≡ true → m ≡ n
nat_same m n e = grind arith

fault_self : (f : Fault) → same_fault f f ≡ true
fault_self f = grind (arith, nat_self)

fault_same : (f g : Fault) → same_fault f g ≡ true → f ≡ g
fault_same f g e = grind (arith, nat_same)

pub reason_self : (r : Plain) → same_reason r r ≡ true
reason_self r = grind (arith, nat_self, fault_self)

tee_same : (t u : TeeId) → nat_eq t.0 u.0 ≡ true → t ≡ u
tee_same t u e = ap (λ (n : ℕ). record { 0 = n }) (nat_same t.0 u.0 e)

pub reason_same : (r s : Plain) → same_reason r s ≡ true → r ≡ s
reason_same r s e = grind (arith, nat_same, fault_same, tee_same)

abbrev pub is_among : Plain → List Plain → Bool
is_among r [] = false
is_among r (s ∷ ss) = same_reason s r || is_among r ss

-- 0 where it is
abbrev pub bad_unless : List Plain → Plain → ℕ
bad_unless rs r = if is_among r rs then 0 else 1

pub among_contained : (r : Plain) (rs : List Plain) → is_among r rs ≡ true → Contains rs r
among_contained r [] e = cc
among_contained r (s ∷ ss) e = by (same_reason s r) refl (λ n. among_contained r ss (rest n))
  where
    rest : same_reason s r ≡ false → is_among r ss ≡ true
    rest n = grind (arith, e, n)

    by : (b : Bool) → same_reason s r ≡ b → (same_reason s r ≡ false → Contains ss r) → Contains (s ∷ ss) r
    by true h f = (0, omega arith, reason_same s r h)
    by false h f = Contains-append_right (s ∷ []) ss r (f h)

pub among_either : (r : Plain) (xs ys : List Plain) → is_among r (xs ++ ys) ≡ true → (is_among r xs || is_among r ys) ≡ true
among_either r [] ys e = e
among_either r (x ∷ xs) ys e = let h = among_either r xs ys in grind (arith, h, e)

among_middle : (pre : List Plain) (r : Plain) (rs : List Plain) → is_among r (pre ++ r ∷ rs) ≡ true
among_middle [] r rs = let h = reason_self r in grind (arith, h)
among_middle (x ∷ pre) r rs = let h = among_middle pre r rs in grind (arith, h)

good_from : (all pre rs : List Plain) → all ≡ pre ++ rs → bad_of (bad_unless all) rs ≡ 0
good_from all pre [] e = refl
good_from all pre (r ∷ rs) e =
    let a : is_among r all ≡ true = rw e (among_middle pre r rs) in
    let b : bad_unless all r ≡ 0 = rw a refl in
    let c = good_from all (pre ++ r ∷ []) rs (e ∙ sym (append_assoc pre (r ∷ []) rs)) in
    omega (arith, b, c)

-- none of them is bad
pub all-good : (all : List Plain) → bad_of (bad_unless all) all ≡ 0
all-good all = good_from all [] all refl

pub good_among : (all : List Plain) (r : Plain) → bad_unless all r ≡ 0 → is_among r all ≡ true
good_among all r e = by (is_among r all) refl
  where
    by : (b : Bool) → is_among r all ≡ b → is_among r all ≡ true
    by true h = h
    by false h = let c : bad_unless all r ≡ 1 = rw h refl in absurd (omega (arith, c, e))

-- what is contained is among them
pub contained_among : (r : Plain) (rs : List Plain) → Contains rs r → is_among r rs ≡ true
contained_among r [] c = absurd (omega (arith, c.1))
contained_among r (s ∷ ss) c =
    ⊎_elim (λ (d : Contains (s ∷ []) r). first d) (λ (d : Contains ss r). later (contained_among r ss d)) (Contains-append_cases (s ∷ []) ss r c)
  where
    only : (k : ℕ) → k < 1 → slice_index_or (s ∷ []) k r ≡ r → s ≡ r
    only zero l e = e
    only (suc k) l e = absurd (omega (arith, l))

    first : Contains (s ∷ []) r → (same_reason s r || is_among r ss) ≡ true
    first d = let is : s ≡ r = only d.0 d.1 d.2 in let h : same_reason s r ≡ true = subst (λ (x : Plain). same_reason x r ≡ true) (sym is) (reason_self r) in rw h refl

    later : is_among r ss ≡ true → (same_reason s r || is_among r ss) ≡ true
    later h = grind (arith, h)
