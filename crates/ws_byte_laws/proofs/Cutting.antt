-- Cutting a queue of bytes.
use Rattle.std.proofs.Common.{◌≡◌, ◌≤◌, ◌⊎◌, inl, inr, ℕ, zero, suc, ◌+◌, ◌-◌, ◌*◌, ◌%◌, List, [], ◌∷◌, ◌++◌, take, drop, length, refl, sym, ap, ◌∙◌, append_assoc, append-nil, arith, length-append}
use Rattle.std.proofs.Math.Nat.{mul-div-le}
use Rattle.std.proofs.lemmas.List.{take-append-drop}
use Rattle.ws_steps.specs.Queues.{total_bytes, append_bytes, front_bytes, after_bytes}
use Rattle.ws_steps.specs.ByteHistory.{joined}

pub joined_append : (xs ys : List (List ℕ)) → joined (xs ++ ys) ≡ joined xs ++ joined ys
joined_append [] ys = refl
joined_append (x ∷ xs) ys = rw (joined_append xs ys) (sym (append_assoc x (joined xs) (joined ys)))

-- bytes at the end of a queue
pub joined_bytes : (b : List ℕ) (q : List (List ℕ)) → joined (append_bytes b q) ≡ joined q ++ b
joined_bytes [] q = sym (append-nil (joined q))
joined_bytes (x ∷ b) q = joined_append q ((x ∷ b) ∷ []) ∙ ap (λ ys. joined q ++ ys) (append-nil (x ∷ b))

front_none : (n : ℕ) (q : List (List ℕ)) → n ≤ 0 → front_bytes n q ≡ []
front_none n [] h = refl
front_none zero (b ∷ bs) h = front_none (0 - length b) bs (omega arith)
front_none (suc n) (b ∷ bs) h = absurd (omega arith)

pub drop_all : (n : ℕ) (b : List ℕ) → length b ≤ n → drop n b ≡ []
drop_all zero [] h = refl
drop_all (suc n) [] h = refl
drop_all zero (x ∷ b) h = absurd (omega arith)
drop_all (suc n) (x ∷ b) h = drop_all n b (omega arith)

cut_by : (n : ℕ) (b whole F A : List ℕ) → (n ≤ length b → F ≡ []) → F ++ A ≡ whole → (n ≤ length b) ⊎ (length b ≤ n) → (take n b ++ F) ++ (drop n b ++ A) ≡ b ++ whole
cut_by n b whole F A h e (inl s) =
    let f : F ≡ [] = h s in
    let g : A ≡ whole = rw f at e in
    rw (f, g, append-nil, ← append_assoc, take-append-drop) refl
cut_by n b whole F A h e (inr s) =
    let f : drop n b ≡ [] = drop_all n b s in
    let g : take n b ≡ b = sym (append-nil (take n b)) ∙ (ap (λ z. take n b ++ z) (sym f) ∙ take-append-drop n b) in
    rw (f, g, append_assoc, e) refl

order : (m n : ℕ) → (m ≤ n) ⊎ (n ≤ m)
order m n = grind arith

-- what is cut off the front and what is left are the queue's bytes
pub cut_joined : (n : ℕ) (q : List (List ℕ)) → front_bytes n q ++ joined (after_bytes n q) ≡ joined q
cut_joined n [] = refl
cut_joined n (b ∷ bs) =
    rw (joined_append (append_bytes (drop n b) []) (after_bytes (n - length b) bs), joined_bytes (drop n b) [])
    (cut_by n b (joined bs) (front_bytes (n - length b) bs) (joined (after_bytes (n - length b) bs)) (λ s. front_none (n - length b) bs (omega arith)) (cut_joined (n - length b) bs) (order n (length b)))

-- nothing is left behind all bytes
pub after_all : (n : ℕ) (q : List (List ℕ)) → total_bytes q ≤ n → after_bytes n q ≡ []
after_all n [] h = refl
after_all n (b ∷ bs) h =
    let e : drop n b ≡ [] = drop_all n b (omega arith) in
    let f : after_bytes (n - length b) bs ≡ [] = after_all (n - length b) bs (omega arith) in
    rw (e, f) refl

length_take : (n : ℕ) (b : List ℕ) → length (take n b) + (n - length b) ≤ n
length_take zero b = omega arith
length_take (suc n) [] = omega arith
length_take (suc n) (x ∷ b) = let h = length_take n b in omega arith

pub length_front : (n : ℕ) (q : List (List ℕ)) → length (front_bytes n q) ≤ n
length_front n [] = omega arith
length_front n (b ∷ bs) =
    let h = length_take n b in let k = length_front (n - length b) bs in
    omega (arith, length-append (take n b) (front_bytes (n - length b) bs))

-- as much of n as whole elements make is at least m, where n is and m is whole elements
pub aligned : (n e k m : ℕ) → m ≡ e * k → m ≤ n → m ≤ n - n % e
aligned n e k m w h = grind (arith, mul-div-le)
