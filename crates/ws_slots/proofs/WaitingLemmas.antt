-- Who waits for a promise, once a reaction is registered or those of a promise are forgotten.
use Rattle.std.proofs.Common.{◌≡◌, ◌∙◌, ◌-◌, ◌≢◌, ℕ, zero, suc, ◌+◌, ◌≤◌, ◌<◌, List, [], ◌∷◌, ◌++◌, Some, length, drop, take, remove, slice_get, slice_set, refl, ap, sym, subst, arith}
use Rattle.std.proofs.Math.ListN.{length-append}
use Rattle.std.proofs.Math.Seq.{take-append_seam}
use Rattle.std.proofs.lemmas.List.{drop-take, length-set, set-append_left}
use Rattle.std.proofs.lemmas.List.Edits.{length-remove}
use Rattle.std.proofs.lemmas.Bool.Decides.{nat_tests}
use Rattle.ws_slots.specs.declared.waiting.Waiting.{Waiting}
use Rattle.ws_slots.specs.View.{WaitAlike, waiting_on, waiting_elsewhere}

pub waiting_on-elsewhere_same : (k : ℕ) (ws : List Waiting) → waiting_on k (waiting_elsewhere k ws) ≡ []
waiting_on-elsewhere_same k [] = refl
waiting_on-elsewhere_same k (w ∷ ws) = grind (arith, nat_tests, waiting_on-elsewhere_same k ws)

pub waiting_on-elsewhere_other : (j k : ℕ) (ws : List Waiting) → j ≢ k → waiting_on j (waiting_elsewhere k ws) ≡ waiting_on j ws
waiting_on-elsewhere_other j k [] h = refl
waiting_on-elsewhere_other j k (w ∷ ws) h = grind (arith, nat_tests, waiting_on-elsewhere_other j k ws h)

pub waiting_on-push_same : (k : ℕ) (ws : List Waiting) (w : Waiting) → w.on.0 ≡ k → waiting_on k (ws ++ w ∷ []) ≡ waiting_on k ws ++ w.reaction ∷ []
waiting_on-push_same k [] w h = grind (arith, nat_tests)
waiting_on-push_same k (v ∷ ws) w h = grind (arith, nat_tests, waiting_on-push_same k ws w h)

pub waiting_on-push_other : (k : ℕ) (ws : List Waiting) (w : Waiting) → w.on.0 ≢ k → waiting_on k (ws ++ w ∷ []) ≡ waiting_on k ws
waiting_on-push_other k [] w h = grind (arith, nat_tests)
waiting_on-push_other k (v ∷ ws) w h = grind (arith, nat_tests, waiting_on-push_other k ws w h)

pub length-waiting_both : (k : ℕ) (ws : List Waiting) → length (waiting_on k ws) + length (waiting_elsewhere k ws) ≡ length ws
length-waiting_both k [] = refl
length-waiting_both k (w ∷ ws) = grind (arith, nat_tests, length-waiting_both k ws)

none_of_length : {A : Type 0} (xs : List A) → length xs ≤ 0 → xs ≡ []
none_of_length {A} [] h = refl
none_of_length {A} (x ∷ xs) h = absurd (omega arith)

pub waiting_on-nobody : (k : ℕ) (ws : List Waiting) → length (waiting_on k ws) ≤ 0 → waiting_on k ws ≡ []
waiting_on-nobody k ws h = none_of_length (waiting_on k ws) h

-- where nobody waits for promise k, all wait for others
pub waiting_elsewhere-nobody : (k : ℕ) (ws : List Waiting) → waiting_on k ws ≡ [] → waiting_elsewhere k ws ≡ ws
waiting_elsewhere-nobody k [] h = refl
waiting_elsewhere-nobody k (w ∷ ws) h = grind (arith, nat_tests, waiting_elsewhere-nobody k ws)

-- the reaction at an index is the only one that waits for promise k
pub waiting_on-only : (k i : ℕ) (ws : List Waiting) (w : Waiting) → slice_get ws i ≡ Some w → w.on.0 ≡ k → length (waiting_on k ws) ≤ 1 → waiting_on k ws ≡ w.reaction ∷ []
waiting_on-only k i [] w g e h = cc
waiting_on-only k zero (v ∷ ws) w g e h =
    let is : v ≡ w = cc in
    grind (arith, nat_tests, waiting_on-nobody k ws)
waiting_on-only k (suc i) (v ∷ ws) w g e h = grind (arith, nat_tests, waiting_on-only k i ws w g e)

pub waiting_elsewhere-only : (k i : ℕ) (ws : List Waiting) (w : Waiting) → slice_get ws i ≡ Some w → w.on.0 ≡ k → length (waiting_on k ws) ≤ 1 → waiting_elsewhere k ws ≡ remove ws i
waiting_elsewhere-only k i [] w g e h = cc
waiting_elsewhere-only k zero (v ∷ ws) w g e h =
    let is : v ≡ w = cc in
    grind (arith, nat_tests, waiting_on-nobody k ws, waiting_elsewhere-nobody k ws)
waiting_elsewhere-only k (suc i) (v ∷ ws) w g e h = grind (arith, nat_tests, waiting_on-only k i ws w g e, waiting_elsewhere-only k i ws w g e)

pub alike-same : {ws vs : List Waiting} → ws ≡ vs → WaitAlike ws vs
alike-same {ws} {vs} e = record { each = λ k. ap (waiting_on k) e; count = ap length e }

-- the last reaction takes the place of another, behind which none waits for the same promise
waiting_on-moved : (k i : ℕ) (ws : List Waiting) (v : Waiting) → i < length ws → waiting_on v.on.0 (drop (suc i) ws) ≡ [] → waiting_on k (slice_set ws i v) ≡ waiting_on k (remove (ws ++ v ∷ []) i)
waiting_on-moved k i [] v h e = absurd (omega arith)
waiting_on-moved k zero (w ∷ ws) v h e = grind (arith, nat_tests, waiting_on-push_same k ws v, waiting_on-push_other k ws v)
waiting_on-moved k (suc i) (w ∷ ws) v h e = grind (arith, nat_tests, waiting_on-moved k i ws v (omega arith) e)

split-last : (n : ℕ) (ws : List Waiting) (v : Waiting) → length ws ≡ n + 1 → slice_get ws n ≡ Some v → ws ≡ take n ws ++ v ∷ []
split-last n [] v l g = cc
split-last zero (w ∷ []) v l g = let is : w ≡ v = cc in rw is refl
split-last zero (w ∷ x ∷ ws) v l g = absurd (omega arith)
split-last (suc n) (w ∷ ws) v l g = ap (λ xs. w ∷ xs) (split-last n ws v (omega arith) g)

behind : (ws : List Waiting) (n i : ℕ) → i < n → drop (suc i) (take n ws) ≡ take (n - (i + 1)) (drop (i + 1) ws)
behind ws n i lt =
    let e : suc i + (n - (i + 1)) ≡ n = omega arith in
    let s : i + 1 ≡ suc i = omega arith in
    ap (λ x. drop (suc i) (take x ws)) (sym e) ∙ (drop-take (suc i) (n - (i + 1)) ws ∙ ap (λ x. take (n - (i + 1)) (drop x ws)) (sym s))

alike-last : (ws : List Waiting) (n i : ℕ) (v : Waiting) → length ws ≡ n → i < n → waiting_on v.on.0 (drop (suc i) ws) ≡ [] → WaitAlike (take n (slice_set (ws ++ v ∷ []) i v)) (remove (ws ++ v ∷ []) i)
alike-last ws n i v l lt none =
    let within : i < length ws = omega arith in
    let e : n ≡ length (slice_set ws i v) = omega (arith, length-set ws i v) in
    let kept : take n (slice_set (ws ++ v ∷ []) i v) ≡ slice_set ws i v = rw (set-append_left ws (v ∷ []) i v within, e) (take-append_seam (slice_set ws i v) (v ∷ [])) in
    record {
      each = λ k. rw kept (waiting_on-moved k i ws v within none);
      count = rw kept (omega (arith, length-set ws i v, length-append ws (v ∷ []), length-remove (ws ++ v ∷ []) i (omega (arith, length-append ws (v ∷ [])))));
    }

-- the same where the last is at index n, as it is done in memory
pub alike-moved : (ws : List Waiting) (n i : ℕ) (v : Waiting) → length ws ≡ n + 1 → i < n → slice_get ws n ≡ Some v → waiting_on v.on.0 (take (n - (i + 1)) (drop (i + 1) ws)) ≡ [] → WaitAlike (take n (slice_set ws i v)) (remove ws i)
alike-moved ws n i v l lt g none =
    let split = split-last n ws v l g in
    let front : length (take n ws) ≡ n = omega (arith, ap length split, length-append (take n ws) (v ∷ [])) in
    subst (λ xs. WaitAlike (take n (slice_set xs i v)) (remove xs i)) (sym split) (alike-last (take n ws) n i v front lt (rw (behind ws n i lt) none))
