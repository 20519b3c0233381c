-- What a change of the places does to the promises for which they stand.
use Rattle.std.proofs.Common.{◌≡◌, ℕ, ◌+◌, ◌<◌, suc, zero, List, [], ◌∷◌, ◌++◌, length, Option, Some, refl, ap, arith}
use Rattle.std.specs.Prelude.{slice_get, slice_set}
use Rattle.ws_steps.specs.declared.promises.Reaction.{Reaction}
use Rattle.ws_slots.specs.Slot.{Slot}
use Rattle.ws_slots.specs.declared.waiting.Waiting.{Waiting}
use Rattle.ws_slots.specs.View.{WaitAlike, entries_from, entry_for, entry_with, waiting_on, waiting_elsewhere}
use Rattle.ws_slots.proofs.WaitingLemmas.{waiting_on-elsewhere_same, waiting_on-elsewhere_other, waiting_on-push_same, waiting_on-push_other}

pub length-entries_from : (k : ℕ) (ss : List (Option Slot)) (ws : List Waiting) → length (entries_from k ss ws) ≡ length ss
length-entries_from k [] ws = refl
length-entries_from k (s ∷ ss) ws = ap suc (length-entries_from (suc k) ss ws)

-- one more place
pub entries_from-push : (k j : ℕ) (ss : List (Option Slot)) (s : Option Slot) (ws : List Waiting) → j ≡ k + length ss → entries_from k (ss ++ s ∷ []) ws ≡ entries_from k ss ws ++ entry_for (waiting_on j ws) s ∷ []
entries_from-push k j [] s ws h = let e : j ≡ k = omega arith in rw e refl
entries_from-push k j (x ∷ ss) s ws h = ap (λ es. entry_for (waiting_on k ws) x ∷ es) (entries_from-push (suc k) j ss s ws (omega arith))

-- a place is written, and who waits stays
pub entries_from-set : (k i j : ℕ) (ss : List (Option Slot)) (s : Option Slot) (ws : List Waiting) → j ≡ k + i → entries_from k (slice_set ss i s) ws ≡ slice_set (entries_from k ss ws) i (entry_for (waiting_on j ws) s)
entries_from-set k i j [] s ws h = refl
entries_from-set k zero j (x ∷ ss) s ws h = let e : j ≡ k = omega arith in rw e refl
entries_from-set k (suc i) j (x ∷ ss) s ws h = ap (λ es. entry_for (waiting_on k ws) x ∷ es) (entries_from-set (suc k) i j ss s ws (omega arith))

-- who waits for a promise below changes nothing
pub entries_from-elsewhere : (k j : ℕ) (ss : List (Option Slot)) (ws : List Waiting) → j < k → entries_from k ss (waiting_elsewhere j ws) ≡ entries_from k ss ws
entries_from-elsewhere k j [] ws h = refl
entries_from-elsewhere k j (x ∷ ss) ws h =
    let here = waiting_on-elsewhere_other k j ws (omega arith) in
    let rest = entries_from-elsewhere (suc k) j ss ws (omega arith) in
    cc

entries_from-push_below : (k : ℕ) (ss : List (Option Slot)) (ws : List Waiting) (w : Waiting) → w.on.0 < k → entries_from k ss (ws ++ w ∷ []) ≡ entries_from k ss ws
entries_from-push_below k [] ws w h = refl
entries_from-push_below k (x ∷ ss) ws w h =
    let here = waiting_on-push_other k ws w (omega arith) in
    let rest = entries_from-push_below (suc k) ss ws w (omega arith) in
    cc

-- a promise is settled: its place is written, and nobody waits for it any more
pub entries_from-settle : (k i j : ℕ) (ss : List (Option Slot)) (s : Slot) (ws : List Waiting) → j ≡ k + i → entries_from k (slice_set ss i (Some s)) (waiting_elsewhere j ws) ≡ slice_set (entries_from k ss ws) i (Some (entry_with [] s))
entries_from-settle k i j [] s ws h = refl
entries_from-settle k zero j (x ∷ ss) s ws h =
    let e : j ≡ k = omega arith in
    let here = waiting_on-elsewhere_same k ws in
    let rest = entries_from-elsewhere (suc k) k ss ws (omega arith) in
    rw e cc
entries_from-settle k (suc i) j (x ∷ ss) s ws h =
    let here = waiting_on-elsewhere_other k j ws (omega arith) in
    let rest = entries_from-settle (suc k) i j ss s ws (omega arith) in
    cc

-- one more reaction waits
pub entries_from-react : (k i j : ℕ) (ss : List (Option Slot)) (ws : List Waiting) (w : Waiting) (s : Slot) → j ≡ k + i → w.on.0 ≡ j → slice_get ss i ≡ Some (Some s) → entries_from k ss (ws ++ w ∷ []) ≡ slice_set (entries_from k ss ws) i (Some (entry_with (waiting_on j ws ++ w.reaction ∷ []) s))
entries_from-react k i j [] ws w s h n g = refl
entries_from-react k zero j (x ∷ ss) ws w s h n g =
    let e : j ≡ k = omega arith in
    let is : x ≡ Some s = cc in
    let here = waiting_on-push_same k ws w (omega arith) in
    let rest = entries_from-push_below (suc k) ss ws w (omega arith) in
    rw (e, is) cc
entries_from-react k (suc i) j (x ∷ ss) ws w s h n g =
    let here = waiting_on-push_other k ws w (omega arith) in
    let rest = entries_from-react (suc k) i j ss ws w s (omega arith) n g in
    cc

-- the promise of a place
pub slice_get-entries_from : (k i j : ℕ) (ss : List (Option Slot)) (ws : List Waiting) (s : Option Slot) → j ≡ k + i → slice_get ss i ≡ Some s → slice_get (entries_from k ss ws) i ≡ Some (entry_for (waiting_on j ws) s)
slice_get-entries_from k i j [] ws s h g = cc
slice_get-entries_from k zero j (x ∷ ss) ws s h g = let e : j ≡ k = omega arith in rw e cc
slice_get-entries_from k (suc i) j (x ∷ ss) ws s h g = slice_get-entries_from (suc k) i j ss ws s (omega arith) g

pub slice_set-same : {A : Type 0} (xs : List A) (i : ℕ) (x : A) → slice_get xs i ≡ Some x → slice_set xs i x ≡ xs
slice_set-same {A} [] i x g = refl
slice_set-same {A} (y ∷ xs) zero x g = let is : y ≡ x = cc in rw is refl
slice_set-same {A} (y ∷ xs) (suc i) x g = ap (λ ys. y ∷ ys) (slice_set-same xs i x g)

-- how many wait, and who does, is no part of its promise
pub entries_from-waits : (ss : List (Option Slot)) (ws : List Waiting) (i : ℕ) (s t : Slot) → slice_get ss i ≡ Some (Some s) → ((rs : List Reaction) → entry_with rs t ≡ entry_with rs s) → entries_from 0 (slice_set ss i (Some t)) ws ≡ entries_from 0 ss ws
entries_from-waits ss ws i s t g e =
    rw (entries_from-set 0 i i ss (Some t) ws (omega arith), e (waiting_on i ws))
    (slice_set-same (entries_from 0 ss ws) i (Some (entry_with (waiting_on i ws) s)) (slice_get-entries_from 0 i i ss ws (Some s) (omega arith) g))

-- the order of the reactions that wait for different promises is no part of them
pub entries_from-alike : (k : ℕ) (ss : List (Option Slot)) (ws vs : List Waiting) → WaitAlike ws vs → entries_from k ss ws ≡ entries_from k ss vs
entries_from-alike k [] ws vs h = refl
entries_from-alike k (s ∷ ss) ws vs h = rw (h.each k, entries_from-alike (suc k) ss ws vs h) refl
