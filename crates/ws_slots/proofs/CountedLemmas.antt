-- How many reactions wait for a promise, as its place says.
use Rattle.std.proofs.Common.{◌≡◌, ◌≢◌, ◌⊎◌, inl, inr, ⊎_elim, ℕ, ◌+◌, ◌<◌, suc, zero, List, [], ◌∷◌, ◌++◌, length, Option, Some, None, refl, sym, ap}
use Rattle.std.specs.Prelude.{slice_get, slice_set}
use Rattle.std.proofs.lemmas.Bool.Decides.{eqb_tells}
use Rattle.std.proofs.lemmas.Option.{slice_get_within}
use Rattle.std.proofs.Math.ListN.{length-append}
use Rattle.ws_steps.proofs.PromiseLaws.{slice_get-set_same, slice_get-set_other}
use Rattle.ws_slots.specs.View.{Counted, WaitAlike, waiting_on, waiting_elsewhere}
use Rattle.ws_slots.specs.Slot.{Slot}
use Rattle.ws_slots.specs.declared.waiting.Waiting.{Waiting}
use Rattle.ws_slots.proofs.WaitingLemmas.{waiting_on-elsewhere_same, waiting_on-elsewhere_other, waiting_on-push_same, waiting_on-push_other}

-- a place is written which says how many wait for its promise, and as many as before wait for the others
here : (ss : List (Option Slot)) (vs : List Waiting) (i k : ℕ) (y : Option Slot) (s : Slot) → i < length ss → ((t : Slot) → y ≡ Some t → length (waiting_on i vs) ≡ t.waits) → slice_get (slice_set ss i y) k ≡ Some (Some s) → k ≡ i → length (waiting_on k vs) ≡ s.waits
here ss vs i k y s lt so g e =
    let g' : slice_get (slice_set ss i y) i ≡ Some (Some s) = rw e at g in
    let put = slice_get-set_same ss i y lt in
    let is : y ≡ Some s = cc in
    rw e (so s is)

there : (ss : List (Option Slot)) (ws vs : List Waiting) (i k : ℕ) (y : Option Slot) (s : Slot) → waiting_on k vs ≡ waiting_on k ws → Counted ss ws → slice_get (slice_set ss i y) k ≡ Some (Some s) → i ≢ k → length (waiting_on k vs) ≡ s.waits
there ss ws vs i k y s same h g e =
    let g' : slice_get ss k ≡ Some (Some s) = rw (slice_get-set_other ss i k y e) at g in
    rw same (h k s g')

pub Counted-write : (ss : List (Option Slot)) (ws vs : List Waiting) (i : ℕ) (y : Option Slot) → i < length ss → ((t : Slot) → y ≡ Some t → length (waiting_on i vs) ≡ t.waits) → ((k : ℕ) → k ≢ i → waiting_on k vs ≡ waiting_on k ws) → Counted ss ws → Counted (slice_set ss i y) vs
Counted-write ss ws vs i y lt so same h k s g =
    ⊎_elim (λ t. here ss vs i k y s lt so g t.1) (λ t. there ss ws vs i k y s (same k t.1) h g (λ e. t.1 (sym e))) (eqb_tells k i)

-- the reactions of a promise are taken out
pub Counted-settle : (ss : List (Option Slot)) (ws : List Waiting) (i : ℕ) (t : Slot) → i < length ss → t.waits ≡ 0 → Counted ss ws → Counted (slice_set ss i (Some t)) (waiting_elsewhere i ws)
Counted-settle ss ws i t lt z h =
    Counted-write ss ws (waiting_elsewhere i ws) i (Some t) lt
    (λ u e. rw (waiting_on-elsewhere_same i ws) (let is : t ≡ u = cc in rw (← is, z) refl))
    (λ k n. waiting_on-elsewhere_other k i ws n) h

-- one more reaction waits for a promise, as is counted
pub Counted-react : (ss : List (Option Slot)) (ws : List Waiting) (w : Waiting) (s t : Slot) → slice_get ss w.on.0 ≡ Some (Some s) → t.waits ≡ s.waits + 1 → Counted ss ws → Counted (slice_set ss w.on.0 (Some t)) (ws ++ w ∷ [])
Counted-react ss ws w s t g more h =
    let was = h w.on.0 s g in
    Counted-write ss ws (ws ++ w ∷ []) w.on.0 (Some t) (slice_get_within ss w.on.0 (Some s) g)
    (λ u e.
    let is : t ≡ u = cc in
    rw (waiting_on-push_same w.on.0 ws w refl, length-append (waiting_on w.on.0 ws) (w.reaction ∷ []), was, ← is, more) refl)
    (λ k n. waiting_on-push_other k ws w (λ e. n (sym e))) h

-- another change of a place
pub Counted-set : (ss : List (Option Slot)) (ws : List Waiting) (i : ℕ) (s t : Slot) → slice_get ss i ≡ Some (Some s) → t.waits ≡ s.waits → Counted ss ws → Counted (slice_set ss i (Some t)) ws
Counted-set ss ws i s t g e h =
    let was = h i s g in
    Counted-write ss ws ws i (Some t) (slice_get_within ss i (Some s) g)
    (λ u q. let is : t ≡ u = cc in rw (was, ← is, e) refl)
    (λ k n. refl) h

-- a place is emptied
pub Counted-empty : (ss : List (Option Slot)) (ws : List Waiting) (i : ℕ) → i < length ss → Counted ss ws → Counted (slice_set ss i None) ws
Counted-empty ss ws i lt h = Counted-write ss ws ws i None lt (λ u q. cc) (λ k n. refl) h

-- the place at an index, where there is one more
slice_get-push : {A : Type 0} (xs : List A) (x y : A) (k : ℕ) → slice_get (xs ++ x ∷ []) k ≡ Some y → (slice_get xs k ≡ Some y) ⊎ ((k ≡ length xs) × (x ≡ y))
slice_get-push {A} [] x y zero g = inr (refl, cc)
slice_get-push {A} [] x y (suc k) g = cc
slice_get-push {A} (z ∷ xs) x y zero g = inl g
slice_get-push {A} (z ∷ xs) x y (suc k) g = ⊎_elim (λ t. inl t) (λ t. inr (ap suc t.0, t.1)) (slice_get-push xs x y k g)

-- one more promise, for which nobody waits yet
pub Counted-push : (ss : List (Option Slot)) (ws : List Waiting) (t : Slot) → waiting_on (length ss) ws ≡ [] → t.waits ≡ 0 → Counted ss ws → Counted (ss ++ Some t ∷ []) ws
Counted-push ss ws t n z h k s g =
    ⊎_elim (λ e. h k s e) (λ e. let is : t ≡ s = cc in rw (e.0, n, ← is, z) refl) (slice_get-push ss (Some t) (Some s) k g)

pub Counted-alike : (ss : List (Option Slot)) (ws vs : List Waiting) → WaitAlike ws vs → Counted ss vs → Counted ss ws
Counted-alike ss ws vs a h k s g = rw (a.each k) (h k s g)
