-- Who waits, where the first reaction that waits for a promise stands at its place and the others stand in a list.
use Rattle.std.proofs.Common.{◌≡◌, ◌≢◌, ◌∙◌, ⊎_elim, ℕ, ◌+◌, ◌<◌, ◌≤◌, suc, zero, List, [], ◌∷◌, ◌++◌, append_assoc, length, map, Option, Some, None, refl, ap, sym, arith}
use Rattle.std.specs.Prelude.{slice_get, slice_set}
use Rattle.std.proofs.Math.ListN.{length-append}
use Rattle.std.proofs.lemmas.Bool.Decides.{eqb_tells, nat_tests}
use Rattle.std.proofs.lemmas.Option.{slice_get_within}
use Rattle.ws_steps.proofs.PromiseLaws.{slice_get-set_same, slice_get-set_other}
use Rattle.ws_steps.specs.declared.promises.Reaction.{Reaction}
use Rattle.ws_slots.specs.Slot.{Slot}
use Rattle.ws_slots.specs.declared.waiting.Waiting.{Waiting}
use Rattle.ws_slots.specs.View.{WaitAlike, all_waiting, first_of, first_reactions, firsts_from, waiting_first, waiting_on, waiting_elsewhere}
use Rattle.ws_slots.proofs.WaitingLemmas.{length-waiting_both, waiting_on-elsewhere_other, waiting_on-elsewhere_same, waiting_on-push_other, waiting_on-push_same}

abbrev first_in : Option (Option Slot) → List Reaction
first_in None = []
first_in (Some None) = []
first_in (Some (Some s)) = first_reactions s.first

waiting_on-append : (k : ℕ) (xs ys : List Waiting) → waiting_on k (xs ++ ys) ≡ waiting_on k xs ++ waiting_on k ys
waiting_on-append k [] ys = refl
waiting_on-append k (x ∷ xs) ys = grind (arith, nat_tests, waiting_on-append k xs ys)

waiting_first-same : (k : ℕ) (r : Option Reaction) → waiting_on k (waiting_first k r) ≡ first_reactions r
waiting_first-same k None = refl
waiting_first-same k (Some r) = grind (arith, nat_tests)

waiting_first-other : (j k : ℕ) (r : Option Reaction) → k ≢ j → waiting_on j (waiting_first k r) ≡ []
waiting_first-other j k None n = refl
waiting_first-other j k (Some r) n = grind (arith, nat_tests)

first_of-same : (k : ℕ) (s : Option Slot) → waiting_on k (first_of k s) ≡ first_in (Some s)
first_of-same k None = refl
first_of-same k (Some s) = waiting_first-same k s.first

first_of-other : (j k : ℕ) (s : Option Slot) → k ≢ j → waiting_on j (first_of k s) ≡ []
first_of-other j k None n = refl
first_of-other j k (Some s) n = waiting_first-other j k s.first n

firsts-below : (j k : ℕ) (ss : List (Option Slot)) → j < k → waiting_on j (firsts_from k ss) ≡ []
firsts-below j k [] h = refl
firsts-below j k (s ∷ ss) h =
    waiting_on-append j (first_of k s) (firsts_from (suc k) ss)
    ∙ (ap (λ rs. rs ++ waiting_on j (firsts_from (suc k) ss)) (first_of-other j k s (omega arith)) ∙ firsts-below j (suc k) ss (omega arith))

append-none : {A : Type 0} (xs : List A) → xs ++ [] ≡ xs
append-none {A} [] = refl
append-none {A} (x ∷ xs) = ap (λ ys. x ∷ ys) (append-none xs)

firsts-at : (k i j : ℕ) (ss : List (Option Slot)) → j ≡ k + i → waiting_on j (firsts_from k ss) ≡ first_in (slice_get ss i)
firsts-at k i j [] h = refl
firsts-at k zero j (s ∷ ss) h =
    let e : j ≡ k = omega arith in
    rw (e, waiting_on-append k (first_of k s) (firsts_from (suc k) ss), firsts-below k (suc k) ss (omega arith), append-none (waiting_on k (first_of k s))) (first_of-same k s)
firsts-at k (suc i) j (s ∷ ss) h =
    waiting_on-append j (first_of k s) (firsts_from (suc k) ss)
    ∙ (ap (λ rs. rs ++ waiting_on j (firsts_from (suc k) ss)) (first_of-other j k s (omega arith)) ∙ firsts-at (suc k) i j ss (omega arith))

-- who waits for a promise: the one at its place, and then those in the list
all-at : (k : ℕ) (ss : List (Option Slot)) (ws : List Waiting) → waiting_on k (all_waiting ss ws) ≡ first_in (slice_get ss k) ++ waiting_on k ws
all-at k ss ws = waiting_on-append k (firsts_from 0 ss) ws ∙ ap (λ rs. rs ++ waiting_on k ws) (firsts-at 0 k k ss (omega arith))

pub all-here : (k : ℕ) (ss : List (Option Slot)) (ws : List Waiting) (s : Slot) → slice_get ss k ≡ Some (Some s) → waiting_on k (all_waiting ss ws) ≡ first_reactions s.first ++ waiting_on k ws
all-here k ss ws s g = all-at k ss ws ∙ ap (λ x. first_in x ++ waiting_on k ws) g

-- a place is written, and its first reaction stays
first_of-kept : (k : ℕ) (s t : Slot) → t.first ≡ s.first → first_of k (Some t) ≡ first_of k (Some s)
first_of-kept k s t e = ap (waiting_first k) e

pub firsts-kept : (k i : ℕ) (ss : List (Option Slot)) (s t : Slot) → slice_get ss i ≡ Some (Some s) → t.first ≡ s.first → firsts_from k (slice_set ss i (Some t)) ≡ firsts_from k ss
firsts-kept k i [] s t g e = refl
firsts-kept k zero (x ∷ ss) s t g e =
    let is : x ≡ Some s = cc in
    rw is (ap (λ ws. ws ++ firsts_from (suc k) ss) (first_of-kept k s t e))
firsts-kept k (suc i) (x ∷ ss) s t g e = ap (λ ws. first_of k x ++ ws) (firsts-kept (suc k) i ss s t g e)

pub all-kept : (ss : List (Option Slot)) (ws : List Waiting) (i : ℕ) (s t : Slot) → slice_get ss i ≡ Some (Some s) → t.first ≡ s.first → all_waiting (slice_set ss i (Some t)) ws ≡ all_waiting ss ws
all-kept ss ws i s t g e = ap (λ xs. xs ++ ws) (firsts-kept 0 i ss s t g e)

-- a place is emptied at which there is no reaction
firsts-emptied : (k i : ℕ) (ss : List (Option Slot)) (s : Slot) → slice_get ss i ≡ Some (Some s) → s.first ≡ None → firsts_from k (slice_set ss i None) ≡ firsts_from k ss
firsts-emptied k i [] s g e = refl
firsts-emptied k zero (x ∷ ss) s g e =
    let is : x ≡ Some s = cc in
    rw is (ap (λ r. waiting_first k r ++ firsts_from (suc k) ss) (sym e))
firsts-emptied k (suc i) (x ∷ ss) s g e = ap (λ ws. first_of k x ++ ws) (firsts-emptied (suc k) i ss s g e)

pub all-emptied : (ss : List (Option Slot)) (ws : List Waiting) (i : ℕ) (s : Slot) → slice_get ss i ≡ Some (Some s) → s.first ≡ None → all_waiting (slice_set ss i None) ws ≡ all_waiting ss ws
all-emptied ss ws i s g e = ap (λ xs. xs ++ ws) (firsts-emptied 0 i ss s g e)

-- one more place, at which there is no reaction
firsts-push : (k : ℕ) (ss : List (Option Slot)) (s : Slot) → s.first ≡ None → firsts_from k (ss ++ Some s ∷ []) ≡ firsts_from k ss
firsts-push k [] s e = ap (λ r. waiting_first k r ++ []) e
firsts-push k (x ∷ ss) s e = ap (λ ws. first_of k x ++ ws) (firsts-push (suc k) ss s e)

pub all-push : (ss : List (Option Slot)) (ws : List Waiting) (s : Slot) → s.first ≡ None → all_waiting (ss ++ Some s ∷ []) ws ≡ all_waiting ss ws
all-push ss ws s e = ap (λ xs. xs ++ ws) (firsts-push 0 ss s e)

-- how many there are
length-first : (k : ℕ) (r : Option Reaction) → length (waiting_first k r) ≡ length (first_reactions r)
length-first k None = refl
length-first k (Some r) = refl

length-first_of : (k : ℕ) (s : Slot) → length (first_of k (Some s)) ≡ length (first_reactions s.first)
length-first_of k s = length-first k s.first

pub length-firsts : (k i : ℕ) (ss : List (Option Slot)) (s t : Slot) → slice_get ss i ≡ Some (Some s) → length (firsts_from k (slice_set ss i (Some t))) + length (first_reactions s.first) ≡ length (firsts_from k ss) + length (first_reactions t.first)
length-firsts k i [] s t g = cc
length-firsts k zero (x ∷ ss) s t g =
    let is : x ≡ Some s = cc in
    rw is (omega (arith, length-append (first_of k (Some t)) (firsts_from (suc k) ss), length-append (first_of k (Some s)) (firsts_from (suc k) ss), length-first_of k s, length-first_of k t))
length-firsts k (suc i) (x ∷ ss) s t g =
    omega (arith, length-append (first_of k x) (firsts_from (suc k) (slice_set ss i (Some t))), length-append (first_of k x) (firsts_from (suc k) ss), length-firsts (suc k) i ss s t g)

pub length-all : (ss : List (Option Slot)) (ws : List Waiting) → length (all_waiting ss ws) ≡ length (firsts_from 0 ss) + length ws
length-all ss ws = length-append (firsts_from 0 ss) ws

-- a promise settles: nobody waits for it any more
settle-each : (ss : List (Option Slot)) (ws vs : List Waiting) (i k : ℕ) (s t : Slot) → slice_get ss i ≡ Some (Some s) → t.first ≡ None → WaitAlike vs (waiting_elsewhere i ws)
    → waiting_on k (all_waiting (slice_set ss i (Some t)) vs) ≡ waiting_on k (waiting_elsewhere i (all_waiting ss ws))
settle-each ss ws vs i k s t g e a =
    let qs = slice_set ss i (Some t) in
    let put = slice_get-set_same ss i (Some t) (slice_get_within ss i (Some s) g) in
    all-at k qs vs ∙ ⊎_elim
    (λ same. rw (same.1, put, e, a.each i, waiting_on-elsewhere_same i ws, waiting_on-elsewhere_same i (all_waiting ss ws)) refl)
    (λ other. rw (slice_get-set_other ss i k (Some t) (λ q. other.1 (sym q)), a.each k, waiting_on-elsewhere_other k i ws other.1, waiting_on-elsewhere_other k i (all_waiting ss ws) other.1) (sym (all-at k ss ws)))
    (eqb_tells k i)

pub all-settle : (ss : List (Option Slot)) (ws vs : List Waiting) (i : ℕ) (s t : Slot) → slice_get ss i ≡ Some (Some s) → t.first ≡ None → WaitAlike vs (waiting_elsewhere i ws) → WaitAlike (all_waiting (slice_set ss i (Some t)) vs) (waiting_elsewhere i (all_waiting ss ws))
all-settle ss ws vs i s t g e a = record {
  each = λ k. settle-each ss ws vs i k s t g e a;
  count =
      let none : length (first_reactions t.first) ≡ 0 = ap (λ r. length (first_reactions r)) e in
      omega (arith, a.count, length-all (slice_set ss i (Some t)) vs, length-all ss ws, length-firsts 0 i ss s t g, length-waiting_both i ws, length-waiting_both i (all_waiting ss ws), ap length (all-here i ss ws s g), length-append (first_reactions s.first) (waiting_on i ws));
}

none-after : {A : Type 0} (xs ys : List A) → xs ++ ys ≡ [] → ys ≡ []
none-after {A} [] ys h = h
none-after {A} (x ∷ xs) ys h = cc

-- the first reaction that waits for a promise is put at its place
first-each : (ss : List (Option Slot)) (ws : List Waiting) (w : Waiting) (k : ℕ) (s t : Slot) → slice_get ss w.on.0 ≡ Some (Some s) → waiting_on w.on.0 (all_waiting ss ws) ≡ [] → t.first ≡ Some w.reaction
    → waiting_on k (all_waiting (slice_set ss w.on.0 (Some t)) ws) ≡ waiting_on k (all_waiting ss ws ++ w ∷ [])
first-each ss ws w k s t g none e =
    let i = w.on.0 in
    let put = slice_get-set_same ss i (Some t) (slice_get_within ss i (Some s) g) in
    let others : waiting_on i ws ≡ [] = none-after (first_reactions s.first) (waiting_on i ws) (sym (all-here i ss ws s g) ∙ none) in
    all-at k (slice_set ss i (Some t)) ws ∙ ⊎_elim
    (λ same. rw (same.1, put, e, others, waiting_on-push_same i (all_waiting ss ws) w refl, none) refl)
    (λ other. rw (slice_get-set_other ss i k (Some t) (λ q. other.1 (sym q)), waiting_on-push_other k (all_waiting ss ws) w (λ q. other.1 (sym q))) (sym (all-at k ss ws)))
    (eqb_tells k i)

pub all-first : (ss : List (Option Slot)) (ws : List Waiting) (w : Waiting) (s t : Slot) → slice_get ss w.on.0 ≡ Some (Some s) → waiting_on w.on.0 (all_waiting ss ws) ≡ [] → t.first ≡ Some w.reaction → WaitAlike (all_waiting (slice_set ss w.on.0 (Some t)) ws) (all_waiting ss ws ++ w ∷ [])
all-first ss ws w s t g none e = record {
  each = λ k. first-each ss ws w k s t g none e;
  count =
      let one : length (first_reactions t.first) ≡ 1 = ap (λ r. length (first_reactions r)) e in
      omega (arith, length-all (slice_set ss w.on.0 (Some t)) ws, length-all ss ws, length-firsts 0 w.on.0 ss s t g, length-append (all_waiting ss ws) (w ∷ []), ap length (all-here w.on.0 ss ws s g), ap length none, length-append (first_reactions s.first) (waiting_on w.on.0 ws));
}

-- another is put in the list
pub all-more : (ss : List (Option Slot)) (ws : List Waiting) (i : ℕ) (w : Waiting) (s t : Slot) → slice_get ss i ≡ Some (Some s) → t.first ≡ s.first → all_waiting (slice_set ss i (Some t)) (ws ++ w ∷ []) ≡ all_waiting ss ws ++ w ∷ []
all-more ss ws i w s t g e = all-kept ss (ws ++ w ∷ []) i s t g e ∙ sym (append_assoc (firsts_from 0 ss) ws (w ∷ []))

map-both : {A B : Type 0} (f : A → B) (xs ys : List A) → map f (xs ++ ys) ≡ map f xs ++ map f ys
map-both {A} {B} f [] ys = refl
map-both {A} {B} f (x ∷ xs) ys = ap (λ zs. f x ∷ zs) (map-both f xs ys)

-- the jobs of the one at the place, and then those of the others
pub jobs-both : {A B : Type 0} (f : A → B) (js : List B) (xs ys all : List A) → all ≡ xs ++ ys → (js ++ map f xs) ++ map f ys ≡ js ++ map f all
jobs-both {A} {B} f js xs ys all e = append_assoc js (map f xs) (map f ys) ∙ ap (λ zs. js ++ zs) (sym (ap (map f) e ∙ map-both f xs ys))

-- how many others wait for a promise than the one at its place
pub others-left : (ss : List (Option Slot)) (ws : List Waiting) (i others : ℕ) (s : Slot) → slice_get ss i ≡ Some (Some s) → length (waiting_on i (all_waiting ss ws)) ≡ s.waits → others + length (first_reactions s.first) ≡ s.waits → length (waiting_on i ws) ≡ others
others-left ss ws i others s g counted e =
    omega (arith, ap length (all-here i ss ws s g), length-append (first_reactions s.first) (waiting_on i ws))

pub first-counted : (ss : List (Option Slot)) (ws : List Waiting) (i : ℕ) (s : Slot) → slice_get ss i ≡ Some (Some s) → length (waiting_on i (all_waiting ss ws)) ≡ s.waits → length (first_reactions s.first) ≤ s.waits
first-counted ss ws i s g counted =
    omega (arith, ap length (all-here i ss ws s g), length-append (first_reactions s.first) (waiting_on i ws))

no_first : (r : Option Reaction) (rs : List Reaction) → first_reactions r ++ rs ≡ [] → r ≡ None
no_first None rs h = refl
no_first (Some r) rs h = cc

pub first-none : (ss : List (Option Slot)) (ws : List Waiting) (i : ℕ) (s : Slot) → slice_get ss i ≡ Some (Some s) → waiting_on i (all_waiting ss ws) ≡ [] → s.first ≡ None
first-none ss ws i s g none = no_first s.first (waiting_on i ws) (sym (all-here i ss ws s g) ∙ none)
