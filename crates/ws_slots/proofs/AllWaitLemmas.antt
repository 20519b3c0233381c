-- How many reactions wait, counted by the promises: as many as there are, since each waits for a promise that is pending.
use Rattle.std.proofs.Common.{◌≡◌, ℕ, ◌+◌, ◌≤◌, suc, zero, true, false, List, [], ◌∷◌, ◌++◌, length, Bool, if◌then◌else◌, Option, Some, None, refl, ap, arith}
use Rattle.std.specs.Prelude.{slice_get, slice_set}
use Rattle.std.proofs.lemmas.List.Sums.{sum_by-cons, sum_by-append}
use Rattle.std.proofs.Math.ListN.{length-append}
use Rattle.std.proofs.lemmas.Option.{slice_get_within}
use Rattle.ws_steps.specs.declared.promises.Reaction.{Reaction}
use Rattle.ws_steps.specs.Places as places
use Rattle.ws_steps.specs.Places.{reactions_of, reactions_in}
use Rattle.ws_steps.specs.Promises.{Entry, is_pending}
use Rattle.ws_slots.specs.Counts.{unnoted_in}
use Rattle.ws_slots.specs.View.{AllWait, WaitAlike, entries_from, entry_for, entry_with, waiting_of, waiting_in, waiting_on, waiting_elsewhere}
use Rattle.ws_slots.specs.Slot.{Slot}
use Rattle.ws_slots.specs.declared.waiting.Waiting.{Waiting}
use Rattle.ws_slots.proofs.CountLemmas.{sum_by-slice_set, unnoted_in-cons}
use Rattle.ws_slots.proofs.CountedLemmas.{Counted-push, Counted-settle, Counted-react, Counted-set, Counted-alike}
use Rattle.ws_slots.proofs.EntryLemmas.{entries_from-alike, entries_from-push, entries_from-set, entries_from-settle, entries_from-react, entries_from-elsewhere, entries_from-waits, slice_get-entries_from}
use Rattle.ws_slots.proofs.WaitingLemmas.{waiting_on-elsewhere_other, waiting_on-nobody, length-waiting_both}

at_most : (b : Bool) (n : ℕ) → (if b then n else 0) ≤ n
at_most true n = omega arith
at_most false n = omega arith

waiting_of-bound : (e : Option Entry) → waiting_of e ≤ reactions_of e
waiting_of-bound None = omega arith
waiting_of-bound (Some e) = at_most (is_pending e.outcome) (length e.reactions)

waiting_in-bound : (es : List (Option Entry)) → waiting_in es ≤ reactions_in es
waiting_in-bound [] = omega arith
waiting_in-bound (e ∷ es) = omega (arith, sum_by-cons waiting_of e es, waiting_of-bound e, waiting_in-bound es)

pub reactions_of-place : (rs : List Reaction) (s : Option Slot) → reactions_of (entry_for rs s) ≤ length rs
reactions_of-place rs None = omega arith
reactions_of-place rs (Some s) = omega arith

-- the promises of these places have reactions that wait, and so has another past them
reactions_in-bound : (k j : ℕ) (ss : List (Option Slot)) (ws : List Waiting) → k + length ss ≤ j → reactions_in (entries_from k ss ws) + length (waiting_on j ws) ≤ length ws
reactions_in-bound k j [] ws h = omega (arith, length-waiting_both j ws)
reactions_in-bound k j (s ∷ ss) ws h =
    let rest = reactions_in-bound (suc k) j ss (waiting_elsewhere k ws) (omega arith) in
    let past = ap length (waiting_on-elsewhere_other j k ws (omega arith)) in
    let same = ap reactions_in (entries_from-elsewhere (suc k) k ss ws (omega arith)) in
    omega (arith, reactions_of-place (waiting_on k ws) s, length-waiting_both k ws)

pub reactions_in-le : (ss : List (Option Slot)) (ws : List Waiting) → reactions_in (entries_from 0 ss ws) ≤ length ws
reactions_in-le ss ws = omega (arith, reactions_in-bound 0 (length ss) ss ws (omega arith))

pub reactions_in-all_wait : (ss : List (Option Slot)) (ws : List Waiting) → AllWait ss ws → reactions_in (entries_from 0 ss ws) ≡ length ws
reactions_in-all_wait ss ws h = omega (arith, h.pending, reactions_in-le ss ws, waiting_in-bound (entries_from 0 ss ws))

-- nobody waits for a promise that isn't there yet
pub waiting_on_none : (ss : List (Option Slot)) (ws : List Waiting) → AllWait ss ws → waiting_on (length ss) ws ≡ []
waiting_on_none ss ws h =
    waiting_on-nobody (length ss) ws (omega (arith, h.pending, reactions_in-bound 0 (length ss) ss ws (omega arith), waiting_in-bound (entries_from 0 ss ws)))

waiting_of-pending : (rs : List Reaction) (s : Slot) → is_pending s.outcome ≡ true → waiting_of (Some (entry_with rs s)) ≡ length rs
waiting_of-pending rs s h = rw h refl

waiting_of-none : (s : Slot) → waiting_of (Some (entry_with [] s)) ≡ 0
waiting_of-none s = omega (arith, at_most (is_pending s.outcome) 0)

reactions_in-set : (es : List (Option Entry)) (i : ℕ) (x y : Option Entry) → slice_get es i ≡ Some x → reactions_in (slice_set es i y) + reactions_of x ≡ reactions_in es + reactions_of y
reactions_in-set [] i x y g = cc
reactions_in-set (e ∷ es) zero x y g =
    let is : e ≡ x = cc in
    rw is (omega arith)
reactions_in-set (e ∷ es) (suc i) x y g = omega (arith, reactions_in-set es i x y g)

-- nobody waits for a promise that has settled
pub settled-nobody : (ss : List (Option Slot)) (ws : List Waiting) (i : ℕ) (s : Slot) → slice_get ss i ≡ Some (Some s) → is_pending s.outcome ≡ false → AllWait ss ws → waiting_on i ws ≡ []
settled-nobody ss ws i s g o h =
    let es = entries_from 0 ss ws in
    let e = entry_with (waiting_on i ws) s in
    let there = slice_get-entries_from 0 i i ss ws (Some s) (omega arith) g in
    let none : waiting_of (Some e) ≡ 0 = rw o refl in
    let waiting = sum_by-slice_set waiting_of es i (Some e) None there in
    let reactions = reactions_in-set es i (Some e) None there in
    let was = h.pending in
    waiting_on-nobody i ws (omega (arith, was, none, waiting, reactions, reactions_in-le ss ws, waiting_in-bound (slice_set es i None)))

-- a new promise. In this lemma and in each below, that all wait for pending promises comes first
push-pending : (ss : List (Option Slot)) (ws : List Waiting) (s : Slot) → AllWait ss ws → length ws ≡ waiting_in (entries_from 0 (ss ++ Some s ∷ []) ws)
push-pending ss ws s h =
    let was = h.pending in
    rw (entries_from-push 0 (length ss) ss (Some s) ws (omega arith), waiting_on_none ss ws h)
    (omega (arith, sum_by-append waiting_of (entries_from 0 ss ws) (Some (entry_with [] s) ∷ []), sum_by-cons waiting_of (Some (entry_with [] s)) [], waiting_of-none s))

pub AllWait-push : (ss : List (Option Slot)) (ws : List Waiting) (s : Slot) → s.waits ≡ 0 → AllWait ss ws → AllWait (ss ++ Some s ∷ []) ws
AllWait-push ss ws s z h = record {
  pending = push-pending ss ws s h;
  counted = Counted-push ss ws s (waiting_on_none ss ws h) z h.counted;
}

-- a pending promise settles: its place is written, and nobody waits for it any more
settle-pending : (ss : List (Option Slot)) (ws : List Waiting) (i : ℕ) (s t : Slot) → slice_get ss i ≡ Some (Some s) → is_pending s.outcome ≡ true → AllWait ss ws → length (waiting_elsewhere i ws) ≡ waiting_in (entries_from 0 (slice_set ss i (Some t)) (waiting_elsewhere i ws))
settle-pending ss ws i s t g o h =
    let was = h.pending in
    let sum = sum_by-slice_set waiting_of (entries_from 0 ss ws) i (Some (entry_with (waiting_on i ws) s)) (Some (entry_with [] t)) (slice_get-entries_from 0 i i ss ws (Some s) (omega arith) g) in
    rw (entries_from-settle 0 i i ss t ws (omega arith))
    (omega (arith, sum, waiting_of-pending (waiting_on i ws) s o, waiting_of-none t, length-waiting_both i ws))

pub AllWait-settle : (ss : List (Option Slot)) (ws : List Waiting) (i : ℕ) (s t : Slot) → slice_get ss i ≡ Some (Some s) → is_pending s.outcome ≡ true → t.waits ≡ 0 → AllWait ss ws → AllWait (slice_set ss i (Some t)) (waiting_elsewhere i ws)
AllWait-settle ss ws i s t g o z h = record {
  pending = settle-pending ss ws i s t g o h;
  counted = Counted-settle ss ws i t (slice_get_within ss i (Some s) g) z h.counted;
}

-- one more reaction waits for a pending promise, and is counted
react-pending : (ss : List (Option Slot)) (ws : List Waiting) (w : Waiting) (s : Slot) → slice_get ss w.on.0 ≡ Some (Some s) → is_pending s.outcome ≡ true → AllWait ss ws → length (ws ++ w ∷ []) ≡ waiting_in (entries_from 0 ss (ws ++ w ∷ []))
react-pending ss ws w s g o h =
    let was = h.pending in
    let i = w.on.0 in
    let more = waiting_on i ws ++ w.reaction ∷ [] in
    let sum = sum_by-slice_set waiting_of (entries_from 0 ss ws) i (Some (entry_with (waiting_on i ws) s)) (Some (entry_with more s)) (slice_get-entries_from 0 i i ss ws (Some s) (omega arith) g) in
    rw (entries_from-react 0 i i ss ws w s (omega arith) refl g)
    (omega (arith, sum, waiting_of-pending (waiting_on i ws) s o, waiting_of-pending more s o, length-append (waiting_on i ws) (w.reaction ∷ []), length-append ws (w ∷ [])))

pub AllWait-react : (ss : List (Option Slot)) (ws : List Waiting) (w : Waiting) (s t : Slot) → slice_get ss w.on.0 ≡ Some (Some s) → is_pending s.outcome ≡ true → t.waits ≡ s.waits + 1 → ((rs : List Reaction) → entry_with rs t ≡ entry_with rs s) → AllWait ss ws → AllWait (slice_set ss w.on.0 (Some t)) (ws ++ w ∷ [])
AllWait-react ss ws w s t g o more e h = record {
  pending = rw (entries_from-waits ss (ws ++ w ∷ []) w.on.0 s t g e) (react-pending ss ws w s g o h);
  counted = Counted-react ss ws w s t g more h.counted;
}

-- another change of a place, by which nobody waits for a settled promise
pub set-pending : (ss : List (Option Slot)) (ws : List Waiting) (i : ℕ) (x y : Option Slot) → slice_get ss i ≡ Some x → waiting_of (entry_for (waiting_on i ws) y) ≡ waiting_of (entry_for (waiting_on i ws) x) → AllWait ss ws → length ws ≡ waiting_in (entries_from 0 (slice_set ss i y) ws)
set-pending ss ws i x y g e h =
    let was = h.pending in
    let sum = sum_by-slice_set waiting_of (entries_from 0 ss ws) i (entry_for (waiting_on i ws) x) (entry_for (waiting_on i ws) y) (slice_get-entries_from 0 i i ss ws x (omega arith) g) in
    rw (entries_from-set 0 i i ss y ws (omega arith)) (omega (arith, sum))

pub AllWait-set : (ss : List (Option Slot)) (ws : List Waiting) (i : ℕ) (s t : Slot) → slice_get ss i ≡ Some (Some s) → t.outcome ≡ s.outcome → t.waits ≡ s.waits → AllWait ss ws → AllWait (slice_set ss i (Some t)) ws
AllWait-set ss ws i s t g o e h = record {
  pending = set-pending ss ws i (Some s) (Some t) g (rw o refl) h;
  counted = Counted-set ss ws i s t g e h.counted;
}

pub AllWait-alike : (ss : List (Option Slot)) (ws vs : List Waiting) → WaitAlike ws vs → AllWait ss vs → AllWait ss ws
AllWait-alike ss ws vs a h = record {
  pending = rw (a.count, entries_from-alike 0 ss ws vs a) h.pending;
  counted = Counted-alike ss ws vs a h.counted;
}

-- the watched promises that are pending, counted by the places
pub unnoted_in-entries : (k : ℕ) (ss : List (Option Slot)) (ws : List Waiting) → places.unnoted_in (entries_from k ss ws) ≡ unnoted_in ss
unnoted_in-entries k [] ws = refl
unnoted_in-entries k (None ∷ ss) ws = omega (arith, unnoted_in-cons None ss, unnoted_in-entries (suc k) ss ws)
unnoted_in-entries k (Some s ∷ ss) ws = omega (arith, unnoted_in-cons (Some s) ss, unnoted_in-entries (suc k) ss ws)
