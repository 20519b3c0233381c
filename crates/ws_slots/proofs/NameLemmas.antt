-- How often a promise is named by the reactions that wait, counted by the promises for which they wait.
use Rattle.std.proofs.Common.{◌≡◌, ◌∙◌, ℕ, ◌+◌, ◌≤◌, suc, zero, Bool, true, false, ◌||◌, nat_lt, if◌then◌else◌, List, [], ◌∷◌, drop, length, map, Option, Some, None, refl, sym, ap, arith}
use Rattle.std.specs.Prelude.{◌==◌, filter, not, slice_get}
use Rattle.ws_value.specs.declared.ids.PromiseId.{PromiseId}
use Rattle.ws_steps.specs.Places.{reactions_in}
use Rattle.ws_steps.specs.Promises.{Table, is_pending}
use Rattle.ws_steps.specs.declared.calls.Event.{Event}
use Rattle.ws_steps.specs.declared.promises.Job.{Job}
use Rattle.ws_steps.specs.declared.promises.Reaction.{Reaction}
use Rattle.ws_alike.specs.Named.{in_all, in_job, in_jobs, in_table, in_entries, in_entry, in_reactions}
use Rattle.ws_alike.proofs.Lists.{all-append}
use Rattle.ws_alike.proofs.Tests.{either}
use Rattle.ws_slots.specs.View.{AllWait, all_waiting, entries_from, entry_for, first_of, first_reactions, firsts_from, in_waiting, table_of, waiting_elsewhere, waiting_first, waiting_on}
use Rattle.ws_slots.specs.Words.{is_pending_slot}
use Rattle.ws_slots.specs.Slot.{Slot}
use Rattle.ws_slots.specs.declared.waiting.Waiting.{Waiting}
use Rattle.ws_slots.proofs.AllWaitLemmas.{reactions_in-all_wait, reactions_of-place, settled-nobody}
use Rattle.ws_slots.proofs.EntryLemmas.{entries_from-elsewhere}
use Rattle.ws_slots.proofs.WaitingLemmas.{length-waiting_both, waiting_on-elsewhere_other, waiting_on-nobody}

both-step : (p : PromiseId) (k : ℕ) (w : Waiting) (ws : List Waiting) (c : Bool) → in_all (in_waiting p) ws ≡ in_reactions p (waiting_on k ws) + in_all (in_waiting p) (waiting_elsewhere k ws)
    → in_all (in_waiting p) (w ∷ ws) ≡ in_reactions p (map (λ (w : Waiting). w.reaction) (if c then w ∷ filter (λ (w : Waiting). w.on.0 == k) ws else filter (λ (w : Waiting). w.on.0 == k) ws)) + in_all (in_waiting p) (if not c then w ∷ waiting_elsewhere k ws else waiting_elsewhere k ws)
both-step p k w ws true h = omega (arith, h)
both-step p k w ws false h = omega (arith, h)

-- by those that wait for promise k, and by the others
both : (p : PromiseId) (k : ℕ) (ws : List Waiting) → in_all (in_waiting p) ws ≡ in_reactions p (waiting_on k ws) + in_all (in_waiting p) (waiting_elsewhere k ws)
both p k [] = refl
both p k (w ∷ ws) = both-step p k w ws (w.on.0 == k) (both p k ws)

-- those that wait for none of these places
abbrev left : ℕ → List (Option Slot) → List Waiting → List Waiting
left k [] ws = ws
left k (s ∷ ss) ws = left (suc k) ss (waiting_elsewhere k ws)

here : (p : PromiseId) (rs : List Reaction) (s : Option Slot) → (is_pending_slot (Some s) ≡ false → rs ≡ []) → in_entry p (entry_for rs s) ≡ in_reactions p rs
here p rs None h = sym (ap (in_reactions p) (h refl))
here p rs (Some s) h = by (is_pending s.outcome) refl
  where
    by : (c : Bool) → is_pending s.outcome ≡ c → (if c then in_reactions p rs else 0) ≡ in_reactions p rs
    by true e = refl
    by false e = sym (ap (in_reactions p) (h e))

weights : (p : PromiseId) (k : ℕ) (ss : List (Option Slot)) (ws : List Waiting) → ((i j : ℕ) (s : Option Slot) → j ≡ k + i → slice_get ss i ≡ Some s → is_pending_slot (Some s) ≡ false → waiting_on j ws ≡ [])
    → in_entries p (entries_from k ss ws) + in_all (in_waiting p) (left k ss ws) ≡ in_all (in_waiting p) ws
weights p k [] ws h = omega arith
weights p k (s ∷ ss) ws h =
    let first = here p (waiting_on k ws) s (λ e. h 0 k s (omega arith) refl e) in
    let rest = weights p (suc k) ss (waiting_elsewhere k ws) (λ i j r m g e. waiting_on-elsewhere_other j k ws (λ q. absurd (omega (arith, q, m))) ∙ h (suc i) j r (omega (arith, m)) g e) in
    let same = ap (in_entries p) (entries_from-elsewhere (suc k) k ss ws (omega arith)) in
    let split = both p k ws in
    omega (arith, first, rest, same, split)

left-bound : (k : ℕ) (ss : List (Option Slot)) (ws : List Waiting) → reactions_in (entries_from k ss ws) + length (left k ss ws) ≤ length ws
left-bound k [] ws = omega arith
left-bound k (s ∷ ss) ws =
    let rest = left-bound (suc k) ss (waiting_elsewhere k ws) in
    let same = ap reactions_in (entries_from-elsewhere (suc k) k ss ws (omega arith)) in
    omega (arith, rest, same, reactions_of-place (waiting_on k ws) s, length-waiting_both k ws)

none-left : (p : PromiseId) (ws : List Waiting) → length ws ≤ 0 → in_all (in_waiting p) ws ≡ 0
none-left p [] h = refl
none-left p (w ∷ ws) h = absurd (omega (arith, h))

-- nobody waits where there is no promise
empty-bound : (k i j : ℕ) (ss : List (Option Slot)) (ws : List Waiting) → j ≡ k + i → slice_get ss i ≡ Some None → reactions_in (entries_from k ss ws) + length (waiting_on j ws) ≤ length ws
empty-bound k i j [] ws m g = cc
empty-bound k zero j (s ∷ ss) ws m g =
    let is : s ≡ None = cc in
    let at : j ≡ k = omega (arith, m) in
    let rest = left-bound (suc k) ss (waiting_elsewhere k ws) in
    let same = ap reactions_in (entries_from-elsewhere (suc k) k ss ws (omega arith)) in
    rw (is, at) (omega (arith, rest, same, length-waiting_both k ws))
empty-bound k (suc i) j (s ∷ ss) ws m g =
    let rest = empty-bound (suc k) i j ss (waiting_elsewhere k ws) (omega (arith, m)) g in
    let same = ap reactions_in (entries_from-elsewhere (suc k) k ss ws (omega arith)) in
    let there = ap length (waiting_on-elsewhere_other j k ws (λ q. absurd (omega (arith, q, m)))) in
    omega (arith, rest, same, there, reactions_of-place (waiting_on k ws) s, length-waiting_both k ws)

unplaced-nobody : (ss : List (Option Slot)) (ws : List Waiting) (i : ℕ) (s : Option Slot) → AllWait ss ws → slice_get ss i ≡ Some s → is_pending_slot (Some s) ≡ false → waiting_on i ws ≡ []
unplaced-nobody ss ws i None h g e =
    let bound = empty-bound 0 i i ss ws (omega arith) g in
    waiting_on-nobody i ws (omega (arith, bound, reactions_in-all_wait ss ws h))
unplaced-nobody ss ws i (Some s) h g e = settled-nobody ss ws i s g e h

pub entries-name : (p : PromiseId) (ss : List (Option Slot)) (ws : List Waiting) → AllWait ss ws → in_entries p (entries_from 0 ss ws) ≡ in_all (in_waiting p) ws
entries-name p ss ws h =
    let all = weights p 0 ss ws (λ i j s m g e. let is : j ≡ i = omega (arith, m) in rw is (unplaced-nobody ss ws i s h g e)) in
    let none = none-left p (left 0 ss ws) (let b = left-bound 0 ss ws in omega (arith, b, reactions_in-all_wait ss ws h)) in
    omega (arith, all, none)

-- by those that stand at the places

first-weight : (p : PromiseId) (k : ℕ) (r : Option Reaction) → in_all (in_waiting p) (waiting_first k r) ≡ in_reactions p (first_reactions r)
first-weight p k None = refl
first-weight p k (Some r) = refl

of-weight : (p : PromiseId) (k : ℕ) (s : Option Slot) → ((t : Slot) → s ≡ Some t → in_reactions p (first_reactions t.first) ≡ 0) → in_all (in_waiting p) (first_of k s) ≡ 0
of-weight p k None h = refl
of-weight p k (Some s) h = first-weight p k s.first ∙ h s refl

pub firsts-none : (p : PromiseId) (k : ℕ) (ss : List (Option Slot)) → ((i : ℕ) (s : Slot) → slice_get ss i ≡ Some (Some s) → in_reactions p (first_reactions s.first) ≡ 0) → in_all (in_waiting p) (firsts_from k ss) ≡ 0
firsts-none p k [] h = refl
firsts-none p k (s ∷ ss) h =
    let first = of-weight p k s (λ t e. h 0 t (ap (λ x. Some x) e)) in
    let rest = firsts-none p (suc k) ss (λ i t g. h (suc i) t g) in
    let app = all-append (in_waiting p) (first_of k s) (firsts_from (suc k) ss) in
    omega (arith, first, rest, app)

pub firsts-some : (p : PromiseId) (k i : ℕ) (ss : List (Option Slot)) (s : Slot) → slice_get ss i ≡ Some (Some s) → in_reactions p (first_reactions s.first) ≤ in_all (in_waiting p) (firsts_from k ss)
firsts-some p k i [] s g = cc
firsts-some p k zero (x ∷ ss) s g =
    let is : x ≡ Some s = cc in
    let app = all-append (in_waiting p) (first_of k x) (firsts_from (suc k) ss) in
    let first : in_all (in_waiting p) (first_of k x) ≡ in_reactions p (first_reactions s.first) = ap (λ y. in_all (in_waiting p) (first_of k y)) is ∙ first-weight p k s.first in
    omega (arith, app, first)
firsts-some p k (suc i) (x ∷ ss) s g =
    let rest = firsts-some p (suc k) i ss s g in
    let app = all-append (in_waiting p) (first_of k x) (firsts_from (suc k) ss) in
    omega (arith, app, rest)

-- all that names a promise
pub table-names : (p : PromiseId) (n : ℕ) (ss : List (Option Slot)) (ws : List Waiting) → AllWait ss (all_waiting ss ws)
    → nat_lt 0 (n + in_entries p (entries_from 0 ss (all_waiting ss ws))) ≡ (nat_lt 0 n || (nat_lt 0 (in_all (in_waiting p) (firsts_from 0 ss)) || nat_lt 0 (in_all (in_waiting p) ws)))
table-names p n ss ws h =
    let e = entries-name p ss (all_waiting ss ws) h in
    let app = all-append (in_waiting p) (firsts_from 0 ss) ws in
    either n (in_entries p (entries_from 0 ss (all_waiting ss ws)))
    ∙ ap (λ b. nat_lt 0 n || b) (ap (λ m. nat_lt 0 m) (e ∙ app) ∙ either (in_all (in_waiting p) (firsts_from 0 ss)) (in_all (in_waiting p) ws))

pub names-shown : (p : PromiseId) (ss : List (Option Slot)) (ws : List Waiting) (js : List Job) (n : ℕ) (ps : List Event) (b : Bool) (t : Table) → table_of ss (all_waiting ss ws) js n ps b ≡ t → AllWait ss (all_waiting ss ws)
    → (x y z : Bool) → x ≡ nat_lt 0 (in_jobs p js) → y ≡ nat_lt 0 (in_all (in_waiting p) (firsts_from 0 ss)) → z ≡ nat_lt 0 (in_all (in_waiting p) ws) → (x || (y || z)) ≡ nat_lt 0 (in_table p t)
names-shown p ss ws js n ps b t is wait x y z f g h =
    rw (← is, f, g, h) (sym (table-names p (in_jobs p js) ss ws wait))

-- looking at one job after another

jobs-next : (p : PromiseId) (i : ℕ) (js : List Job) (job : Job) → slice_get js i ≡ Some job → nat_lt 0 (in_jobs p (drop i js)) ≡ (nat_lt 0 (in_job p job) || nat_lt 0 (in_jobs p (drop (suc i) js)))
jobs-next p i [] job g = cc
jobs-next p zero (j ∷ js) job g =
    let is : j ≡ job = cc in
    either (in_job p j) (in_jobs p js) ∙ ap (λ (x : Job). nat_lt 0 (in_job p x) || nat_lt 0 (in_jobs p js)) is
jobs-next p (suc i) (j ∷ js) job g = jobs-next p i js job g

pub jobs-drop : (p : PromiseId) (i : ℕ) (js : List Job) (job : Job) → slice_get js i ≡ Some job → nat_lt 0 (in_jobs p (drop i js)) ≡ (nat_lt 0 (in_job p job) || nat_lt 0 (in_jobs p (drop (i + 1) js)))
jobs-drop p i js job g =
    let one : suc i ≡ i + 1 = omega arith in
    jobs-next p i js job g ∙ ap (λ n. nat_lt 0 (in_job p job) || nat_lt 0 (in_jobs p (drop n js))) one

drop-nil : (i : ℕ) → drop {A = Job} i [] ≡ []
drop-nil zero = refl
drop-nil (suc i) = refl

pub jobs-past : (p : PromiseId) (i : ℕ) (js : List Job) → slice_get js i ≡ None → nat_lt 0 (in_jobs p (drop i js)) ≡ false
jobs-past p i [] g = ap (λ xs. nat_lt 0 (in_jobs p xs)) (drop-nil i)
jobs-past p zero (j ∷ js) g = cc
jobs-past p (suc i) (j ∷ js) g = jobs-past p i js g
