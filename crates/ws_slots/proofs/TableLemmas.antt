-- What each operation makes of the promises for which the places stand.
use Rattle.std.proofs.Common.{◌≡◌, ◌∙◌, ℕ, ◌+◌, ◌≤◌, suc, zero, Bool, true, false, List, [], ◌∷◌, ◌++◌, drop, length, map, Option, Some, None, Result, refl, ap, arith}
use Rattle.std.specs.Prelude.{option_and_then, slice_get, slice_set}
use Rattle.std.specs.Option.{option_map}
use Rattle.std.proofs.lemmas.Option.{slice_get_past}
use Rattle.ws_value.specs.declared.ids.PromiseId.{PromiseId}
use Rattle.ws_value.specs.declared.value.Outcome.{Outcome}
use Rattle.ws_value.specs.declared.value.Outcome.TheVariants.{Pending, Fulfilled, Given, Finished, Rejected}
use Rattle.ws_value.specs.declared.value.Plain.{Plain}
use Rattle.ws_steps.specs.declared.promises.Reaction.{Reaction}
use Rattle.ws_steps.specs.declared.calls.Event.{Event}
use Rattle.ws_steps.specs.declared.promises.Job.{Job}
use Rattle.ws_steps.specs.declared.promises.Job.TheVariants.{Follow}
use Rattle.ws_steps.specs.Promises.{Entry, Table, fresh, live, entry_at, outcome_at, is_pending, is_pending_at, is_pending_outcome, rank_at, is_open, is_open_entry, is_following, is_following_entry, noted, settled, job_of, settle, answer, react, react_by, react_entry, follow, went_astray, unfollow, after_next_job, taken, with_entry}
use Rattle.ws_slots.specs.Slot.{Slot}
use Rattle.ws_slots.specs.declared.waiting.Waiting.{Waiting}
use Rattle.ws_slots.specs.View.{AllWait, entries_from, entry_for, entry_with, entry_of, waiting_on, waiting_elsewhere, table_of}
use Rattle.ws_slots.specs.Words.{is_pending_slot, rank_in}
use Rattle.ws_slots.proofs.AllWaitLemmas.{waiting_on_none}
use Rattle.ws_slots.proofs.EntryLemmas.{length-entries_from, entries_from-push, entries_from-set, entries_from-settle, slice_get-entries_from}

-- the promise whose place is s
pub entry_of-live : (p : PromiseId) (ss : List (Option Slot)) (ws : List Waiting) (s : Slot) → slice_get ss p.0 ≡ Some (Some s) → entry_of ss ws p ≡ Some (entry_with (waiting_on p.0 ws) s)
entry_of-live p ss ws s g = ap live (slice_get-entries_from 0 p.0 p.0 ss ws (Some s) (omega arith) g)

-- there is none at an empty place, nor past the last
pub entry_of-empty : (p : PromiseId) (ss : List (Option Slot)) (ws : List Waiting) → slice_get ss p.0 ≡ Some None → entry_of ss ws p ≡ None
entry_of-empty p ss ws g = ap live (slice_get-entries_from 0 p.0 p.0 ss ws None (omega arith) g)

pub entry_of-past : (p : PromiseId) (ss : List (Option Slot)) (ws : List Waiting) → length ss ≤ p.0 → entry_of ss ws p ≡ None
entry_of-past p ss ws l = ap live (slice_get_past (entries_from 0 ss ws) p.0 (rw length-entries_from l))

pub outcome_at-live : (p : PromiseId) (ss : List (Option Slot)) (ws : List Waiting) (js : List Job) (n : ℕ) (ps : List Event) (b : Bool) (s : Slot) → slice_get ss p.0 ≡ Some (Some s) → outcome_at (table_of ss ws js n ps b) p ≡ Some s.outcome
outcome_at-live p ss ws js n ps b s g = ap (option_map (λ (e : Entry). e.outcome)) (entry_of-live p ss ws s g)

pub outcome_at-none : (p : PromiseId) (t : Table) → entry_at t p ≡ None → outcome_at t p ≡ None
outcome_at-none p t g = ap (option_map (λ (e : Entry). e.outcome)) g

-- whether the promise whose place is s is open
pub is_open-settled : (p : PromiseId) (ss : List (Option Slot)) (ws : List Waiting) (s : Slot) → slice_get ss p.0 ≡ Some (Some s) → is_pending s.outcome ≡ false → is_open_entry (entry_of ss ws p) ≡ false
is_open-settled p ss ws s g h = rw (entry_of-live p ss ws s g, h) refl

pub is_open-follows : (p : PromiseId) (ss : List (Option Slot)) (ws : List Waiting) (s : Slot) → slice_get ss p.0 ≡ Some (Some s) → is_pending s.outcome ≡ true → s.follows ≡ true → is_open_entry (entry_of ss ws p) ≡ false
is_open-follows p ss ws s g h f = rw (entry_of-live p ss ws s g, h, f) refl

-- whether the promise whose place is s follows another
pub is_following-settled : (p : PromiseId) (ss : List (Option Slot)) (ws : List Waiting) (s : Slot) → slice_get ss p.0 ≡ Some (Some s) → is_pending s.outcome ≡ false → is_following_entry (entry_of ss ws p) ≡ false
is_following-settled p ss ws s g h = rw (entry_of-live p ss ws s g, h) refl

pub is_following-open : (p : PromiseId) (ss : List (Option Slot)) (ws : List Waiting) (s : Slot) → slice_get ss p.0 ≡ Some (Some s) → is_pending s.outcome ≡ true → s.follows ≡ false → is_following_entry (entry_of ss ws p) ≡ false
is_following-open p ss ws s g h f = rw (entry_of-live p ss ws s g, h, f) refl

-- what a list of places says of a promise, whether it is there or not
abbrev entry_read : List Reaction → Option (Option Slot) → Option (Option Entry)
entry_read rs None = None
entry_read rs (Some s) = Some (entry_for rs s)

entries-read : (k i j : ℕ) (ss : List (Option Slot)) (ws : List Waiting) → j ≡ k + i → slice_get (entries_from k ss ws) i ≡ entry_read (waiting_on j ws) (slice_get ss i)
entries-read k i j [] ws h = refl
entries-read k zero j (s ∷ ss) ws h = let e : j ≡ k = omega arith in rw e refl
entries-read k (suc i) j (s ∷ ss) ws h = entries-read (suc k) i j ss ws (omega arith)

entry_of-read : (p : PromiseId) (ss : List (Option Slot)) (ws : List Waiting) → entry_of ss ws p ≡ live (entry_read (waiting_on p.0 ws) (slice_get ss p.0))
entry_of-read p ss ws = ap live (entries-read 0 p.0 p.0 ss ws (omega arith))

read-not_open : (rs : List Reaction) (o : Option (Option Slot)) → is_pending_slot o ≡ false → is_open_entry (live (entry_read rs o)) ≡ false
read-not_open rs None h = refl
read-not_open rs (Some None) h = refl
read-not_open rs (Some (Some s)) h = rw h refl

read-not_following : (rs : List Reaction) (o : Option (Option Slot)) → is_pending_slot o ≡ false → is_following_entry (live (entry_read rs o)) ≡ false
read-not_following rs None h = refl
read-not_following rs (Some None) h = refl
read-not_following rs (Some (Some s)) h = rw h refl

read-pending : (rs : List Reaction) (o : Option (Option Slot)) → is_pending_outcome (option_map (λ (e : Entry). e.outcome) (live (entry_read rs o))) ≡ is_pending_slot o
read-pending rs None = refl
read-pending rs (Some None) = refl
read-pending rs (Some (Some s)) = refl

read-rank : (rs : List Reaction) (o : Option (Option Slot)) → option_and_then (λ (e : Entry). e.rank) (live (entry_read rs o)) ≡ rank_in o
read-rank rs None = refl
read-rank rs (Some None) = refl
read-rank rs (Some (Some s)) = refl

-- a promise that isn't pending
pub is_open-not_pending : (p : PromiseId) (ss : List (Option Slot)) (ws : List Waiting) → is_pending_slot (slice_get ss p.0) ≡ false → is_open_entry (entry_of ss ws p) ≡ false
is_open-not_pending p ss ws h = ap is_open_entry (entry_of-read p ss ws) ∙ read-not_open (waiting_on p.0 ws) (slice_get ss p.0) h

pub is_following-not_pending : (p : PromiseId) (ss : List (Option Slot)) (ws : List Waiting) → is_pending_slot (slice_get ss p.0) ≡ false → is_following_entry (entry_of ss ws p) ≡ false
is_following-not_pending p ss ws h = ap is_following_entry (entry_of-read p ss ws) ∙ read-not_following (waiting_on p.0 ws) (slice_get ss p.0) h

pub is_pending_at-read : (p : PromiseId) (ss : List (Option Slot)) (ws : List Waiting) (js : List Job) (n : ℕ) (ps : List Event) (b : Bool) → is_pending_at p (table_of ss ws js n ps b) ≡ is_pending_slot (slice_get ss p.0)
is_pending_at-read p ss ws js n ps b = ap (λ e. is_pending_outcome (option_map (λ (e : Entry). e.outcome) e)) (entry_of-read p ss ws) ∙ read-pending (waiting_on p.0 ws) (slice_get ss p.0)

pub rank_at-read : (p : PromiseId) (ss : List (Option Slot)) (ws : List Waiting) (js : List Job) (n : ℕ) (ps : List Event) (b : Bool) → rank_at (table_of ss ws js n ps b) p ≡ rank_in (slice_get ss p.0)
rank_at-read p ss ws js n ps b = ap (option_and_then (λ (e : Entry). e.rank)) (entry_of-read p ss ws) ∙ read-rank (waiting_on p.0 ws) (slice_get ss p.0)

-- one more promise, for which nobody waits yet
pub fresh-push : (ss : List (Option Slot)) (ws : List Waiting) (js : List Job) (n : ℕ) (ps : List Event) (b : Bool) → AllWait ss ws → table_of (ss ++ Some (record { outcome = Pending; follows = false; waits = 0; rank = None; first = None }) ∷ []) ws js n ps b ≡ fresh (table_of ss ws js n ps b)
unfolding fresh
fresh-push ss ws js n ps b h =
    rw (entries_from-push 0 (length ss) ss (Some (record { outcome = Pending; follows = false; waits = 0; rank = None; first = None })) ws (omega arith), waiting_on_none ss ws h) refl

pub settle-open : (p : PromiseId) (o : Result Plain Plain) (ss : List (Option Slot)) (ws : List Waiting) (js : List Job) (n : ℕ) (ps : List Event) (b : Bool) (s : Slot)
    → slice_get ss p.0 ≡ Some (Some s) → is_pending s.outcome ≡ true → s.follows ≡ false
    → settle p o (table_of ss ws js n ps b) ≡ noted p (table_of (slice_set ss p.0 (Some (record { outcome = settled o; follows = false; waits = 0; rank = s.rank; first = None }))) (waiting_elsewhere p.0 ws) (js ++ map (job_of o) (waiting_on p.0 ws)) n ps b) s.rank
unfolding settle
settle-open p o ss ws js n ps b s g h f =
    rw (entry_of-live p ss ws s g, h, f, entries_from-settle 0 p.0 p.0 ss (record { outcome = settled o; follows = false; waits = 0; rank = s.rank; first = None }) ws (omega arith)) refl

pub settle-not_open : (p : PromiseId) (o : Result Plain Plain) (t : Table) → is_open p t ≡ false → settle p o t ≡ went_astray t
unfolding settle
settle-not_open p o t h = rw h refl

pub answer-open : (p : PromiseId) (o : Outcome) (ss : List (Option Slot)) (ws : List Waiting) (js : List Job) (n : ℕ) (ps : List Event) (b : Bool) (s : Slot)
    → slice_get ss p.0 ≡ Some (Some s) → is_pending s.outcome ≡ true → s.follows ≡ false
    → answer p o (table_of ss ws js n ps b) ≡ noted p (table_of (slice_set ss p.0 (Some (record { outcome = o; follows = false; waits = 0; rank = s.rank; first = None }))) (waiting_elsewhere p.0 ws) js n ps b) s.rank
unfolding answer
answer-open p o ss ws js n ps b s g h f =
    rw (entry_of-live p ss ws s g, h, f, entries_from-settle 0 p.0 p.0 ss (record { outcome = o; follows = false; waits = 0; rank = s.rank; first = None }) ws (omega arith)) refl

pub answer-not_open : (p : PromiseId) (o : Outcome) (t : Table) → is_open p t ≡ false → answer p o t ≡ went_astray t
unfolding answer
answer-not_open p o t h = rw h refl

pub follow-open : (p q : PromiseId) (ss : List (Option Slot)) (ws : List Waiting) (js : List Job) (n : ℕ) (ps : List Event) (b : Bool) (s : Slot)
    → slice_get ss p.0 ≡ Some (Some s) → is_pending s.outcome ≡ true → s.follows ≡ false
    → follow p q (table_of ss ws js n ps b) ≡ table_of (slice_set ss p.0 (Some (record s { follows = true }))) ws (js ++ Follow p q ∷ []) n ps b
unfolding follow
follow-open p q ss ws js n ps b s g h f =
    rw (entry_of-live p ss ws s g, h, f, entries_from-set 0 p.0 p.0 ss (Some (record s { follows = true })) ws (omega arith)) refl

pub follow-not_open : (p q : PromiseId) (t : Table) → is_open p t ≡ false → follow p q t ≡ went_astray t
unfolding follow
follow-not_open p q t h = rw h refl

pub unfollow-following : (p : PromiseId) (ss : List (Option Slot)) (ws : List Waiting) (js : List Job) (n : ℕ) (ps : List Event) (b : Bool) (s : Slot)
    → slice_get ss p.0 ≡ Some (Some s) → is_pending s.outcome ≡ true → s.follows ≡ true
    → unfollow p (table_of ss ws js n ps b) ≡ table_of (slice_set ss p.0 (Some (record s { follows = false }))) ws js n ps b
unfolding unfollow
unfollow-following p ss ws js n ps b s g h f =
    rw (entry_of-live p ss ws s g, h, f, entries_from-set 0 p.0 p.0 ss (Some (record s { follows = false })) ws (omega arith)) refl

pub unfollow-not_following : (p : PromiseId) (t : Table) → is_following p t ≡ false → unfollow p t ≡ went_astray t
unfolding unfollow
unfollow-not_following p t h = rw h refl

-- what a reaction does to the promise whose place is s
pub react-live : (p : PromiseId) (r : Reaction) (ss : List (Option Slot)) (ws : List Waiting) (js : List Job) (n : ℕ) (ps : List Event) (b : Bool) (s : Slot) → slice_get ss p.0 ≡ Some (Some s) → react p r (table_of ss ws js n ps b) ≡ react_by p r (table_of ss ws js n ps b) (entry_with (waiting_on p.0 ws) s) s.outcome
unfolding react
react-live p r ss ws js n ps b s g = ap (react_entry p r (table_of ss ws js n ps b)) (entry_of-live p ss ws s g)

react_by-pending : (p : PromiseId) (r : Reaction) (t : Table) (e : Entry) (o : Outcome) → is_pending o ≡ true → react_by p r t e o ≡ with_entry p (Some (record e { reactions = e.reactions ++ r ∷ [] })) t
react_by-pending p r t e Pending h = refl
react_by-pending p r t e (Fulfilled v) h = cc
react_by-pending p r t e (Given v) h = cc
react_by-pending p r t e (Finished v) h = cc
react_by-pending p r t e (Rejected v) h = cc

pub react-pending : (p : PromiseId) (r : Reaction) (ss : List (Option Slot)) (ws : List Waiting) (js : List Job) (n : ℕ) (ps : List Event) (b : Bool) (s : Slot)
    → slice_get ss p.0 ≡ Some (Some s) → is_pending s.outcome ≡ true
    → react p r (table_of ss ws js n ps b) ≡ with_entry p (Some (entry_with (waiting_on p.0 ws ++ r ∷ []) s)) (table_of ss ws js n ps b)
react-pending p r ss ws js n ps b s g h =
    react-live p r ss ws js n ps b s g ∙ react_by-pending p r (table_of ss ws js n ps b) (entry_with (waiting_on p.0 ws) s) s.outcome h

pub react-none : (p : PromiseId) (r : Reaction) (t : Table) → entry_at t p ≡ None → react p r t ≡ t
unfolding react
react-none p r t g = ap (react_entry p r t) g

-- the first job is taken out, where there is one
pub after_next_job-none : (ss : List (Option Slot)) (ws : List Waiting) (js rest : List Job) (n : ℕ) (ps : List Event) (b : Bool) → js ≡ rest → slice_get js 0 ≡ None → table_of ss ws rest n ps b ≡ after_next_job (table_of ss ws js n ps b)
unfolding after_next_job
after_next_job-none ss ws [] rest n ps b e l = rw (← e) refl
after_next_job-none ss ws (job ∷ js) rest n ps b e l = cc

-- the first job is read where it stands, and then dropped
pub after_next_job-read : (ss : List (Option Slot)) (ws : List Waiting) (js : List Job) (n : ℕ) (ps : List Event) (b : Bool) (job : Job) → slice_get js 0 ≡ Some job → after_next_job (table_of ss ws js n ps b) ≡ taken job (table_of ss ws (drop 1 js) n ps b)
unfolding after_next_job
after_next_job-read ss ws [] n ps b job e = cc
after_next_job-read ss ws (j ∷ js) n ps b job e = let is : job ≡ j = cc in rw is refl
