-- How often a promise is named after an operation on promises.
use Rattle.std.proofs.Common.{◌≡◌, ℕ, ◌+◌, ◌≤◌, suc, zero, Bool, true, false, if◌then◌else◌, List, [], ◌∷◌, ◌++◌, map, Option, Some, None, Result, Ok, Err, refl, sym, arith}
use Rattle.std.specs.Prelude.{slice_get, slice_set}
use Rattle.ws_value.specs.declared.ids.PromiseId.{PromiseId}
use Rattle.ws_value.specs.declared.value.Plain.{Plain}
use Rattle.ws_steps.specs.declared.promises.Job.TheVariants.{Micro as MicroJob}
use Rattle.ws_steps.specs.declared.promises.Micro.{Micro}
use Rattle.ws_steps.specs.declared.promises.Reaction.{Reaction}
use Rattle.ws_steps.specs.declared.promises.Reaction.TheVariants.{Perform, Adopt}
use Rattle.ws_steps.specs.Promises.{Entry, Table, pending, live, entry_at, is_open, is_open_entry, is_pending, fresh, queue_micro, settle, settle_entry, settled, ended_as, job_of, noted, went_astray}
use Rattle.ws_alike.specs.Named.{in_jobs, in_job, in_reaction, in_reactions, in_entry, in_entries, in_table}
use Rattle.ws_alike.proofs.Lists.{all-append}

pub in_job-reaction : (p : PromiseId) (o : Result Plain Plain) (r : Reaction) → in_job p (job_of o r) ≡ in_reaction p r
in_job-reaction p o (Perform step derived) = refl
in_job-reaction p o (Adopt q) = refl

in_jobs-reactions : (p : PromiseId) (o : Result Plain Plain) (rs : List Reaction) → in_jobs p (map (job_of o) rs) ≡ in_reactions p rs
in_jobs-reactions p o [] = refl
in_jobs-reactions p o (r ∷ rs) = let n = in_jobs-reactions p o rs in let m = in_job-reaction p o r in omega arith

pub in_entries-set : (p : PromiseId) (es : List (Option Entry)) (i : ℕ) (x : Option Entry) (e : Entry) → live (slice_get es i) ≡ Some e → in_entries p (slice_set es i x) + in_entry p (Some e) ≡ in_entries p es + in_entry p x
in_entries-set p [] i x e h = cc
in_entries-set p (y ∷ ys) zero x e h = rw h (omega arith)
in_entries-set p (y ∷ ys) (suc i) x e h = let n = in_entries-set p ys i x e h in omega arith

in_table-noted : (p q : PromiseId) (t : Table) (rank : Option ℕ) → in_table p (noted q t rank) ≡ in_table p t
in_table-noted p q t None = refl
in_table-noted p q t (Some rank) = refl

-- only a pending promise has reactions that count, and only one that is pending is settled
open-pending : (c d : Bool) → true ≡ (if c then d else false) → c ≡ true
open-pending true d h = refl
open-pending false d h = cc

pub pending-entry : (p : PromiseId) (e : Entry) → is_pending e.outcome ≡ true → in_entry p (Some e) ≡ in_reactions p e.reactions
pending-entry p e h = rw h refl

settled-entry : (p : PromiseId) (o : Result Plain Plain) (e : Entry) → in_entry p (Some (ended_as (settled o) e)) ≡ 0
settled-entry p (Ok v) e = refl
settled-entry p (Err r) e = refl

in_table-settle_entry : (p q : PromiseId) (o : Result Plain Plain) (t : Table) (e : Entry) → Some e ≡ entry_at t q → is_pending e.outcome ≡ true → in_table p (settle_entry q o t (Some e)) ≤ in_table p t
in_table-settle_entry p q o t e h pending =
    let z : Table = record t { entries = slice_set t.entries q.0 (Some (ended_as (settled o) e)); jobs = t.jobs ++ map (job_of o) e.reactions } in
    let a = in_entries-set p t.entries q.0 (Some (ended_as (settled o) e)) e (sym h) in
    let b = all-append (in_job p) t.jobs (map (job_of o) e.reactions) in
    let c = in_jobs-reactions p o e.reactions in
    let d = in_table-noted p q z e.rank in
    omega (arith, a, b, c, d, pending-entry p e pending, settled-entry p o e)

in_table-settle_by : (p q : PromiseId) (o : Result Plain Plain) (t : Table) (x : Option Entry) (b : Bool) → x ≡ entry_at t q → b ≡ is_open_entry x → in_table p (if b then settle_entry q o t x else went_astray t) ≤ in_table p t
in_table-settle_by p q o t None true h k = omega arith
in_table-settle_by p q o t (Some e) true h k = in_table-settle_entry p q o t e h (open-pending _ _ k)
in_table-settle_by p q o t x false h k = omega arith

pub in_table-settle : (p q : PromiseId) (o : Result Plain Plain) (t : Table) → in_table p (settle q o t) ≤ in_table p t
unfolding settle
in_table-settle p q o t = in_table-settle_by p q o t (entry_at t q) (is_open q t) refl refl

pub in_table-fresh : (p : PromiseId) (t : Table) → in_table p (fresh t) ≡ in_table p t
unfolding fresh
in_table-fresh p t = let n = all-append (in_entry p) t.entries (Some pending ∷ []) in omega arith

pub in_table-micro : (p : PromiseId) (m : Micro) (t : Table) → in_table p (queue_micro m t) ≡ in_table p t
unfolding queue_micro
in_table-micro p m t = let n = all-append (in_job p) t.jobs (MicroJob m ∷ []) in omega arith

pub in_entries-get : (p : PromiseId) (es : List (Option Entry)) (i : ℕ) (e : Entry) → live (slice_get es i) ≡ Some e → in_entry p (Some e) ≤ in_entries p es
in_entries-get p [] i e h = cc
in_entries-get p (y ∷ ys) zero e h = rw h (omega arith)
in_entries-get p (y ∷ ys) (suc i) e h = let n = in_entries-get p ys i e h in omega arith
