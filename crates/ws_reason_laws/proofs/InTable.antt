-- Operations on promises keep that nothing bad stands among them; and how many promises there are.
use Rattle.std.proofs.Common.{◌≡◌, ℕ, zero, suc, ◌+◌, true, false, List, [], ◌∷◌, ◌++◌, length, length-append, map, Option, Some, None, Result, Ok, Err, slice_get, slice_set, refl, ap, subst, ◌∙◌, arith}
use Rattle.ws_value.specs.declared.ids.PromiseId.{PromiseId}
use Rattle.ws_value.specs.declared.value.Outcome.{Outcome}
use Rattle.ws_value.specs.declared.value.Outcome.TheVariants.{Pending, Fulfilled, Given, Finished, Rejected}
use Rattle.ws_value.specs.declared.value.Plain.{Plain}
use Rattle.ws_steps.specs.declared.calls.Event.{Event}
use Rattle.ws_steps.specs.declared.effects.Use.{Use}
use Rattle.ws_steps.specs.declared.effects.Use.TheVariants.{React, Resolve}
use Rattle.ws_steps.specs.declared.promises.Job.{Job}
use Rattle.ws_steps.specs.declared.promises.Job.TheVariants.{Reaction as ReactionJob, Follow, Settle, Micro as MicroJob}
use Rattle.ws_steps.specs.declared.promises.Micro.{Micro}
use Rattle.ws_steps.specs.declared.promises.Reaction.{Reaction}
use Rattle.ws_steps.specs.declared.promises.Reaction.TheVariants.{Perform, Adopt}
use Rattle.ws_steps.specs.Promises.{Entry, Table, live, entry_at, pending, fresh, next_id, settled, job_of, enqueue_job, ended_as, tell, settle, fresh_settled, answer, react_by, react_entry, react, follow, queue_micro, unfollow, went_astray, use_this, taken, next_job, first_job, after_first, after_next_job, watch}
use Rattle.ws_laws.proofs.Cases.{Puts, settle-cases, answer-cases, react-cases, follow-cases, unfollow-cases, watch-cases}
use Rattle.ws_reason_laws.proofs.Weights.{Class, of_result, loud, soft, settles, in_reaction, in_reactions, in_outcome, in_entry, in_entries, in_job, in_jobs, in_table, uses, count}

-- places

entries-set : (k : Class) (n : ℕ) (xs : List (Option Entry)) (p : ℕ) (y : Option Entry) (at : ℕ) → at ≡ n + p → in_entries k n xs ≡ 0 → in_entry k at y ≡ 0 → in_entries k n (slice_set xs p y) ≡ 0
entries-set k n [] p y at e h g = refl
entries-set k n (x ∷ xs) zero y at e h g =
    let same : at ≡ n = omega (arith, e) in let f : in_entry k n y ≡ 0 = subst (λ (m : ℕ). in_entry k m y ≡ 0) same g in omega (arith, h, f)
entries-set k n (x ∷ xs) (suc p) y at e h g =
    let f = entries-set k (suc n) xs p y at (omega (arith, e)) (omega (arith, h)) g in omega (arith, h, f)

entry-there : (k : Class) (n : ℕ) (xs : List (Option Entry)) (p : ℕ) (at : ℕ) → at ≡ n + p → in_entries k n xs ≡ 0 → in_entry k at (live (slice_get xs p)) ≡ 0
entry-there k n [] p at e h = refl
entry-there k n (x ∷ xs) zero at e h =
    let same : n ≡ at = omega (arith, e) in let z : in_entry k n x ≡ 0 = omega (arith, h) in subst (λ (m : ℕ). in_entry k m x ≡ 0) same z
entry-there k n (x ∷ xs) (suc p) at e h = entry-there k (suc n) xs p at (omega (arith, e)) (omega (arith, h))

entries-append : (k : Class) (n : ℕ) (xs : List (Option Entry)) → in_entries k n xs ≡ 0 → in_entries k n (xs ++ Some pending ∷ []) ≡ 0
entries-append k n [] h = refl
entries-append k n (x ∷ xs) h = let f = entries-append k (suc n) xs (omega (arith, h)) in omega (arith, h, f)

reactions-append : (k : Class) (n : ℕ) (xs ys : List Reaction) → in_reactions k n (xs ++ ys) ≡ in_reactions k n xs + in_reactions k n ys
reactions-append k n [] ys = omega arith
reactions-append k n (x ∷ xs) ys = let h = reactions-append k n xs ys in omega (arith, h)

jobs-append : (k : Class) (xs ys : List Job) → in_jobs k (xs ++ ys) ≡ in_jobs k xs + in_jobs k ys
jobs-append k [] ys = omega arith
jobs-append k (x ∷ xs) ys = let h = jobs-append k xs ys in omega (arith, h)

-- the jobs of reactions

job-good : (k : Class) (n : ℕ) (o : Result Plain Plain) (r : Reaction) → in_reaction k n r ≡ 0 → settles k n o ≡ 0 → in_job k (job_of o r) ≡ 0
job-good k n o (Perform step d) h g = grind (arith, h, g)
job-good k n o (Adopt p) h g = grind (arith, h, g)

jobs-good : (k : Class) (n : ℕ) (o : Result Plain Plain) (rs : List Reaction) → in_reactions k n rs ≡ 0 → settles k n o ≡ 0 → in_jobs k (map (job_of o) rs) ≡ 0
jobs-good k n o [] h g = refl
jobs-good k n o (r ∷ rs) h g =
    let f = job-good k n o r (omega (arith, h)) g in let e = jobs-good k n o rs (omega (arith, h)) g in omega (arith, e, f)

settled-good : (k : Class) (n : ℕ) (o : Result Plain Plain) → settles k n o ≡ 0 → in_outcome k n (settled o) ≡ 0
settled-good k n (Ok v) h = refl
settled-good k n (Err r) h = h

pub entry-good : (k : Class) (p : PromiseId) (t : Table) → in_table k t ≡ 0 → in_entry k p.0 (entry_at t p) ≡ 0
unfolding in_table
entry-good k p t h = entry-there k 0 t.entries p.0 p.0 (omega arith) (omega (arith, h))

-- the place of a promise is written, and more jobs are queued
put-keeps : (k : Class) (p : PromiseId) (t z : Table) (e d : Entry) (more : List Job) → Puts p t z e d more → in_table k t ≡ 0
    → (in_entry k p.0 (Some e) ≡ 0 → in_entry k p.0 (Some d) ≡ 0) → (in_entry k p.0 (Some e) ≡ 0 → in_jobs k more ≡ 0) → in_table k z ≡ 0
unfolding in_table
put-keeps k p t z e d more w h f g =
    let old : in_entry k p.0 (Some e) ≡ 0 = subst (λ (x : Option Entry). in_entry k p.0 x ≡ 0) w.there (entry-there k 0 t.entries p.0 p.0 (omega arith) (omega (arith, h))) in
    let a = entries-set k 0 t.entries p.0 (Some d) p.0 (omega arith) (omega (arith, h)) (f old) in
    let b = jobs-append k t.jobs more in
    let c = ap (in_entries k 0) w.entries in
    let i = ap (in_jobs k) w.jobs in
    let j = g old in
    omega (arith, h, a, b, c, i, j)

astray-keeps : (k : Class) (t : Table) → in_table k t ≡ 0 → in_table k (went_astray t) ≡ 0
unfolding in_table
astray-keeps k t h = h

-- each operation

pub settle-keeps : (k : Class) (p : PromiseId) (o : Result Plain Plain) (t : Table) → in_table k t ≡ 0 → settles k p.0 o ≡ 0 → in_table k (settle p o t) ≡ 0
settle-keeps k p o t h g =
    settle-cases (λ z. in_table k z ≡ 0) p t o (astray-keeps k t h)
    (λ e z is w. put-keeps k p t z e (ended_as (settled o) e) (map (job_of o) e.reactions) w h
    (λ old. let s = settled-good k p.0 o g in omega (arith, s)) (λ old. jobs-good k p.0 o e.reactions (omega (arith, old)) g))

good_settles : (k : Class) (n : ℕ) (o : Result Plain Plain) → of_result k o ≡ 0 → settles k n o ≡ 0
good_settles k n o h = grind (arith, h)

soft_settles : (k : Class) (n : ℕ) (o : Result Plain Plain) → soft k n ≡ 0 → settles k n o ≡ 0
soft_settles k n o h = grind (arith, h)

-- a promise that may be rejected with anything; and one that is settled well
pub settle_soft : (k : Class) (p : PromiseId) (o : Result Plain Plain) (t : Table) → in_table k t ≡ 0 → soft k p.0 ≡ 0 → in_table k (settle p o t) ≡ 0
settle_soft k p o t h g = settle-keeps k p o t h (soft_settles k p.0 o g)

pub settle-good : (k : Class) (p : PromiseId) (o : Result Plain Plain) (t : Table) → in_table k t ≡ 0 → of_result k o ≡ 0 → in_table k (settle p o t) ≡ 0
settle-good k p o t h g = settle-keeps k p o t h (good_settles k p.0 o g)

pub fresh-keeps : (k : Class) (t : Table) → in_table k t ≡ 0 → in_table k (fresh t) ≡ 0
unfolding fresh in_table
fresh-keeps k t h = let a = entries-append k 0 t.entries (omega (arith, h)) in omega (arith, h, a)

pub tell-keeps : (k : Class) (e : Event) (t : Table) → in_table k t ≡ 0 → in_table k (tell e t) ≡ 0
unfolding in_table
tell-keeps k e t h = h

pub told-keeps : (k : Class) (es : List Event) (t : Table) → in_table k t ≡ 0 → in_table k (record t { events = es }) ≡ 0
unfolding in_table
told-keeps k es t h = h

pub answer-keeps : (k : Class) (p : PromiseId) (o : Outcome) (t : Table) → in_table k t ≡ 0 → in_outcome k p.0 o ≡ 0 → in_table k (answer p o t) ≡ 0
answer-keeps k p o t h g =
    answer-cases (λ z. in_table k z ≡ 0) p t o (astray-keeps k t h)
    (λ e z is w. put-keeps k p t z e (ended_as o e) [] w h (λ old. omega (arith, g)) (λ old. refl))

queue-keeps : (k : Class) (job : Job) (t : Table) → in_table k t ≡ 0 → in_job k job ≡ 0 → in_table k (enqueue_job job t) ≡ 0
unfolding in_table
queue-keeps k job t h g = let c = jobs-append k t.jobs (job ∷ []) in omega (arith, h, g, c)

pub micro-keeps : (k : Class) (m : Micro) (t : Table) → in_table k t ≡ 0 → in_table k (queue_micro m t) ≡ 0
unfolding queue_micro
micro-keeps k m t h = queue-keeps k (MicroJob m) t h refl

react_by-keeps : (k : Class) (p : PromiseId) (r : Reaction) (t : Table) (e : Entry) (o : Outcome) → in_table k t ≡ 0 → in_entry k p.0 (Some e) ≡ 0 → e.outcome ≡ o → in_reaction k p.0 r ≡ 0 → in_table k (react_by p r t e o) ≡ 0
unfolding in_table
react_by-keeps k p r t e Pending h a q g =
    let d = reactions-append k p.0 e.reactions (r ∷ []) in
    let b = entries-set k 0 t.entries p.0 (Some (record e { reactions = e.reactions ++ r ∷ [] })) p.0 (omega arith) (omega (arith, h)) (omega (arith, a, d, g)) in
    omega (arith, h, b)
react_by-keeps k p r t e (Fulfilled v) h a q g = queue-keeps k (job_of (Ok v) r) t h (job-good k p.0 (Ok v) r g (good_settles k p.0 (Ok v) refl))
react_by-keeps k p r t e (Rejected v) h a q g =
    let b : in_outcome k p.0 e.outcome ≡ 0 = omega (arith, a) in
    let c : in_outcome k p.0 (Rejected v) ≡ 0 = subst (λ (o : Outcome). in_outcome k p.0 o ≡ 0) q b in
    queue-keeps k (job_of (Err v) r) t h (job-good k p.0 (Err v) r g c)
react_by-keeps k p r t e (Given v) h a q g = h
react_by-keeps k p r t e (Finished v) h a q g = h

pub react-keeps : (k : Class) (p : PromiseId) (r : Reaction) (t : Table) → in_table k t ≡ 0 → in_reaction k p.0 r ≡ 0 → in_table k (react p r t) ≡ 0
unfolding react
react-keeps k p r t h g = by (entry_at t p) (entry-good k p t h)
  where
    by : (x : Option Entry) → in_entry k p.0 x ≡ 0 → in_table k (react_entry p r t x) ≡ 0
    by None z = h
    by (Some e) z = react_by-keeps k p r t e e.outcome h z refl g

pub follow-keeps : (k : Class) (p q : PromiseId) (t : Table) → in_table k t ≡ 0 → loud k q.0 ≡ 0 → in_table k (follow p q t) ≡ 0
follow-keeps k p q t h g =
    follow-cases (λ z. in_table k z ≡ 0) p t q (astray-keeps k t h)
    (λ e z is w. put-keeps k p t z e (record e { follows = true }) (Follow p q ∷ []) w h (λ old. old) (λ old. omega (arith, g)))

unfollow-keeps : (k : Class) (p : PromiseId) (t : Table) → in_table k t ≡ 0 → in_table k (unfollow p t) ≡ 0
unfollow-keeps k p t h =
    unfollow-cases (λ z. in_table k z ≡ 0) p t (astray-keeps k t h)
    (λ e z is w. put-keeps k p t z e (record e { follows = false }) [] w h (λ old. old) (λ old. refl))

pub watch-keeps : (k : Class) (p : PromiseId) (t : Table) → in_table k t ≡ 0 → in_table k (watch p t) ≡ 0
watch-keeps k p t h =
    watch-cases (λ z. in_table k z ≡ 0) p t h
    (λ e z is w. put-keeps k p t z e (record e { rank = Some t.watched }) [] w h (λ old. old) (λ old. refl))

pub use-keeps : (k : Class) (p : PromiseId) (t : Table) (u : Use) → in_table k t ≡ 0 → uses k p.0 u ≡ 0 → in_table k (use_this p t u) ≡ 0
use-keeps k p t (React step d) h g = react-keeps k p (Perform step d) t h g
use-keeps k p t (Resolve q) h g = follow-keeps k q p t h g

pub fresh_settled-keeps : (k : Class) (o : Result Plain Plain) (t : Table) → in_table k t ≡ 0 → settles k (count t) o ≡ 0 → in_table k (fresh_settled o t) ≡ 0
fresh_settled-keeps k o t h g = settle-keeps k (next_id t) o (fresh t) (fresh-keeps k t h) g

-- the first job is taken out of the queue

taken-keeps : (k : Class) (job : Job) (t : Table) → in_table k t ≡ 0 → in_job k job ≡ 0 → in_table k (taken job t) ≡ 0
taken-keeps k (ReactionJob step o d) t h g = h
taken-keeps k (Follow p q) t h g = react-keeps k q (Adopt p) t h g
taken-keeps k (Settle p o) t h g = unfollow-keeps k p t h
taken-keeps k (MicroJob m) t h g = h

pub next-keeps : (k : Class) (job : Job) (t : Table) → next_job t ≡ Some job → in_table k t ≡ 0 → (in_table k (after_next_job t) ≡ 0) × (in_job k job ≡ 0)
unfolding after_next_job in_table
next-keeps k job t e h = by t.jobs refl e
  where
    by : (js : List Job) → js ≡ t.jobs → first_job js ≡ Some job → (in_table k (after_first t js) ≡ 0) × (in_job k job ≡ 0)
    by [] w f = cc
    by (j ∷ js) w f =
        let is : j ≡ job = same j job f in
        let a : in_jobs k (j ∷ js) ≡ in_jobs k t.jobs = ap (in_jobs k) w in
        let b : in_job k j ≡ 0 = omega (arith, h, a) in
        (taken-keeps k j (record t { jobs = js }) (omega (arith, h, a)) b, rw is at b)
      where
        same : (x y : Job) → ◌≡◌ {A = Option Job} (Some x) (Some y) → x ≡ y
        same x y e = cc

-- how many promises there are

length-set : (xs : List (Option Entry)) (i : ℕ) (y : Option Entry) → length (slice_set xs i y) ≡ length xs
length-set [] i y = refl
length-set (x ∷ xs) zero y = refl
length-set (x ∷ xs) (suc i) y = let h = length-set xs i y in omega (arith, h)

put-count : (p : PromiseId) (t z : Table) (e d : Entry) (more : List Job) → Puts p t z e d more → count z ≡ count t
put-count p t z e d more w = ap (λ (es : List (Option Entry)). length es) w.entries ∙ length-set t.entries p.0 (Some d)

pub settle-count : (p : PromiseId) (o : Result Plain Plain) (t : Table) → count (settle p o t) ≡ count t
settle-count p o t = settle-cases (λ z. count z ≡ count t) p t o refl (λ e z is w. put-count p t z e _ _ w)

pub answer-count : (p : PromiseId) (o : Outcome) (t : Table) → count (answer p o t) ≡ count t
answer-count p o t = answer-cases (λ z. count z ≡ count t) p t o refl (λ e z is w. put-count p t z e _ _ w)

pub fresh-count : (t : Table) → count (fresh t) ≡ count t + 1
unfolding fresh
fresh-count t = length-append t.entries (Some pending ∷ [])

pub react-count : (p : PromiseId) (r : Reaction) (t : Table) → count (react p r t) ≡ count t
react-count p r t = react-cases (λ z. count z ≡ count t) p t r refl (λ o. refl) (λ e z is w. put-count p t z e _ _ w)

pub follow-count : (p q : PromiseId) (t : Table) → count (follow p q t) ≡ count t
follow-count p q t = follow-cases (λ z. count z ≡ count t) p t q refl (λ e z is w. put-count p t z e _ _ w)

unfollow-count : (p : PromiseId) (t : Table) → count (unfollow p t) ≡ count t
unfollow-count p t = unfollow-cases (λ z. count z ≡ count t) p t refl (λ e z is w. put-count p t z e _ _ w)

pub watch-count : (p : PromiseId) (t : Table) → count (watch p t) ≡ count t
watch-count p t = watch-cases (λ z. count z ≡ count t) p t refl (λ e z is w. put-count p t z e _ _ w)

pub micro-count : (m : Micro) (t : Table) → count (queue_micro m t) ≡ count t
unfolding queue_micro
micro-count m t = refl

pub use-count : (p : PromiseId) (t : Table) (u : Use) → count (use_this p t u) ≡ count t
use-count p t (React step d) = react-count p (Perform step d) t
use-count p t (Resolve q) = follow-count q p t

taken-count : (job : Job) (t : Table) → count (taken job t) ≡ count t
taken-count (ReactionJob step o d) t = refl
taken-count (Follow p q) t = react-count q (Adopt p) t
taken-count (Settle p o) t = unfollow-count p t
taken-count (MicroJob m) t = refl

pub next-count : (t : Table) → count (after_next_job t) ≡ count t
unfolding after_next_job
next-count t = by t.jobs
  where
    by : (js : List Job) → count (after_first t js) ≡ count t
    by [] = refl
    by (j ∷ js) = taken-count j (record t { jobs = js })
