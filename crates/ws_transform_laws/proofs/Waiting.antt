-- What waits at a promise, and what is queued of such: no operation on promises loses it, but where the promise settles, or its job is taken.
use Rattle.std.proofs.Common.{◌≡◌, ℕ, zero, suc, ◌+◌, ◌≤◌, Bool, true, false, nat_eq, List, [], ◌∷◌, ◌++◌, map, Option, Some, None, Result, Ok, Err, slice_get, refl, sym, ap, ◌∙◌, arith, slice_set}
use Rattle.ws_value.specs.declared.ids.PromiseId.{PromiseId}
use Rattle.ws_value.specs.declared.value.Outcome.{Outcome}
use Rattle.ws_value.specs.declared.value.Outcome.TheVariants.{Pending, Fulfilled, Given, Finished, Rejected}
use Rattle.ws_value.specs.declared.value.Plain.{Plain}
use Rattle.ws_steps.specs.declared.{promises.Job.{Job}, promises.Micro.{Micro}, promises.Reaction.{Reaction}, promises.Reaction.TheVariants.{Adopt}}
use Rattle.ws_steps.specs.declared.promises.Job.TheVariants.{Reaction as ReactionJob, Follow, Settle, Micro as MicroJob}
use Rattle.ws_steps.specs.Promises.{Entry, Table, live, entry_at, fresh, is_pending, is_open, is_open_entry, settled, settle, settle_entry, ended_as, noted, job_of, enqueue_job, tell, went_astray, react, react_by, react_entry, queue_micro, taken, first_job, after_first, next_job, after_next_job, watch}
use Rattle.ws_steps.proofs.PromiseLaws.{entry_within, entry_at-fresh, entry_at-with_entry_same, entry_at-with_entry_other}
use Rattle.ws_laws.proofs.Cases.{Puts, settle-cases, answer-cases, react-cases, follow-cases, unfollow-cases, watch-cases}
use Rattle.ws_laws.proofs.Outcomes.{open_pending}
use Rattle.ws_laws.proofs.Rows.{Changes}
use Rattle.ws_laws.proofs.Tables.{eq_numbers, unequal_numbers}
use Rattle.ws_laws.proofs.Weights.{of_reactions, of_entries, of_job, of_jobs, weigh}

-- so much of each job
abbrev pub in_jobs : (Job → ℕ) → List Job → ℕ
in_jobs f [] = 0
in_jobs f (j ∷ js) = f j + in_jobs f js

-- the promise is there, and while it is pending, reactions of so much weight at least are registered with it
pub record Waits (f : Reaction → ℕ) (n : ℕ) (p : PromiseId) (t : Table) : Type 0 where
  pub entry : Entry
  pub there : entry_at t p ≡ Some entry
  pub waits : is_pending entry.outcome ≡ true → n ≤ of_reactions f entry.reactions

pub of_reactions-append : (f : Reaction → ℕ) (xs ys : List Reaction) → of_reactions f (xs ++ ys) ≡ of_reactions f xs + of_reactions f ys
of_reactions-append f [] ys = omega arith
of_reactions-append f (x ∷ xs) ys = let n = of_reactions-append f xs ys in omega arith

module _ (f : Reaction → ℕ) (n : ℕ) (p : PromiseId) where
  -- the place of promise q is written, and what waits for it does so for as long as it is pending
  waits_put : (q : PromiseId) (t z : Table) (e d : Entry) (more : List Job) (same : Bool) → same ≡ nat_eq p.0 q.0 → Puts q t z e d more
      → (is_pending d.outcome ≡ true → (is_pending e.outcome ≡ true) × (of_reactions f e.reactions ≤ of_reactions f d.reactions)) → Waits f n p t → Waits f n p z
  waits_put q t z e d more true s w on k =
      let is : p ≡ q = ap (λ (m : ℕ). record { 0 = m }) (eq_numbers p.0 q.0 (sym s)) in
      let was : ◌≡◌ {A = Option Entry} (Some e) (Some k.entry) = sym w.there ∙ (ap (entry_at t) (sym is) ∙ k.there) in
      let same : e ≡ k.entry = cc in
      let now : entry_at z q ≡ Some d = ap (λ (es : List (Option Entry)). live (slice_get es q.0)) w.entries ∙ entry_at-with_entry_same t q (Some d) (entry_within t q e w.there) in
      record {
        entry = d;
        there = ap (entry_at z) is ∙ now;
        waits = λ pends. let m = on pends in let l : n ≤ of_reactions f e.reactions = rw same (k.waits (ap (λ (x : Entry). is_pending x.outcome) (sym same) ∙ m.0)) in omega arith;
      }
  waits_put q t z e d more false s w on k =
      let other : entry_at z p ≡ entry_at t p = ap (λ (es : List (Option Entry)). live (slice_get es p.0)) w.entries ∙ entry_at-with_entry_other t q p (Some d) (λ g. unequal_numbers p.0 q.0 (sym s) (sym g)) in
      record { entry = k.entry; there = other ∙ k.there; waits = k.waits }

  pub waits_from : (t z : Table) → z.entries ≡ t.entries → Waits f n p t → Waits f n p z
  waits_from t z e k = record { entry = k.entry; there = ap (λ (es : List (Option Entry)). live (slice_get es p.0)) e ∙ k.there; waits = k.waits }

  never : (o : Outcome) {A : Type 0} → is_pending o ≡ false → is_pending o ≡ true → A
  never o e h = absurd (cc)

  settled_never : (o : Result Plain Plain) → is_pending (settled o) ≡ false
  settled_never (Ok v) = refl
  settled_never (Err v) = refl

  waits_fresh : (t : Table) → Waits f n p t → Waits f n p (fresh t)
  waits_fresh t k = record { entry = k.entry; there = entry_at-fresh t p (entry_within t p k.entry k.there) ∙ k.there; waits = k.waits }

  waits_react : (t : Table) (q : PromiseId) (r : Reaction) → Waits f n p t → Waits f n p (react q r t)
  waits_react t q r k =
      react-cases (Waits f n p) q t r k (λ o. waits_from t (enqueue_job (job_of o r) t) refl k)
      (λ e z is w. waits_put q t z e _ _ (nat_eq p.0 q.0) refl w (λ h. (h, let m = of_reactions-append f e.reactions (r ∷ []) in omega arith)) k)

  waits_micro : (t : Table) (m : Micro) → Waits f n p t → Waits f n p (queue_micro m t)
  unfolding queue_micro
  waits_micro t m k = waits_from t (queue_micro m t) refl k

  pub waits-changes : Changes (Waits f n p)
  waits-changes = record {
    fresh = waits_fresh;
    settle = λ t q o k. settle-cases (Waits f n p) q t o (waits_from t (went_astray t) refl k) (λ e z is w. waits_put q t z e _ _ (nat_eq p.0 q.0) refl w (λ h. never (settled o) (settled_never o) h) k);
    answer = λ t q o u k. answer-cases (Waits f n p) q t o (waits_from t (went_astray t) refl k) (λ e z is w. waits_put q t z e _ _ (nat_eq p.0 q.0) refl w (λ h. never o u h) k);
    react = waits_react;
    follow = λ t q r k. follow-cases (Waits f n p) q t r (waits_from t (went_astray t) refl k) (λ e z is w. waits_put q t z e _ _ (nat_eq p.0 q.0) refl w (λ h. (h, omega arith)) k);
    micro = waits_micro;
    tell = λ t e k. waits_from t (tell e t) refl k;
  }

  -- a promise that is watched, and the jobs but for the first
  pub waits-watch : (t : Table) (q : PromiseId) → Waits f n p t → Waits f n p (watch q t)
  waits-watch t q k = watch-cases (Waits f n p) q t k (λ e z is w. waits_put q t z e _ _ (nat_eq p.0 q.0) refl w (λ h. (h, omega arith)) k)

  waits_taken : (job : Job) (t : Table) → Waits f n p t → Waits f n p (taken job t)
  waits_taken (ReactionJob step r derived) t k = k
  waits_taken (Follow q r) t k = waits_react t r (Adopt q) k
  waits_taken (Settle q r) t k =
      unfollow-cases (Waits f n p) q t (waits_from t (went_astray t) refl k) (λ e z is w. waits_put q t z e _ _ (nat_eq p.0 q.0) refl w (λ h. (h, omega arith)) k)
  waits_taken (MicroJob m) t k = k

  waits_next : (t : Table) (js : List Job) → Waits f n p t → Waits f n p (after_first t js)
  waits_next t [] k = k
  waits_next t (j ∷ js) k = waits_taken j (record t { jobs = js }) (waits_from t (record t { jobs = js }) refl k)

  pub waits-next : (t : Table) → Waits f n p t → Waits f n p (after_next_job t)
  unfolding after_next_job
  waits-next t k = waits_next t t.jobs k

-- what is queued

-- jobs of so much weight at least are queued
abbrev pub Queued : (Job → ℕ) → ℕ → Table → Type 0
Queued f n t = n ≤ in_jobs f t.jobs

pub in_jobs-append : (f : Job → ℕ) (xs ys : List Job) → in_jobs f (xs ++ ys) ≡ in_jobs f xs + in_jobs f ys
in_jobs-append f [] ys = omega arith
in_jobs-append f (x ∷ xs) ys = let n = in_jobs-append f xs ys in omega arith

module _ (f : Job → ℕ) (n : ℕ) where
  queued_more : (t z : Table) (more : List Job) → z.jobs ≡ t.jobs ++ more → Queued f n t → Queued f n z
  queued_more t z more e k = let a = in_jobs-append f t.jobs more in rw e (omega arith)

  queued_fresh : (t : Table) → Queued f n t → Queued f n (fresh t)
  unfolding fresh
  queued_fresh t k = k

  queued_react : (t : Table) (q : PromiseId) (r : Reaction) → Queued f n t → Queued f n (react q r t)
  queued_react t q r k = react-cases (Queued f n) q t r k (λ o. queued_more t (enqueue_job (job_of o r) t) (job_of o r ∷ []) refl k) (λ e z is w. queued_more t z _ w.jobs k)

  queued_micro : (t : Table) (m : Micro) → Queued f n t → Queued f n (queue_micro m t)
  unfolding queue_micro
  queued_micro t m k = queued_more t (queue_micro m t) (MicroJob m ∷ []) refl k

  pub queued-changes : Changes (Queued f n)
  queued-changes = record {
    fresh = queued_fresh;
    settle = λ t q o k. settle-cases (Queued f n) q t o k (λ e z is w. queued_more t z _ w.jobs k);
    answer = λ t q o u k. answer-cases (Queued f n) q t o k (λ e z is w. queued_more t z _ w.jobs k);
    react = queued_react;
    follow = λ t q r k. follow-cases (Queued f n) q t r k (λ e z is w. queued_more t z _ w.jobs k);
    micro = queued_micro;
    tell = λ t e k. k;
  }

  pub queued-watch : (t : Table) (q : PromiseId) → Queued f n t → Queued f n (watch q t)
  queued-watch t q k = watch-cases (Queued f n) q t k (λ e z is w. queued_more t z _ w.jobs k)

  -- what is left where the first job is taken
  abbrev pub taken_job : Option Job → ℕ
  taken_job None = 0
  taken_job (Some job) = f job

  queued_taken : (job : Job) (t : Table) → Queued f n t → Queued f n (taken job t)
  queued_taken (ReactionJob step r derived) t k = k
  queued_taken (Follow q r) t k = queued_react t r (Adopt q) k
  queued_taken (Settle q r) t k = unfollow-cases (Queued f n) q t k (λ e z is w. queued_more t z _ w.jobs k)
  queued_taken (MicroJob m) t k = k

pub queued-next : (f : Job → ℕ) (n : ℕ) (t : Table) (job : Job) → next_job t ≡ Some job → Queued f (n + f job) t → Queued f n (after_next_job t)
unfolding after_next_job
queued-next f n t job e k = by t.jobs refl e k
  where
    by : (js : List Job) → js ≡ t.jobs → first_job js ≡ Some job → n + f job ≤ in_jobs f js → Queued f n (after_first t js)
    by [] h e k = cc
    by (j ∷ js) h e k = let is : j ≡ job = cc in let few : n ≤ in_jobs f js = (let same : f j ≡ f job = ap f is in omega arith) in queued_taken f n j (record t { jobs = js }) few

-- the first job is among them
pub queued-first : (f : Job → ℕ) (t : Table) (job : Job) → next_job t ≡ Some job → f job ≤ in_jobs f t.jobs
queued-first f t job e = by t.jobs e
  where
    by : (js : List Job) → first_job js ≡ Some job → f job ≤ in_jobs f js
    by [] e = cc
    by (j ∷ js) e = let is : j ≡ job = cc in let same : f j ≡ f job = ap f is in omega arith

-- a promise that settles queues what waited for it

pub in_jobs-map : (f : Reaction → ℕ) (g : Job → ℕ) (o : Result Plain Plain) → ((r : Reaction) → f r ≤ g (job_of o r)) → (rs : List Reaction) → of_reactions f rs ≤ in_jobs g (map (job_of o) rs)
in_jobs-map f g o l [] = omega arith
in_jobs-map f g o l (r ∷ rs) = let a = in_jobs-map f g o l rs in let b = l r in omega arith

pub jobs_noted : (q : PromiseId) (t : Table) (r : Option ℕ) → (noted q t r).jobs ≡ t.jobs
jobs_noted q t r = grind arith

settled_queued : (f : Reaction → ℕ) (g : Job → ℕ) (n : ℕ) (p : PromiseId) (o : Result Plain Plain) (t : Table) (e : Entry) → ((r : Reaction) → f r ≤ g (job_of o r)) → n ≤ of_reactions f e.reactions → (x : Option Entry) → x ≡ Some e
    → n ≤ in_jobs g (settle_entry p o t x).jobs
settled_queued f g n p o t e l few None h = cc
settled_queued f g n p o t e l few (Some d) h =
    let is : d ≡ e = cc in
    let z : Table = record t { entries = slice_set t.entries p.0 (Some (ended_as (settled o) d)); jobs = t.jobs ++ map (job_of o) d.reactions } in
    let a = jobs_noted p z d.rank in
    let b = in_jobs-append g t.jobs (map (job_of o) d.reactions) in
    let c : n ≤ of_reactions f d.reactions = rw is few in
    let m = in_jobs-map f g o l d.reactions in
    rw a (omega arith)

pub open_is_pending : (p : PromiseId) (t : Table) (e : Entry) → entry_at t p ≡ Some e → is_open p t ≡ true → is_pending e.outcome ≡ true
open_is_pending p t e there open_ = let o : is_open_entry (Some e) ≡ true = rw there at open_ in open_pending (is_pending e.outcome) e.follows o

pub queued-settle : (f : Reaction → ℕ) (g : Job → ℕ) (n : ℕ) (p : PromiseId) (o : Result Plain Plain) (t : Table) → ((r : Reaction) → f r ≤ g (job_of o r)) → is_open p t ≡ true → Waits f n p t → Queued g n (settle p o t)
unfolding settle
queued-settle f g n p o t l open_ k =
    rw open_ (settled_queued f g n p o t k.entry l (k.waits (open_is_pending p t k.entry k.there open_)) (entry_at t p) k.there)

-- a reaction to a promise that is open is registered with it

react_pending : (f : Reaction → ℕ) (p : PromiseId) (r : Reaction) (t : Table) (e : Entry) (o : Outcome) → entry_at t p ≡ Some e → e.outcome ≡ o → is_pending o ≡ true → Waits f (f r) p (react_by p r t e o)
react_pending f p r t e Pending there is pends =
    let d : Entry = record e { reactions = e.reactions ++ r ∷ [] } in
    record { entry = d; there = entry_at-with_entry_same t p (Some d) (entry_within t p e there); waits = λ h. let m = of_reactions-append f e.reactions (r ∷ []) in omega arith }
react_pending f p r t e (Fulfilled v) there is pends = cc
react_pending f p r t e (Rejected v) there is pends = cc
react_pending f p r t e (Given v) there is pends = cc
react_pending f p r t e (Finished v) there is pends = cc

react_open : (f : Reaction → ℕ) (p : PromiseId) (r : Reaction) (t : Table) (x : Option Entry) → x ≡ entry_at t p → is_open_entry x ≡ true → Waits f (f r) p (react_entry p r t x)
react_open f p r t None h open_ = cc
react_open f p r t (Some e) h open_ = react_pending f p r t e e.outcome (sym h) refl (open_pending (is_pending e.outcome) e.follows open_)

pub waits-react : (f : Reaction → ℕ) (p : PromiseId) (r : Reaction) (t : Table) → is_open p t ≡ true → Waits f (f r) p (react p r t)
unfolding react
waits-react f p r t open_ = react_open f p r t (entry_at t p) refl open_

-- and a promise that is there waits for nothing at least
pub waits-none : (f : Reaction → ℕ) (p : PromiseId) (t : Table) (e : Entry) → entry_at t p ≡ Some e → Waits f 0 p t
waits-none f p t e there = record { entry = e; there = there; waits = λ h. omega arith }

-- what waits for a promise that is pending, and what is queued, weighs as much in all

pub entry_weighs : (f : Reaction → ℕ) (es : List (Option Entry)) (k : ℕ) (e : Entry) → live (slice_get es k) ≡ Some e → of_reactions f e.reactions ≤ of_entries f es
entry_weighs f [] k e h = cc
entry_weighs f (x ∷ xs) zero e h = rw h (omega arith)
entry_weighs f (x ∷ xs) (suc k) e h = let n = entry_weighs f xs k e h in omega arith

pub waits-weigh : (f : Reaction → ℕ) (n : ℕ) (p : PromiseId) (t : Table) → is_open p t ≡ true → Waits f n p t → n ≤ weigh f t
unfolding weigh
waits-weigh f n p t open_ k =
    let a = k.waits (open_is_pending p t k.entry k.there open_) in
    let b = entry_weighs f t.entries p.0 k.entry k.there in omega arith

-- a job that is to be taken weighs what its reaction does
abbrev pub IsWithin : (Job → ℕ) → (Reaction → ℕ) → Type 0
IsWithin g f = (j : Job) → g j ≤ of_job f j

pub jobs_within : (g : Job → ℕ) (f : Reaction → ℕ) → IsWithin g f → (js : List Job) → in_jobs g js ≤ of_jobs f js
jobs_within g f l [] = omega arith
jobs_within g f l (j ∷ js) = let a = jobs_within g f l js in let b = l j in omega arith

pub queued-weigh : (g : Job → ℕ) (f : Reaction → ℕ) (n : ℕ) (t : Table) → IsWithin g f → Queued g n t → n ≤ weigh f t
unfolding weigh
queued-weigh g f n t l k = let a = jobs_within g f l t.jobs in omega arith
