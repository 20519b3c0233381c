-- The reactions that are registered and the jobs that are queued, weighed. A job weighs what its reaction did. No operation on
-- promises makes them weigh more, but for the registering of a reaction and the following of a promise.
use Rattle.std.proofs.Common.{◌≡◌, ℕ, ◌+◌, ◌≤◌, zero, suc, List, [], ◌∷◌, ◌++◌, map, Option, Some, None, Result, slice_get, slice_set, refl, ap, arith}
use Rattle.ws_value.specs.declared.ids.PromiseId.{PromiseId}
use Rattle.ws_value.specs.declared.value.Plain.{Plain}
use Rattle.ws_value.specs.declared.value.Outcome.{Outcome}
use Rattle.ws_steps.specs.declared.{promises.Reaction.{Reaction}, promises.Reaction.TheVariants.{Perform, Adopt}, promises.Job.{Job}, promises.Micro.{Micro}}
use Rattle.ws_steps.specs.declared.promises.Job.TheVariants.{Reaction as ReactionJob, Follow, Settle, Micro as MicroJob}
use Rattle.ws_steps.specs.Promises.{Entry, Table, pending, live, fresh, settle, job_of, answer, react, enqueue_job, follow, queue_micro, unfollow, taken, next_job, first_job, after_first, after_next_job, watch, went_astray}
use Rattle.ws_laws.proofs.Cases.{Puts, settle-cases, answer-cases, react-cases, follow-cases, unfollow-cases, watch-cases}

abbrev pub of_reactions : (Reaction → ℕ) → List Reaction → ℕ
of_reactions f [] = 0
of_reactions f (r ∷ rs) = f r + of_reactions f rs

abbrev pub of_entry : (Reaction → ℕ) → Option Entry → ℕ
of_entry f None = 0
of_entry f (Some e) = of_reactions f e.reactions

abbrev pub of_entries : (Reaction → ℕ) → List (Option Entry) → ℕ
of_entries f [] = 0
of_entries f (x ∷ xs) = of_entry f x + of_entries f xs

abbrev pub of_job : (Reaction → ℕ) → Job → ℕ
of_job f (ReactionJob step outcome derived) = f (Perform step derived)
of_job f (Follow p q) = f (Adopt p)
of_job f (Settle p outcome) = f (Adopt p)
of_job f (MicroJob m) = 0

abbrev pub of_jobs : (Reaction → ℕ) → List Job → ℕ
of_jobs f [] = 0
of_jobs f (j ∷ js) = of_job f j + of_jobs f js

-- the weight of what is registered or queued
unfoldable pub weigh : (Reaction → ℕ) → Table → ℕ
weigh f t = of_entries f t.entries + of_jobs f t.jobs

-- sums

of_reactions-append : (f : Reaction → ℕ) (xs ys : List Reaction) → of_reactions f (xs ++ ys) ≡ of_reactions f xs + of_reactions f ys
of_reactions-append f [] ys = omega arith
of_reactions-append f (x ∷ xs) ys = let n = of_reactions-append f xs ys in omega arith

of_jobs-append : (f : Reaction → ℕ) (xs ys : List Job) → of_jobs f (xs ++ ys) ≡ of_jobs f xs + of_jobs f ys
of_jobs-append f [] ys = omega arith
of_jobs-append f (x ∷ xs) ys = let n = of_jobs-append f xs ys in omega arith

of_entries-append : (f : Reaction → ℕ) (xs ys : List (Option Entry)) → of_entries f (xs ++ ys) ≡ of_entries f xs + of_entries f ys
of_entries-append f [] ys = omega arith
of_entries-append f (x ∷ xs) ys = let n = of_entries-append f xs ys in omega arith

of_job-reaction : (f : Reaction → ℕ) (o : Result Plain Plain) (r : Reaction) → of_job f (job_of o r) ≡ f r
of_job-reaction f o r = grind arith

of_jobs-reactions : (f : Reaction → ℕ) (o : Result Plain Plain) (rs : List Reaction) → of_jobs f (map (job_of o) rs) ≡ of_reactions f rs
of_jobs-reactions f o [] = refl
of_jobs-reactions f o (r ∷ rs) = let n = of_jobs-reactions f o rs in let m = of_job-reaction f o r in omega arith

-- a place is written
pub of_entries-set : (f : Reaction → ℕ) (es : List (Option Entry)) (i : ℕ) (x : Option Entry) (e : Entry) → live (slice_get es i) ≡ Some e
    → of_entries f (slice_set es i x) + of_reactions f e.reactions ≡ of_entries f es + of_entry f x
of_entries-set f [] i x e h = cc
of_entries-set f (y ∷ ys) zero x e h = rw h (omega arith)
of_entries-set f (y ∷ ys) (suc i) x e h = let n = of_entries-set f ys i x e h in omega arith

-- the place of a promise is written, and more jobs are queued
weigh-put : (f : Reaction → ℕ) (p : PromiseId) (t z : Table) (e d : Entry) (more : List Job) (n : ℕ) → Puts p t z e d more
    → of_reactions f d.reactions + of_jobs f more ≤ of_reactions f e.reactions + n → weigh f z ≤ weigh f t + n
unfolding weigh
weigh-put f p t z e d more n w few =
    let a = of_entries-set f t.entries p.0 (Some d) e w.there in
    let b = of_jobs-append f t.jobs more in
    let c = ap (of_entries f) w.entries in
    let g = ap (of_jobs f) w.jobs in
    omega arith

-- and no more of it weighs
weigh-put_same : (f : Reaction → ℕ) (p : PromiseId) (t z : Table) (e d : Entry) (more : List Job) → Puts p t z e d more
    → of_reactions f d.reactions + of_jobs f more ≤ of_reactions f e.reactions → weigh f z ≤ weigh f t
weigh-put_same f p t z e d more w few = let n = weigh-put f p t z e d more 0 w (omega arith) in omega arith

-- each operation

weigh-astray : (f : Reaction → ℕ) (t : Table) → weigh f (went_astray t) ≤ weigh f t
unfolding weigh
weigh-astray f t = omega arith

pub weigh-fresh : (f : Reaction → ℕ) (t : Table) → weigh f (fresh t) ≤ weigh f t
unfolding weigh fresh
weigh-fresh f t = let n = of_entries-append f t.entries (Some pending ∷ []) in omega arith

pub weigh-settle : (f : Reaction → ℕ) (p : PromiseId) (o : Result Plain Plain) (t : Table) → weigh f (settle p o t) ≤ weigh f t
weigh-settle f p o t =
    settle-cases (λ z. weigh f z ≤ weigh f t) p t o (weigh-astray f t) (λ e z is w. weigh-put_same f p t z e _ _ w (let d = of_jobs-reactions f o e.reactions in omega arith))

pub weigh-answer : (f : Reaction → ℕ) (p : PromiseId) (o : Outcome) (t : Table) → weigh f (answer p o t) ≤ weigh f t
weigh-answer f p o t = answer-cases (λ z. weigh f z ≤ weigh f t) p t o (weigh-astray f t) (λ e z is w. weigh-put_same f p t z e _ _ w (omega arith))

reacted_job : (f : Reaction → ℕ) (o : Result Plain Plain) (r : Reaction) (t : Table) → weigh f (enqueue_job (job_of o r) t) ≤ weigh f t + f r
unfolding weigh
reacted_job f o r t = let a = of_jobs-append f t.jobs (job_of o r ∷ []) in let b = of_job-reaction f o r in omega arith

pub weigh-react : (f : Reaction → ℕ) (p : PromiseId) (r : Reaction) (t : Table) → weigh f (react p r t) ≤ weigh f t + f r
weigh-react f p r t =
    react-cases (λ z. weigh f z ≤ weigh f t + f r) p t r (omega arith) (λ o. reacted_job f o r t)
    (λ e z is w. weigh-put f p t z e _ _ (f r) w (let b = of_reactions-append f e.reactions (r ∷ []) in omega arith))

pub weigh-micro : (f : Reaction → ℕ) (m : Micro) (t : Table) → weigh f (queue_micro m t) ≤ weigh f t
unfolding queue_micro weigh
weigh-micro f m t = let n = of_jobs-append f t.jobs (MicroJob m ∷ []) in omega arith

pub weigh-follow : (f : Reaction → ℕ) (p q : PromiseId) (t : Table) → weigh f (follow p q t) ≤ weigh f t + f (Adopt p)
weigh-follow f p q t =
    follow-cases (λ z. weigh f z ≤ weigh f t + f (Adopt p)) p t q (let n = weigh-astray f t in omega arith) (λ e z is w. weigh-put f p t z e _ _ (f (Adopt p)) w (omega arith))

weigh-unfollow : (f : Reaction → ℕ) (p : PromiseId) (t : Table) → weigh f (unfollow p t) ≤ weigh f t
weigh-unfollow f p t = unfollow-cases (λ z. weigh f z ≤ weigh f t) p t (weigh-astray f t) (λ e z is w. weigh-put_same f p t z e _ _ w (omega arith))

-- what a job that is taken out of the queue weighs no more; a promise that follows another reacts to it from then on
abbrev pub taken_off : (Reaction → ℕ) → Job → ℕ
taken_off f (ReactionJob step outcome derived) = f (Perform step derived)
taken_off f (Follow p q) = 0
taken_off f (Settle p outcome) = f (Adopt p)
taken_off f (MicroJob m) = 0

weigh-taken : (f : Reaction → ℕ) (job : Job) (t : Table) → weigh f (taken job t) + taken_off f job ≤ weigh f t + of_job f job
weigh-taken f job t = grind (arith, weigh-react, weigh-unfollow)

abbrev pub of_next : (Reaction → ℕ) → Option Job → ℕ
of_next f None = 0
of_next f (Some job) = taken_off f job

after_one : (f : Reaction → ℕ) (t : Table) (js : List Job) → js ≡ t.jobs → weigh f (after_first t js) + of_next f (first_job js) ≤ weigh f t
unfolding weigh
after_one f t [] h = omega arith
after_one f t (j ∷ js) h =
    let a = weigh-taken f j (record t { jobs = js }) in
    let b : of_jobs f (j ∷ js) ≡ of_jobs f t.jobs = ap (of_jobs f) h in
    omega arith

pub weigh-next : (f : Reaction → ℕ) (t : Table) → weigh f (after_next_job t) + of_next f (next_job t) ≤ weigh f t
unfolding after_next_job
weigh-next f t = after_one f t t.jobs refl

pub weigh-watch : (f : Reaction → ℕ) (p : PromiseId) (t : Table) → weigh f (watch p t) ≤ weigh f t
weigh-watch f p t = watch-cases (λ z. weigh f z ≤ weigh f t) p t (omega arith) (λ e z is w. weigh-put_same f p t z e _ _ w (omega arith))
