-- What is done with a new promise that is settled at once: the step that reacts to it is queued, and a promise that is resolved with a rejected
-- one is to be rejected, in two jobs.
use Rattle.std.proofs.Common.{◌≡◌, ◌≤◌, ◌⊎◌, inl, inr, ℕ, Bool, true, false, ◌&&◌, nat_eq, List, [], ◌∷◌, ◌++◌, Option, Some, None, Result, Ok, Err, refl, sym, ap, ◌∙◌, arith}
use Rattle.ws_value.specs.declared.ids.PromiseId.{PromiseId}
use Rattle.ws_value.specs.declared.value.Outcome.TheVariants.{Rejected}
use Rattle.ws_value.specs.declared.value.Plain.{Plain}
use Rattle.ws_steps.specs.declared.effects.{Gift.TheVariants.{Fresh}, Use.TheVariants.{React, Resolve}}
use Rattle.ws_steps.specs.declared.promises.{Job.{Job}, Reaction.{Reaction}, Reaction.TheVariants.{Perform, Adopt}, Step.{Step}}
use Rattle.ws_steps.specs.declared.promises.Job.TheVariants.{Reaction as ReactionJob, Follow, Settle}
use Rattle.ws_steps.specs.Promises.{Entry, Table, entry_at, outcome_at, next_id, fresh, is_pending, is_open, is_open_entry, is_following, is_following_entry, settled, ended, job_of, enqueue_job, with_entry, fresh_settled, react, follow, use_gift, first_job, after_first, next_job, after_next_job, watch}
use Rattle.ws_steps.proofs.PromiseLaws.{settle-open, entry_within, entry_at-fresh, entry_at-fresh_new, entry_at-with_entry_same, entry_at-with_entry_other, length-fresh}
use Rattle.ws_laws.proofs.Outcomes.{Keeps, keeps-fresh, keeps-settle, keeps-answer, keeps-react, keeps-follow, keeps-next, keeps-watch, keeps-tell, keeps-micro}
use Rattle.ws_laws.proofs.Rows.{Changes}
use Rattle.ws_laws.proofs.Tables.{eq_numbers}
use Rattle.ws_laws.proofs.Weights.{weigh, of_job}
use Rattle.ws_writable_laws.proofs.Shape.{one_if}
use Rattle.ws_promise_laws.proofs.Holds.{Holds}
use Rattle.ws_promise_laws.proofs.Tokens.{adopts}
use Rattle.ws_transform_laws.proofs.Waiting.{Waits, Queued, in_jobs, in_jobs-append, queued-changes, queued-watch, queued-next, queued-weigh, entry_weighs}
use Rattle.std.proofs.Common.{if◌then◌else◌}

-- a new promise that is settled at once

settled_new : (o : Result Plain Plain) (t : Table) → fresh_settled o t ≡ record (with_entry (next_id t) (Some (ended (settled o))) (fresh t)) { jobs = (fresh t).jobs ++ [] }
settled_new o t = settle-open (next_id t) o (fresh t) [] (entry_at-fresh_new t (next_id t) refl)

new_there : (o : Result Plain Plain) (t : Table) → entry_at (fresh_settled o t) (next_id t) ≡ Some (ended (settled o))
new_there o t =
    let n = length-fresh t in
    ap (λ (z : Table). entry_at z (next_id t)) (settled_new o t) ∙ entry_at-with_entry_same (fresh t) (next_id t) (Some (ended (settled o))) (omega (arith, n))

old_there : (o : Result Plain Plain) (t : Table) (d : PromiseId) (e : Entry) → entry_at t d ≡ Some e → entry_at (fresh_settled o t) d ≡ Some e
old_there o t d e there =
    let w = entry_within t d e there in
    ap (λ (z : Table). entry_at z d) (settled_new o t) ∙ (entry_at-with_entry_other (fresh t) (next_id t) d (Some (ended (settled o))) (λ same. absurd (omega (arith, w, same))) ∙ (entry_at-fresh t d w ∙ there))

react-settled : (p : PromiseId) (r : Reaction) (t : Table) (e : Entry) (o : Result Plain Plain) → entry_at t p ≡ Some e → e.outcome ≡ settled o → react p r t ≡ enqueue_job (job_of o r) t
unfolding react
react-settled p r t e (Ok v) h is = rw (h, is) refl
react-settled p r t e (Err v) h is = rw (h, is) refl

last_queued : (f : Job → ℕ) (j : Job) (js : List Job) → f j ≤ in_jobs f (js ++ j ∷ [])
last_queued f j js = let a = in_jobs-append f js (j ∷ []) in omega arith

pub new-reacts : (f : Job → ℕ) (step : Step) (derived : Option PromiseId) (o : Result Plain Plain) (t : Table) → Queued f (f (ReactionJob step o derived)) (use_gift (Fresh o) (React step derived) t)
unfolding use_gift
new-reacts f step derived o t =
    rw (react-settled (next_id t) (Perform step derived) (fresh_settled o t) (ended (settled o)) o (new_there o t) refl) (last_queued f (ReactionJob step o derived) (fresh_settled o t).jobs)

-- one that is to be rejected

-- it follows this one by the job
abbrev pub follows : PromiseId → PromiseId → Job → ℕ
follows d q (Follow p r) = one_if (nat_eq d.0 p.0 && nat_eq q.0 r.0)
follows d q _ = 0

-- it is rejected by the job
abbrev pub breaks : PromiseId → Job → ℕ
breaks d (Settle p (Err r)) = one_if (nat_eq d.0 p.0)
breaks d _ = 0

abbrev pub IsRejected : PromiseId → Table → Type 0
IsRejected q t = (r : Plain) × (outcome_at t q ≡ Some (Rejected r))

-- it is to follow a rejected promise, or to be settled as that was
pub data Doomed (d : PromiseId) (t : Table) : Type 0 where
  Adopts : (q : PromiseId) → Queued (follows d q) 1 t → IsRejected q t → Doomed d t
  Breaks : Queued (breaks d) 1 t → Doomed d t

kept_rejected : (q : PromiseId) (t z : Table) → Keeps t z → IsRejected q t → IsRejected q z
kept_rejected q t z k r = (r.0, k.outcome q (Rejected r.0) refl r.1)

module _ (d : PromiseId) where
  kept_doomed : (t z : Table) → Keeps t z → ((f : Job → ℕ) → Queued f 1 t → Queued f 1 z) → Doomed d t → Doomed d z
  kept_doomed t z k q (Adopts p w r) = Adopts p (q (follows d p) w) (kept_rejected p t z k r)
  kept_doomed t z k q (Breaks w) = Breaks (q (breaks d) w)

  pub doomed-changes : Changes (Doomed d)
  doomed-changes = record {
    fresh = λ t k. kept_doomed t _ (keeps-fresh t) (λ f w. (queued-changes f 1).fresh t w) k;
    settle = λ t p o k. kept_doomed t _ (keeps-settle p o t) (λ f w. (queued-changes f 1).settle t p o w) k;
    answer = λ t p o n k. kept_doomed t _ (keeps-answer p o t) (λ f w. (queued-changes f 1).answer t p o n w) k;
    react = λ t p r k. kept_doomed t _ (keeps-react p r t) (λ f w. (queued-changes f 1).react t p r w) k;
    follow = λ t p q k. kept_doomed t _ (keeps-follow p q t) (λ f w. (queued-changes f 1).follow t p q w) k;
    micro = λ t m k. kept_doomed t _ (keeps-micro m t) (λ f w. (queued-changes f 1).micro t m w) k;
    tell = λ t e k. kept_doomed t _ (keeps-tell e t) (λ f w. (queued-changes f 1).tell t e w) k;
  }

  pub doomed-watch : (t : Table) (p : PromiseId) → Doomed d t → Doomed d (watch p t)
  doomed-watch t p k = kept_doomed t (watch p t) (keeps-watch p t) (λ f w. queued-watch f 1 t p w) k

  -- by a job that is taken

  rejected_there : (q : PromiseId) (t : Table) (r : Plain) → outcome_at t q ≡ Some (Rejected r) → (e : Entry) × ((entry_at t q ≡ Some e) × (e.outcome ≡ Rejected r))
  rejected_there q t r h = by (entry_at t q) refl
    where
      by : (o : Option Entry) → o ≡ entry_at t q → (e : Entry) × ((entry_at t q ≡ Some e) × (e.outcome ≡ Rejected r))
      by None f = let no = rw (← f) at h in cc
      by (Some e) f = let is : Some e.outcome ≡ Some (Rejected r) = rw (← f) at h in (e, (sym f, cc))

  adopted : (q : PromiseId) (t : Table) → IsRejected q t → Queued (breaks d) 1 (react q (Adopt d) t)
  adopted q t k =
      let e = rejected_there q t k.0 k.1 in
      let one : breaks d (Settle d (Err k.0)) ≡ 1 = grind arith in
      rw (react-settled q (Adopt d) t e.0 (Err k.0) e.1.0 e.1.1) (let l = last_queued (breaks d) (Settle d (Err k.0)) t.jobs in omega (arith, l, one))

  follows-only : (q : PromiseId) (job : Job) → (follows d q job ≡ 0) ⊎ (job ≡ Follow d q)
  follows-only q (Follow p r) = by (nat_eq d.0 p.0) (nat_eq q.0 r.0) refl refl
    where
      by : (a b : Bool) → a ≡ nat_eq d.0 p.0 → b ≡ nat_eq q.0 r.0 → (one_if (a && b) ≡ 0) ⊎ (Follow p r ≡ Follow d q)
      by true true e f =
          let one : d ≡ p = ap (λ (n : ℕ). record { 0 = n }) (eq_numbers d.0 p.0 (sym e)) in
          let two : q ≡ r = ap (λ (n : ℕ). record { 0 = n }) (eq_numbers q.0 r.0 (sym f)) in inr (rw (one, two) refl)
      by true false e f = inl refl
      by false b e f = inl refl
  follows-only q _ = inl refl

  follow_taken : (q : PromiseId) (t : Table) (js : List Job) → t.jobs ≡ js → first_job js ≡ Some (Follow d q) → IsRejected q t → Queued (breaks d) 1 (after_first t js)
  follow_taken q t [] e f k = cc
  follow_taken q t (j ∷ js) e f k = let is : j ≡ Follow d q = cc in rw is (adopted q (record t { jobs = js }) k)

  follow_next : (q : PromiseId) (t : Table) (job : Job) → next_job t ≡ Some job → job ≡ Follow d q → IsRejected q t → Queued (breaks d) 1 (after_next_job t)
  unfolding after_next_job
  follow_next q t job e is r = follow_taken q t t.jobs refl (e ∙ ap (λ (j : Job). Some j) is) r

  pub doomed-next : (t : Table) (job : Job) → next_job t ≡ Some job → breaks d job ≡ 0 → Doomed d t → Doomed d (after_next_job t)
  doomed-next t job e none (Breaks w) = Breaks (queued-next (breaks d) 1 t job e (omega (arith, w, none)))
  doomed-next t job e none (Adopts q w r) = by (follows-only q job)
    where
      by : (follows d q job ≡ 0) ⊎ (job ≡ Follow d q) → Doomed d (after_next_job t)
      by (inl zero_) = Adopts q (queued-next (follows d q) 1 t job e (omega (arith, w, zero_))) (kept_rejected q t (after_next_job t) (keeps-next t) r)
      by (inr is) = Breaks (follow_next q t job e is r)

  -- it is pending

  follows_adopts : (q : PromiseId) (j : Job) → follows d q j ≤ of_job (adopts d) j
  follows_adopts q j = grind arith

  breaks_adopts : (j : Job) → breaks d j ≤ of_job (adopts d) j
  breaks_adopts j = grind arith

  doomed_adopts : (t : Table) → Doomed d t → 1 ≤ weigh (adopts d) t
  doomed_adopts t (Adopts q w r) = queued-weigh (follows d q) (adopts d) 1 t (follows_adopts q) w
  doomed_adopts t (Breaks w) = queued-weigh (breaks d) (adopts d) 1 t breaks_adopts w

  following_when : (b : Bool) → 1 ≤ one_if b → b ≡ true
  following_when b h = grind arith

  pub doomed-follows : (f l : PromiseId → ℕ) (t : Table) → Holds f l t → Doomed d t → is_following d t ≡ true
  doomed-follows f l t h k = let a = doomed_adopts t k in let b = h.led d in following_when (is_following d t) (omega (arith, a, b))

-- what waits for a promise that follows another weighs as much in all

following_pending : (p : PromiseId) (t : Table) (e : Entry) → entry_at t p ≡ Some e → is_following p t ≡ true → is_pending e.outcome ≡ true
following_pending p t e there f = let k : is_following_entry (Some e) ≡ true = rw there at f in by (is_pending e.outcome) e.follows k
  where
    by : (b c : Bool) → (if b then c else false) ≡ true → b ≡ true
    by true c h = refl
    by false c h = cc

pub waits-weigh_following : (f : Reaction → ℕ) (n : ℕ) (p : PromiseId) (t : Table) → is_following p t ≡ true → Waits f n p t → n ≤ weigh f t
unfolding weigh
waits-weigh_following f n p t follows_ k =
    let a = k.waits (following_pending p t k.entry k.there follows_) in
    let b = entry_weighs f t.entries p.0 k.entry k.there in omega (arith, a, b)

-- a promise that is resolved with one that is rejected

open_there : (d : PromiseId) (t : Table) → is_open d t ≡ true → (e : Entry) × ((entry_at t d ≡ Some e) × (is_open_entry (Some e) ≡ true))
open_there d t open_ = by (entry_at t d) refl
  where
    by : (o : Option Entry) → o ≡ entry_at t d → (e : Entry) × ((entry_at t d ≡ Some e) × (is_open_entry (Some e) ≡ true))
    by None f = let no : is_open_entry None ≡ true = rw (← f) at open_ in cc
    by (Some e) f = (e, (sym f, rw (← f) at open_))

follow_queued : (d q : PromiseId) (t : Table) (e : Entry) → entry_at t d ≡ Some e → is_open_entry (Some e) ≡ true → Queued (follows d q) 1 (follow d q t)
unfolding follow
follow_queued d q t e there open_ =
    let one : follows d q (Follow d q) ≡ 1 = grind arith in
    rw (there, open_) (let l = last_queued (follows d q) (Follow d q) t.jobs in omega (arith, l, one))

pub resolves-doomed : (d : PromiseId) (r : Plain) (t : Table) → is_open d t ≡ true → Doomed d (use_gift (Fresh (Err r)) (Resolve d) t)
unfolding use_gift
resolves-doomed d r t open_ =
    let e = open_there d t open_ in
    let z : Table = fresh_settled (Err r) t in
    let there : entry_at z d ≡ Some e.0 = old_there (Err r) t d e.0 e.1.0 in
    let rejected : IsRejected (next_id t) z = (r, rw (new_there (Err r) t) refl) in
    Adopts (next_id t) (follow_queued d (next_id t) z e.0 there e.1.1) (kept_rejected (next_id t) z (follow d (next_id t) z) (keeps-follow d (next_id t) z) rejected)
