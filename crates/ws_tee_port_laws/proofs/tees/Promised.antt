-- No reaction of one kind waits for a promise, and no job of one has a rejection: each is made with a promise that is fulfilled already.
use Rattle.std.proofs.Common.{◌≡◌, ℕ, zero, suc, Bool, true, false, ◌||◌, nat_eq, List, [], ◌∷◌, ◌++◌, map, Option, Some, Result, Ok, Err, slice_get, refl, sym, ap, subst, ◌∙◌}
use Rattle.ws_value.specs.declared.ids.PromiseId.{PromiseId}
use Rattle.ws_value.specs.declared.value.Outcome.{Outcome}
use Rattle.ws_value.specs.declared.value.Plain.{Plain}
use Rattle.ws_steps.specs.declared.calls.{Event.{Event}, Event.TheVariants.{Signal}, HostCall.{HostCall}}
use Rattle.ws_steps.specs.declared.promises.{Job.{Job}, Job.TheVariants.{Reaction as ReactionJob, Follow, Settle, Micro as MicroJob}, Micro.{Micro}, Reaction.{Reaction}, Reaction.TheVariants.{Perform, Adopt}, Step.{Step}}
use Rattle.ws_steps.specs.declared.effects.{Gift.{Gift}, Gift.TheVariants.{This, Fresh}, Use.{Use}, Use.TheVariants.{React, Resolve}}
use Rattle.ws_steps.specs.Promises.{Entry, Table, pending, live, entry_at, settled, ended, ended_as, job_of, enqueue_job, fresh, settle, answer, react, follow, unfollow, use_this, use_gift, fresh_settled, next_id, queue_micro, taken, after_first, after_next_job, watch, tell}
use Rattle.ws_steps.specs.Slots.{Slots}
use Rattle.ws_steps.specs.Turns.{call_host}
use Rattle.ws_steps.proofs.PromiseLaws.{entry_at-fresh_new, entry_at-with_entry_same, entry_within, settle-open}
use Rattle.ws_laws.proofs.Cases.{Puts, settle-cases, answer-cases, react-cases, follow-cases, unfollow-cases, watch-cases}
use Rattle.ws_promise_laws.proofs.Holds.{place_at, put-placed}
use Rattle.ws_end_laws.proofs.hosts.Plain.{Plainly}
use Rattle.ws_end_laws.proofs.hosts.Reactions.{marked, any_marked, entry_marked}
use Rattle.ws_steps.specs.declared.calls.Event.TheVariants.{Post}

module _ (is : Step → Bool) where
  abbrev pub JobFits : Job → Type 0
  JobFits (ReactionJob step (Err r) derived) = is step ≡ false
  JobFits _ = Unit {0}

  abbrev pub JobsFit : List Job → Type 0
  JobsFit [] = Unit {0}
  JobsFit (j ∷ js) = JobFits j × JobsFit js

  pub record Unheard (t : Table) : Type 0 where
    pub registered : (q : PromiseId) → entry_marked is (entry_at t q) ≡ false
    pub queued : JobsFit t.jobs

  jobs-append : (xs ys : List Job) → JobsFit xs → JobsFit ys → JobsFit (xs ++ ys)
  jobs-append [] ys a b = b
  jobs-append (x ∷ xs) ys a b = (a.0, jobs-append xs ys a.1 b)

  none-marked : (r : Reaction) (rs : List Reaction) → any_marked is (r ∷ rs) ≡ false → (marked is r ≡ false) × (any_marked is rs ≡ false)
  none-marked r rs n = by (marked is r) (any_marked is rs) n
    where
      by : (a b : Bool) → (a || b) ≡ false → (a ≡ false) × (b ≡ false)
      by true b e = cc
      by false b e = (refl, e)

  marked-append : (xs : List Reaction) (r : Reaction) → any_marked is xs ≡ false → marked is r ≡ false → any_marked is (xs ++ r ∷ []) ≡ false
  marked-append [] r n m = rw m refl
  marked-append (x ∷ xs) r n m = let k = none-marked x xs n in rw (k.0) (marked-append xs r k.1 m)

  job-fits : (o : Result Plain Plain) (r : Reaction) → marked is r ≡ false → JobFits (job_of o r)
  job-fits (Ok v) (Perform step derived) n = tt
  job-fits (Err e) (Perform step derived) n = n
  job-fits o (Adopt p) n = tt

  jobs-fit : (o : Result Plain Plain) (rs : List Reaction) → any_marked is rs ≡ false → JobsFit (map (job_of o) rs)
  jobs-fit o [] n = tt
  jobs-fit o (r ∷ rs) n = let k = none-marked r rs n in (job-fits o r k.0, jobs-fit o rs k.1)

  -- each change of promises

  entries-unheard : (t z : Table) → z.entries ≡ t.entries → JobsFit z.jobs → Unheard t → Unheard z
  entries-unheard t z e js g = record { registered = λ q. rw e (g.registered q); queued = js }

  put-unheard : (q : PromiseId) (t z : Table) (e d : Entry) (more : List Job) → Puts q t z e d more → any_marked is d.reactions ≡ false → JobsFit more → Unheard t → Unheard z
  put-unheard q t z e d more w none fits g = record { registered = λ p. by p (nat_eq p.0 q.0) refl; queued = rw w.jobs (jobs-append t.jobs more g.queued fits) }
    where
      by : (p : PromiseId) (same : Bool) → same ≡ nat_eq p.0 q.0 → entry_marked is (entry_at z p) ≡ false
      by p true s =
          let at : place_at z p ≡ Some (Some d) = put-placed q e (Some d) t z w.there w.entries p ∙ rw (← s) refl in
          ap (λ (o : Option (Option Entry)). entry_marked is (live o)) at ∙ none
      by p false s =
          let at : place_at z p ≡ place_at t p = put-placed q e (Some d) t z w.there w.entries p ∙ rw (← s) refl in
          ap (λ (o : Option (Option Entry)). entry_marked is (live o)) at ∙ g.registered p

  was : (q : PromiseId) (t : Table) (e : Entry) → entry_at t q ≡ Some e → Unheard t → any_marked is e.reactions ≡ false
  was q t e h g = sym (ap (entry_marked is) h) ∙ g.registered q

  fresh-unmarked : (es : List (Option Entry)) (n : ℕ) → entry_marked is (live (slice_get es n)) ≡ false → entry_marked is (live (slice_get (es ++ Some pending ∷ []) n)) ≡ false
  fresh-unmarked [] zero m = refl
  fresh-unmarked [] (suc n) m = refl
  fresh-unmarked (e ∷ es) zero m = m
  fresh-unmarked (e ∷ es) (suc n) m = fresh-unmarked es n m

  pub fresh-unheard : (t : Table) → Unheard t → Unheard (fresh t)
  unfolding fresh
  fresh-unheard t g = record { registered = λ q. fresh-unmarked t.entries q.0 (g.registered q); queued = g.queued }

  settle-unheard : (p : PromiseId) (o : Result Plain Plain) (t : Table) → Unheard t → Unheard (settle p o t)
  settle-unheard p o t g =
      settle-cases Unheard p t o (entries-unheard t _ refl g.queued g)
      (λ e z n w. put-unheard p t z e (ended_as (settled o) e) (map (job_of o) e.reactions) w refl (jobs-fit o e.reactions (was p t e w.there g)) g)

  answer-unheard : (p : PromiseId) (o : Outcome) (t : Table) → Unheard t → Unheard (answer p o t)
  answer-unheard p o t g =
      answer-cases Unheard p t o (entries-unheard t _ refl g.queued g) (λ e z n w. put-unheard p t z e (ended_as o e) [] w refl tt g)

  micro-unheard : (m : Micro) (t : Table) → Unheard t → Unheard (queue_micro m t)
  unfolding queue_micro
  micro-unheard m t g = entries-unheard t (enqueue_job (MicroJob m) t) refl (jobs-append t.jobs (MicroJob m ∷ []) g.queued (tt, tt)) g

  react-unheard : (p : PromiseId) (r : Reaction) (t : Table) → marked is r ≡ false → Unheard t → Unheard (react p r t)
  react-unheard p r t n g =
      react-cases Unheard p t r g (λ o. entries-unheard t (enqueue_job (job_of o r) t) refl (jobs-append t.jobs (job_of o r ∷ []) g.queued (job-fits o r n, tt)) g)
      (λ e z u w. put-unheard p t z e (record e { reactions = e.reactions ++ r ∷ [] }) [] w (marked-append e.reactions r (was p t e w.there g) n) tt g)

  follow-unheard : (p q : PromiseId) (t : Table) → Unheard t → Unheard (follow p q t)
  follow-unheard p q t g =
      follow-cases Unheard p t q (entries-unheard t _ refl g.queued g) (λ e z u w. put-unheard p t z e (record e { follows = true }) (Follow p q ∷ []) w (was p t e w.there g) (tt, tt) g)

  unfollow-unheard : (p : PromiseId) (t : Table) → Unheard t → Unheard (unfollow p t)
  unfollow-unheard p t g =
      unfollow-cases Unheard p t (entries-unheard t _ refl g.queued g) (λ e z u w. put-unheard p t z e (record e { follows = false }) [] w (was p t e w.there g) tt g)

  pub watch-unheard : (p : PromiseId) (t : Table) → Unheard t → Unheard (watch p t)
  watch-unheard p t g = watch-cases Unheard p t g (λ e z u w. put-unheard p t z e (record e { rank = Some t.watched }) [] w (was p t e w.there g) tt g)

  tell-unheard : (e : Event) (t : Table) → Unheard t → Unheard (tell e t)
  tell-unheard e t g = entries-unheard t (tell e t) refl g.queued g

  pub plainly-unheard : Plainly Unheard
  plainly-unheard = record {
    fresh = λ t g. fresh-unheard t g;
    settle = λ t p o g. settle-unheard p o t g;
    answer = λ t p o n g. answer-unheard p o t g;
    micro = λ t m g. micro-unheard m t g;
    signal = λ t i r g. tell-unheard (Signal i r) t g;
    post = λ t c m g. tell-unheard (Post c m) t g;
  }

  -- the taking of a job

  taken-unheard : (job : Job) (t : Table) → Unheard t → Unheard (taken job t)
  taken-unheard (ReactionJob step o derived) t g = g
  taken-unheard (Follow p q) t g = react-unheard q (Adopt p) t refl g
  taken-unheard (Settle p o) t g = unfollow-unheard p t g
  taken-unheard (MicroJob m) t g = g

  first-unheard : (js : List Job) (t : Table) → js ≡ t.jobs → Unheard t → Unheard (after_first t js)
  first-unheard [] t e g = g
  first-unheard (job ∷ js) t e g =
      let fits : JobsFit (job ∷ js) = subst (λ (js : List Job). JobsFit js) (sym e) g.queued in taken-unheard job (record t { jobs = js }) (record { registered = g.registered; queued = fits.1 })

  pub next-unheard : (t : Table) → Unheard t → Unheard (after_next_job t)
  unfolding after_next_job
  next-unheard t g = first-unheard t.jobs t refl g

  -- the use of a promise

  abbrev pub NoUse : Use → Type 0
  NoUse (React step derived) = is step ≡ false
  NoUse (Resolve q) = Unit {0}

  use-unheard : (p : PromiseId) (u : Use) (t : Table) → NoUse u → Unheard t → Unheard (use_this p t u)
  use-unheard p (React step derived) t n g = react-unheard p (Perform step derived) t n g
  use-unheard p (Resolve q) t n g = follow-unheard q p t g

  react-ended : (p : PromiseId) (r : Reaction) (t : Table) (v : Plain) → entry_at t p ≡ Some (ended (settled (Ok v))) → react p r t ≡ enqueue_job (job_of (Ok v) r) t
  unfolding react
  react-ended p r t v h = rw h refl

  fulfilled : (t : Table) (v : Plain) → entry_at (fresh_settled (Ok v) t) (next_id t) ≡ Some (ended (settled (Ok v)))
  fulfilled t v =
      let new : entry_at (fresh t) (next_id t) ≡ Some pending = entry_at-fresh_new t (next_id t) refl in
      rw (settle-open (next_id t) (Ok v) (fresh t) [] new) (entry_at-with_entry_same (fresh t) (next_id t) (Some (ended (settled (Ok v)))) (entry_within (fresh t) (next_id t) pending new))

  ok-fits : (v : Plain) (step : Step) (derived : Option PromiseId) → JobFits (job_of (Ok v) (Perform step derived))
  ok-fits v step derived = tt

  resolved-unheard : (v : Plain) (u : Use) (t : Table) → Unheard t → Unheard (use_this (next_id t) (fresh_settled (Ok v) t) u)
  resolved-unheard v (Resolve q) t g = follow-unheard q (next_id t) (fresh_settled (Ok v) t) (settle-unheard (next_id t) (Ok v) (fresh t) (fresh-unheard t g))
  resolved-unheard v (React step derived) t g =
      let z : Table = fresh_settled (Ok v) t in
      let k : Unheard z = settle-unheard (next_id t) (Ok v) (fresh t) (fresh-unheard t g) in
      rw (react-ended (next_id t) (Perform step derived) z v (fulfilled t v))
      (entries-unheard z (enqueue_job (job_of (Ok v) (Perform step derived)) z) refl (jobs-append z.jobs (job_of (Ok v) (Perform step derived) ∷ []) k.queued (tt, tt)) k)

  abbrev pub GiftFits : Gift → Use → Type 0
  GiftFits (This p) u = NoUse u
  GiftFits (Fresh (Ok v)) u = Unit {0}
  GiftFits (Fresh (Err r)) u = NoUse u

  pub gift-unheard : (gift : Gift) (u : Use) (t : Table) → GiftFits gift u → Unheard t → Unheard (use_gift gift u t)
  unfolding use_gift
  gift-unheard (This p) u t n g = use-unheard p u t n g
  gift-unheard (Fresh (Ok v)) u t n g = resolved-unheard v u t g
  gift-unheard (Fresh (Err r)) u t n g = use-unheard (next_id t) u (fresh_settled (Err r) t) n (settle-unheard (next_id t) (Err r) (fresh t) (fresh-unheard t g))

  pub host-unheard : (call : HostCall) (u : Use) (s : Slots) → NoUse u → Unheard s.promises → Unheard (call_host call u s).promises
  unfolding call_host
  host-unheard call u s n g = use-unheard (next_id s.promises) u _ n (tell-unheard _ (fresh s.promises) (fresh-unheard s.promises g))
