-- A reaction of one kind is registered with one promise alone, and a job of one has a rejection only where this promise was rejected.
use Rattle.std.proofs.Common.{◌≡◌, ℕ, zero, suc, Bool, true, false, ◌||◌, nat_eq, List, [], ◌∷◌, ◌++◌, map, Option, Some, None, Result, Ok, Err, slice_get, refl, sym, ap, subst, ◌∙◌, arith, append-nil}
use Rattle.std.specs.Option.{option_map}
use Rattle.ws_value.specs.declared.ids.PromiseId.{PromiseId}
use Rattle.ws_value.specs.declared.value.Outcome.{Outcome}
use Rattle.ws_value.specs.declared.value.Outcome.TheVariants.{Pending, Fulfilled, Given, Finished, Rejected}
use Rattle.ws_value.specs.declared.value.Plain.{Plain}
use Rattle.ws_value.specs.declared.value.Plain.TheVariants.{Undefined}
use Rattle.ws_steps.specs.declared.calls.{Event.{Event}, Event.TheVariants.{Signal}, HostCall.{HostCall}}
use Rattle.ws_steps.specs.declared.promises.{Job.{Job}, Job.TheVariants.{Reaction as ReactionJob, Follow, Settle, Micro as MicroJob}, Micro.{Micro}, Reaction.{Reaction}, Reaction.TheVariants.{Perform, Adopt}, Step.{Step}}
use Rattle.ws_steps.specs.declared.effects.{Gift.{Gift}, Gift.TheVariants.{This, Fresh}, Use.{Use}, Use.TheVariants.{React, Resolve}}
use Rattle.ws_steps.specs.Promises.{Entry, Table, pending, live, entry_at, outcome_at, settled, ended_as, job_of, enqueue_job, fresh, settle, answer, react, react_entry, react_by, follow, unfollow, use_this, use_gift, fresh_settled, next_id, queue_micro, taken, after_first, after_next_job, watch, with_entry, tell}
use Rattle.ws_steps.specs.Slots.{Slots}
use Rattle.ws_steps.specs.Turns.{call_host}
use Rattle.ws_laws.proofs.Cases.{Puts, settle-cases, answer-cases, react-cases, follow-cases, unfollow-cases, watch-cases}
use Rattle.ws_laws.proofs.Outcomes.{Keeps, keeps-entries, keeps-then, keeps-next, keeps-fresh, keeps-settle, keeps-answer, keeps-react, keeps-follow, keeps-watch, keeps-tell}
use Rattle.ws_promise_laws.proofs.Holds.{place_at, put-placed, eq_promises}
use Rattle.ws_end_laws.proofs.hosts.Plain.{Plainly}
use Rattle.ws_end_laws.proofs.hosts.Reactions.{marked, any_marked, entry_marked}
use Rattle.ws_steps.specs.declared.calls.Event.TheVariants.{Post}

module _ (is : Step → Bool) where
  abbrev pub JobFits : Type 0 → Job → Type 0
  JobFits W (ReactionJob step (Err r) derived) = is step ≡ true → W
  JobFits W _ = Unit {0}

  abbrev pub JobsFit : Type 0 → List Job → Type 0
  JobsFit W [] = Unit {0}
  JobsFit W (j ∷ js) = JobFits W j × JobsFit W js

  jobs-append : (W : Type 0) (xs ys : List Job) → JobsFit W xs → JobsFit W ys → JobsFit W (xs ++ ys)
  jobs-append W [] ys a b = b
  jobs-append W (x ∷ xs) ys a b = (a.0, jobs-append W xs ys a.1 b)

  pub job-weaker : (W V : Type 0) → (W → V) → (j : Job) → JobFits W j → JobFits V j
  job-weaker W V f (ReactionJob step (Err e) derived) k = λ m. f (k m)
  job-weaker W V f (ReactionJob step (Ok v) derived) k = tt
  job-weaker W V f (Follow p q) k = tt
  job-weaker W V f (Settle p o) k = tt
  job-weaker W V f (MicroJob m) k = tt

  pub jobs-weaker : (W V : Type 0) → (W → V) → (js : List Job) → JobsFit W js → JobsFit V js
  jobs-weaker W V f [] k = tt
  jobs-weaker W V f (j ∷ js) k = (job-weaker W V f j k.0, jobs-weaker W V f js k.1)

  none-marked : (r : Reaction) (rs : List Reaction) → any_marked is (r ∷ rs) ≡ false → (marked is r ≡ false) × (any_marked is rs ≡ false)
  none-marked r rs n = by (marked is r) (any_marked is rs) n
    where
      by : (a b : Bool) → (a || b) ≡ false → (a ≡ false) × (b ≡ false)
      by true b e = cc
      by false b e = (refl, e)

  marked-append : (xs : List Reaction) (r : Reaction) → marked is r ≡ false → any_marked is (xs ++ r ∷ []) ≡ any_marked is xs
  marked-append [] r n = rw n refl
  marked-append (x ∷ xs) r n = ap (λ (b : Bool). marked is x || b) (marked-append xs r n)

  job-unmarked : (W : Type 0) (o : Result Plain Plain) (r : Reaction) → marked is r ≡ false → JobFits W (job_of o r)
  job-unmarked W (Ok v) (Perform step derived) n = tt
  job-unmarked W (Err e) (Perform step derived) n = λ m. absurd (cc)
  job-unmarked W o (Adopt p) n = tt

  jobs-unmarked : (W : Type 0) (o : Result Plain Plain) (rs : List Reaction) → any_marked is rs ≡ false → JobsFit W (map (job_of o) rs)
  jobs-unmarked W o [] n = tt
  jobs-unmarked W o (r ∷ rs) n = let k = none-marked r rs n in (job-unmarked W o r k.0, jobs-unmarked W o rs k.1)

  job-fits : (W : Type 0) (o : Result Plain Plain) (r : Reaction) → ((e : Plain) → o ≡ Err e → W) → JobFits W (job_of o r)
  job-fits W (Ok v) (Perform step derived) w = tt
  job-fits W (Err e) (Perform step derived) w = λ m. w e refl
  job-fits W o (Adopt p) w = tt

  jobs-fit : (W : Type 0) (o : Result Plain Plain) (rs : List Reaction) → ((e : Plain) → o ≡ Err e → W) → JobsFit W (map (job_of o) rs)
  jobs-fit W o [] w = tt
  jobs-fit W o (r ∷ rs) w = (job-fits W o r w, jobs-fit W o rs w)

  module _ (p : PromiseId) where
    pub record IsRejected (t : Table) : Type 0 where
      pub reason : Plain
      pub at : outcome_at t p ≡ Some (Rejected reason)

    pub record Told (t : Table) : Type 0 where
      pub registered : (q : PromiseId) → entry_marked is (entry_at t q) ≡ true → q ≡ p
      pub queued : JobsFit (IsRejected t) t.jobs

    pub moves : (t z : Table) → Keeps t z → IsRejected t → IsRejected z
    moves t z k r = record { reason = r.reason; at = k.outcome p (Rejected r.reason) refl r.at }

    entries-told : (t z : Table) → z.entries ≡ t.entries → Keeps t z → JobsFit (IsRejected t) z.jobs → Told t → Told z
    entries-told t z e k js g = record { registered = λ q m. g.registered q (rw e at m); queued = jobs-weaker (IsRejected t) (IsRejected z) (moves t z k) z.jobs js }

    put-told : (q : PromiseId) (t z : Table) (e d : Entry) (more : List Job) → Puts q t z e d more → Keeps t z → (any_marked is d.reactions ≡ true → q ≡ p) → JobsFit (IsRejected z) more → Told t → Told z
    put-told q t z e d more w k mine fits g =
        record {
          registered = λ x m. by x (nat_eq x.0 q.0) refl m;
          queued = subst (λ (js : List Job). JobsFit (IsRejected z) js) (sym w.jobs) (jobs-append (IsRejected z) t.jobs more (jobs-weaker (IsRejected t) (IsRejected z) (moves t z k) t.jobs g.queued) fits);
        }
      where
        by : (x : PromiseId) (same : Bool) → same ≡ nat_eq x.0 q.0 → entry_marked is (entry_at z x) ≡ true → x ≡ p
        by x true s m =
            let at : place_at z x ≡ Some (Some d) = put-placed q e (Some d) t z w.there w.entries x ∙ rw (← s) refl in
            eq_promises x q (sym s) ∙ mine (sym (ap (λ (o : Option (Option Entry)). entry_marked is (live o)) at) ∙ m)
        by x false s m =
            let at : place_at z x ≡ place_at t x = put-placed q e (Some d) t z w.there w.entries x ∙ rw (← s) refl in
            g.registered x (sym (ap (λ (o : Option (Option Entry)). entry_marked is (live o)) at) ∙ m)

    was : (q : PromiseId) (t : Table) (e : Entry) → entry_at t q ≡ Some e → Told t → any_marked is e.reactions ≡ true → q ≡ p
    was q t e h g m = g.registered q (ap (entry_marked is) h ∙ m)

    fresh_marked : (es : List (Option Entry)) (n : ℕ) → entry_marked is (live (slice_get (es ++ Some pending ∷ []) n)) ≡ true → entry_marked is (live (slice_get es n)) ≡ true
    fresh_marked [] zero m = m
    fresh_marked [] (suc n) m = m
    fresh_marked (e ∷ es) zero m = m
    fresh_marked (e ∷ es) (suc n) m = fresh_marked es n m

    pub fresh-told : (t : Table) → Told t → Told (fresh t)
    unfolding fresh
    fresh-told t g = record { registered = λ q m. g.registered q (fresh_marked t.entries q.0 m); queued = jobs-weaker (IsRejected t) (IsRejected (fresh t)) (moves t (fresh t) (keeps-fresh t)) t.jobs g.queued }

    same_number : (n : ℕ) → nat_eq n n ≡ true
    same_number n = grind arith

    settle-told : (q : PromiseId) (o : Result Plain Plain) (t : Table) → Told t → Told (settle q o t)
    settle-told q o t g =
        settle-cases (λ (z : Table). Keeps t z → Told z) q t o (λ k. entries-told t _ refl k g.queued g)
        (λ e z n w k. put-told q t z e (ended_as (settled o) e) (map (job_of o) e.reactions) w k (λ m. absurd (cc)) (fits e z w (any_marked is e.reactions) refl) g) (keeps-settle q o t)
      where
        fits : (e : Entry) (z : Table) → Puts q t z e (ended_as (settled o) e) (map (job_of o) e.reactions) → (b : Bool) → any_marked is e.reactions ≡ b → JobsFit (IsRejected z) (map (job_of o) e.reactions)
        fits e z w false m = jobs-unmarked (IsRejected z) o e.reactions m
        fits e z w true m =
            let at : place_at z q ≡ Some (Some (ended_as (settled o) e)) = put-placed q e (Some (ended_as (settled o) e)) t z w.there w.entries q ∙ rw (same_number q.0) refl in
            let out : outcome_at z q ≡ Some (settled o) = ap (λ (x : Option (Option Entry)). option_map (λ (e : Entry). e.outcome) (live x)) at in
            let here : outcome_at z p ≡ Some (settled o) = subst (λ (x : PromiseId). outcome_at z x ≡ Some (settled o)) (was q t e w.there g m) out in
            jobs-fit (IsRejected z) o e.reactions (λ r i. record { reason = r; at = here ∙ ap (λ (x : Result Plain Plain). Some (settled x)) i })

    answer-told : (q : PromiseId) (o : Outcome) (t : Table) → Told t → Told (answer q o t)
    answer-told q o t g =
        answer-cases (λ (z : Table). Keeps t z → Told z) q t o (λ k. entries-told t _ refl k g.queued g) (λ e z n w k. put-told q t z e (ended_as o e) [] w k (λ m. absurd (cc)) tt g) (keeps-answer q o t)

    micro-told : (m : Micro) (t : Table) → Told t → Told (queue_micro m t)
    unfolding queue_micro
    micro-told m t g = entries-told t (enqueue_job (MicroJob m) t) refl (keeps-entries t (enqueue_job (MicroJob m) t) refl (λ a. a)) (jobs-append (IsRejected t) t.jobs (MicroJob m ∷ []) g.queued (tt, tt)) g

    react-told : (q : PromiseId) (r : Reaction) (t : Table) → marked is r ≡ false → Told t → Told (react q r t)
    react-told q r t n g =
        react-cases (λ (z : Table). Keeps t z → Told z) q t r (λ k. g)
        (λ o k. entries-told t (enqueue_job (job_of o r) t) refl k (jobs-append (IsRejected t) t.jobs (job_of o r ∷ []) g.queued (job-unmarked (IsRejected t) o r n, tt)) g)
        (λ e z u w k. put-told q t z e (record e { reactions = e.reactions ++ r ∷ [] }) [] w k (λ m. was q t e w.there g (sym (marked-append e.reactions r n) ∙ m)) tt g) (keeps-react q r t)

    follow-told : (x q : PromiseId) (t : Table) → Told t → Told (follow x q t)
    follow-told x q t g =
        follow-cases (λ (z : Table). Keeps t z → Told z) x t q (λ k. entries-told t _ refl k g.queued g)
        (λ e z u w k. put-told x t z e (record e { follows = true }) (Follow x q ∷ []) w k (λ m. was x t e w.there g m) (tt, tt) g) (keeps-follow x q t)

    entries-keep : (t z : Table) → z.entries ≡ t.entries → z.astray ≡ t.astray → Keeps t z
    entries-keep t z e a = keeps-entries t z e (λ m. a ∙ m)

    tell-told : (e : Event) (t : Table) → Told t → Told (tell e t)
    tell-told e t g = entries-told t (tell e t) refl (keeps-tell e t) g.queued g

    pub watch-told : (x : PromiseId) (t : Table) → Told t → Told (watch x t)
    watch-told x t g =
        watch-cases (λ (z : Table). Keeps t z → Told z) x t (λ k. g) (λ e z u w k. put-told x t z e (record e { rank = Some t.watched }) [] w k (λ m. was x t e w.there g m) tt g) (keeps-watch x t)

    pub plainly-told : Plainly Told
    plainly-told = record {
      fresh = λ t g. fresh-told t g;
      settle = λ t q o g. settle-told q o t g;
      answer = λ t q o n g. answer-told q o t g;
      micro = λ t m g. micro-told m t g;
      signal = λ t i r g. tell-told (Signal i r) t g;
      post = λ t c m g. tell-told (Post c m) t g;
    }

    -- the use of a promise

    abbrev pub NoUse : Use → Type 0
    NoUse (React step derived) = is step ≡ false
    NoUse (Resolve q) = Unit {0}

    pub use-told : (q : PromiseId) (u : Use) (t : Table) → NoUse u → Told t → Told (use_this q t u)
    use-told q (React step derived) t n g = react-told q (Perform step derived) t n g
    use-told q (Resolve x) t n g = follow-told x q t g

    pub gift-told : (gift : Gift) (u : Use) (t : Table) → NoUse u → Told t → Told (use_gift gift u t)
    unfolding use_gift
    gift-told (This q) u t n g = use-told q u t n g
    gift-told (Fresh o) u t n g = use-told (next_id t) u (fresh_settled o t) n (settle-told (next_id t) o (fresh t) (fresh-told t g))

    pub host-told : (call : HostCall) (u : Use) (s : Slots) → NoUse u → Told s.promises → Told (call_host call u s).promises
    unfolding call_host
    host-told call u s n g = use-told (next_id s.promises) u _ n (tell-told _ (fresh s.promises) (fresh-told s.promises g))

    -- the reaction to the promise itself

    react_known : (step : Step) (derived : Option PromiseId) (t : Table) (e : Entry) (o : Outcome) → entry_at t p ≡ Some e → e.outcome ≡ o → Keeps t (react_by p (Perform step derived) t e o) → Told t → Told (react_by p (Perform step derived) t e o)
    react_known step derived t e Pending h same k g =
        let d : Entry = record e { reactions = e.reactions ++ Perform step derived ∷ [] } in
        put-told p t (with_entry p (Some d) t) e d [] (record { there = h; entries = refl; jobs = sym (append-nil t.jobs); astray = refl }) k (λ m. refl) tt g
    react_known step derived t e (Fulfilled v) h same k g =
        entries-told t (enqueue_job (job_of (Ok v) (Perform step derived)) t) refl k (jobs-append (IsRejected t) t.jobs (job_of (Ok v) (Perform step derived) ∷ []) g.queued (tt, tt)) g
    react_known step derived t e (Rejected r) h same k g =
        let at : outcome_at t p ≡ Some (Rejected r) = ap (λ (x : Option Entry). option_map (λ (e : Entry). e.outcome) x) h ∙ ap (λ (o : Outcome). Some o) same in
        entries-told t (enqueue_job (job_of (Err r) (Perform step derived)) t) refl k (jobs-append (IsRejected t) t.jobs (job_of (Err r) (Perform step derived) ∷ []) g.queued ((λ m. record { reason = r; at = at }), tt)) g
    react_known step derived t e (Given v) h same k g = g
    react_known step derived t e (Finished v) h same k g = g

    react_place : (step : Step) (derived : Option PromiseId) (t : Table) (x : Option Entry) → entry_at t p ≡ x → Keeps t (react_entry p (Perform step derived) t x) → Told t → Told (react_entry p (Perform step derived) t x)
    react_place step derived t None h k g = g
    react_place step derived t (Some e) h k g = react_known step derived t e e.outcome h refl k g

    pub own-told : (step : Step) (derived : Option PromiseId) (t : Table) → Told t → Told (react p (Perform step derived) t)
    unfolding react
    own-told step derived t g = react_place step derived t (entry_at t p) refl (keeps-react p (Perform step derived) t) g

    -- the taking of a job

    keeps-unfollow : (x : PromiseId) (t : Table) → Keeps t (unfollow x t)
    unfolding after_next_job
    keeps-unfollow x t = let y : Table = record t { jobs = Settle x (Ok Undefined) ∷ t.jobs } in keeps-then t y (unfollow x t) (keeps-entries t y refl (λ a. a)) (keeps-next y)

    taken-told : (job : Job) (t : Table) → Told t → Told (taken job t)
    taken-told (ReactionJob step o derived) t g = g
    taken-told (Follow x q) t g = react-told q (Adopt x) t refl g
    taken-told (Settle x o) t g =
        unfollow-cases (λ (z : Table). Keeps t z → Told z) x t (λ k. entries-told t _ refl k g.queued g)
        (λ e z u w k. put-told x t z e (record e { follows = false }) [] w k (λ m. was x t e w.there g m) tt g) (keeps-unfollow x t)
    taken-told (MicroJob m) t g = g

    first-told : (js : List Job) (t : Table) → js ≡ t.jobs → Told t → Told (after_first t js)
    first-told [] t e g = g
    first-told (job ∷ js) t e g =
        let fits : JobsFit (IsRejected t) (job ∷ js) = subst (λ (js : List Job). JobsFit (IsRejected t) js) (sym e) g.queued in
        let z : Table = record t { jobs = js } in
        taken-told job z (record { registered = g.registered; queued = jobs-weaker (IsRejected t) (IsRejected z) (moves t z (keeps-entries t z refl (λ a. a))) js fits.1 })

    pub next-told : (t : Table) → Told t → Told (after_next_job t)
    unfolding after_next_job
    next-told t g = first-told t.jobs t refl g

    -- before there is any: none is registered, none is queued
    pub none-told : (t : Table) → ((q : PromiseId) → entry_marked is (entry_at t q) ≡ false) → JobsFit ⊥ t.jobs → Told t
    none-told t n js = record { registered = λ q m. let e = n q in absurd (cc); queued = jobs-weaker ⊥ (IsRejected t) (λ f. absurd f) t.jobs js }
