-- Where reactions of one kind are registered, and with which outcome their jobs are queued.
use Rattle.std.proofs.Common.{◌≡◌, ℕ, zero, suc, Bool, true, false, ◌||◌, ◌⊎◌, inl, inr, nat_eq, List, [], ◌∷◌, ◌++◌, map, Option, Some, None, Result, Ok, Err, slice_get, refl, sym, ap, subst, ◌∙◌, arith, append-nil}
use Rattle.std.specs.Option.{option_map}
use Rattle.ws_value.specs.declared.ids.PromiseId.{PromiseId}
use Rattle.ws_value.specs.declared.value.Outcome.{Outcome}
use Rattle.ws_value.specs.declared.value.Outcome.TheVariants.{Pending, Fulfilled, Given, Finished, Rejected}
use Rattle.ws_value.specs.declared.value.Plain.{Plain}
use Rattle.ws_steps.specs.declared.{calls.Event.{Event}, calls.Event.TheVariants.{Signal}}
use Rattle.ws_steps.specs.declared.{promises.Job.{Job}, promises.Micro.{Micro}, promises.Reaction.{Reaction}, promises.Reaction.TheVariants.{Perform, Adopt}, promises.Step.{Step}}
use Rattle.ws_steps.specs.declared.promises.Job.TheVariants.{Reaction as ReactionJob, Follow, Settle, Micro as MicroJob}
use Rattle.ws_steps.specs.declared.{effects.Gift.{Gift}, effects.Gift.TheVariants.{This, Fresh}, effects.Use.{Use}, effects.Use.TheVariants.{React, Resolve}}
use Rattle.ws_steps.specs.Promises.{Entry, Table, pending, live, entry_at, outcome_at, settled, ended_as, job_of, enqueue_job, fresh, settle, answer, react, react_entry, react_by, follow, unfollow, use_this, use_gift, fresh_settled, next_id, queue_micro, taken, after_first, after_next_job, watch, with_entry, tell}
use Rattle.ws_steps.proofs.PromiseLaws.{entry_at-fresh_new, react-open}
use Rattle.ws_laws.proofs.Cases.{Puts, settle-cases, answer-cases, react-cases, follow-cases, unfollow-cases, watch-cases}
use Rattle.ws_laws.proofs.Outcomes.{Keeps, keeps-fresh, keeps-settle, keeps-answer, keeps-react, keeps-follow, keeps-micro, keeps-tell}
use Rattle.ws_promise_laws.proofs.Holds.{place_at, put-placed, eq_promises}
use Rattle.ws_end_laws.proofs.hosts.Plain.{Plainly}
use Rattle.ws_steps.specs.declared.calls.Event.TheVariants.{Post}

module _ (is : Step → Bool) where
  abbrev pub marked : Reaction → Bool
  marked (Perform step derived) = is step
  marked (Adopt p) = false

  abbrev pub any_marked : List Reaction → Bool
  any_marked [] = false
  any_marked (r ∷ rs) = marked r || any_marked rs

  abbrev pub entry_marked : Option Entry → Bool
  entry_marked None = false
  entry_marked (Some e) = any_marked e.reactions

  -- the job of such a reaction to a fulfilled promise is queued only where this holds
  abbrev pub JobFits : Type 0 → Job → Type 0
  JobFits W (ReactionJob step (Ok v) derived) = is step ≡ true → W
  JobFits W _ = Unit {0}

  abbrev pub JobsFit : Type 0 → List Job → Type 0
  JobsFit W [] = Unit {0}
  JobsFit W (j ∷ js) = JobFits W j × JobsFit W js

  jobs-append : (W : Type 0) (xs ys : List Job) → JobsFit W xs → JobsFit W ys → JobsFit W (xs ++ ys)
  jobs-append W [] ys a b = b
  jobs-append W (x ∷ xs) ys a b = (a.0, jobs-append W xs ys a.1 b)

  marked-append : (xs : List Reaction) (r : Reaction) → marked r ≡ false → any_marked (xs ++ r ∷ []) ≡ any_marked xs
  marked-append [] r n = grind arith
  marked-append (x ∷ xs) r n = let m = marked-append xs r n in grind arith

  job-unmarked : (W : Type 0) (o : Result Plain Plain) (r : Reaction) → marked r ≡ false → JobFits W (job_of o r)
  job-unmarked W (Ok v) (Perform step derived) n = λ m. absurd (cc)
  job-unmarked W (Err e) (Perform step derived) n = tt
  job-unmarked W o (Adopt p) n = tt

  none_marked : (r : Reaction) (rs : List Reaction) → any_marked (r ∷ rs) ≡ false → (marked r ≡ false) × (any_marked rs ≡ false)
  none_marked r rs n = (grind arith, grind arith)

  jobs-unmarked : (W : Type 0) (o : Result Plain Plain) (rs : List Reaction) → any_marked rs ≡ false → JobsFit W (map (job_of o) rs)
  jobs-unmarked W o [] n = tt
  jobs-unmarked W o (r ∷ rs) n = let m = none_marked r rs n in (job-unmarked W o r m.0, jobs-unmarked W o rs m.1)

  -- all fit where the promise is rejected, or what is to hold does
  job-fits : (W : Type 0) (o : Result Plain Plain) (r : Reaction) → ((v : Plain) → o ≡ Ok v → W) → JobFits W (job_of o r)
  job-fits W (Ok v) (Perform step derived) w = λ m. w v refl
  job-fits W (Err e) (Perform step derived) w = tt
  job-fits W o (Adopt p) w = tt

  jobs-fit : (W : Type 0) (o : Result Plain Plain) (rs : List Reaction) → ((v : Plain) → o ≡ Ok v → W) → JobsFit W (map (job_of o) rs)
  jobs-fit W o [] w = tt
  jobs-fit W o (r ∷ rs) w = (job-fits W o r w, jobs-fit W o rs w)

  job-weaker : (W V : Type 0) → (W → V) → (j : Job) → JobFits W j → JobFits V j
  job-weaker W V f (ReactionJob step (Ok v) derived) k = λ m. f (k m)
  job-weaker W V f (ReactionJob step (Err e) derived) k = tt
  job-weaker W V f (Follow p q) k = tt
  job-weaker W V f (Settle p o) k = tt
  job-weaker W V f (MicroJob m) k = tt

  jobs-weaker : (W V : Type 0) → (W → V) → (js : List Job) → JobsFit W js → JobsFit V js
  jobs-weaker W V f [] k = tt
  jobs-weaker W V f (j ∷ js) k = (job-weaker W V f j k.0, jobs-weaker W V f js k.1)

  -- such reactions are registered only with promises of which P holds, and their jobs after a fulfilment are queued only where W holds
  pub record Good (P : PromiseId → Type 0) (W : Type 0) (t : Table) : Type 0 where
    pub registered : (q : PromiseId) → entry_marked (entry_at t q) ≡ true → P q
    pub queued : JobsFit W t.jobs

  pub good-weaker : (P Q : PromiseId → Type 0) (W V : Type 0) (t : Table) → ((q : PromiseId) → P q → Q q) → (W → V) → Good P W t → Good Q V t
  good-weaker P Q W V t f w g = record { registered = λ q m. f q (g.registered q m); queued = jobs-weaker W V w t.jobs g.queued }

  module _ (P : PromiseId → Type 0) (W : Type 0) where
    entries-good : (t z : Table) → z.entries ≡ t.entries → JobsFit W z.jobs → Good P W t → Good P W z
    entries-good t z e js g = record { registered = λ q m. g.registered q (rw e at m); queued = js }

    -- the place of promise q is written
    put-registered : (q : PromiseId) (t z : Table) (e d : Entry) (more : List Job) → Puts q t z e d more → (any_marked d.reactions ≡ true → P q) → ((p : PromiseId) → nat_eq p.0 q.0 ≡ false → entry_marked (entry_at t p) ≡ true → P p)
        → (p : PromiseId) (same : Bool) → same ≡ nat_eq p.0 q.0 → entry_marked (entry_at z p) ≡ true → P p
    put-registered q t z e d more w here others p true s m =
        let eq : p ≡ q = eq_promises p q (sym s) in
        let at : place_at z p ≡ Some (Some d) = put-placed q e (Some d) t z w.there w.entries p ∙ rw (← s) refl in
        subst P (sym eq) (here (rw at at m))
    put-registered q t z e d more w here others p false s m =
        let at : place_at z p ≡ place_at t p = put-placed q e (Some d) t z w.there w.entries p ∙ rw (← s) refl in
        others p (sym s) (rw at at m)

    put-good : (q : PromiseId) (t z : Table) (e d : Entry) (more : List Job) → Puts q t z e d more → (any_marked d.reactions ≡ true → any_marked e.reactions ≡ true) → JobsFit W more → Good P W t → Good P W z
    put-good q t z e d more w less fits g = record {
      registered = λ p m.
          put-registered q t z e d more w (λ n. g.registered q (rw w.there (less n))) (λ p n k. g.registered p k) p (nat_eq p.0 q.0) refl m;
      queued = rw w.jobs (jobs-append W t.jobs more g.queued fits);
    }

    fresh_marked : (es : List (Option Entry)) (n : ℕ) → entry_marked (live (slice_get (es ++ Some pending ∷ []) n)) ≡ true → entry_marked (live (slice_get es n)) ≡ true
    fresh_marked [] zero m = m
    fresh_marked [] (suc n) m = m
    fresh_marked (e ∷ es) zero m = m
    fresh_marked (e ∷ es) (suc n) m = fresh_marked es n m

    pub fresh-good : (t : Table) → Good P W t → Good P W (fresh t)
    unfolding fresh
    fresh-good t g = record { registered = λ q m. g.registered q (fresh_marked t.entries q.0 m); queued = g.queued }

    pub answer-good : (t : Table) (p : PromiseId) (o : Outcome) → Good P W t → Good P W (answer p o t)
    answer-good t p o g = answer-cases (Good P W) p t o (entries-good t _ refl g.queued g) (λ e z n w. put-good p t z e (ended_as o e) [] w (λ m. absurd (cc)) tt g)

    pub micro-good : (t : Table) (m : Micro) → Good P W t → Good P W (queue_micro m t)
    unfolding queue_micro
    micro-good t m g = entries-good t (enqueue_job (MicroJob m) t) refl (jobs-append W t.jobs (MicroJob m ∷ []) g.queued (tt, tt)) g

    pub react-good : (p : PromiseId) (r : Reaction) (t : Table) → marked r ≡ false → Good P W t → Good P W (react p r t)
    react-good p r t n g =
        react-cases (Good P W) p t r g (λ o. entries-good t (enqueue_job (job_of o r) t) refl (jobs-append W t.jobs (job_of o r ∷ []) g.queued (job-unmarked W o r n, tt)) g)
        (λ e z u w. put-good p t z e (record e { reactions = e.reactions ++ r ∷ [] }) [] w (λ m. sym (marked-append e.reactions r n) ∙ m) tt g)

    pub follow-good : (p q : PromiseId) (t : Table) → Good P W t → Good P W (follow p q t)
    follow-good p q t g =
        follow-cases (Good P W) p t q (entries-good t _ refl g.queued g) (λ e z u w. put-good p t z e (record e { follows = true }) (Follow p q ∷ []) w (λ m. m) (tt, tt) g)

    unfollow-good : (p : PromiseId) (t : Table) → Good P W t → Good P W (unfollow p t)
    unfollow-good p t g = unfollow-cases (Good P W) p t (entries-good t _ refl g.queued g) (λ e z u w. put-good p t z e (record e { follows = false }) [] w (λ m. m) tt g)

    pub watch-good : (p : PromiseId) (t : Table) → Good P W t → Good P W (watch p t)
    watch-good p t g = watch-cases (Good P W) p t g (λ e z u w. put-good p t z e (record e { rank = Some t.watched }) [] w (λ m. m) tt g)

    taken-good : (job : Job) (t : Table) → Good P W t → Good P W (taken job t)
    taken-good (ReactionJob step o derived) t g = g
    taken-good (Follow p q) t g = react-good q (Adopt p) t refl g
    taken-good (Settle p o) t g = unfollow-good p t g
    taken-good (MicroJob m) t g = g

    first-good : (js : List Job) (t : Table) → js ≡ t.jobs → Good P W t → Good P W (after_first t js)
    first-good [] t e g = g
    first-good (job ∷ js) t e g =
        let fits : JobsFit W (job ∷ js) = subst (λ (js : List Job). JobsFit W js) (sym e) g.queued in
        taken-good job (record t { jobs = js }) (record { registered = g.registered; queued = fits.1 })

    pub next-good : (t : Table) → Good P W t → Good P W (after_next_job t)
    unfolding after_next_job
    next-good t g = first-good t.jobs t refl g

    -- a promise is settled that isn't to be hosted any more; where it has such a reaction, what is to hold does
    pub settle-good : (Q : PromiseId → Type 0) (p : PromiseId) (o : Result Plain Plain) (t : Table) → (entry_marked (entry_at t p) ≡ true → (v : Plain) → o ≡ Ok v → W)
        → ((q : PromiseId) → nat_eq q.0 p.0 ≡ false → P q → Q q) → Good P W t → (settle p o t).astray ≡ false → Good Q W (settle p o t)
    settle-good Q p o t w f g =
        settle-cases (λ (z : Table). z.astray ≡ false → Good Q W z) p t o (λ a. absurd (cc)) (λ e z n u a. record {
          registered = λ q m. settle-registered Q p o t z e u f g q (nat_eq q.0 p.0) refl m;
          queued = rw u.jobs (jobs-append W t.jobs (map (job_of o) e.reactions) g.queued (settled-jobs (any_marked e.reactions) o e.reactions refl (λ m. w (rw u.there m))));
        })
      where
        settled-jobs : (b : Bool) (o : Result Plain Plain) (rs : List Reaction) → b ≡ any_marked rs → (any_marked rs ≡ true → (v : Plain) → o ≡ Ok v → W) → JobsFit W (map (job_of o) rs)
        settled-jobs true o rs e w = jobs-fit W o rs (w (sym e))
        settled-jobs false o rs e w = jobs-unmarked W o rs (sym e)

        settle-registered : (Q : PromiseId → Type 0) (p : PromiseId) (o : Result Plain Plain) (t z : Table) (e : Entry) → Puts p t z e (ended_as (settled o) e) (map (job_of o) e.reactions)
            → ((q : PromiseId) → nat_eq q.0 p.0 ≡ false → P q → Q q) → Good P W t → (q : PromiseId) (same : Bool) → same ≡ nat_eq q.0 p.0 → entry_marked (entry_at z q) ≡ true → Q q
        settle-registered Q p o t z e u f g q true s m =
            let at : place_at z q ≡ Some (Some (ended_as (settled o) e)) = put-placed p e (Some (ended_as (settled o) e)) t z u.there u.entries q ∙ rw (← s) refl in
            let n : any_marked [] ≡ true = rw at at m in absurd (cc)
        settle-registered Q p o t z e u f g q false s m =
            let at : place_at z q ≡ place_at t q = put-placed p e (Some (ended_as (settled o) e)) t z u.there u.entries q ∙ rw (← s) refl in
            f q (sym s) (g.registered q (rw at at m))

    -- a promise is fulfilled of which P holds
    pub record Overtaken (t : Table) : Type 0 where
      pub promise : PromiseId
      pub holds : P promise
      pub value : Plain
      pub settled : outcome_at t promise ≡ Some (Fulfilled value)

    overtaken-keeps : (t z : Table) → Keeps t z → Overtaken t → Overtaken z
    overtaken-keeps t z k b = record { promise = b.promise; holds = b.holds; value = b.value; settled = k.outcome b.promise (Fulfilled b.value) refl b.settled }

    -- all is good, or a promise is fulfilled of which P holds
    abbrev pub GoodOr : Table → Type 0
    GoodOr t = Good P W t ⊎ Overtaken t

    same_number : (n : ℕ) → nat_eq n n ≡ true
    same_number n = grind arith

    settle-or : (p : PromiseId) (o : Result Plain Plain) (t : Table) → Good P W t → GoodOr (settle p o t)
    settle-or p (Err r) t g =
        settle-cases GoodOr p t (Err r) (inl (entries-good t _ refl g.queued g))
        (λ e z n u. inl (put-good p t z e (ended_as (settled (Err r)) e) (map (job_of (Err r)) e.reactions) u (λ m. absurd (cc)) (jobs-fit W (Err r) e.reactions (λ v f. absurd (cc))) g))
    settle-or p (Ok v) t g = settle-cases GoodOr p t (Ok v) (inl (entries-good t _ refl g.queued g)) (λ e z n u. by e z u (any_marked e.reactions) refl)
      where
        by : (e : Entry) (z : Table) → Puts p t z e (ended_as (settled (Ok v)) e) (map (job_of (Ok v)) e.reactions) → (b : Bool) → b ≡ any_marked e.reactions → GoodOr z
        by e z u true m =
            let at : place_at z p ≡ Some (Some (ended_as (settled (Ok v)) e)) = put-placed p e (Some (ended_as (settled (Ok v)) e)) t z u.there u.entries p ∙ rw (same_number p.0) refl in
            inr (record { promise = p; holds = g.registered p (rw u.there (sym m)); value = v; settled = ap (λ (x : Option (Option Entry)). option_map (λ (e : Entry). e.outcome) (live x)) at })
        by e z u false m = inl (put-good p t z e (ended_as (settled (Ok v)) e) (map (job_of (Ok v)) e.reactions) u (λ n. absurd (cc)) (jobs-unmarked W (Ok v) e.reactions (sym m)) g)

    -- each change of promises but for reactions of this kind
    pub good-plainly : Plainly GoodOr
    good-plainly = record {
      fresh = λ t k. lift t (fresh t) (λ g. inl (fresh-good t g)) (keeps-fresh t) k;
      settle = λ t p o k. lift t (settle p o t) (λ g. settle-or p o t g) (keeps-settle p o t) k;
      answer = λ t p o n k. lift t (answer p o t) (λ g. inl (answer-good t p o g)) (keeps-answer p o t) k;
      micro = λ t m k. lift t (queue_micro m t) (λ g. inl (micro-good t m g)) (keeps-micro m t) k;
      signal = λ t i r k. lift t (tell (Signal i r) t) (λ g. inl (entries-good t (tell (Signal i r) t) refl g.queued g)) (keeps-tell (Signal i r) t) k;
      post = λ t c m k. lift t (tell (Post c m) t) (λ g. inl (entries-good t (tell (Post c m) t) refl g.queued g)) (keeps-tell (Post c m) t) k;
    }
      where
        lift : (t z : Table) → (Good P W t → GoodOr z) → Keeps t z → GoodOr t → GoodOr z
        lift t z f k (inl g) = f g
        lift t z f k (inr b) = inr (overtaken-keeps t z k b)

    -- a promise is used by which no such reaction is made
    abbrev pub UseFits : Use → Type 0
    UseFits (React step derived) = is step ≡ false
    UseFits (Resolve q) = Unit {0}

    pub use-good : (p : PromiseId) (t : Table) (u : Use) → UseFits u → Good P W t → Good P W (use_this p t u)
    use-good p t (React step derived) n g = react-good p (Perform step derived) t n g
    use-good p t (Resolve q) n g = follow-good q p t g

    use-or : (p : PromiseId) (t : Table) (u : Use) → UseFits u → GoodOr t → GoodOr (use_this p t u)
    use-or p t u n (inl g) = inl (use-good p t u n g)
    use-or p t (React step derived) n (inr b) = inr (overtaken-keeps t (react p (Perform step derived) t) (keeps-react p (Perform step derived) t) b)
    use-or p t (Resolve q) n (inr b) = inr (overtaken-keeps t (follow q p t) (keeps-follow q p t) b)

    pub gift-good : (gift : Gift) (u : Use) (t : Table) → UseFits u → Good P W t → GoodOr (use_gift gift u t)
    unfolding use_gift
    gift-good (This p) u t n g = use-or p t u n (inl g)
    gift-good (Fresh o) u t n g = use-or (next_id t) (fresh_settled o t) u n (settle-or (next_id t) o (fresh t) (fresh-good t g))

    -- a reaction of this kind to a promise of which P holds, and which is fulfilled only where what is to hold does
    react_known : (p : PromiseId) (step : Step) (derived : Option PromiseId) (t : Table) (e : Entry) (o : Outcome) → entry_at t p ≡ Some e → e.outcome ≡ o → P p → ((v : Plain) → o ≡ Fulfilled v → W) → Good P W t
        → Good P W (react_by p (Perform step derived) t e o)
    react_known p step derived t e Pending h is k w g =
        let d : Entry = record e { reactions = e.reactions ++ Perform step derived ∷ [] } in
        let u : Puts p t (with_entry p (Some d) t) e d [] = record { there = h; entries = refl; jobs = sym (append-nil t.jobs); astray = refl } in
        record {
          registered = λ q m. put-registered p t (with_entry p (Some d) t) e d [] u (λ n. k) (λ q n m. g.registered q m) q (nat_eq q.0 p.0) refl m;
          queued = g.queued;
        }
    react_known p step derived t e (Fulfilled v) h is k w g = entries-good t (enqueue_job (job_of (Ok v) (Perform step derived)) t) refl (jobs-append W t.jobs (job_of (Ok v) (Perform step derived) ∷ []) g.queued ((λ m. w v refl), tt)) g
    react_known p step derived t e (Rejected r) h is k w g = entries-good t (enqueue_job (job_of (Err r) (Perform step derived)) t) refl (jobs-append W t.jobs (job_of (Err r) (Perform step derived) ∷ []) g.queued (tt, tt)) g
    react_known p step derived t e (Given v) h is k w g = g
    react_known p step derived t e (Finished v) h is k w g = g

    react_place : (p : PromiseId) (step : Step) (derived : Option PromiseId) (t : Table) (x : Option Entry) → entry_at t p ≡ x → P p → ((v : Plain) → outcome_at t p ≡ Some (Fulfilled v) → W) → Good P W t
        → Good P W (react_entry p (Perform step derived) t x)
    react_place p step derived t None h k w g = g
    react_place p step derived t (Some e) h k w g =
        react_known p step derived t e e.outcome h refl k (λ v f. w v (ap (λ (x : Option Entry). option_map (λ (e : Entry). e.outcome) x) h ∙ ap (λ (o : Outcome). Some o) f)) g

    pub marked-good : (p : PromiseId) (step : Step) (derived : Option PromiseId) (t : Table) → P p → ((v : Plain) → outcome_at t p ≡ Some (Fulfilled v) → W) → Good P W t → Good P W (react p (Perform step derived) t)
    unfolding react
    marked-good p step derived t k w g = react_place p step derived t (entry_at t p) refl k w g

    -- all is good where all of it holds
    all_fit : W → (js : List Job) → JobsFit W js
    all_fit w [] = tt
    all_fit w (j ∷ js) = (one j, all_fit w js)
      where
        one : (j : Job) → JobFits W j
        one (ReactionJob step (Ok v) derived) = λ m. w
        one (ReactionJob step (Err e) derived) = tt
        one (Follow p q) = tt
        one (Settle p o) = tt
        one (MicroJob m) = tt

    pub all-good : (t : Table) → ((q : PromiseId) → P q) → W → Good P W t
    all-good t k w = record { registered = λ q m. k q; queued = all_fit w t.jobs }

    -- a new promise, and the telling of it
    pub told-good : (e : Event) (t : Table) → Good P W t → Good P W (tell e (fresh t))
    told-good e t g = entries-good (fresh t) (tell e (fresh t)) refl (fresh-good t g).queued (fresh-good t g)

    -- a new promise gets such a reaction, of which P is to hold
    pub new-good : (step : Step) (derived : Option PromiseId) (e : Event) (t : Table) → P (next_id t) → Good P W t → Good P W (react (next_id t) (Perform step derived) (tell e (fresh t)))
    new-good step derived e t p g =
        let z : Table = tell e (fresh t) in
        let there : entry_at z (next_id t) ≡ Some pending = entry_at-fresh_new t (next_id t) refl in
        let h : Good P W z = told-good e t g in
        let d : Entry = record pending { reactions = Perform step derived ∷ [] } in
        let y : Table = with_entry (next_id t) (Some d) z in
        let w : Puts (next_id t) z y pending d [] = record { there = there; entries = refl; jobs = sym (append-nil z.jobs); astray = refl } in
        rw (react-open (next_id t) (Perform step derived) z [] there) (record {
          registered = λ q m. put-registered (next_id t) z y pending d [] w (λ n. p) (λ q n k. h.registered q k) q (nat_eq q.0 (next_id t).0) refl m;
          queued = h.queued;
        })
