-- Where reactions of one kind are registered, and with which outcome their jobs are queued: that of a promise with which they were registered.
use Rattle.std.proofs.Common.{◌≡◌, ℕ, zero, suc, Bool, true, false, nat_eq, List, [], ◌∷◌, ◌++◌, map, Option, Some, None, Result, Ok, Err, slice_get, refl, sym, ap, subst, ◌∙◌, arith, append-nil}
use Rattle.std.specs.Option.{option_map}
use Rattle.ws_value.specs.declared.ids.PromiseId.{PromiseId}
use Rattle.ws_value.specs.declared.value.Outcome.{Outcome}
use Rattle.ws_value.specs.declared.value.Outcome.TheVariants.{Pending, Fulfilled, Given, Finished, Rejected}
use Rattle.ws_value.specs.declared.value.Plain.{Plain}
use Rattle.ws_steps.specs.declared.{calls.Event.{Event}, calls.Event.TheVariants.{Signal, Post}}
use Rattle.ws_steps.specs.declared.{promises.Job.{Job}, promises.Micro.{Micro}, promises.Reaction.{Reaction}, promises.Reaction.TheVariants.{Perform, Adopt}, promises.Step.{Step}}
use Rattle.ws_steps.specs.declared.promises.Job.TheVariants.{Reaction as ReactionJob, Follow, Settle, Micro as MicroJob}
use Rattle.ws_steps.specs.Promises.{Entry, Table, pending, live, entry_at, is_pending, settled, ended_as, job_of, enqueue_job, fresh, settle, answer, react, react_entry, react_by, follow, unfollow, queue_micro, taken, after_first, after_next_job, watch, with_entry, tell}
use Rattle.ws_laws.proofs.Cases.{Puts, settle-cases, answer-cases, react-cases, follow-cases, unfollow-cases, watch-cases}
use Rattle.ws_laws.proofs.Outcomes.{Keeps, keeps-fresh, keeps-settle, keeps-answer, keeps-react, keeps-follow, keeps-micro, keeps-tell, keeps-watch, keeps-next, keeps-entries}
use Rattle.ws_promise_laws.proofs.Holds.{place_at, put-placed, eq_promises}
use Rattle.ws_end_laws.proofs.hosts.Plain.{Plainly}
use Rattle.ws_end_laws.proofs.hosts.Reactions.{marked, any_marked, entry_marked}
use Rattle.ws_end_laws.specs.successes.Heard.{Among, IsOutcome}

settled-over : (o : Result Plain Plain) → is_pending (settled o) ≡ false
settled-over o = grind arith

pub outcome-keeps : (t z : Table) (ds : List PromiseId) (o : Result Plain Plain) → Keeps t z → IsOutcome t ds o → IsOutcome z ds o
outcome-keeps t z ds o k a = record { promise = a.promise; among = a.among; outcome = k.outcome a.promise (settled o) (settled-over o) a.outcome }

module _ (is : Step → Bool) where
  -- the job of such a reaction is queued only with an outcome of which this holds
  abbrev pub JobFits : (Result Plain Plain → Type 0) → Job → Type 0
  JobFits W (ReactionJob step o derived) = is step ≡ true → W o
  JobFits W _ = Unit {0}

  abbrev pub JobsFit : (Result Plain Plain → Type 0) → List Job → Type 0
  JobsFit W [] = Unit {0}
  JobsFit W (j ∷ js) = JobFits W j × JobsFit W js

  jobs-append : (W : Result Plain Plain → Type 0) (xs ys : List Job) → JobsFit W xs → JobsFit W ys → JobsFit W (xs ++ ys)
  jobs-append W [] ys a b = b
  jobs-append W (x ∷ xs) ys a b = (a.0, jobs-append W xs ys a.1 b)

  marked-append : (xs : List Reaction) (r : Reaction) → marked is r ≡ false → any_marked is (xs ++ r ∷ []) ≡ any_marked is xs
  marked-append [] r n = grind arith
  marked-append (x ∷ xs) r n = let m = marked-append xs r n in grind arith

  job-unmarked : (W : Result Plain Plain → Type 0) (o : Result Plain Plain) (r : Reaction) → marked is r ≡ false → JobFits W (job_of o r)
  job-unmarked W o (Perform step derived) n = λ m. absurd (cc)
  job-unmarked W o (Adopt p) n = tt

  none_marked : (r : Reaction) (rs : List Reaction) → any_marked is (r ∷ rs) ≡ false → (marked is r ≡ false) × (any_marked is rs ≡ false)
  none_marked r rs n = (grind arith, grind arith)

  jobs-unmarked : (W : Result Plain Plain → Type 0) (o : Result Plain Plain) (rs : List Reaction) → any_marked is rs ≡ false → JobsFit W (map (job_of o) rs)
  jobs-unmarked W o [] n = tt
  jobs-unmarked W o (r ∷ rs) n = let m = none_marked r rs n in (job-unmarked W o r m.0, jobs-unmarked W o rs m.1)

  job-fits : (W : Result Plain Plain → Type 0) (o : Result Plain Plain) (r : Reaction) → W o → JobFits W (job_of o r)
  job-fits W o (Perform step derived) w = λ m. w
  job-fits W o (Adopt p) w = tt

  jobs-fit : (W : Result Plain Plain → Type 0) (o : Result Plain Plain) (rs : List Reaction) → W o → JobsFit W (map (job_of o) rs)
  jobs-fit W o [] w = tt
  jobs-fit W o (r ∷ rs) w = (job-fits W o r w, jobs-fit W o rs w)

  settled-jobs : (W : Result Plain Plain → Type 0) (b : Bool) (o : Result Plain Plain) (rs : List Reaction) → b ≡ any_marked is rs → (any_marked is rs ≡ true → W o) → JobsFit W (map (job_of o) rs)
  settled-jobs W true o rs e w = jobs-fit W o rs (w (sym e))
  settled-jobs W false o rs e w = jobs-unmarked W o rs (sym e)

  job-weaker : (W V : Result Plain Plain → Type 0) → ((o : Result Plain Plain) → W o → V o) → (j : Job) → JobFits W j → JobFits V j
  job-weaker W V f (ReactionJob step o derived) k = λ m. f o (k m)
  job-weaker W V f (Follow p q) k = tt
  job-weaker W V f (Settle p o) k = tt
  job-weaker W V f (MicroJob m) k = tt

  jobs-weaker : (W V : Result Plain Plain → Type 0) → ((o : Result Plain Plain) → W o → V o) → (js : List Job) → JobsFit W js → JobsFit V js
  jobs-weaker W V f [] k = tt
  jobs-weaker W V f (j ∷ js) k = (job-weaker W V f j k.0, jobs-weaker W V f js k.1)

  -- such reactions are registered only with one of these promises, and their jobs are queued only with the outcome of one
  pub record Heeds (ds : List PromiseId) (t : Table) : Type 0 where
    pub registered : (q : PromiseId) → entry_marked is (entry_at t q) ≡ true → Among q ds
    pub queued : JobsFit (IsOutcome t ds) t.jobs

  pub heeds-more : (ds es : List PromiseId) (t : Table) → ((q : PromiseId) → Among q ds → Among q es) → Heeds ds t → Heeds es t
  heeds-more ds es t f g = record {
    registered = λ q m. f q (g.registered q m);
    queued = jobs-weaker (IsOutcome t ds) (IsOutcome t es) (λ o a. record { promise = a.promise; among = f a.promise a.among; outcome = a.outcome }) t.jobs g.queued;
  }

  module _ (ds : List PromiseId) where
    later : (t z : Table) → Keeps t z → (js : List Job) → JobsFit (IsOutcome t ds) js → JobsFit (IsOutcome z ds) js
    later t z k js f = jobs-weaker (IsOutcome t ds) (IsOutcome z ds) (λ o a. outcome-keeps t z ds o k a) js f

    -- no place is written
    entries-heeds : (t z : Table) (more : List Job) → z.entries ≡ t.entries → z.jobs ≡ t.jobs ++ more → Keeps t z → JobsFit (IsOutcome z ds) more → Heeds ds t → Heeds ds z
    entries-heeds t z more e j k fits g = record {
      registered = λ q m. g.registered q (rw e at m);
      queued = subst (JobsFit (IsOutcome z ds)) (sym j) (jobs-append (IsOutcome z ds) t.jobs more (later t z k t.jobs g.queued) fits);
    }

    pub same-heeds : (t z : Table) → z.entries ≡ t.entries → z.jobs ≡ t.jobs → Keeps t z → Heeds ds t → Heeds ds z
    same-heeds t z e j k g = entries-heeds t z [] e (j ∙ sym (append-nil t.jobs)) k tt g

    -- the place of promise q is written
    put-registered : (q : PromiseId) (t z : Table) (e d : Entry) (more : List Job) → Puts q t z e d more → (any_marked is d.reactions ≡ true → Among q ds) → ((p : PromiseId) → entry_marked is (entry_at t p) ≡ true → Among p ds)
        → (p : PromiseId) (same : Bool) → same ≡ nat_eq p.0 q.0 → entry_marked is (entry_at z p) ≡ true → Among p ds
    put-registered q t z e d more w here others p true s m =
        let eq : p ≡ q = eq_promises p q (sym s) in
        let at : place_at z p ≡ Some (Some d) = put-placed q e (Some d) t z w.there w.entries p ∙ rw (← s) refl in
        subst (λ (c : PromiseId). Among c ds) (sym eq) (here (rw at at m))
    put-registered q t z e d more w here others p false s m =
        let at : place_at z p ≡ place_at t p = put-placed q e (Some d) t z w.there w.entries p ∙ rw (← s) refl in
        others p (rw at at m)

    put-heeds : (q : PromiseId) (t z : Table) (e d : Entry) (more : List Job) → Puts q t z e d more → (any_marked is d.reactions ≡ true → Among q ds) → Keeps t z → JobsFit (IsOutcome z ds) more → Heeds ds t → Heeds ds z
    put-heeds q t z e d more w here k fits g = record {
      registered = λ p m. put-registered q t z e d more w here (λ p m. g.registered p m) p (nat_eq p.0 q.0) refl m;
      queued = subst (JobsFit (IsOutcome z ds)) (sym w.jobs) (jobs-append (IsOutcome z ds) t.jobs more (later t z k t.jobs g.queued) fits);
    }

    there-marked : (t : Table) (q : PromiseId) (e : Entry) → entry_at t q ≡ Some e → Heeds ds t → any_marked is e.reactions ≡ true → Among q ds
    there-marked t q e h g m = g.registered q (rw h m)

    fresh_marked : (es : List (Option Entry)) (n : ℕ) → entry_marked is (live (slice_get (es ++ Some pending ∷ []) n)) ≡ true → entry_marked is (live (slice_get es n)) ≡ true
    fresh_marked [] zero m = m
    fresh_marked [] (suc n) m = m
    fresh_marked (e ∷ es) zero m = m
    fresh_marked (e ∷ es) (suc n) m = fresh_marked es n m

    pub fresh-heeds : (t : Table) → Heeds ds t → Heeds ds (fresh t)
    unfolding fresh
    fresh-heeds t g = record { registered = λ q m. g.registered q (fresh_marked t.entries q.0 m); queued = later t (fresh t) (keeps-fresh t) t.jobs g.queued }

    pub answer-heeds : (t : Table) (p : PromiseId) (o : Outcome) → Heeds ds t → Heeds ds (answer p o t)
    answer-heeds t p o g =
        answer-cases (λ z. Keeps t z → Heeds ds z) p t o (λ k. same-heeds t _ refl refl k g) (λ e z n w k. put-heeds p t z e (ended_as o e) [] w (λ m. absurd (cc)) k tt g) (keeps-answer p o t)

    pub micro-heeds : (t : Table) (m : Micro) → Heeds ds t → Heeds ds (queue_micro m t)
    unfolding queue_micro
    micro-heeds t m g = entries-heeds t (enqueue_job (MicroJob m) t) (MicroJob m ∷ []) refl refl (keeps-micro m t) (tt, tt) g

    same_number : (n : ℕ) → nat_eq n n ≡ true
    same_number n = grind arith

    -- a promise is settled with which such a reaction was registered
    pub settle-heeds : (t : Table) (p : PromiseId) (o : Result Plain Plain) → Heeds ds t → Heeds ds (settle p o t)
    settle-heeds t p o g =
        settle-cases (λ z. Keeps t z → Heeds ds z) p t o (λ k. same-heeds t _ refl refl k g)
        (λ e z n u k. put-heeds p t z e (ended_as (settled o) e) (map (job_of o) e.reactions) u (λ m. absurd (cc)) k
        (settled-jobs (IsOutcome z ds) (any_marked is e.reactions) o e.reactions refl (λ m. now e z u (there-marked t p e u.there g m))) g) (keeps-settle p o t)
      where
        now : (e : Entry) (z : Table) → Puts p t z e (ended_as (settled o) e) (map (job_of o) e.reactions) → Among p ds → IsOutcome z ds o
        now e z u a =
            let at : place_at z p ≡ Some (Some (ended_as (settled o) e)) = put-placed p e (Some (ended_as (settled o) e)) t z u.there u.entries p ∙ rw (same_number p.0) refl in
            record { promise = p; among = a; outcome = ap (λ (x : Option (Option Entry)). option_map (λ (e : Entry). e.outcome) (live x)) at }

    -- a reaction of another kind
    pub react-heeds : (p : PromiseId) (r : Reaction) (t : Table) → marked is r ≡ false → Heeds ds t → Heeds ds (react p r t)
    react-heeds p r t n g =
        react-cases (λ z. Keeps t z → Heeds ds z) p t r (λ k. g) (λ o k. entries-heeds t (enqueue_job (job_of o r) t) (job_of o r ∷ []) refl refl k (job-unmarked (IsOutcome (enqueue_job (job_of o r) t) ds) o r n, tt) g)
        (λ e z u w k. put-heeds p t z e (record e { reactions = e.reactions ++ r ∷ [] }) [] w (λ m. there-marked t p e w.there g (sym (marked-append e.reactions r n) ∙ m)) k tt g) (keeps-react p r t)

    -- one of this kind, with one of these promises
    known_by : (p : PromiseId) (step : Step) (derived : Option PromiseId) (t : Table) (e : Entry) (o : Outcome) → entry_at t p ≡ Some e → e.outcome ≡ o → Among p ds → Heeds ds t → Keeps t (react_by p (Perform step derived) t e o)
        → Heeds ds (react_by p (Perform step derived) t e o)
    known_by p step derived t e Pending h is a g k =
        let d : Entry = record e { reactions = e.reactions ++ Perform step derived ∷ [] } in
        let u : Puts p t (with_entry p (Some d) t) e d [] = record { there = h; entries = refl; jobs = sym (append-nil t.jobs); astray = refl } in
        put-heeds p t (with_entry p (Some d) t) e d [] u (λ m. a) k tt g
    known_by p step derived t e (Fulfilled v) h is a g k =
        let z : Table = enqueue_job (job_of (Ok v) (Perform step derived)) t in
        entries-heeds t z (job_of (Ok v) (Perform step derived) ∷ []) refl refl k
        ((λ m. record { promise = p; among = a; outcome = ap (λ (x : Option Entry). option_map (λ (e : Entry). e.outcome) x) h ∙ ap (λ (o : Outcome). Some o) is }), tt) g
    known_by p step derived t e (Rejected r) h is a g k =
        let z : Table = enqueue_job (job_of (Err r) (Perform step derived)) t in
        entries-heeds t z (job_of (Err r) (Perform step derived) ∷ []) refl refl k
        ((λ m. record { promise = p; among = a; outcome = ap (λ (x : Option Entry). option_map (λ (e : Entry). e.outcome) x) h ∙ ap (λ (o : Outcome). Some o) is }), tt) g
    known_by p step derived t e (Given v) h is a g k = g
    known_by p step derived t e (Finished v) h is a g k = g

    known_place : (p : PromiseId) (step : Step) (derived : Option PromiseId) (t : Table) (x : Option Entry) → entry_at t p ≡ x → Among p ds → Heeds ds t → Keeps t (react_entry p (Perform step derived) t x)
        → Heeds ds (react_entry p (Perform step derived) t x)
    known_place p step derived t None h a g k = g
    known_place p step derived t (Some e) h a g k = known_by p step derived t e e.outcome h refl a g k

    pub known-heeds : (p : PromiseId) (step : Step) (derived : Option PromiseId) (t : Table) → Among p ds → Heeds ds t → Heeds ds (react p (Perform step derived) t)
    unfolding react
    known-heeds p step derived t a g = known_place p step derived t (entry_at t p) refl a g (keeps-react p (Perform step derived) t)

    pub either-heeds : (p : PromiseId) (step : Step) (derived : Option PromiseId) (t : Table) (b : Bool) → is step ≡ b → (is step ≡ true → Among p ds) → Heeds ds t → Heeds ds (react p (Perform step derived) t)
    either-heeds p step derived t true e a g = known-heeds p step derived t (a e) g
    either-heeds p step derived t false e a g = react-heeds p (Perform step derived) t e g

    pub follow-heeds : (p q : PromiseId) (t : Table) → Heeds ds t → Heeds ds (follow p q t)
    follow-heeds p q t g =
        follow-cases (λ z. Keeps t z → Heeds ds z) p t q (λ k. same-heeds t _ refl refl k g)
        (λ e z u w k. put-heeds p t z e (record e { follows = true }) (Follow p q ∷ []) w (λ m. there-marked t p e w.there g m) k (tt, tt) g) (keeps-follow p q t)

    unfollow-heeds : (p : PromiseId) (t : Table) → Keeps t (unfollow p t) → Heeds ds t → Heeds ds (unfollow p t)
    unfollow-heeds p t k g =
        unfollow-cases (λ z. Keeps t z → Heeds ds z) p t (λ k. same-heeds t _ refl refl k g)
        (λ e z u w k. put-heeds p t z e (record e { follows = false }) [] w (λ m. there-marked t p e w.there g m) k tt g) k

    -- what changes no outcome
    pub watch-heeds : (p : PromiseId) (t : Table) → Heeds ds t → Heeds ds (watch p t)
    watch-heeds p t g =
        watch-cases (λ z. Keeps t z → Heeds ds z) p t (λ k. g) (λ e z u w k. put-heeds p t z e (record e { rank = Some t.watched }) [] w (λ m. there-marked t p e w.there g m) k tt g) (keeps-watch p t)

    pub tell-heeds : (e : Event) (t : Table) → Heeds ds t → Heeds ds (tell e t)
    tell-heeds e t g = same-heeds t (tell e t) refl refl (keeps-tell e t) g

    pub heeds-plainly : Plainly (Heeds ds)
    heeds-plainly = record {
      fresh = fresh-heeds;
      settle = settle-heeds;
      answer = λ t p o n g. answer-heeds t p o g;
      micro = micro-heeds;
      signal = λ t i r g. tell-heeds (Signal i r) t g;
      post = λ t c m g. tell-heeds (Post c m) t g;
    }

    taken-heeds : (job : Job) (t : Table) → Keeps t (taken job t) → Heeds ds t → Heeds ds (taken job t)
    taken-heeds (ReactionJob step o derived) t k g = g
    taken-heeds (Follow p q) t k g = react-heeds q (Adopt p) t refl g
    taken-heeds (Settle p o) t k g = unfollow-heeds p t k g
    taken-heeds (MicroJob m) t k g = g

    first-heeds : (js : List Job) (t : Table) → js ≡ t.jobs → Keeps t (after_first t js) → Heeds ds t → Heeds ds (after_first t js)
    first-heeds [] t e k g = g
    first-heeds (job ∷ js) t e k g =
        let z : Table = record t { jobs = js } in
        let fits : JobsFit (IsOutcome t ds) (job ∷ js) = subst (JobsFit (IsOutcome t ds)) (sym e) g.queued in
        taken-heeds job z (record { outcome = k.outcome; mark = k.mark }) (record { registered = g.registered; queued = later t z (keeps-entries t z refl (λ m. m)) js fits.1 })

    pub next-heeds : (t : Table) → Heeds ds t → Heeds ds (after_next_job t)
    unfolding after_next_job
    next-heeds t g = first-heeds t.jobs t refl (keeps-next t) g
