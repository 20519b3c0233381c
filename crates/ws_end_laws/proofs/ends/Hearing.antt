-- The reaction of a pipe to the promise of its action: it is registered with that, or its job is queued.
use Rattle.std.proofs.Common.{◌≡◌, ◌⊎◌, inl, inr, ℕ, Bool, true, false, nat_eq, List, [], ◌∷◌, ◌++◌, map, Option, Some, None, Result, Ok, Err, slice_get, refl, sym, ap, subst, ◌∙◌, append-nil}
use Rattle.std.specs.Option.{option_map}
use Rattle.ws_value.specs.declared.{ids.PipeId.{PipeId}, ids.PromiseId.{PromiseId}}
use Rattle.ws_value.specs.declared.value.{Outcome.{Outcome}, Outcome.TheVariants.{Pending, Fulfilled, Given, Finished, Rejected}, Plain.{Plain}}
use Rattle.ws_steps.specs.declared.calls.Event.{Event}
use Rattle.ws_steps.specs.declared.promises.{Job.{Job}, Job.TheVariants.{Reaction as ReactionJob, Follow, Settle as SettleJob, Micro as MicroJob}, Micro.{Micro}, Reaction.{Reaction}, Reaction.TheVariants.{Perform, Adopt}, Step.TheVariants.{PipeActed}}
use Rattle.ws_steps.specs.Promises as promises
use Rattle.ws_steps.specs.Promises.{Table, live, entry_at, outcome_at, is_pending, fresh, settled, settle, answer, react, react_entry, react_by, job_of, follow, unfollow, queue_micro, tell, taken, watch, ended_as, with_entry}
use Rattle.ws_steps.proofs.PromiseLaws.{entry_within, entry_at-with_entry_same, entry_at-with_entry_other, entry_at-fresh, jobs-fresh}
use Rattle.ws_laws.proofs.Cases.{Puts, settle-cases, answer-cases, react-cases, follow-cases, unfollow-cases, watch-cases}
use Rattle.ws_laws.proofs.Outcomes.{Keeps, keeps-fresh, keeps-settle, keeps-answer, keeps-react, keeps-follow, keeps-watch}
use Rattle.ws_laws.proofs.Tables.{eq_numbers, unequal_numbers}

-- a promise that was settled otherwise than by a rejection
abbrev pub is_well : Outcome → Bool
is_well Pending = false
is_well (Fulfilled v) = true
is_well (Given v) = true
is_well (Finished v) = true
is_well (Rejected r) = false

well-settled : (o : Outcome) → is_well o ≡ true → is_pending o ≡ false
well-settled Pending e = cc
well-settled (Fulfilled v) e = refl
well-settled (Given v) e = refl
well-settled (Finished v) e = refl
well-settled (Rejected r) e = cc

module _ (p : PipeId) where
  abbrev pub reaction : Reaction
  reaction = Perform (PipeActed p) None

  -- the reaction is among these
  abbrev pub Hears : List Reaction → Type 0
  Hears [] = ⊥
  Hears (r ∷ rs) = (r ≡ reaction) ⊎ Hears rs

  -- its job, with this outcome, is among these
  abbrev pub Hearing : Result Plain Plain → List Job → Type 0
  Hearing o [] = ⊥
  Hearing o (j ∷ js) = (j ≡ ReactionJob (PipeActed p) o None) ⊎ Hearing o js

  hears-more : (rs qs : List Reaction) → Hears rs → Hears (rs ++ qs)
  hears-more [] qs k = absurd k
  hears-more (r ∷ rs) qs (inl k) = inl k
  hears-more (r ∷ rs) qs (inr k) = inr (hears-more rs qs k)

  hears-last : (rs : List Reaction) → Hears (rs ++ reaction ∷ [])
  hears-last [] = inl refl
  hears-last (r ∷ rs) = inr (hears-last rs)

  pub hearing-more : (o : Result Plain Plain) (js ks : List Job) → Hearing o js → Hearing o (js ++ ks)
  hearing-more o [] ks k = absurd k
  hearing-more o (j ∷ js) ks (inl k) = inl k
  hearing-more o (j ∷ js) ks (inr k) = inr (hearing-more o js ks k)

  hearing-last : (o : Result Plain Plain) (js ks : List Job) → Hearing o ks → Hearing o (js ++ ks)
  hearing-last o [] ks k = k
  hearing-last o (j ∷ js) ks k = inr (hearing-last o js ks k)

  hears-job : (o : Result Plain Plain) (rs : List Reaction) → Hears rs → Hearing o (map (job_of o) rs)
  hears-job o [] k = absurd k
  hears-job o (r ∷ rs) (inl k) = inl (ap (job_of o) k)
  hears-job o (r ∷ rs) (inr k) = inr (hears-job o rs k)

  module _ (d : PromiseId) where
    -- it is registered, and the promise is pending
    pub record Registered (t : Table) : Type 0 where
      pub entry : promises.Entry
      pub there : entry_at t d ≡ Some entry
      pub pending : entry.outcome ≡ Pending
      pub hears : Hears entry.reactions

    -- its job is queued, with a rejection
    pub record Queued (t : Table) : Type 0 where
      pub reason : Plain
      pub among : Hearing (Err reason) t.jobs

    -- the promise was settled otherwise than by a rejection
    pub record Well (t : Table) : Type 0 where
      pub outcome : Outcome
      pub is : outcome_at t d ≡ Some outcome
      pub well : is_well outcome ≡ true

    abbrev pub Heard : Table → Type 0
    Heard t = Registered t ⊎ (Queued t ⊎ Well t)

    queued-more : (t z : Table) (more : List Job) → z.jobs ≡ t.jobs ++ more → Queued t → Queued z
    queued-more t z more e k = record { reason = k.reason; among = subst (Hearing (Err k.reason)) (sym e) (hearing-more (Err k.reason) t.jobs more k.among) }

    pub well-keeps : (t z : Table) → Keeps t z → Well t → Well z
    well-keeps t z k w = record { outcome = w.outcome; is = k.outcome d w.outcome (well-settled w.outcome w.well) w.is; well = w.well }

    -- an operation that writes the place of promise q

    some_entry : (x y : promises.Entry) → ◌≡◌ {A = Option promises.Entry} (Some x) (Some y) → x ≡ y
    some_entry x y e = cc

    other-registered : (q : PromiseId) (t z : Table) (e f : promises.Entry) (more : List Job) → nat_eq q.0 d.0 ≡ false → Puts q t z e f more → Registered t → Registered z
    other-registered q t z e f more n w k =
        let same : entry_at z d ≡ entry_at t d = ap (λ (es : List (Option promises.Entry)). live (slice_get es d.0)) w.entries ∙ entry_at-with_entry_other t q d (Some f) (unequal_numbers q.0 d.0 n) in
        record { entry = k.entry; there = same ∙ k.there; pending = k.pending; hears = k.hears }

    placed : (q : PromiseId) (t z : Table) (e f : promises.Entry) (more : List Job) → nat_eq q.0 d.0 ≡ true → Puts q t z e f more → (entry_at t d ≡ Some e) × (entry_at z d ≡ Some f)
    placed q t z e f more n w =
        let is : q ≡ d = ap (λ (n : ℕ). record { 0 = n }) (eq_numbers q.0 d.0 n) in
        let now : entry_at z q ≡ Some f = ap (λ (es : List (Option promises.Entry)). live (slice_get es q.0)) w.entries ∙ entry_at-with_entry_same t q (Some f) (entry_within t q e w.there) in
        (subst (λ (x : PromiseId). entry_at t x ≡ Some e) is w.there, subst (λ (x : PromiseId). entry_at z x ≡ Some f) is now)

    registered-puts : (q : PromiseId) (t z : Table) (e f : promises.Entry) (more : List Job) (same : Bool) → nat_eq q.0 d.0 ≡ same → Puts q t z e f more → (entry_at z d ≡ Some f → e.outcome ≡ Pending → Hears e.reactions → Heard z) → Registered t → Heard z
    registered-puts q t z e f more false n w here k = inl (other-registered q t z e f more n w k)
    registered-puts q t z e f more true n w here k =
        let at = placed q t z e f more n w in
        let is : k.entry ≡ e = some_entry k.entry e (sym k.there ∙ at.0) in
        here at.1 (subst (λ (x : promises.Entry). x.outcome ≡ Pending) is k.pending) (subst (λ (x : promises.Entry). Hears x.reactions) is k.hears)

    heard-puts : (q : PromiseId) (t z : Table) (e f : promises.Entry) (more : List Job) → Puts q t z e f more → Keeps t z → (entry_at z d ≡ Some f → e.outcome ≡ Pending → Hears e.reactions → Heard z) → Heard t → Heard z
    heard-puts q t z e f more w keeps here (inl k) = registered-puts q t z e f more (nat_eq q.0 d.0) refl w here k
    heard-puts q t z e f more w keeps here (inr (inl k)) = inr (inl (queued-more t z more w.jobs k))
    heard-puts q t z e f more w keeps here (inr (inr k)) = inr (inr (well-keeps t z keeps k))

    -- one that writes none
    heard-same : (t z : Table) (more : List Job) → z.entries ≡ t.entries → z.jobs ≡ t.jobs ++ more → Heard t → Heard z
    heard-same t z more e j (inl k) = inl (record { entry = k.entry; there = ap (λ (es : List (Option promises.Entry)). live (slice_get es d.0)) e ∙ k.there; pending = k.pending; hears = k.hears })
    heard-same t z more e j (inr (inl k)) = inr (inl (queued-more t z more j k))
    heard-same t z more e j (inr (inr k)) =
        inr (inr (record { outcome = k.outcome; is = ap (λ (es : List (Option promises.Entry)). option_map (λ (e : promises.Entry). e.outcome) (live (slice_get es d.0))) e ∙ k.is; well = k.well }))

    outcome-is : (z : Table) (f : promises.Entry) → entry_at z d ≡ Some f → outcome_at z d ≡ Some f.outcome
    outcome-is z f e = ap (λ (x : Option promises.Entry). option_map (λ (e : promises.Entry). e.outcome) x) e

    -- each operation on promises

    settled-heard : (q : PromiseId) (o : Result Plain Plain) (t z : Table) (e : promises.Entry) → Puts q t z e (ended_as (settled o) e) (map (job_of o) e.reactions) → entry_at z d ≡ Some (ended_as (settled o) e) → Hears e.reactions → Heard z
    settled-heard q (Ok v) t z e w at k = inr (inr (record { outcome = Fulfilled v; is = outcome-is z (ended_as (Fulfilled v) e) at; well = refl }))
    settled-heard q (Err r) t z e w at k =
        inr (inl (record { reason = r; among = subst (Hearing (Err r)) (sym w.jobs) (hearing-last (Err r) t.jobs (map (job_of (Err r)) e.reactions) (hears-job (Err r) e.reactions k)) }))

    pub heard-settle : (t : Table) (q : PromiseId) (o : Result Plain Plain) → Heard t → Heard (settle q o t)
    heard-settle t q o h =
        by (settle q o t) (keeps-settle q o t) (settle-cases (λ z. (Keeps t z → Heard z)) q t o (λ k. heard-same t _ [] refl (sym (append-nil t.jobs)) h)
        (λ e z is w k. heard-puts q t z e _ _ w k (λ at g hears. settled-heard q o t z e w at hears) h))
      where
        by : (z : Table) → Keeps t z → (Keeps t z → Heard z) → Heard z
        by z k f = f k

    pub heard-answer : (t : Table) (q : PromiseId) (o : Outcome) → is_well o ≡ true → Heard t → Heard (answer q o t)
    heard-answer t q o well h =
        by (answer q o t) (keeps-answer q o t) (answer-cases (λ z. (Keeps t z → Heard z)) q t o (λ k. heard-same t _ [] refl (sym (append-nil t.jobs)) h)
        (λ e z is w k. heard-puts q t z e _ _ w k (λ at g hears. inr (inr (record { outcome = o; is = outcome-is z (ended_as o e) at; well = well }))) h))
      where
        by : (z : Table) → Keeps t z → (Keeps t z → Heard z) → Heard z
        by z k f = f k

    -- the outcome and the reactions stay, and more may come
    kept : (z : Table) (e f : promises.Entry) → f.outcome ≡ e.outcome → (Hears e.reactions → Hears f.reactions) → entry_at z d ≡ Some f → e.outcome ≡ Pending → Hears e.reactions → Heard z
    kept z e f o r at g k = inl (record { entry = f; there = at; pending = o ∙ g; hears = r k })

    pub heard-react : (t : Table) (q : PromiseId) (r : Reaction) → Heard t → Heard (react q r t)
    heard-react t q r h =
        by (react q r t) (keeps-react q r t) (react-cases (λ z. (Keeps t z → Heard z)) q t r (λ k. h) (λ o k. heard-same t _ (job_of o r ∷ []) refl refl h)
        (λ e z is w k. heard-puts q t z e _ _ w k (kept z e (record e { reactions = e.reactions ++ r ∷ [] }) refl (hears-more e.reactions (r ∷ []))) h))
      where
        by : (z : Table) → Keeps t z → (Keeps t z → Heard z) → Heard z
        by z k f = f k

    pub heard-follow : (t : Table) (q r : PromiseId) → Heard t → Heard (follow q r t)
    heard-follow t q r h =
        by (follow q r t) (keeps-follow q r t) (follow-cases (λ z. (Keeps t z → Heard z)) q t r (λ k. heard-same t _ [] refl (sym (append-nil t.jobs)) h)
        (λ e z is w k. heard-puts q t z e _ _ w k (kept z e (record e { follows = true }) refl (λ k. k)) h))
      where
        by : (z : Table) → Keeps t z → (Keeps t z → Heard z) → Heard z
        by z k f = f k

    pub heard-fresh : (t : Table) → Heard t → Heard (fresh t)
    heard-fresh t (inl k) = inl (record { entry = k.entry; there = entry_at-fresh t d (entry_within t d k.entry k.there) ∙ k.there; pending = k.pending; hears = k.hears })
    heard-fresh t (inr (inl k)) = inr (inl (record { reason = k.reason; among = subst (Hearing (Err k.reason)) (sym (jobs-fresh t)) k.among }))
    heard-fresh t (inr (inr k)) = inr (inr (well-keeps t (fresh t) (keeps-fresh t) k))

    pub registered-fresh : (t : Table) → Registered t → Registered (fresh t)
    registered-fresh t k = record { entry = k.entry; there = entry_at-fresh t d (entry_within t d k.entry k.there) ∙ k.there; pending = k.pending; hears = k.hears }

    pub heard-micro : (t : Table) (m : Micro) → Heard t → Heard (queue_micro m t)
    unfolding queue_micro
    heard-micro t m h = heard-same t (queue_micro m t) (MicroJob m ∷ []) refl refl h

    pub heard-tell : (t : Table) (e : Event) → Heard t → Heard (tell e t)
    heard-tell t e h = heard-same t (tell e t) [] refl (sym (append-nil t.jobs)) h

    pub heard-watch : (t : Table) (q : PromiseId) → Heard t → Heard (watch q t)
    heard-watch t q h =
        by (watch q t) (keeps-watch q t) (watch-cases (λ z. (Keeps t z → Heard z)) q t (λ k. h)
        (λ e z is w k. heard-puts q t z e _ _ w k (kept z e (record e { rank = Some t.watched }) refl (λ k. k)) h))
      where
        by : (z : Table) → Keeps t z → (Keeps t z → Heard z) → Heard z
        by z k f = f k

    -- the taking of a job, where the reaction is registered

    registered-unfollow : (t : Table) (q : PromiseId) → Registered t → Registered (unfollow q t)
    registered-unfollow t q k = unfollow-cases Registered q t (record { entry = k.entry; there = k.there; pending = k.pending; hears = k.hears }) (λ e z is w. by e z w (nat_eq q.0 d.0) refl)
      where
        by : (e : promises.Entry) (z : Table) → Puts q t z e (record e { follows = false }) [] → (same : Bool) → nat_eq q.0 d.0 ≡ same → Registered z
        by e z w false n = other-registered q t z e (record e { follows = false }) [] n w k
        by e z w true n =
            let at = placed q t z e (record e { follows = false }) [] n w in
            let is : k.entry ≡ e = some_entry k.entry e (sym k.there ∙ at.0) in
            record {
              entry = record e { follows = false };
              there = at.1;
              pending = subst (λ (x : promises.Entry). x.outcome ≡ Pending) is k.pending;
              hears = subst (λ (x : promises.Entry). Hears x.reactions) is k.hears;
            }

    registered-react : (t : Table) (q : PromiseId) (r : Reaction) → Registered t → Registered (react q r t)
    registered-react t q r k = react-cases Registered q t r k (λ o. record { entry = k.entry; there = k.there; pending = k.pending; hears = k.hears }) (λ e z is w. by e z w (nat_eq q.0 d.0) refl)
      where
        by : (e : promises.Entry) (z : Table) → Puts q t z e (record e { reactions = e.reactions ++ r ∷ [] }) [] → (same : Bool) → nat_eq q.0 d.0 ≡ same → Registered z
        by e z w false n = other-registered q t z e (record e { reactions = e.reactions ++ r ∷ [] }) [] n w k
        by e z w true n =
            let at = placed q t z e (record e { reactions = e.reactions ++ r ∷ [] }) [] n w in
            let is : k.entry ≡ e = some_entry k.entry e (sym k.there ∙ at.0) in
            record {
              entry = record e { reactions = e.reactions ++ r ∷ [] };
              there = at.1;
              pending = subst (λ (x : promises.Entry). x.outcome ≡ Pending) is k.pending;
              hears = hears-more e.reactions (r ∷ []) (subst (λ (x : promises.Entry). Hears x.reactions) is k.hears);
            }

    pub registered-taken : (job : Job) (t : Table) → Registered t → Registered (taken job t)
    registered-taken (ReactionJob step o derived) t k = k
    registered-taken (Follow q r) t k = registered-react t r (Adopt q) k
    registered-taken (SettleJob q o) t k = registered-unfollow t q k
    registered-taken (MicroJob m) t k = k

    -- the registering itself

    reacts-by : (t : Table) (e : promises.Entry) (o : Outcome) → entry_at t d ≡ Some e → e.outcome ≡ o → Heard (react_by d reaction t e o)
    reacts-by t e Pending at is =
        let f : promises.Entry = record e { reactions = e.reactions ++ reaction ∷ [] } in
        inl (record { entry = f; there = entry_at-with_entry_same t d (Some f) (entry_within t d e at); pending = is; hears = hears-last e.reactions })
    reacts-by t e (Fulfilled v) at is = inr (inr (record { outcome = Fulfilled v; is = outcome-is t e at ∙ ap Some is; well = refl }))
    reacts-by t e (Given v) at is = inr (inr (record { outcome = Given v; is = outcome-is t e at ∙ ap Some is; well = refl }))
    reacts-by t e (Finished v) at is = inr (inr (record { outcome = Finished v; is = outcome-is t e at ∙ ap Some is; well = refl }))
    reacts-by t e (Rejected r) at is = inr (inl (record { reason = r; among = hearing-last (Err r) t.jobs (ReactionJob (PipeActed p) (Err r) None ∷ []) (inl refl) }))

    pub reacts-heard : (t : Table) (e : promises.Entry) → entry_at t d ≡ Some e → Heard (react d reaction t)
    unfolding react
    reacts-heard t e at = subst (λ (x : Option promises.Entry). Heard (react_entry d reaction t x)) (sym at) (reacts-by t e e.outcome at refl)

    -- the promise is there

    pub record Made (t : Table) : Type 0 where
      pub entry : promises.Entry
      pub there : entry_at t d ≡ Some entry

    made-puts : (q : PromiseId) (t z : Table) (e f : promises.Entry) (more : List Job) (same : Bool) → nat_eq q.0 d.0 ≡ same → Puts q t z e f more → Made t → Made z
    made-puts q t z e f more true n w k = record { entry = f; there = (placed q t z e f more n w).1 }
    made-puts q t z e f more false n w k =
        record { entry = k.entry; there = ap (λ (es : List (Option promises.Entry)). live (slice_get es d.0)) w.entries ∙ (entry_at-with_entry_other t q d (Some f) (unequal_numbers q.0 d.0 n) ∙ k.there) }

    made-same : (t z : Table) → z.entries ≡ t.entries → Made t → Made z
    made-same t z e k = record { entry = k.entry; there = ap (λ (es : List (Option promises.Entry)). live (slice_get es d.0)) e ∙ k.there }

    pub made-settle : (t : Table) (q : PromiseId) (o : Result Plain Plain) → Made t → Made (settle q o t)
    made-settle t q o k = settle-cases Made q t o (made-same t _ refl k) (λ e z is w. made-puts q t z e _ _ (nat_eq q.0 d.0) refl w k)

    pub made-answer : (t : Table) (q : PromiseId) (o : Outcome) → Made t → Made (answer q o t)
    made-answer t q o k = answer-cases Made q t o (made-same t _ refl k) (λ e z is w. made-puts q t z e _ _ (nat_eq q.0 d.0) refl w k)

    pub made-react : (t : Table) (q : PromiseId) (r : Reaction) → Made t → Made (react q r t)
    made-react t q r k = react-cases Made q t r k (λ o. made-same t _ refl k) (λ e z is w. made-puts q t z e _ _ (nat_eq q.0 d.0) refl w k)

    pub made-follow : (t : Table) (q r : PromiseId) → Made t → Made (follow q r t)
    made-follow t q r k = follow-cases Made q t r (made-same t _ refl k) (λ e z is w. made-puts q t z e _ _ (nat_eq q.0 d.0) refl w k)

    pub made-fresh : (t : Table) → Made t → Made (fresh t)
    made-fresh t k = record { entry = k.entry; there = entry_at-fresh t d (entry_within t d k.entry k.there) ∙ k.there }

    pub made-micro : (t : Table) (m : Micro) → Made t → Made (queue_micro m t)
    unfolding queue_micro
    made-micro t m k = made-same t (queue_micro m t) refl k

    pub made-tell : (t : Table) (e : Event) → Made t → Made (tell e t)
    made-tell t e k = made-same t (tell e t) refl k

    -- a job that is queued stays so

    pub queued-settle : (t : Table) (q : PromiseId) (o : Result Plain Plain) → Queued t → Queued (settle q o t)
    queued-settle t q o k = settle-cases Queued q t o (record { reason = k.reason; among = k.among }) (λ e z is w. queued-more t z (map (job_of o) e.reactions) w.jobs k)

    pub queued-answer : (t : Table) (q : PromiseId) (o : Outcome) → Queued t → Queued (answer q o t)
    queued-answer t q o k = answer-cases Queued q t o (record { reason = k.reason; among = k.among }) (λ e z is w. queued-more t z [] w.jobs k)

    pub queued-react : (t : Table) (q : PromiseId) (r : Reaction) → Queued t → Queued (react q r t)
    queued-react t q r k = react-cases Queued q t r k (λ o. queued-more t _ (job_of o r ∷ []) refl k) (λ e z is w. queued-more t z [] w.jobs k)

    pub queued-follow : (t : Table) (q r : PromiseId) → Queued t → Queued (follow q r t)
    queued-follow t q r k = follow-cases Queued q t r (record { reason = k.reason; among = k.among }) (λ e z is w. queued-more t z (Follow q r ∷ []) w.jobs k)

    pub queued-fresh : (t : Table) → Queued t → Queued (fresh t)
    queued-fresh t k = record { reason = k.reason; among = subst (Hearing (Err k.reason)) (sym (jobs-fresh t)) k.among }

    pub queued-micro : (t : Table) (m : Micro) → Queued t → Queued (queue_micro m t)
    unfolding queue_micro
    queued-micro t m k = queued-more t (queue_micro m t) (MicroJob m ∷ []) refl k

    pub queued-tell : (t : Table) (e : Event) → Queued t → Queued (tell e t)
    queued-tell t e k = record { reason = k.reason; among = k.among }

    pub queued-watch : (t : Table) (q : PromiseId) → Queued t → Queued (watch q t)
    queued-watch t q k = watch-cases Queued q t k (λ e z is w. queued-more t z [] w.jobs k)

    queued-unfollow : (t : Table) (q : PromiseId) → Queued t → Queued (unfollow q t)
    queued-unfollow t q k = unfollow-cases Queued q t (record { reason = k.reason; among = k.among }) (λ e z is w. queued-more t z [] w.jobs k)

    pub queued-taken : (job : Job) (t : Table) → Queued t → Queued (taken job t)
    queued-taken (ReactionJob step o derived) t k = k
    queued-taken (Follow q r) t k = queued-react t r (Adopt q) k
    queued-taken (SettleJob q o) t k = queued-unfollow t q k
    queued-taken (MicroJob m) t k = k

    -- a host takes an event

    pub registered-event : (t z : Table) → z.entries ≡ t.entries → Registered t → Registered z
    registered-event t z e k = record { entry = k.entry; there = ap (λ (es : List (Option promises.Entry)). live (slice_get es d.0)) e ∙ k.there; pending = k.pending; hears = k.hears }

    -- the promise is pending
    pub registered-pending : (t : Table) → Registered t → outcome_at t d ≡ Some Pending
    registered-pending t k = outcome-is t k.entry k.there ∙ ap Some k.pending
