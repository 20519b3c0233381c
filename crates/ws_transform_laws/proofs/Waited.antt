-- The writes of a transform stream that wait for its backpressure to change, all of them: they wait at its change promise, while there is
-- backpressure, or are among the jobs.
use Rattle.std.proofs.Common.{◌≡◌, ◌≤◌, ℕ, ◌+◌, true, [], ◌∷◌, ◌++◌, map, Option, Some, None, Result, slice_get, slice_set, refl, sym, ap, ◌∙◌, arith, ⊎_elim, subst}
use Rattle.ws_value.specs.declared.{ids.PromiseId.{PromiseId}, value.Outcome.{Outcome}, value.Outcome.TheVariants.{Pending, Fulfilled, Given, Finished, Rejected}, value.Plain.{Plain}}
use Rattle.ws_steps.specs.declared.effects.{Effect.{Effect}}
use Rattle.ws_steps.specs.declared.effects.Effect.TheVariants.{Give, CallHost}
use Rattle.ws_steps.specs.declared.promises.{Reaction.{Reaction}, Step.{Step}, Step.TheVariants.{TransformChanged}}
use Rattle.ws_steps.specs.declared.transform.TransformId.{TransformId}
use Rattle.ws_steps.specs.Promises.{Entry, Table, entry_at, settle, settle_entry, job_of, is_pending, is_open, is_open_entry, settled, ended_as, react, react_by, react_entry}
use Rattle.ws_steps.specs.declared.effects.{Gift.TheVariants.{This}, Use.TheVariants.{React}}
use Rattle.ws_steps.specs.Slots.{Slots, as_transform}
use Rattle.ws_steps.specs.Promises.{fresh, use_gift}
use Rattle.ws_transform_laws.proofs.Backpressure.{IsTurned}
use Rattle.ws_transform_laws.proofs.Changing.{row-turns}
use Rattle.ws_transform_laws.proofs.Keeping.{row-change}
use Rattle.ws_transform_laws.proofs.Stages.{change-open}
use Rattle.ws_steps.specs.declared.promises.Reaction.TheVariants.{Perform}
use Rattle.ws_promise_laws.proofs.Realm.{Sound}
use Rattle.ws_steps.specs.Transform as transform
use Rattle.ws_steps.specs.Turns.{row}
use Rattle.ws_steps.proofs.PromiseLaws.{entry_within, entry_at-with_entry_same}
use Rattle.ws_laws.proofs.Rows.{row-changes}
use Rattle.ws_laws.proofs.Weights.{weigh, of_job, of_reactions, weigh-fresh, weigh-settle, weigh-answer, weigh-micro}
use Rattle.ws_writable_laws.proofs.Agenda.{weight-gift, weight-host, weight-tell}
use Rattle.ws_writable_laws.proofs.Shape.{one_if, of_reaction, weight, leads_to}
use Rattle.ws_transform_laws.specs.TransformHistory.{is_same_transform}
use Rattle.ws_transform_laws.proofs.Sparing.{row-spares}
use Rattle.ws_transform_laws.proofs.Waiting.{Waits, Queued, in_jobs, waits-changes, queued-changes, open_is_pending, of_reactions-append, in_jobs-append, in_jobs-map, jobs_noted, entry_weighs, jobs_within, waits-none}

-- what waits for a promise that is open, and what is queued, weigh no more than all
pub waits-total : (f : Reaction → ℕ) (n : ℕ) (p : PromiseId) (t : Table) → is_open p t ≡ true → Waits f n p t → n + in_jobs (of_job f) t.jobs ≤ weigh f t
unfolding weigh
waits-total f n p t open_ k =
    let a = k.waits (open_is_pending p t k.entry k.there open_) in
    let b = entry_weighs f t.entries p.0 k.entry k.there in
    let c = jobs_within (of_job f) f (λ j. omega arith) t.jobs in omega arith

-- one reaction more
more_pending : (f : Reaction → ℕ) (n : ℕ) (p : PromiseId) (r : Reaction) (t : Table) (e : Entry) (o : Outcome) → n ≤ of_reactions f e.reactions → entry_at t p ≡ Some e → e.outcome ≡ o → is_pending o ≡ true → Waits f (n + f r) p (react_by p r t e o)
more_pending f n p r t e Pending few there is pends =
    let d : Entry = record e { reactions = e.reactions ++ r ∷ [] } in
    record { entry = d; there = entry_at-with_entry_same t p (Some d) (entry_within t p e there); waits = λ h. let m = of_reactions-append f e.reactions (r ∷ []) in omega arith }
more_pending f n p r t e (Fulfilled v) few there is pends = cc
more_pending f n p r t e (Rejected v) few there is pends = cc
more_pending f n p r t e (Given v) few there is pends = cc
more_pending f n p r t e (Finished v) few there is pends = cc

more_open : (f : Reaction → ℕ) (n : ℕ) (p : PromiseId) (r : Reaction) (t : Table) → is_open p t ≡ true → Waits f n p t → (x : Option Entry) → x ≡ entry_at t p → Waits f (n + f r) p (react_entry p r t x)
more_open f n p r t open_ w None h = let no : ◌≡◌ {A = Option Entry} None (Some w.entry) = h ∙ w.there in cc
more_open f n p r t open_ w (Some e) h =
    let same : ◌≡◌ {A = Option Entry} (Some e) (Some w.entry) = h ∙ w.there in
    let is : e ≡ w.entry = cc in
    let pends = open_is_pending p t e (sym h) open_ in
    let few : n ≤ of_reactions f e.reactions = rw is (w.waits (ap (λ (x : Entry). is_pending x.outcome) (sym is) ∙ pends)) in
    more_pending f n p r t e e.outcome few (sym h) refl pends

pub waits-more : (f : Reaction → ℕ) (n : ℕ) (p : PromiseId) (r : Reaction) (t : Table) → is_open p t ≡ true → Waits f n p t → Waits f (n + f r) p (react p r t)
unfolding react
waits-more f n p r t open_ w = more_open f n p r t open_ w (entry_at t p) refl

pub waits-open : (f : Reaction → ℕ) (p : PromiseId) (t : Table) → is_open p t ≡ true → Waits f 0 p t
waits-open f p t open_ = by (entry_at t p) refl
  where
    by : (x : Option Entry) → x ≡ entry_at t p → Waits f 0 p t
    by None h = let no : is_open_entry None ≡ true = rw (← h) at open_ in cc
    by (Some e) h = waits-none f p t e (sym h)

-- what waited for a promise that settles is queued, behind what was
settled-more : (f : Reaction → ℕ) (n m : ℕ) (p : PromiseId) (o : Result Plain Plain) (t : Table) (e : Entry) → ((r : Reaction) → f r ≤ of_job f (job_of o r)) → n ≤ of_reactions f e.reactions → m ≤ in_jobs (of_job f) t.jobs → (x : Option Entry) → x ≡ Some e
    → n + m ≤ in_jobs (of_job f) (settle_entry p o t x).jobs
settled-more f n m p o t e l few had None h = cc
settled-more f n m p o t e l few had (Some d) h =
    let is : d ≡ e = cc in
    let z : Table = record t { entries = slice_set t.entries p.0 (Some (ended_as (settled o) d)); jobs = t.jobs ++ map (job_of o) d.reactions } in
    let a = jobs_noted p z d.rank in
    let b = in_jobs-append (of_job f) t.jobs (map (job_of o) d.reactions) in
    let c : n ≤ of_reactions f d.reactions = rw is few in
    let q = in_jobs-map f (of_job f) o l d.reactions in
    rw a (omega arith)

pub settle-more : (f : Reaction → ℕ) (n m : ℕ) (p : PromiseId) (o : Result Plain Plain) (t : Table) → ((r : Reaction) → f r ≤ of_job f (job_of o r)) → is_open p t ≡ true → Waits f n p t → m ≤ in_jobs (of_job f) t.jobs → n + m ≤ in_jobs (of_job f) (settle p o t).jobs
unfolding settle
settle-more f n m p o t l open_ k had =
    rw open_ (settled-more f n m p o t k.entry l (k.waits (open_is_pending p t k.entry k.there open_)) had (entry_at t p) k.there)

module _ (t : TransformId) where
  -- the step by which a write that waited goes on
  abbrev pub changing : Step → ℕ
  changing (TransformChanged u d) = one_if (is_same_transform t u)
  changing _ = 0

  -- a job weighs what its reaction did
  same-job : (o : Result Plain Plain) (r : Reaction) → of_reaction changing r ≤ of_job (of_reaction changing) (job_of o r)
  same-job o r = grind arith

  abbrev pub all_waiting : Slots → ℕ
  all_waiting s = weight changing s.promises

  abbrev pub queued : Slots → ℕ
  queued s = in_jobs (of_job (of_reaction changing)) s.promises.jobs

  -- no effect makes more of them wait, but what gives one
  within : (m n k : ℕ) → m ≤ n → n ≤ k → m ≤ k
  within m n k a b = omega arith

  pub row-waiting : (e : Effect) (s : Slots) → all_waiting (row e s).slots ≤ all_waiting s + leads_to changing e
  unfolding row
  row-waiting (Give gift u) s = weight-gift changing gift u s.promises
  row-waiting (CallHost call u) s = weight-host changing call u s
  row-waiting e s = row-spares (λ z. weight changing z ≤ weight changing s.promises + leads_to changing e) (record {
    fresh = λ z h. within _ _ _ (weigh-fresh (of_reaction changing) z) h;
    settle = λ z p o h. within _ _ _ (weigh-settle (of_reaction changing) p o z) h;
    answer = λ z p o h. within _ _ _ (weigh-answer (of_reaction changing) p o z) h;
    micro = λ z m h. within _ _ _ (weigh-micro (of_reaction changing) m z) h;
    post = λ z c m h. rw (weight-tell changing _ z) h;
    signal = λ z i c h. rw (weight-tell changing _ z) h;
  }) e s (λ u. u) (omega arith)

  row-queued : (e : Effect) (s : Slots) → queued s ≤ queued (row e s).slots
  row-queued e s = row-changes (Queued (of_job (of_reaction changing)) (queued s)) (queued-changes (of_job (of_reaction changing)) (queued s)) e s (omega arith)

  -- where they wait
  pub data Where (s : Slots) : Type 0 where
    InJobs : all_waiting s ≤ queued s → Where s
    AtChange : (n : ℕ) (x : transform.Slots) → slice_get s.transforms t.0 ≡ Some x → x.backpressure ≡ true → Waits (of_reaction changing) n x.change s.promises → all_waiting s ≤ n + queued s → Where s

  few : (s : Slots) → queued s ≤ all_waiting s
  unfolding weigh
  few s = let c = jobs_within (of_job (of_reaction changing)) (of_reaction changing) (λ j. omega arith) s.promises.jobs in omega arith

  fresh-queued : (m : ℕ) (z : Table) → m ≤ in_jobs (of_job (of_reaction changing)) z.jobs → m ≤ in_jobs (of_job (of_reaction changing)) (fresh z).jobs
  fresh-queued m z k = (queued-changes (of_job (of_reaction changing)) m).fresh z k

  -- an effect that registers none leaves them where they are, or queues all
  pub row-where : (f : PromiseId → ℕ) (e : Effect) (s : Slots) → Sound f s → leads_to changing e ≡ 0 → Where s → Where (row e s).slots
  row-where f e s k none (InJobs l) = let a = row-waiting e s in let b = row-queued e s in InJobs (omega arith)
  row-where f e s k none (AtChange n x at press w l) =
      let a = row-waiting e s in
      let b = row-queued e s in
      let r = row-turns t e x s at in
      ⊎_elim
      (λ same.
      AtChange n r.after r.there (same.1 ∙ press) (rw same.0 (row-changes (Waits (of_reaction changing) n x.change) (waits-changes (of_reaction changing) n x.change) e s w)) (omega arith))
      (λ turned.
      let c = settle-more (of_reaction changing) n (queued s) x.change transform.done s.promises (same-job transform.done) (change-open f t x s k at) w (omega arith) in
      let d : n + queued s ≤ queued (row e s).slots = rw turned (fresh-queued (n + queued s) (settle x.change transform.done s.promises) c) in
      InJobs (omega arith))
      r.turned

  -- and queues none, where it may not change the backpressure
  pub row-no-more : (f g : PromiseId → ℕ) (e : Effect) (s : Slots) → Sound g (row e s).slots → leads_to changing e ≡ 0 → (IsTurned t e → ⊥) → Where s → queued (row e s).slots ≤ queued s
  row-no-more f g e s k none n (InJobs l) = let a = row-waiting e s in let b = few (row e s).slots in omega arith
  row-no-more f g e s k none n (AtChange m x at press w l) =
      let a = row-waiting e s in
      let r = row-turns t e x s at in
      let same : r.after.change ≡ x.change = ap (λ (o : Option transform.Slots). (as_transform o).change) (sym r.there) ∙ (row-change t e s n ∙ ap (λ (o : Option transform.Slots). (as_transform o).change) at) in
      let there : Waits (of_reaction changing) m r.after.change (row e s).slots.promises = rw same (row-changes (Waits (of_reaction changing) m x.change) (waits-changes (of_reaction changing) m x.change) e s w) in
      let total = waits-total (of_reaction changing) m r.after.change (row e s).slots.promises (change-open g t r.after (row e s).slots k r.there) there in omega arith

  -- one that registers one
  changing-self : (d : PromiseId) → changing (TransformChanged t d) ≡ 1
  changing-self d = grind arith

  abbrev pub asks : transform.Slots → PromiseId → Effect
  asks x d = Give (This x.change) (React (TransformChanged t d) None)

  asked : (f g : PromiseId → ℕ) (n : ℕ) (x : transform.Slots) (d : PromiseId) (s : Slots) → Sound f s → Sound g (row (asks x d) s).slots → slice_get s.transforms t.0 ≡ Some x → x.backpressure ≡ true → Waits (of_reaction changing) n x.change s.promises
      → all_waiting s ≤ n + queued s → Where (row (asks x d) s).slots × (queued (row (asks x d) s).slots ≤ queued s)
  unfolding row use_gift
  asked f g n x d s k l at press w bound =
      let e : Effect = asks x d in
      let one = changing-self d in
      let a = row-waiting e s in
      let b = row-queued e s in
      let v : Waits (of_reaction changing) (n + 1) x.change (react x.change (Perform (TransformChanged t d) None) s.promises) =
      rw one at (waits-more (of_reaction changing) n x.change (Perform (TransformChanged t d) None) s.promises (change-open f t x s k at) w) in
      let total = waits-total (of_reaction changing) (n + 1) x.change (row e s).slots.promises (change-open g t x (row e s).slots l at) v in
      (AtChange (n + 1) x at press v (omega arith), omega arith)

  pub row-asks : (f g : PromiseId → ℕ) (x : transform.Slots) (d : PromiseId) (s : Slots) → Sound f s → Sound g (row (asks x d) s).slots → slice_get s.transforms t.0 ≡ Some x → x.backpressure ≡ true → Where s
      → Where (row (asks x d) s).slots × (queued (row (asks x d) s).slots ≤ queued s)
  row-asks f g x d s k l at press (InJobs bound) = asked f g 0 x d s k l at press (waits-open (of_reaction changing) x.change s.promises (change-open f t x s k at)) (omega (arith, bound))
  row-asks f g x d s k l at press (AtChange n y there p w bound) =
      let both : ◌≡◌ {A = Option transform.Slots} (Some y) (Some x) = sym there ∙ at in
      let is : y ≡ x = cc in
      asked f g n x d s k l at press (subst (λ (q : transform.Slots). Waits (of_reaction changing) n q.change s.promises) is w) bound
