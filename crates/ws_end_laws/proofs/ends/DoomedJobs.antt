-- The job by which a pipe hears of its action is the only one, where its reaction is registered or its job is queued.
use Rattle.std.proofs.Common.{◌≡◌, ◌⊎◌, inl, inr, ℕ, zero, suc, ◌+◌, ◌≤◌, Bool, true, false, nat_eq, List, [], ◌∷◌, ◌++◌, Option, Some, None, Result, Ok, Err, slice_get, refl, sym, ap, subst, ◌∙◌, arith}
use Rattle.ws_steps.specs.declared.promises.Step.TheVariants.{PortUnblocked}
use Rattle.ws_steps.specs.declared.promises.Micro.TheVariants.{TeeHand}
use Rattle.ws_steps.specs.declared.promises.Step.TheVariants.{TeeEnds}
use Rattle.ws_value.specs.declared.{ids.PipeId.{PipeId}, ids.PromiseId.{PromiseId}, value.Plain.{Plain}}
use Rattle.ws_steps.specs.declared.promises.{Job.{Job}, Job.TheVariants.{Reaction as ReactionJob, Follow, Settle as SettleJob, Micro as MicroJob}, Micro.TheVariants.{PipeLook, PipeWrite, PipeNoParts}, Reaction.{Reaction}}
use Rattle.ws_steps.specs.declared.promises.{Step.{Step}, Step.TheVariants.{ReadableStart, ReadablePull, ReturnUndefined, WritableStart, WritableWrite, WritableClose, WritableAbort, PipeEnds, PipeReady, PipeWrote, PipeActed, PipePart, TransformChanged, Transformed, TransformFlushed, TransformAborted, TransformCancelled}}
use Rattle.ws_steps.specs.Jobs.{job_effects, resolved, returned, steps}
use Rattle.ws_steps.specs.Promises as promises
use Rattle.ws_steps.specs.Promises.{Table, live, entry_at, next_job, first_job, after_first, after_next_job}
use Rattle.ws_laws.proofs.Lists.{Each}
use Rattle.ws_laws.proofs.Weights.{of_reactions, of_entry, of_entries, of_job, of_jobs, weigh}
use Rattle.ws_promise_laws.proofs.PipeActs.{ends_action}
use Rattle.ws_promise_laws.proofs.Tokens.{one_if}
use Rattle.ws_writable_laws.proofs.Shape.{of_reaction, weight}
use Rattle.ws_end_laws.proofs.ends.Doomed.{NotTold}
use Rattle.ws_end_laws.proofs.ends.Hearing as hearing
use Rattle.ws_end_laws.proofs.ends.Hearing.{Registered, Queued, reaction, Hearing}

module _ (p : PipeId) where
  abbrev counted : Reaction → ℕ
  counted r = of_reaction (ends_action p) r

  self : one_if (nat_eq p.0 p.0) ≡ 1
  self = ap one_if same
    where
      same : nat_eq p.0 p.0 ≡ true
      same = grind arith

  hears-counts : (rs : List Reaction) → hearing.Hears p rs → 1 ≤ of_reactions counted rs
  hears-counts [] k = absurd k
  hears-counts (r ∷ rs) (inl k) = let n : counted r ≡ 1 = ap counted k ∙ self in omega (arith, n)
  hears-counts (r ∷ rs) (inr k) = let n = hears-counts rs k in omega (arith, n)

  entry-counts : (es : List (Option promises.Entry)) (n : ℕ) (e : promises.Entry) → live (slice_get es n) ≡ Some e → 1 ≤ of_reactions counted e.reactions → 1 ≤ of_entries counted es
  entry-counts [] n e k m = cc
  entry-counts (x ∷ xs) zero e k m = let same : x ≡ Some e = k in let c : of_entry counted x ≡ of_reactions counted e.reactions = ap (of_entry counted) same in omega (arith, c, m)
  entry-counts (x ∷ xs) (suc n) e k m = let r = entry-counts xs n e k m in omega (arith, r)

  job-counts : (o : Result Plain Plain) (js : List Job) → Hearing p o js → 1 ≤ of_jobs counted js
  job-counts o [] k = absurd k
  job-counts o (j ∷ js) (inl k) = let n : of_job counted j ≡ 1 = ap (of_job counted) k ∙ self in omega (arith, n)
  job-counts o (j ∷ js) (inr k) = let n = job-counts o js k in omega (arith, n)

  -- a job that isn't the pipe's tells it nothing

  resolved-told : (derived : Option PromiseId) (o : Result Plain Plain) → Each (NotTold p) (resolved derived o)
  resolved-told None o = tt
  resolved-told (Some q) o = (tt, tt)

  not_it : (b : Bool) → one_if b ≤ 0 → b ≡ false
  not_it false n = refl
  not_it true n = let m : 1 ≤ 0 = n in absurd (omega arith)

  steps-told : (step : Step) (o r : Result Plain Plain) (derived : Option PromiseId) → ends_action p step ≤ 0 → Each (NotTold p) (steps step o ++ resolved derived r)
  steps-told (ReadableStart j) o r derived n = (tt, resolved-told derived r)
  steps-told (ReadablePull j) o r derived n = (tt, resolved-told derived r)
  steps-told ReturnUndefined o r derived n = resolved-told derived r
  steps-told (WritableStart j) o r derived n = (tt, resolved-told derived r)
  steps-told (WritableWrite j) o r derived n = (tt, resolved-told derived r)
  steps-told (WritableClose j) o r derived n = (tt, resolved-told derived r)
  steps-told (WritableAbort j q) o r derived n = (tt, resolved-told derived r)
  steps-told (PipeEnds q) o r derived n = (tt, resolved-told derived r)
  steps-told (TeeEnds t) o r derived n = (tt, resolved-told derived r)
  steps-told (PipeReady q) o r derived n = (tt, resolved-told derived r)
  steps-told (PipeWrote q) o r derived n = (tt, resolved-told derived r)
  steps-told (PipeActed q) o r derived n = (not_it (nat_eq p.0 q.0) n, resolved-told derived r)
  steps-told (PipePart q) o r derived n = (tt, resolved-told derived r)
  steps-told (TransformChanged t d) (Ok v) r derived n = (tt, resolved-told derived r)
  steps-told (PortUnblocked c d) (Ok v) r derived n = (tt, resolved-told derived r)
  steps-told (TransformChanged t d) (Err e) r derived n = (tt, resolved-told derived r)
  steps-told (PortUnblocked c d) (Err e) r derived n = (tt, resolved-told derived r)
  steps-told (Transformed t) (Ok v) r derived n = resolved-told derived r
  steps-told (Transformed t) (Err e) r derived n = (tt, resolved-told derived r)
  steps-told (TransformFlushed t d) o r derived n = (tt, resolved-told derived r)
  steps-told (TransformAborted t d e) o r derived n = (tt, resolved-told derived r)
  steps-told (TransformCancelled t d e) o r derived n = (tt, resolved-told derived r)

  pub job-told : (job : Job) → of_job counted job ≤ 0 → Each (NotTold p) (job_effects job)
  job-told (ReactionJob step o derived) n = steps-told step o (returned step o) derived n
  job-told (Follow q r) n = tt
  job-told (SettleJob q o) n = (tt, tt)
  job-told (MicroJob (PipeLook q)) n = (tt, tt)
  job-told (MicroJob (PipeWrite q)) n = (tt, tt)
  job-told (MicroJob (PipeNoParts q)) n = (tt, tt)
  job-told (MicroJob (TeeHand t)) n = (tt, tt)

  -- the first job of a table in which the reaction stands once at most

  first_of : (t : Table) (js : List Job) (job : Job) → t.jobs ≡ js → first_job js ≡ Some job → (rest : List Job) × (js ≡ job ∷ rest)
  first_of t [] job e k = cc
  first_of t (j ∷ js) job e k = (js, ap (λ (i : Job). i ∷ js) (some j job k))
    where
      some : (i j : Job) → ◌≡◌ {A = Option Job} (Some i) (Some j) → i ≡ j
      some i j e = cc

  -- where it is registered, the first job isn't the pipe's
  pub registered-job : (d : PromiseId) (t : Table) (job : Job) → next_job t ≡ Some job → weight (ends_action p) t ≤ 1 → Registered p d t → Each (NotTold p) (job_effects job)
  unfolding weigh
  registered-job d t job e n k =
      let f = first_of t t.jobs job refl e in
      let a = entry-counts t.entries d.0 k.entry k.there (hears-counts k.entry.reactions k.hears) in
      let b : of_jobs counted t.jobs ≡ of_job counted job + of_jobs counted f.0 = ap (of_jobs counted) f.1 in
      job-told job (omega (arith, n, a, b))

  pub registered-next : (d : PromiseId) (t : Table) → Registered p d t → Registered p d (after_next_job t)
  unfolding after_next_job
  registered-next d t k = by t.jobs
    where
      by : (js : List Job) → Registered p d (after_first t js)
      by [] = k
      by (j ∷ js) = hearing.registered-taken p d j (record t { jobs = js }) (record { entry = k.entry; there = k.there; pending = k.pending; hears = k.hears })

  -- where its job is queued, that is the first, or the first isn't the pipe's, and it is queued on

  abbrev Taken : PromiseId → Table → Job → Type 0
  Taken d t job = ((r : Plain) × (job ≡ ReactionJob (PipeActed p) (Err r) None)) ⊎ (Queued p d (after_next_job t) × Each (NotTold p) (job_effects job))

  queued-rest : (d : PromiseId) (t : Table) (job : Job) (rest : List Job) (r : Plain) → t.jobs ≡ job ∷ rest → Hearing p (Err r) rest → Queued p d (after_next_job t)
  unfolding after_next_job
  queued-rest d t job rest r e k = subst (λ (js : List Job). Queued p d (after_first t js)) (sym e) (hearing.queued-taken p d job (record t { jobs = rest }) (record { reason = r; among = k }))

  pub queued-job : (d : PromiseId) (t : Table) (job : Job) → next_job t ≡ Some job → weight (ends_action p) t ≤ 1 → Queued p d t → Taken d t job
  unfolding weigh
  queued-job d t job e n k =
      let f = first_of t t.jobs job refl e in
      let b : of_jobs counted t.jobs ≡ of_job counted job + of_jobs counted f.0 = ap (of_jobs counted) f.1 in
      by f.0 f.1 b (subst (Hearing p (Err k.reason)) f.1 k.among)
    where
      by : (rest : List Job) → t.jobs ≡ job ∷ rest → of_jobs counted t.jobs ≡ of_job counted job + of_jobs counted rest → Hearing p (Err k.reason) (job ∷ rest) → Taken d t job
      by rest is b (inl h) = inl (k.reason, h)
      by rest is b (inr h) =
          let c = job-counts (Err k.reason) rest h in
          inr (queued-rest d t job rest k.reason is h, job-told job (omega (arith, n, b, c)))
