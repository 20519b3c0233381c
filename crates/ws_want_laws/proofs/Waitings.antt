-- Whether a write waits, and how many reactions and jobs are there by which one goes on.
use Rattle.std.proofs.Common.{◌≡◌, ℕ, ◌+◌, Bool, true, false, ◌||◌, List, [], ◌∷◌, Option, Some, None, refl, arith}
use Rattle.ws_steps.specs.declared.promises.{Job.{Job}, Reaction.{Reaction}, Reaction.TheVariants.{Perform, Adopt}, Step.{Step}}
use Rattle.ws_steps.specs.declared.promises.Job.TheVariants.{Reaction as ReactionJob, Follow, Settle, Micro as MicroJob}
use Rattle.ws_steps.specs.declared.transform.TransformId.{TransformId}
use Rattle.ws_steps.specs.Promises.{Entry}
use Rattle.ws_steps.specs.Slots.{Slots}
use Rattle.ws_laws.proofs.Weights.{of_reactions, of_entries, of_job, of_jobs, weigh}
use Rattle.ws_writable_laws.proofs.Shape.{of_reaction}
use Rattle.ws_transform_laws.proofs.Waited.{changing, all_waiting}
use Rattle.ws_want_laws.specs.Waits.{goes_on, is_registered, among_reactions, among_entries, is_queued, among_jobs, write_waits}

neither : (a b : Bool) → a || b ≡ false → (a ≡ false) × (b ≡ false)
neither false b e = (refl, e)
neither true b e = cc

both-none : (m n : ℕ) → m + n ≡ 0 → (m ≡ 0) × (n ≡ 0)
both-none m n e = (omega arith, omega arith)

module _ (t : TransformId) where
  abbrev f : Reaction → ℕ
  f = of_reaction (changing t)

  step-none : (step : Step) → goes_on t step ≡ false → changing t step ≡ 0
  step-none step e = grind (arith, e)

  none-step : (step : Step) → changing t step ≡ 0 → goes_on t step ≡ false
  none-step step e = grind (arith, e)

  reaction-none : (r : Reaction) → is_registered t r ≡ false → f r ≡ 0
  reaction-none (Perform step derived) e = step-none step e
  reaction-none (Adopt p) e = refl

  none-reaction : (r : Reaction) → f r ≡ 0 → is_registered t r ≡ false
  none-reaction (Perform step derived) e = none-step step e
  none-reaction (Adopt p) e = refl

  reactions-none : (rs : List Reaction) → among_reactions t rs ≡ false → of_reactions f rs ≡ 0
  reactions-none [] e = refl
  reactions-none (r ∷ rs) e =
      let k = neither (is_registered t r) (among_reactions t rs) e in
      let a = reaction-none r k.0 in let b = reactions-none rs k.1 in omega arith

  none-reactions : (rs : List Reaction) → of_reactions f rs ≡ 0 → among_reactions t rs ≡ false
  none-reactions [] e = refl
  none-reactions (r ∷ rs) e =
      let k = both-none (f r) (of_reactions f rs) e in
      rw (none-reaction r k.0, none-reactions rs k.1) refl

  entries-none : (es : List (Option Entry)) → among_entries t es ≡ false → of_entries f es ≡ 0
  entries-none [] e = refl
  entries-none (None ∷ es) e = let b = entries-none es e in omega arith
  entries-none (Some x ∷ es) e =
      let k = neither (among_reactions t x.reactions) (among_entries t es) e in
      let a = reactions-none x.reactions k.0 in let b = entries-none es k.1 in omega arith

  none-entries : (es : List (Option Entry)) → of_entries f es ≡ 0 → among_entries t es ≡ false
  none-entries [] e = refl
  none-entries (None ∷ es) e = none-entries es (omega arith)
  none-entries (Some x ∷ es) e =
      let k = both-none (of_reactions f x.reactions) (of_entries f es) e in
      rw (none-reactions x.reactions k.0, none-entries es k.1) refl

  job-none : (j : Job) → is_queued t j ≡ false → of_job f j ≡ 0
  job-none (ReactionJob step o derived) e = step-none step e
  job-none (Follow p q) e = refl
  job-none (Settle p o) e = refl
  job-none (MicroJob m) e = refl

  none-job : (j : Job) → of_job f j ≡ 0 → is_queued t j ≡ false
  none-job (ReactionJob step o derived) e = none-step step e
  none-job (Follow p q) e = refl
  none-job (Settle p o) e = refl
  none-job (MicroJob m) e = refl

  jobs-none : (js : List Job) → among_jobs t js ≡ false → of_jobs f js ≡ 0
  jobs-none [] e = refl
  jobs-none (j ∷ js) e =
      let k = neither (is_queued t j) (among_jobs t js) e in
      let a = job-none j k.0 in let b = jobs-none js k.1 in omega arith

  none-jobs : (js : List Job) → of_jobs f js ≡ 0 → among_jobs t js ≡ false
  none-jobs [] e = refl
  none-jobs (j ∷ js) e =
      let k = both-none (of_job f j) (of_jobs f js) e in
      rw (none-job j k.0, none-jobs js k.1) refl

  pub waits-none : (s : Slots) → write_waits t s ≡ false → all_waiting t s ≡ 0
  unfolding weigh
  waits-none s e =
      let k = neither (among_entries t s.promises.entries) (among_jobs t s.promises.jobs) e in
      let a = entries-none s.promises.entries k.0 in let b = jobs-none s.promises.jobs k.1 in omega arith

  pub none-waits : (s : Slots) → all_waiting t s ≡ 0 → write_waits t s ≡ false
  unfolding weigh
  none-waits s e =
      let k = both-none (of_entries f s.promises.entries) (of_jobs f s.promises.jobs) e in
      rw (none-entries s.promises.entries k.0, none-jobs s.promises.jobs k.1) refl
