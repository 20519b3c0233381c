-- At each moment a transform stream holds the result of one write at most.
use Rattle.ws_steps.specs.declared.port.PortOperation.TheVariants as ports
use Rattle.ws_steps.specs.declared.transform.Taker.TheVariants.{ToPort}
use Rattle.ws_steps.specs.declared.effects.Effect.TheVariants.{Port as OnPort}
use Rattle.std.proofs.Common.{◌≡◌, ◌⊎◌, inl, inr, ⊎_elim, ℕ, zero, suc, ◌+◌, ◌≤◌, List, [], ◌∷◌, Option, Some, None, arith}
use Rattle.ws_steps.specs.declared.effects.Effect.TheVariants.{Tee as OnTee}
use Rattle.ws_steps.specs.declared.tee.TeeOperation.TheVariants as tees
use Rattle.ws_value.specs.declared.{ids.PromiseId.{PromiseId}}
use Rattle.ws_steps.specs.declared.effects.{Effect.{Effect}, Use.{Use}, Use.TheVariants.{React, Resolve}}
use Rattle.ws_steps.specs.declared.effects.Effect.TheVariants.{Writable as OnWritable, Transform as OnTransform, StartAlgorithm, Give, CallHost}
use Rattle.ws_steps.specs.declared.promises.{Job.{Job}, Reaction.{Reaction}, Reaction.TheVariants.{Perform}, Step.TheVariants.{TransformChanged, Transformed}}
use Rattle.ws_steps.specs.declared.promises.Job.TheVariants.{Reaction as ReactionJob}
use Rattle.ws_steps.specs.declared.transform.{Taker.TheVariants.{ToHost, ToTransform}, TransformId.{TransformId}}
use Rattle.ws_steps.specs.declared.transform.TransformOperation.TheVariants as names_of
use Rattle.ws_steps.specs.declared.writable.{WritableOperation.TheVariants.{HandOn}}
use Rattle.ws_steps.specs.Promises.{Entry, Table}
use Rattle.ws_steps.specs.Slots.{Slots}
use Rattle.ws_laws.proofs.Weights.{of_reactions, of_entries, of_job, of_jobs, weigh}
use Rattle.ws_promise_laws.proofs.Realm.{Sound}
use Rattle.ws_promise_laws.proofs.Tokens.{names, in_reaction, in_effects, of_effect}
use Rattle.ws_transform_laws.proofs.Stages.{open-at}
use Rattle.ws_want_laws.proofs.Ears.{IsPending, open-pending}
use Rattle.ws_want_laws.proofs.Results.{promised, of_used, in_hand, all_in_hand, among}

pub weigh-more : (f g : Reaction → ℕ) → ((r : Reaction) → f r ≤ g r) → (t : Table) → weigh f t ≤ weigh g t
unfolding weigh
weigh-more f g l t = let a = entries t.entries in let b = jobs t.jobs in omega arith
  where
    reactions : (rs : List Reaction) → of_reactions f rs ≤ of_reactions g rs
    reactions [] = omega arith
    reactions (r ∷ rs) = let a = l r in let b = reactions rs in omega arith

    entries : (es : List (Option Entry)) → of_entries f es ≤ of_entries g es
    entries [] = omega arith
    entries (None ∷ es) = let b = entries es in omega arith
    entries (Some e ∷ es) = let a = reactions e.reactions in let b = entries es in omega arith

    jobs : (js : List Job) → of_jobs f js ≤ of_jobs g js
    jobs [] = omega arith
    jobs (j ∷ js) = let a : of_job f j ≤ of_job g j = grind (arith, l) in let b = jobs js in omega arith

names-self : (q : PromiseId) → names q q ≡ 1
names-self q = grind arith

abbrev pub one : PromiseId → ℕ
one c = 1

either-one : (m n : ℕ) → 1 ≤ m + n → (1 ≤ m) ⊎ (1 ≤ n)
either-one zero n l = inr (omega arith)
either-one (suc m) n l = inl (omega arith)

module _ (t : TransformId) where
  abbrev pub tokens : (PromiseId → ℕ) → Slots → List Effect → ℕ
  tokens P s es = among t P s + all_in_hand t P es

  -- a result that is held is some promise

  some-reaction : (r : Reaction) → 1 ≤ promised t one r → (d : PromiseId) × (1 ≤ promised t (names d) r)
  some-reaction (Perform (TransformChanged u c) derived) n = (c, let a = names-self c in grind arith)
  some-reaction (Perform (Transformed u) (Some c)) n = (c, let a = names-self c in grind arith)
  some-reaction (Perform (Transformed u) None) n = absurd (omega arith)
  some-reaction r n = absurd (omega arith)

  some-reactions : (rs : List Reaction) → 1 ≤ of_reactions (promised t one) rs → (d : PromiseId) × (1 ≤ of_reactions (promised t (names d)) rs)
  some-reactions [] n = absurd (omega arith)
  some-reactions (r ∷ rs) n =
      ⊎_elim (λ m. let k = some-reaction r m in (k.0, let a = k.1 in omega arith)) (λ m. let k = some-reactions rs m in (k.0, let a = k.1 in omega arith))
      (either-one (promised t one r) (of_reactions (promised t one) rs) n)

  some-entries : (es : List (Option Entry)) → 1 ≤ of_entries (promised t one) es → (d : PromiseId) × (1 ≤ of_entries (promised t (names d)) es)
  some-entries [] n = absurd (omega arith)
  some-entries (None ∷ es) n = let k = some-entries es (omega arith) in (k.0, let a = k.1 in omega arith)
  some-entries (Some x ∷ es) n =
      ⊎_elim (λ m. let k = some-reactions x.reactions m in (k.0, let a = k.1 in omega arith)) (λ m. let k = some-entries es m in (k.0, let a = k.1 in omega arith))
      (either-one (of_reactions (promised t one) x.reactions) (of_entries (promised t one) es) n)

  some-job : (j : Job) → 1 ≤ of_job (promised t one) j → (d : PromiseId) × (1 ≤ of_job (promised t (names d)) j)
  some-job (ReactionJob step o derived) n = some-reaction (Perform step derived) n
  some-job j n = absurd (omega arith)

  some-jobs : (js : List Job) → 1 ≤ of_jobs (promised t one) js → (d : PromiseId) × (1 ≤ of_jobs (promised t (names d)) js)
  some-jobs [] n = absurd (omega arith)
  some-jobs (j ∷ js) n =
      ⊎_elim (λ m. let k = some-job j m in (k.0, let a = k.1 in omega arith)) (λ m. let k = some-jobs js m in (k.0, let a = k.1 in omega arith))
      (either-one (of_job (promised t one) j) (of_jobs (promised t one) js) n)

  some-among : (s : Slots) → 1 ≤ among t one s → (d : PromiseId) × (1 ≤ among t (names d) s)
  unfolding weigh
  some-among s n =
      ⊎_elim (λ m. let k = some-entries s.promises.entries m in (k.0, let a = k.1 in omega arith)) (λ m. let k = some-jobs s.promises.jobs m in (k.0, let a = k.1 in omega arith))
      (either-one (of_entries (promised t one) s.promises.entries) (of_jobs (promised t one) s.promises.jobs) n)

  some-used : (u : Use) → 1 ≤ of_used t one u → (d : PromiseId) × (1 ≤ of_used t (names d) u)
  some-used (React step derived) n = some-reaction (Perform step derived) n
  some-used (Resolve q) n = absurd (omega arith)

  some-effect : (e : Effect) → 1 ≤ in_hand t one e → (d : PromiseId) × (1 ≤ in_hand t (names d) e)
  some-effect (Give g u) n = some-used u n
  some-effect (CallHost c u) n = some-used u n
  some-effect (StartAlgorithm j step start) n = some-reaction (Perform step None) n
  some-effect (OnTransform u (names_of.SinkWrite w)) n = some-used w n
  some-effect (OnTransform u (names_of.SourcePull w)) n = some-used w n
  some-effect (OnTransform u (names_of.SinkClose w)) n = some-used w n
  some-effect (OnTransform u (names_of.SinkAbort r w)) n = some-used w n
  some-effect (OnTransform u (names_of.SourceCancel r w)) n = some-used w n
  some-effect (OnTee u (tees.CancelBranch half r w)) n = some-used w n
  some-effect (OnPort q (ports.Leave r w)) n = some-used w n
  some-effect (OnPort q (ports.Write w)) n = some-used w n
  some-effect (OnPort q (ports.Close w)) n = some-used w n
  some-effect (OnTransform u (names_of.TransformChunk v c)) n = (c, let a = names-self c in grind arith)
  some-effect (OnTransform u (names_of.WriteGoesOn c)) n = (c, let a = names-self c in grind arith)
  some-effect (OnWritable j (HandOn (ToTransform u c))) n = (c, let a = names-self c in grind arith)
  some-effect (OnWritable j (HandOn (ToPort q c))) n = absurd (omega arith)
  some-effect (OnWritable j (HandOn ToHost)) n = absurd (omega arith)
  some-effect _ n = absurd (omega arith)

  some-effects : (es : List Effect) → 1 ≤ all_in_hand t one es → (d : PromiseId) × (1 ≤ all_in_hand t (names d) es)
  some-effects [] n = absurd (omega arith)
  some-effects (f ∷ es) n =
      ⊎_elim (λ m. let k = some-effect f m in (k.0, let a = k.1 in omega arith)) (λ m. let k = some-effects es m in (k.0, let a = k.1 in omega arith))
      (either-one (in_hand t one f) (all_in_hand t one es) n)

  pub some-token : (s : Slots) (es : List Effect) → 1 ≤ tokens one s es → (d : PromiseId) × (1 ≤ tokens (names d) s es)
  some-token s es n =
      ⊎_elim (λ m. let k = some-among s m in (k.0, let a = k.1 in omega arith)) (λ m. let k = some-effects es m in (k.0, let a = k.1 in omega arith))
      (either-one (among t one s) (all_in_hand t one es) n)

  -- and that is open

  promised-names : (d : PromiseId) (r : Reaction) → promised t (names d) r ≤ in_reaction d r
  promised-names d r = grind arith

  hand-names : (d : PromiseId) (e : Effect) → in_hand t (names d) e ≤ of_effect d e
  hand-names d e = grind (arith, promised-names)

  hands-name : (d : PromiseId) (es : List Effect) → all_in_hand t (names d) es ≤ in_effects d es
  hands-name d [] = omega arith
  hands-name d (e ∷ es) = let a = hand-names d e in let b = hands-name d es in omega arith

  pub token-pending : (d : PromiseId) (s : Slots) (es : List Effect) → Sound (λ p. in_effects p es) s → 1 ≤ tokens (names d) s es → IsPending d s.promises
  token-pending d s es k n =
      let a = weigh-more (promised t (names d)) (in_reaction d) (promised-names d) s.promises in
      let b = hands-name d es in
      open-pending d s.promises (open-at (λ p. in_effects p es) d s k (omega arith))
