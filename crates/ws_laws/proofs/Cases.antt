-- The cases of each operation on promises: the place of one promise is written, or none is.
use Rattle.std.proofs.Common.{◌≡◌, ℕ, true, false, List, [], ◌∷◌, ◌++◌, map, Option, Some, None, Result, Ok, Err, slice_set, refl, sym, ap, append-nil}
use Rattle.ws_value.specs.declared.ids.PromiseId.{PromiseId}
use Rattle.ws_value.specs.declared.value.Plain.{Plain}
use Rattle.ws_value.specs.declared.value.Outcome.{Outcome}
use Rattle.ws_value.specs.declared.value.Outcome.TheVariants.{Pending, Fulfilled, Given, Finished, Rejected}
use Rattle.ws_steps.specs.declared.{promises.Job.{Job}, promises.Job.TheVariants.{Follow}, promises.Reaction.{Reaction}}
use Rattle.ws_steps.specs.Promises.{Entry, Table, entry_at, is_pending, is_open, is_open_entry, is_following, is_following_entry, settled, settle, settle_entry, job_of, ended_as, noted, went_astray, answer, answer_entry, react, react_entry, react_by, enqueue_job, follow, follow_entry, unfollow, unfollow_entry, watch, watch_at, watch_entry}
use Rattle.ws_laws.proofs.Tables.{either}

-- from t to z the place of promise p, which held e, holds d, and more jobs are queued
pub record Puts (p : PromiseId) (t z : Table) (e d : Entry) (more : List Job) : Type 0 where
  pub there : entry_at t p ≡ Some e
  pub entries : z.entries ≡ slice_set t.entries p.0 (Some d)
  pub jobs : z.jobs ≡ t.jobs ++ more
  pub astray : z.astray ≡ t.astray

-- the telling of it changes no place
noted-puts : (p : PromiseId) (t z : Table) (e d : Entry) (more : List Job) (rank : Option ℕ) → Puts p t z e d more → Puts p t (noted p z rank) e d more
noted-puts p t z e d more None k = k
noted-puts p t z e d more (Some rank) k = record { there = k.there; entries = k.entries; jobs = k.jobs; astray = k.astray }

module _ (P : Table → Type 0) (p : PromiseId) (t : Table) where
  -- what is to be shown where promise p, which held an entry that is so, is to hold this one
  abbrev Put : (Entry → Type 0) → (Entry → Entry) → (Entry → List Job) → Type 0
  Put is change more = (e : Entry) (z : Table) → is e → Puts p t z e (change e) (more e) → P z

  abbrev none : Entry → List Job
  none e = []

  settle_case : (o : Result Plain Plain) (x : Option Entry) → x ≡ entry_at t p → is_open_entry x ≡ true
      → Put (λ e. is_open_entry (Some e) ≡ true) (ended_as (settled o)) (λ e. map (job_of o) e.reactions) → P (settle_entry p o t x)
  settle_case o None h is_so put = cc
  settle_case o (Some e) h is_so put =
      put e _ is_so (noted-puts p t _ e (ended_as (settled o) e) (map (job_of o) e.reactions) e.rank (record { there = sym h; entries = refl; jobs = refl; astray = refl }))

  pub settle-cases : (o : Result Plain Plain) → P (went_astray t) → Put (λ e. is_open_entry (Some e) ≡ true) (ended_as (settled o)) (λ e. map (job_of o) e.reactions) → P (settle p o t)
  unfolding settle
  settle-cases o astray put =
      either P (is_open p t) (settle_entry p o t (entry_at t p)) (went_astray t) (λ is_so. settle_case o (entry_at t p) refl is_so put) (λ e. astray)

  answer_case : (o : Outcome) (x : Option Entry) → x ≡ entry_at t p → is_open_entry x ≡ true → Put (λ e. is_open_entry (Some e) ≡ true) (ended_as o) none → P (answer_entry p o t x)
  answer_case o None h is_so put = cc
  answer_case o (Some e) h is_so put =
      put e _ is_so (noted-puts p t _ e (ended_as o e) [] e.rank (record { there = sym h; entries = refl; jobs = sym (append-nil t.jobs); astray = refl }))

  pub answer-cases : (o : Outcome) → P (went_astray t) → Put (λ e. is_open_entry (Some e) ≡ true) (ended_as o) none → P (answer p o t)
  unfolding answer
  answer-cases o astray put =
      either P (is_open p t) (answer_entry p o t (entry_at t p)) (went_astray t) (λ is_so. answer_case o (entry_at t p) refl is_so put) (λ e. astray)

  react_case : (r : Reaction) (e : Entry) (o : Outcome) → Some e ≡ entry_at t p → e.outcome ≡ o → P t → ((o : Result Plain Plain) → P (enqueue_job (job_of o r) t))
      → Put (λ e. is_pending e.outcome ≡ true) (λ e. record e { reactions = e.reactions ++ r ∷ [] }) none → P (react_by p r t e o)
  react_case r e Pending h is same job put = put e _ (ap is_pending is) (record { there = sym h; entries = refl; jobs = sym (append-nil t.jobs); astray = refl })
  react_case r e (Fulfilled v) h is same job put = job (Ok v)
  react_case r e (Rejected v) h is same job put = job (Err v)
  react_case r e (Given v) h is same job put = same
  react_case r e (Finished v) h is same job put = same

  react_entry-case : (r : Reaction) (x : Option Entry) → x ≡ entry_at t p → P t → ((o : Result Plain Plain) → P (enqueue_job (job_of o r) t))
      → Put (λ e. is_pending e.outcome ≡ true) (λ e. record e { reactions = e.reactions ++ r ∷ [] }) none → P (react_entry p r t x)
  react_entry-case r None h same job put = same
  react_entry-case r (Some e) h same job put = react_case r e e.outcome h refl same job put

  pub react-cases : (r : Reaction) → P t → ((o : Result Plain Plain) → P (enqueue_job (job_of o r) t))
      → Put (λ e. is_pending e.outcome ≡ true) (λ e. record e { reactions = e.reactions ++ r ∷ [] }) none → P (react p r t)
  unfolding react
  react-cases r same job put = react_entry-case r (entry_at t p) refl same job put

  follow_case : (q : PromiseId) (x : Option Entry) → x ≡ entry_at t p → is_open_entry x ≡ true
      → Put (λ e. is_open_entry (Some e) ≡ true) (λ e. record e { follows = true }) (λ e. Follow p q ∷ []) → P (follow_entry p q t x)
  follow_case q None h is_so put = cc
  follow_case q (Some e) h is_so put = put e _ is_so (record { there = sym h; entries = refl; jobs = refl; astray = refl })

  pub follow-cases : (q : PromiseId) → P (went_astray t) → Put (λ e. is_open_entry (Some e) ≡ true) (λ e. record e { follows = true }) (λ e. Follow p q ∷ []) → P (follow p q t)
  unfolding follow
  follow-cases q astray put =
      either P (is_open p t) (follow_entry p q t (entry_at t p)) (went_astray t) (λ is_so. follow_case q (entry_at t p) refl is_so put) (λ e. astray)

  unfollow_case : (x : Option Entry) → x ≡ entry_at t p → is_following_entry x ≡ true
      → Put (λ e. is_following_entry (Some e) ≡ true) (λ e. record e { follows = false }) none → P (unfollow_entry p t x)
  unfollow_case None h follows put = cc
  unfollow_case (Some e) h follows put = put e _ follows (record { there = sym h; entries = refl; jobs = sym (append-nil t.jobs); astray = refl })

  pub unfollow-cases : P (went_astray t) → Put (λ e. is_following_entry (Some e) ≡ true) (λ e. record e { follows = false }) none → P (unfollow p t)
  unfolding unfollow
  unfollow-cases astray put =
      either P (is_following p t) (unfollow_entry p t (entry_at t p)) (went_astray t) (λ follows. unfollow_case (entry_at t p) refl follows put) (λ e. astray)

  watch_case : (e : Entry) (rank : Option ℕ) → Some e ≡ entry_at t p → P t → Put (λ e. Unit {0}) (λ e. record e { rank = Some t.watched }) none → P (watch_entry p t e rank)
  watch_case e (Some n) h same put = same
  watch_case e None h same put = put e _ tt (record { there = sym h; entries = refl; jobs = sym (append-nil t.jobs); astray = refl })

  watch_at-case : (x : Option Entry) → x ≡ entry_at t p → P t → Put (λ e. Unit {0}) (λ e. record e { rank = Some t.watched }) none → P (watch_at p t x)
  watch_at-case None h same put = same
  watch_at-case (Some e) h same put = watch_case e e.rank h same put

  pub watch-cases : P t → Put (λ e. Unit {0}) (λ e. record e { rank = Some t.watched }) none → P (watch p t)
  unfolding watch
  watch-cases same put = watch_at-case (entry_at t p) refl same put
