-- A pipe that closed a destination that fails is doomed: calls, jobs, steps and runs.
use Rattle.std.proofs.Common.{◌≡◌, ◌⊎◌, inl, inr, ⊎_elim, ◌≤◌, Bool, true, false, List, [], ◌∷◌, ◌++◌, Option, Some, None, Err, slice_get, refl, sym, ap, subst, ◌∙◌, append_assoc, append-nil, arith}
use Rattle.ws_value.specs.declared.{ids.PipeId.{PipeId}, ids.PromiseId.{PromiseId}, ids.StreamId.{StreamId}, value.Plain.{Plain}}
use Rattle.ws_value.specs.declared.value.{Outcome.TheVariants.{Pending, Rejected}}
use Rattle.ws_steps.specs.declared.calls.{Call.{Call}, Reply.{Reply}, Reply.TheVariants.{Promise as Named}}
use Rattle.ws_steps.specs.declared.effects.{Effect.{Effect}}
use Rattle.ws_steps.specs.declared.promises.{Job.{Job}}
use Rattle.ws_steps.specs.Calls.{begin, named}
use Rattle.ws_steps.specs.Histories.{along}
use Rattle.ws_steps.specs.Jobs.{job_effects, job_begun, begin_job}
use Rattle.ws_steps.specs.Pipes as pipe
use Rattle.ws_steps.specs.Promises.{Table, after_next_job, next_job, watch}
use Rattle.ws_steps.specs.Run.{Entry, Called, Worked, Heard as Took, run, step, older, after_event}
use Rattle.ws_steps.specs.Slots.{Slots, Stream, Done, nothing, empty, as_writable, writable_at, with_promises}
use Rattle.ws_steps.specs.Turns.{Moment, moments, performed}
use Rattle.ws_steps.specs.Writable as writable
use Rattle.ws_steps.specs.WritableHistory.{no_writes}
use Rattle.ws_laws.proofs.Outcomes.{Keeps, keeps-entries, keeps-next, keeps-watch}
use Rattle.ws_laws.proofs.Straight.{straight_before}
use Rattle.ws_laws.proofs.Walker.{performed-goes, nothing-told}
use Rattle.ws_writable_laws.proofs.Runs as writes
use Rattle.ws_writable_laws.proofs.Shape.{weight}
use Rattle.ws_promise_laws.proofs.Acting.{EachWaits, waits-stays, waits-heard, none-waits}
use Rattle.ws_promise_laws.proofs.PipeActs.{acts_now, ends_action}
use Rattle.ws_promise_laws.proofs.Tokens.{one_if}
use Rattle.ws_pipe_laws.specs.pipes.PipeHistory.{is_live, effect_moment, step_moments, run_moments}
use Rattle.ws_pipe_laws.proofs.writes.Orderly.{moments_history}
use Rattle.ws_end_laws.proofs.wrote.Fronts.{run-append, over-append}
use Rattle.ws_end_laws.proofs.ends.Doomed.{Unfulfilled, Doomed, Asks, Gives, Opens, Queues, Hears, Failed, heard-on, open-heard}
use Rattle.ws_end_laws.proofs.ends.DoomedJobs.{registered-job, registered-next, queued-job}
use Rattle.ws_end_laws.proofs.ends.DoomedRows.{call-told}
use Rattle.ws_end_laws.proofs.ends.DoomedRuns.{asked-pending, call-table, call-straight, Closing, none-closing, not_both, not_well, Judges, Living, Dead, DoomIn, Doom, Is, row-is}
use Rattle.ws_end_laws.proofs.ends.Failing.{Failing}
use Rattle.ws_end_laws.proofs.ends.Finding.{all_map}
use Rattle.ws_end_laws.proofs.ends.FindingRuns.{IsNew, call-placed}
use Rattle.ws_end_laws.proofs.ends.Hearing as hearing
use Rattle.ws_end_laws.proofs.ends.Hearing.{Registered, Queued, Well}
use Rattle.ws_end_laws.proofs.ends.Rejections.{rejected-keeps}
use Rattle.ws_end_laws.proofs.ends.Streaming.{call-keeps}

module _ (p : PipeId) where
  -- between effects: from streams xs and promises t to streams ys and promises u, with these effects on the agenda
  doom-map : (h : List Moment) (o : Option pipe.Slots) (xs ys : List Stream) (t u : Table) (es : List Effect) → (u.astray ≡ false → t.astray ≡ false)
      → ((x : pipe.Slots) → Doomed p h x (as_writable (slice_get xs x.dest.0)) t [] → Doomed p h x (as_writable (slice_get ys x.dest.0)) u es) → DoomIn p h o xs t [] → DoomIn p h o ys u es
  doom-map h None xs ys t u es straight f a = a
  doom-map h (Some x) xs ys t u es straight f a = λ s. by (a (straight s))
    where
      by : Living p h x ⊎ Dead p h x (as_writable (slice_get xs x.dest.0)) t [] → Living p h x ⊎ Dead p h x (as_writable (slice_get ys x.dest.0)) u es
      by (inl l) = inl l
      by (inr d) =
          inr (record {
            shut = d.shut;
            why = all_map (Judges p h x (as_writable (slice_get xs x.dest.0)) t []) (Judges p h x (as_writable (slice_get ys x.dest.0)) u es) (λ m j b c r n. f x (j b c r n)) h d.why;
          })

  -- calls

  call-unfulfilled : (d : PromiseId) (j : StreamId) (c : Call) (s : Slots) → Unfulfilled d (writable_at j s) s.promises → Unfulfilled d (writable_at j (begin c s).done.slots) (begin c s).done.slots.promises
  call-unfulfilled d j c s (inl k) = let f = call-keeps j (Closing d) (none-closing d) s c (record { asked = k.0; failing = k.1 }) in inl (f.asked, f.failing)
  call-unfulfilled d j c s (inr r) = inr (rejected-keeps d s.promises (begin c s).done.slots.promises (call-straight c s) r)

  call-open : (d : PromiseId) (c : Call) (s : Slots) → Registered p d s.promises ⊎ Well p d s.promises → Registered p d (begin c s).done.slots.promises ⊎ Well p d (begin c s).done.slots.promises
  call-open d c s (inl k) = inl (call-table (Registered p d) (λ t k. hearing.registered-fresh p d t k) c s k)
  call-open d c s (inr k) = inr (hearing.well-keeps p d s.promises (begin c s).done.slots.promises (call-straight c s) k)

  call-doomed : (h : List Moment) (c : Call) (s : Slots) (x : pipe.Slots) → Doomed p h x (writable_at x.dest s) s.promises [] → Doomed p h x (writable_at x.dest (begin c s).done.slots) (begin c s).done.slots.promises (begin c s).done.caused
  call-doomed h c s x (Asks d rest a is u f k n) = absurd (cc)
  call-doomed h c s x (Gives d a u i k n) = absurd i
  call-doomed h c s x (Opens d a u k n) = Opens d a (call-unfulfilled d x.dest c s u) (call-open d c s k) (call-told p c s)
  call-doomed h c s x (Queues d a k n) = Queues d a (call-table (Queued p d) (λ t k. hearing.queued-fresh p d t k) c s k) (call-told p c s)
  call-doomed h c s x (Hears r rest a is) = absurd (cc)
  call-doomed h c s x (Failed e o l) = Failed e o l

  call-doom : (h : List Moment) (c : Call) (s : Slots) → Is p h s [] → Doom p h (slice_get (begin c s).done.slots.pipes p.0) (begin c s).done.slots (begin c s).done.caused
  call-doom h c s k =
      let z : Slots = (begin c s).done.slots in
      ⊎_elim
      (λ (same : slice_get z.pipes p.0 ≡ slice_get s.pipes p.0).
      subst (λ (o : Option pipe.Slots). Doom p h o z (begin c s).done.caused) (sym same)
      (doom-map h (slice_get s.pipes p.0) s.streams z.streams s.promises z.promises (begin c s).done.caused (straight_before s.promises z.promises (call-straight c s)) (call-doomed h c s) k.doom))
      (λ (new : IsNew p s (slice_get z.pipes p.0)).
      subst (λ (o : Option pipe.Slots). Doom p h o z (begin c s).done.caused) (sym new.there)
      (λ straight. inl (record { live = ap is_live new.flowing; idle = subst (λ (o : Option pipe.Slots). Doom p h o s []) new.before k.doom })))
      (call-placed p c s)

  call-is : (h : List Moment) (c : Call) (s : Slots) → Is p h s [] → Is p h (begin c s).done.slots (begin c s).done.caused
  call-is h c s k = record {
    waits = waits-stays.call s c k.waits;
    known = λ i. let g = k.known i in (g.0, (writes.goes i).call g.0 s c g.1);
    doom = call-doom h c s k;
  }

  -- between steps the promise is pending, and the reaction is registered

  -- the close is asked of a stream that fails, and the reaction is registered
  record Clean (d : PromiseId) (w : writable.Slots) (t : Table) : Type 0 where
    asked : w.close_request ≡ Some d
    failing : Failing w
    registered : Registered p d t

  clean : (entries : List Entry) (j : StreamId) (d : PromiseId) → let s : Slots = run entries empty in Unfulfilled d (writable_at j s) s.promises → Registered p d s.promises ⊎ Well p d s.promises → Clean d (writable_at j s) s.promises
  clean entries j d (inl k) (inl r) = record { asked = k.0; failing = k.1; registered = r }
  clean entries j d (inl k) (inr w) = not_well p d (run entries empty).promises Pending refl (asked-pending entries j d k.0 k.1) w
  clean entries j d (inr k) (inl r) = not_both d (run entries empty).promises k.reason (hearing.registered-pending p d (run entries empty).promises r) k.is
  clean entries j d (inr k) (inr w) = not_well p d (run entries empty).promises (Rejected k.reason) refl k.is w

  one_most : (b : Bool) → one_if b ≤ 1
  one_most true = omega arith
  one_most false = omega arith

  weighs-one : (s : Slots) → EachWaits s [] → weight (ends_action p) s.promises ≤ 1
  weighs-one s w = let v = w p in let n = one_most (acts_now (slice_get s.pipes p.0)) in omega (arith, v, n)

  -- jobs

  job-doomed : (h : List Moment) (entries : List Entry) (job : Job) (x : pipe.Slots) → let s : Slots = run entries empty in next_job s.promises ≡ Some job → EachWaits s [] → Doomed p h x (writable_at x.dest s) s.promises []
      → Doomed p h x (writable_at x.dest s) (after_next_job s.promises) (job_effects job)
  job-doomed h entries job x e w (Asks d rest a is u f k n) = absurd (cc)
  job-doomed h entries job x e w (Gives d a u i k n) = absurd i
  job-doomed h entries job x e w (Opens d a u k n) =
      let s : Slots = run entries empty in
      let c = clean entries x.dest d u k in
      Opens d a (inl (c.asked, c.failing)) (inl (registered-next p d s.promises c.registered)) (registered-job p d s.promises job e (weighs-one s w) c.registered)
  job-doomed h entries job x e w (Queues d a k n) =
      let s : Slots = run entries empty in
      ⊎_elim
      (λ (is : (r : Plain) × (job ≡ _)). Hears is.0 [] a (ap job_effects is.1))
      (λ (q : _). Queues d a q.0 q.1) (queued-job p d s.promises job e (weighs-one s w) k)
  job-doomed h entries job x e w (Hears r rest a is) = absurd (cc)
  job-doomed h entries job x e w (Failed c o l) = Failed c o l

  job-is : (h : List Moment) (entries : List Entry) (job : Job) → let s : Slots = run entries empty in next_job s.promises ≡ Some job → Is p h s [] → Is p h (with_promises (after_next_job s.promises) s) (job_effects job)
  job-is h entries job e k =
      let s : Slots = run entries empty in
      record {
        waits = waits-stays.job s job e k.waits;
        known = λ i. let g = k.known i in (g.0, (writes.goes i).job g.0 s job e g.1);
        doom =
            doom-map h (slice_get s.pipes p.0) s.streams s.streams s.promises (after_next_job s.promises) (job_effects job) (straight_before s.promises (after_next_job s.promises) (keeps-next s.promises))
            (λ x d. job-doomed h entries job x e k.waits d) k.doom;
      }

  -- where a call has answered, or a host takes an event

  unfulfilled-keeps : (d : PromiseId) (w : writable.Slots) (t u : Table) → Keeps t u → Unfulfilled d w t → Unfulfilled d w u
  unfulfilled-keeps d w t u k (inl c) = inl c
  unfulfilled-keeps d w t u k (inr r) = inr (rejected-keeps d t u k r)

  watch-doomed : (h : List Moment) (w : writable.Slots) (t : Table) (q : PromiseId) (x : pipe.Slots) → Doomed p h x w t [] → Doomed p h x w (watch q t) []
  watch-doomed h w t q x (Asks d rest a is u f k n) = absurd (cc)
  watch-doomed h w t q x (Gives d a u i k n) = absurd i
  watch-doomed h w t q x (Opens d a u k n) = heard-on p d h x w (watch q t) [] a (unfulfilled-keeps d w t (watch q t) (keeps-watch q t) u) (hearing.heard-watch p d t q (open-heard p d t k)) tt
  watch-doomed h w t q x (Queues d a k n) = Queues d a (hearing.queued-watch p d t q k) tt
  watch-doomed h w t q x (Hears r rest a is) = absurd (cc)
  watch-doomed h w t q x (Failed c o l) = Failed c o l

  event-doomed : (h : List Moment) (w : writable.Slots) (t u : Table) (x : pipe.Slots) → u.entries ≡ t.entries → u.jobs ≡ t.jobs → Keeps t u → Doomed p h x w t [] → Doomed p h x w u []
  event-doomed h w t u x e j k (Asks d rest a is v f m n) = absurd (cc)
  event-doomed h w t u x e j k (Gives d a v i m n) = absurd i
  event-doomed h w t u x e j k (Opens d a v (inl r) n) = Opens d a (unfulfilled-keeps d w t u k v) (inl (hearing.registered-event p d t u e r)) tt
  event-doomed h w t u x e j k (Opens d a v (inr r) n) = Opens d a (unfulfilled-keeps d w t u k v) (inr (hearing.well-keeps p d t u k r)) tt
  event-doomed h w t u x e j k (Queues d a q n) = Queues d a (record { reason = q.reason; among = subst (hearing.Hearing p (Err q.reason)) (sym j) q.among }) tt
  event-doomed h w t u x e j k (Hears r rest a is) = absurd (cc)
  event-doomed h w t u x e j k (Failed c o l) = Failed c o l

  -- steps

  done-is : (h : List Moment) (d : Done) → Is p h d.slots d.caused → Is p (h ++ along [] ◌++◌ effect_moment (moments d)) (performed d) []
  done-is h d k = performed-goes [] ◌++◌ moments_history effect_moment (Is p) (row-is p) h d k

  older-is : (h : List Moment) (s : Slots) → Is p h s [] → Is p h (older s) []
  older-is h s k = record {
    waits = waits-stays.older s k.waits;
    known = λ i. let g = k.known i in (g.0, (writes.goes i).older g.0 s g.1);
    doom = k.doom;
  }

  named-is : (h : List Moment) (reply : Reply) (s : Slots) → Is p h s [] → Is p h (named reply s) []
  named-is h (Named q) s k = record {
    waits = waits-stays.answered s q k.waits;
    known = λ i. let g = k.known i in (g.0, (writes.goes i).answered g.0 s q g.1);
    doom =
        doom-map h (slice_get s.pipes p.0) s.streams s.streams s.promises (watch q s.promises) [] (straight_before s.promises (watch q s.promises) (keeps-watch q s.promises))
        (λ x d. watch-doomed h (writable_at x.dest s) s.promises q x d) k.doom;
  }
  named-is h _ s k = k

  worked-is : (h : List Moment) (entries : List Entry) (job : Option Job) → let s : Slots = run entries empty in job ≡ next_job s.promises → Is p h s [] → Is p h (job_begun s job).slots (job_begun s job).caused
  worked-is h entries None e k = k
  worked-is h entries (Some job) e k = job-is h entries job (sym e) k

  rested : (h : List Moment) (s z : Slots) → Is p h z [] → Is p (h ++ along [] ◌++◌ effect_moment (moments (nothing s))) z []
  rested h s z k =
      subst (λ (ms : List Moment). Is p (h ++ ms) z []) (sym (nothing-told [] ◌++◌ moments_history effect_moment s)) (subst (λ (ms : List Moment). Is p ms z []) (sym (append-nil h)) k)

  step-is : (h : List Moment) (before : List Entry) (x : Entry) → let s : Slots = run before empty in Is p h s [] → Is p (h ++ step_moments s x) (step s x) []
  unfolding begin_job
  step-is h before (Called c) k =
      let s : Slots = run before empty in
      let d : Done = (begin c s).done in
      let ms : List Moment = h ++ along [] ◌++◌ effect_moment (moments d) in
      older-is ms (named (begin c s).reply (performed d)) (named-is ms (begin c s).reply (performed d) (done-is h d (call-is h c s k)))
  step-is h before Worked k =
      let s : Slots = run before empty in
      let d : Done = begin_job s in
      older-is (h ++ along [] ◌++◌ effect_moment (moments d)) (performed d) (done-is h d (worked-is h before (next_job s.promises) refl k))
  step-is h before Took k =
      let s : Slots = run before empty in
      let u : Table = (after_event s).promises in
      rested h s (after_event s) (record {
        waits = waits-heard s k.waits;
        known = λ i. let g = k.known i in (g.0, (writes.rests i).heard g.0 s g.1);
        doom =
            doom-map h (slice_get s.pipes p.0) s.streams s.streams s.promises u [] (λ e. e)
            (λ x d. event-doomed h (writable_at x.dest s) s.promises u x refl refl (keeps-entries s.promises u refl (λ m. m)) d) k.doom;
      })

  -- runs

  -- between steps
  abbrev pub Rest : List Entry → Type 0
  Rest before = Is p (run_moments before empty) (run before empty) []

  next-rest : (before : List Entry) (x : Entry) → Rest before → Rest (before ++ x ∷ [])
  next-rest before x k =
      let told : run_moments (before ++ x ∷ []) empty ≡ run_moments before empty ++ step_moments (run before empty) x =
      over-append [] ◌++◌ moments_history step_moments before (x ∷ []) empty ∙ ap (λ (ms : List Moment). run_moments before empty ++ ms) (append-nil (step_moments (run before empty) x)) in
      subst (λ (s : Slots). Is p (run_moments (before ++ x ∷ []) empty) s []) (sym (run-append before (x ∷ []) empty))
      (subst (λ (ms : List Moment). Is p ms (step (run before empty) x) []) (sym told) (step-is (run_moments before empty) before x k))

  runs-rest : (xs before : List Entry) → Rest before → Rest (before ++ xs)
  runs-rest [] before k = subst Rest (sym (append-nil before)) k
  runs-rest (x ∷ xs) before k = subst Rest (append_assoc before (x ∷ []) xs) (runs-rest xs (before ++ x ∷ []) (next-rest before x k))

  begun : Rest []
  begun = record { waits = λ q. none-waits q; known = λ i. (no_writes, writes.none_made i); doom = tt }

  pub run-doomed : (entries : List Entry) → Rest entries
  run-doomed entries = runs-rest entries [] begun
