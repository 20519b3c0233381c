-- Over every run: while the host is to settle the cancel algorithm, no write waits, or the readable half can take no chunk.
use Rattle.std.proofs.Common.{◌≡◌, ◌⊎◌, inl, inr, ⊎_elim, ℕ, ◌+◌, ◌≤◌, Bool, true, false, length, List, [], ◌∷◌, ◌++◌, Option, Some, None, slice_get, refl, sym, ap, ◌∙◌, arith, append-nil}
use Rattle.ws_value.specs.declared.{ids.PromiseId.{PromiseId}, ids.StreamId.{StreamId}, value.Plain.{Plain}}
use Rattle.ws_steps.specs.declared.calls.{Call.{Call}, Event.{Event}, Event.TheVariants.{Host as HostCalled}, HostCall.{HostCall}}
use Rattle.ws_steps.specs.declared.calls.HostCall.TheVariants.{CancelTransform as HostCancel}
use Rattle.ws_steps.specs.declared.effects.{Effect.{Effect}, Effect.TheVariants.{AbortAlgorithm, CallHost}, Use.{Use}, Use.TheVariants.{React, Resolve}}
use Rattle.ws_steps.specs.declared.promises.{Job.{Job}, Reaction.TheVariants.{Perform}}
use Rattle.ws_steps.specs.declared.transform.TransformId.{TransformId}
use Rattle.ws_steps.specs.Calls.{begin}
use Rattle.ws_steps.specs.Jobs.{job_effects}
use Rattle.ws_steps.specs.Promises.{Table, next_id, fresh, pending, tell, use_this, next_job, after_next_job}
use Rattle.ws_steps.specs.Readable.{can_close_or_enqueue}
use Rattle.ws_steps.specs.ReadableHistory.{Reads, no_reads, reads_then, effect_reads}
use Rattle.ws_steps.specs.Run.{after_event}
use Rattle.ws_steps.specs.Slots.{Slots, empty, pending_host, readable_at, with_promises}
use Rattle.ws_steps.specs.Turns.{row, call_host}
use Rattle.ws_steps.proofs.PromiseLaws.{entry_at-fresh_new}
use Rattle.ws_laws.proofs.Begin.{begin-makes}
use Rattle.ws_laws.proofs.Halves.{get-either, call-among}
use Rattle.ws_laws.proofs.Shapes.{TransformShape, transform_shapes, row-transform_shapes}
use Rattle.ws_laws.proofs.Rows.{row-changes}
use Rattle.ws_laws.proofs.Tables.{is_same-refl, same_id}
use Rattle.ws_laws.proofs.Walker.{GoesUntold, RestsUntold}
use Rattle.ws_laws.proofs.Weights.{weigh}
use Rattle.ws_writable_laws.proofs.Shape.{is_abort, is_write, leads_to, of_use}
use Rattle.ws_write_laws.proofs.Runs as write_runs
use Rattle.ws_end_laws.specs.hosts.HostCalls.{effect_called}
use Rattle.ws_end_laws.proofs.hosts.Called.{place-last}
use Rattle.ws_end_laws.proofs.hosts.Hosted.{hosted-alone}
use Rattle.ws_end_laws.proofs.hosts.Plain.{host_added, row-hosts}
use Rattle.ws_transform_laws.proofs.Cancelling.{is_cancelled}
use Rattle.ws_transform_laws.proofs.Shutting.{can}
use Rattle.ws_transform_laws.proofs.Waited.{all_waiting}
use Rattle.ws_transform_laws.proofs.Waiting.{Waits, waits-changes, waits-next, waits-watch, waits_from}
use Rattle.ws_transform_laws.proofs.Wanted.{Known}
use Rattle.ws_transform_laws.proofs.WantedRuns as wanted_runs
use Rattle.ws_want_laws.specs.Answers.{is_cancel_of, has_open}
use Rattle.ws_want_laws.proofs.Answered.{row-answers, call-answers, job-answers, Past, no_past, past_then, past_of, place-kept, call-fewer, IsOf, Answers, of-before, call-of, goes, rests, none-answers, open-one, unwritten-none}
use Rattle.ws_want_laws.proofs.Ears.{IsPending, open-pending, pending-react, pending-weighs, hears}
use Rattle.ws_want_laws.proofs.Ending.{IsEnded, row-ended, call-ended, abort-ended, cancelled, IsEnding, EndingOf, row-ending, call-ending, job-ending}

module _ (t : TransformId) (i r : StreamId) where
  -- and the readable half of the transform stream is that one
  abbrev pub IsWhole : Slots → Type 0
  IsWhole s = IsOf t i r s × ((x : TransformShape) → slice_get (transform_shapes s) t.0 ≡ Some x → x.readable ≡ r)

  -- a cancel that isn't settled
  abbrev Ends : Past → Slots → Type 0
  Ends h s = (n : ℕ) (call : HostCall) (p : PromiseId) → slice_get h.calls n ≡ Some call → is_cancel_of r call ≡ true → pending_host (slice_get s.hosts n) ≡ Some p → Waits (cancelled t i r) 1 p s.promises ⊎ IsEnded i s

  pub record Cancels (h : Past) (s : Slots) (es : List Effect) : Type 0 where
    pub answers : Answers t i r h s es
    pub ending : EndingOf t i r s (IsEnded i s) es
    pub ends : Ends h s
    pub known : (f : Reads) × Known t r f s es
    pub lined : (f : write_runs.Both) × write_runs.Holds i f s es

  -- a host call that is made waits for its promise

  new-pending : (z : Table) (event : Event) → IsPending (next_id z) (tell event (fresh z))
  new-pending z event = record { entry = pending; there = entry_at-fresh_new z (next_id z) refl; pends = refl }

  weaker : (n m : ℕ) (p : PromiseId) (z : Table) → n ≤ m → Waits (cancelled t i r) m p z → Waits (cancelled t i r) n p z
  weaker n m p z l w = record { entry = w.entry; there = w.there; waits = λ h. let a = w.waits h in omega arith }

  used-waits : (p : PromiseId) (z : Table) (u : Use) → IsPending p z → 1 ≤ of_use (is_cancelled t) u → Waits (cancelled t i r) 1 p (use_this p z u)
  used-waits p z (React step derived) k l = weaker 1 (is_cancelled t step) p _ l (pending-react (cancelled t i r) p (Perform step derived) z k)
  used-waits p z (Resolve q) k l = absurd (omega arith)

  called-waits : (call : HostCall) (u : Use) (s : Slots) → 1 ≤ of_use (is_cancelled t) u
      → Waits (cancelled t i r) 1 (next_id s.promises) (row (CallHost call u) s).slots.promises
  unfolding row call_host
  called-waits call u s l =
      used-waits (next_id s.promises) (tell (HostCalled (record { 0 = length s.hosts }) call) (fresh s.promises)) u (new-pending s.promises (HostCalled (record { 0 = length s.hosts }) call)) l

  -- each effect

  kept-end : (e : Effect) (s : Slots) (p : PromiseId) → Waits (cancelled t i r) 1 p s.promises ⊎ IsEnded i s
      → Waits (cancelled t i r) 1 p (row e s).slots.promises ⊎ IsEnded i (row e s).slots
  kept-end e s p k = ⊎_elim (λ w. inl (row-changes (Waits (cancelled t i r) 1 p) (waits-changes (cancelled t i r) 1 p) e s w)) (λ v. inr (row-ended i e s v)) k

  new-end : (call : HostCall) (u : Use) (s : Slots) → IsEnding t i r s (IsEnded i s) (CallHost call u) → is_cancel_of r call ≡ true
      → Waits (cancelled t i r) 1 (next_id s.promises) (row (CallHost call u) s).slots.promises ⊎ IsEnded i (row (CallHost call u) s).slots
  new-end (HostCancel j c) u s k e =
      ⊎_elim (λ a. inl (called-waits (HostCancel j c) u s a)) (λ v. inr (row-ended i (CallHost (HostCancel j c) u) s v)) (k (sym (same_id r j e)))
  new-end call u s k e = absurd (cc)

  host-ends : (h : Past) (s : Slots) (call : HostCall) (u : Use) → length s.hosts ≡ length h.calls → IsEnding t i r s (IsEnded i s) (CallHost call u)
      → Ends h s → Ends (past_then h (past_of i (CallHost call u) s)) (row (CallHost call u) s).slots
  host-ends h s call u count a k = λ n c p at is host.
      let hosts = row-hosts (CallHost call u) s in
      let there : pending_host (slice_get (s.hosts ++ Some (next_id s.promises) ∷ []) n) ≡ Some p = rw hosts at host in
      ⊎_elim
      (λ old.
      let same = place-kept s.hosts (Some (next_id s.promises) ∷ []) h.calls n c old count in
      kept-end (CallHost call u) s p (k n c p old is (ap pending_host (sym same) ∙ there)))
      (λ new.
      let at : slice_get (s.hosts ++ Some (next_id s.promises) ∷ []) n ≡ Some (Some (next_id s.promises)) = rw (new.0, ← count) (place-last s.hosts (Some (next_id s.promises))) in
      let both : ◌≡◌ {A = Option PromiseId} (Some (next_id s.promises)) (Some p) = ap pending_host (sym at) ∙ there in
      let one : next_id s.promises ≡ p = cc in
      rw (← one) (new-end call u s a (ap (is_cancel_of r) new.1 ∙ is)))
      (get-either h.calls call n c at)

  other-ends : (h : Past) (s : Slots) (e : Effect) → effect_called e s ≡ [] → host_added e s ≡ [] → Ends h s
      → Ends (past_then h (past_of i e s)) (row e s).slots
  other-ends h s e none added k = λ n c p at is host.
      let before : slice_get h.calls n ≡ Some c = rw (none, append-nil) at at in
      let hosts : (row e s).slots.hosts ≡ s.hosts = rw (added, append-nil) at (row-hosts e s) in
      kept-end e s p (k n c p before is (rw hosts at host))

  row-ends : (h : Past) (s : Slots) (e : Effect) → length s.hosts ≡ length h.calls → IsEnding t i r s (IsEnded i s) e → Ends h s
      → Ends (past_then h (past_of i e s)) (row e s).slots
  row-ends h s (CallHost call u) count a k = host-ends h s call u count a k
  row-ends h s e count a k = other-ends h s e refl refl k

  aborting : (h : Past) (s : Slots) (e : Effect) (es : List Effect) → Answers t i r h s (e ∷ es) → (c : Plain) (p : PromiseId)
      → e ≡ AbortAlgorithm i c p → IsEnded i s
  aborting h s e es k c p is =
      let one : leads_to (is_abort i) (AbortAlgorithm i c p) ≡ 1 = rw (is_same-refl i) refl in
      let same : leads_to (is_abort i) e ≡ 1 = ap (λ (f : Effect). leads_to (is_abort i) f) is ∙ one in
      abort-ended i h.writes s (e ∷ es) k.kept (omega arith)

  whole-before : (e : Effect) (s : Slots) → IsWhole (row e s).slots → IsWhole s
  whole-before e s g = (of-before t i r e s g.0, λ x at. g.1 x (ap (λ (ts : List TransformShape). slice_get ts t.0) (row-transform_shapes e s) ∙ at))

  row-cancels : (h : Past) (s : Slots) (e : Effect) (es : List Effect) → IsOf t i r s → Cancels h s (e ∷ es)
      → Cancels (past_then h (past_of i e s)) (row e s).slots ((row e s).caused ++ es)
  row-cancels h s e es g k = record {
    answers = row-answers t i r h s e es g k.answers;
    ending = row-ending t i r s (IsEnded i s) (IsEnded i (row e s).slots) e es k.answers.kept.halved g.0 g.1.0 (row-ended i e s) (aborting h s e es k.answers) k.ending;
    ends = row-ends h s e k.answers.numbered.count k.ending.0 k.ends;
    known = (reads_then k.known.0 (effect_reads r e s), (wanted_runs.goes t r).row k.known.0 s e es k.known.1);
    lined = (write_runs.both_then k.lined.0 (write_runs.both_told i e s), (write_runs.holds-goes i).row k.lined.0 s e es k.lined.1);
  }

  -- from rest

  whole-of : (c : Call) (s : Slots) → IsWhole (begin c s).done.slots → IsWhole s
  whole-of c s g = (call-of t i r c s g.0, λ x at. g.1 x (call-among c s t x at))

  fresh-waits : (p : PromiseId) (c : Call) (s : Slots) → Waits (cancelled t i r) 1 p s.promises → Waits (cancelled t i r) 1 p (begin c s).done.slots.promises
  fresh-waits p c s w = begin-makes (λ z. Waits (cancelled t i r) 1 p z.promises) (record {
    promise = λ z k. (waits-changes (cancelled t i r) 1 p).fresh z.promises k;
    locks = λ z ls k. k;
    hosts = λ z hs k. k;
    pipe = λ z source dest prevent signal promise k. k;
    signal = λ z k. k;
    transform = λ z kind w q change k. k;
    tee = λ z source first second cancel k. k;
    port = λ z side stream backpressure k. k;
    bytes = λ z mark auto k. k;
    byob_requests = λ z hs k. k;
    readable = λ z o mark size k. k;
    writable = λ z o mark size k. k;
  }) c s w

  call-cancels : (h : Past) (s : Slots) (c : Call) → IsOf t i r (begin c s).done.slots → Cancels h s []
      → Cancels h (begin c s).done.slots (begin c s).done.caused
  call-cancels h s c g k =
      let z : Slots = (begin c s).done.slots in
      let fewer = call-fewer c s in
      record {
        answers = call-answers t i r h s c g k.answers;
        ending = call-ending t i r c s z (IsEnded i z);
        ends = λ n call p at is host. ⊎_elim (λ w. inl (fresh-waits p c s w)) (λ v. inr (call-ended i c s v)) (k.ends n call p at is (fewer.was n p host));
        known = (k.known.0, (wanted_runs.goes t r).call k.known.0 s c k.known.1);
        lined = (k.lined.0, (write_runs.holds-goes i).call k.lined.0 s c k.lined.1);
      }

  job-cancels : (h : Past) (s : Slots) (job : Job) → next_job s.promises ≡ Some job → Cancels h s []
      → Cancels h (with_promises (after_next_job s.promises) s) (job_effects job)
  job-cancels h s job e k = record {
    answers = job-answers t i r h s job e k.answers;
    ending = job-ending t i r job (with_promises (after_next_job s.promises) s) (IsEnded i s);
    ends = λ n call p at is host. ⊎_elim (λ w. inl (waits-next (cancelled t i r) 1 p s.promises w)) (λ v. inr v) (k.ends n call p at is host);
    known = (k.known.0, (wanted_runs.goes t r).job k.known.0 s job e k.known.1);
    lined = (k.lined.0, (write_runs.holds-goes i).job k.lined.0 s job e k.lined.1);
  }

  abbrev pub IsCancels : Past → Slots → List Effect → Type 0
  IsCancels h s es = IsWhole s → Cancels h s es

  pub cancels-goes : GoesUntold past_then (past_of i) IsCancels
  cancels-goes = record {
    row = λ h s e es k g. let b = whole-before e s g in row-cancels h s e es b.0 (k b);
    call = λ h s c k g. call-cancels h s c g.0 (k (whole-of c s g));
    job = λ h s job e k g. job-cancels h s job e (k g);
    answered = λ h s p k g.
        let a = k g in
        record {
          answers = (goes t i r).answered h s p (λ o. a.answers) g.0;
          ending = tt;
          ends = λ n call q at is host. ⊎_elim (λ w. inl (waits-watch (cancelled t i r) 1 q s.promises p w)) (λ v. inr v) (a.ends n call q at is host);
          known = (a.known.0, (wanted_runs.goes t r).answered a.known.0 s p a.known.1);
          lined = (a.lined.0, (write_runs.holds-goes i).answered a.lined.0 s p a.lined.1);
        };
    older = λ h s k g.
        let a = k g in
        record {
          answers = (goes t i r).older h s (λ o. a.answers) g.0;
          ending = tt;
          ends = a.ends;
          known = (a.known.0, (wanted_runs.goes t r).older a.known.0 s a.known.1);
          lined = (a.lined.0, (write_runs.holds-goes i).older a.lined.0 s a.lined.1);
        };
  }

  pub cancels-rests : RestsUntold IsCancels
  cancels-rests = record {
    heard = λ h s k g.
        let a = k g in
        record {
          answers = (rests t i r).heard h s (λ o. a.answers) g.0;
          ending = tt;
          ends = λ n call q at is host. ⊎_elim (λ w. inl (waits_from (cancelled t i r) 1 q s.promises (after_event s).promises refl w)) (λ v. inr v) (a.ends n call q at is host);
          known = (a.known.0, (wanted_runs.rests t r).heard a.known.0 s a.known.1);
          lined = (a.lined.0, (write_runs.holds-rests i).heard a.lined.0 s a.lined.1);
        };
  }

  pub none-cancels : Cancels no_past empty []
  none-cancels = record {
    answers = none-answers t i r;
    ending = tt;
    ends = λ n call p at is host. absurd (cc);
    known = (no_reads, wanted_runs.none-known t r);
    lined = (write_runs.no_both, write_runs.holds_empty i);
  }

  -- while the host is to cancel

  ended-none : (h : Past) (s : Slots) → Cancels h s [] → IsEnded i s → all_waiting t s ≡ 0
  ended-none h s k v =
      let spent = (k.lined.1.lined k.answers.held.straight.sound.holds.straight).spent v.0 in
      let w = k.answers.kept.held.fine.owed.writes in
      let z : weigh (hears (is_write i)) s.promises + 0 ≤ 0 = rw spent at w in unwritten-none t i r h s k.answers (omega arith)

  cancelled-shut : (h : Past) (s : Slots) → Cancels h s [] → IsWhole s → 1 ≤ weigh (cancelled t i r) s.promises → can_close_or_enqueue (readable_at r s) ≡ false
  cancelled-shut h s k g n = by (slice_get (transform_shapes s) t.0) refl (can r s) refl
    where
      by : (o : Option TransformShape) → o ≡ slice_get (transform_shapes s) t.0 → (b : Bool) → b ≡ can r s → can_close_or_enqueue (readable_at r s) ≡ false
      by None e b f = let z = (k.known.1.unmade (sym e)).0 in absurd (omega arith)
      by (Some x) e false f = sym f
      by (Some x) e true f = let z = (k.known.1.uncancelled (x, (sym e, g.1 x (sym e))) (sym f)).0 in absurd (omega arith)

  cancel-one : (h : Past) (s : Slots) → Cancels h s [] → IsWhole s → (n : ℕ) (call : HostCall) (p : PromiseId) → slice_get h.calls n ≡ Some call
      → is_cancel_of r call ≡ true
      → pending_host (slice_get s.hosts n) ≡ Some p → (all_waiting t s ≡ 0) ⊎ (can_close_or_enqueue (readable_at r s) ≡ false)
  cancel-one h s k g n call p at is host =
      let alone = hosted-alone (record { 0 = n }) p s [] k.answers.held.straight host in
      ⊎_elim (λ w. inr (cancelled-shut h s k g (pending-weighs (cancelled t i r) 1 p s.promises (open-pending p s.promises alone.open_) w))) (λ v. inl (ended-none h s k v)) (k.ends n call p at is host)

  pub cancelling-none : (h : Past) (s : Slots) → Cancels h s [] → IsWhole s → has_open (is_cancel_of r) h.calls s.hosts ≡ true
      → (all_waiting t s ≡ 0) ⊎ (can_close_or_enqueue (readable_at r s) ≡ false)
  cancelling-none h s k g e = open-one t i r ((all_waiting t s ≡ 0) ⊎ (can_close_or_enqueue (readable_at r s) ≡ false)) (is_cancel_of r) h.calls s.hosts e (cancel-one h s k g)
