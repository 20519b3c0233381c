-- A pipe that acts without an error: its source was closed before (`each_pipe_without_an_error_passed_all`).
use Rattle.std.proofs.Common.{◌≡◌, ◌⊎◌, inl, inr, ⊎_elim, Bool, true, false, List, [], ◌∷◌, ◌++◌, Option, Some, None, slice_get, refl, sym, ap, subst, ◌∙◌, arith}
use Rattle.ws_value.specs.declared.{ids.PipeId.{PipeId}, ids.StreamId.{StreamId}}
use Rattle.ws_steps.specs.declared.calls.{Call.{Call}, Reply.{Reply}, Reply.TheVariants.{Promise as Named}}
use Rattle.ws_steps.specs.declared.effects.{Effect.{Effect}, Owner.TheVariants.{Host}}
use Rattle.ws_steps.specs.declared.pipes.{Phase.TheVariants.{Flowing}}
use Rattle.ws_steps.specs.declared.promises.Job.{Job}
use Rattle.ws_steps.specs.declared.readable.{ReadableState.{ReadableState}, ReadableState.TheVariants.{Readable, Closed, Errored}, SizeBy.TheVariants.{Count}}
use Rattle.ws_steps.specs.Begun.{Begun}
use Rattle.ws_steps.specs.Calls.{begin, named}
use Rattle.ws_steps.specs.Histories.{along}
use Rattle.ws_steps.specs.Jobs.{job_effects, job_begun, begin_job}
use Rattle.ws_steps.specs.Pipes as pipe
use Rattle.ws_steps.specs.Promises.{next_job}
use Rattle.ws_steps.specs.Readable as readable
use Rattle.ws_steps.specs.Readable.{is_readable, call_pull_if_needed, accept, controller_enqueue, stream_close, stream_error, close_if_empty, controller_close, controller_error, after_take, pull_steps, default_reader_read, reader_generic_initialize, disturb, cancel_if_readable, start_settled, pull_settled, cancel_steps, stream_cancel, reader_release}
use Rattle.ws_steps.specs.Run.{Entry, Called, Worked, Heard, run, step}
use Rattle.ws_steps.specs.Slots.{Slots, has_source, Done, nothing, empty, as_pipe, pipe_at, source_at}
use Rattle.ws_steps.specs.Turns.{Moment, row, moments, performed}
use Rattle.ws_laws.proofs.Begin.{begin-makes}
use Rattle.ws_laws.proofs.EachCall.{each_call}
use Rattle.ws_laws.proofs.Halves.{Halved, run-halved, halved-empty}
use Rattle.ws_laws.proofs.Lists.{Each}
use Rattle.ws_laws.proofs.Truth.{false_true}
use Rattle.ws_laws.proofs.Walker.{performed-goes, nothing-told}
use Rattle.ws_promise_laws.proofs.Acting.{EachWaits, waits-stays}
use Rattle.ws_pipe_laws.specs.pipes.PipeHistory.{is_live, is_over, has_closed, effect_moment, step_moments}
use Rattle.ws_pipe_laws.specs.pipes.PipeWrites.{AllMoments, leaves}
use Rattle.ws_pipe_laws.proofs.pipes.PassingRuns.{appended}
use Rattle.ws_pipe_laws.proofs.writes.Orderly.{moment, moments_history}
use Rattle.ws_pipe_laws.proofs.writes.Owed.{waits-run}
use Rattle.ws_pipe_laws.specs.locks.Locks.{Reading}
use Rattle.ws_pipe_laws.proofs.locks.Owning.{each_pipe_owns_its_ends}
use Rattle.ws_end_laws.specs.wrote.WroteLaws.{EachPipeWithoutAnErrorPassedAll}
use Rattle.ws_end_laws.proofs.wrote.Fronts.{pipe_there, over-operation, run-append}
use Rattle.ws_end_laws.proofs.wrote.Keeping.{pipe-kept, row-stands}
use Rattle.ws_end_laws.proofs.wrote.Looking.{IsNoLook, Front, Agenda, row-agenda, Sure, row-sure, job-front}
use Rattle.ws_end_laws.proofs.wrote.Sources.{source_there, closed-kept, each_ended_source_is_passed_on}

pub all_moments-append : (P : Moment → Type 0) (ms : List Moment) (m : Moment) → AllMoments P ms → P m → AllMoments P (ms ++ m ∷ [])
all_moments-append P [] m a q = (q, tt)
all_moments-append P (x ∷ ms) m a q = (a.0, all_moments-append P ms m a.1 q)

pub all_moments-at : (P : Moment → Type 0) (ms ns : List Moment) (m : Moment) → AllMoments P (ms ++ m ∷ ns) → P m
all_moments-at P [] ns m a = a.0
all_moments-at P (x ∷ ms) ns m a = all_moments-at P ms ns m a.1

call-look : (c : Call) (s : Slots) → Each IsNoLook (begin c s).done.caused
call-look c s = each_call (λ (b : Begun). Each IsNoLook b.done.caused) c s (grind arith)

named_pipes : (reply : Reply) (s : Slots) → (named reply s).pipes ≡ s.pipes
named_pipes (Named q) s = refl
named_pipes _ s = refl

-- a step

module _ (p : PipeId) (i : StreamId) (r : readable.Slots) (C : Type 0) (closed : has_closed r.state ≡ true → C) where
  abbrev pub SureAt : Slots → Type 0
  SureAt s = Sure p i C (slice_get s.pipes p.0)

  abbrev pub SureAfter : Moment → Type 0
  SureAfter m = SureAt (leaves m)

  abbrev Is : List Moment → Slots → List Effect → Type 0
  Is h s es = AllMoments SureAfter h × (SureAt s × (EachWaits s es × Agenda p i C s es))

  row-is : (h : List Moment) (s : Slots) (e : Effect) (es : List Effect) → Is h s (e ∷ es) → Is (h ++ effect_moment e s) (row e s).slots ((row e s).caused ++ es)
  row-is h s e es k =
      let next : SureAt (row e s).slots = row-sure p i C s e es k.1.1.0 k.1.1.1 k.1.0 in
      (all_moments-append SureAfter h (moment e s) k.0 next, (next, (waits-stays.row s e es k.1.1.0, row-agenda p i C s e es k.1.1.1)))

  abbrev Ends : Done → Type 0
  Ends d = AllMoments SureAfter (along [] ◌++◌ effect_moment (moments d)) × SureAt (performed d)

  done-sure : (d : Done) → SureAt d.slots → EachWaits d.slots d.caused → Agenda p i C d.slots d.caused → Ends d
  done-sure d k w g = let e = performed-goes [] ◌++◌ moments_history effect_moment Is row-is [] d (tt, (k, (w, g))) in (e.0, e.1.0)

  job-sure : (s : Slots) (job : Option Job) → job ≡ next_job s.promises → EachWaits s [] → Halved s → source_at i s ≡ r → SureAt s → Ends (job_begun s job)
  job-sure s None e w halved same k = done-sure (nothing s) k w (inl tt)
  job-sure s (Some job) e w halved same k =
      done-sure (job_begun s (Some job)) k (waits-stays.job s job (sym e) w)
      (⊎_elim (λ (n : Each IsNoLook (job_effects job)). inl n) (λ (f : Front (job_begun s (Some job)).slots (job_effects job)). inr ((λ c. closed (ap (λ (y : readable.Slots). has_closed y.state) (sym same) ∙ c)), (halved, f))) (job-front (job_begun s (Some job)).slots job))

  abbrev pub Stepped : Slots → Entry → Type 0
  Stepped s x = AllMoments SureAfter (step_moments s x) × SureAt (step s x)

  -- by a call that begins so
  pub call-sure : (s : Slots) (c : Call) → EachWaits s [] → SureAt (begin c s).done.slots → Stepped s (Called c)
  call-sure s c w k =
      let d : Done = (begin c s).done in
      let e = done-sure d k (waits-stays.call s c w) (inl (call-look c s)) in
      (e.0, subst (λ (ps : List pipe.Slots). Sure p i C (slice_get ps p.0)) (sym (named_pipes (begin c s).reply (performed d))) e.1)

  none-stepped : (s : Slots) → AllMoments SureAfter (along [] ◌++◌ effect_moment (moments (nothing s)))
  none-stepped s = subst (AllMoments SureAfter) (sym (nothing-told [] ◌++◌ moments_history effect_moment s)) tt

  pub other-sure : (s : Slots) (x : Entry) → ((c : Call) → x ≡ Called c → ⊥) → EachWaits s [] → Halved s → source_at i s ≡ r → SureAt s → Stepped s x
  unfolding begin_job
  other-sure s (Called c) n w halved same k = absurd (n c refl)
  other-sure s Worked n w halved same k = job-sure s (next_job s.promises) refl w halved same k
  other-sure s Heard n w halved same k = (none-stepped s, k)

  -- where there is the pipe
  begins-sure : (c : Call) (s : Slots) (x : pipe.Slots) → slice_get s.pipes p.0 ≡ Some x → Sure p i C (Some x) → SureAt (begin c s).done.slots
  begins-sure c s x e k =
      let m : (slice_get (begin c s).done.slots.pipes p.0 ≡ Some x) = begin-makes (λ z. slice_get z.pipes p.0 ≡ Some x) (record {
        promise = λ z k. k;
        locks = λ z ls k. k;
        hosts = λ z hs k. k;
        pipe = λ z source dest prevent signal promise k.
            let y : pipe.Slots = pipe.set_up source dest prevent signal promise in
            ⊎_elim (λ (f : slice_get (z.pipes ++ y ∷ []) p.0 ≡ slice_get z.pipes p.0). f ∙ k) (λ (f : (slice_get z.pipes p.0 ≡ None) × (slice_get (z.pipes ++ y ∷ []) p.0 ≡ Some y)). absurd (cc)) (appended z.pipes y p.0);
        signal = λ z k. k;
        transform = λ z kind i j change k. k;
        tee = λ z source first second cancel k. k;
        port = λ z side stream backpressure k. k;
        bytes = λ z mark auto k. k;
        byob_requests = λ z hs k. k;
        readable = λ z owner mark size k. k;
        writable = λ z owner mark size k. k;
      }) c s e in
      subst (Sure p i C) (sym m) k

  pub there-sure : (s : Slots) (y : Entry) (x : pipe.Slots) → slice_get s.pipes p.0 ≡ Some x → EachWaits s [] → Halved s → source_at i s ≡ r → Sure p i C (Some x) → Stepped s y
  there-sure s (Called c) x e w halved same k = call-sure s c w (begins-sure c s x e k)
  there-sure s Worked x e w halved same k = other-sure s Worked (λ c f. cc) w halved same (subst (Sure p i C) (sym e) k)
  there-sure s Heard x e w halved same k = other-sure s Heard (λ c f. cc) w halved same (subst (Sure p i C) (sym e) k)

-- runs

closed_ended : (s : ReadableState) → has_closed s ≡ true → is_readable s ≡ false
closed_ended Readable e = cc
closed_ended Closed e = refl
closed_ended Errored e = cc

-- a source that is open
abbrev pub unclosed : readable.Slots
unclosed = readable.set_up Host 0 Count

pub never : has_closed unclosed.state ≡ true → ⊥
never e = false_true (has_closed unclosed.state) e refl

-- a pipe that is there begins flowing
abbrev pub Fresh : Option pipe.Slots → Type 0
Fresh None = Unit {0}
Fresh (Some x) = x.phase ≡ Flowing

module _ (p : PipeId) where
  pub fresh-begins : (c : Call) (s : Slots) → slice_get s.pipes p.0 ≡ None → Fresh (slice_get (begin c s).done.slots.pipes p.0)
  fresh-begins c s e = begin-makes (λ z. Fresh (slice_get z.pipes p.0)) (record {
    promise = λ z k. k;
    locks = λ z ls k. k;
    hosts = λ z hs k. k;
    pipe = λ z source dest prevent signal promise k.
        let y : pipe.Slots = pipe.set_up source dest prevent signal promise in
        ⊎_elim (λ (f : slice_get (z.pipes ++ y ∷ []) p.0 ≡ slice_get z.pipes p.0). subst Fresh (sym f) k)
        (λ (f : (slice_get z.pipes p.0 ≡ None) × (slice_get (z.pipes ++ y ∷ []) p.0 ≡ Some y)). subst Fresh (sym f.1) refl) (appended z.pipes y p.0);
    signal = λ z k. k;
    transform = λ z kind i j change k. k;
    tee = λ z source first second cancel k. k;
    port = λ z side stream backpressure k. k;
    bytes = λ z mark auto k. k;
    byob_requests = λ z hs k. k;
    readable = λ z owner mark size k. k;
    writable = λ z owner mark size k. k;
  }) c s (subst Fresh (sym e) tt)

  pub fresh_sure : (o : Option pipe.Slots) → Fresh o → Sure p (as_pipe o).source ⊥ o
  fresh_sure None f = tt
  fresh_sure (Some x) f = (refl, inl f)

  abbrev Closes : Slots → pipe.Slots → Type 0
  Closes s x = (x.phase ≡ Flowing) ⊎ (x.error ≡ None → has_closed (source_at x.source s).state ≡ true)

  abbrev Whole : Slots → Type 0
  Whole s = (x : pipe.Slots) → slice_get s.pipes p.0 ≡ Some x → is_over x.phase ≡ false → Closes s x

  stands : (before : List Entry) (x : pipe.Slots) → let s : Slots = run before empty in slice_get s.pipes p.0 ≡ Some x → is_over x.phase ≡ false → has_source x.source s ≡ true
  stands before x e over =
      let s : Slots = run before empty in
      let is : pipe_at p s ≡ x = ap as_pipe e in
      subst (λ (y : pipe.Slots). is_over y.phase ≡ false → has_source y.source s ≡ true) is
      (λ o. source_there (slice_get s.streams (pipe_at p s).source.0) ((each_pipe_owns_its_ends before p o).locked Reading)) over

  -- it was not over before a step
  not_over : (s : Slots) (y : Entry) (x z : pipe.Slots) → slice_get s.pipes p.0 ≡ Some x → slice_get (step s y).pipes p.0 ≡ Some z → is_over z.phase ≡ false → is_over x.phase ≡ false
  not_over s y x z e f over = by (is_over x.phase) refl
    where
      by : (b : Bool) → is_over x.phase ≡ b → b ≡ false
      by false o = refl
      by true o =
          let k : is_over (pipe_at p (step s y)).phase ≡ true = pipe-kept p (λ w. is_over w.phase ≡ true) (over-operation p) (y ∷ []) s x e o in
          false_true (is_over z.phase) (subst (λ (w : pipe.Slots). is_over w.phase ≡ true) (ap as_pipe f) k) over

  there-whole : (before : List Entry) (y : Entry) (x : pipe.Slots) → let s : Slots = run before empty in slice_get s.pipes p.0 ≡ Some x → Whole s → Whole (step s y)
  there-whole before y x e h z f over =
      let s : Slots = run before empty in
      let i : StreamId = x.source in
      let own : is_over x.phase ≡ false = not_over s y x z e f over in
      let k = there-sure p i (source_at i s) (has_closed (source_at i s).state ≡ true) (λ c. c) s y x e (waits-run before) (run-halved before empty halved-empty) refl (refl, h x e own) in
      let after : (z.source ≡ i) × ((z.phase ≡ Flowing) ⊎ (z.error ≡ None → has_closed (source_at i s).state ≡ true)) = subst (Sure p i (has_closed (source_at i s).state ≡ true)) f k.1 in
      ⊎_elim (λ (g : z.phase ≡ Flowing). inl g)
      (λ (g : z.error ≡ None → has_closed (source_at i s).state ≡ true). inr (λ n.
      let c = closed-kept i before y (stands before x e own) (g n) in
      subst (λ (j : StreamId). has_closed (source_at j (step s y)).state ≡ true) (sym after.0) c)) after.1

  call-whole : (before : List Entry) (c : Call) → let s : Slots = run before empty in slice_get s.pipes p.0 ≡ None → Whole (step s (Called c))
  call-whole before c e z f over =
      let s : Slots = run before empty in
      let o : Option pipe.Slots = slice_get (begin c s).done.slots.pipes p.0 in
      let i : StreamId = (as_pipe o).source in
      let k = call-sure p i unclosed ⊥ never s c (waits-run before) (fresh_sure o (fresh-begins c s e)) in
      let after : (z.source ≡ i) × ((z.phase ≡ Flowing) ⊎ (z.error ≡ None → ⊥)) = subst (Sure p i ⊥) f k.1 in
      ⊎_elim (λ (g : z.phase ≡ Flowing). inl g) (λ (g : z.error ≡ None → ⊥). inr (λ n. absurd (g n))) after.1

  -- no other step makes one
  source_is : (before : List Entry) (y : Entry) (i : StreamId) (z : pipe.Slots) → let s : Slots = run before empty in slice_get s.pipes p.0 ≡ None → ((c : Call) → y ≡ Called c → ⊥) → slice_get (step s y).pipes p.0 ≡ Some z → z.source ≡ i
  source_is before y i z e n f =
      let s : Slots = run before empty in
      let k = other-sure p i (source_at i s) (Unit {0}) (λ c. tt) s y n (waits-run before) (run-halved before empty halved-empty) refl (subst (Sure p i (Unit {0})) (sym e) tt) in
      let after : (z.source ≡ i) × ((z.phase ≡ Flowing) ⊎ (z.error ≡ None → Unit {0})) = subst (Sure p i (Unit {0})) f k.1 in
      after.0

  none-whole : (before : List Entry) (y : Entry) → let s : Slots = run before empty in slice_get s.pipes p.0 ≡ None → ((c : Call) → y ≡ Called c → ⊥) → Whole (step s y)
  none-whole before y e n z f over =
      let a = ap (λ (j : StreamId). j.0) (source_is before y (record { 0 = 0 }) z e n f) in
      let b = ap (λ (j : StreamId). j.0) (source_is before y (record { 0 = 1 }) z e n f) in
      absurd (omega (arith, a, b))

  step-whole : (before : List Entry) (y : Entry) → let s : Slots = run before empty in Whole s → Whole (step s y)
  step-whole before y h = by (slice_get (run before empty).pipes p.0) refl y
    where
      by : (o : Option pipe.Slots) → slice_get (run before empty).pipes p.0 ≡ o → (y : Entry) → Whole (step (run before empty) y)
      by (Some x) e y = there-whole before y x e h
      by None e (Called c) = call-whole before c e
      by None e Worked = none-whole before Worked e (λ c f. cc)
      by None e Heard = none-whole before Heard e (λ c f. cc)

  walk : (xs before : List Entry) (s : Slots) → run before empty ≡ s → Whole s → Whole (run xs s)
  walk [] before s e h = h
  walk (x ∷ xs) before s e h =
      let next : run (before ++ x ∷ []) empty ≡ step s x = run-append before (x ∷ []) empty ∙ ap (λ (z : Slots). step z x) e in
      walk xs (before ++ x ∷ []) (step s x) next (subst (λ (z : Slots). Whole z → Whole (step z x)) e (step-whole before x) h)

  run-whole : (entries : List Entry) → Whole (run entries empty)
  run-whole entries = walk entries [] empty refl (λ x e. cc)

  acts_closed : (C : Type 0) (x : pipe.Slots) → is_live x.phase ≡ false → x.error ≡ None → (x.phase ≡ Flowing) ⊎ (x.error ≡ None → C) → C
  acts_closed C x l n (inl f) = false_true (is_live x.phase) (ap is_live f) l
  acts_closed C x l n (inr k) = k n

  pub live_there : (o : Option pipe.Slots) → is_live (as_pipe o).phase ≡ true → o ≡ Some (as_pipe o)
  live_there None l = cc
  live_there (Some x) l = refl

pub each_pipe_without_an_error_passed_all : EachPipeWithoutAnErrorPassedAll
each_pipe_without_an_error_passed_all before after x p ms ns m over split begins none =
    let s : Slots = run before empty in
    let y : pipe.Slots = pipe_at p s in
    let i : StreamId = y.source in
    let r : readable.Slots = source_at i s in
    let e : slice_get s.pipes p.0 ≡ Some y = pipe_there (slice_get s.pipes p.0) over in
    let k = there-sure p i r (has_closed r.state ≡ true) (λ c. c) s x y e (waits-run before) (run-halved before empty halved-empty) refl (refl, run-whole p before y e over) in
    let at = all_moments-at (SureAfter p i r (has_closed r.state ≡ true) (λ c. c)) ms ns m (subst (AllMoments (SureAfter p i r (has_closed r.state ≡ true) (λ c. c))) split k.0) in
    let there = row-stands p m.effect m.found (pipe_at p m.found) (live_there p (slice_get m.found.pipes p.0) begins.live) in
    let z : pipe.Slots = there.0 in
    let is : pipe_at p (leaves m) ≡ z = ap as_pipe there.1 in
    let sure : (z.source ≡ i) × ((z.phase ≡ Flowing) ⊎ (z.error ≡ None → has_closed r.state ≡ true)) = subst (Sure p i (has_closed r.state ≡ true)) there.1 at in
    let acts : is_live z.phase ≡ false = subst (λ (w : pipe.Slots). is_live w.phase ≡ false) is begins.acts in
    let plain : z.error ≡ None = subst (λ (w : pipe.Slots). w.error ≡ None) is none in
    let closed : has_closed r.state ≡ true = acts_closed p (has_closed r.state ≡ true) z acts plain sure.1 in
    (closed, each_ended_source_is_passed_on before after x p ms ns m over (closed_ended r.state closed) split begins)
