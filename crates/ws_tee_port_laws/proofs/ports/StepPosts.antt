-- How many messages a step posts by one port, in every run (`each_step_posts_once`).
use Rattle.std.proofs.Common.{◌≡◌, ℕ, ◌+◌, ◌≤◌, Bool, true, false, if◌then◌else◌, List, [], ◌∷◌, ◌++◌, length, Option, Some, None, Result, ◌⊎◌, inl, inr, ⊎_elim, slice_get, refl, sym, ap, subst, arith}
use Rattle.std.proofs.lemmas.List.{length-append}
use Rattle.ws_value.specs.declared.ids.PortId.{PortId}
use Rattle.ws_value.specs.declared.ids.StreamId.{StreamId}
use Rattle.ws_value.specs.declared.value.Plain.{Plain}
use Rattle.ws_steps.specs.declared.effects.Effect.{Effect}
use Rattle.ws_steps.specs.declared.effects.Effect.TheVariants.{Readable as OnReadable, Port as OnPort}
use Rattle.ws_steps.specs.declared.port.Side.{Side}
use Rattle.ws_steps.specs.declared.port.Side.TheVariants.{Readable as ReadableSide, Writable as WritableSide}
use Rattle.ws_steps.specs.declared.readable.ReadableOperation.TheVariants as reads
use Rattle.ws_steps.specs.Cross as cross
use Rattle.ws_steps.specs.Histories.{is_same}
use Rattle.ws_steps.specs.PortHistory.{posted_in}
use Rattle.ws_steps.specs.Slots.{Slots, Done, nothing, readable_at}
use Rattle.ws_steps.specs.Turns.{row}
use Rattle.ws_laws.proofs.Ended.{PortShape, port_shapes}
use Rattle.ws_laws.proofs.Halves.{Halved}
use Rattle.ws_laws.proofs.Lists.{Each, each-map}
use Rattle.ws_laws.proofs.Shapes.{StreamShape, stream_shapes}
use Rattle.ws_tee_port_laws.proofs.ports.Modes.{May, calm-may, calm-leads}
use Rattle.ws_tee_port_laws.proofs.ports.Pulls.{Still, still-pulled, still-settles}
use Rattle.ws_tee_port_laws.proofs.ports.Told.{posted}
use Rattle.ws_steps.specs.declared.calls.Call.{Call}
use Rattle.ws_steps.specs.declared.calls.Event.{Event}
use Rattle.ws_steps.specs.declared.calls.Reply.{Reply}
use Rattle.ws_steps.specs.declared.calls.Reply.TheVariants.{Promise as PromiseReply}
use Rattle.ws_steps.specs.declared.promises.Job.{Job}
use Rattle.ws_steps.specs.Calls.{begin, named}
use Rattle.ws_steps.specs.Jobs.{job_effects, job_begun, begin_job}
use Rattle.ws_steps.specs.PortLaws.{EachStepPostsOnce}
use Rattle.ws_steps.specs.Promises.{next_job, after_next_job}
use Rattle.ws_steps.specs.Run.{Entry, Called, Worked, Heard, run, step, later_events}
use Rattle.ws_steps.specs.Slots.{empty, with_promises}
use Rattle.ws_steps.specs.Turns.{performed}
use Rattle.ws_laws.proofs.Halves.{halved-stays, halved-empty}
use Rattle.ws_laws.proofs.Ended.{row-port_shapes}
use Rattle.ws_laws.proofs.Shapes.{row-stream_shapes}
use Rattle.ws_laws.proofs.Walker.{Stays, run-stays, performed-goes, untold}
use Rattle.ws_tee_port_laws.proofs.ports.Fitting.{Fitting, fitting-stays, fitting-empty}
use Rattle.ws_tee_port_laws.proofs.ports.Once.{alive, Post_mode, row-leaves, no-mine, by-port}
use Rattle.ws_tee_port_laws.proofs.ports.OnceBegins.{Begins, BeginsReading, BeginsCancelling, BeginsCalm, reading, cancelling, calmly, looking, settling, posting, job-begins, call-begins, reads-first, cancels-first, calm-first, reads-still, calm-stills}
use Rattle.ws_tee_port_laws.proofs.ports.OnceModes.{count, SideMode, PortMode, First, Main, mode-row}
use Rattle.ws_tee_port_laws.proofs.ports.Told.{posted-append, next-events, call-events, watch-posted}

-- with what a step begins
module _ (c : PortId) (s : Slots) (x : cross.Slots) (es : List Effect) where
  abbrev xs : List StreamShape
  xs = stream_shapes s

  abbrev ps : List PortShape
  ps = port_shapes s

  abbrev n : ℕ
  n = count c s

  one : (b : Bool) → (if b then 0 else 1) ≤ 1
  one true = omega arith
  one false = omega arith

  one-alive : alive x ≤ 1
  one-alive = by x.live
    where
      by : (b : Bool) → (if b then 1 else 0) ≤ 1
      by true = omega arith
      by false = omega arith

  few : n + alive x ≤ n + 1
  few = let h = one-alive in omega (arith, h)

  -- where nothing that stands is a pull of the stream
  still-main : Each (Still c x.stream) es → Main c n s x.stream es
  still-main k = let none = still-pulled c x.stream es k in let idle = one (readable_at x.stream s).pulling in (still-settles c x.stream es k, omega (arith, none, idle))

  settling-main : (i : StreamId) (o : Result Plain Plain) (fs : List Effect) → Each BeginsCalm fs → (First c n x.stream (OnReadable i (reads.PullSettled o) ∷ fs) × (n ≤ n)) ⊎ Main c n s x.stream (OnReadable i (reads.PullSettled o) ∷ fs)
  settling-main i o fs k = by (is_same x.stream i) refl
    where
      stills : Each (Still c x.stream) fs
      stills = each-map BeginsCalm (Still c x.stream) (calm-stills c x.stream) fs k

      by : (same : Bool) → same ≡ is_same x.stream i
          → (First c n x.stream (OnReadable i (reads.PullSettled o) ∷ fs) × (n ≤ n)) ⊎ Main c n s x.stream (OnReadable i (reads.PullSettled o) ∷ fs)
      by true e = inl ((sym e, stills), omega arith)
      by false e =
          let none = still-pulled c x.stream fs stills in
          let idle = one (readable_at x.stream s).pulling in
          inr (rw (← e) (still-settles c x.stream fs stills), omega (arith, none, idle))

  settling-may : (i : StreamId) (o : Result Plain Plain) (fs : List Effect) → Each BeginsCalm fs → Each (May xs ps true false) (OnReadable i (reads.PullSettled o) ∷ fs)
  settling-may i o fs k = (inr refl, each-map BeginsCalm (May xs ps true false) (λ e b. calm-may xs ps true false e (calm-first xs ps e b)) fs k)

  side-mode : (side : Side) → Begins es → SideMode c n xs ps s x es side ⊎ Post_mode c n (posted c s.promises) es
  side-mode ReadableSide (reading k) = inl (inl (each-map BeginsReading _ (reads-first xs ps) es k, inr (still-main (each-map BeginsReading (Still c x.stream) (reads-still c x.stream) es k))))
  side-mode WritableSide (reading k) = inl (inl (each-map BeginsReading _ (reads-first xs ps) es k), few)
  side-mode ReadableSide (cancelling k) = inl (inr (inl (each-map BeginsCancelling _ (cancels-first xs ps) es k, few)))
  side-mode WritableSide (cancelling k) = inl (inr (inl (each-map BeginsCancelling _ (cancels-first xs ps) es k)), few)
  side-mode ReadableSide (calmly k) = inl (inr (inr (calm-leads xs ps es (each-map BeginsCalm _ (calm-first xs ps) es k), omega arith)))
  side-mode WritableSide (calmly k) = inl (inr (inr (calm-leads xs ps es (each-map BeginsCalm _ (calm-first xs ps) es k))), few)
  side-mode ReadableSide (looking p operation fs e l k) = inl (inr (inr (rw e (inr (l, each-map BeginsCalm _ (calm-first xs ps) fs k)), omega arith)))
  side-mode WritableSide (looking p operation fs e l k) = inl (inr (inr (rw e (inr (l, each-map BeginsCalm _ (calm-first xs ps) fs k)))), few)
  side-mode ReadableSide (settling i o fs e k) = inl (inl (rw e (settling-may i o fs k, settling-main i o fs k)))
  side-mode WritableSide (settling i o fs e k) = inl (inl (rw e (settling-may i o fs k)), few)
  side-mode side (posting k w) = let h = w c in inr (k, omega (arith, h))

  pub begin-mode : Begins es → PortMode c n xs ps s es (Some x)
  begin-mode b = ⊎_elim (λ k. inr k) (λ k. inl k) (side-mode x.side b)

module _ (c : PortId) (n : ℕ) where
  -- at a moment of the step, in which no more than n messages were posted before
  abbrev Moment_so : Slots → List Effect → Type 0
  Moment_so s es = (Fitting s es × Halved s) × PortMode c n (stream_shapes s) (port_shapes s) s es (slice_get s.ports c.0)

  -- where there is no such port, none is posted
  none-row : (s : Slots) (e : Effect) (es : List Effect) → slice_get s.ports c.0 ≡ None → count c s ≤ n + 1
      → PortMode c n (stream_shapes s) (port_shapes s) (row e s).slots ((row e s).caused ++ es) (slice_get (row e s).slots.ports c.0)
  none-row s (OnPort d operation) es is few =
      by-port c (λ d. PortMode c n (stream_shapes s) (port_shapes s) (row (OnPort d operation) s).slots ((row (OnPort d operation) s).caused ++ es) (slice_get (row (OnPort d operation) s).slots.ports c.0)) d
      (λ e. let l = row-leaves c (OnPort d operation) s e in let same = ap length l.0 in rw (l.1, is) (omega (arith, same, few)))
      (rw (no-mine c operation s is, is) few)
  none-row s e es is few = let l = row-leaves c e s tt in let same = ap length l.0 in rw (l.1, is) (omega (arith, same, few))

  port-row : (s : Slots) (e : Effect) (es : List Effect) → Fitting s (e ∷ es) → Halved s → (o : Option cross.Slots) → slice_get s.ports c.0 ≡ o
      → PortMode c n (stream_shapes s) (port_shapes s) s (e ∷ es) o
      → PortMode c n (stream_shapes s) (port_shapes s) (row e s).slots ((row e s).caused ++ es) (slice_get (row e s).slots.ports c.0)
  port-row s e es f h None is k = none-row s e es is k
  port-row s e es f h (Some x) is k = mode-row c n s f.0 h x is e es f.1.0 k

  moment-row : (s : Slots) (e : Effect) (es : List Effect) → Moment_so s (e ∷ es) → Moment_so (row e s).slots ((row e s).caused ++ es)
  moment-row s e es k = (
    (fitting-stays.row s e es k.0.0, halved-stays.row s e es k.0.1),
    rw (row-stream_shapes e s, row-port_shapes e s) (port-row s e es k.0.0 k.0.1 (slice_get s.ports c.0) refl k.1),
  )

  few-at : (xs : List StreamShape) (ps : List PortShape) (s : Slots) (o : Option cross.Slots) → PortMode c n xs ps s [] o → count c s ≤ n + 1
  few-at xs ps s None k = k
  few-at xs ps s (Some x) (inl k) = let h = k.1 in omega (arith, h)
  few-at xs ps s (Some x) (inr k) = by x.side k
    where
      by : (side : Side) → SideMode c n xs ps s x [] side → count c s ≤ n + 1
      by ReadableSide (inl (m, inl f)) = absurd f.0
      by ReadableSide (inl (m, inr g)) = let h = g.1 in omega (arith, h)
      by ReadableSide (inr (inl m)) = let h = m.1 in omega (arith, h)
      by ReadableSide (inr (inr m)) = let h = m.1 in omega (arith, h)
      by WritableSide m = let h = m.1 in omega (arith, h)

  performed-few : (d : Done) → Moment_so d.slots d.caused → count c (performed d) ≤ n + 1
  performed-few d k =
      few-at (stream_shapes (performed d)) (port_shapes (performed d)) (performed d) (slice_get (performed d).ports c.0) (performed-goes tt (λ f g. tt) untold (λ e s. tt) (λ h s es. Moment_so s es) (λ h s e es k. moment-row s e es k) tt d k).1

-- a step from where a run has come
abbrev Reached : Slots → List Effect → Type 0
Reached s es = Fitting s es × Halved s

reached-stays : Stays Reached
reached-stays = record {
  row = λ s e es k. (fitting-stays.row s e es k.0, halved-stays.row s e es k.1);
  call = λ s call k. (fitting-stays.call s call k.0, halved-stays.call s call k.1);
  job = λ s job e k. (fitting-stays.job s job e k.0, halved-stays.job s job e k.1);
  answered = λ s p k. (fitting-stays.answered s p k.0, halved-stays.answered s p k.1);
  older = λ s k. (fitting-stays.older s k.0, halved-stays.older s k.1);
}

module _ (c : PortId) where
  begins-port : (n : ℕ) (z : Slots) (es : List Effect) → count c z ≡ n → Begins es → (o : Option cross.Slots) → PortMode c n (stream_shapes z) (port_shapes z) z es o
  begins-port n z es e b None = omega (arith, e)
  begins-port n z es e b (Some x) = subst (λ (n : ℕ). PortMode c n (stream_shapes z) (port_shapes z) z es (Some x)) e (begin-mode c z x es b)

  named-count : (reply : Reply) (s : Slots) → count c (named reply s) ≡ count c s
  named-count (PromiseReply p) s = ap length (watch-posted c p s.promises)
  named-count reply s = refl

  called-few : (call : Call) (s : Slots) → Reached s [] → count c (step s (Called call)) ≤ count c s + 1
  called-few call s r =
      let d : Done = (begin call s).done in
      let same : count c d.slots ≡ count c s = ap (λ es. length (posted_in c es)) (call-events call s) in
      let h = performed-few c (count c s) d (reached-stays.call s call r, begins-port (count c s) d.slots d.caused same (call-begins call s) (slice_get d.slots.ports c.0)) in
      let m = named-count (begin call s).reply (performed d) in
      omega (arith, h, m)

  job-few : (s : Slots) → Reached s [] → (o : Option Job) → next_job s.promises ≡ o → count c (performed (job_begun s o)) ≤ count c s + 1
  job-few s r None e = performed-few c (count c s) (nothing s) (r, begins-port (count c s) s [] refl (calmly tt) (slice_get s.ports c.0))
  job-few s r (Some job) e =
      let z : Slots = with_promises (after_next_job s.promises) s in
      let same : count c z ≡ count c s = ap (λ es. length (posted_in c es)) (next-events s.promises) in
      performed-few c (count c s) (record { slots = z; caused = job_effects job }) (reached-stays.job s job e r, begins-port (count c s) z (job_effects job) same (job-begins job) (slice_get z.ports c.0))

  worked-few : (s : Slots) → Reached s [] → count c (step s Worked) ≤ count c s + 1
  unfolding begin_job
  worked-few s r = job-few s r (next_job s.promises) refl

  later-few : (es : List Event) → length (posted_in c (later_events es)) ≤ length (posted_in c es) + 1
  later-few [] = omega arith
  later-few (e ∷ es) = let h = ap length (posted-append c (e ∷ []) es) in let n = length-append (posted_in c (e ∷ [])) (posted_in c es) in omega (arith, h, n)

  step-few : (s : Slots) (x : Entry) → Reached s [] → count c (step s x) ≤ count c s + 1
  step-few s (Called call) r = called-few call s r
  step-few s Worked r = worked-few s r
  step-few s Heard r = later-few s.promises.events

pub each_step_posts_once : EachStepPostsOnce
each_step_posts_once entries x c = step-few c (run entries empty) x (run-stays Reached reached-stays (λ z k. k) entries empty (fitting-empty, halved-empty))
