-- Over every run a transform stream is told that its flush algorithm settled only after the close algorithm of its writable half was performed.
use Rattle.std.proofs.Common.{◌≡◌, ℕ, ◌+◌, ◌≤◌, Bool, true, false, not, ◌&&◌, if◌then◌else◌, List, [], ◌∷◌, ◌++◌, Option, Some, None, slice_get, refl, sym, ap, ◌∙◌, arith}
use Rattle.ws_value.specs.declared.ids.{PipeId.{PipeId}, PromiseId.{PromiseId}, StreamId.{StreamId}}
use Rattle.ws_value.specs.declared.value.Plain.{Plain}
use Rattle.ws_steps.specs.declared.calls.{Call.{Call}, StartBy.{StartBy}, StartBy.TheVariants.{Now, Later}}
use Rattle.ws_steps.specs.declared.effects.{Effect.{Effect}, Owner.{Owner}, Owner.TheVariants.{Host, HalfOf, BranchOf, EndOf}, Use.TheVariants.{React}}
use Rattle.ws_steps.specs.declared.effects.Effect.TheVariants.{Readable as OnReadable, Writable as OnWritable, Pipe as OnPipe, Signal as OnSignal, Transform as OnTransform, Tee as OnTee, Port as OnPort, StartAlgorithm, PullAlgorithm, CancelAlgorithm, WriteAlgorithm, CloseAlgorithm, AbortAlgorithm, ChunkSteps, CloseSteps, ErrorSteps, Give, CallHost}
use Rattle.ws_steps.specs.declared.promises.{Job.{Job}, Step.{Step}}
use Rattle.ws_steps.specs.declared.promises.Step.TheVariants.{ReadablePull, ReturnUndefined, WritableClose, WritableAbort, TransformFlushed}
use Rattle.ws_steps.specs.declared.readable.ReadRequest.TheVariants.{Promise, Pipe as PipeRequest, Tee as TeeRequest}
use Rattle.ws_steps.specs.declared.transform.{Halves.{Halves}, TransformId.{TransformId}, TransformOperation.{TransformOperation}}
use Rattle.ws_steps.specs.declared.transform.TransformOperation.TheVariants as names
use Rattle.ws_steps.specs.Begun.{Begun}
use Rattle.ws_steps.specs.Calls.{begin}
use Rattle.ws_steps.specs.Histories.{is_same}
use Rattle.ws_steps.specs.Jobs.{job_effects}
use Rattle.ws_steps.specs.Operations.{transform_operation, tee_operation, port_operation}
use Rattle.ws_steps.specs.Promises.{next_job, after_next_job, watch}
use Rattle.ws_steps.specs.Run.{Entry, run, older, after_event}
use Rattle.ws_steps.specs.Slots.{Slots, empty, found, halves_at, owner_at, has_writable, writable_at, with_promises, on_transform_at, on_tee_at, on_port_at}
use Rattle.ws_steps.specs.Transform as transform
use Rattle.ws_steps.specs.Turns.{row, start_algorithm, pull_algorithm, cancel_algorithm, write_algorithm, close_algorithm, abort_algorithm}
use Rattle.ws_steps.specs.WritableHistory.{Writes, no_writes, writes_then, effect_writes, run_writes}
use Rattle.ws_laws.proofs.Begin.{begin-makes}
use Rattle.ws_laws.proofs.EachCall.{each_call}
use Rattle.ws_laws.proofs.Halves.{Halved, halved-stays, halved-empty, call-among}
use Rattle.ws_laws.proofs.Lists.{Each, each-append}
use Rattle.ws_laws.proofs.PipeDoes.{IsStepOf, PipeCauses}
use Rattle.ws_laws.proofs.Causes.{row-causes}
use Rattle.ws_laws.proofs.Shapes.{WritableOf, TransformShape, stream_shape, stream_shapes, transform_shapes, map-there, row-owner, row-transform_shapes}
use Rattle.ws_laws.proofs.Tables.{eq_numbers, is_same-refl, writable_there}
use Rattle.ws_laws.proofs.Walker as walker
use Rattle.ws_laws.proofs.Walker.{GoesUntold, RestsUntold}
use Rattle.ws_laws.proofs.Weights.{weigh, of_next, taken_off, weigh-fresh, weigh-settle, weigh-answer, weigh-micro, weigh-next, weigh-watch}
use Rattle.ws_writable_laws.proofs.Agenda.{weight-tell, weight-gift, weight-host}
use Rattle.ws_writable_laws.proofs.Runs.{is_history}
use Rattle.ws_writable_laws.proofs.Shape.{one_if, of_use, of_reaction, weight, of_tee, of_port}
use Rattle.ws_transform_laws.specs.TransformHistory.{is_same_transform, is_flushed}
use Rattle.ws_transform_laws.proofs.Sparing.{row-spares}
use Rattle.ws_link_laws.proofs.Turns.{signal-each}
use Rattle.ws_steps.specs.declared.effects.Effect.TheVariants.{Byte, CloseStepsWith}
use Rattle.ws_value.specs.declared.ids.TeeId.{TeeId}
use Rattle.ws_value.specs.declared.ids.PortId.{PortId}
use Rattle.ws_steps.specs.declared.tee.TeeOperation.{TeeOperation}
use Rattle.ws_steps.specs.declared.port.PortOperation.{PortOperation}
use Rattle.ws_steps.specs.Tee as tee
use Rattle.ws_steps.specs.Cross as cross
use Rattle.ws_steps.specs.Slots.{clones_at}

abbrev is_half : TransformId → Owner → Bool
is_half t Host = false
is_half t (HalfOf u) = is_same_transform t u
is_half t (BranchOf u half) = false
is_half t (EndOf c) = false

-- transform stream t, whose writable half is stream w
module _ (t : TransformId) (w : StreamId) where
  -- the reaction to its flush algorithm
  abbrev is_flush : Step → ℕ
  is_flush (TransformFlushed u p) = one_if (is_same_transform t u)
  is_flush _ = 0

  abbrev of_flush : TransformId → TransformOperation → ℕ
  of_flush u (names.SinkWrite v) = of_use is_flush v
  of_flush u (names.SourcePull v) = of_use is_flush v
  of_flush u (names.SinkClose v) = one_if (is_same_transform t u) + of_use is_flush v
  of_flush u (names.SinkAbort c v) = of_use is_flush v
  of_flush u (names.SourceCancel c v) = of_use is_flush v
  of_flush u _ = 0

  -- the close algorithm of another stream that performs those of the transform stream
  abbrev strange : Slots → StreamId → Bool
  strange s j = is_half t (owner_at j s) && not (is_same w j)

  -- what leads to it, but for the close algorithm of the half
  abbrev flushes : Slots → Effect → ℕ
  flushes s (OnTransform u operation) = of_flush u operation
  flushes s (OnTee u operation) = of_tee is_flush operation
  flushes s (OnPort u operation) = of_port is_flush operation
  flushes s (CloseAlgorithm j) = one_if (strange s j)
  flushes s (StartAlgorithm j step start) = is_flush step
  flushes s (Give gift u) = of_use is_flush u
  flushes s (CallHost call u) = of_use is_flush u
  flushes s _ = 0

  abbrev IsNone : Slots → Effect → Type 0
  IsNone s e = flushes s e ≡ 0

  abbrev None_of : Slots → List Effect → Type 0
  None_of s es = Each (IsNone s) es

  -- the transform stream, where it is there, has this half
  abbrev pub Fits : Slots → Type 0
  Fits s = (x : TransformShape) → slice_get (transform_shapes s) t.0 ≡ Some x → x.writable ≡ w

  half-only : (s : Slots) (j : StreamId) → Halved s → Fits s → has_writable j s ≡ true → strange s j ≡ false
  half-only s j halved fits there = by (owner_at j s) refl (is_half t (owner_at j s)) refl
    where
      shape : slice_get (stream_shapes s) j.0 ≡ Some (WritableOf (writable_at j s).owner)
      shape = map-there stream_shape s.streams j.0 _ (writable_there (slice_get s.streams j.0) there)

      owned : owner_at j s ≡ (writable_at j s).owner
      owned = let at = writable_there (slice_get s.streams j.0) there in rw at refl

      by : (o : Owner) → o ≡ owner_at j s → (b : Bool) → b ≡ is_half t o → is_half t (owner_at j s) && not (is_same w j) ≡ false
      by Host e b f = rw (← e) refl
      by (HalfOf u) e false f = rw (← e, ← f) refl
      by (BranchOf u half) e b f = rw (← e) refl
      by (EndOf c) e b f = rw (← e) refl
      by (HalfOf u) e true f =
          let one : t ≡ u = ap (λ (n : ℕ). record { 0 = n }) (eq_numbers t.0 u.0 (sym f)) in
          let at : slice_get (stream_shapes s) j.0 ≡ Some (WritableOf (HalfOf t)) = shape ∙ ap (λ (o : Owner). Some (WritableOf o)) (sym owned ∙ (sym e ∙ ap HalfOf (sym one))) in
          let h = halved.writable j t at in
          let is : w ≡ j = sym (fits h.0 h.1.0) ∙ h.1.1 in
          let same : is_same w j ≡ true = rw (← is) (is_same-refl w) in
          rw (same, ← e, ← f) refl

  transform-none : (s : Slots) (u : TransformId) (halves : Halves) (operation : TransformOperation) (a : transform.Acts) → of_flush u operation ≡ 0 → a.out.effects ≡ [] → None_of s (transform_operation u halves operation a).out.effects
  unfolding transform.unblock transform.transform_error transform.terminate transform.enqueue transform.enqueued transform.transform_chunk transform.sink_write transform.write_goes_on transform.source_pull transform.set_backpressure transform.sink_close transform.sink_abort transform.source_cancel transform.flush_settled transform.abort_settled transform.cancel_settled
  transform-none s u halves operation a c none = grind (arith, c, none)

  on_transform-none : (s : Slots) (u : TransformId) (operation : TransformOperation) (o : Option transform.Slots) → of_flush u operation ≡ 0 → None_of s (on_transform_at (λ halves. transform_operation u halves operation) u s o).caused
  on_transform-none s u operation None c = tt
  on_transform-none s u operation (Some x) c = transform-none s u (halves_at x s) operation (record { slots = x; out = found s }) c refl

  tee-none : (s : Slots) (u : TeeId) (operation : TeeOperation) (a : tee.Acts) → of_tee is_flush operation ≡ 0 → a.out.effects ≡ [] → None_of s (tee_operation u operation a).out.effects
  unfolding tee.pull_branch tee.keep_chunk tee.source_closed tee.source_errored tee.hand_chunk tee.handed tee.cancel_branch tee.reader_settled
  tee-none s u operation a c none = grind (arith, c, none)

  port-none : (s : Slots) (u : PortId) (clones : Bool) (operation : PortOperation) (a : cross.Acts) → of_port is_flush operation ≡ 0 → a.out.effects ≡ [] → None_of s (port_operation u clones operation a).out.effects
  unfolding cross.pull cross.leave cross.close cross.write cross.write_goes_on cross.post_chunk cross.unblock cross.deliver
  port-none s u clones operation a c none = grind (arith, c, none)

  on_tee-none : (s : Slots) (u : TeeId) (operation : TeeOperation) (o : Option tee.Slots) → of_tee is_flush operation ≡ 0 → None_of s (on_tee_at (tee_operation u operation) u s o).caused
  on_tee-none s u operation None c = tt
  on_tee-none s u operation (Some x) c = tee-none s u operation (record { slots = x; out = found s }) c refl

  on_port-none : (s : Slots) (u : PortId) (operation : PortOperation) (o : Option cross.Slots) → of_port is_flush operation ≡ 0 → None_of s (on_port_at (λ clones. port_operation u clones operation) u s o).caused
  on_port-none s u operation None c = tt
  on_port-none s u operation (Some x) c = port-none s u (clones_at x s) operation (record { slots = x; out = found s }) c refl

  pipe-step : (p : PipeId) (step : Step) → IsStepOf p step → is_flush step ≡ 0
  pipe-step p step c = grind arith

  pipe-effect : (s : Slots) (p : PipeId) (source dest : StreamId) (e : Effect) → PipeCauses p source dest e → IsNone s e
  pipe-effect s p source dest e c = grind (arith, pipe-step)

  start-none : (s z : Slots) (j : StreamId) (step : Step) (start : StartBy) → is_flush step ≡ 0 → None_of s (start_algorithm j step z start).caused
  start-none s z j step Now n = (n, tt)
  start-none s z j step Later n = grind (arith, n)

  pull-none : (s : Slots) (j : StreamId) (owner : Owner) → None_of s (pull_algorithm j (React (ReadablePull j) None) owner)
  pull-none s j Host = (refl, tt)
  pull-none s j (HalfOf u) = (refl, tt)
  pull-none s j (BranchOf u half) = (refl, (refl, tt))
  pull-none s j (EndOf c) = (refl, (refl, tt))

  cancel-none : (s : Slots) (j : StreamId) (c : Plain) (p : PromiseId) (owner : Owner) → None_of s (cancel_algorithm j c (React ReturnUndefined (Some p)) owner)
  cancel-none s j c p Host = (refl, tt)
  cancel-none s j c p (HalfOf u) = (refl, tt)
  cancel-none s j c p (BranchOf u half) = (refl, tt)
  cancel-none s j c p (EndOf q) = (refl, tt)

  write-none : (s : Slots) (j : StreamId) (owner : Owner) → None_of s (write_algorithm j owner)
  write-none s j Host = (refl, tt)
  write-none s j (HalfOf u) = (refl, tt)
  write-none s j (BranchOf u half) = (refl, tt)
  write-none s j (EndOf c) = (refl, tt)

  abort-none : (s : Slots) (j : StreamId) (c : Plain) (p : PromiseId) (owner : Owner) → None_of s (abort_algorithm j c (React (WritableAbort j p) None) owner)
  abort-none s j c p Host = (refl, tt)
  abort-none s j c p (HalfOf u) = (refl, tt)
  abort-none s j c p (BranchOf u half) = (refl, tt)
  abort-none s j c p (EndOf q) = (refl, tt)

  -- a stream that isn't the half closes
  close-none : (s : Slots) (j : StreamId) (owner : Owner) → owner ≡ owner_at j s → is_same w j ≡ false → one_if (strange s j) ≡ 0 → None_of s (close_algorithm j (React (WritableClose j) None) owner)
  close-none s j Host e n c = (refl, tt)
  close-none s j (HalfOf u) e n c = (by (is_same_transform t u) (let k : one_if (is_half t (owner_at j s) && not false) ≡ 0 = rw n at c in rw (← e) at k), tt)
    where
      by : (b : Bool) → one_if (b && not false) ≡ 0 → one_if b + 0 ≡ 0
      by true k = cc
      by false k = refl
  close-none s j (BranchOf u half) e n c = (refl, tt)
  close-none s j (EndOf q) e n c = (refl, tt)

  -- another effect than the close algorithm of the half
  abbrev IsOther : Effect → Type 0
  IsOther (CloseAlgorithm j) = is_same w j ≡ false
  IsOther _ = Unit {0}

  row-none : (e : Effect) (s : Slots) → Halved s → Fits s → IsOther e → IsNone s e → None_of s (row e s).caused
  unfolding row
  row-none (OnReadable j operation) s halved fits o n = row-causes (IsNone s) (OnReadable j operation) s (record { pull = refl; cancel = λ c p. refl; chunk = λ q v. refl; close = λ q. refl; error = λ q c. refl })
  row-none (Byte j operation) s halved fits o n =
      row-causes (IsNone s) (Byte j operation) s (record { readable = record { pull = refl; cancel = λ c p. refl; chunk = λ q v. refl; close = λ q. refl; error = λ q c. refl }; close_with = λ q b. refl })
  row-none (OnWritable j operation) s halved fits o n = by (has_writable j s) refl
    where
      by : (there : Bool) → there ≡ has_writable j s → None_of s (row (OnWritable j operation) s).caused
      by true e = row-causes (IsNone s) (OnWritable j operation) s (record { write = refl; close = rw (half-only s j halved fits (sym e)) refl; abort = λ c p. refl; hand_on = λ v. refl; take = λ v u d. refl; post = λ v u d. refl })
      by false e = rw (← e) tt
  row-none (OnPipe p operation) s halved fits o n = row-causes (IsNone s) (OnPipe p operation) s (λ source dest u c. pipe-effect s p source dest u c)
  row-none (OnSignal a operation) s halved fits o n = row-causes (IsNone s) (OnSignal a operation) s (signal-each (IsNone s) operation (λ q r. refl))
  row-none (OnTransform u operation) s halved fits o n = on_transform-none s u operation (slice_get s.transforms u.0) n
  row-none (OnTee u operation) s halved fits o n = on_tee-none s u operation (slice_get s.tees u.0) n
  row-none (OnPort u operation) s halved fits o n = on_port-none s u operation (slice_get s.ports u.0) n
  row-none (StartAlgorithm j step start) s halved fits o n = start-none s s j step start n
  row-none (PullAlgorithm j) s halved fits o n = pull-none s j (owner_at j s)
  row-none (CancelAlgorithm j c p) s halved fits o n = cancel-none s j c p (owner_at j s)
  row-none (WriteAlgorithm j) s halved fits o n = write-none s j (owner_at j s)
  row-none (CloseAlgorithm j) s halved fits o n = close-none s j (owner_at j s) refl o n
  row-none (AbortAlgorithm j c p) s halved fits o n = abort-none s j c p (owner_at j s)
  row-none (ChunkSteps j (Promise p) v) s halved fits o n = tt
  row-none (CloseSteps j (Promise p)) s halved fits o n = tt
  row-none (CloseStepsWith j (Promise p) b) s halved fits o n = tt
  row-none (ErrorSteps j (Promise p) e) s halved fits o n = tt
  row-none (ChunkSteps j (PipeRequest p) v) s halved fits o n = (refl, tt)
  row-none (ChunkSteps j (TeeRequest k) v) s halved fits o n = (refl, tt)
  row-none (CloseSteps j (PipeRequest p)) s halved fits o n = (refl, tt)
  row-none (CloseSteps j (TeeRequest k)) s halved fits o n = (refl, tt)
  row-none (CloseStepsWith j (PipeRequest p) b) s halved fits o n = (refl, tt)
  row-none (CloseStepsWith j (TeeRequest k) b) s halved fits o n = (refl, tt)
  row-none (ErrorSteps j (PipeRequest p) e) s halved fits o n = (refl, tt)
  row-none (ErrorSteps j (TeeRequest k) e) s halved fits o n = (refl, tt)
  row-none _ s halved fits o n = tt

  none-left : (m n : ℕ) → m ≤ n → n ≡ 0 → m ≡ 0
  none-left m n l e = omega (arith, l, e)

  row-weight : (e : Effect) (s : Slots) → IsNone s e → weight is_flush s.promises ≡ 0 → weight is_flush (row e s).slots.promises ≡ 0
  unfolding row
  row-weight (Give gift u) s n k = let l = weight-gift is_flush gift u s.promises in omega (arith, l, n, k)
  row-weight (CallHost call u) s n k = let l = weight-host is_flush call u s in omega (arith, l, n, k)
  row-weight e s n k = row-spares (λ z. weight is_flush z ≡ 0) (record {
    fresh = λ z h. none-left _ _ (weigh-fresh (of_reaction is_flush) z) h;
    settle = λ z p o h. none-left _ _ (weigh-settle (of_reaction is_flush) p o z) h;
    answer = λ z p o h. none-left _ _ (weigh-answer (of_reaction is_flush) p o z) h;
    micro = λ z m h. none-left _ _ (weigh-micro (of_reaction is_flush) m z) h;
    signal = λ z i c h. weight-tell is_flush _ z ∙ h;
    post = λ z i m h. weight-tell is_flush _ z ∙ h;
  }) e s (λ u. u) k

  -- the owners stay
  none-same : (e : Effect) (s : Slots) (f : Effect) → IsNone s f → IsNone (row e s).slots f
  none-same e s (CloseAlgorithm j) n = rw (row-owner j e s) n
  none-same e s f n = grind (arith, n)

  none-on : (e : Effect) (s : Slots) (es : List Effect) → None_of s es → None_of (row e s).slots es
  none-on e s [] n = tt
  none-on e s (f ∷ es) n = (none-same e s f n.0, none-on e s es n.1)

  -- before the close algorithm of the half was performed, nothing leads to it

  pub record Unflushed (h : Writes) (s : Slots) (es : List Effect) : Type 0 where
    pub halved : Halved s
    pub none : h.closes ≡ 0 → Fits s → (weight is_flush s.promises ≡ 0) × None_of s es

  other-is : (e : Effect) (s : Slots) → (effect_writes w e s).closes ≡ 0 → IsOther e
  other-is (CloseAlgorithm j) s n = by (is_same w j) n
    where
      by : (b : Bool) → (if b then record no_writes { closes = 1 } else no_writes).closes ≡ 0 → b ≡ false
      by true k = cc
      by false k = refl
  other-is _ s n = tt

  row-unflushed : (h : Writes) (s : Slots) (e : Effect) (es : List Effect) → Unflushed h s (e ∷ es) → Unflushed (writes_then h (effect_writes w e s)) (row e s).slots ((row e s).caused ++ es)
  row-unflushed h s e es k = record {
    halved = halved-stays.row s e es k.halved;
    none = λ n fits.
        let a : h.closes ≡ 0 = omega (arith, n) in
        let b : (effect_writes w e s).closes ≡ 0 = omega (arith, n) in
        let f : Fits s = λ x at. fits x (ap (λ (vs : List TransformShape). slice_get vs t.0) (row-transform_shapes e s) ∙ at) in
        let m = k.none a f in
        (row-weight e s m.1.0 m.0, each-append (IsNone (row e s).slots) (row e s).caused es (none-on e s (row e s).caused (row-none e s k.halved f (other-is e s b) m.1.0)) (none-on e s es m.1.1));
  }

  -- calls and jobs

  call-none : (z : Slots) (c : Call) (s : Slots) → None_of z (begin c s).done.caused
  call-none z c s = each_call (λ (b : Begun). None_of z b.done.caused) c s (grind arith)

  call-weight : (c : Call) (s : Slots) → weight is_flush (begin c s).done.slots.promises ≤ weight is_flush s.promises
  call-weight c s = begin-makes (λ z. weight is_flush z.promises ≤ weight is_flush s.promises) (record {
    promise = λ z k. let l = weigh-fresh (of_reaction is_flush) z.promises in omega (arith, l, k);
    locks = λ z ls k. k;
    hosts = λ z hs k. k;
    pipe = λ z source dest prevent signal promise k. k;
    signal = λ z k. k;
    transform = λ z kind v r change k. k;
    tee = λ z source first second cancel k. k;
    port = λ z side stream backpressure k. k;
    bytes = λ z mark auto k. k;
    byob_requests = λ z hs k. k;
    readable = λ z o mark size k. k;
    writable = λ z o mark size k. k;
  }) c s (omega arith)

  job-none : (z : Slots) (job : Job) → taken_off (of_reaction is_flush) job ≡ 0 → None_of z (job_effects job)
  job-none z job n = grind (arith, n)

  rest : (h : Writes) (s z : Slots) → Halved z → transform_shapes z ≡ transform_shapes s → weight is_flush z.promises ≤ weight is_flush s.promises → Unflushed h s [] → Unflushed h z []
  rest h s z halved same light k = record {
    halved = halved;
    none = λ n fits. (none-left _ _ light (k.none n (λ x at. fits x (ap (λ (vs : List TransformShape). slice_get vs t.0) same ∙ at))).0, tt);
  }

  goes : GoesUntold writes_then (effect_writes w) Unflushed
  goes = record {
    row = row-unflushed;
    call = λ h s c k. record {
      halved = halved-stays.call s c k.halved;
      none = λ n fits. (none-left _ _ (call-weight c s) (k.none n (λ x at. fits x (call-among c s t x at))).0, call-none (begin c s).done.slots c s);
    };
    job = λ h s job e k. record {
      halved = k.halved;
      none = λ n fits.
          let m = (k.none n fits).0 in
          let l : weight is_flush (after_next_job s.promises) + taken_off (of_reaction is_flush) job ≤ weight is_flush s.promises = rw e at (weigh-next (of_reaction is_flush) s.promises) in
          (omega (arith, l, m), job-none (with_promises (after_next_job s.promises) s) job (omega (arith, l, m)));
    };
    answered = λ h s p k. rest h s (with_promises (watch p s.promises) s) k.halved refl (weigh-watch (of_reaction is_flush) p s.promises) k;
    older = λ h s k. rest h s (older s) k.halved refl (omega arith) k;
  }

  rests : RestsUntold Unflushed
  unfolding weigh
  rests = record { heard = λ h s k. rest h s (after_event s) k.halved refl (omega arith) k }

  none-unflushed : Unflushed no_writes empty []
  unfolding weigh
  none-unflushed = record { halved = halved-empty; none = λ n fits. (refl, tt) }

  run-unflushed : (xs : List Entry) → Unflushed (run_writes w xs empty) (run xs empty) []
  run-unflushed xs = walker.run-holds no_writes writes_then is_history (effect_writes w) Unflushed goes rests xs empty none-unflushed

  -- where the next job is the reaction to the flush algorithm
  next-flushed : (job : Option Job) → is_flushed t job ≡ true → of_next (of_reaction is_flush) job ≡ 1
  next-flushed job e = grind (arith, e)

  pub flush-closed : (xs : List Entry) → Fits (run xs empty) → is_flushed t (next_job (run xs empty).promises) ≡ true → (run_writes w xs empty).closes ≡ 0 → ⊥
  flush-closed xs fits e n =
      let m = ((run-unflushed xs).none n fits).0 in
      let l = weigh-next (of_reaction is_flush) (run xs empty).promises in
      let one = next-flushed (next_job (run xs empty).promises) e in
      absurd (omega (arith, m, l, one))
