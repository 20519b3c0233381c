-- What holds the result of a write of a transform stream: the reaction by which it goes on, and the one to its transform algorithm, and the effects
-- that lead to these. No effect makes more of it, but the two by which a result is made.
use Rattle.ws_steps.specs.Cross as cross
use Rattle.ws_steps.specs.declared.effects.Owner.TheVariants.{EndOf}
use Rattle.std.proofs.Common.{Bool}
use Rattle.ws_steps.specs.declared.transform.Taker.TheVariants.{ToPort}
use Rattle.ws_steps.specs.declared.port.PortOperation.{PortOperation}
use Rattle.ws_steps.specs.declared.port.PortOperation.TheVariants as ports
use Rattle.ws_value.specs.declared.ids.PortId.{PortId}
use Rattle.ws_steps.specs.Operations.{port_operation}
use Rattle.ws_steps.specs.Slots.{on_port_at, clones_at}
use Rattle.ws_steps.specs.declared.effects.Effect.TheVariants.{Port as OnPort}
use Rattle.std.proofs.Common.{◌≡◌, ℕ, ◌+◌, ◌≤◌, true, false, if◌then◌else◌, nat_eq, length, List, [], ◌∷◌, Option, Some, None, slice_get, refl, arith}
use Rattle.ws_steps.specs.Slots.{on_tee_at}
use Rattle.ws_steps.specs.Operations.{tee_operation}
use Rattle.ws_steps.specs.declared.tee.TeeOperation.{TeeOperation}
use Rattle.ws_value.specs.declared.ids.TeeId.{TeeId}
use Rattle.ws_steps.specs.Tee as tee
use Rattle.ws_steps.specs.declared.effects.Effect.TheVariants.{Tee as OnTee}
use Rattle.ws_value.specs.declared.{ids.PipeId.{PipeId}, ids.PromiseId.{PromiseId}, ids.StreamId.{StreamId}, value.Value.{Value}, value.Plain.{Plain}}
use Rattle.ws_steps.specs.declared.calls.{Event.{Event}, Event.TheVariants.{Host as HostCalled}, HostCall.{HostCall}}
use Rattle.ws_steps.specs.Effects.{Out, cause}
use Rattle.ws_steps.specs.declared.calls.{Call.{Call}, StartBy.{StartBy}, StartBy.TheVariants.{Now, Later}}
use Rattle.ws_steps.specs.declared.effects.{Effect.{Effect}, Gift.{Gift}, Owner.{Owner}, Owner.TheVariants.{Host, HalfOf, BranchOf}, Use.{Use}, Use.TheVariants.{React, Resolve}}
use Rattle.ws_steps.specs.declared.effects.Effect.TheVariants.{Readable as OnReadable, Writable as OnWritable, Pipe as OnPipe, Signal as OnSignal, Transform as OnTransform, StartAlgorithm, PullAlgorithm, CancelAlgorithm, WriteAlgorithm, CloseAlgorithm, AbortAlgorithm, ChunkSteps, CloseSteps, ErrorSteps, Give, CallHost}
use Rattle.ws_steps.specs.declared.pipes.{SignalOperation.{SignalOperation}, SignalOperation.TheVariants.{Add, Forget, Trigger}}
use Rattle.ws_steps.specs.declared.promises.{Job.{Job}, Reaction.{Reaction}, Reaction.TheVariants.{Perform}, Step.{Step}, Step.TheVariants.{TransformChanged, Transformed, ReadablePull, ReturnUndefined, WritableClose, WritableAbort}}
use Rattle.ws_steps.specs.declared.readable.{ReadRequest.{ReadRequest}, ReadRequest.TheVariants.{Promise, Pipe as PipeRequest, Tee as TeeRequest}}
use Rattle.ws_steps.specs.declared.transform.{Halves.{Halves}, Taker.{Taker}, Taker.TheVariants.{ToHost, ToTransform}, TransformId.{TransformId}, TransformOperation.{TransformOperation}}
use Rattle.ws_steps.specs.declared.transform.TransformOperation.TheVariants as names
use Rattle.ws_steps.specs.declared.writable.{WritableOperation.{WritableOperation}, WritableOperation.TheVariants.{HandOn}, WriteRecord.{WriteRecord}, WriteRecord.TheVariants.{Chunk, InFlight, CloseMark}}
use Rattle.ws_steps.specs.Begun.{Begun}
use Rattle.ws_steps.specs.Calls.{begin}
use Rattle.ws_steps.specs.Jobs.{job_effects}
use Rattle.ws_steps.specs.Operations.{writable_operation, transform_operation}
use Rattle.ws_steps.specs.Promises.{Table, next_id, fresh, tell, use_this, use_gift}
use Rattle.ws_steps.specs.Queues.{first_value}
use Rattle.ws_steps.specs.Slots.{Slots, Done, nothing, found, halves_at, owner_at, has_writable, put_writable, on_transform_at}
use Rattle.ws_steps.specs.Transform as transform
use Rattle.ws_steps.specs.Turns.{row, call_host, start_algorithm, pull_algorithm, cancel_algorithm, write_algorithm, close_algorithm, abort_algorithm}
use Rattle.ws_steps.specs.Writable as writable
use Rattle.ws_laws.proofs.EachCall.{each_call}
use Rattle.ws_laws.proofs.Lists.{Each}
use Rattle.ws_laws.proofs.PipeDoes.{IsStepOf, PipeCauses}
use Rattle.ws_laws.proofs.Causes.{ChunkCauses, EndCauses, ErrorCauses, SignalCauses, row-causes}
use Rattle.ws_laws.proofs.Tables.{either, writable_acts}
use Rattle.ws_laws.proofs.Weights.{weigh, taken_off, weigh-fresh, weigh-settle, weigh-answer, weigh-micro, weigh-react, weigh-follow}
use Rattle.ws_laws.proofs.WritableDoes.{IsHandOn, others-do}
use Rattle.ws_writable_laws.proofs.Shape.{all, all-append}
use Rattle.ws_transform_laws.specs.TransformHistory.{is_same_transform}
use Rattle.ws_transform_laws.proofs.Sparing.{IsUsing, row-spares}
use Rattle.ws_steps.specs.declared.effects.Effect.TheVariants.{Byte, CloseStepsWith}
use Rattle.ws_steps.specs.declared.tee.TeeOperation.TheVariants as tees

module _ (t : TransformId) (P : PromiseId → ℕ) where
  -- so much of it in a reaction
  abbrev pub promised : Reaction → ℕ
  promised (Perform (TransformChanged u c) derived) = if is_same_transform t u then P c else 0
  promised (Perform (Transformed u) (Some c)) = if is_same_transform t u then P c else 0
  promised _ = 0

  abbrev pub of_used : Use → ℕ
  of_used (React step derived) = promised (Perform step derived)
  of_used (Resolve q) = 0

  -- and in an effect
  abbrev pub in_hand : Effect → ℕ
  in_hand (Give g u) = of_used u
  in_hand (CallHost c u) = of_used u
  in_hand (StartAlgorithm j step start) = promised (Perform step None)
  in_hand (OnTransform u (names.SinkWrite w)) = of_used w
  in_hand (OnTransform u (names.SourcePull w)) = of_used w
  in_hand (OnTransform u (names.SinkClose w)) = of_used w
  in_hand (OnTransform u (names.SinkAbort r w)) = of_used w
  in_hand (OnTransform u (names.SourceCancel r w)) = of_used w
  in_hand (OnTee u (tees.CancelBranch half r w)) = of_used w
  in_hand (OnPort q (ports.Leave r w)) = of_used w
  in_hand (OnPort q (ports.Write w)) = of_used w
  in_hand (OnPort q (ports.Close w)) = of_used w
  in_hand (OnTransform u (names.TransformChunk v c)) = if is_same_transform t u then P c else 0
  in_hand (OnTransform u (names.WriteGoesOn c)) = if is_same_transform t u then P c else 0
  in_hand (OnWritable j (HandOn (ToTransform u c))) = if is_same_transform t u then P c else 0
  in_hand _ = 0

  abbrev pub all_in_hand : List Effect → ℕ
  all_in_hand es = all in_hand es

  self : (k : ℕ) → nat_eq k k ≡ true
  self k = grind arith

  -- effects that hold none

  abbrev IsBare : Effect → Type 0
  IsBare e = in_hand e ≡ 0

  each-bare : (es : List Effect) → Each IsBare es → all_in_hand es ≡ 0
  each-bare [] k = refl
  each-bare (e ∷ es) k = let a = each-bare es k.1 in let b = k.0 in omega arith

  chunk-bare : (v : Value) (r : ReadRequest) → ChunkCauses IsBare v r
  chunk-bare v (Promise p) = tt
  chunk-bare v (PipeRequest p) = refl
  chunk-bare v (TeeRequest t) = refl

  end-bare : (r : ReadRequest) → EndCauses IsBare r
  end-bare (Promise p) = tt
  end-bare (PipeRequest p) = refl
  end-bare (TeeRequest t) = refl

  error-bare : (r : ReadRequest) → ErrorCauses IsBare r
  error-bare (Promise p) = tt
  error-bare (PipeRequest p) = refl
  error-bare (TeeRequest t) = refl

  signal-bare : (operation : SignalOperation) → SignalCauses IsBare operation
  signal-bare (Add p) = tt
  signal-bare (Forget p) = tt
  signal-bare (Trigger r) = λ p. refl

  pipe-step : (p : PipeId) (step : Step) → IsStepOf p step → promised (Perform step None) ≡ 0
  pipe-step p step c = grind arith

  pipe-bare : (p : PipeId) (source dest : StreamId) (e : Effect) → PipeCauses p source dest e → IsBare e
  pipe-bare p source dest e c = grind (arith, pipe-step)

  -- operations of a writable stream

  caused-bare : (x : Out) (e : Effect) → in_hand e ≡ 0 → all_in_hand x.effects ≡ 0 → all_in_hand (cause e x).effects ≡ 0
  caused-bare x e n k = let a = all-append in_hand x.effects (e ∷ []) in omega arith

  others-bare : (s : Slots) (j : StreamId) (operation : WritableOperation) → (IsHandOn operation → ⊥) → all_in_hand (row (OnWritable j operation) s).caused ≡ 0
  unfolding row
  others-bare s j operation u =
      either (λ (d : Done). all_in_hand d.caused ≡ 0) (has_writable j s) (put_writable j s (writable_operation j operation (writable_acts j s))) (nothing s)
      (λ there. others-do (λ (x : Out). all_in_hand x.effects ≡ 0) j (record {
        settle = λ x p o h. h;
        fresh = λ x h. h;
        tell = λ x r h. h;
        write = λ x h. caused-bare x (WriteAlgorithm j) refl h;
        close = λ x h. caused-bare x (CloseAlgorithm j) refl h;
        abort = λ x r p h. caused-bare x (AbortAlgorithm j r p) refl h;
      }) operation (writable_acts j s) u refl) (λ none. refl)

  taken-same : (j : StreamId) (taker : Taker) (v : Value) → all_in_hand (writable.taken_by j v taker ∷ []) ≤ in_hand (OnWritable j (HandOn taker))
  taken-same j ToHost v = omega arith
  taken-same j (ToTransform u c) v = omega arith
  taken-same j (ToPort q c) v = omega arith

  first-same : (j : StreamId) (taker : Taker) (a : writable.Acts) (first : Option WriteRecord) → a.out.effects ≡ []
      → all_in_hand (writable.hand_on_first j taker a first).out.effects ≤ in_hand (OnWritable j (HandOn taker))
  first-same j taker a None none = rw none (omega arith)
  first-same j taker a (Some CloseMark) none = rw none (omega arith)
  first-same j taker a (Some InFlight) none = rw none (omega arith)
  first-same j taker a (Some (Chunk v)) none = rw none (taken-same j taker v)

  hand_on-same : (s : Slots) (j : StreamId) (taker : Taker) → all_in_hand (row (OnWritable j (HandOn taker)) s).caused ≤ in_hand (OnWritable j (HandOn taker))
  unfolding row writable.hand_on
  hand_on-same s j taker =
      either (λ (d : Done). all_in_hand d.caused ≤ in_hand (OnWritable j (HandOn taker))) (has_writable j s) (put_writable j s (writable_operation j (HandOn taker) (writable_acts j s))) (nothing s)
      (λ there. first-same j taker (writable_acts j s) (first_value (writable_acts j s).slots.queue) refl) (λ none. omega arith)

  writable-same : (s : Slots) (j : StreamId) (operation : WritableOperation)
      → all_in_hand (row (OnWritable j operation) s).caused ≤ in_hand (OnWritable j operation)
  writable-same s j (HandOn taker) = hand_on-same s j taker
  writable-same s j operation = let a = others-bare s j operation (λ u. u) in omega arith

  -- operations of a transform stream

  -- those that make a result
  abbrev pub Makes : Effect → Type 0
  Makes (OnTransform u (names.SinkWrite w)) = is_same_transform t u ≡ true
  Makes (OnTransform u (names.WriteGoesOn c)) = is_same_transform t u ≡ true
  Makes _ = ⊥

  transform-same : (u : TransformId) (halves : Halves) (operation : TransformOperation) (a : transform.Acts)
      → (Makes (OnTransform u operation) → is_same_transform t u ≡ false) → a.out.effects ≡ []
      → all_in_hand (transform_operation u halves operation a).out.effects ≤ in_hand (OnTransform u operation)
  unfolding transform.unblock transform.transform_error transform.terminate transform.enqueue transform.enqueued transform.transform_chunk transform.sink_write transform.write_goes_on transform.source_pull transform.set_backpressure transform.sink_close transform.sink_abort transform.source_cancel transform.flush_settled transform.abort_settled transform.cancel_settled
  transform-same u halves operation a b none = grind (arith, b, none)

  on-same : (s : Slots) (u : TransformId) (operation : TransformOperation) (o : Option transform.Slots) → (Makes (OnTransform u operation) → ⊥)
      → all_in_hand (on_transform_at (λ halves. transform_operation u halves operation) u s o).caused ≤ in_hand (OnTransform u operation)
  on-same s u operation None b = omega arith
  on-same s u operation (Some x) b = transform-same u (halves_at x s) operation (record { slots = x; out = found s }) (λ m. absurd (b m)) refl

  -- and of a tee

  tee-same : (u : TeeId) (operation : TeeOperation) (a : tee.Acts) → a.out.effects ≡ [] → all_in_hand (tee_operation u operation a).out.effects ≤ in_hand (OnTee u operation)
  unfolding tee.pull_branch tee.keep_chunk tee.source_closed tee.source_errored tee.hand_chunk tee.handed tee.cancel_branch tee.reader_settled
  tee-same u operation a none = grind (arith, none)

  on-tee-same : (s : Slots) (u : TeeId) (operation : TeeOperation) (o : Option tee.Slots) → all_in_hand (on_tee_at (tee_operation u operation) u s o).caused ≤ in_hand (OnTee u operation)
  on-tee-same s u operation None = omega arith
  on-tee-same s u operation (Some x) = tee-same u operation (record { slots = x; out = found s }) refl

  -- and of a port

  port-same : (c : PortId) (clones : Bool) (operation : PortOperation) (a : cross.Acts) → a.out.effects ≡ [] → all_in_hand (port_operation c clones operation a).out.effects ≤ in_hand (OnPort c operation)
  unfolding cross.pull cross.leave cross.close cross.write cross.write_goes_on cross.post_chunk cross.unblock cross.deliver
  port-same c clones operation a none = grind (arith, none)

  on-port-same : (s : Slots) (c : PortId) (operation : PortOperation) (o : Option cross.Slots) → all_in_hand (on_port_at (λ clones. port_operation c clones operation) c s o).caused ≤ in_hand (OnPort c operation)
  on-port-same s c operation None = omega arith
  on-port-same s c operation (Some x) = port-same c (clones_at x s) operation (record { slots = x; out = found s }) refl

  -- one that makes a result

  sink-makes : (w : Use) (a : transform.Acts) → a.out.effects ≡ []
      → all_in_hand (transform.sink_write t w a).out.effects ≤ P (next_id a.out.promises) + of_used w
  unfolding transform.sink_write
  sink-makes w a none = let same = self t.0 in grind (arith, none, same)

  pub on-sink : (s : Slots) (w : Use) (o : Option transform.Slots)
      → all_in_hand (on_transform_at (λ halves. transform_operation t halves (names.SinkWrite w)) t s o).caused ≤ P (next_id s.promises) + of_used w
  on-sink s w None = omega arith
  on-sink s w (Some x) = sink-makes w (record { slots = x; out = found s }) refl

  going-makes : (halves : Halves) (c : PromiseId) (a : transform.Acts) → a.out.effects ≡ []
      → all_in_hand (transform.write_goes_on t halves c a).out.effects ≤ P (next_id a.out.promises)
  unfolding transform.write_goes_on
  going-makes halves c a none = let same = self t.0 in grind (arith, none, same)

  pub on-going : (s : Slots) (c : PromiseId) (o : Option transform.Slots)
      → all_in_hand (on_transform_at (λ halves. transform_operation t halves (names.WriteGoesOn c)) t s o).caused ≤ P (next_id s.promises)
  on-going s c None = omega arith
  on-going s c (Some x) = going-makes (halves_at x s) c (record { slots = x; out = found s }) refl

  -- algorithms, by whose they are

  start-same : (s : Slots) (j : StreamId) (step : Step) (start : StartBy) → all_in_hand (start_algorithm j step s start).caused ≤ promised (Perform step None)
  start-same s j step Now = omega arith
  start-same s j step Later = omega arith

  pull-bare : (j : StreamId) (owner : Owner) → all_in_hand (pull_algorithm j (React (ReadablePull j) None) owner) ≡ 0
  pull-bare j Host = refl
  pull-bare j (HalfOf u) = refl
  pull-bare j (BranchOf u half) = refl
  pull-bare j (EndOf c) = refl

  cancel-bare : (j : StreamId) (c : Plain) (p : PromiseId) (owner : Owner) → all_in_hand (cancel_algorithm j c (React ReturnUndefined (Some p)) owner) ≡ 0
  cancel-bare j c p Host = refl
  cancel-bare j c p (HalfOf u) = refl
  cancel-bare j c p (BranchOf u half) = refl
  cancel-bare j c p (EndOf q) = refl

  write-bare : (j : StreamId) (owner : Owner) → all_in_hand (write_algorithm j owner) ≡ 0
  write-bare j Host = refl
  write-bare j (HalfOf u) = refl
  write-bare j (BranchOf u half) = refl
  write-bare j (EndOf c) = refl

  close-bare : (j : StreamId) (owner : Owner) → all_in_hand (close_algorithm j (React (WritableClose j) None) owner) ≡ 0
  close-bare j Host = refl
  close-bare j (HalfOf u) = refl
  close-bare j (BranchOf u half) = refl
  close-bare j (EndOf c) = refl

  abort-bare : (j : StreamId) (c : Plain) (p : PromiseId) (owner : Owner) → all_in_hand (abort_algorithm j c (React (WritableAbort j p) None) owner) ≡ 0
  abort-bare j c p Host = refl
  abort-bare j c p (HalfOf u) = refl
  abort-bare j c p (BranchOf u half) = refl
  abort-bare j c p (EndOf q) = refl

  none-less : (n m : ℕ) → n ≡ 0 → n ≤ m
  none-less n m e = omega arith

  -- each effect
  pub row-same : (e : Effect) (s : Slots) → (Makes e → ⊥) → all_in_hand (row e s).caused ≤ in_hand e
  unfolding row
  row-same (OnReadable j operation) s n = none-less _ _ (each-bare _ (row-causes IsBare (OnReadable j operation) s (record { pull = refl; cancel = λ c p. refl; chunk = λ q v. refl; close = λ q. refl; error = λ q e. refl })))
  row-same (Byte j operation) s n = none-less _ _ (each-bare _ (row-causes IsBare (Byte j operation) s (record { readable = record { pull = refl; cancel = λ c p. refl; chunk = λ q v. refl; close = λ q. refl; error = λ q e. refl }; close_with = λ q b. refl })))
  row-same (OnWritable j operation) s n = writable-same s j operation
  row-same (OnPipe p operation) s n = none-less _ _ (each-bare _ (row-causes IsBare (OnPipe p operation) s (pipe-bare p)))
  row-same (OnSignal a operation) s n = none-less _ _ (each-bare _ (row-causes IsBare (OnSignal a operation) s (signal-bare operation)))
  row-same (OnTransform u operation) s n = on-same s u operation (slice_get s.transforms u.0) n
  row-same (OnTee u operation) s n = on-tee-same s u operation (slice_get s.tees u.0)
  row-same (OnPort c operation) s n = on-port-same s c operation (slice_get s.ports c.0)
  row-same (StartAlgorithm j step start) s n = start-same s j step start
  row-same (PullAlgorithm j) s n = none-less _ _ (pull-bare j (owner_at j s))
  row-same (CancelAlgorithm j c p) s n = none-less _ _ (cancel-bare j c p (owner_at j s))
  row-same (WriteAlgorithm j) s n = none-less _ _ (write-bare j (owner_at j s))
  row-same (CloseAlgorithm j) s n = none-less _ _ (close-bare j (owner_at j s))
  row-same (AbortAlgorithm j c p) s n = none-less _ _ (abort-bare j c p (owner_at j s))
  row-same (ChunkSteps j r v) s n = none-less _ _ (each-bare _ (row-causes IsBare (ChunkSteps j r v) s (chunk-bare v r)))
  row-same (CloseSteps j r) s n = none-less _ _ (each-bare _ (row-causes IsBare (CloseSteps j r) s (end-bare r)))
  row-same (CloseStepsWith j r b) s n = none-less _ _ (each-bare _ (row-causes IsBare (CloseStepsWith j r b) s (end-bare r)))
  row-same (ErrorSteps j r e) s n = none-less _ _ (each-bare _ (row-causes IsBare (ErrorSteps j r e) s (error-bare r)))
  row-same _ s n = omega arith

  -- among the promises

  used-weighs : (p : PromiseId) (z : Table) (u : Use) → weigh promised (use_this p z u) ≤ weigh promised z + of_used u
  used-weighs p z u = grind (arith, weigh-react, weigh-follow)

  gift-weighs : (g : Gift) (u : Use) (z : Table) → weigh promised (use_gift g u z) ≤ weigh promised z + of_used u
  unfolding use_gift
  gift-weighs g u z = grind (arith, used-weighs, weigh-settle, weigh-fresh)

  told-weighs : (event : Event) (z : Table) → weigh promised (tell event z) ≡ weigh promised z
  unfolding weigh
  told-weighs event z = refl

  host-weighs : (call : HostCall) (u : Use) (s : Slots) → weigh promised (call_host call u s).promises ≤ weigh promised s.promises + of_used u
  unfolding call_host
  host-weighs call u s = let b = told-weighs (HostCalled (record { 0 = length s.hosts }) call) (fresh s.promises) in grind (arith, used-weighs, weigh-fresh)

  within : (m n k : ℕ) → m ≤ n → n ≤ k → m ≤ k
  within m n k a b = omega arith

  abbrev pub among : Slots → ℕ
  among s = weigh promised s.promises

  pub spared-weighs : (e : Effect) (s : Slots) → (IsUsing e → ⊥) → among (row e s).slots ≤ among s
  spared-weighs e s n = row-spares (λ z. weigh promised z ≤ weigh promised s.promises) (record {
    fresh = λ z h. within _ _ _ (weigh-fresh promised z) h;
    settle = λ z p o h. within _ _ _ (weigh-settle promised p o z) h;
    answer = λ z p o h. within _ _ _ (weigh-answer promised p o z) h;
    micro = λ z m h. within _ _ _ (weigh-micro promised m z) h;
    signal = λ z i c h. rw (told-weighs _ z) h;
    post = λ z c m h. rw (told-weighs _ z) h;
  }) e s n (omega arith)

  -- no effect makes more, but one that makes a result
  pub row-weighs : (e : Effect) (s : Slots) → (Makes e → ⊥) → among (row e s).slots + all_in_hand (row e s).caused ≤ among s + in_hand e
  unfolding row
  row-weighs (Give g u) s n = let a = gift-weighs g u s.promises in omega arith
  row-weighs (CallHost c u) s n = let a = host-weighs c u s in omega arith
  row-weighs e s n = let a = spared-weighs e s (λ u. u) in let b = row-same e s n in omega arith

  -- what calls and jobs begin with

  pub call-bare : (c : Call) (s : Slots) → all_in_hand (begin c s).done.caused ≡ 0
  call-bare c s = each_call (λ (b : Begun). all_in_hand b.done.caused ≡ 0) c s (grind arith)

  pub job-same : (job : Job) → all_in_hand (job_effects job) ≤ taken_off promised job
  job-same job = grind arith
