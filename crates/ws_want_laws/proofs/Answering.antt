-- What the host is called for by a transform stream, and what waits for it to settle that.
use Rattle.std.proofs.Common.{◌≡◌, ℕ, ◌≤◌, Bool, true, false, nat_eq, length, List, [], ◌∷◌, ◌++◌, Option, Some, None, slice_get, refl, sym, ap, ◌∙◌, arith}
use Rattle.ws_laws.proofs.PortDoes.{PortCauses}
use Rattle.ws_steps.specs.declared.effects.Owner.TheVariants.{EndOf}
use Rattle.ws_value.specs.declared.ids.PortId.{PortId}
use Rattle.ws_laws.proofs.TeeDoes.{TeeCauses}
use Rattle.ws_value.specs.declared.ids.TeeId.{TeeId}
use Rattle.ws_steps.specs.declared.effects.Effect.TheVariants.{Tee as OnTee}
use Rattle.ws_value.specs.declared.{ids.PipeId.{PipeId}, ids.PromiseId.{PromiseId}, ids.StreamId.{StreamId}, value.Plain.{Plain}, value.Value.{Value}}
use Rattle.ws_steps.specs.declared.calls.{Call.{Call}, Event.{Event}, Event.TheVariants.{Host as HostCalled}, HostCall.{HostCall}, StartBy.{StartBy}, StartBy.TheVariants.{Now, Later}}
use Rattle.ws_steps.specs.declared.calls.HostCall.TheVariants.{Transform as HostTransform, Flush as HostFlush}
use Rattle.ws_steps.specs.declared.effects.{Effect.{Effect}, Owner.{Owner}, Owner.TheVariants.{Host, HalfOf, BranchOf}, Use.{Use}, Use.TheVariants.{React, Resolve}}
use Rattle.ws_steps.specs.declared.effects.Effect.TheVariants.{Readable as OnReadable, Writable as OnWritable, Pipe as OnPipe, Signal as OnSignal, Transform as OnTransform, Port as OnPort, StartAlgorithm, PullAlgorithm, CancelAlgorithm, WriteAlgorithm, CloseAlgorithm, AbortAlgorithm, ChunkSteps, CloseSteps, ErrorSteps, CallHost}
use Rattle.ws_steps.specs.declared.pipes.{SignalOperation.{SignalOperation}, SignalOperation.TheVariants.{Add, Forget, Trigger}}
use Rattle.ws_steps.specs.declared.promises.{Job.{Job}, Reaction.{Reaction}, Reaction.TheVariants.{Perform}, Step.{Step}, Step.TheVariants.{Transformed, TransformFlushed}}
use Rattle.ws_steps.specs.declared.readable.{ReadRequest.{ReadRequest}, ReadRequest.TheVariants.{Promise, Pipe as PipeRequest, Tee as TeeRequest}}
use Rattle.ws_steps.specs.declared.transform.{Halves.{Halves}, Kind.{Kind}, Kind.TheVariants.{Identity, Host as HostKind}, TransformId.{TransformId}, TransformOperation.{TransformOperation}}
use Rattle.ws_steps.specs.declared.transform.TransformOperation.TheVariants as names_of
use Rattle.ws_steps.specs.declared.writable.{WritableOperation.{WritableOperation}}
use Rattle.ws_steps.specs.Begun.{Begun}
use Rattle.ws_steps.specs.Calls.{begin}
use Rattle.ws_steps.specs.Jobs.{job_effects}
use Rattle.ws_steps.specs.Operations.{transform_operation}
use Rattle.ws_steps.specs.Promises.{Table, next_id, fresh, pending, tell, use_this}
use Rattle.ws_steps.specs.Slots.{Slots, found, halves_at, owner_at, has_writable, on_transform_at}
use Rattle.ws_steps.specs.Transform as transform
use Rattle.ws_steps.specs.Turns.{row, call_host, start_algorithm, pull_algorithm, cancel_algorithm, write_algorithm, close_algorithm, abort_algorithm}
use Rattle.ws_steps.proofs.PromiseLaws.{entry_at-fresh_new}
use Rattle.ws_laws.proofs.EachCall.{each_call}
use Rattle.ws_laws.proofs.Halves.{Halved}
use Rattle.ws_laws.proofs.Lists.{Each, each-append, each-map}
use Rattle.ws_laws.proofs.PipeDoes.{PipeCauses}
use Rattle.ws_laws.proofs.Causes.{ChunkCauses, EndCauses, ErrorCauses, SignalCauses, row-causes}
use Rattle.ws_laws.proofs.Shapes.{TransformShape, transform_shapes, transform_shape, map-there}
use Rattle.ws_transform_laws.specs.TransformHistory.{is_same_transform}
use Rattle.ws_transform_laws.proofs.Cancelling.{is_half, mine}
use Rattle.ws_transform_laws.proofs.Telling.{owned-stays}
use Rattle.ws_transform_laws.proofs.Waiting.{Waits}
use Rattle.ws_writable_laws.proofs.Shape.{one_if}
use Rattle.ws_want_laws.proofs.Ears.{IsPending, pending-react}
use Rattle.ws_want_laws.proofs.Holding.{IsHalf, written-half}
use Rattle.ws_steps.specs.declared.effects.Effect.TheVariants.{Byte, CloseStepsWith}

self : (k : ℕ) → nat_eq k k ≡ true
self k = grind arith

module _ (t : TransformId) (i r : StreamId) where
  -- the reaction to a transform algorithm
  abbrev pub answered : Reaction → ℕ
  answered (Perform (Transformed u) (Some d)) = one_if (is_same_transform t u)
  answered _ = 0

  abbrev pub uses : Use → ℕ
  uses (React step derived) = answered (Perform step derived)
  uses (Resolve q) = 0

  -- no other transform stream has this readable half
  abbrev pub IsSole : Slots → Type 0
  IsSole s = (u : TransformId) (x : TransformShape) → slice_get (transform_shapes s) u.0 ≡ Some x → x.readable ≡ r → u ≡ t

  -- a call of its transform algorithm is used so
  abbrev pub IsAsked : Effect → Type 0
  IsAsked (CallHost (HostTransform j v) u) = j ≡ r → 1 ≤ uses u
  IsAsked _ = Unit {0}

  abbrev pub Asked : List Effect → Type 0
  Asked es = Each IsAsked es

  chunk-asked : (v : Value) (q : ReadRequest) → ChunkCauses IsAsked v q
  chunk-asked v (Promise p) = tt
  chunk-asked v (PipeRequest p) = tt
  chunk-asked v (TeeRequest t) = tt

  end-asked : (q : ReadRequest) → EndCauses IsAsked q
  end-asked (Promise p) = tt
  end-asked (PipeRequest p) = tt
  end-asked (TeeRequest t) = tt

  error-asked : (q : ReadRequest) → ErrorCauses IsAsked q
  error-asked (Promise p) = tt
  error-asked (PipeRequest p) = tt
  error-asked (TeeRequest t) = tt

  signal-asked : (operation : SignalOperation) → SignalCauses IsAsked operation
  signal-asked (Add p) = tt
  signal-asked (Forget p) = tt
  signal-asked (Trigger c) = λ p. tt

  pipe-asked : (p : PipeId) (source dest : StreamId) (e : Effect) → PipeCauses p source dest e → IsAsked e
  pipe-asked p source dest (CallHost call u) c = absurd c
  pipe-asked p source dest _ c = tt

  tee-asked : (u : TeeId) (source first second : StreamId) (e : Effect) → TeeCauses u source first second e → IsAsked e
  tee-asked u source first second (CallHost call w) c = absurd c
  tee-asked u source first second _ c = tt

  port-asked : (c : PortId) (stream : StreamId) (e : Effect) → PortCauses c stream e → IsAsked e
  port-asked c stream (CallHost call w) k = absurd k
  port-asked c stream _ k = tt

  -- no operation but that calls it
  others-asked : (u : TransformId) (halves : Halves) (operation : TransformOperation) (a : transform.Acts)
      → ((v : Value) (d : PromiseId) → operation ≡ names_of.TransformChunk v d → ⊥) → a.out.effects ≡ []
      → Asked (transform_operation u halves operation a).out.effects
  unfolding transform.unblock transform.transform_error transform.terminate transform.enqueue transform.enqueued transform.transform_chunk transform.sink_write transform.write_goes_on transform.source_pull transform.set_backpressure transform.sink_close transform.sink_abort transform.source_cancel transform.flush_settled transform.abort_settled transform.cancel_settled
  others-asked u halves (names_of.TransformChunk v d) a n none = absurd (n v d refl)
  others-asked u halves operation a n none = grind (arith, none)

  chunk-by : (u : TransformId) (halves : Halves) (v : Value) (d : PromiseId) (x : transform.Slots) (z : Table) (kind : Kind)
      → (x.readable ≡ r → u ≡ t)
      → Asked (transform.transform_by u halves v d (record { slots = x; out = record { promises = z; effects = [] } }) kind)
  chunk-by u halves v d x z HostKind k = (λ e. rw (k e) (let a = self t.0 in rw a (omega arith)), tt)
  chunk-by u halves v d x z Identity k = by halves.can_enqueue
    where
      by : (can : Bool) → Asked (transform.transform_identity u v d (record { slots = x; out = record { promises = z; effects = [] } }) can)
      by true = (tt, (tt, (tt, tt)))
      by false = (tt, tt)

  pub sole-at : (s : Slots) (u : TransformId) (x : transform.Slots) → IsSole s → slice_get s.transforms u.0 ≡ Some x → x.readable ≡ r → u ≡ t
  sole-at s u x h at e = h u (transform_shape x) (map-there transform_shape s.transforms u.0 x at) e

  transform-asked : (s : Slots) (u : TransformId) (operation : TransformOperation) (o : Option transform.Slots) → slice_get s.transforms u.0 ≡ o
      → IsSole s → Asked (on_transform_at (λ halves. transform_operation u halves operation) u s o).caused
  unfolding transform.transform_chunk
  transform-asked s u operation None at h = tt
  transform-asked s u (names_of.TransformChunk v d) (Some x) at h = chunk-by u (halves_at x s) v d x s.promises x.kind (sole-at s u x h at)
  transform-asked s u operation (Some x) at h = others-asked u (halves_at x s) operation (record { slots = x; out = found s }) (λ v d e. cc) refl

  start-asked : (s : Slots) (j : StreamId) (step : Step) (start : StartBy) → Asked (start_algorithm j step s start).caused
  start-asked s j step Now = (tt, tt)
  start-asked s j step Later = (tt, (tt, tt))

  pull-asked : (j : StreamId) (u : Use) (owner : Owner) → Asked (pull_algorithm j u owner)
  pull-asked j u Host = (tt, tt)
  pull-asked j u (HalfOf k) = (tt, tt)
  pull-asked j u (BranchOf k half) = (tt, (tt, tt))
  pull-asked j u (EndOf c) = (tt, (tt, tt))

  cancel-asked : (j : StreamId) (c : Plain) (u : Use) (owner : Owner) → Asked (cancel_algorithm j c u owner)
  cancel-asked j c u Host = (tt, tt)
  cancel-asked j c u (HalfOf k) = (tt, tt)
  cancel-asked j c u (BranchOf k half) = (tt, tt)
  cancel-asked j c u (EndOf q) = (tt, tt)

  write-asked : (j : StreamId) (owner : Owner) → Asked (write_algorithm j owner)
  write-asked j Host = (tt, tt)
  write-asked j (HalfOf k) = (tt, tt)
  write-asked j (BranchOf k half) = (tt, tt)
  write-asked j (EndOf c) = (tt, tt)

  close-asked : (j : StreamId) (u : Use) (owner : Owner) → Asked (close_algorithm j u owner)
  close-asked j u Host = (tt, tt)
  close-asked j u (HalfOf k) = (tt, tt)
  close-asked j u (BranchOf k half) = (tt, tt)
  close-asked j u (EndOf c) = (tt, tt)

  abort-asked : (j : StreamId) (c : Plain) (u : Use) (owner : Owner) → Asked (abort_algorithm j c u owner)
  abort-asked j c u Host = (tt, tt)
  abort-asked j c u (HalfOf k) = (tt, tt)
  abort-asked j c u (BranchOf k half) = (tt, tt)
  abort-asked j c u (EndOf q) = (tt, tt)

  pub row-asked : (e : Effect) (s : Slots) → IsSole s → Asked (row e s).caused
  unfolding row
  row-asked (OnReadable j operation) s h = row-causes IsAsked (OnReadable j operation) s (record { pull = tt; cancel = λ c p. tt; chunk = λ q v. tt; close = λ q. tt; error = λ q e. tt })
  row-asked (Byte j operation) s h = row-causes IsAsked (Byte j operation) s (record { readable = record { pull = tt; cancel = λ c p. tt; chunk = λ q v. tt; close = λ q. tt; error = λ q e. tt }; close_with = λ q b. tt })
  row-asked (OnWritable j operation) s h = row-causes IsAsked (OnWritable j operation) s (record { write = tt; close = tt; abort = λ c p. tt; hand_on = λ v. tt; take = λ v u d. tt; post = λ v c d. tt })
  row-asked (OnPipe p operation) s h = row-causes IsAsked (OnPipe p operation) s (pipe-asked p)
  row-asked (OnSignal a operation) s h = row-causes IsAsked (OnSignal a operation) s (signal-asked operation)
  row-asked (OnTransform u operation) s h = transform-asked s u operation (slice_get s.transforms u.0) refl h
  row-asked (OnTee u operation) s h = row-causes IsAsked (OnTee u operation) s (tee-asked u)
  row-asked (OnPort c operation) s h = row-causes IsAsked (OnPort c operation) s (port-asked c)
  row-asked (StartAlgorithm j step start) s h = start-asked s j step start
  row-asked (PullAlgorithm j) s h = pull-asked j _ (owner_at j s)
  row-asked (CancelAlgorithm j c p) s h = cancel-asked j c _ (owner_at j s)
  row-asked (WriteAlgorithm j) s h = write-asked j (owner_at j s)
  row-asked (CloseAlgorithm j) s h = close-asked j _ (owner_at j s)
  row-asked (AbortAlgorithm j c p) s h = abort-asked j c _ (owner_at j s)
  row-asked (ChunkSteps j q v) s h = row-causes IsAsked (ChunkSteps j q v) s (chunk-asked v q)
  row-asked (CloseSteps j q) s h = row-causes IsAsked (CloseSteps j q) s (end-asked q)
  row-asked (CloseStepsWith j q b) s h = row-causes IsAsked (CloseStepsWith j q b) s (end-asked q)
  row-asked (ErrorSteps j q e) s h = row-causes IsAsked (ErrorSteps j q e) s (error-asked q)
  row-asked _ s h = tt

  pub call-asked : (c : Call) (s : Slots) → Asked (begin c s).done.caused
  call-asked c s = each_call (λ (b : Begun). Asked b.done.caused) c s (grind arith)

  pub job-asked : (job : Job) → Asked (job_effects job)
  job-asked job = grind arith

  -- once it is called to flush, the close algorithm of the writable half was performed: V

  abbrev pub IsClosing : Slots → Type 0 → Effect → Type 0
  IsClosing s V (CloseAlgorithm j) = mine t s j ≡ true → j ≡ i
  IsClosing s V (OnTransform u (names_of.SinkClose w)) = is_same_transform t u ≡ true → V
  IsClosing s V (CallHost (HostFlush j) u) = j ≡ r → V
  IsClosing s V _ = Unit {0}

  abbrev pub Closing : Slots → Type 0 → List Effect → Type 0
  Closing s V es = Each (IsClosing s V) es

  closing-on : (s z : Slots) (V U : Type 0) → ((j : StreamId) → mine t z j ≡ mine t s j) → (V → U) → (e : Effect) → IsClosing s V e → IsClosing z U e
  closing-on s z V U same f (CloseAlgorithm j) k = λ m. k (sym (same j) ∙ m)
  closing-on s z V U same f (OnTransform u (names_of.SinkClose w)) k = λ e. f (k e)
  closing-on s z V U same f (CallHost (HostFlush j) u) k = λ e. f (k e)
  closing-on s z V U same f _ k = tt

  module _ (s : Slots) (V : Type 0) where
    chunk-closing : (v : Value) (q : ReadRequest) → ChunkCauses (IsClosing s V) v q
    chunk-closing v (Promise p) = tt
    chunk-closing v (PipeRequest p) = tt
    chunk-closing v (TeeRequest t) = tt

    end-closing : (q : ReadRequest) → EndCauses (IsClosing s V) q
    end-closing (Promise p) = tt
    end-closing (PipeRequest p) = tt
    end-closing (TeeRequest t) = tt

    error-closing : (q : ReadRequest) → ErrorCauses (IsClosing s V) q
    error-closing (Promise p) = tt
    error-closing (PipeRequest p) = tt
    error-closing (TeeRequest t) = tt

    signal-closing : (operation : SignalOperation) → SignalCauses (IsClosing s V) operation
    signal-closing (Add p) = tt
    signal-closing (Forget p) = tt
    signal-closing (Trigger c) = λ p. tt

    pipe-closing : (p : PipeId) (source dest : StreamId) (e : Effect) → PipeCauses p source dest e → IsClosing s V e
    pipe-closing p source dest (CallHost call u) c = absurd c
    pipe-closing p source dest (OnTransform u operation) c = absurd c
    pipe-closing p source dest (CloseAlgorithm j) c = absurd c
    pipe-closing p source dest _ c = tt

    tee-closing : (u : TeeId) (source first second : StreamId) (e : Effect) → TeeCauses u source first second e → IsClosing s V e
    tee-closing u source first second (CallHost call w) c = absurd c
    tee-closing u source first second (OnTransform y operation) c = absurd c
    tee-closing u source first second (CloseAlgorithm j) c = absurd c
    tee-closing u source first second _ c = tt

    port-closing : (c : PortId) (stream : StreamId) (e : Effect) → PortCauses c stream e → IsClosing s V e
    port-closing c stream (CallHost call w) k = absurd k
    port-closing c stream (OnTransform y operation) k = absurd k
    port-closing c stream (CloseAlgorithm j) k = absurd k
    port-closing c stream _ k = tt

    absent : (j : StreamId) (operation : WritableOperation) → has_writable j s ≡ false → (row (OnWritable j operation) s).caused ≡ []
    unfolding row
    absent j operation e = rw e refl

    writable-closing : (j : StreamId) (operation : WritableOperation) → Halved s → IsHalf t i s → Closing s V (row (OnWritable j operation) s).caused
    writable-closing j operation halved h = by (has_writable j s) refl
      where
        by : (b : Bool) → b ≡ has_writable j s → Closing s V (row (OnWritable j operation) s).caused
        by true e = row-causes (IsClosing s V) (OnWritable j operation) s (record { write = tt; close = written-half t i s j halved h (sym e); abort = λ c p. tt; hand_on = λ v. tt; take = λ v u d. tt; post = λ v c d. tt })
        by false e = rw (absent j operation (sym e)) tt

    flush-by : (u : TransformId) (w : Use) (x : transform.Slots) (z : Table) (kind : Kind) (o : Option PromiseId) → (x.readable ≡ r → V)
        → Closing s V (transform.finish_by (HostFlush x.readable) (TransformFlushed u) w (record { slots = record x { kind = kind }; out = record { promises = z; effects = [] } }) o).out.effects
    flush-by u w x z kind (Some p) k = (tt, tt)
    flush-by u w x z Identity None k = (tt, (tt, tt))
    flush-by u w x z HostKind None k = (k, (tt, tt))

    others-closing : (u : TransformId) (halves : Halves) (operation : TransformOperation) (a : transform.Acts)
        → ((w : Use) → operation ≡ names_of.SinkClose w → ⊥) → a.out.effects ≡ [] → Closing s V (transform_operation u halves operation a).out.effects
    unfolding transform.unblock transform.transform_error transform.terminate transform.enqueue transform.enqueued transform.transform_chunk transform.sink_write transform.write_goes_on transform.source_pull transform.set_backpressure transform.sink_close transform.sink_abort transform.source_cancel transform.flush_settled transform.abort_settled transform.cancel_settled
    others-closing u halves (names_of.SinkClose w) a n none = absurd (n w refl)
    others-closing u halves operation a n none = grind (arith, none)

    transform-closing : (u : TransformId) (operation : TransformOperation) (o : Option transform.Slots) → slice_get s.transforms u.0 ≡ o → IsSole s
        → IsClosing s V (OnTransform u operation) → Closing s V (on_transform_at (λ halves. transform_operation u halves operation) u s o).caused
    unfolding transform.sink_close
    transform-closing u operation None at h k = tt
    transform-closing u (names_of.SinkClose w) (Some x) at h k =
        flush-by u w x s.promises x.kind x.finish (λ e. k (let is = sole-at s u x h at e in rw is (self t.0)))
    transform-closing u operation (Some x) at h k = others-closing u (halves_at x s) operation (record { slots = x; out = found s }) (λ w e. cc) refl

    start-closing : (j : StreamId) (step : Step) (start : StartBy) → Closing s V (start_algorithm j step s start).caused
    start-closing j step Now = (tt, tt)
    start-closing j step Later = (tt, (tt, tt))

    pull-closing : (j : StreamId) (u : Use) (owner : Owner) → Closing s V (pull_algorithm j u owner)
    pull-closing j u Host = (tt, tt)
    pull-closing j u (HalfOf k) = (tt, tt)
    pull-closing j u (BranchOf k half) = (tt, (tt, tt))
    pull-closing j u (EndOf c) = (tt, (tt, tt))

    cancel-closing : (j : StreamId) (c : Plain) (u : Use) (owner : Owner) → Closing s V (cancel_algorithm j c u owner)
    cancel-closing j c u Host = (tt, tt)
    cancel-closing j c u (HalfOf k) = (tt, tt)
    cancel-closing j c u (BranchOf k half) = (tt, tt)
    cancel-closing j c u (EndOf q) = (tt, tt)

    write-closing : (j : StreamId) (owner : Owner) → Closing s V (write_algorithm j owner)
    write-closing j Host = (tt, tt)
    write-closing j (HalfOf k) = (tt, tt)
    write-closing j (BranchOf k half) = (tt, tt)
    write-closing j (EndOf c) = (tt, tt)

    close-closing : (j : StreamId) (u : Use) (owner : Owner) → (is_half t owner ≡ true → V) → Closing s V (close_algorithm j u owner)
    close-closing j u Host k = (tt, tt)
    close-closing j u (HalfOf y) k = (k, tt)
    close-closing j u (BranchOf y half) k = (tt, tt)
    close-closing j u (EndOf c) k = (tt, tt)

    abort-closing : (j : StreamId) (c : Plain) (u : Use) (owner : Owner) → Closing s V (abort_algorithm j c u owner)
    abort-closing j c u Host = (tt, tt)
    abort-closing j c u (HalfOf k) = (tt, tt)
    abort-closing j c u (BranchOf k half) = (tt, tt)
    abort-closing j c u (EndOf q) = (tt, tt)

    pub caused-closing : (e : Effect) → Halved s → IsHalf t i s → IsSole s → IsClosing s V e → (e ≡ CloseAlgorithm i → V) → Closing s V (row e s).caused
    unfolding row
    caused-closing (OnReadable j operation) halved h g k v = row-causes (IsClosing s V) (OnReadable j operation) s (record { pull = tt; cancel = λ c p. tt; chunk = λ q v. tt; close = λ q. tt; error = λ q e. tt })
    caused-closing (Byte j operation) halved h g k v =
        row-causes (IsClosing s V) (Byte j operation) s (record { readable = record { pull = tt; cancel = λ c p. tt; chunk = λ q v. tt; close = λ q. tt; error = λ q e. tt }; close_with = λ q b. tt })
    caused-closing (OnWritable j operation) halved h g k v = writable-closing j operation halved h
    caused-closing (OnPipe p operation) halved h g k v = row-causes (IsClosing s V) (OnPipe p operation) s (pipe-closing p)
    caused-closing (OnSignal a operation) halved h g k v = row-causes (IsClosing s V) (OnSignal a operation) s (signal-closing operation)
    caused-closing (OnTransform u operation) halved h g k v = transform-closing u operation (slice_get s.transforms u.0) refl g k
    caused-closing (OnTee u operation) halved h g k v = row-causes (IsClosing s V) (OnTee u operation) s (tee-closing u)
    caused-closing (OnPort c operation) halved h g k v = row-causes (IsClosing s V) (OnPort c operation) s (port-closing c)
    caused-closing (StartAlgorithm j step start) halved h g k v = start-closing j step start
    caused-closing (PullAlgorithm j) halved h g k v = pull-closing j _ (owner_at j s)
    caused-closing (CancelAlgorithm j c p) halved h g k v = cancel-closing j c _ (owner_at j s)
    caused-closing (WriteAlgorithm j) halved h g k v = write-closing j (owner_at j s)
    caused-closing (CloseAlgorithm j) halved h g k v = close-closing j _ (owner_at j s) (λ m. v (ap CloseAlgorithm (k m)))
    caused-closing (AbortAlgorithm j c p) halved h g k v = abort-closing j c _ (owner_at j s)
    caused-closing (ChunkSteps j q x) halved h g k v = row-causes (IsClosing s V) (ChunkSteps j q x) s (chunk-closing x q)
    caused-closing (CloseSteps j q) halved h g k v = row-causes (IsClosing s V) (CloseSteps j q) s (end-closing q)
    caused-closing (CloseStepsWith j q b) halved h g k v = row-causes (IsClosing s V) (CloseStepsWith j q b) s (end-closing q)
    caused-closing (ErrorSteps j q e) halved h g k v = row-causes (IsClosing s V) (ErrorSteps j q e) s (error-closing q)
    caused-closing _ halved h g k v = tt

  pub row-closing : (s : Slots) (V U : Type 0) (e : Effect) (es : List Effect) → Halved s → IsHalf t i s → IsSole s → (V → U)
      → (e ≡ CloseAlgorithm i → U) → Closing s V (e ∷ es) → Closing (row e s).slots U ((row e s).caused ++ es)
  row-closing s V U e es halved h g f v k =
      each-append (IsClosing (row e s).slots U) (row e s).caused es
      (each-map (IsClosing s U) (IsClosing (row e s).slots U) (closing-on s (row e s).slots U U (owned-stays t i s e) (λ u. u)) (row e s).caused (caused-closing s U e halved h g (closing-on s s V U (λ j. refl) f e k.0) v))
      (each-map (IsClosing s V) (IsClosing (row e s).slots U) (closing-on s (row e s).slots V U (owned-stays t i s e) f) es k.1)

  pub call-closing : (c : Call) (s z : Slots) (V : Type 0) → Closing z V (begin c s).done.caused
  call-closing c s z V = each_call (λ (b : Begun). Closing z V b.done.caused) c s (grind arith)

  pub job-closing : (job : Job) (s : Slots) (V : Type 0) → Closing s V (job_effects job)
  job-closing job s V = grind arith

  -- a host call that is made waits for its promise

  new-pending : (z : Table) (event : Event) → IsPending (next_id z) (tell event (fresh z))
  new-pending z event = record { entry = pending; there = entry_at-fresh_new z (next_id z) refl; pends = refl }

  weaker : (n m : ℕ) (p : PromiseId) (z : Table) → n ≤ m → Waits answered m p z → Waits answered n p z
  weaker n m p z l w = record { entry = w.entry; there = w.there; waits = λ h. let a = w.waits h in omega arith }

  used-waits : (p : PromiseId) (z : Table) (u : Use) → IsPending p z → 1 ≤ uses u → Waits answered 1 p (use_this p z u)
  used-waits p z (React step derived) k l = weaker 1 (answered (Perform step derived)) p _ l (pending-react answered p (Perform step derived) z k)
  used-waits p z (Resolve q) k l = absurd (omega arith)

  pub called-waits : (call : HostCall) (u : Use) (s : Slots) → 1 ≤ uses u → Waits answered 1 (next_id s.promises) (row (CallHost call u) s).slots.promises
  unfolding row call_host
  called-waits call u s l = used-waits (next_id s.promises) (tell (HostCalled (record { 0 = length s.hosts }) call) (fresh s.promises)) u (new-pending s.promises (HostCalled (record { 0 = length s.hosts }) call)) l
