-- The steps of requests of stream i come of its own operations alone.
use Rattle.std.proofs.Common.{◌≡◌, false, List, [], ◌∷◌, refl}
use Rattle.ws_value.specs.declared.{ids.PipeId.{PipeId}, ids.PortId.{PortId}, ids.StreamId.{StreamId}, ids.TeeId.{TeeId}, value.Value.{Value}}
use Rattle.ws_steps.specs.declared.byte.ByteOperation.{ByteOperation}
use Rattle.ws_steps.specs.declared.{calls.Call.{Call}, promises.Job.{Job}, transform.TransformId.{TransformId}}
use Rattle.ws_steps.specs.declared.effects.Effect.{Effect}
use Rattle.ws_steps.specs.declared.effects.Effect.TheVariants.{Readable as OnReadable, Byte, Writable, Pipe, Signal, Transform, Tee, Port, StartAlgorithm, PullAlgorithm, CancelAlgorithm, WriteAlgorithm, CloseAlgorithm, AbortAlgorithm, ChunkSteps, CloseSteps, CloseStepsWith, ErrorSteps}
use Rattle.ws_steps.specs.declared.pipes.{SignalOperation.{SignalOperation}, SignalOperation.TheVariants.{Add, Forget, Trigger}}
use Rattle.ws_steps.specs.declared.readable.{ReadRequest.{ReadRequest}, ReadRequest.TheVariants.{Promise, Pipe as PipeRequest, Tee as TeeRequest}, ReadableOperation.{ReadableOperation}}
use Rattle.ws_steps.specs.Calls.{begin}
use Rattle.ws_steps.specs.Histories.{is_same}
use Rattle.ws_steps.specs.Jobs.{job_effects}
use Rattle.ws_steps.specs.Slots.{Slots}
use Rattle.ws_steps.specs.Turns.{row}
use Rattle.ws_laws.proofs.Begin.{IsFirst, Enqueues, Never, begin-first, job-first}
use Rattle.ws_laws.proofs.Causes.{ChunkCauses, EndCauses, ErrorCauses, SignalCauses, row-causes}
use Rattle.ws_laws.proofs.Lists.{Each, each-map}
use Rattle.ws_laws.proofs.PipeDoes.{PipeCauses}
use Rattle.ws_laws.proofs.PortDoes.{PortCauses}
use Rattle.ws_laws.proofs.TeeDoes.{TeeCauses}
use Rattle.ws_laws.proofs.TransformDoes.{TransformCauses}
use Rattle.ws_byte_laws.proofs.OnByte.{IsStill}
use Rattle.ws_answer_laws.proofs.Told.{effect_done, to_come}

module _ (i : StreamId) where
  -- no steps of a request of stream i
  abbrev pub IsNoStep : Effect → Type 0
  IsNoStep (ChunkSteps j q v) = is_same i j ≡ false
  IsNoStep (CloseSteps j q) = is_same i j ≡ false
  IsNoStep (CloseStepsWith j q b) = is_same i j ≡ false
  IsNoStep (ErrorSteps j q e) = is_same i j ≡ false
  IsNoStep _ = Unit {0}

  pub none-done : (e : Effect) → IsNoStep e → effect_done i e ≡ []
  none-done (ChunkSteps j q v) n = rw n refl
  none-done (CloseSteps j q) n = rw n refl
  none-done (CloseStepsWith j q b) n = rw n refl
  none-done (ErrorSteps j q e) n = rw n refl
  none-done _ n = refl

  pub none-come : (es : List Effect) → Each IsNoStep es → to_come i es ≡ []
  none-come [] n = refl
  none-come (e ∷ es) n = rw (none-done e n.0, none-come es n.1) refl

  pipe-none : (p : PipeId) (source dest : StreamId) (e : Effect) → PipeCauses p source dest e → IsNoStep e
  pipe-none p source dest (ChunkSteps j q v) c = absurd c
  pipe-none p source dest (CloseSteps j q) c = absurd c
  pipe-none p source dest (CloseStepsWith j q b) c = absurd c
  pipe-none p source dest (ErrorSteps j q e) c = absurd c
  pipe-none p source dest _ c = tt

  transform-none : (t : TransformId) (writable readable : StreamId) (e : Effect) → TransformCauses t writable readable e → IsNoStep e
  transform-none t writable readable (ChunkSteps j q v) c = absurd c
  transform-none t writable readable (CloseSteps j q) c = absurd c
  transform-none t writable readable (CloseStepsWith j q b) c = absurd c
  transform-none t writable readable (ErrorSteps j q e) c = absurd c
  transform-none t writable readable _ c = tt

  tee-none : (t : TeeId) (source first second : StreamId) (e : Effect) → TeeCauses t source first second e → IsNoStep e
  tee-none t source first second (ChunkSteps j q v) c = absurd c
  tee-none t source first second (CloseSteps j q) c = absurd c
  tee-none t source first second (CloseStepsWith j q b) c = absurd c
  tee-none t source first second (ErrorSteps j q e) c = absurd c
  tee-none t source first second _ c = tt

  port-none : (c : PortId) (stream : StreamId) (e : Effect) → PortCauses c stream e → IsNoStep e
  port-none c stream (ChunkSteps j q v) k = absurd k
  port-none c stream (CloseSteps j q) k = absurd k
  port-none c stream (CloseStepsWith j q b) k = absurd k
  port-none c stream (ErrorSteps j q e) k = absurd k
  port-none c stream _ k = tt

  signal-none : (operation : SignalOperation) → SignalCauses IsNoStep operation
  signal-none (Add p) = tt
  signal-none (Forget p) = tt
  signal-none (Trigger r) = λ p. tt

  chunk-none : (v : Value) (request : ReadRequest) → ChunkCauses IsNoStep v request
  chunk-none v (Promise p) = tt
  chunk-none v (PipeRequest p) = tt
  chunk-none v (TeeRequest t) = tt

  end-none : (request : ReadRequest) → EndCauses IsNoStep request
  end-none (Promise p) = tt
  end-none (PipeRequest p) = tt
  end-none (TeeRequest t) = tt

  error-none : (request : ReadRequest) → ErrorCauses IsNoStep request
  error-none (Promise p) = tt
  error-none (PipeRequest p) = tt
  error-none (TeeRequest t) = tt

  -- what is no operation of a stream causes none
  pub still-none : (e : Effect) (s : Slots) → IsStill e → Each IsNoStep (row e s).caused
  still-none (OnReadable j op) s n = absurd n
  still-none (Byte j op) s n = absurd n
  still-none (Writable j op) s n = row-causes IsNoStep (Writable j op) s (record { write = tt; close = tt; abort = λ r p. tt; hand_on = λ v. tt; take = λ v t d. tt; post = λ v c d. tt })
  still-none (Pipe p op) s n = row-causes IsNoStep (Pipe p op) s (pipe-none p)
  still-none (Signal a op) s n = row-causes IsNoStep (Signal a op) s (signal-none op)
  still-none (Transform t op) s n = row-causes IsNoStep (Transform t op) s (transform-none t)
  still-none (Tee t op) s n = row-causes IsNoStep (Tee t op) s (tee-none t)
  still-none (Port c op) s n = row-causes IsNoStep (Port c op) s (port-none c)
  still-none (StartAlgorithm j step start) s n = row-causes IsNoStep (StartAlgorithm j step start) s (λ g u. tt, λ c u. tt)
  still-none (PullAlgorithm j) s n = row-causes IsNoStep (PullAlgorithm j) s (λ c u. tt, (λ t u. tt, (λ t. tt, (λ u. tt, λ c. tt))))
  still-none (CancelAlgorithm j r p) s n = row-causes IsNoStep (CancelAlgorithm j r p) s (λ c u. tt, (λ t u. tt, (λ t half u. tt, λ q u. tt)))
  still-none (WriteAlgorithm j) s n = row-causes IsNoStep (WriteAlgorithm j) s (tt, (λ t u. tt, λ q u. tt))
  still-none (CloseAlgorithm j) s n = row-causes IsNoStep (CloseAlgorithm j) s (λ c u. tt, (λ t u. tt, λ q u. tt))
  still-none (AbortAlgorithm j r p) s n = row-causes IsNoStep (AbortAlgorithm j r p) s (λ c u. tt, (λ t u. tt, λ q u. tt))
  still-none (ChunkSteps j q v) s n = row-causes IsNoStep (ChunkSteps j q v) s (chunk-none v q)
  still-none (CloseSteps j q) s n = row-causes IsNoStep (CloseSteps j q) s (end-none q)
  still-none (CloseStepsWith j q b) s n = row-causes IsNoStep (CloseStepsWith j q b) s (end-none q)
  still-none (ErrorSteps j q e) s n = row-causes IsNoStep (ErrorSteps j q e) s (error-none q)
  still-none e s n = row-causes IsNoStep e s tt

  -- nor does an operation of another stream
  pub other-none : (j : StreamId) (op : ReadableOperation) (s : Slots) → is_same i j ≡ false → Each IsNoStep (row (OnReadable j op) s).caused
  other-none j op s n = row-causes IsNoStep (OnReadable j op) s (record { pull = tt; cancel = λ r p. tt; chunk = λ r v. n; close = λ r. n; error = λ r e. n })

  pub other_own-none : (j : StreamId) (op : ByteOperation) (s : Slots) → is_same i j ≡ false → Each IsNoStep (row (Byte j op) s).caused
  other_own-none j op s n =
      row-causes IsNoStep (Byte j op) s (record { readable = record { pull = tt; cancel = λ r p. tt; chunk = λ r v. n; close = λ r. n; error = λ r e. n }; close_with = λ r b. n })

  -- nor does a call or a job begin with some
  first-none : (E : StreamId → Value → Type 0) (e : Effect) → IsFirst E e → IsNoStep e
  first-none E (ChunkSteps j q v) f = absurd f
  first-none E (CloseSteps j q) f = absurd f
  first-none E (CloseStepsWith j q b) f = absurd f
  first-none E (ErrorSteps j q e) f = absurd f
  first-none E _ f = tt

  pub call-none : (c : Call) (s : Slots) → Each IsNoStep (begin c s).done.caused
  call-none c s = each-map (IsFirst (Enqueues c)) IsNoStep (first-none (Enqueues c)) (begin c s).done.caused (begin-first c s)

  pub job-none : (job : Job) → Each IsNoStep (job_effects job)
  job-none job = each-map (IsFirst Never) IsNoStep (first-none Never) (job_effects job) (job-first job)
