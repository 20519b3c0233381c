-- Which reactions the effects of a realm make: that of a transform stream of the host's to its flush algorithm is made by the host call to flush it
-- alone.
use Rattle.std.proofs.Common.{◌≡◌, ℕ, Bool, true, false, nat_eq, List, [], Option, Some, None, Ok, Err, slice_get, refl, sym, ap, subst, ◌∙◌, arith}
use Rattle.ws_steps.specs.declared.effects.Owner.TheVariants.{EndOf}
use Rattle.ws_steps.specs.declared.effects.Effect.TheVariants.{Port}
use Rattle.ws_laws.proofs.Lists.{each-map}
use Rattle.ws_value.specs.declared.{ids.PipeId.{PipeId}, ids.PromiseId.{PromiseId}, ids.StreamId.{StreamId}}
use Rattle.ws_value.specs.declared.value.Plain.{Plain}
use Rattle.ws_value.specs.declared.value.Value.{Value}
use Rattle.ws_steps.specs.declared.{calls.Call.{Call}}
use Rattle.ws_steps.specs.declared.{calls.HostCall.{HostCall}, calls.HostCall.TheVariants.{Flush as HostFlush, CancelTransform as HostCancelTransform}, calls.StartBy.{StartBy}, calls.StartBy.TheVariants.{Now, Later}}
use Rattle.ws_steps.specs.declared.effects.Effect.{Effect}
use Rattle.ws_steps.specs.declared.effects.Effect.TheVariants.{Readable, Writable, Pipe, Signal, Transform, Tee, StartAlgorithm, PullAlgorithm, CancelAlgorithm, WriteAlgorithm, CloseAlgorithm, AbortAlgorithm, ChunkSteps, CloseSteps, ErrorSteps, Give, CallHost}
use Rattle.ws_steps.specs.declared.{effects.Gift.TheVariants.{This}, effects.Owner.{Owner}, effects.Owner.TheVariants.{Host, HalfOf, BranchOf}, effects.Use.{Use}, effects.Use.TheVariants.{React, Resolve}}
use Rattle.ws_steps.specs.declared.{pipes.SignalOperation.{SignalOperation}, pipes.SignalOperation.TheVariants.{Add, Forget, Trigger}, promises.Job.{Job}, promises.Step.{Step}, promises.Step.TheVariants.{TransformFlushed, TransformAborted, TransformCancelled, PipeReady, PipeWrote, PipeActed, PipePart}}
use Rattle.ws_steps.specs.declared.{readable.ReadRequest.{ReadRequest}, readable.ReadRequest.TheVariants.{Promise, Pipe as PipeRequest, Tee as TeeRequest}, readable.ReadableState.{ReadableState}}
use Rattle.ws_steps.specs.declared.transform.{Halves.{Halves}, Kind.{Kind}, Kind.TheVariants.{Identity, Host as HostKind}, TransformId.{TransformId}, TransformOperation.{TransformOperation}}
use Rattle.ws_steps.specs.declared.transform.TransformOperation.TheVariants as names
use Rattle.ws_steps.specs.declared.writable.WritableState.{WritableState}
use Rattle.ws_steps.specs.Begun.{Begun}
use Rattle.ws_steps.specs.Calls.{begin}
use Rattle.ws_steps.specs.Jobs.{job_effects}
use Rattle.ws_steps.specs.Operations.{transform_operation}
use Rattle.ws_steps.specs.Promises.{Table}
use Rattle.ws_steps.specs.Slots.{Slots, halves_at, owner_at, on_transform_at}
use Rattle.ws_steps.specs.Transform as transform
use Rattle.ws_steps.specs.Transform.{Acts, set_backpressure, unblock, transform_error, terminate, enqueue, enqueued, transform_by, transform_chunk, sink_write, write_in, write_goes_on, source_pull, finish_by, sink_close, sink_abort, source_cancel, flushed_in, flush_settled, aborted_in, abort_settled, cancelled_in, cancel_settled}
use Rattle.ws_steps.specs.Turns.{row, pull_algorithm, cancel_algorithm, write_algorithm, close_algorithm, abort_algorithm, start_algorithm}
use Rattle.ws_laws.proofs.EachCall.{each_call}
use Rattle.ws_laws.proofs.Lists.{Each}
use Rattle.ws_laws.proofs.PipeDoes.{IsStepOf, PipeCauses}
use Rattle.ws_laws.proofs.Causes.{ChunkCauses, EndCauses, ErrorCauses, SignalCauses, row-causes}
use Rattle.ws_laws.proofs.Shapes.{TransformShape, transform_shape, transform_shapes, map-there}
use Rattle.ws_laws.proofs.Tables.{eq_numbers}
use Rattle.ws_end_laws.proofs.hosts.Carried.{CarriesTee, TeeUses, row-tees_use, Carries}
use Rattle.ws_end_laws.proofs.hosts.Sourced.{UseIs, NoUse}
use Rattle.ws_steps.specs.declared.effects.Effect.TheVariants.{Byte, CloseStepsWith}
use Rattle.ws_end_laws.proofs.hosts.Ported.{CarriesPort, PortUses, row-port_uses}

-- the reaction of transform stream t to its flush algorithm
abbrev pub flushes_it : TransformId → Step → Bool
flushes_it t (TransformFlushed k p) = nat_eq t.0 k.0
flushes_it t _ = false

-- where it is there, it is the host's, with readable half r
abbrev pub IsHosts : TransformId → StreamId → Slots → Type 0
IsHosts t r s = (y : TransformShape) → slice_get (transform_shapes s) t.0 ≡ Some y → (y.kind ≡ HostKind) × (y.readable ≡ r)

module _ (t : TransformId) (r : StreamId) where
  abbrev No : Use → Type 0
  No u = NoUse (flushes_it t) u

  abbrev Is : HostCall → Use → Type 0
  Is call u = UseIs (flushes_it t) (HostFlush r) call u

  -- what is known of an effect: no promise is used by that reaction, but that of the host call to flush it
  abbrev pub Fits : Effect → Type 0
  Fits (Give gift u) = No u
  Fits (CallHost call u) = Is call u
  Fits (StartAlgorithm i step start) = flushes_it t step ≡ false
  Fits (Transform k operation) = Carries No operation
  Fits (Tee k operation) = CarriesTee No operation
  Fits (Port c operation) = CarriesPort No operation
  Fits _ = Unit {0}

  pipe_step-no : (p : PipeId) (step : Step) → IsStepOf p step → flushes_it t step ≡ false
  pipe_step-no p (PipeReady q) c = refl
  pipe_step-no p (PipeWrote q) c = refl
  pipe_step-no p (PipeActed q) c = refl
  pipe_step-no p (PipePart q) c = refl
  pipe_step-no p (TransformFlushed k q) c = absurd c
  pipe_step-no p _ c = refl

  pipe-fits : (p : PipeId) (source dest : StreamId) (e : Effect) → PipeCauses p source dest e → Fits e
  pipe-fits p source dest (Give (This q) (React step None)) c = pipe_step-no p step c
  pipe-fits p source dest (Give gift u) c = absurd c
  pipe-fits p source dest (CallHost call u) c = absurd c
  pipe-fits p source dest (StartAlgorithm i step start) c = absurd c
  pipe-fits p source dest (Transform k operation) c = absurd c
  pipe-fits p source dest (Tee k operation) c = absurd c
  pipe-fits p source dest (Port q operation) c = absurd c
  pipe-fits p source dest _ c = tt

  chunk-fits : (v : Value) (request : ReadRequest) → ChunkCauses Fits v request
  chunk-fits v (Promise q) = tt
  chunk-fits v (PipeRequest q) = tt
  chunk-fits v (TeeRequest t) = tt

  end-fits : (request : ReadRequest) → EndCauses Fits request
  end-fits (Promise q) = tt
  end-fits (PipeRequest q) = tt
  end-fits (TeeRequest t) = tt

  error-fits : (request : ReadRequest) → ErrorCauses Fits request
  error-fits (Promise q) = tt
  error-fits (PipeRequest q) = tt
  error-fits (TeeRequest t) = tt

  signal-fits : (operation : SignalOperation) → SignalCauses Fits operation
  signal-fits (Trigger e) = λ q. tt
  signal-fits (Add q) = tt
  signal-fits (Forget q) = tt

  start-fits : (i : StreamId) (step : Step) (s : Slots) (start : StartBy) → flushes_it t step ≡ false → Each Fits (start_algorithm i step s start).caused
  start-fits i step s Now n = (n, tt)
  start-fits i step s Later n = (tt, (n, tt))

  -- the algorithms of streams lead to other reactions

  no_call : (call : HostCall) (u : Use) → No u → Is call u
  no_call call (React step d) n = λ e. absurd (cc)
  no_call call (Resolve q) n = tt

  pull-fits : (i : StreamId) (owner : Owner) (u : Use) → No u → Each Fits (pull_algorithm i u owner)
  pull-fits i Host u n = (no_call _ u n, tt)
  pull-fits i (HalfOf k) u n = (n, tt)
  pull-fits i (BranchOf k half) u n = (tt, (n, tt))
  pull-fits i (EndOf c) u n = (tt, (n, tt))

  cancel-fits : (i : StreamId) (e : Plain) (owner : Owner) (u : Use) → No u → Each Fits (cancel_algorithm i e u owner)
  cancel-fits i e Host u n = (no_call _ u n, tt)
  cancel-fits i e (HalfOf k) u n = (n, tt)
  cancel-fits i e (BranchOf k half) u n = (n, tt)
  cancel-fits i e (EndOf c) u n = (n, tt)

  abort-fits : (i : StreamId) (e : Plain) (owner : Owner) (u : Use) → No u → Each Fits (abort_algorithm i e u owner)
  abort-fits i e Host u n = (no_call _ u n, tt)
  abort-fits i e (HalfOf k) u n = (n, tt)
  abort-fits i e (BranchOf k half) u n = (no_call _ u n, tt)
  abort-fits i e (EndOf c) u n = (n, tt)

  close-fits : (i : StreamId) (owner : Owner) (u : Use) → No u → Each Fits (close_algorithm i u owner)
  close-fits i Host u n = (no_call _ u n, tt)
  close-fits i (HalfOf k) u n = (n, tt)
  close-fits i (BranchOf k half) u n = (no_call _ u n, tt)
  close-fits i (EndOf c) u n = (n, tt)

  write-fits : (i : StreamId) (owner : Owner) → Each Fits (write_algorithm i owner)
  write-fits i Host = (tt, tt)
  write-fits i (HalfOf k) = (refl, tt)
  write-fits i (BranchOf k half) = (tt, tt)
  write-fits i (EndOf c) = (refl, tt)

  -- so do those of transform streams, but for the flush

  module _ (me : TransformId) (halves : Halves) (x : transform.Slots) (table : Table) (hosts : nat_eq t.0 me.0 ≡ true → (x.kind ≡ HostKind) × (x.readable ≡ r)) where
    abbrev a : Acts
    a = record { slots = x; out = record { promises = table; effects = [] } }

    abbrev All : List Effect → Type 0
    All es = Each Fits es

    chunk-all : (v : Value) (d : PromiseId) (kind : Kind) → All (transform_by me halves v d a kind)
    chunk-all v d kind = grind (arith, no_call)

    goes_on-all : (d : PromiseId) (state : WritableState) → All (write_in me halves d a state).out.effects
    goes_on-all d state = grind arith

    flushed-all : (p : PromiseId) (state : ReadableState) → All (flushed_in p halves a state).out.effects
    flushed-all p state = grind arith

    aborted-all : (p : PromiseId) (e : Plain) (state : ReadableState) → All (aborted_in p halves e a state).out.effects
    aborted-all p e state = grind arith

    cancelled-all : (p : PromiseId) (e : Plain) (state : WritableState) → All (cancelled_in me p halves e a state).out.effects
    cancelled-all p e state = grind arith

    -- a cancel
    finish-all : (call : HostCall) (step : PromiseId → Step) (u : Use) (o : Option PromiseId) (kind : Kind) → kind ≡ x.kind → ((p : PromiseId) → flushes_it t (step p) ≡ false) → No u → All (finish_by call step u a o).out.effects
    finish-all call step u (Some p) kind k n m = (m, tt)
    finish-all call step u None Identity k n m = rw (← k) (n _, (m, tt))
    finish-all call step u None HostKind k n m = rw (← k) (no_call call (React (step _) None) (n _), (m, tt))

    -- the flush
    flush-all : (u : Use) (o : Option PromiseId) (kind : Kind) → kind ≡ x.kind → (own : Bool) → own ≡ nat_eq t.0 me.0 → No u → All (finish_by (HostFlush x.readable) (TransformFlushed me) u a o).out.effects
    flush-all u (Some p) kind k own e m = (m, tt)
    flush-all u None kind k false e m = finish-all (HostFlush x.readable) (TransformFlushed me) u None kind k (λ p. sym e) m
    flush-all u None Identity k true e m = let h = hosts (sym e) in let no : Identity ≡ HostKind = k ∙ h.0 in cc
    flush-all u None HostKind k true e m = let h = hosts (sym e) in rw (← k) ((λ f. ap HostFlush h.1), (m, tt))

    transform-all : (operation : TransformOperation) → Carries No operation → All (transform_operation me halves operation a).out.effects
    unfolding set_backpressure unblock transform_error terminate enqueue enqueued transform_chunk sink_write write_goes_on source_pull sink_close sink_abort source_cancel flush_settled abort_settled cancel_settled
    transform-all (names.SinkWrite u) n = grind (arith, n)
    transform-all (names.WriteGoesOn d) n = goes_on-all d halves.writable_state
    transform-all (names.TransformChunk v d) n = chunk-all v d x.kind
    transform-all (names.Enqueue v) n = (tt, (tt, tt))
    transform-all names.Enqueued n = grind arith
    transform-all (names.Error e) n = (tt, (tt, (tt, tt)))
    transform-all names.Unblock n = grind arith
    transform-all names.Terminate n = (tt, (tt, (tt, tt)))
    transform-all (names.SourcePull u) n = (n, tt)
    transform-all (names.SinkClose u) n = flush-all u x.finish x.kind refl (nat_eq t.0 me.0) refl n
    transform-all (names.SinkAbort e u) n = finish-all (HostCancelTransform x.readable e) (λ p. TransformAborted me p e) u x.finish x.kind refl (λ p. refl) n
    transform-all (names.SourceCancel e u) n = finish-all (HostCancelTransform x.readable e) (λ p. TransformCancelled me p e) u x.finish x.kind refl (λ p. refl) n
    transform-all (names.FlushSettled p (Ok v)) n = flushed-all p halves.readable_state
    transform-all (names.FlushSettled p (Err e)) n = (tt, (tt, tt))
    transform-all (names.AbortSettled p e (Ok v)) n = aborted-all p e halves.readable_state
    transform-all (names.AbortSettled p e (Err f)) n = (tt, (tt, tt))
    transform-all (names.CancelSettled p e (Ok v)) n = cancelled-all p e halves.writable_state
    transform-all (names.CancelSettled p e (Err f)) n = (tt, (tt, (tt, tt)))

  transform-fits : (k : TransformId) (operation : TransformOperation) (s : Slots) (o : Option transform.Slots) → slice_get s.transforms k.0 ≡ o → IsHosts t r s → Carries No operation
      → Each Fits (on_transform_at (λ halves. transform_operation k halves operation) k s o).caused
  transform-fits k operation s None e h n = tt
  transform-fits k operation s (Some x) e h n =
      transform-all k (halves_at x s) x s.promises
      (λ f. h (transform_shape x) (subst (λ (m : ℕ). slice_get (transform_shapes s) m ≡ Some (transform_shape x)) (sym (eq_numbers t.0 k.0 f)) (map-there transform_shape s.transforms k.0 x e))) operation n

  no_true : {A : Type 0} → ◌≡◌ {A = Bool} false true → A
  no_true e = absurd (cc)

  tee-uses-fit : (e : Effect) → TeeUses No e → Fits e
  tee-uses-fit e u = grind (arith, u)

  port-uses-fit : (e : Effect) → PortUses No (λ i. Unit {0}) e → Fits e
  port-uses-fit e u = grind (arith, u)

  pub caused-fit : (e : Effect) (s : Slots) → IsHosts t r s → Fits e → Each Fits (row e s).caused
  unfolding row
  caused-fit (Readable i operation) s h f = row-causes Fits (Readable i operation) s (record { pull = tt; cancel = λ e q. tt; chunk = λ q v. tt; close = λ q. tt; error = λ q e. tt })
  caused-fit (Byte i operation) s h f =
      row-causes Fits (Byte i operation) s (record { readable = record { pull = tt; cancel = λ r q. tt; chunk = λ r v. tt; close = λ r. tt; error = λ r e. tt }; close_with = λ r b. tt })
  caused-fit (Writable i operation) s h f = row-causes Fits (Writable i operation) s (record { write = tt; close = tt; abort = λ e q. tt; hand_on = λ v e. no_true e; take = λ v k d. tt; post = λ v c d. tt })
  caused-fit (Pipe p operation) s h f = row-causes Fits (Pipe p operation) s pipe-fits-of
    where
      pipe-fits-of : (source dest : StreamId) (e : Effect) → PipeCauses p source dest e → Fits e
      pipe-fits-of source dest e c = pipe-fits p source dest e c
  caused-fit (Signal b operation) s h f = row-causes Fits (Signal b operation) s (signal-fits operation)
  caused-fit (Transform k operation) s h f = transform-fits k operation s (slice_get s.transforms k.0) refl h f
  caused-fit (Tee k operation) s h f = each-map (TeeUses No) Fits tee-uses-fit (row (Tee k operation) s).caused (row-tees_use No (λ q. tt) k operation s f)
  caused-fit (Port c operation) s h f =
      each-map (PortUses No (λ i. Unit {0})) Fits port-uses-fit (row (Port c operation) s).caused (row-port_uses No (λ i. Unit {0}) (λ q. tt) (λ d q. refl) c operation s f (λ x e. tt))
  caused-fit (StartAlgorithm i step start) s h f = start-fits i step s start f
  caused-fit (PullAlgorithm i) s h f = pull-fits i (owner_at i s) _ refl
  caused-fit (CancelAlgorithm i e p) s h f = cancel-fits i e (owner_at i s) _ refl
  caused-fit (WriteAlgorithm i) s h f = write-fits i (owner_at i s)
  caused-fit (CloseAlgorithm i) s h f = close-fits i (owner_at i s) _ refl
  caused-fit (AbortAlgorithm i e p) s h f = abort-fits i e (owner_at i s) _ refl
  caused-fit (ChunkSteps i request v) s h f = row-causes Fits (ChunkSteps i request v) s (chunk-fits v request)
  caused-fit (CloseSteps i request) s h f = row-causes Fits (CloseSteps i request) s (end-fits request)
  caused-fit (CloseStepsWith i request b) s h f = row-causes Fits (CloseStepsWith i request b) s (end-fits request)
  caused-fit (ErrorSteps i request e) s h f = row-causes Fits (ErrorSteps i request e) s (error-fits request)
  caused-fit _ s h f = tt

  pub call-fits : (c : Call) (s : Slots) → Each Fits (begin c s).done.caused
  call-fits c s = each_call (λ (b : Begun). Each Fits b.done.caused) c s (grind arith)

  pub job-fits : (job : Job) → Each Fits (job_effects job)
  job-fits job = grind arith
