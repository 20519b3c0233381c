-- Which effects make a pipe react to its action: those of the operation by which it begins to act, and no other; and which tell it of the outcome.
use Rattle.ws_value.specs.declared.ids.TeeId.{TeeId}
use Rattle.ws_laws.proofs.PortDoes.{PortCauses}
use Rattle.ws_value.specs.declared.ids.PortId.{PortId}
use Rattle.ws_steps.specs.declared.effects.Owner.TheVariants.{EndOf}
use Rattle.ws_steps.specs.declared.effects.Effect.TheVariants.{Port}
use Rattle.std.proofs.Common.{◌≡◌, Bool, true, false, nat_eq, List, [], ◌∷◌, Option, Some, None, Ok, Err, refl, ap, ◌∙◌, arith}
use Rattle.ws_value.specs.declared.{ids.PipeId.{PipeId}, ids.PromiseId.{PromiseId}, ids.StreamId.{StreamId}, ids.SignalId.{SignalId}}
use Rattle.ws_value.specs.declared.value.Plain.{Plain}
use Rattle.ws_value.specs.declared.value.Value.{Value}
use Rattle.ws_steps.specs.declared.transform.TransformId.{TransformId}
use Rattle.ws_steps.specs.declared.{calls.Call.{Call}, calls.StartBy.{StartBy}, calls.StartBy.TheVariants.{Now, Later}}
use Rattle.ws_steps.specs.declared.effects.Effect.{Effect}
use Rattle.ws_steps.specs.declared.effects.Effect.TheVariants.{Readable, Writable, Pipe, Signal, Transform, Tee, StartAlgorithm, PullAlgorithm, CancelAlgorithm, WriteAlgorithm, CloseAlgorithm, AbortAlgorithm, ChunkSteps, CloseSteps, ErrorSteps, Give, Settle, CallHost}
use Rattle.ws_steps.specs.declared.{effects.Gift.TheVariants.{This}, effects.Owner.{Owner}, effects.Owner.TheVariants.{Host, HalfOf, BranchOf}, effects.Use.{Use}, effects.Use.TheVariants.{React, Resolve}}
use Rattle.ws_steps.specs.declared.{pipes.SignalOperation.{SignalOperation}, pipes.SignalOperation.TheVariants.{Add, Forget, Trigger}, promises.Job.{Job}, promises.Step.{Step}, promises.Step.TheVariants.{PipeReady, PipeWrote, PipeActed, PipePart}}
use Rattle.ws_steps.specs.declared.pipes.PipeOperation.TheVariants.{ActionSettled}
use Rattle.ws_steps.specs.declared.{readable.ReadRequest.{ReadRequest}, readable.ReadRequest.TheVariants.{Promise, Pipe as PipeRequest, Tee as TeeRequest}}
use Rattle.ws_steps.specs.Slots.{Slots, owner_at}
use Rattle.ws_steps.specs.Turns.{row, pull_algorithm, cancel_algorithm, write_algorithm, close_algorithm, abort_algorithm, start_algorithm}
use Rattle.ws_steps.specs.Jobs.{job_effects}
use Rattle.ws_steps.specs.Begun.{Begun}
use Rattle.ws_steps.specs.Calls.{begin}
use Rattle.ws_steps.specs.Pipes as pipe
use Rattle.ws_laws.proofs.EachCall.{each_call}
use Rattle.ws_laws.proofs.Lists.{Each, each-append, each-map}
use Rattle.ws_laws.proofs.PipeDoes.{IsStepOf, PipeCauses}
use Rattle.ws_laws.proofs.Causes.{Causes, ChunkCauses, EndCauses, ErrorCauses, SignalCauses, row-causes}
use Rattle.ws_pipe_laws.specs.pipes.PipeMoves.{is_idle, are_idle, end_effects, signal_forgets, result_by}
use Rattle.ws_end_laws.proofs.hosts.Reactions.{JobFits}
use Rattle.ws_laws.proofs.TransformDoes.{TransformCauses}
use Rattle.ws_laws.proofs.TeeDoes.{TeeCauses}
use Rattle.ws_end_laws.proofs.hosts.Carried.{CarriesTee, TeeUses, row-tees_use, Carries, Uses, Own, row-uses}
use Rattle.ws_end_laws.proofs.hosts.Dests.{NoClose}
use Rattle.ws_steps.specs.declared.effects.Effect.TheVariants.{Byte, CloseStepsWith}
use Rattle.ws_end_laws.proofs.hosts.Ported.{CarriesPort, PortUses, row-port_uses}

-- the reaction of pipe p to its action
abbrev pub acts_on : PipeId → Step → Bool
acts_on p (PipeActed q) = nat_eq p.0 q.0
acts_on p _ = false

abbrev pub NoUse : PipeId → Use → Type 0
NoUse p (React step derived) = acts_on p step ≡ false
NoUse p (Resolve q) = Unit {0}

-- no such reaction is made, and the pipe is told of a fulfilment only where V holds
abbrev pub Fits : PipeId → Type 0 → Effect → Type 0
Fits p V (Give gift u) = NoUse p u
Fits p V (CallHost call u) = NoUse p u
Fits p V (StartAlgorithm i step start) = acts_on p step ≡ false
Fits p V (Transform t operation) = Carries (NoUse p) operation
Fits p V (Tee t operation) = CarriesTee (NoUse p) operation
Fits p V (Port c operation) = CarriesPort (NoUse p) operation
Fits p V (Pipe q (ActionSettled (Ok v))) = nat_eq p.0 q.0 ≡ true → V
Fits p V _ = Unit {0}

-- an effect that isn't an operation of pipe p
abbrev pub NotOf : PipeId → Effect → Type 0
NotOf p (Pipe q operation) = nat_eq p.0 q.0 ≡ false
NotOf p _ = Unit {0}

module _ (p : PipeId) (V : Type 0) where
  step-no : (q : PipeId) (step : Step) → nat_eq p.0 q.0 ≡ false → IsStepOf q step → acts_on p step ≡ false
  step-no q (PipeReady r) n c = refl
  step-no q (PipeWrote r) n c = refl
  step-no q (PipeActed r) n c = ap (λ (k : PipeId). nat_eq p.0 k.0) c ∙ n
  step-no q (PipePart r) n c = refl
  step-no q _ n c = absurd c

  pipe-fits : (q : PipeId) (source dest : StreamId) (e : Effect) → nat_eq p.0 q.0 ≡ false → PipeCauses q source dest e → Fits p V e
  pipe-fits q source dest (Give (This d) (React step None)) n c = step-no q step n c
  pipe-fits q source dest (Give gift u) n c = absurd c
  pipe-fits q source dest (CallHost call u) n c = absurd c
  pipe-fits q source dest (StartAlgorithm i step start) n c = absurd c
  pipe-fits q source dest (Pipe r (ActionSettled o)) n c = absurd c
  pipe-fits q source dest (Transform t operation) n c = absurd c
  pipe-fits q source dest (Tee t operation) n c = absurd c
  pipe-fits q source dest (Port w operation) n c = absurd c
  pipe-fits q source dest _ n c = tt

  chunk-fits : (v : Value) (request : ReadRequest) → ChunkCauses (Fits p V) v request
  chunk-fits v (Promise q) = tt
  chunk-fits v (PipeRequest q) = tt
  chunk-fits v (TeeRequest t) = tt

  end-fits : (request : ReadRequest) → EndCauses (Fits p V) request
  end-fits (Promise q) = tt
  end-fits (PipeRequest q) = tt
  end-fits (TeeRequest t) = tt

  error-fits : (request : ReadRequest) → ErrorCauses (Fits p V) request
  error-fits (Promise q) = tt
  error-fits (PipeRequest q) = tt
  error-fits (TeeRequest t) = tt

  signal-fits : (operation : SignalOperation) → SignalCauses (Fits p V) operation
  signal-fits (Trigger r) = λ q. tt
  signal-fits (Add q) = tt
  signal-fits (Forget q) = tt

  start-fits : (i : StreamId) (step : Step) (s : Slots) (start : StartBy) → acts_on p step ≡ false → Each (Fits p V) (start_algorithm i step s start).caused
  start-fits i step s Now n = (n, tt)
  start-fits i step s Later n = (tt, (n, tt))

  pull-fits : (i : StreamId) (owner : Owner) (step : Step) (d : Option PromiseId) → acts_on p step ≡ false → Each (Fits p V) (pull_algorithm i (React step d) owner)
  pull-fits i Host step d n = (n, tt)
  pull-fits i (HalfOf t) step d n = (n, tt)
  pull-fits i (BranchOf t half) step d n = (tt, (n, tt))
  pull-fits i (EndOf c) step d n = (tt, (n, tt))

  cancel-fits : (i : StreamId) (r : Plain) (owner : Owner) (step : Step) (d : Option PromiseId) → acts_on p step ≡ false → Each (Fits p V) (cancel_algorithm i r (React step d) owner)
  cancel-fits i r Host step d n = (n, tt)
  cancel-fits i r (HalfOf t) step d n = (n, tt)
  cancel-fits i r (BranchOf t half) step d n = (n, tt)
  cancel-fits i r (EndOf c) step d n = (n, tt)

  abort-fits : (i : StreamId) (r : Plain) (owner : Owner) (step : Step) (d : Option PromiseId) → acts_on p step ≡ false → Each (Fits p V) (abort_algorithm i r (React step d) owner)
  abort-fits i r Host step d n = (n, tt)
  abort-fits i r (HalfOf t) step d n = (n, tt)
  abort-fits i r (BranchOf t half) step d n = (n, tt)
  abort-fits i r (EndOf c) step d n = (n, tt)

  write-fits : (i : StreamId) (owner : Owner) → Each (Fits p V) (write_algorithm i owner)
  write-fits i Host = (tt, tt)
  write-fits i (HalfOf t) = (refl, tt)
  write-fits i (BranchOf t half) = (tt, tt)
  write-fits i (EndOf c) = (refl, tt)

  close-fits : (i : StreamId) (owner : Owner) (step : Step) (d : Option PromiseId) → acts_on p step ≡ false → Each (Fits p V) (close_algorithm i (React step d) owner)
  close-fits i Host step d n = (n, tt)
  close-fits i (HalfOf t) step d n = (n, tt)
  close-fits i (BranchOf t half) step d n = (n, tt)
  close-fits i (EndOf c) step d n = (n, tt)

  own : Own (NoUse p)
  own = record { resolve = λ q. tt; changed = λ t q. refl; transformed = λ t q. refl; flushed = λ t q. refl; aborted = λ t q r. refl; cancelled = λ t q r. refl }

  uses-fit : (e : Effect) → Uses (NoUse p) (λ i. Unit {0}) e → Fits p V e
  uses-fit e u = grind (arith, u)

  tee-uses-fit : (e : Effect) → TeeUses (NoUse p) e → Fits p V e
  tee-uses-fit e u = grind (arith, u)

  port-uses-fit : (e : Effect) → PortUses (NoUse p) (λ i. Unit {0}) e → Fits p V e
  port-uses-fit e u = grind (arith, u)

  pub caused-fit : (e : Effect) (s : Slots) → NotOf p e → Fits p V e → Each (Fits p V) (row e s).caused
  unfolding row
  caused-fit (Readable i operation) s n f = row-causes (Fits p V) (Readable i operation) s (record { pull = tt; cancel = λ r q. tt; chunk = λ r v. tt; close = λ r. tt; error = λ r e. tt })
  caused-fit (Byte i operation) s n f =
      row-causes (Fits p V) (Byte i operation) s (record { readable = record { pull = tt; cancel = λ r q. tt; chunk = λ r v. tt; close = λ r. tt; error = λ r e. tt }; close_with = λ r b. tt })
  caused-fit (Writable i operation) s n f = row-causes (Fits p V) (Writable i operation) s (record { write = tt; close = tt; abort = λ r q. tt; hand_on = λ v. refl; take = λ v t d. tt; post = λ v c d. tt })
  caused-fit (Pipe q operation) s n f = row-causes (Fits p V) (Pipe q operation) s (λ source dest e c. pipe-fits q source dest e n c)
  caused-fit (Signal a operation) s n f = row-causes (Fits p V) (Signal a operation) s (signal-fits operation)
  caused-fit (Transform t operation) s n f = each-map (Uses (NoUse p) (λ i. Unit {0})) (Fits p V) uses-fit (row (Transform t operation) s).caused (row-uses (NoUse p) (λ i. Unit {0}) own t operation s f (λ x e. tt))
  caused-fit (Tee t operation) s n f = each-map (TeeUses (NoUse p)) (Fits p V) tee-uses-fit (row (Tee t operation) s).caused (row-tees_use (NoUse p) (λ q. tt) t operation s f)
  caused-fit (Port c operation) s n f =
      each-map (PortUses (NoUse p) (λ i. Unit {0})) (Fits p V) port-uses-fit (row (Port c operation) s).caused (row-port_uses (NoUse p) (λ i. Unit {0}) (λ q. tt) (λ d q. refl) c operation s f (λ x e. tt))
  caused-fit (StartAlgorithm i step start) s n f = start-fits i step s start f
  caused-fit (PullAlgorithm i) s n f = pull-fits i (owner_at i s) _ _ refl
  caused-fit (CancelAlgorithm i r q) s n f = cancel-fits i r (owner_at i s) _ _ refl
  caused-fit (WriteAlgorithm i) s n f = write-fits i (owner_at i s)
  caused-fit (CloseAlgorithm i) s n f = close-fits i (owner_at i s) _ _ refl
  caused-fit (AbortAlgorithm i r q) s n f = abort-fits i r (owner_at i s) _ _ refl
  caused-fit (ChunkSteps i request v) s n f = row-causes (Fits p V) (ChunkSteps i request v) s (chunk-fits v request)
  caused-fit (CloseSteps i request) s n f = row-causes (Fits p V) (CloseSteps i request) s (end-fits request)
  caused-fit (CloseStepsWith i request b) s n f = row-causes (Fits p V) (CloseStepsWith i request b) s (end-fits request)
  caused-fit (ErrorSteps i request e) s n f = row-causes (Fits p V) (ErrorSteps i request e) s (error-fits request)
  caused-fit _ s n f = tt

  pub call-fits : (c : Call) (s : Slots) → Each (Fits p V) (begin c s).done.caused
  call-fits c s = each_call (λ (b : Begun). Each (Fits p V) b.done.caused) c s (grind arith)

  pub job-effects-fit : (job : Job) → JobFits (acts_on p) V job → Each (Fits p V) (job_effects job)
  job-effects-fit job f = grind arith

  -- what a pipe causes that rests, and at its end

  idle-fits : (e : Effect) → is_idle e ≡ true → Fits p V e
  idle-fits e n = grind (arith, n)

  pub are_idle-fit : (es : List Effect) → are_idle es ≡ true → Each (Fits p V) es
  are_idle-fit [] n = tt
  are_idle-fit (e ∷ es) n = (idle-fits e (grind (arith, n)), are_idle-fit es (grind (arith, n)))

  pub end-effects-fit : (q : PipeId) (x : pipe.Slots) (e : Option Plain) → Each (Fits p V) (end_effects q x e)
  end-effects-fit q x e = (tt, (tt, each-append (Fits p V) (signal_forgets q x.signal) (Settle x.promise (result_by e) ∷ []) (forgets x.signal) (tt, tt)))
    where
      forgets : (a : Option SignalId) → Each (Fits p V) (signal_forgets q a)
      forgets None = tt
      forgets (Some a) = (tt, tt)

pub fits-weaker : (p : PipeId) (V U : Type 0) → (V → U) → (e : Effect) → Fits p V e → Fits p U e
fits-weaker p V U f (Pipe q (ActionSettled (Ok v))) k = λ e. f (k e)
fits-weaker p V U f (Pipe q (ActionSettled (Err r))) k = tt
fits-weaker p V U f e k = k

pub each-weaker : (p : PipeId) (V U : Type 0) → (V → U) → (es : List Effect) → Each (Fits p V) es → Each (Fits p U) es
each-weaker p V U f es k = each-map (Fits p V) (Fits p U) (fits-weaker p V U f) es k

-- which effects close a stream

module _ (i : StreamId) where
  idle-closes : (e : Effect) → is_idle e ≡ true → NoClose i e
  idle-closes e n = grind (arith, n)

  pub are_idle-close : (es : List Effect) → are_idle es ≡ true → Each (NoClose i) es
  are_idle-close [] n = tt
  are_idle-close (e ∷ es) n = (idle-closes e (grind (arith, n)), are_idle-close es (grind (arith, n)))

  pub end-effects-close : (q : PipeId) (x : pipe.Slots) (e : Option Plain) → Each (NoClose i) (end_effects q x e)
  end-effects-close q x e = (tt, (tt, each-append (NoClose i) (signal_forgets q x.signal) (Settle x.promise (result_by e) ∷ []) (forgets x.signal) (tt, tt)))
    where
      forgets : (a : Option SignalId) → Each (NoClose i) (signal_forgets q a)
      forgets None = tt
      forgets (Some a) = (tt, tt)

  pub job-closes : (job : Job) → Each (NoClose i) (job_effects job)
  job-closes job = grind arith

  -- no effect but an operation of a pipe causes a close

  abbrev pub IsNoPipe : Effect → Type 0
  IsNoPipe (Pipe q operation) = ⊥
  IsNoPipe _ = Unit {0}

  chunk-closes : (v : Value) (request : ReadRequest) → ChunkCauses (NoClose i) v request
  chunk-closes v (Promise q) = tt
  chunk-closes v (PipeRequest q) = tt
  chunk-closes v (TeeRequest t) = tt

  end-closes : (request : ReadRequest) → EndCauses (NoClose i) request
  end-closes (Promise q) = tt
  end-closes (PipeRequest q) = tt
  end-closes (TeeRequest t) = tt

  error-closes : (request : ReadRequest) → ErrorCauses (NoClose i) request
  error-closes (Promise q) = tt
  error-closes (PipeRequest q) = tt
  error-closes (TeeRequest t) = tt

  signal-closes : (operation : SignalOperation) → SignalCauses (NoClose i) operation
  signal-closes (Trigger r) = λ q. tt
  signal-closes (Add q) = tt
  signal-closes (Forget q) = tt

  transform-closes : (t : TransformId) (writable readable : StreamId) (e : Effect) → TransformCauses t writable readable e → NoClose i e
  transform-closes t writable readable e c = grind (arith, c)

  tee-closes : (t : TeeId) (source first second : StreamId) (e : Effect) → TeeCauses t source first second e → NoClose i e
  tee-closes t source first second e c = grind (arith, c)

  port-closes : (c : PortId) (stream : StreamId) (e : Effect) → PortCauses c stream e → NoClose i e
  port-closes c stream e k = grind (arith, k)

  closes : (e : Effect) → IsNoPipe e → Causes (NoClose i) e
  closes (Readable j operation) n = record { pull = tt; cancel = λ r q. tt; chunk = λ r v. tt; close = λ r. tt; error = λ r e. tt }
  closes (Byte j operation) n = record { readable = record { pull = tt; cancel = λ r q. tt; chunk = λ r v. tt; close = λ r. tt; error = λ r e. tt }; close_with = λ r b. tt }
  closes (Writable j operation) n = record { write = tt; close = tt; abort = λ r q. tt; hand_on = λ v. tt; take = λ v t d. tt; post = λ v c d. tt }
  closes (Pipe q operation) n = absurd n
  closes (Signal a operation) n = signal-closes operation
  closes (Transform t operation) n = transform-closes t
  closes (Tee t operation) n = tee-closes t
  closes (Port c operation) n = port-closes c
  closes (StartAlgorithm j step start) n = (λ g u. tt, λ c u. tt)
  closes (PullAlgorithm j) n = (λ c u. tt, (λ t u. tt, (λ t. tt, (λ u. tt, λ c. tt))))
  closes (CancelAlgorithm j r q) n = (λ c u. tt, (λ t u. tt, (λ t half u. tt, λ q u. tt)))
  closes (WriteAlgorithm j) n = (tt, (λ t u. tt, λ q u. tt))
  closes (CloseAlgorithm j) n = (λ c u. tt, (λ t u. tt, λ q u. tt))
  closes (AbortAlgorithm j r q) n = (λ c u. tt, (λ t u. tt, λ q u. tt))
  closes (ChunkSteps j request v) n = chunk-closes v request
  closes (CloseSteps j request) n = end-closes request
  closes (CloseStepsWith j request b) n = end-closes request
  closes (ErrorSteps j request e) n = error-closes request
  closes _ n = tt

  pub caused-close : (e : Effect) (s : Slots) → IsNoPipe e → Each (NoClose i) (row e s).caused
  caused-close e s n = row-causes (NoClose i) e s (closes e n)
