-- Which reactions the effects of a realm make: that of a stream to its close algorithm is made by the host call to close it alone.
use Rattle.std.proofs.Common.{◌≡◌, Bool, true, false, Option, None, Ok, Err, refl, sym, ap, subst, arith}
use Rattle.ws_value.specs.declared.ids.PortId.{PortId}
use Rattle.ws_steps.specs.declared.effects.Owner.TheVariants.{EndOf}
use Rattle.ws_steps.specs.declared.effects.Effect.TheVariants.{Port}
use Rattle.ws_value.specs.declared.{ids.PipeId.{PipeId}, ids.PromiseId.{PromiseId}, ids.StreamId.{StreamId}}
use Rattle.ws_value.specs.declared.value.Plain.{Plain}
use Rattle.ws_value.specs.declared.value.Value.{Value}
use Rattle.ws_steps.specs.declared.transform.TransformId.{TransformId}
use Rattle.ws_steps.specs.declared.{calls.Call.{Call}}
use Rattle.ws_steps.specs.declared.{calls.HostCall.{HostCall}, calls.HostCall.TheVariants.{Close as HostClose}, calls.StartBy.{StartBy}, calls.StartBy.TheVariants.{Now, Later}}
use Rattle.ws_steps.specs.declared.effects.Effect.{Effect}
use Rattle.ws_steps.specs.declared.effects.Effect.TheVariants.{Readable, Writable, Pipe, Signal, Transform, Tee, StartAlgorithm, PullAlgorithm, CancelAlgorithm, WriteAlgorithm, CloseAlgorithm, AbortAlgorithm, ChunkSteps, CloseSteps, ErrorSteps, Give, CallHost}
use Rattle.ws_steps.specs.declared.{effects.Gift.TheVariants.{This}, effects.Owner.{Owner}, effects.Owner.TheVariants.{Host, HalfOf, BranchOf}, effects.Use.{Use}, effects.Use.TheVariants.{React, Resolve}}
use Rattle.ws_steps.specs.declared.{pipes.SignalOperation.{SignalOperation}, pipes.SignalOperation.TheVariants.{Add, Forget, Trigger}, promises.Job.{Job}, promises.Step.{Step}, promises.Step.TheVariants.{WritableClose, PipeReady, PipeWrote, PipeActed, PipePart}}
use Rattle.ws_steps.specs.declared.{readable.ReadRequest.{ReadRequest}, readable.ReadRequest.TheVariants.{Promise, Pipe as PipeRequest, Tee as TeeRequest}}
use Rattle.ws_steps.specs.declared.writable.WritableOperation.TheVariants.{CloseSettled}
use Rattle.ws_steps.specs.Slots.{Slots, owner_at}
use Rattle.ws_steps.specs.Turns.{row, pull_algorithm, cancel_algorithm, write_algorithm, close_algorithm, abort_algorithm, start_algorithm}
use Rattle.ws_steps.specs.Jobs.{job_effects}
use Rattle.ws_steps.specs.Begun.{Begun}
use Rattle.ws_steps.specs.Calls.{begin}
use Rattle.ws_steps.specs.Run.{step}
use Rattle.ws_steps.specs.Histories.{is_same}
use Rattle.ws_laws.proofs.EachCall.{each_call}
use Rattle.ws_laws.proofs.Lists.{Each, each-map}
use Rattle.ws_laws.proofs.PipeDoes.{IsStepOf, PipeCauses}
use Rattle.ws_laws.proofs.Causes.{ChunkCauses, EndCauses, ErrorCauses, SignalCauses, row-causes}
use Rattle.ws_laws.proofs.Tables.{same_id}
use Rattle.ws_end_laws.proofs.hosts.Carried.{CarriesTee, TeeUses, row-tees_use, Carries, Uses, Own, row-uses}
use Rattle.ws_end_laws.proofs.hosts.Reactions.{JobFits}
use Rattle.ws_end_laws.proofs.hosts.Sourced as sourced
use Rattle.ws_steps.specs.declared.effects.Effect.TheVariants.{Byte, CloseStepsWith}
use Rattle.ws_end_laws.proofs.hosts.Ported.{CarriesPort, PortUses, row-port_uses}

-- the reaction of stream j to its close algorithm
abbrev pub closes_it : StreamId → Step → Bool
closes_it j (WritableClose i) = is_same i j
closes_it j _ = false

-- what is known of an effect: no promise is used by that reaction, but that of the host call to close stream j; and where it tells that the close
-- was fulfilled, V holds
abbrev pub UseIs : StreamId → HostCall → Use → Type 0
UseIs j call u = sourced.UseIs (closes_it j) (HostClose j) call u

abbrev pub NoUse : StreamId → Use → Type 0
NoUse j u = sourced.NoUse (closes_it j) u

abbrev pub Fits : StreamId → Type 0 → Effect → Type 0
Fits j V (Give gift u) = NoUse j u
Fits j V (CallHost call u) = UseIs j call u
Fits j V (StartAlgorithm i step start) = closes_it j step ≡ false
Fits j V (Transform t operation) = Carries (NoUse j) operation
Fits j V (Tee t operation) = CarriesTee (NoUse j) operation
Fits j V (Port c operation) = CarriesPort (NoUse j) operation
Fits j V (Writable i (CloseSettled (Ok v))) = is_same i j ≡ true → V
Fits j V _ = Unit {0}

module _ (j : StreamId) where
  -- what effects cause

  no_true : {A : Type 0} → ◌≡◌ {A = Bool} false true → A
  no_true e = absurd (cc)

  module _ (V : Type 0) where
    pipe_step-no : (p : PipeId) (step : Step) → IsStepOf p step → closes_it j step ≡ false
    pipe_step-no p (PipeReady q) c = refl
    pipe_step-no p (PipeWrote q) c = refl
    pipe_step-no p (PipeActed q) c = refl
    pipe_step-no p (PipePart q) c = refl
    pipe_step-no p (WritableClose i) c = absurd c
    pipe_step-no p _ c = refl

    pipe-fits : (p : PipeId) (source dest : StreamId) (e : Effect) → PipeCauses p source dest e → Fits j V e
    pipe-fits p source dest (Give (This q) (React step None)) c = pipe_step-no p step c
    pipe-fits p source dest (Give gift u) c = absurd c
    pipe-fits p source dest (CallHost call u) c = absurd c
    pipe-fits p source dest (StartAlgorithm i step start) c = absurd c
    pipe-fits p source dest (Writable i (CloseSettled o)) c = absurd c
    pipe-fits p source dest (Transform t operation) c = absurd c
    pipe-fits p source dest (Tee t operation) c = absurd c
    pipe-fits p source dest (Port q operation) c = absurd c
    pipe-fits p source dest _ c = tt

    chunk-fits : (v : Value) (request : ReadRequest) → ChunkCauses (Fits j V) v request
    chunk-fits v (Promise q) = tt
    chunk-fits v (PipeRequest q) = tt
    chunk-fits v (TeeRequest t) = tt

    end-fits : (request : ReadRequest) → EndCauses (Fits j V) request
    end-fits (Promise q) = tt
    end-fits (PipeRequest q) = tt
    end-fits (TeeRequest t) = tt

    error-fits : (request : ReadRequest) → ErrorCauses (Fits j V) request
    error-fits (Promise q) = tt
    error-fits (PipeRequest q) = tt
    error-fits (TeeRequest t) = tt

    signal-fits : (operation : SignalOperation) → SignalCauses (Fits j V) operation
    signal-fits (Trigger r) = λ q. tt
    signal-fits (Add q) = tt
    signal-fits (Forget q) = tt

    start-fits : (i : StreamId) (step : Step) (s : Slots) (start : StartBy) → closes_it j step ≡ false → Each (Fits j V) (start_algorithm i step s start).caused
    start-fits i step s Now n = (n, tt)
    start-fits i step s Later n = (tt, (n, tt))

    pull-fits : (i : StreamId) (owner : Owner) (step : Step) (d : Option PromiseId) → closes_it j step ≡ false → Each (Fits j V) (pull_algorithm i (React step d) owner)
    pull-fits i Host step d n = ((λ e. absurd (cc)), tt)
    pull-fits i (HalfOf t) step d n = (n, tt)
    pull-fits i (BranchOf t half) step d n = (tt, (n, tt))
    pull-fits i (EndOf c) step d n = (tt, (n, tt))

    cancel-fits : (i : StreamId) (r : Plain) (owner : Owner) (step : Step) (d : Option PromiseId) → closes_it j step ≡ false → Each (Fits j V) (cancel_algorithm i r (React step d) owner)
    cancel-fits i r Host step d n = ((λ e. absurd (cc)), tt)
    cancel-fits i r (HalfOf t) step d n = (n, tt)
    cancel-fits i r (BranchOf t half) step d n = (n, tt)
    cancel-fits i r (EndOf c) step d n = (n, tt)

    abort-fits : (i : StreamId) (r : Plain) (owner : Owner) (step : Step) (d : Option PromiseId) → closes_it j step ≡ false → Each (Fits j V) (abort_algorithm i r (React step d) owner)
    abort-fits i r Host step d n = ((λ e. absurd (cc)), tt)
    abort-fits i r (HalfOf t) step d n = (n, tt)
    abort-fits i r (BranchOf t half) step d n = ((λ e. absurd (cc)), tt)
    abort-fits i r (EndOf c) step d n = (n, tt)

    write-fits : (i : StreamId) (owner : Owner) → Each (Fits j V) (write_algorithm i owner)
    write-fits i Host = (tt, tt)
    write-fits i (HalfOf t) = (refl, tt)
    write-fits i (BranchOf t half) = (tt, tt)
    write-fits i (EndOf c) = (refl, tt)

    -- a half is another stream
    half_other : (i : StreamId) (t : TransformId) (b : Bool) → is_same i j ≡ b → (is_same i j ≡ true → HalfOf t ≡ Host) → is_same i j ≡ false
    half_other i t false e h = e
    half_other i t true e h = let n = h e in cc

    -- and so is an end
    end_other : (i : StreamId) (c : PortId) (b : Bool) → is_same i j ≡ b → (is_same i j ≡ true → EndOf c ≡ Host) → is_same i j ≡ false
    end_other i c false e h = e
    end_other i c true e h = let n = h e in cc

    close-fits : (i : StreamId) (owner : Owner) → (is_same i j ≡ true → owner ≡ Host) → Each (Fits j V) (close_algorithm i (React (WritableClose i) None) owner)
    close-fits i Host h = ((λ e. ap (λ (k : StreamId). HostClose k) (same_id i j e)), tt)
    close-fits i (HalfOf t) h = (half_other i t (is_same i j) refl h, tt)
    close-fits i (BranchOf t half) h = ((λ e. ap (λ (k : StreamId). HostClose k) (same_id i j e)), tt)
    close-fits i (EndOf c) h = (end_other i c (is_same i j) refl h, tt)

    own : Own (NoUse j)
    own = record { resolve = λ q. tt; changed = λ t q. refl; transformed = λ t q. refl; flushed = λ t q. refl; aborted = λ t q r. refl; cancelled = λ t q r. refl }

    not_closing : (call : HostCall) (u : Use) → NoUse j u → UseIs j call u
    not_closing call (React step d) n = λ e. absurd (cc)
    not_closing call (Resolve q) n = tt

    uses-fit : (e : Effect) → Uses (NoUse j) (λ i. Unit {0}) e → Fits j V e
    uses-fit e u = grind (arith, u, not_closing)

    hosted : (i : StreamId) (s : Slots) → owner_at j s ≡ Host → is_same i j ≡ true → owner_at i s ≡ Host
    hosted i s h e = subst (λ (k : StreamId). owner_at k s ≡ Host) (sym (same_id i j e)) h

    tee-uses-fit : (e : Effect) → TeeUses (NoUse j) e → Fits j V e
    tee-uses-fit e u = grind (arith, u)

    port-uses-fit : (e : Effect) → PortUses (NoUse j) (λ i. Unit {0}) e → Fits j V e
    port-uses-fit e u = grind (arith, u)

    -- of a stream of the host
    pub caused-fit : (e : Effect) (s : Slots) → owner_at j s ≡ Host → Fits j V e → Each (Fits j V) (row e s).caused
    unfolding row
    caused-fit (Readable i operation) s h f = row-causes (Fits j V) (Readable i operation) s (record { pull = tt; cancel = λ r q. tt; chunk = λ r v. tt; close = λ r. tt; error = λ r e. tt })
    caused-fit (Byte i operation) s h f =
        row-causes (Fits j V) (Byte i operation) s (record { readable = record { pull = tt; cancel = λ r q. tt; chunk = λ r v. tt; close = λ r. tt; error = λ r e. tt }; close_with = λ r b. tt })
    caused-fit (Writable i operation) s h f = row-causes (Fits j V) (Writable i operation) s (record { write = tt; close = tt; abort = λ r q. tt; hand_on = λ v e. no_true e; take = λ v t d. tt; post = λ v c d. tt })
    caused-fit (Pipe p operation) s h f = row-causes (Fits j V) (Pipe p operation) s (pipe-fits p)
    caused-fit (Signal a operation) s h f = row-causes (Fits j V) (Signal a operation) s (signal-fits operation)
    caused-fit (Transform t operation) s h f = each-map (Uses (NoUse j) (λ i. Unit {0})) (Fits j V) uses-fit (row (Transform t operation) s).caused (row-uses (NoUse j) (λ i. Unit {0}) own t operation s f (λ x e. tt))
    caused-fit (Tee t operation) s h f = each-map (TeeUses (NoUse j)) (Fits j V) tee-uses-fit (row (Tee t operation) s).caused (row-tees_use (NoUse j) (λ q. tt) t operation s f)
    caused-fit (Port c operation) s h f =
        each-map (PortUses (NoUse j) (λ i. Unit {0})) (Fits j V) port-uses-fit (row (Port c operation) s).caused (row-port_uses (NoUse j) (λ i. Unit {0}) (λ q. tt) (λ d q. refl) c operation s f (λ x e. tt))
    caused-fit (StartAlgorithm i step start) s h f = start-fits i step s start f
    caused-fit (PullAlgorithm i) s h f = pull-fits i (owner_at i s) _ _ refl
    caused-fit (CancelAlgorithm i r p) s h f = cancel-fits i r (owner_at i s) _ _ refl
    caused-fit (WriteAlgorithm i) s h f = write-fits i (owner_at i s)
    caused-fit (CloseAlgorithm i) s h f = close-fits i (owner_at i s) (hosted i s h)
    caused-fit (AbortAlgorithm i r p) s h f = abort-fits i r (owner_at i s) _ _ refl
    caused-fit (ChunkSteps i request v) s h f = row-causes (Fits j V) (ChunkSteps i request v) s (chunk-fits v request)
    caused-fit (CloseSteps i request) s h f = row-causes (Fits j V) (CloseSteps i request) s (end-fits request)
    caused-fit (CloseStepsWith i request b) s h f = row-causes (Fits j V) (CloseStepsWith i request b) s (end-fits request)
    caused-fit (ErrorSteps i request e) s h f = row-causes (Fits j V) (ErrorSteps i request e) s (error-fits request)
    caused-fit _ s h f = tt

    pub call-fits : (c : Call) (s : Slots) → Each (Fits j V) (begin c s).done.caused
    call-fits c s = each_call (λ (b : Begun). Each (Fits j V) b.done.caused) c s (grind arith)

    pub job-effects-fit : (job : Job) → JobFits (closes_it j) V job → Each (Fits j V) (job_effects job)
    job-effects-fit job f = grind arith

  pub fits-weaker : (V U : Type 0) → (V → U) → (e : Effect) → Fits j V e → Fits j U e
  fits-weaker V U f (Writable i (CloseSettled (Ok v))) k = λ e. f (k e)
  fits-weaker V U f (Writable i (CloseSettled (Err r))) k = tt
  fits-weaker V U f e k = k
