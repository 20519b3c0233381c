-- Which reactions the effects of a realm make: that of stream j to its write algorithm is made by the host call of that algorithm, and by no other;
-- and how many such calls are made.
use Rattle.ws_value.specs.declared.ids.TeeId.{TeeId}
use Rattle.ws_laws.proofs.PortDoes.{PortCauses}
use Rattle.ws_steps.specs.declared.transform.Taker.TheVariants.{ToPort}
use Rattle.ws_value.specs.declared.ids.PortId.{PortId}
use Rattle.ws_steps.specs.declared.effects.Owner.TheVariants.{EndOf}
use Rattle.ws_steps.specs.declared.effects.Effect.TheVariants.{Port}
use Rattle.std.proofs.Common.{◌≡◌, ℕ, ◌+◌, Bool, true, false, List, [], ◌∷◌, length, Option, None, Ok, Err, refl, sym, subst, arith, append-nil}
use Rattle.ws_value.specs.declared.{ids.PipeId.{PipeId}, ids.PromiseId.{PromiseId}, ids.StreamId.{StreamId}}
use Rattle.ws_value.specs.declared.value.Plain.{Plain}
use Rattle.ws_value.specs.declared.value.Value.{Value}
use Rattle.ws_steps.specs.declared.{transform.Taker.TheVariants.{ToHost, ToTransform}, transform.TransformId.{TransformId}}
use Rattle.ws_steps.specs.declared.{calls.Call.{Call}}
use Rattle.ws_steps.specs.declared.{calls.HostCall.{HostCall}, calls.HostCall.TheVariants.{Write as HostWrite}, calls.StartBy.{StartBy}, calls.StartBy.TheVariants.{Now, Later}}
use Rattle.ws_steps.specs.declared.effects.Effect.{Effect}
use Rattle.ws_steps.specs.declared.effects.Effect.TheVariants.{Readable, Writable, Pipe, Signal, Transform, Tee, StartAlgorithm, PullAlgorithm, CancelAlgorithm, WriteAlgorithm, CloseAlgorithm, AbortAlgorithm, ChunkSteps, CloseSteps, ErrorSteps, Give, CallHost}
use Rattle.ws_steps.specs.declared.{effects.Gift.TheVariants.{This}, effects.Owner.{Owner}, effects.Owner.TheVariants.{Host, HalfOf, BranchOf}, effects.Use.{Use}, effects.Use.TheVariants.{React, Resolve}}
use Rattle.ws_steps.specs.declared.{pipes.SignalOperation.{SignalOperation}, pipes.SignalOperation.TheVariants.{Add, Forget, Trigger}, promises.Job.{Job}, promises.Step.{Step}, promises.Step.TheVariants.{WritableClose, WritableWrite, PipeReady, PipeWrote, PipeActed, PipePart}}
use Rattle.ws_steps.specs.declared.{readable.ReadRequest.{ReadRequest}, readable.ReadRequest.TheVariants.{Promise, Pipe as PipeRequest, Tee as TeeRequest}}
use Rattle.ws_steps.specs.declared.writable.WritableOperation.TheVariants.{WriteSettled, HandOn}
use Rattle.ws_steps.specs.Slots.{Slots, owner_at}
use Rattle.ws_steps.specs.Turns.{row, pull_algorithm, cancel_algorithm, write_algorithm, close_algorithm, abort_algorithm, start_algorithm}
use Rattle.ws_steps.specs.Jobs.{job_effects}
use Rattle.ws_steps.specs.Begun.{Begun}
use Rattle.ws_steps.specs.Calls.{begin}
use Rattle.ws_steps.specs.Run.{step}
use Rattle.ws_steps.specs.Histories.{is_same}
use Rattle.ws_laws.proofs.EachCall.{each_call}
use Rattle.ws_laws.proofs.Lists.{Each, each-map}
use Rattle.ws_laws.proofs.PipeDoes.{IsStepOf, PipeCauses}
use Rattle.ws_laws.proofs.Causes.{ChunkCauses, EndCauses, ErrorCauses, SignalCauses, row-causes}
use Rattle.ws_laws.proofs.TransformDoes.{TransformCauses}
use Rattle.ws_laws.proofs.TeeDoes.{TeeCauses}
use Rattle.ws_writable_laws.proofs.Handed.{NoHalf, NoEnd}
use Rattle.ws_end_laws.proofs.hosts.Carried.{CarriesTee, TeeUses, row-tees_use, Carries, Uses, Own, row-uses}
use Rattle.ws_end_laws.proofs.hosts.Reactions.{JobFits}
use Rattle.ws_steps.specs.declared.writable.WritableOperation.{WritableOperation}
use Rattle.ws_steps.specs.Effects.{Out}
use Rattle.ws_steps.specs.Operations.{writable_operation}
use Rattle.ws_steps.specs.Slots.{Done, nothing, has_writable, put_writable, on_writable}
use Rattle.ws_steps.specs.Writable.{hand_on}
use Rattle.ws_steps.specs.WritableHistory.{effect_writes}
use Rattle.ws_laws.proofs.Tables.{either, same_id, writable_acts}
use Rattle.ws_laws.proofs.WritableDoes.{IsHandOn, others-do}
use Rattle.ws_writable_laws.proofs.Shape.{all, all-append}
use Rattle.ws_end_laws.specs.hosts.HostCalls.{effect_called, write_of, writes_of}
use Rattle.ws_steps.specs.declared.effects.Effect.TheVariants.{Byte, CloseStepsWith}
use Rattle.ws_end_laws.proofs.hosts.Ported.{CarriesPort, PortUses, row-port_uses}

-- the reaction of stream j to its write algorithm
abbrev pub writes_it : StreamId → Step → Bool
writes_it j (WritableWrite i) = is_same j i
writes_it j _ = false

-- whether this is a call of that algorithm
abbrev pub is_write_call : StreamId → HostCall → Bool
is_write_call j (HostWrite i v) = is_same j i
is_write_call j _ = false

abbrev pub marks : StreamId → Use → Bool
marks j (React step derived) = writes_it j step
marks j (Resolve p) = false

abbrev NoUse : StreamId → Use → Type 0
NoUse j u = marks j u ≡ false

-- what is known of an effect: no promise is used by that reaction, but that of such a host call, which is; and where it tells that the write was
-- fulfilled, V holds. The stream hands on to no transform stream and to no port
abbrev pub Fits : StreamId → Type 0 → Effect → Type 0
Fits j V (Give gift u) = marks j u ≡ false
Fits j V (CallHost call u) = is_write_call j call ≡ marks j u
Fits j V (StartAlgorithm i step start) = writes_it j step ≡ false
Fits j V (Transform t operation) = Carries (NoUse j) operation
Fits j V (Tee t operation) = CarriesTee (NoUse j) operation
Fits j V (Port c operation) = CarriesPort (NoUse j) operation
Fits j V (Writable i (HandOn (ToTransform t d))) = is_same j i ≡ false
Fits j V (Writable i (HandOn (ToPort c d))) = is_same j i ≡ false
Fits j V (Writable i (WriteSettled (Ok v))) = is_same j i ≡ true → V
Fits j V _ = Unit {0}

module _ (j : StreamId) where
  -- what effects cause

  module _ (V : Type 0) where
    pipe_step-no : (p : PipeId) (step : Step) → IsStepOf p step → writes_it j step ≡ false
    pipe_step-no p (PipeReady q) c = refl
    pipe_step-no p (PipeWrote q) c = refl
    pipe_step-no p (PipeActed q) c = refl
    pipe_step-no p (PipePart q) c = refl
    pipe_step-no p (WritableWrite i) c = absurd c
    pipe_step-no p _ c = refl

    pipe-fits : (p : PipeId) (source dest : StreamId) (e : Effect) → PipeCauses p source dest e → Fits j V e
    pipe-fits p source dest (Give (This q) (React step None)) c = pipe_step-no p step c
    pipe-fits p source dest (Give gift u) c = absurd c
    pipe-fits p source dest (CallHost call u) c = absurd c
    pipe-fits p source dest (StartAlgorithm i step start) c = absurd c
    pipe-fits p source dest (Writable i (WriteSettled o)) c = absurd c
    pipe-fits p source dest (Transform t operation) c = absurd c
    pipe-fits p source dest (Tee t operation) c = absurd c
    pipe-fits p source dest (Port q operation) c = absurd c
    pipe-fits p source dest (Writable i (HandOn taker)) c = absurd c
    pipe-fits p source dest _ c = tt

    chunk-fits : (v : Value) (request : ReadRequest) → ChunkCauses (Fits j V) v request
    chunk-fits v (Promise q) = tt
    chunk-fits v (PipeRequest q) = tt
    chunk-fits v (TeeRequest t) = tt

    end-fits : (request : ReadRequest) → EndCauses (Fits j V) request
    end-fits (Promise q) = tt
    end-fits (PipeRequest q) = tt
    end-fits (TeeRequest t) = tt

    error-fits : (request : ReadRequest) → ErrorCauses (Fits j V) request
    error-fits (Promise q) = tt
    error-fits (PipeRequest q) = tt
    error-fits (TeeRequest t) = tt

    signal-fits : (operation : SignalOperation) → SignalCauses (Fits j V) operation
    signal-fits (Trigger r) = λ q. tt
    signal-fits (Add q) = tt
    signal-fits (Forget q) = tt

    start-fits : (i : StreamId) (step : Step) (s : Slots) (start : StartBy) → writes_it j step ≡ false → Each (Fits j V) (start_algorithm i step s start).caused
    start-fits i step s Now n = (n, tt)
    start-fits i step s Later n = (refl, (n, tt))

    pull-fits : (i : StreamId) (owner : Owner) (step : Step) (d : Option PromiseId) → writes_it j step ≡ false → Each (Fits j V) (pull_algorithm i (React step d) owner)
    pull-fits i Host step d n = (sym n, tt)
    pull-fits i (HalfOf t) step d n = (n, tt)
    pull-fits i (BranchOf t half) step d n = (tt, (n, tt))
    pull-fits i (EndOf c) step d n = (tt, (n, tt))

    cancel-fits : (i : StreamId) (r : Plain) (owner : Owner) (step : Step) (d : Option PromiseId) → writes_it j step ≡ false → Each (Fits j V) (cancel_algorithm i r (React step d) owner)
    cancel-fits i r Host step d n = (sym n, tt)
    cancel-fits i r (HalfOf t) step d n = (n, tt)
    cancel-fits i r (BranchOf t half) step d n = (n, tt)
    cancel-fits i r (EndOf c) step d n = (n, tt)

    abort-fits : (i : StreamId) (r : Plain) (owner : Owner) (step : Step) (d : Option PromiseId) → writes_it j step ≡ false → Each (Fits j V) (abort_algorithm i r (React step d) owner)
    abort-fits i r Host step d n = (sym n, tt)
    abort-fits i r (HalfOf t) step d n = (n, tt)
    abort-fits i r (BranchOf t half) step d n = (sym n, tt)
    abort-fits i r (EndOf c) step d n = (n, tt)

    -- a half is another stream
    half_other : (i : StreamId) (t : TransformId) (b : Bool) → is_same j i ≡ b → (is_same j i ≡ true → HalfOf t ≡ Host) → is_same j i ≡ false
    half_other i t false e h = e
    half_other i t true e h = let n = h e in cc

    -- and so is an end
    end_other : (i : StreamId) (c : PortId) (b : Bool) → is_same j i ≡ b → (is_same j i ≡ true → EndOf c ≡ Host) → is_same j i ≡ false
    end_other i c false e h = e
    end_other i c true e h = let n = h e in cc

    write-fits : (i : StreamId) (owner : Owner) → (is_same j i ≡ true → owner ≡ Host) → Each (Fits j V) (write_algorithm i owner)
    write-fits i Host h = (tt, tt)
    write-fits i (HalfOf t) h = (half_other i t (is_same j i) refl h, tt)
    write-fits i (BranchOf t half) h = (tt, tt)
    write-fits i (EndOf c) h = (end_other i c (is_same j i) refl h, tt)

    close-fits : (i : StreamId) (owner : Owner) → Each (Fits j V) (close_algorithm i (React (WritableClose i) None) owner)
    close-fits i Host = (refl, tt)
    close-fits i (HalfOf t) = (refl, tt)
    close-fits i (BranchOf t half) = (refl, tt)
    close-fits i (EndOf c) = (refl, tt)

    own : Own (NoUse j)
    own = record { resolve = λ q. refl; changed = λ t q. refl; transformed = λ t q. refl; flushed = λ t q. refl; aborted = λ t q r. refl; cancelled = λ t q r. refl }

    uses-fit : (e : Effect) → Uses (NoUse j) (λ i. is_same j i ≡ false) e → Fits j V e
    uses-fit e u = grind (arith, u)

    hosted : (i : StreamId) (s : Slots) → owner_at j s ≡ Host → is_same j i ≡ true → owner_at i s ≡ Host
    hosted i s h e = subst (λ (k : StreamId). owner_at k s ≡ Host) (same_id j i e) h

    tee-uses-fit : (e : Effect) → TeeUses (NoUse j) e → Fits j V e
    tee-uses-fit e u = grind (arith, u)

    port-uses-fit : (e : Effect) → PortUses (NoUse j) (λ i. is_same j i ≡ false) e → Fits j V e
    port-uses-fit e u = grind (arith, u)

    -- of a stream of the host
    pub caused-fit : (e : Effect) (s : Slots) → owner_at j s ≡ Host → NoHalf j s → NoEnd j s → Fits j V e → Each (Fits j V) (row e s).caused
    unfolding row
    caused-fit (Readable i operation) s h none ends f = row-causes (Fits j V) (Readable i operation) s (record { pull = tt; cancel = λ r q. tt; chunk = λ r v. tt; close = λ r. tt; error = λ r e. tt })
    caused-fit (Byte i operation) s h none ends f =
        row-causes (Fits j V) (Byte i operation) s (record { readable = record { pull = tt; cancel = λ r q. tt; chunk = λ r v. tt; close = λ r. tt; error = λ r e. tt }; close_with = λ r b. tt })
    caused-fit (Writable i operation) s h none ends f = row-causes (Fits j V) (Writable i operation) s (record { write = tt; close = tt; abort = λ r q. tt; hand_on = λ v. refl; take = λ v t d. tt; post = λ v c d. tt })
    caused-fit (Pipe p operation) s h none ends f = row-causes (Fits j V) (Pipe p operation) s (pipe-fits p)
    caused-fit (Signal a operation) s h none ends f = row-causes (Fits j V) (Signal a operation) s (signal-fits operation)
    caused-fit (Transform t operation) s h none ends f =
        each-map (Uses (NoUse j) (λ i. is_same j i ≡ false)) (Fits j V) uses-fit (row (Transform t operation) s).caused (row-uses (NoUse j) (λ i. is_same j i ≡ false) own t operation s f (none t))
    caused-fit (Tee t operation) s h none ends f = each-map (TeeUses (NoUse j)) (Fits j V) tee-uses-fit (row (Tee t operation) s).caused (row-tees_use (NoUse j) (λ q. refl) t operation s f)
    caused-fit (Port c operation) s h none ends f =
        each-map (PortUses (NoUse j) (λ i. is_same j i ≡ false)) (Fits j V) port-uses-fit (row (Port c operation) s).caused (row-port_uses (NoUse j) (λ i. is_same j i ≡ false) (λ q. refl) (λ d q. refl) c operation s f (ends c))
    caused-fit (StartAlgorithm i step start) s h none ends f = start-fits i step s start f
    caused-fit (PullAlgorithm i) s h none ends f = pull-fits i (owner_at i s) _ _ refl
    caused-fit (CancelAlgorithm i r p) s h none ends f = cancel-fits i r (owner_at i s) _ _ refl
    caused-fit (WriteAlgorithm i) s h none ends f = write-fits i (owner_at i s) (hosted i s h)
    caused-fit (CloseAlgorithm i) s h none ends f = close-fits i (owner_at i s)
    caused-fit (AbortAlgorithm i r p) s h none ends f = abort-fits i r (owner_at i s) _ _ refl
    caused-fit (ChunkSteps i request v) s h none ends f = row-causes (Fits j V) (ChunkSteps i request v) s (chunk-fits v request)
    caused-fit (CloseSteps i request) s h none ends f = row-causes (Fits j V) (CloseSteps i request) s (end-fits request)
    caused-fit (CloseStepsWith i request b) s h none ends f = row-causes (Fits j V) (CloseStepsWith i request b) s (end-fits request)
    caused-fit (ErrorSteps i request e) s h none ends f = row-causes (Fits j V) (ErrorSteps i request e) s (error-fits request)
    caused-fit _ s h none ends f = tt

    pub call-fits : (c : Call) (s : Slots) → Each (Fits j V) (begin c s).done.caused
    call-fits c s = each_call (λ (b : Begun). Each (Fits j V) b.done.caused) c s (grind arith)

    pub job-effects-fit : (job : Job) → JobFits (writes_it j) V job → Each (Fits j V) (job_effects job)
    job-effects-fit job f = grind arith

  pub fits-weaker : (V U : Type 0) → (V → U) → (e : Effect) → Fits j V e → Fits j U e
  fits-weaker V U f (Writable i (WriteSettled (Ok v))) k = λ e. f (k e)
  fits-weaker V U f (Writable i (WriteSettled (Err r))) k = tt
  fits-weaker V U f e k = k

-- how many calls of the write algorithm stand on the agenda

abbrev pub pends : StreamId → Effect → ℕ
pends j (CallHost call u) = length (write_of j call)
pends j _ = 0

module _ (j : StreamId) where
  abbrev NoPend : Effect → Type 0
  NoPend e = pends j e ≡ 0

  none_pend : (es : List Effect) → Each NoPend es → all (pends j) es ≡ 0
  none_pend [] n = refl
  none_pend (e ∷ es) n = let a = n.0 in let b = none_pend es n.1 in omega arith

  pipe-pends : (p : PipeId) (source dest : StreamId) (e : Effect) → PipeCauses p source dest e → NoPend e
  pipe-pends p source dest (CallHost call u) c = absurd c
  pipe-pends p source dest _ c = refl

  chunk-pends : (v : Value) (request : ReadRequest) → ChunkCauses NoPend v request
  chunk-pends v (Promise q) = tt
  chunk-pends v (PipeRequest q) = refl
  chunk-pends v (TeeRequest t) = refl

  end-pends : (request : ReadRequest) → EndCauses NoPend request
  end-pends (Promise q) = tt
  end-pends (PipeRequest q) = refl
  end-pends (TeeRequest t) = refl

  error-pends : (request : ReadRequest) → ErrorCauses NoPend request
  error-pends (Promise q) = tt
  error-pends (PipeRequest q) = refl
  error-pends (TeeRequest t) = refl

  signal-pends : (operation : SignalOperation) → SignalCauses NoPend operation
  signal-pends (Trigger r) = λ q. refl
  signal-pends (Add q) = tt
  signal-pends (Forget q) = tt

  start-pends : (i : StreamId) (step : Step) (s : Slots) (start : StartBy) → Each NoPend (start_algorithm i step s start).caused
  start-pends i step s Now = (refl, tt)
  start-pends i step s Later = (refl, (refl, tt))

  pull-pends : (i : StreamId) (u : Use) (owner : Owner) → Each NoPend (pull_algorithm i u owner)
  pull-pends i u Host = (refl, tt)
  pull-pends i u (HalfOf t) = (refl, tt)
  pull-pends i u (BranchOf t half) = (refl, (refl, tt))
  pull-pends i u (EndOf c) = (refl, (refl, tt))

  cancel-pends : (i : StreamId) (r : Plain) (u : Use) (owner : Owner) → Each NoPend (cancel_algorithm i r u owner)
  cancel-pends i r u Host = (refl, tt)
  cancel-pends i r u (HalfOf t) = (refl, tt)
  cancel-pends i r u (BranchOf t half) = (refl, tt)
  cancel-pends i r u (EndOf c) = (refl, tt)

  abort-pends : (i : StreamId) (r : Plain) (u : Use) (owner : Owner) → Each NoPend (abort_algorithm i r u owner)
  abort-pends i r u Host = (refl, tt)
  abort-pends i r u (HalfOf t) = (refl, tt)
  abort-pends i r u (BranchOf t half) = (refl, tt)
  abort-pends i r u (EndOf c) = (refl, tt)

  close-pends : (i : StreamId) (u : Use) (owner : Owner) → Each NoPend (close_algorithm i u owner)
  close-pends i u Host = (refl, tt)
  close-pends i u (HalfOf t) = (refl, tt)
  close-pends i u (BranchOf t half) = (refl, tt)
  close-pends i u (EndOf c) = (refl, tt)

  write-pends : (i : StreamId) (owner : Owner) → Each NoPend (write_algorithm i owner)
  write-pends i Host = (refl, tt)
  write-pends i (HalfOf t) = (refl, tt)
  write-pends i (BranchOf t half) = (refl, tt)
  write-pends i (EndOf c) = (refl, tt)

  transform-pends : (t : TransformId) (writable readable : StreamId) (e : Effect) → TransformCauses t writable readable e → NoPend e
  transform-pends t writable readable e c = grind (arith, c)

  tee-pends : (t : TeeId) (source first second : StreamId) (e : Effect) → TeeCauses t source first second e → NoPend e
  tee-pends t source first second e c = grind (arith, c)

  port-pends : (c : PortId) (stream : StreamId) (e : Effect) → PortCauses c stream e → NoPend e
  port-pends c stream e k = grind (arith, k)

  others-pend : (i : StreamId) (operation : WritableOperation) (s : Slots) → (IsHandOn operation → ⊥) → all (pends j) (on_writable (writable_operation i operation) i s).caused ≡ 0
  others-pend i operation s u =
      either (λ (d : Done). all (pends j) d.caused ≡ 0) (has_writable i s) (put_writable i s (writable_operation i operation (writable_acts i s))) (nothing s)
      (λ e. others-do (λ (x : Out). all (pends j) x.effects ≡ 0) i (record {
        settle = λ x p o h. h;
        fresh = λ x h. h;
        tell = λ x r h. h;
        write = λ x h. let a = all-append (pends j) x.effects (WriteAlgorithm i ∷ []) in omega (arith, a, h);
        close = λ x h. let a = all-append (pends j) x.effects (CloseAlgorithm i ∷ []) in omega (arith, a, h);
        abort = λ x r p h. let a = all-append (pends j) x.effects (AbortAlgorithm i r p ∷ []) in omega (arith, a, h);
      }) operation (writable_acts i s) u refl) (λ e. refl)

  not_acted : (i : StreamId) (operation : WritableOperation) (s : Slots) → (IsHandOn operation → ⊥) → length (effect_writes j (Writable i operation) s).acted ≡ 0
  not_acted i operation s u = grind arith

  zero_called : (a b c d : ℕ) → a ≡ 0 → b ≡ 0 → c ≡ 0 → d ≡ 0 → a + b ≡ c + d
  zero_called a b c d e f g h = omega (arith, e, f, g, h)

  pub row-called : (V : Type 0) (e : Effect) (s : Slots) → Fits j V e → length (writes_of j (effect_called e s)) + all (pends j) (row e s).caused ≡ pends j e + length (effect_writes j e s).acted
  unfolding row hand_on
  row-called V (Readable i operation) s f = zero_called 0 _ 0 0 refl (none_pend _ (row-causes NoPend (Readable i operation) s (record { pull = refl; cancel = λ r q. refl; chunk = λ r v. refl; close = λ r. refl; error = λ r e. refl }))) refl refl
  row-called V (Byte i operation) s f =
      zero_called 0 _ 0 0 refl
      (none_pend _ (row-causes NoPend (Byte i operation) s (record { readable = record { pull = refl; cancel = λ r q. refl; chunk = λ r v. refl; close = λ r. refl; error = λ r e. refl }; close_with = λ r b. refl }))) refl refl
  row-called V (Writable i (HandOn ToHost)) s f = grind (arith, append-nil)
  row-called V (Writable i (HandOn (ToTransform t d))) s f = grind (arith, append-nil, f)
  row-called V (Writable i (HandOn (ToPort c d))) s f = grind (arith, append-nil, f)
  row-called V (Writable i operation) s f = zero_called 0 _ 0 _ refl (others-pend i operation s (λ u. u)) refl (not_acted i operation s (λ u. u))
  row-called V (Pipe p operation) s f = zero_called 0 _ 0 0 refl (none_pend _ (row-causes NoPend (Pipe p operation) s (pipe-pends p))) refl refl
  row-called V (Signal a operation) s f = zero_called 0 _ 0 0 refl (none_pend _ (row-causes NoPend (Signal a operation) s (signal-pends operation))) refl refl
  row-called V (Transform t operation) s f = zero_called 0 _ 0 0 refl (none_pend _ (row-causes NoPend (Transform t operation) s (transform-pends t))) refl refl
  row-called V (Tee t operation) s f = zero_called 0 _ 0 0 refl (none_pend _ (row-causes NoPend (Tee t operation) s (tee-pends t))) refl refl
  row-called V (Port c operation) s f = zero_called 0 _ 0 0 refl (none_pend _ (row-causes NoPend (Port c operation) s (port-pends c))) refl refl
  row-called V (StartAlgorithm i step start) s f = zero_called 0 _ 0 0 refl (none_pend _ (start-pends i step s start)) refl refl
  row-called V (PullAlgorithm i) s f = zero_called 0 _ 0 0 refl (none_pend _ (pull-pends i _ (owner_at i s))) refl refl
  row-called V (CancelAlgorithm i r p) s f = zero_called 0 _ 0 0 refl (none_pend _ (cancel-pends i r _ (owner_at i s))) refl refl
  row-called V (WriteAlgorithm i) s f = zero_called 0 _ 0 0 refl (none_pend _ (write-pends i (owner_at i s))) refl refl
  row-called V (CloseAlgorithm i) s f = grind (arith, none_pend, close-pends)
  row-called V (AbortAlgorithm i r p) s f = zero_called 0 _ 0 0 refl (none_pend _ (abort-pends i r _ (owner_at i s))) refl refl
  row-called V (ChunkSteps i request v) s f = zero_called 0 _ 0 0 refl (none_pend _ (row-causes NoPend (ChunkSteps i request v) s (chunk-pends v request))) refl refl
  row-called V (CloseSteps i request) s f = zero_called 0 _ 0 0 refl (none_pend _ (row-causes NoPend (CloseSteps i request) s (end-pends request))) refl refl
  row-called V (CloseStepsWith i request b) s f = zero_called 0 _ 0 0 refl (none_pend _ (row-causes NoPend (CloseStepsWith i request b) s (end-pends request))) refl refl
  row-called V (ErrorSteps i request e) s f = zero_called 0 _ 0 0 refl (none_pend _ (row-causes NoPend (ErrorSteps i request e) s (error-pends request))) refl refl
  row-called V (CallHost call u) s f = grind (arith, append-nil)
  row-called V _ s f = refl

  pub call-pends : (c : Call) (s : Slots) → all (pends j) (begin c s).done.caused ≡ 0
  call-pends c s = none_pend (begin c s).done.caused (each_call (λ (b : Begun). Each NoPend b.done.caused) c s (grind arith))

  pub job-pends : (job : Job) → all (pends j) (job_effects job) ≡ 0
  job-pends job = grind arith
