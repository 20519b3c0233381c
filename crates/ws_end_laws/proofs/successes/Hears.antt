-- Which effects register a reaction of a pipe to its action, or to a part of it, and tell the pipe its outcome.
use Rattle.std.proofs.Common.{◌≡◌, Bool, true, false, ◌&&◌, inl, inr, nat_eq, if◌then◌else◌, List, [], ◌∷◌, ◌++◌, Option, None, Result, refl, sym, ap, ◌∙◌, arith}
use Rattle.ws_steps.specs.declared.effects.Owner.TheVariants.{EndOf}
use Rattle.ws_steps.specs.declared.effects.Effect.TheVariants.{Port}
use Rattle.ws_value.specs.declared.{ids.PipeId.{PipeId}, ids.PromiseId.{PromiseId}, ids.StreamId.{StreamId}}
use Rattle.ws_value.specs.declared.value.Plain.{Plain}
use Rattle.ws_value.specs.declared.value.Value.{Value}
use Rattle.ws_steps.specs.declared.{calls.Call.{Call}, calls.StartBy.{StartBy}, calls.StartBy.TheVariants.{Now, Later}}
use Rattle.ws_steps.specs.declared.effects.Effect.{Effect}
use Rattle.ws_steps.specs.declared.effects.Effect.TheVariants.{Readable, Writable, Pipe, Signal, Transform, Tee, StartAlgorithm, PullAlgorithm, CancelAlgorithm, WriteAlgorithm, CloseAlgorithm, AbortAlgorithm, ChunkSteps, CloseSteps, ErrorSteps, Give, CallHost}
use Rattle.ws_steps.specs.declared.{effects.Gift.TheVariants.{This, Fresh}, effects.Owner.{Owner}, effects.Owner.TheVariants.{Host, HalfOf, BranchOf}, effects.Use.{Use}, effects.Use.TheVariants.{React, Resolve}}
use Rattle.ws_steps.specs.declared.{pipes.SignalOperation.{SignalOperation}, pipes.SignalOperation.TheVariants.{Add, Forget, Trigger}, promises.Job.{Job}, promises.Step.{Step}, promises.Step.TheVariants.{PipeReady, PipeWrote, PipeActed, PipePart}}
use Rattle.ws_steps.specs.declared.pipes.PipeOperation.TheVariants.{ActionSettled, PartSettled}
use Rattle.ws_steps.specs.declared.{readable.ReadRequest.{ReadRequest}, readable.ReadRequest.TheVariants.{Promise, Pipe as PipeRequest, Tee as TeeRequest}}
use Rattle.ws_steps.specs.Slots.{Slots, owner_at}
use Rattle.ws_steps.specs.Turns.{row, pull_algorithm, cancel_algorithm, write_algorithm, close_algorithm, abort_algorithm, start_algorithm}
use Rattle.ws_steps.specs.Jobs.{job_effects}
use Rattle.ws_steps.specs.Begun.{Begun}
use Rattle.ws_steps.specs.Calls.{begin}
use Rattle.ws_laws.proofs.EachCall.{each_call}
use Rattle.ws_laws.proofs.Lists.{Each, each-map}
use Rattle.ws_laws.proofs.PipeDoes.{IsStepOf, PipeCauses}
use Rattle.ws_laws.proofs.Truth.{and_right}
use Rattle.ws_laws.proofs.Causes.{ChunkCauses, EndCauses, ErrorCauses, SignalCauses, row-causes}
use Rattle.ws_end_laws.proofs.successes.Reacts.{JobFits}
use Rattle.ws_end_laws.specs.successes.Heard.{Awaited, is_action, is_part, is_reaction, heard_in, Among}
use Rattle.ws_end_laws.proofs.hosts.Carried.{CarriesTee, TeeUses, row-tees_use, Carries, Uses, Own, row-uses}
use Rattle.ws_steps.specs.declared.effects.Effect.TheVariants.{Byte, CloseStepsWith}
use Rattle.ws_end_laws.proofs.hosts.Ported.{CarriesPort, PortUses, row-port_uses}

abbrev pub NoUse : Awaited → PipeId → Use → Type 0
NoUse what p (React step derived) = is_reaction what p step ≡ false
NoUse what p (Resolve q) = Unit {0}

-- such a reaction is registered only with a promise of which P holds, and the pipe is told an outcome so only of which V holds
abbrev pub Fits : Awaited → PipeId → (PromiseId → Type 0) → (Result Plain Plain → Type 0) → Effect → Type 0
Fits what p P V (Give (This d) (React step derived)) = is_reaction what p step ≡ true → P d
Fits what p P V (Give gift u) = NoUse what p u
Fits what p P V (CallHost call u) = NoUse what p u
Fits what p P V (StartAlgorithm i step start) = is_reaction what p step ≡ false
Fits what p P V (Transform t operation) = Carries (NoUse what p) operation
Fits what p P V (Tee t operation) = CarriesTee (NoUse what p) operation
Fits what p P V (Port c operation) = CarriesPort (NoUse what p) operation
Fits what p P V (Pipe q (ActionSettled o)) = is_reaction what p (PipeActed q) ≡ true → V o
Fits what p P V (Pipe q (PartSettled o)) = is_reaction what p (PipePart q) ≡ true → V o
Fits what p P V _ = Unit {0}

unasked : (what : Awaited) (step : Step) (p : PipeId) {A : Type 0} → is_reaction what p step ≡ false → is_reaction what p step ≡ true → A
unasked what step p n m = absurd (cc)

module _ (what : Awaited) (p : PipeId) (P : PromiseId → Type 0) (V : Result Plain Plain → Type 0) where
  -- an operation of the pipe itself may have any promise heard
  abbrev pub OwnOf : Effect → Type 0
  OwnOf (Pipe q operation) = nat_eq p.0 q.0 ≡ true → (d : PromiseId) → P d
  OwnOf _ = Unit {0}

  of-pipe : (q r : PipeId) (b : Bool) → r ≡ q → b && nat_eq p.0 r.0 ≡ true → nat_eq p.0 q.0 ≡ true
  of-pipe q r b c m = sym (ap (λ (k : PipeId). nat_eq p.0 k.0) c) ∙ and_right b (nat_eq p.0 r.0) m

  own-step : (q : PipeId) (step : Step) (d : PromiseId) → (nat_eq p.0 q.0 ≡ true → (d : PromiseId) → P d) → IsStepOf q step → is_reaction what p step ≡ true → P d
  own-step q (PipeReady r) d own c m = absurd (cc)
  own-step q (PipeWrote r) d own c m = absurd (cc)
  own-step q (PipeActed r) d own c m = own (of-pipe q r (is_action what) c m) d
  own-step q (PipePart r) d own c m = own (of-pipe q r (is_part what) c m) d
  own-step q _ d own c m = absurd c

  pipe-fits : (q : PipeId) (source dest : StreamId) (e : Effect) → (nat_eq p.0 q.0 ≡ true → (d : PromiseId) → P d) → PipeCauses q source dest e → Fits what p P V e
  pipe-fits q source dest (Give (This d) (React step None)) own c = λ m. own-step q step d own c m
  pipe-fits q source dest (Give gift u) own c = absurd c
  pipe-fits q source dest (CallHost call u) own c = absurd c
  pipe-fits q source dest (StartAlgorithm i step start) own c = absurd c
  pipe-fits q source dest (Pipe r (ActionSettled o)) own c = absurd c
  pipe-fits q source dest (Pipe r (PartSettled o)) own c = absurd c
  pipe-fits q source dest (Transform t operation) own c = absurd c
  pipe-fits q source dest (Tee t operation) own c = absurd c
  pipe-fits q source dest (Port w operation) own c = absurd c
  pipe-fits q source dest _ own c = tt

  chunk-fits : (v : Value) (request : ReadRequest) → ChunkCauses (Fits what p P V) v request
  chunk-fits v (Promise q) = tt
  chunk-fits v (PipeRequest q) = tt
  chunk-fits v (TeeRequest t) = tt

  end-fits : (request : ReadRequest) → EndCauses (Fits what p P V) request
  end-fits (Promise q) = tt
  end-fits (PipeRequest q) = tt
  end-fits (TeeRequest t) = tt

  error-fits : (request : ReadRequest) → ErrorCauses (Fits what p P V) request
  error-fits (Promise q) = tt
  error-fits (PipeRequest q) = tt
  error-fits (TeeRequest t) = tt

  signal-fits : (operation : SignalOperation) → SignalCauses (Fits what p P V) operation
  signal-fits (Trigger r) = λ q. tt
  signal-fits (Add q) = tt
  signal-fits (Forget q) = tt

  start-fits : (i : StreamId) (step : Step) (s : Slots) (start : StartBy) → is_reaction what p step ≡ false → Each (Fits what p P V) (start_algorithm i step s start).caused
  start-fits i step s Now n = (n, tt)
  start-fits i step s Later n = (tt, ((λ m. unasked what step p n m), tt))

  pull-fits : (i : StreamId) (owner : Owner) (step : Step) (d : Option PromiseId) → is_reaction what p step ≡ false → Each (Fits what p P V) (pull_algorithm i (React step d) owner)
  pull-fits i Host step d n = (n, tt)
  pull-fits i (HalfOf t) step d n = (n, tt)
  pull-fits i (BranchOf t half) step d n = (tt, (n, tt))
  pull-fits i (EndOf c) step d n = (tt, (n, tt))

  cancel-fits : (i : StreamId) (r : Plain) (owner : Owner) (step : Step) (d : Option PromiseId) → is_reaction what p step ≡ false → Each (Fits what p P V) (cancel_algorithm i r (React step d) owner)
  cancel-fits i r Host step d n = (n, tt)
  cancel-fits i r (HalfOf t) step d n = (n, tt)
  cancel-fits i r (BranchOf t half) step d n = (n, tt)
  cancel-fits i r (EndOf c) step d n = (n, tt)

  abort-fits : (i : StreamId) (r : Plain) (owner : Owner) (step : Step) (d : Option PromiseId) → is_reaction what p step ≡ false → Each (Fits what p P V) (abort_algorithm i r (React step d) owner)
  abort-fits i r Host step d n = (n, tt)
  abort-fits i r (HalfOf t) step d n = (n, tt)
  abort-fits i r (BranchOf t half) step d n = (n, tt)
  abort-fits i r (EndOf c) step d n = (n, tt)

  write-fits : (i : StreamId) (owner : Owner) → Each (Fits what p P V) (write_algorithm i owner)
  write-fits i Host = (tt, tt)
  write-fits i (HalfOf t) = (refl, tt)
  write-fits i (BranchOf t half) = (tt, tt)
  write-fits i (EndOf c) = (refl, tt)

  close-fits : (i : StreamId) (owner : Owner) (step : Step) (d : Option PromiseId) → is_reaction what p step ≡ false → Each (Fits what p P V) (close_algorithm i (React step d) owner)
  close-fits i Host step d n = (n, tt)
  close-fits i (HalfOf t) step d n = (n, tt)
  close-fits i (BranchOf t half) step d n = (n, tt)
  close-fits i (EndOf c) step d n = (n, tt)

  own : Own (NoUse what p)
  own = record { resolve = λ q. tt; changed = λ t q. refl; transformed = λ t q. refl; flushed = λ t q. refl; aborted = λ t q r. refl; cancelled = λ t q r. refl }

  uses-fit : (e : Effect) → Uses (NoUse what p) (λ i. Unit {0}) e → Fits what p P V e
  uses-fit e u = grind (arith, u)

  tee-uses-fit : (e : Effect) → TeeUses (NoUse what p) e → Fits what p P V e
  tee-uses-fit e u = grind (arith, u)

  port-uses-fit : (e : Effect) → PortUses (NoUse what p) (λ i. Unit {0}) e → Fits what p P V e
  port-uses-fit e u = grind (arith, u)

  pub caused-fit : (Q : PromiseId → Type 0) (U : Result Plain Plain → Type 0) (e : Effect) (s : Slots) → OwnOf e → Fits what p Q U e → Each (Fits what p P V) (row e s).caused
  unfolding row
  caused-fit Q U (Readable i operation) s mine f = row-causes (Fits what p P V) (Readable i operation) s (record { pull = tt; cancel = λ r q. tt; chunk = λ r v. tt; close = λ r. tt; error = λ r e. tt })
  caused-fit Q U (Byte i operation) s mine f =
      row-causes (Fits what p P V) (Byte i operation) s (record { readable = record { pull = tt; cancel = λ r q. tt; chunk = λ r v. tt; close = λ r. tt; error = λ r e. tt }; close_with = λ r b. tt })
  caused-fit Q U (Writable i operation) s mine f = row-causes (Fits what p P V) (Writable i operation) s (record { write = tt; close = tt; abort = λ r q. tt; hand_on = λ v. refl; take = λ v t d. tt; post = λ v c d. tt })
  caused-fit Q U (Pipe q operation) s mine f = row-causes (Fits what p P V) (Pipe q operation) s (λ source dest e c. pipe-fits q source dest e mine c)
  caused-fit Q U (Signal a operation) s mine f = row-causes (Fits what p P V) (Signal a operation) s (signal-fits operation)
  caused-fit Q U (Transform t operation) s mine f = each-map (Uses (NoUse what p) (λ i. Unit {0})) (Fits what p P V) uses-fit (row (Transform t operation) s).caused (row-uses (NoUse what p) (λ i. Unit {0}) own t operation s f (λ x e. tt))
  caused-fit Q U (Tee t operation) s mine f = each-map (TeeUses (NoUse what p)) (Fits what p P V) tee-uses-fit (row (Tee t operation) s).caused (row-tees_use (NoUse what p) (λ q. tt) t operation s f)
  caused-fit Q U (Port c operation) s mine f =
      each-map (PortUses (NoUse what p) (λ i. Unit {0})) (Fits what p P V) port-uses-fit (row (Port c operation) s).caused (row-port_uses (NoUse what p) (λ i. Unit {0}) (λ q. tt) (λ d q. refl) c operation s f (λ x e. tt))
  caused-fit Q U (StartAlgorithm i step start) s mine f = start-fits i step s start f
  caused-fit Q U (PullAlgorithm i) s mine f = pull-fits i (owner_at i s) _ _ refl
  caused-fit Q U (CancelAlgorithm i r q) s mine f = cancel-fits i r (owner_at i s) _ _ refl
  caused-fit Q U (WriteAlgorithm i) s mine f = write-fits i (owner_at i s)
  caused-fit Q U (CloseAlgorithm i) s mine f = close-fits i (owner_at i s) _ _ refl
  caused-fit Q U (AbortAlgorithm i r q) s mine f = abort-fits i r (owner_at i s) _ _ refl
  caused-fit Q U (ChunkSteps i request v) s mine f = row-causes (Fits what p P V) (ChunkSteps i request v) s (chunk-fits v request)
  caused-fit Q U (CloseSteps i request) s mine f = row-causes (Fits what p P V) (CloseSteps i request) s (end-fits request)
  caused-fit Q U (CloseStepsWith i request b) s mine f = row-causes (Fits what p P V) (CloseStepsWith i request b) s (end-fits request)
  caused-fit Q U (ErrorSteps i request e) s mine f = row-causes (Fits what p P V) (ErrorSteps i request e) s (error-fits request)
  caused-fit Q U _ s mine f = tt

  pub call-fits : (c : Call) (s : Slots) → Each (Fits what p P V) (begin c s).done.caused
  call-fits c s = each_call (λ (b : Begun). Each (Fits what p P V) b.done.caused) c s (grind arith)

  pub job-effects-fit : (job : Job) → JobFits (is_reaction what p) V job → Each (Fits what p P V) (job_effects job)
  job-effects-fit job f = grind arith

pub fits-weaker : (what : Awaited) (p : PipeId) (P Q : PromiseId → Type 0) (V U : Result Plain Plain → Type 0) → ((q : PromiseId) → P q → Q q) → ((o : Result Plain Plain) → V o → U o) → (e : Effect) → Fits what p P V e → Fits what p Q U e
fits-weaker what p P Q V U f g (Give (This d) (React step derived)) k = λ m. f d (k m)
fits-weaker what p P Q V U f g (Give (This d) (Resolve q)) k = k
fits-weaker what p P Q V U f g (Give (Fresh o) u) k = k
fits-weaker what p P Q V U f g (Pipe q (ActionSettled o)) k = λ m. g o (k m)
fits-weaker what p P Q V U f g (Pipe q (PartSettled o)) k = λ m. g o (k m)
fits-weaker what p P Q V U f g (CallHost call u) k = k
fits-weaker what p P Q V U f g (StartAlgorithm i step start) k = k
fits-weaker what p P Q V U f g (Transform t operation) k = k
fits-weaker what p P Q V U f g (Tee t operation) k = k
fits-weaker what p P Q V U f g (Port c operation) k = k
fits-weaker what p P Q V U f g e k = k

pub each-weaker : (what : Awaited) (p : PipeId) (P Q : PromiseId → Type 0) (V U : Result Plain Plain → Type 0) → ((q : PromiseId) → P q → Q q) → ((o : Result Plain Plain) → V o → U o) → (es : List Effect) → Each (Fits what p P V) es → Each (Fits what p Q U) es
each-weaker what p P Q V U f g es k = each-map (Fits what p P V) (Fits what p Q U) (fits-weaker what p P Q V U f g) es k

-- promises among others

pub among-left : (q : PromiseId) (ys zs : List PromiseId) → Among q ys → Among q (ys ++ zs)
among-left q (a ∷ ys) zs (inl e) = inl e
among-left q (a ∷ ys) zs (inr k) = inr (among-left q ys zs k)
among-left q [] zs k = absurd k

pub among-right : (q : PromiseId) (ys zs : List PromiseId) → Among q zs → Among q (ys ++ zs)
among-right q [] zs k = k
among-right q (a ∷ ys) zs k = inr (among-right q ys zs k)

among-insert : (q : PromiseId) (ys zs cs : List PromiseId) → Among q (ys ++ cs) → Among q (ys ++ (zs ++ cs))
among-insert q [] zs cs k = among-right q zs cs k
among-insert q (a ∷ ys) zs cs (inl e) = inl e
among-insert q (a ∷ ys) zs cs (inr k) = inr (among-insert q ys zs cs k)

-- each promise that is given such a reaction is told
module _ (what : Awaited) (p : PipeId) (V : Result Plain Plain → Type 0) where
  abbrev Any : PromiseId → Type 0
  Any q = Unit {0}

  abbrev In : List PromiseId → PromiseId → Type 0
  In ds q = Among q ds

  first_in : (hs : List PromiseId) (e : Effect) (es : List Effect) → Fits what p Any V e → Fits what p (In (hs ++ heard_in what p (e ∷ es))) V e
  first_in hs (Give (This d) (React step derived)) es f = λ m. among-right d hs _ (here (is_reaction what p step) m)
    where
      here : (b : Bool) → b ≡ true → Among d ((if b then d ∷ [] else []) ++ heard_in what p es)
      here true m = inl refl
      here false m = absurd (cc)
  first_in hs (Give (This d) (Resolve q)) es f = f
  first_in hs (Give (Fresh o) u) es f = f
  first_in hs (Pipe q (ActionSettled o)) es f = f
  first_in hs (Pipe q (PartSettled o)) es f = f
  first_in hs (CallHost call u) es f = f
  first_in hs (StartAlgorithm i step start) es f = f
  first_in hs (Transform t operation) es f = f
  first_in hs (Tee t operation) es f = f
  first_in hs (Port c operation) es f = f
  first_in hs e es f = tt

  rest_in : (hs : List PromiseId) (e : Effect) (es : List Effect) (q : PromiseId) → Among q (hs ++ heard_in what p es) → Among q (hs ++ heard_in what p (e ∷ es))
  rest_in hs (Give (This d) (React step derived)) es q k = among-insert q hs (if is_reaction what p step then d ∷ [] else []) (heard_in what p es) k
  rest_in hs e es q k = k

  pub all-in : (hs : List PromiseId) (es : List Effect) → Each (Fits what p Any V) es → Each (Fits what p (In (hs ++ heard_in what p es)) V) es
  all-in hs [] f = tt
  all-in hs (e ∷ es) f = (first_in hs e es f.0, each-weaker what p (In (hs ++ heard_in what p es)) (In (hs ++ heard_in what p (e ∷ es))) V V (rest_in hs e es) (λ o v. v) es (all-in hs es f.1))

  -- where no such reaction is made, none is told
  pub none-heard : (es : List Effect) → Each (Fits what p (λ q. ⊥) V) es → heard_in what p es ≡ []
  none-heard [] f = refl
  none-heard (Give (This d) (React step derived) ∷ es) f = ap (λ (ds : List PromiseId). ds ++ heard_in what p es) (no (is_reaction what p step) refl) ∙ none-heard es f.1
    where
      no : (b : Bool) → is_reaction what p step ≡ b → (if b then d ∷ [] else []) ≡ []
      no true e = absurd (f.0 e)
      no false e = refl
  none-heard (e ∷ es) f = none-heard es f.1
