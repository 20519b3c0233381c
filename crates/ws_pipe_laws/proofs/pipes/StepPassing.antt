-- What a pipe holds, reads and passes on in a step (`each_step_passes`).
use Rattle.std.proofs.Common.{◌≡◌, ◌⊎◌, inl, inr, ⊎_elim, ℕ, Bool, true, false, nat_eq, if◌then◌else◌, List, [], ◌∷◌, ◌++◌, Option, Some, None, Result, slice_get, refl, sym, ap, ◌∙◌, append_assoc, arith}
use Rattle.ws_laws.proofs.PortDoes.{PortCauses}
use Rattle.ws_value.specs.declared.ids.PortId.{PortId}
use Rattle.ws_value.specs.declared.{ids.PipeId.{PipeId}, ids.PromiseId.{PromiseId}, ids.StreamId.{StreamId}}
use Rattle.ws_value.specs.declared.value.{Plain.{Plain}, Value.{Value}}
use Rattle.ws_steps.specs.declared.calls.Call.{Call}
use Rattle.ws_steps.specs.declared.effects.Effect.{Effect}
use Rattle.ws_steps.specs.declared.effects.Effect.TheVariants.{Readable as OnReadable, Writable as OnWritable, Pipe as OnPipe, Signal as OnSignal, Transform as OnTransform, Tee as OnTee, Port as OnPort, StartAlgorithm, PullAlgorithm, CancelAlgorithm, WriteAlgorithm, CloseAlgorithm, AbortAlgorithm, ChunkSteps, CloseSteps, ErrorSteps}
use Rattle.ws_steps.specs.declared.pipes.{Phase.{Phase}, Phase.TheVariants.{Flowing, Waiting, Acting, Over}, PipeOperation.{PipeOperation}, PipeOperation.TheVariants.{WriteChunk, GoOn}, SignalOperation.{SignalOperation}, SignalOperation.TheVariants.{Add, Forget, Trigger}}
use Rattle.ws_steps.specs.declared.promises.{Job.{Job}, Job.TheVariants.{Reaction as ReactionJob, Follow, Settle as SettleJob, Micro as MicroJob}, Micro.TheVariants.{PipeLook, PipeWrite, PipeNoParts, TeeHand}, Step.{Step}}
use Rattle.ws_steps.specs.declared.readable.{ReadRequest.{ReadRequest}, ReadRequest.TheVariants.{Promise, Pipe as PipeRequest, Tee as TeeRequest}}
use Rattle.ws_steps.specs.declared.transform.TransformId.{TransformId}
use Rattle.ws_steps.specs.Begun.{Begun}
use Rattle.ws_steps.specs.Calls.{begin}
use Rattle.ws_steps.specs.Jobs.{job_effects, job_begun, begin_job}
use Rattle.ws_pipe_laws.specs.pipes.PipeHistory.{is_live, Through, nothing_through, through_then, held_goes, operation_through, effect_through, step_through, run_through}
use Rattle.ws_steps.specs.Pipes as pipe
use Rattle.ws_steps.specs.Promises.{next_job}
use Rattle.ws_steps.specs.Run.{Entry, Called, Worked, Heard, run, step}
use Rattle.ws_steps.specs.Slots.{Slots, Done, nothing, empty, pipe_at}
use Rattle.ws_steps.specs.Histories.{along}
use Rattle.ws_steps.specs.Turns.{row, moments}
use Rattle.ws_laws.proofs.EachCall.{each_call}
use Rattle.ws_laws.proofs.Lists.{Each, each-append, append_cancel}
use Rattle.ws_laws.proofs.PipeDoes.{PipeCauses}
use Rattle.ws_laws.proofs.Causes.{Causes, ChunkCauses, EndCauses, ErrorCauses, SignalCauses, row-causes}
use Rattle.ws_laws.proofs.Tables.{eq_numbers}
use Rattle.ws_laws.proofs.TransformDoes.{TransformCauses}
use Rattle.ws_laws.proofs.Walker.{performed-goes, nothing-told, step-goes_untold}
use Rattle.ws_pipe_laws.specs.pipes.PipeReads.{held_values, EachStepPasses}
use Rattle.ws_pipe_laws.proofs.pipes.PassingRuns.{through_history, Is, goes, rests, each_is, passing_of}
use Rattle.ws_steps.specs.declared.effects.Effect.TheVariants.{Byte, CloseStepsWith}
use Rattle.ws_laws.proofs.TeeDoes.{TeeCauses}
use Rattle.ws_value.specs.declared.ids.TeeId.{TeeId}

module _ (p : PipeId) where
  -- no write of the pipe
  abbrev IsNoWrite : Effect → Type 0
  IsNoWrite (OnPipe q WriteChunk) = nat_eq p.0 q.0 ≡ false
  IsNoWrite _ = Unit {0}

  pipe-none : (q : PipeId) (source dest : StreamId) (e : Effect) → PipeCauses q source dest e → IsNoWrite e
  pipe-none q source dest (OnPipe r GoOn) c = tt
  pipe-none q source dest (OnPipe r operation) c = absurd c
  pipe-none q source dest _ c = tt

  chunk-none : (v : Value) (request : ReadRequest) → ChunkCauses IsNoWrite v request
  chunk-none v (Promise q) = tt
  chunk-none v (PipeRequest q) = tt
  chunk-none v (TeeRequest t) = tt

  end-none : (request : ReadRequest) → EndCauses IsNoWrite request
  end-none (Promise q) = tt
  end-none (PipeRequest q) = tt
  end-none (TeeRequest t) = tt

  error-none : (request : ReadRequest) → ErrorCauses IsNoWrite request
  error-none (Promise q) = tt
  error-none (PipeRequest q) = tt
  error-none (TeeRequest t) = tt

  signal-none : (operation : SignalOperation) → SignalCauses IsNoWrite operation
  signal-none (Trigger r) = λ q. tt
  signal-none (Add q) = tt
  signal-none (Forget q) = tt

  transform-none : (t : TransformId) (writable readable : StreamId) (e : Effect) → TransformCauses t writable readable e → IsNoWrite e
  transform-none t writable readable (OnPipe q WriteChunk) c = absurd c
  transform-none t writable readable _ c = tt

  tee-none : (t : TeeId) (source first second : StreamId) (e : Effect) → TeeCauses t source first second e → IsNoWrite e
  tee-none t source first second (OnPipe q WriteChunk) c = absurd c
  tee-none t source first second _ c = tt

  port-none : (me : PortId) (stream : StreamId) (e : Effect) → PortCauses me stream e → IsNoWrite e
  port-none me stream (OnPipe q WriteChunk) c = absurd c
  port-none me stream _ c = tt

  -- no effect causes one
  none-causes : (e : Effect) → Causes IsNoWrite e
  none-causes (OnReadable j operation) = record { pull = tt; cancel = λ r q. tt; chunk = λ r v. tt; close = λ r. tt; error = λ r e. tt }
  none-causes (Byte j operation) = record { readable = record { pull = tt; cancel = λ r q. tt; chunk = λ r v. tt; close = λ r. tt; error = λ r e. tt }; close_with = λ r b. tt }
  none-causes (OnWritable j operation) = record { write = tt; close = tt; abort = λ r q. tt; hand_on = λ v. tt; take = λ v t d. tt; post = λ v c d. tt }
  none-causes (OnPipe q operation) = pipe-none q
  none-causes (OnSignal a operation) = signal-none operation
  none-causes (OnTransform t operation) = transform-none t
  none-causes (OnTee t operation) = tee-none t
  none-causes (OnPort c operation) = port-none c
  none-causes (StartAlgorithm j step start) = (λ g u. tt, λ c u. tt)
  none-causes (PullAlgorithm j) = (λ c u. tt, (λ t u. tt, (λ t. tt, (λ u. tt, λ c. tt))))
  none-causes (CancelAlgorithm j r q) = (λ c u. tt, (λ t u. tt, (λ t half u. tt, λ c u. tt)))
  none-causes (WriteAlgorithm j) = (tt, (λ t u. tt, λ c u. tt))
  none-causes (CloseAlgorithm j) = (λ c u. tt, (λ t u. tt, λ c u. tt))
  none-causes (AbortAlgorithm j r q) = (λ c u. tt, (λ t u. tt, λ c u. tt))
  none-causes (ChunkSteps j request v) = chunk-none v request
  none-causes (CloseSteps j request) = end-none request
  none-causes (CloseStepsWith j request b) = end-none request
  none-causes (ErrorSteps j request e) = error-none request
  none-causes _ = tt

  -- in a step that finds the pipe live, only its first effect writes
  abbrev Keeps : Through → Slots → List Effect → Type 0
  Keeps h s es = (h.dropped ≡ []) × (Each IsNoWrite es ⊎ ((is_live (pipe_at p s).phase ≡ true) × (es ≡ OnPipe p WriteChunk ∷ [])))

  live_passes : (phase : Phase) (held : Option Value) → is_live phase ≡ true → (held_goes phase held).dropped ≡ []
  live_passes phase None l = refl
  live_passes Flowing (Some v) l = refl
  live_passes Waiting (Some v) l = refl
  live_passes Acting (Some v) l = cc
  live_passes Over (Some v) l = cc

  by_either : (b : Bool) (f g : Through) → f.dropped ≡ [] → g.dropped ≡ [] → (if b then f else g).dropped ≡ []
  by_either true f g d e = d
  by_either false f g d e = e

  by_operation : (b : Bool) (operation : PipeOperation) (x : pipe.Slots) → (operation_through operation x).dropped ≡ [] → (if b then operation_through operation x else nothing_through).dropped ≡ []
  by_operation b operation x d = by_either b (operation_through operation x) nothing_through d refl

  none-dropped : (e : Effect) (s : Slots) → IsNoWrite e → (effect_through p e s).dropped ≡ []
  none-dropped (OnPipe q WriteChunk) s n = rw n refl
  none-dropped (OnPipe q operation) s n = by_operation (nat_eq p.0 q.0) operation (pipe_at q s) refl
  none-dropped e s n = refl

  self : nat_eq p.0 p.0 ≡ true
  self = grind arith

  first-dropped : (s : Slots) → is_live (pipe_at p s).phase ≡ true → (effect_through p (OnPipe p WriteChunk) s).dropped ≡ []
  first-dropped s l = rw self (live_passes (pipe_at p s).phase (pipe_at p s).held l)

  both-dropped : (h g : Through) → h.dropped ≡ [] → g.dropped ≡ [] → (through_then h g).dropped ≡ []
  both-dropped h g d e = rw (d, e) refl

  row-keeps : (h : Through) (s : Slots) (e : Effect) (es : List Effect) → Keeps h s (e ∷ es) → Keeps (through_then h (effect_through p e s)) (row e s).slots ((row e s).caused ++ es)
  row-keeps h s e es k =
      let cs : List Effect = (row e s).caused in
      let none : Each IsNoWrite cs = row-causes IsNoWrite e s (none-causes e) in
      ⊎_elim
      (λ (n : Each IsNoWrite (e ∷ es)). (both-dropped h (effect_through p e s) k.0 (none-dropped e s n.0), inl (each-append IsNoWrite cs es none n.1)))
      (λ (f : (is_live (pipe_at p s).phase ≡ true) × (e ∷ es ≡ OnPipe p WriteChunk ∷ [])).
      let is : e ∷ es ≡ OnPipe p WriteChunk ∷ [] = f.1 in
      let a : e ≡ OnPipe p WriteChunk = cc in
      let b : es ≡ [] = cc in
      let dropped : (effect_through p e s).dropped ≡ [] = rw a (first-dropped s f.0) in
      let rest : Each IsNoWrite es = rw b tt in
      (both-dropped h (effect_through p e s) k.0 dropped, inl (each-append IsNoWrite cs es none rest)))
      k.1

  -- steps

  call-none : (c : Call) (s : Slots) → Each IsNoWrite (begin c s).done.caused
  call-none c s = each_call (λ (b : Begun). Each IsNoWrite b.done.caused) c s (grind arith)

  write_job : (q : PipeId) (same : Bool) → same ≡ nat_eq p.0 q.0 → Each IsNoWrite (job_effects (MicroJob (PipeWrite q))) ⊎ (job_effects (MicroJob (PipeWrite q)) ≡ OnPipe p WriteChunk ∷ [])
  write_job q true e =
      let is : q ≡ p = ap (λ (n : ℕ). record { 0 = n }) (sym (eq_numbers p.0 q.0 (sym e))) in
      inr (ap (λ (r : PipeId). OnPipe r WriteChunk ∷ []) is)
  write_job q false e = inl (sym e, tt)

  reaction-none : (step : Step) (o : Result Plain Plain) (derived : Option PromiseId) → Each IsNoWrite (job_effects (ReactionJob step o derived))
  reaction-none step o derived = grind (arith, each-append)

  job_writes : (job : Job) → Each IsNoWrite (job_effects job) ⊎ (job_effects job ≡ OnPipe p WriteChunk ∷ [])
  job_writes (ReactionJob step o derived) = inl (reaction-none step o derived)
  job_writes (Follow q r) = inl tt
  job_writes (SettleJob q o) = inl (tt, tt)
  job_writes (MicroJob (PipeLook q)) = inl (tt, tt)
  job_writes (MicroJob (PipeWrite q)) = write_job q (nat_eq p.0 q.0) refl
  job_writes (MicroJob (PipeNoParts q)) = inl (tt, tt)
  job_writes (MicroJob (TeeHand t)) = inl (tt, tt)

  begun-keeps : (d : Done) → Keeps nothing_through d.slots d.caused → (along nothing_through through_then (effect_through p) (moments d)).dropped ≡ []
  begun-keeps d k = (performed-goes nothing_through through_then through_history (effect_through p) Keeps row-keeps nothing_through d k).0

  job-keeps : (s : Slots) (job : Option Job) → is_live (pipe_at p s).phase ≡ true → Keeps nothing_through (job_begun s job).slots (job_begun s job).caused
  job-keeps s None l = (refl, inl tt)
  job-keeps s (Some job) l = (refl, ⊎_elim (λ (n : Each IsNoWrite (job_effects job)). inl n) (λ (e : job_effects job ≡ OnPipe p WriteChunk ∷ []). inr (l, e)) (job_writes job))

  none-told : (s : Slots) → (along nothing_through through_then (effect_through p) (moments (nothing s))).dropped ≡ []
  none-told s = ap (λ (h : Through). h.dropped) (nothing-told nothing_through through_then through_history (effect_through p) s)

  step-dropped : (s : Slots) (x : Entry) → is_live (pipe_at p s).phase ≡ true → (step_through p s x).dropped ≡ []
  unfolding begin_job
  step-dropped s (Called c) l = begun-keeps (begin c s).done (refl, inl (call-none c s))
  step-dropped s Worked l = begun-keeps (begin_job s) (job-keeps s (next_job s.promises) l)
  step-dropped s Heard l = none-told s

equation : (r0 r p0 q d0 d h0 h1 : List Value) → r0 ≡ p0 ++ (d0 ++ h0) → r0 ++ r ≡ (p0 ++ q) ++ ((d0 ++ d) ++ h1) → d0 ≡ [] → d ≡ [] → h0 ++ r ≡ q ++ h1
equation r0 r p0 q d0 d h0 h1 before after e f =
    let b : r0 ≡ p0 ++ h0 = rw e at before in
    let a : r0 ++ r ≡ (p0 ++ q) ++ h1 = rw (e, f) at after in
    append_cancel p0 (h0 ++ r) (q ++ h1) (sym (append_assoc p0 h0 r) ∙ (ap (λ (vs : List Value). vs ++ r) (sym b) ∙ (a ∙ append_assoc p0 q h1)))

pub each_step_passes : EachStepPasses
each_step_passes entries x p live =
    let s : Slots = run entries empty in
    let h0 : Through = run_through p entries empty in
    let h : Through = step_through p s x in
    let before = passing_of h0 (slice_get s.pipes p.0) (each_is entries p).1 in
    let k : Is p (through_then h0 h) (step s x) [] = step-goes_untold nothing_through through_then through_history (effect_through p) (Is p) (goes p) (rests p) h0 s x (each_is entries p) in
    let after = passing_of (through_then h0 h) (slice_get (step s x).pipes p.0) k.1 in
    equation h0.read h.read h0.passed h.passed h0.dropped h.dropped (held_values (pipe_at p s).held) (held_values (pipe_at p (step s x)).held)
    before.all after.all (before.live live) (step-dropped p s x live)
