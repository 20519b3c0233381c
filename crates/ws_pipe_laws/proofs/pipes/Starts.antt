-- When a read of a pipe starts.
use Rattle.std.proofs.Common.{◌≡◌, ◌≢◌, ◌⊎◌, inl, inr, ℕ, ◌+◌, ◌-◌, Bool, true, false, not, ◌&&◌, ◌||◌, nat_eq, if◌then◌else◌, List, [], ◌∷◌, Option, Some, None, Result, Ok, Err, refl, sym, ap, ◌∙◌, arith}
use Rattle.ws_laws.proofs.PortDoes.{PortCauses}
use Rattle.ws_value.specs.declared.ids.PortId.{PortId}
use Rattle.ws_value.specs.declared.{ids.PipeId.{PipeId}, ids.PromiseId.{PromiseId}, ids.StreamId.{StreamId}, value.Plain.{Plain}, value.Plain.TheVariants.{Undefined}, value.Value.{Value}}
use Rattle.ws_steps.specs.declared.effects.{Effect.{Effect}, Effect.TheVariants.{Readable as OnReadable, Writable as OnWritable, Pipe as OnPipe, Signal, Transform as OnTransform, Tee as OnTee, Port as OnPort, StartAlgorithm, PullAlgorithm, CancelAlgorithm, WriteAlgorithm, CloseAlgorithm, AbortAlgorithm, ChunkSteps, CloseSteps, ErrorSteps}}
use Rattle.ws_steps.specs.declared.pipes.{Action.{Action}, Action.TheVariants.{AbortDest, CancelSource, CloseDest, BySignal}, Ends.{Ends}, Phase.{Phase}, Phase.TheVariants.{Flowing, Waiting, Acting, Over}}
use Rattle.ws_steps.specs.declared.pipes.{SignalOperation.{SignalOperation}, SignalOperation.TheVariants.{Add, Forget, Trigger}}
use Rattle.ws_steps.specs.declared.pipes.{PipeOperation.{PipeOperation}, PipeOperation.TheVariants.{Look, LookReady, KeepChunk, ReadEnded, WriteChunk, GoOn, WriteEnded, Abort as AbortPipe, ActionSettled, PartSettled, NoParts}}
use Rattle.ws_steps.specs.declared.readable.{ReadRequest.{ReadRequest}, ReadRequest.TheVariants.{Promise, Pipe as PipeRequest, Tee as TeeRequest}, ReadableOperation.TheVariants.{Read}, ReadableState.{ReadableState}, ReadableState.TheVariants.{Readable, Closed, Errored}}
use Rattle.ws_steps.specs.declared.transform.TransformId.{TransformId}
use Rattle.ws_steps.specs.declared.writable.{WritableState.{WritableState}, WritableState.TheVariants.{Writable, Erroring, Errored as WritableErrored, Closed as WritableClosed}}
use Rattle.ws_steps.specs.Effects.{type_error}
use Rattle.ws_pipe_laws.specs.pipes.PipeHistory.{first_condition, is_look}
use Rattle.ws_pipe_laws.specs.pipes.PipeMoves.{starting}
use Rattle.ws_pipe_laws.specs.pipes.PipeReads.{is_of, reads_started, MayStart, EachReadMayStart, NoOtherStartsARead}
use Rattle.ws_steps.specs.Pipes.{Slots, Acts, finalize, act_by_signal, act_by, act, proceed, is_flowing, shutdown, unless, wait_for_ready, read_or_wait, look_by, look, look_ready, go_on_in, go_on, keep_chunk, read_ended, write_in, write_held, write_chunk, write_ended, action_settled, settle_whole, part_settled, no_parts, abort}
use Rattle.ws_steps.specs.Promises.{Table}
use Rattle.ws_steps.specs.Turns.{row}
use Rattle.ws_steps.specs.Writable.{is_writable, is_closed, is_errored}
use Rattle.ws_laws.proofs.Lists.{Each, each-append}
use Rattle.ws_laws.proofs.PipeDoes.{PipeCauses, IsQuiet}
use Rattle.ws_laws.proofs.Causes.{Causes, ChunkCauses, EndCauses, ErrorCauses, SignalCauses, row-causes}
use Rattle.ws_laws.proofs.Tables.{either, eq_numbers}
use Rattle.ws_laws.proofs.TransformDoes.{TransformCauses}
use Rattle.ws_steps.specs.declared.effects.Effect.TheVariants.{Byte, CloseStepsWith}
use Rattle.ws_laws.proofs.TeeDoes.{TeeCauses}
use Rattle.ws_value.specs.declared.ids.TeeId.{TeeId}

-- a shutdown starts no read
module _ (me : PipeId) where
  abbrev Quiet : Acts → Acts → Type 0
  Quiet a b = Each IsQuiet a.out.effects → Each IsQuiet b.out.effects

  finalize-quiet : (error : Option Plain) (a : Acts) → Quiet a (finalize me error a)
  unfolding finalize
  finalize-quiet error a = grind (arith, each-append)

  signal-quiet : (r : Plain) (a : Acts) → Quiet a (act_by_signal me r a)
  unfolding act_by_signal
  signal-quiet r a = grind (arith, each-append)

  act_by-quiet : (ends : Ends) (a : Acts) (action : Option Action) → Quiet a (act_by me ends a action)
  act_by-quiet ends a action = grind (arith, each-append, finalize-quiet, signal-quiet)

  act-quiet : (ends : Ends) (a : Acts) → Quiet a (act me ends a)
  unfolding act
  act-quiet ends a = grind (arith, act_by-quiet)

  proceed-quiet : (ends : Ends) (a : Acts) → Quiet a (proceed me ends a)
  unfolding proceed
  proceed-quiet ends a = grind (arith, act-quiet)

  shutdown-quiet : (ends : Ends) (action : Option Action) (error : Option Plain) (a : Acts) → Quiet a (shutdown me ends action error a)
  unfolding shutdown
  shutdown-quiet ends action error a = grind (arith, proceed-quiet, act-quiet)

none_started : (p : PipeId) (es : List Effect) → Each IsQuiet es → reads_started p es ≡ 0
none_started p [] q = refl
none_started p (OnReadable i (Read r) ∷ es) q = absurd (q.0)
none_started p (e ∷ es) q = none_started p es q.1

-- it starts none, or one that it may
abbrev Starts : PipeId → Ends → PipeOperation → Slots → Acts → Type 0
Starts me ends operation x b = (reads_started me b.out.effects ≡ 0) ⊎ ((reads_started me b.out.effects ≡ 1) × MayStart ends operation x b.slots)

quiet_starts : (me : PipeId) (ends : Ends) (operation : PipeOperation) (x : Slots) (b : Acts) → Each IsQuiet b.out.effects → Starts me ends operation x b
quiet_starts me ends operation x b q = inl (none_started me b.out.effects q)

flowing_of : (phase : Phase) → is_flowing phase ≡ true → phase ≡ Flowing
flowing_of Flowing e = refl
flowing_of Waiting e = cc
flowing_of Acting e = cc
flowing_of Over e = cc

module _ (me : PipeId) (ends : Ends) (operation : PipeOperation) (x y : Slots) (t : Table) (l : is_look operation ≡ true) (v : y.prevent ≡ x.prevent) (p : y.phase ≡ x.phase) (r : y.reading ≡ x.reading) where
  shuts : (action : Option Action) (error : Option Plain) → Starts me ends operation x (shutdown me ends action error (starting y t))
  shuts action error = quiet_starts me ends operation x (shutdown me ends action error (starting y t)) (shutdown-quiet me ends action error (starting y t) tt)

  waits : (ready : Option PromiseId) → Starts me ends operation x (wait_for_ready me (starting y t) ready)
  waits None = inl refl
  waits (Some q) = inl refl

  one_read : is_of me (PipeRequest me) + 0 ≡ 1
  one_read = let s : nat_eq me.0 me.0 ≡ true = grind arith in rw s refl

  reads : x.phase ≡ Flowing → first_condition y.prevent ends ≡ None → y.reading ≡ false → Starts me ends operation x (read_or_wait me ends (starting y t))
  reads f n i =
      either (Starts me ends operation x) ends.dest_wants _ _
      (λ c. inr (one_read, record { look = l; flowing = f; no_condition = rw (← v) n; idle = sym r ∙ i; wants = c; stays = p ∙ f; reads = refl }))
      (λ c. either (Starts me ends operation x) (not y.waits && is_writable ends.dest_state) _ _ (λ d. waits ends.dest_ready) (λ d. inl refl))

  readable_starts : x.phase ≡ Flowing → (d : WritableState) → d ≡ ends.dest_state → Readable ≡ ends.source_state → is_errored d ≡ false
      → Starts me ends operation x (if ends.dest_closing || is_closed d then shutdown me ends (unless y.prevent.cancel (CancelSource type_error)) (Some type_error) (starting y t) else if y.reading then starting y t else read_or_wait me ends (starting y t))
  readable_starts f d ed s n =
      either (Starts me ends operation x) (ends.dest_closing || is_closed d) (shutdown me ends (unless y.prevent.cancel (CancelSource type_error)) (Some type_error) (starting y t)) _
      (λ c. shuts (unless y.prevent.cancel (CancelSource type_error)) (Some type_error))
      (λ c. either (Starts me ends operation x) y.reading (starting y t) (read_or_wait me ends (starting y t)) (λ h. inl refl) (λ h. reads f (rw (← s, ← ed, n, c) refl) h))

  looked : x.phase ≡ Flowing → (s : ReadableState) (d : WritableState) → s ≡ ends.source_state → d ≡ ends.dest_state → Starts me ends operation x (look_by me ends (starting y t) s d)
  looked f Errored d es ed = shuts (unless y.prevent.abort (AbortDest ends.source_error)) (Some ends.source_error)
  looked f Readable WritableErrored es ed = shuts (unless y.prevent.cancel (CancelSource ends.dest_error)) (Some ends.dest_error)
  looked f Closed WritableErrored es ed = shuts (unless y.prevent.cancel (CancelSource ends.dest_error)) (Some ends.dest_error)
  looked f Closed Writable es ed = shuts (unless y.prevent.close CloseDest) None
  looked f Closed Erroring es ed = shuts (unless y.prevent.close CloseDest) None
  looked f Closed WritableClosed es ed = shuts (unless y.prevent.close CloseDest) None
  looked f Readable Writable es ed = readable_starts f Writable ed es refl
  looked f Readable Erroring es ed = readable_starts f Erroring ed es refl
  looked f Readable WritableClosed es ed = readable_starts f WritableClosed ed es refl

  looks : Starts me ends operation x (look me ends (starting y t))
  unfolding look
  looks =
      either (Starts me ends operation x) (is_flowing y.phase) (look_by me ends (starting y t) ends.source_state ends.dest_state) (starting y t)
      (λ c. looked (sym p ∙ flowing_of y.phase c) ends.source_state ends.dest_state refl refl) (λ c. inl refl)

  goes_on : (phase : Phase) → Starts me ends operation x (go_on_in me ends (starting y t) phase)
  goes_on Flowing = looks
  goes_on Waiting = quiet_starts me ends operation x (proceed me ends (starting y t)) (proceed-quiet me ends (starting y t) tt)
  goes_on Acting = inl refl
  goes_on Over = inl refl

writes : (me : PipeId) (ends : Ends) (x : Slots) (t : Table) (o : Option Value) → Starts me ends WriteChunk x (write_held me (starting x t) o)
writes me ends x t None = inl refl
writes me ends x t (Some v) = by x.phase
  where
    by : (phase : Phase) → Starts me ends WriteChunk x (write_in me v (starting (record x { held = None; reading = false }) t) phase)
    by Flowing = inl refl
    by Waiting = inl refl
    by Acting = inl refl
    by Over = inl refl

whole_starts : (me : PipeId) (ends : Ends) (operation : PipeOperation) (x y : Slots) (t : Table) (r : Result Plain Plain) (w : Option PromiseId) → Starts me ends operation x (settle_whole r (starting y t) w)
whole_starts me ends operation x y t r None = inl refl
whole_starts me ends operation x y t r (Some w) = inl refl

part_starts : (me : PipeId) (ends : Ends) (operation : PipeOperation) (x : Slots) (t : Table) (o : Result Plain Plain) → Starts me ends operation x (part_settled o (starting x t))
unfolding part_settled
part_starts me ends operation x t (Ok v) =
    let y : Slots = record x { parts = x.parts - 1 } in
    either (Starts me ends operation x) (nat_eq y.parts 0) (settle_whole (Ok Undefined) (starting y t) y.whole) (starting y t) (λ c. whole_starts me ends operation x y t (Ok Undefined) y.whole) (λ c. inl refl)
part_starts me ends operation x t (Err e) = whole_starts me ends operation x x t (Err e) x.whole

action_starts : (me : PipeId) (ends : Ends) (x : Slots) (t : Table) (o : Result Plain Plain) → Starts me ends (ActionSettled o) x (action_settled me o (starting x t))
unfolding action_settled
action_starts me ends x t (Ok v) = quiet_starts me ends (ActionSettled (Ok v)) x (finalize me x.error (starting x t)) (finalize-quiet me x.error (starting x t) tt)
action_starts me ends x t (Err e) = quiet_starts me ends (ActionSettled (Err e)) x (finalize me (Some e) (starting x t)) (finalize-quiet me (Some e) (starting x t) tt)

pub each_read_may_start : EachReadMayStart
unfolding look_ready go_on keep_chunk read_ended write_chunk write_ended no_parts abort
each_read_may_start me ends Look x t = looks me ends Look x x t refl refl refl refl
each_read_may_start me ends LookReady x t = looks me ends LookReady x (record x { waits = false }) t refl refl refl refl
each_read_may_start me ends (KeepChunk v) x t = inl refl
each_read_may_start me ends ReadEnded x t = inl refl
each_read_may_start me ends WriteChunk x t = writes me ends x t x.held
each_read_may_start me ends GoOn x t = goes_on me ends GoOn x x t refl refl refl refl x.phase
each_read_may_start me ends WriteEnded x t = goes_on me ends WriteEnded x (record x { unsettled = x.unsettled - 1 }) t refl refl refl refl x.phase
each_read_may_start me ends (AbortPipe r) x t =
    quiet_starts me ends (AbortPipe r) x (shutdown me ends (Some (BySignal r)) (Some r) (starting x t)) (shutdown-quiet me ends (Some (BySignal r)) (Some r) (starting x t) tt)
each_read_may_start me ends (ActionSettled o) x t = action_starts me ends x t o
each_read_may_start me ends (PartSettled o) x t = part_starts me ends (PartSettled o) x t o
each_read_may_start me ends NoParts x t = whole_starts me ends NoParts x x t (Ok Undefined) x.whole

-- other effects

module _ (p : PipeId) where
  -- no read of the pipe
  abbrev IsNone : Effect → Type 0
  IsNone (OnReadable i (Read request)) = is_of p request ≡ 0
  IsNone _ = Unit {0}

  none_of : (es : List Effect) → Each IsNone es → reads_started p es ≡ 0
  none_of [] n = refl
  none_of (OnReadable i (Read request) ∷ es) n = let k = n.0 in let rest = none_of es n.1 in omega (arith, k, rest)
  none_of (e ∷ es) n = none_of es n.1

  chunk-none : (v : Value) (request : ReadRequest) → ChunkCauses IsNone v request
  chunk-none v (Promise q) = tt
  chunk-none v (PipeRequest q) = tt
  chunk-none v (TeeRequest t) = tt

  end-none : (request : ReadRequest) → EndCauses IsNone request
  end-none (Promise q) = tt
  end-none (PipeRequest q) = tt
  end-none (TeeRequest t) = tt

  error-none : (request : ReadRequest) → ErrorCauses IsNone request
  error-none (Promise q) = tt
  error-none (PipeRequest q) = tt
  error-none (TeeRequest t) = tt

  signal-none : (operation : SignalOperation) → SignalCauses IsNone operation
  signal-none (Trigger r) = λ q. tt
  signal-none (Add q) = tt
  signal-none (Forget q) = tt

  transform-none : (t : TransformId) (writable readable : StreamId) (e : Effect) → TransformCauses t writable readable e → IsNone e
  transform-none t writable readable (OnReadable i (Read request)) c = absurd c
  transform-none t writable readable _ c = tt

  tee-none : (t : TeeId) (source first second : StreamId) (e : Effect) → TeeCauses t source first second e → IsNone e
  tee-none t source first second (OnReadable i (Read request)) c = ap (is_of p) c.1
  tee-none t source first second _ c = tt

  port-none : (me : PortId) (stream : StreamId) (e : Effect) → PortCauses me stream e → IsNone e
  port-none me stream (OnReadable i (Read request)) c = absurd c
  port-none me stream _ c = tt

  -- a pipe reads for itself
  own_read : (q : PipeId) (request : ReadRequest) → nat_eq p.0 q.0 ≡ false → request ≡ PipeRequest q → is_of p request ≡ 0
  own_read q request n e = rw (e, n) refl

  pipe-none : (q : PipeId) → nat_eq p.0 q.0 ≡ false → (source dest : StreamId) (e : Effect) → PipeCauses q source dest e → IsNone e
  pipe-none q n source dest (OnReadable i (Read request)) c = own_read q request n c.1
  pipe-none q n source dest _ c = tt

  other_pipe : (q : PipeId) (operation : PipeOperation) → ((o : PipeOperation) → OnPipe q operation ≢ OnPipe p o) → (same : Bool) → same ≡ nat_eq p.0 q.0 → nat_eq p.0 q.0 ≡ false
  other_pipe q operation other false e = sym e
  other_pipe q operation other true e =
      let is : p ≡ q = ap (λ (n : ℕ). record { 0 = n }) (eq_numbers p.0 q.0 (sym e)) in
      absurd (other operation (ap (λ (z : PipeId). OnPipe z operation) (sym is)))

  none-causes : (e : Effect) → ((o : PipeOperation) → e ≢ OnPipe p o) → Causes IsNone e
  none-causes (OnReadable j operation) n = record { pull = tt; cancel = λ r q. tt; chunk = λ r v. tt; close = λ r. tt; error = λ r e. tt }
  none-causes (Byte j operation) n = record { readable = record { pull = tt; cancel = λ r q. tt; chunk = λ r v. tt; close = λ r. tt; error = λ r e. tt }; close_with = λ r b. tt }
  none-causes (OnWritable j operation) n = record { write = tt; close = tt; abort = λ r q. tt; hand_on = λ v. tt; take = λ v t d. tt; post = λ v c d. tt }
  none-causes (OnPipe q operation) n = pipe-none q (other_pipe q operation n (nat_eq p.0 q.0) refl)
  none-causes (Signal a operation) n = signal-none operation
  none-causes (OnTransform t operation) n = transform-none t
  none-causes (OnTee t operation) n = tee-none t
  none-causes (OnPort c operation) n = port-none c
  none-causes (StartAlgorithm j step start) n = (λ g u. tt, λ c u. tt)
  none-causes (PullAlgorithm j) n = (λ c u. tt, (λ t u. tt, (λ t. tt, (λ u. tt, λ c. tt))))
  none-causes (CancelAlgorithm j r q) n = (λ c u. tt, (λ t u. tt, (λ t half u. tt, λ c u. tt)))
  none-causes (WriteAlgorithm j) n = (tt, (λ t u. tt, λ c u. tt))
  none-causes (CloseAlgorithm j) n = (λ c u. tt, (λ t u. tt, λ c u. tt))
  none-causes (AbortAlgorithm j r q) n = (λ c u. tt, (λ t u. tt, λ c u. tt))
  none-causes (ChunkSteps j request v) n = chunk-none v request
  none-causes (CloseSteps j request) n = end-none request
  none-causes (CloseStepsWith j request b) n = end-none request
  none-causes (ErrorSteps j request e) n = error-none request
  none-causes _ n = tt

pub no_other_starts_a_read : NoOtherStartsARead
no_other_starts_a_read p e s other = none_of p (row e s).caused (row-causes (IsNone p) e s (none-causes p e other))
