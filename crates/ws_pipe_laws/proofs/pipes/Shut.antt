-- A step that ends with a pipe not flowing (`no_read_starts_once_shut`).
use Rattle.ws_steps.specs.declared.port.Side.{Side}
use Rattle.ws_steps.specs.declared.port.Side.TheVariants.{Readable as ReadableSide, Writable as WritableSide}
use Rattle.std.proofs.Common.{◌≡◌, ◌≢◌, ◌⊎◌, inl, inr, ⊎_elim, ℕ, ◌+◌, ◌-◌, zero, suc, length, Bool, true, false, nat_eq, List, [], ◌∷◌, ◌++◌, Option, Some, None, Result, Ok, Err, slice_get, slice_set, refl, sym, ap, subst, ◌∙◌, add_assoc, zero-add, add-zero, arith}
use Rattle.ws_laws.proofs.PortDoes.{PortCauses}
use Rattle.ws_value.specs.declared.ids.PortId.{PortId}
use Rattle.ws_value.specs.declared.{ids.PipeId.{PipeId}, ids.PromiseId.{PromiseId}, ids.SignalId.{SignalId}, ids.StreamId.{StreamId}, value.Plain.{Plain}, value.Value.{Value}}
use Rattle.ws_steps.specs.declared.calls.{Call.{Call}, Reply.{Reply}, Reply.TheVariants.{Promise as Named}, StartBy.{StartBy}, StartBy.TheVariants.{Now, Later}}
use Rattle.ws_steps.specs.declared.effects.{Effect.{Effect}, Effect.TheVariants.{Readable as OnReadable, Writable as OnWritable, Pipe, Signal, Transform as OnTransform, Tee as OnTee, Port as OnPort, StartAlgorithm, PullAlgorithm, CancelAlgorithm, WriteAlgorithm, CloseAlgorithm, AbortAlgorithm, ChunkSteps, CloseSteps, ErrorSteps}}
use Rattle.ws_steps.specs.declared.pipes.{Ends.{Ends}, Phase.{Phase}, Phase.TheVariants.{Flowing, Waiting, Acting, Over}, PipeOperation.{PipeOperation}, SignalOperation.{SignalOperation}, SignalOperation.TheVariants.{Add, Forget, Trigger}}
use Rattle.ws_steps.specs.declared.pipes.PipeOperation.TheVariants.{Look, LookReady, KeepChunk, ReadEnded, WriteChunk, GoOn, WriteEnded, Abort as AbortPipe, ActionSettled, PartSettled, NoParts}
use Rattle.ws_steps.specs.declared.promises.{Job.{Job}, Job.TheVariants.{Reaction as ReactionJob, Follow, Settle as SettleJob, Micro as MicroJob}, Micro.TheVariants.{PipeLook, PipeWrite, PipeNoParts, TeeHand}}
use Rattle.ws_steps.specs.declared.promises.{Step.{Step}, Step.TheVariants.{ReadableStart, ReadablePull, ReturnUndefined, WritableStart, WritableWrite, WritableClose, WritableAbort, PipeEnds, PipeReady, PipeWrote, PipeActed, PipePart, TransformChanged, PortUnblocked, Transformed, TransformFlushed, TransformAborted, TransformCancelled, TeeEnds}}
use Rattle.ws_steps.specs.declared.readable.ReadableOperation.TheVariants.{ReleaseReader, StartSettled, PullSettled}
use Rattle.ws_steps.specs.declared.writable.WritableOperation.TheVariants.{ReleaseWriter, StartSettled as WritableStartSettled, WriteSettled, CloseSettled, AbortSettled}
use Rattle.ws_steps.specs.declared.readable.{ReadRequest.{ReadRequest}, ReadRequest.TheVariants.{Promise, Pipe as PipeRequest, Tee as TeeRequest}}
use Rattle.ws_steps.specs.declared.transform.{TransformId.{TransformId}}
use Rattle.ws_steps.specs.MakingCalls as making_calls
use Rattle.ws_steps.specs.LockCalls as lock_calls
use Rattle.ws_steps.specs.PipeCalls as pipe_calls
use Rattle.ws_steps.specs.Begun.{Begun}
use Rattle.ws_steps.specs.Calls.{begin, named}
use Rattle.ws_steps.specs.Jobs.{job_effects, job_begun, begin_job, steps, resolved, returned}
use Rattle.ws_steps.specs.Histories.{along}
use Rattle.ws_steps.specs.Operations.{pipe_operation}
use Rattle.ws_pipe_laws.specs.pipes.PipeHistory.{is_look}
use Rattle.ws_pipe_laws.specs.pipes.PipeMoves.{starting}
use Rattle.ws_pipe_laws.specs.pipes.PipeReads.{reads_started, MayStart, effect_started, step_started, NoReadStartsOnceShut}
use Rattle.ws_steps.specs.Pipes as pipe
use Rattle.ws_steps.specs.Pipes.{Acts, finalize, act_by_signal, act_by, act, proceed, shutdown, look_by, look, look_ready, go_on_in, go_on, keep_chunk, read_ended, write_held, write_in, write_chunk, write_ended, action_settled, part_settled, no_parts, abort}
use Rattle.ws_steps.specs.Promises.{Table, next_id, fresh, next_job, is_pending_at}
use Rattle.ws_steps.specs.Readable as readable
use Rattle.ws_steps.specs.Run.{Entry, Called, Worked, Heard, step}
use Rattle.ws_steps.specs.Slots.{Slots, Done, ends_at, pipe_at, as_pipe, on_pipe_at}
use Rattle.ws_steps.specs.Turns.{row, moments, performed}
use Rattle.ws_steps.proofs.PromiseLaws.{slice_get-set_other}
use Rattle.ws_laws.proofs.EachCall.{each_call}
use Rattle.ws_laws.proofs.Lists.{Each, each-append, each-map}
use Rattle.ws_laws.proofs.PipeDoes.{PipeCauses, pipe-causes}
use Rattle.ws_laws.proofs.Apart.{IsNoPipe, row-pipes}
use Rattle.ws_laws.proofs.Causes.{Causes, ChunkCauses, EndCauses, ErrorCauses, SignalCauses, row-causes}
use Rattle.ws_laws.proofs.Tables.{either, eq_numbers, unequal_numbers}
use Rattle.ws_laws.proofs.TransformDoes.{TransformCauses}
use Rattle.ws_laws.proofs.Walker.{IsHistory, performed-goes, nothing-told}
use Rattle.ws_pipe_laws.proofs.pipes.Starts.{each_read_may_start, no_other_starts_a_read}
use Rattle.ws_pipe_laws.proofs.pipes.Unpiped.{IsUnpiped, operation-unpiped}
use Rattle.ws_steps.specs.Slots.{source_at}
use Rattle.ws_steps.specs.declared.effects.Effect.TheVariants.{Byte, CloseStepsWith}
use Rattle.ws_laws.proofs.TeeDoes.{TeeCauses}
use Rattle.ws_value.specs.declared.ids.TeeId.{TeeId}

-- an operation that looks, or goes on to one that does; and one that may end the flowing
abbrev looks : PipeOperation → Bool
looks WriteChunk = true
looks operation = is_look operation

abbrev ends_flowing : PipeOperation → Bool
ends_flowing (AbortPipe r) = true
ends_flowing (ActionSettled o) = true
ends_flowing _ = false

module _ (p : PipeId) where
  -- no look of pipe p, and nothing that may end its flowing

  abbrev IsNoLook : Effect → Type 0
  IsNoLook (Pipe q operation) = nat_eq p.0 q.0 ≡ true → looks operation ≡ false
  IsNoLook _ = Unit {0}

  abbrev IsNoEnd : Effect → Type 0
  IsNoEnd (Pipe q operation) = nat_eq p.0 q.0 ≡ true → ends_flowing operation ≡ false
  IsNoEnd (Signal a (Trigger r)) = ⊥
  IsNoEnd _ = Unit {0}

  unpiped-no_look : (e : Effect) → IsUnpiped e → IsNoLook e
  unpiped-no_look (Pipe q operation) u = absurd u
  unpiped-no_look _ u = tt

  -- at most one looks
  abbrev OneLook : List Effect → Type 0
  OneLook [] = Unit {0}
  OneLook (e ∷ es) = (IsNoLook e × OneLook es) ⊎ Each IsNoLook es

  none-one : (es : List Effect) → Each IsNoLook es → OneLook es
  none-one [] n = tt
  none-one (e ∷ es) n = inr n.1

  one-append : (xs es : List Effect) → Each IsNoLook xs → OneLook es → OneLook (xs ++ es)
  one-append [] es n o = o
  one-append (x ∷ xs) es n o = inl (n.0, one-append xs es n.1 o)

  one-behind : (xs es : List Effect) → OneLook xs → Each IsNoLook es → OneLook (xs ++ es)
  one-behind [] es o n = none-one es n
  one-behind (x ∷ xs) es (inl o) n = inl (o.0, one-behind xs es o.1 n)
  one-behind (x ∷ xs) es (inr o) n = inr (each-append IsNoLook xs es o n)

  -- what effects cause

  chunk-end : (v : Value) (request : ReadRequest) → ChunkCauses IsNoEnd v request
  chunk-end v (Promise q) = tt
  chunk-end v (PipeRequest q) = λ e. refl
  chunk-end v (TeeRequest t) = tt

  end-end : (request : ReadRequest) → EndCauses IsNoEnd request
  end-end (Promise q) = tt
  end-end (PipeRequest q) = λ e. refl
  end-end (TeeRequest t) = tt

  error-end : (request : ReadRequest) → ErrorCauses IsNoEnd request
  error-end (Promise q) = tt
  error-end (PipeRequest q) = λ e. refl
  error-end (TeeRequest t) = tt

  pipe-end : (q : PipeId) (source dest : StreamId) (e : Effect) → PipeCauses q source dest e → IsNoEnd e
  pipe-end q source dest (Pipe r GoOn) c = λ e. refl
  pipe-end q source dest (Pipe r operation) c = absurd c
  pipe-end q source dest (Signal a (Trigger r)) c = absurd c
  pipe-end q source dest _ c = tt

  transform-end : (t : TransformId) (writable readable : StreamId) (e : Effect) → TransformCauses t writable readable e → IsNoEnd e
  transform-end t writable readable (Pipe q operation) c = absurd c
  transform-end t writable readable (Signal a (Trigger r)) c = absurd c
  transform-end t writable readable _ c = tt

  tee-end : (t : TeeId) (source first second : StreamId) (e : Effect) → TeeCauses t source first second e → IsNoEnd e
  tee-end t source first second (Pipe q operation) c = absurd c
  tee-end t source first second (Signal a (Trigger r)) c = absurd c
  tee-end t source first second _ c = tt

  port-end : (me : PortId) (stream : StreamId) (e : Effect) → PortCauses me stream e → IsNoEnd e
  port-end me stream (Pipe q operation) c = absurd c
  port-end me stream (Signal a (Trigger r)) c = absurd c
  port-end me stream _ c = tt

  causes-end : (e : Effect) → IsNoEnd e → Causes IsNoEnd e
  causes-end (OnReadable j operation) n = record { pull = tt; cancel = λ r q. tt; chunk = λ r v. tt; close = λ r. tt; error = λ r e. tt }
  causes-end (Byte j operation) n = record { readable = record { pull = tt; cancel = λ r q. tt; chunk = λ r v. tt; close = λ r. tt; error = λ r e. tt }; close_with = λ r b. tt }
  causes-end (OnWritable j operation) n = record { write = tt; close = tt; abort = λ r q. tt; hand_on = λ v. tt; take = λ v t d. tt; post = λ v c d. tt }
  causes-end (Pipe q operation) n = pipe-end q
  causes-end (Signal a (Trigger r)) n = absurd n
  causes-end (Signal a (Add q)) n = tt
  causes-end (Signal a (Forget q)) n = tt
  causes-end (OnTransform t operation) n = transform-end t
  causes-end (OnTee t operation) n = tee-end t
  causes-end (OnPort c operation) n = port-end c
  causes-end (StartAlgorithm j step start) n = (λ g u. tt, λ c u. tt)
  causes-end (PullAlgorithm j) n = (λ c u. tt, (λ t u. tt, (λ t. tt, (λ u. tt, λ c. tt))))
  causes-end (CancelAlgorithm j r q) n = (λ c u. tt, (λ t u. tt, (λ t half u. tt, λ c u. tt)))
  causes-end (WriteAlgorithm j) n = (tt, (λ t u. tt, λ c u. tt))
  causes-end (CloseAlgorithm j) n = (λ c u. tt, (λ t u. tt, λ c u. tt))
  causes-end (AbortAlgorithm j r q) n = (λ c u. tt, (λ t u. tt, λ c u. tt))
  causes-end (ChunkSteps j request v) n = chunk-end v request
  causes-end (CloseSteps j request) n = end-end request
  causes-end (CloseStepsWith j request b) n = end-end request
  causes-end (ErrorSteps j request e) n = error-end request
  causes-end _ n = tt

  row-end : (e : Effect) (s : Slots) → IsNoEnd e → Each IsNoEnd (row e s).caused
  row-end e s n = row-causes IsNoEnd e s (causes-end e n)

  chunk-look : (v : Value) (request : ReadRequest) → ChunkCauses IsNoLook v request
  chunk-look v (Promise q) = tt
  chunk-look v (PipeRequest q) = λ e. refl
  chunk-look v (TeeRequest t) = tt

  end-look : (request : ReadRequest) → EndCauses IsNoLook request
  end-look (Promise q) = tt
  end-look (PipeRequest q) = λ e. refl
  end-look (TeeRequest t) = tt

  error-look : (request : ReadRequest) → ErrorCauses IsNoLook request
  error-look (Promise q) = tt
  error-look (PipeRequest q) = λ e. refl
  error-look (TeeRequest t) = tt

  signal-look : (operation : SignalOperation) → SignalCauses IsNoLook operation
  signal-look (Trigger r) = λ q e. refl
  signal-look (Add q) = tt
  signal-look (Forget q) = tt

  other-look : (q : PipeId) → nat_eq p.0 q.0 ≡ false → (source dest : StreamId) (e : Effect) → PipeCauses q source dest e → IsNoLook e
  other-look q n source dest (Pipe r GoOn) c = λ e. let same : nat_eq p.0 r.0 ≡ false = rw c n in cc
  other-look q n source dest (Pipe r operation) c = absurd c
  other-look q n source dest _ c = tt

  transform-look : (t : TransformId) (writable readable : StreamId) (e : Effect) → TransformCauses t writable readable e → IsNoLook e
  transform-look t writable readable (Pipe q operation) c = absurd c
  transform-look t writable readable _ c = tt

  tee-look : (t : TeeId) (source first second : StreamId) (e : Effect) → TeeCauses t source first second e → IsNoLook e
  tee-look t source first second (Pipe q operation) c = absurd c
  tee-look t source first second _ c = tt

  port-look : (me : PortId) (stream : StreamId) (e : Effect) → PortCauses me stream e → IsNoLook e
  port-look me stream (Pipe q operation) c = absurd c
  port-look me stream _ c = tt

  causes-look : (e : Effect) → IsNoPipe e → Causes IsNoLook e
  causes-look (OnReadable j operation) n = record { pull = tt; cancel = λ r q. tt; chunk = λ r v. tt; close = λ r. tt; error = λ r e. tt }
  causes-look (Byte j operation) n = record { readable = record { pull = tt; cancel = λ r q. tt; chunk = λ r v. tt; close = λ r. tt; error = λ r e. tt }; close_with = λ r b. tt }
  causes-look (OnWritable j operation) n = record { write = tt; close = tt; abort = λ r q. tt; hand_on = λ v. tt; take = λ v t d. tt; post = λ v c d. tt }
  causes-look (Pipe q operation) n = absurd n
  causes-look (Signal a operation) n = signal-look operation
  causes-look (OnTransform t operation) n = transform-look t
  causes-look (OnTee t operation) n = tee-look t
  causes-look (OnPort c operation) n = port-look c
  causes-look (StartAlgorithm j step start) n = (λ g u. tt, λ c u. tt)
  causes-look (PullAlgorithm j) n = (λ c u. tt, (λ t u. tt, (λ t. tt, (λ u. tt, λ c. tt))))
  causes-look (CancelAlgorithm j r q) n = (λ c u. tt, (λ t u. tt, (λ t half u. tt, λ c u. tt)))
  causes-look (WriteAlgorithm j) n = (tt, (λ t u. tt, λ c u. tt))
  causes-look (CloseAlgorithm j) n = (λ c u. tt, (λ t u. tt, λ c u. tt))
  causes-look (AbortAlgorithm j r q) n = (λ c u. tt, (λ t u. tt, λ c u. tt))
  causes-look (ChunkSteps j request v) n = chunk-look v request
  causes-look (CloseSteps j request) n = end-look request
  causes-look (CloseStepsWith j request b) n = end-look request
  causes-look (ErrorSteps j request e) n = error-look request
  causes-look _ n = tt

  not_write : (operation : PipeOperation) → looks operation ≡ false → operation ≡ WriteChunk → ⊥
  not_write operation n w = let m : looks WriteChunk ≡ false = subst (λ (z : PipeOperation). looks z ≡ false) w n in cc

  pipe_row-look : (q : PipeId) (operation : PipeOperation) (s : Slots) (o : Option pipe.Slots) (same : Bool) → same ≡ nat_eq p.0 q.0 → IsNoLook (Pipe q operation) → Each IsNoLook (on_pipe_at (λ ends. pipe_operation q ends operation) q s o).caused
  pipe_row-look q operation s None same e l = tt
  pipe_row-look q operation s (Some x) true e l =
      let a : Acts = starting x s.promises in
      each-map IsUnpiped IsNoLook unpiped-no_look (pipe_operation q (ends_at x s) operation a).out.effects (operation-unpiped q (ends_at x s) operation a (not_write operation (l (sym e))) tt)
  pipe_row-look q operation s (Some x) false e l =
      let a : Acts = starting x s.promises in
      each-map (PipeCauses q x.source x.dest) IsNoLook (other-look q (sym e) x.source x.dest) (pipe_operation q (ends_at x s) operation a).out.effects (pipe-causes q (ends_at x s) operation a tt).1.1

  row-look : (e : Effect) (s : Slots) → IsNoLook e → Each IsNoLook (row e s).caused
  unfolding row
  row-look (Pipe q operation) s l = pipe_row-look q operation s (slice_get s.pipes q.0) (nat_eq p.0 q.0) refl l
  row-look e s l = row-causes IsNoLook e s (causes-look e tt)

  -- only a look starts a read

  looking : (operation : PipeOperation) → is_look operation ≡ true → looks operation ≡ true
  looking operation e = grind arith

  pipe_started : (operation : PipeOperation) (s : Slots) (o : Option pipe.Slots) → looks operation ≡ false → reads_started p (on_pipe_at (λ ends. pipe_operation p ends operation) p s o).caused ≡ 0
  pipe_started operation s None n = refl
  pipe_started operation s (Some x) n =
      let b : Acts = pipe_operation p (ends_at x s) operation (starting x s.promises) in
      ⊎_elim (λ (none : reads_started p b.out.effects ≡ 0). none)
      (λ (one : (reads_started p b.out.effects ≡ 1) × MayStart (ends_at x s) operation x b.slots). let l = looking operation one.1.look in let m : true ≡ false = sym l ∙ n in cc)
      (each_read_may_start p (ends_at x s) operation x s.promises)

  other_pipe : (q : PipeId) (operation o : PipeOperation) → nat_eq p.0 q.0 ≡ false → ◌≡◌ {A = Effect} (Pipe q operation) (Pipe p o) → ⊥
  other_pipe q operation o n e =
      let same : q ≡ p = cc in
      let one : nat_eq p.0 p.0 ≡ true = grind arith in
      let none : nat_eq p.0 p.0 ≡ false = subst (λ (z : PipeId). nat_eq p.0 z.0 ≡ false) same n in
      let m : true ≡ false = sym one ∙ none in cc

  by_pipe : (q : PipeId) (operation : PipeOperation) (s : Slots) (same : Bool) → same ≡ nat_eq p.0 q.0 → IsNoLook (Pipe q operation) → effect_started p (Pipe q operation) s ≡ 0
  unfolding row
  by_pipe q operation s false e l = no_other_starts_a_read p (Pipe q operation) s (λ o. other_pipe q operation o (sym e))
  by_pipe q operation s true e l =
      let is : p ≡ q = ap (λ (n : ℕ). record { 0 = n }) (eq_numbers p.0 q.0 (sym e)) in
      subst (λ (z : PipeId). effect_started p (Pipe z operation) s ≡ 0) is (pipe_started operation s (slice_get s.pipes p.0) (l (sym e)))

  started-none : (e : Effect) (s : Slots) → IsNoLook e → effect_started p e s ≡ 0
  started-none (Pipe q operation) s l = by_pipe q operation s (nat_eq p.0 q.0) refl l
  started-none e s l = no_other_starts_a_read p e s (λ o f. cc)

  -- the phase of a pipe that flows stays, but for a look and an end

  whole_phase : (o : Result Plain Plain) (a : Acts) (w : Option PromiseId) → (pipe.settle_whole o a w).slots.phase ≡ a.slots.phase
  whole_phase o a None = refl
  whole_phase o a (Some w) = refl

  part_phase : (o : Result Plain Plain) (a : Acts) → (part_settled o a).slots.phase ≡ a.slots.phase
  unfolding part_settled
  part_phase (Ok v) a =
      let b : Acts = pipe.with_slots (record a.slots { parts = a.slots.parts - 1 }) a in
      either (λ (z : Acts). z.slots.phase ≡ a.slots.phase) (nat_eq b.slots.parts 0) _ b (λ e. whole_phase _ b b.slots.whole) (λ e. refl)
  part_phase (Err e) a = whole_phase (Err e) a a.slots.whole

  still_phase : (ends : Ends) (operation : PipeOperation) (a : Acts) → looks operation ≡ false → ends_flowing operation ≡ false → (pipe_operation p ends operation a).slots.phase ≡ a.slots.phase
  unfolding keep_chunk read_ended no_parts
  still_phase ends (KeepChunk v) a l n = refl
  still_phase ends ReadEnded a l n = refl
  still_phase ends (PartSettled o) a l n = part_phase o a
  still_phase ends NoParts a l n = whole_phase _ a a.slots.whole
  still_phase ends Look a l n = cc
  still_phase ends LookReady a l n = cc
  still_phase ends WriteChunk a l n = cc
  still_phase ends GoOn a l n = cc
  still_phase ends WriteEnded a l n = cc
  still_phase ends (AbortPipe r) a l n = cc
  still_phase ends (ActionSettled o) a l n = cc

  place_same : (ps : List pipe.Slots) (n : ℕ) (x y : pipe.Slots) → slice_get ps n ≡ Some x → slice_get (slice_set ps n y) n ≡ Some y
  place_same [] n x y e = cc
  place_same (z ∷ ps) zero x y e = refl
  place_same (z ∷ ps) (suc n) x y e = place_same ps n x y e

  own_flows : (operation : PipeOperation) (s : Slots) (o : Option pipe.Slots) → slice_get s.pipes p.0 ≡ o → looks operation ≡ false → ends_flowing operation ≡ false → (as_pipe o).phase ≡ Flowing
      → (as_pipe (slice_get (on_pipe_at (λ ends. pipe_operation p ends operation) p s o).slots.pipes p.0)).phase ≡ Flowing
  own_flows operation s None e l n f = rw e f
  own_flows operation s (Some x) e l n f =
      let a : Acts = starting x s.promises in
      rw (place_same s.pipes p.0 x (pipe_operation p (ends_at x s) operation a).slots e) (still_phase (ends_at x s) operation a l n ∙ f)

  other_flows : (q : PipeId) (operation : PipeOperation) (s : Slots) (o : Option pipe.Slots) → nat_eq p.0 q.0 ≡ false → slice_get (on_pipe_at (λ ends. pipe_operation q ends operation) q s o).slots.pipes p.0 ≡ slice_get s.pipes p.0
  other_flows q operation s None n = refl
  other_flows q operation s (Some x) n = slice_get-set_other s.pipes q.0 p.0 _ (λ i. unequal_numbers p.0 q.0 n (sym i))

  pipe_flows : (q : PipeId) (operation : PipeOperation) (s : Slots) (same : Bool) → same ≡ nat_eq p.0 q.0 → IsNoLook (Pipe q operation) → IsNoEnd (Pipe q operation) → (pipe_at p s).phase ≡ Flowing → (pipe_at p (row (Pipe q operation) s).slots).phase ≡ Flowing
  unfolding row
  pipe_flows q operation s false e l n f = rw (other_flows q operation s (slice_get s.pipes q.0) (sym e)) f
  pipe_flows q operation s true e l n f =
      let is : p ≡ q = ap (λ (n : ℕ). record { 0 = n }) (eq_numbers p.0 q.0 (sym e)) in
      subst (λ (z : PipeId). (pipe_at p (row (Pipe z operation) s).slots).phase ≡ Flowing) is (own_flows operation s (slice_get s.pipes p.0) refl (l (sym e)) (n (sym e)) f)

  flows : (e : Effect) (s : Slots) → IsNoLook e → IsNoEnd e → (pipe_at p s).phase ≡ Flowing → (pipe_at p (row e s).slots).phase ≡ Flowing
  flows (Pipe q operation) s l n f = pipe_flows q operation s (nat_eq p.0 q.0) refl l n f
  flows e s l n f = rw (row-pipes e s tt) f

  -- No read has started, and none looks; or none has, at most one looks, and none ends the flowing; or the pipe flows, and neither stands
  data May (h : ℕ) (s : Slots) (es : List Effect) : Type 0 where
    MayNone : h ≡ 0 → Each IsNoLook es → May h s es
    MayLook : h ≡ 0 → OneLook es → Each IsNoEnd es → May h s es
    MayRead : (pipe_at p s).phase ≡ Flowing → Each IsNoLook es → Each IsNoEnd es → May h s es

  -- an effect that doesn't look

  still-zero : (h : ℕ) (e : Effect) (s : Slots) → IsNoLook e → h ≡ 0 → h + effect_started p e s ≡ 0
  still-zero h e s l z = let n = started-none e s l in omega (arith, n, z)

  none-may : (h : ℕ) (s : Slots) (e : Effect) (es : List Effect) → h ≡ 0 → Each IsNoLook (e ∷ es) → May (h + effect_started p e s) (row e s).slots ((row e s).caused ++ es)
  none-may h s e es z n = MayNone (still-zero h e s n.0 z) (each-append IsNoLook (row e s).caused es (row-look e s n.0) n.1)

  -- a look

  own_may : (operation : PipeOperation) (h : ℕ) (s : Slots) (o : Option pipe.Slots) (es : List Effect) → slice_get s.pipes p.0 ≡ o → h ≡ 0 → Each IsNoLook es → Each IsNoEnd es → (operation ≡ WriteChunk → ⊥)
      → let d : Done = on_pipe_at (λ ends. pipe_operation p ends operation) p s o in May (h + reads_started p d.caused) d.slots (d.caused ++ es)
  own_may operation h s None es e z l n w = MayNone (omega (arith, z)) l
  own_may operation h s (Some x) es e z l n w =
      let a : Acts = starting x s.promises in
      let b : Acts = pipe_operation p (ends_at x s) operation a in
      let unpiped = operation-unpiped p (ends_at x s) operation a w tt in
      let looks_none : Each IsNoLook b.out.effects = each-map IsUnpiped IsNoLook unpiped-no_look b.out.effects unpiped in
      let ends_none : Each IsNoEnd b.out.effects = each-map (PipeCauses p x.source x.dest) IsNoEnd (pipe-end p x.source x.dest) b.out.effects (pipe-causes p (ends_at x s) operation a tt).1.1 in
      ⊎_elim (λ (none : reads_started p b.out.effects ≡ 0). MayNone (omega (arith, z, none)) (each-append IsNoLook b.out.effects es looks_none l))
      (λ (one : (reads_started p b.out.effects ≡ 1) × MayStart (ends_at x s) operation x b.slots).
      MayRead (rw (place_same s.pipes p.0 x b.slots e) one.1.stays) (each-append IsNoLook b.out.effects es looks_none l) (each-append IsNoEnd b.out.effects es ends_none n))
      (each_read_may_start p (ends_at x s) operation x s.promises)

  -- a write goes on to a look
  write_causes : (x : pipe.Slots) (s : Slots) (held : Option Value) → let b : Acts = write_held p (starting x s.promises) held in (reads_started p b.out.effects ≡ 0) × (OneLook b.out.effects × Each IsNoEnd b.out.effects)
  write_causes x s None = (refl, (tt, tt))
  write_causes x s (Some v) = by x.phase
    where
      by : (phase : Phase) → let b : Acts = write_in p v (starting (record x { held = None; reading = false }) s.promises) phase in (reads_started p b.out.effects ≡ 0) × (OneLook b.out.effects × Each IsNoEnd b.out.effects)
      by Flowing = (refl, (inl (tt, inl (tt, inr tt)), (tt, (tt, ((λ e. refl), tt)))))
      by Waiting = (refl, (inl (tt, inl (tt, inr tt)), (tt, (tt, ((λ e. refl), tt)))))
      by Acting = (refl, (tt, tt))
      by Over = (refl, (tt, tt))

  write_may : (h : ℕ) (s : Slots) (o : Option pipe.Slots) (es : List Effect) → h ≡ 0 → Each IsNoLook es → Each IsNoEnd es
      → let d : Done = on_pipe_at (λ ends. write_chunk p) p s o in May (h + reads_started p d.caused) d.slots (d.caused ++ es)
  unfolding write_chunk
  write_may h s None es z l n = MayNone (omega (arith, z)) l
  write_may h s (Some x) es z l n =
      let b : Acts = write_held p (starting x s.promises) x.held in
      let c = write_causes x s x.held in
      let k = c.0 in
      MayLook (omega (arith, z, k)) (one-behind b.out.effects es c.1.0 l) (each-append IsNoEnd b.out.effects es c.1.1 n)

  look_may : (operation : PipeOperation) (h : ℕ) (s : Slots) (es : List Effect) → h ≡ 0 → Each IsNoLook es → Each IsNoEnd es
      → May (h + effect_started p (Pipe p operation) s) (row (Pipe p operation) s).slots ((row (Pipe p operation) s).caused ++ es)
  unfolding row
  look_may WriteChunk h s es z l n = write_may h s (slice_get s.pipes p.0) es z l n
  look_may operation h s es z l n = own_may operation h s (slice_get s.pipes p.0) es refl z l n (λ w. cc)

  pipe_may : (q : PipeId) (operation : PipeOperation) (h : ℕ) (s : Slots) (es : List Effect) (same : Bool) → same ≡ nat_eq p.0 q.0 → h ≡ 0 → Each IsNoLook es → Each IsNoEnd es
      → May (h + effect_started p (Pipe q operation) s) (row (Pipe q operation) s).slots ((row (Pipe q operation) s).caused ++ es)
  pipe_may q operation h s es false e z l n = none-may h s (Pipe q operation) es z ((λ f. let m : true ≡ false = sym f ∙ sym e in cc), l)
  pipe_may q operation h s es true e z l n =
      let is : p ≡ q = ap (λ (n : ℕ). record { 0 = n }) (eq_numbers p.0 q.0 (sym e)) in
      subst (λ (r : PipeId). May (h + effect_started p (Pipe r operation) s) (row (Pipe r operation) s).slots ((row (Pipe r operation) s).caused ++ es)) is (look_may operation h s es z l n)

  last-may : (e : Effect) (h : ℕ) (s : Slots) (es : List Effect) → h ≡ 0 → Each IsNoLook es → Each IsNoEnd es → May (h + effect_started p e s) (row e s).slots ((row e s).caused ++ es)
  last-may (Pipe q operation) h s es z l n = pipe_may q operation h s es (nat_eq p.0 q.0) refl z l n
  last-may e h s es z l n = none-may h s e es z (tt, l)

  row-may : (h : ℕ) (s : Slots) (e : Effect) (es : List Effect) → May h s (e ∷ es) → May (h + effect_started p e s) (row e s).slots ((row e s).caused ++ es)
  row-may h s e es (MayNone z n) = none-may h s e es z n
  row-may h s e es (MayLook z (inl o) n) =
      MayLook (still-zero h e s o.0 z) (one-append (row e s).caused es (row-look e s o.0) o.1) (each-append IsNoEnd (row e s).caused es (row-end e s n.0) n.1)
  row-may h s e es (MayLook z (inr l) n) = last-may e h s es z l n.1
  row-may h s e es (MayRead f l n) =
      MayRead (flows e s l.0 n.0 f) (each-append IsNoLook (row e s).caused es (row-look e s l.0) l.1) (each-append IsNoEnd (row e s).caused es (row-end e s n.0) n.1)

  -- what a call begins with doesn't look

  renewed-look : (t : Table) (kept : Bool) (es : List Effect) → Each IsNoLook es → Each IsNoLook (lock_calls.reject_renewed t kept ++ es)
  renewed-look t true es n = n
  renewed-look t false es n = (tt, n)

  begins-look : (me : PipeId) (a b : PromiseId) (signal : Option SignalId) (reason : Option Plain) → Each IsNoLook (pipe_calls.pipe_begins me a b signal reason)
  begins-look me a b signal (Some r) = ((λ e. refl), tt)
  begins-look me a b None None = (tt, (tt, (tt, tt)))
  begins-look me a b (Some g) None = (tt, (tt, (tt, (tt, tt))))

  start-look : (q : PromiseId) (j : StreamId) (start : StartBy) → IsNoLook (making_calls.start_transform q j start)
  start-look q j Now = tt
  start-look q j Later = tt

  first-look : (side : Side) (j : StreamId) → IsNoLook (pipe_calls.start_end j side)
  first-look ReadableSide j = tt
  first-look WritableSide j = tt

  call-look : (c : Call) (s : Slots) → Each IsNoLook (begin c s).done.caused
  call-look c s = each_call (λ (b : Begun). Each IsNoLook b.done.caused) c s (record {
    unchanged = λ reply. tt;
    rejected = λ fault. (tt, tt);
    make_readable = λ mark size start. (tt, tt);
    make_writable = λ mark size start. (tt, tt);
    get_byob = λ i is e. (tt, tt);
    release_byob = λ l closed i e. renewed-look s.promises (readable.is_readable (source_at i s).state) (OnReadable i ReleaseReader ∷ []) (tt, tt);
    read_into = λ l i closed room element least e f. (tt, tt);
    enqueue_bytes = λ i b e is some can. (tt, tt);
    finish_bytes = λ i e is can. (tt, tt);
    make_request = λ i reply is. (tt, tt);
    respond = λ r i b e is can. (tt, tt);
    make_bytes = λ mark auto start. (tt, tt);
    get_reader = λ i e. (tt, tt);
    get_writer = λ i e. (tt, tt);
    release_reader = λ l closed i e. renewed-look s.promises (readable.is_readable (source_at i s).state) (OnReadable i ReleaseReader ∷ []) (tt, tt);
    release_writer = λ l i w e f.
        let ready : Bool = is_pending_at w.ready s.promises in
        let t : Table = lock_calls.with_renewed s.promises ready in
        renewed-look s.promises ready (lock_calls.reject_renewed t (is_pending_at w.closed t) ++ OnWritable i ReleaseWriter ∷ []) (renewed-look t (is_pending_at w.closed t) (OnWritable i ReleaseWriter ∷ []) (tt, tt));
    cancel = λ reason i. (tt, tt);
    read = λ l i closed e f. (tt, tt);
    write = λ l v i e. (tt, tt);
    close = λ i. (tt, tt);
    abort = λ reason i e. (tt, tt);
    make_tee = λ i e is free untied. (tt, (tt, (tt, (tt, tt))));
    make_transform = λ kind m n start. (tt, (tt, (tt, (tt, (start-look _ _ start, tt)))));
    enqueue = λ i v e o can. (tt, tt);
    enqueue_half = λ i t v e o can. (tt, tt);
    fail_half = λ t reason. (tt, tt);
    terminate = λ t. (tt, tt);
    finish = λ i. (tt, tt);
    fail_readable = λ i reason. (tt, tt);
    fail_writable = λ i reason. (tt, tt);
    pipe = λ source dest prevent signal e f l m.
        (tt, (tt, (tt, begins-look (record { 0 = length s.pipes }) (next_id s.promises) (next_id (fresh (fresh s.promises))) signal (pipe_calls.reason_of signal s))));
    make_signal = tt;
    open_end = λ side. (first-look side _, tt);
    send_readable = λ source there free.
        (tt, (tt, (tt, (tt, begins-look (record { 0 = length s.pipes }) (next_id (fresh s.promises)) (next_id (fresh (fresh (fresh s.promises)))) None None))));
    send_writable = λ dest there free.
        (tt, (tt, (tt, (tt, begins-look (record { 0 = length s.pipes }) (next_id s.promises) (next_id (fresh (fresh s.promises))) None None))));
    deliver = λ c m asked has. (tt, tt);
    trigger = λ a reason. (tt, tt);
    settle = λ h answer q e. (tt, tt);
  })

  -- and a job with at most one that does

  resolved-look : (derived : Option PromiseId) (o : Result Plain Plain) → Each IsNoLook (resolved derived o)
  resolved-look None o = tt
  resolved-look (Some q) o = (tt, tt)

  resolved-end : (derived : Option PromiseId) (o : Result Plain Plain) → Each IsNoEnd (resolved derived o)
  resolved-end None o = tt
  resolved-end (Some q) o = (tt, tt)

  one-may : (z : Slots) (e : Effect) (derived : Option PromiseId) (o : Result Plain Plain) → IsNoEnd e → May 0 z (e ∷ resolved derived o)
  one-may z e derived o n = MayLook refl (inr (resolved-look derived o)) (n, resolved-end derived o)

  steps-may : (z : Slots) (step : Step) (o : Result Plain Plain) (derived : Option PromiseId) (r : Result Plain Plain) → May 0 z (steps step o ++ resolved derived r)
  steps-may z (ReadableStart i) o derived r = one-may z (OnReadable i (StartSettled o)) derived r tt
  steps-may z (ReadablePull i) o derived r = one-may z (OnReadable i (PullSettled o)) derived r tt
  steps-may z ReturnUndefined o derived r = MayNone refl (resolved-look derived r)
  steps-may z (WritableStart i) o derived r = one-may z (OnWritable i (WritableStartSettled o)) derived r tt
  steps-may z (WritableWrite i) o derived r = one-may z (OnWritable i (WriteSettled o)) derived r tt
  steps-may z (WritableClose i) o derived r = one-may z (OnWritable i (CloseSettled o)) derived r tt
  steps-may z (WritableAbort i q) o derived r = one-may z (OnWritable i (AbortSettled q o)) derived r tt
  steps-may z (PipeEnds q) o derived r = one-may z (Pipe q Look) derived r (λ e. refl)
  steps-may z (PipeReady q) o derived r = one-may z (Pipe q LookReady) derived r (λ e. refl)
  steps-may z (PipeWrote q) o derived r = one-may z (Pipe q WriteEnded) derived r (λ e. refl)
  steps-may z (PipeActed q) o derived r = MayNone refl ((λ e. refl), resolved-look derived r)
  steps-may z (PipePart q) o derived r = one-may z (Pipe q (PartSettled o)) derived r (λ e. refl)
  steps-may z (TransformChanged t d) (Ok v) derived r = MayNone refl (tt, resolved-look derived r)
  steps-may z (PortUnblocked c d) (Ok v) derived r = MayNone refl (tt, resolved-look derived r)
  steps-may z (TransformChanged t d) (Err e) derived r = MayNone refl (tt, resolved-look derived r)
  steps-may z (PortUnblocked c d) (Err e) derived r = MayNone refl (tt, resolved-look derived r)
  steps-may z (Transformed t) (Ok v) derived r = MayNone refl (resolved-look derived r)
  steps-may z (Transformed t) (Err e) derived r = MayNone refl (tt, resolved-look derived r)
  steps-may z (TransformFlushed t q) o derived r = MayNone refl (tt, resolved-look derived r)
  steps-may z (TransformAborted t q e) o derived r = MayNone refl (tt, resolved-look derived r)
  steps-may z (TransformCancelled t q e) o derived r = MayNone refl (tt, resolved-look derived r)
  steps-may z (TeeEnds t) o derived r = MayNone refl (tt, resolved-look derived r)

  job-may : (z : Slots) (job : Job) → May 0 z (job_effects job)
  job-may z (ReactionJob step o derived) = steps-may z step o derived (returned step o)
  job-may z (Follow q r) = MayNone refl tt
  job-may z (SettleJob q o) = MayNone refl (tt, tt)
  job-may z (MicroJob (PipeLook q)) = MayLook refl (inr tt) ((λ e. refl), tt)
  job-may z (MicroJob (PipeWrite q)) = MayLook refl (inr tt) ((λ e. refl), tt)
  job-may z (MicroJob (PipeNoParts q)) = MayLook refl (inr tt) ((λ e. refl), tt)
  job-may z (MicroJob (TeeHand t)) = MayNone refl (tt, tt)

  begun-may : (s : Slots) (job : Option Job) → May 0 (job_begun s job).slots (job_begun s job).caused
  begun-may s None = MayNone refl tt
  begun-may s (Some job) = job-may _ job

  -- steps

  is_history : IsHistory 0 ◌+◌
  is_history = record { left = zero-add; right = add-zero; assoc = add_assoc }

  ended-may : (n : ℕ) (z : Slots) → May (0 + n) z [] → (pipe_at p z).phase ≢ Flowing → n ≡ 0
  ended-may n z (MayNone e l) f = omega (arith, e)
  ended-may n z (MayLook e l k) f = omega (arith, e)
  ended-may n z (MayRead g l k) f = absurd (f g)

  done-may : (d : Done) → May 0 d.slots d.caused → May (0 + along 0 ◌+◌ (effect_started p) (moments d)) (performed d) []
  done-may d k = performed-goes 0 ◌+◌ is_history (effect_started p) May row-may 0 d k

  named_pipes : (reply : Reply) (s : Slots) → (named reply s).pipes ≡ s.pipes
  named_pipes (Named q) s = refl
  named_pipes _ s = refl

  step-shut : (s : Slots) (x : Entry) → (pipe_at p (step s x)).phase ≢ Flowing → step_started p s x ≡ 0
  unfolding begin_job
  step-shut s (Called c) f =
      let d : Done = (begin c s).done in
      let same = named_pipes (begin c s).reply (performed d) in
      ended-may _ (performed d) (done-may d (MayNone refl (call-look c s))) (λ g. f (rw same g))
  step-shut s Worked f = ended-may _ (performed (begin_job s)) (done-may (begin_job s) (begun-may s (next_job s.promises))) f
  step-shut s Heard f = nothing-told 0 ◌+◌ is_history (effect_started p) s

pub no_read_starts_once_shut : NoReadStartsOnceShut
no_read_starts_once_shut s x p f = step-shut p s x f
