-- What each operation of a pipe does to the reactions to its writes.
use Rattle.std.proofs.Common.{◌≡◌, ℕ, ◌+◌, ◌-◌, ◌≤◌, true, false, not, ◌&&◌, ◌||◌, nat_eq, is_none, if◌then◌else◌, List, [], ◌∷◌, Option, Some, None, Result, Ok, Err, refl, arith}
use Rattle.ws_writable_laws.proofs.Shape.{of_port}
use Rattle.ws_value.specs.declared.{ids.PipeId.{PipeId}, ids.PromiseId.{PromiseId}, ids.StreamId.{StreamId}}
use Rattle.ws_value.specs.declared.value.{Plain.{Plain}, Value.{Value}}
use Rattle.ws_steps.specs.declared.effects.Effect.{Effect}
use Rattle.ws_steps.specs.declared.effects.Effect.TheVariants.{Readable as OnReadable, Pipe as OnPipe, Transform as OnTransform, Tee as OnTee, Port as OnPort, StartAlgorithm, Give, CallHost}
use Rattle.ws_steps.specs.declared.effects.{Gift.TheVariants.{This}, Use.TheVariants.{React}}
use Rattle.ws_steps.specs.declared.pipes.{Action.{Action}, Action.TheVariants.{AbortDest, CancelSource, CloseDest, BySignal}, Ends.{Ends}, Phase.{Phase}, Phase.TheVariants.{Flowing, Waiting, Acting, Over}}
use Rattle.ws_steps.specs.declared.pipes.{PipeOperation.{PipeOperation}, PipeOperation.TheVariants.{Look, LookReady, KeepChunk, ReadEnded, WriteChunk, GoOn, WriteEnded, Abort as AbortPipe, ActionSettled, PartSettled, NoParts}}
use Rattle.ws_steps.specs.declared.promises.{Step.{Step}, Step.TheVariants.{PipeReady, PipeWrote, PipeActed, PipePart}}
use Rattle.ws_steps.specs.declared.readable.{ReadRequest.TheVariants.{Pipe as PipeRequest}, ReadableOperation.TheVariants.{Read}, ReadableState.{ReadableState}, ReadableState.TheVariants.{Readable, Closed, Errored}}
use Rattle.ws_steps.specs.declared.writable.{WritableState.{WritableState}, WritableState.TheVariants.{Writable, Erroring, Errored as WritableErrored, Closed as WritableClosed}}
use Rattle.ws_steps.specs.Effects.{type_error}
use Rattle.ws_steps.specs.Operations.{pipe_operation}
use Rattle.ws_pipe_laws.specs.pipes.PipeMoves.{starting}
use Rattle.ws_pipe_laws.specs.pipes.PipeWrites.{of_write}
use Rattle.ws_steps.specs.Pipes.{Slots, Acts, causing, with_slots, finalize, abort_dest, act_by_signal, act_by, act, proceed, is_flowing, shut_down, shutdown, unless, wait_for_ready, read_or_wait, look_by, look, look_ready, go_on_in, go_on, keep_chunk, read_ended, write_held, write_chunk, write_ended, action_settled, part_settled, no_parts, abort}
use Rattle.ws_steps.specs.Promises.{Table}
use Rattle.ws_steps.specs.Writable.{is_writable, is_closed}
use Rattle.ws_laws.proofs.Lists.{Each}
use Rattle.ws_laws.proofs.PipeDoes.{IsStepOf, PipeCauses}
use Rattle.ws_laws.proofs.Tables.{either}
use Rattle.ws_writable_laws.proofs.Shape.{of_use, of_transform, all, all-append}
use Rattle.ws_pipe_laws.proofs.pipes.Reading.{no_answer}
use Rattle.ws_writable_laws.proofs.Shape.{of_tee}

-- the end of a write
abbrev pub is_ended : PipeOperation → ℕ
is_ended WriteEnded = 1
is_ended _ = 0

-- an effect that leads to the reaction to a write of pipe p, or is the end of one
abbrev pub pays : PipeId → Effect → ℕ
pays p (OnPipe q operation) = if nat_eq p.0 q.0 then is_ended operation else 0
pays p (OnTransform t operation) = of_transform (of_write p) operation
pays p (OnTee t operation) = of_tee (of_write p) operation
pays p (OnPort c operation) = of_port (of_write p) operation
pays p (StartAlgorithm i step start) = of_write p step
pays p (Give gift u) = of_use (of_write p) u
pays p (CallHost call u) = of_use (of_write p) u
pays p _ = 0

abbrev pub owed : PipeId → Acts → ℕ
owed p a = all (pays p) a.out.effects

-- what neither makes a write nor ends one

pub record Even (p : PipeId) (a b : Acts) : Type 0 where
  pub none : owed p b ≡ owed p a
  pub unsettled : b.slots.unsettled ≡ a.slots.unsettled

rests-even : (p : PipeId) (a : Acts) → Even p a a
rests-even p a = record { none = refl; unsettled = refl }

pub finalize-even : (p me : PipeId) (error : Option Plain) (a : Acts) → Even p a (finalize me error a)
unfolding finalize
finalize-even p me error a = grind (arith, all-append)

signal-even : (p me : PipeId) (r : Plain) (a : Acts) → Even p a (act_by_signal me r a)
unfolding act_by_signal
signal-even p me r a = grind (arith, all-append)

abort-even : (p me : PipeId) (r : Plain) (a : Acts) (d : Option PromiseId) → Even p a (abort_dest me r a d)
abort-even p me r a None = grind (arith, all-append)
abort-even p me r a (Some d) = grind (arith, all-append)

act_by-even : (p me : PipeId) (ends : Ends) (a : Acts) (action : Option Action) → Even p a (act_by me ends a action)
act_by-even p me ends a None = finalize-even p me a.slots.error a
act_by-even p me ends a (Some (AbortDest r)) = abort-even p me r a ends.dest_abort
act_by-even p me ends a (Some (CancelSource r)) = grind (arith, all-append)
act_by-even p me ends a (Some CloseDest) = grind (arith, all-append)
act_by-even p me ends a (Some (BySignal r)) = signal-even p me r a

act-even : (p me : PipeId) (ends : Ends) (a : Acts) → Even p a (act me ends a)
unfolding act
act-even p me ends a =
    let h = act_by-even p me ends (with_slots (record a.slots { phase = Acting }) a) a.slots.action in
    record { none = h.none; unsettled = h.unsettled }

pub proceed-even : (p me : PipeId) (ends : Ends) (a : Acts) → Even p a (proceed me ends a)
unfolding proceed
proceed-even p me ends a =
    either (Even p a) (is_none a.slots.held && nat_eq a.slots.unsettled 0) (act me ends a) a (λ c. act-even p me ends a) (λ c. rests-even p a)

shut_down-even : (p me : PipeId) (ends : Ends) (a : Acts) → Even p a (shut_down me ends a)
shut_down-even p me ends a =
    let b : Acts = with_slots (record a.slots { phase = Waiting }) a in
    either (Even p a) (is_writable ends.dest_state && not ends.dest_closing) (proceed me ends b) (act me ends a)
    (λ c. let h = proceed-even p me ends b in record { none = h.none; unsettled = h.unsettled }) (λ c. act-even p me ends a)

pub shutdown-even : (p me : PipeId) (ends : Ends) (action : Option Action) (error : Option Plain) (a : Acts) → Even p a (shutdown me ends action error a)
unfolding shutdown
shutdown-even p me ends action error a =
    let b : Acts = with_slots (record a.slots { action = action; error = error }) a in
    either (Even p a) (is_flowing a.slots.phase) (shut_down me ends b) a
    (λ c. let h = shut_down-even p me ends b in record { none = h.none; unsettled = h.unsettled }) (λ c. rests-even p a)

waits-even : (p me : PipeId) (a : Acts) (ready : Option PromiseId) → Even p a (wait_for_ready me a ready)
waits-even p me a None = rests-even p a
waits-even p me a (Some q) = grind (arith, all-append)

reads-even : (p me : PipeId) (ends : Ends) (a : Acts) → Even p a (causing (OnReadable a.slots.source (Read (PipeRequest me)) ∷ []) (with_slots (record a.slots { reading = true }) a))
reads-even p me ends a = grind (arith, all-append)

read_or_wait-even : (p me : PipeId) (ends : Ends) (a : Acts) → Even p a (read_or_wait me ends a)
read_or_wait-even p me ends a =
    either (Even p a) ends.dest_wants (causing (OnReadable a.slots.source (Read (PipeRequest me)) ∷ []) (with_slots (record a.slots { reading = true }) a)) _
    (λ c. reads-even p me ends a)
    (λ c. either (Even p a) (not a.slots.waits && is_writable ends.dest_state) (wait_for_ready me a ends.dest_ready) a (λ d. waits-even p me a ends.dest_ready) (λ d. rests-even p a))

readable-even : (p me : PipeId) (ends : Ends) (a : Acts) (d : WritableState) → Even p a
    (if ends.dest_closing || is_closed d
    then shutdown me ends (unless a.slots.prevent.cancel (CancelSource type_error)) (Some type_error) a
    else if a.slots.reading then a
    else read_or_wait me ends a)
readable-even p me ends a d =
    let shut : Acts = shutdown me ends (unless a.slots.prevent.cancel (CancelSource type_error)) (Some type_error) a in
    either (Even p a) (ends.dest_closing || is_closed d) shut (if a.slots.reading then a else read_or_wait me ends a)
    (λ c. shutdown-even p me ends (unless a.slots.prevent.cancel (CancelSource type_error)) (Some type_error) a)
    (λ c. either (Even p a) a.slots.reading a (read_or_wait me ends a) (λ r. rests-even p a) (λ r. read_or_wait-even p me ends a))

look_by-even : (p me : PipeId) (ends : Ends) (a : Acts) (s : ReadableState) (d : WritableState) → Even p a (look_by me ends a s d)
look_by-even p me ends a Errored d = shutdown-even p me ends _ _ a
look_by-even p me ends a Readable WritableErrored = shutdown-even p me ends _ _ a
look_by-even p me ends a Closed WritableErrored = shutdown-even p me ends _ _ a
look_by-even p me ends a Closed Writable = shutdown-even p me ends _ _ a
look_by-even p me ends a Closed Erroring = shutdown-even p me ends _ _ a
look_by-even p me ends a Closed WritableClosed = shutdown-even p me ends _ _ a
look_by-even p me ends a Readable Writable = readable-even p me ends a Writable
look_by-even p me ends a Readable Erroring = readable-even p me ends a Erroring
look_by-even p me ends a Readable WritableClosed = readable-even p me ends a WritableClosed

look-even : (p me : PipeId) (ends : Ends) (a : Acts) → Even p a (look me ends a)
unfolding look
look-even p me ends a =
    either (Even p a) (is_flowing a.slots.phase) (look_by me ends a ends.source_state ends.dest_state) a (λ c. look_by-even p me ends a ends.source_state ends.dest_state) (λ c. rests-even p a)

go_on-even : (p me : PipeId) (ends : Ends) (a : Acts) (phase : Phase) → Even p a (go_on_in me ends a phase)
go_on-even p me ends a Flowing = look-even p me ends a
go_on-even p me ends a Waiting = proceed-even p me ends a
go_on-even p me ends a Acting = rests-even p a
go_on-even p me ends a Over = rests-even p a

-- an operation of the pipe itself, where n reactions to its writes are elsewhere

module _ (n : ℕ) (p : PipeId) where
  abbrev pub Covered : Acts → Type 0
  Covered a = n + owed p a ≤ a.slots.unsettled

  even-covered : (a b : Acts) → Even p a b → Covered a → Covered b
  even-covered a b s w = let u = s.unsettled in let c = s.none in omega (arith, u, c, w)

  self : nat_eq p.0 p.0 ≡ true
  self = grind arith

  write-covered : (a : Acts) (held : Option Value) → Covered a → Covered (write_held p a held)
  write-covered a held w = grind (arith, all-append, self, w)

  action-covered : (a : Acts) (o : Result Plain Plain) → Covered a → Covered (action_settled p o a)
  unfolding action_settled
  action-covered a (Ok v) w = even-covered a (finalize p a.slots.error a) (finalize-even p p a.slots.error a) w
  action-covered a (Err e) w = even-covered a (finalize p (Some e) a) (finalize-even p p (Some e) a) w

  part-covered : (a : Acts) (o : Result Plain Plain) → Covered a → Covered (part_settled o a)
  unfolding part_settled
  part-covered a o w = grind (arith, w)

  pub operation-covered : (ends : Ends) (operation : PipeOperation) (x : Slots) (t : Table) → n + is_ended operation ≤ x.unsettled → Covered (pipe_operation p ends operation (starting x t))
  unfolding look_ready go_on keep_chunk read_ended write_chunk write_ended no_parts abort
  operation-covered ends Look x t w = even-covered (starting x t) _ (look-even p p ends (starting x t)) (omega (arith, w))
  operation-covered ends LookReady x t w = let a : Acts = starting (record x { waits = false }) t in even-covered a (look p ends a) (look-even p p ends a) (omega (arith, w))
  operation-covered ends (KeepChunk v) x t w = omega (arith, w)
  operation-covered ends ReadEnded x t w = omega (arith, w)
  operation-covered ends WriteChunk x t w = write-covered (starting x t) x.held (omega (arith, w))
  operation-covered ends GoOn x t w = even-covered (starting x t) _ (go_on-even p p ends (starting x t) x.phase) (omega (arith, w))
  operation-covered ends WriteEnded x t w =
      let a : Acts = starting (record x { unsettled = x.unsettled - 1 }) t in even-covered a (go_on_in p ends a x.phase) (go_on-even p p ends a x.phase) (omega (arith, w))
  operation-covered ends (AbortPipe r) x t w = even-covered (starting x t) _ (shutdown-even p p ends (Some (BySignal r)) (Some r) (starting x t)) (omega (arith, w))
  operation-covered ends (ActionSettled o) x t w = action-covered (starting x t) o (omega (arith, w))
  operation-covered ends (PartSettled o) x t w = part-covered (starting x t) o (omega (arith, w))
  operation-covered ends NoParts x t w = grind (arith, w)

-- an operation of another pipe

abbrev pub PaysNone : PipeId → Effect → Type 0
PaysNone p e = pays p e ≡ 0

pub none-paid : (p : PipeId) (es : List Effect) → Each (PaysNone p) es → all (pays p) es ≡ 0
none-paid p [] n = refl
none-paid p (e ∷ es) n = let k = n.0 in let rest = none-paid p es n.1 in omega (arith, k, rest)

other_step : (p q : PipeId) → nat_eq p.0 q.0 ≡ false → (step : Step) → IsStepOf q step → of_write p step ≡ 0
other_step p q n (PipeReady r) c = refl
other_step p q n (PipeWrote r) c = rw (c, n) refl
other_step p q n (PipeActed r) c = refl
other_step p q n (PipePart r) c = refl
other_step p q n step c = absurd c

pub other-paid : (p q : PipeId) → nat_eq p.0 q.0 ≡ false → (source dest : StreamId) (e : Effect) → PipeCauses q source dest e → PaysNone p e
other-paid p q n source dest (OnPipe r GoOn) c = no_answer (nat_eq p.0 r.0)
other-paid p q n source dest (OnPipe r operation) c = absurd c
other-paid p q n source dest (OnTransform t operation) c = absurd c
other-paid p q n source dest (OnTee t operation) c = absurd c
other-paid p q n source dest (OnPort me operation) c = absurd c
other-paid p q n source dest (StartAlgorithm i step start) c = absurd c
other-paid p q n source dest (Give (This d) (React step None)) c = other_step p q n step c
other-paid p q n source dest (Give gift u) c = absurd c
other-paid p q n source dest (CallHost call u) c = absurd c
other-paid p q n source dest _ c = refl
