-- An operation of a pipe causes no read, or a read and nothing else, where the pipe flows.
use Rattle.std.proofs.Common.{◌≡◌, ◌-◌, true, false, not, ◌&&◌, ◌||◌, nat_eq, if◌then◌else◌, [], ◌∷◌, Option, Some, None, Result, Ok, Err, refl, arith}
use Rattle.ws_value.specs.declared.{ids.PipeId.{PipeId}, ids.PromiseId.{PromiseId}, ids.StreamId.{StreamId}, value.Plain.{Plain}, value.Plain.TheVariants.{Undefined}, value.Value.{Value}}
use Rattle.ws_steps.specs.declared.byte.ByteOperation.TheVariants.{PullInto, Respond}
use Rattle.ws_steps.specs.declared.effects.{Effect.{Effect}, Effect.TheVariants.{Readable as OnReadable, Byte}}
use Rattle.ws_steps.specs.declared.pipes.{Action.{Action}, Action.TheVariants.{AbortDest, CancelSource, CloseDest, BySignal}, Ends.{Ends}, Phase.{Phase}, Phase.TheVariants.{Flowing, Waiting, Acting, Over}}
use Rattle.ws_steps.specs.declared.pipes.{PipeOperation.{PipeOperation}, PipeOperation.TheVariants.{Look, LookReady, KeepChunk, ReadEnded, WriteChunk, GoOn, WriteEnded, Abort as AbortPipe, ActionSettled, PartSettled, NoParts}}
use Rattle.ws_steps.specs.declared.readable.{ReadRequest.TheVariants.{Pipe as PipeRequest}, ReadableOperation.TheVariants.{Read}, ReadableState.{ReadableState}, ReadableState.TheVariants.{Readable, Closed, Errored}}
use Rattle.ws_steps.specs.declared.writable.{WritableState.{WritableState}, WritableState.TheVariants.{Writable, Erroring, Errored as WritableErrored, Closed as WritableClosed}}
use Rattle.ws_steps.specs.Effects.{type_error}
use Rattle.ws_steps.specs.Operations.{pipe_operation}
use Rattle.ws_steps.specs.Pipes.{Slots, Acts, finalize, act_by_signal, act_by, act, proceed, is_flowing, shutdown, unless, wait_for_ready, read_or_wait, look_by, look, look_ready, go_on_in, go_on, keep_chunk, read_ended, write_in, write_held, write_chunk, write_ended, action_settled, settle_whole, part_settled, no_parts, abort}
use Rattle.ws_steps.specs.Promises.{Table}
use Rattle.ws_steps.specs.Writable.{is_writable, is_closed}
use Rattle.ws_laws.proofs.Lists.{Each, each-append}
use Rattle.ws_laws.proofs.Tables.{either}
use Rattle.ws_pipe_laws.specs.pipes.PipeMoves.{starting}

-- no read, and no response
abbrev pub IsNoRead : Effect → Type 0
IsNoRead (OnReadable i (Read request)) = ⊥
IsNoRead (Byte i (PullInto room element minimum request)) = ⊥
IsNoRead (Byte i (Respond b)) = ⊥
IsNoRead _ = Unit {0}

pub data Reads (me : PipeId) (source : StreamId) (b : Acts) : Type 0 where
  NoRead : Each IsNoRead b.out.effects → Reads me source b
  OneRead : b.slots.phase ≡ Flowing → b.out.effects ≡ OnReadable source (Read (PipeRequest me)) ∷ [] → Reads me source b

-- a shutdown causes none

module _ (me : PipeId) where
  abbrev Silent : Acts → Acts → Type 0
  Silent a b = Each IsNoRead a.out.effects → Each IsNoRead b.out.effects

  finalize-silent : (error : Option Plain) (a : Acts) → Silent a (finalize me error a)
  unfolding finalize
  finalize-silent error a = grind (arith, each-append)

  signal-silent : (r : Plain) (a : Acts) → Silent a (act_by_signal me r a)
  unfolding act_by_signal
  signal-silent r a = grind (arith, each-append)

  act_by-silent : (ends : Ends) (a : Acts) (action : Option Action) → Silent a (act_by me ends a action)
  act_by-silent ends a action = grind (arith, each-append, finalize-silent, signal-silent)

  act-silent : (ends : Ends) (a : Acts) → Silent a (act me ends a)
  unfolding act
  act-silent ends a = grind (arith, act_by-silent)

  proceed-silent : (ends : Ends) (a : Acts) → Silent a (proceed me ends a)
  unfolding proceed
  proceed-silent ends a = grind (arith, act-silent)

  shutdown-silent : (ends : Ends) (action : Option Action) (error : Option Plain) (a : Acts) → Silent a (shutdown me ends action error a)
  unfolding shutdown
  shutdown-silent ends action error a = grind (arith, proceed-silent, act-silent)

flowing_of : (phase : Phase) → is_flowing phase ≡ true → phase ≡ Flowing
flowing_of Flowing e = refl
flowing_of Waiting e = cc
flowing_of Acting e = cc
flowing_of Over e = cc

module _ (me : PipeId) (ends : Ends) (y : Slots) (t : Table) where
  abbrev Reading : Acts → Type 0
  Reading b = Reads me y.source b

  shuts : (action : Option Action) (error : Option Plain) → Reading (shutdown me ends action error (starting y t))
  shuts action error = NoRead (shutdown-silent me ends action error (starting y t) tt)

  waits : (ready : Option PromiseId) → Reading (wait_for_ready me (starting y t) ready)
  waits None = NoRead tt
  waits (Some q) = NoRead (tt, tt)

  reads : y.phase ≡ Flowing → Reading (read_or_wait me ends (starting y t))
  reads f =
      either Reading ends.dest_wants _ _ (λ c. OneRead f refl)
      (λ c. either Reading (not y.waits && is_writable ends.dest_state) _ _ (λ d. waits ends.dest_ready) (λ d. NoRead tt))

  reads_readable : y.phase ≡ Flowing → (d : WritableState)
      → Reading (if ends.dest_closing || is_closed d then shutdown me ends (unless y.prevent.cancel (CancelSource type_error)) (Some type_error) (starting y t) else if y.reading then starting y t else read_or_wait me ends (starting y t))
  reads_readable f d =
      either Reading (ends.dest_closing || is_closed d) (shutdown me ends (unless y.prevent.cancel (CancelSource type_error)) (Some type_error) (starting y t)) _
      (λ c. shuts (unless y.prevent.cancel (CancelSource type_error)) (Some type_error))
      (λ c. either Reading y.reading (starting y t) (read_or_wait me ends (starting y t)) (λ h. NoRead tt) (λ h. reads f))

  looked : y.phase ≡ Flowing → (s : ReadableState) (d : WritableState) → Reading (look_by me ends (starting y t) s d)
  looked f Errored d = shuts (unless y.prevent.abort (AbortDest ends.source_error)) (Some ends.source_error)
  looked f Readable WritableErrored = shuts (unless y.prevent.cancel (CancelSource ends.dest_error)) (Some ends.dest_error)
  looked f Closed WritableErrored = shuts (unless y.prevent.cancel (CancelSource ends.dest_error)) (Some ends.dest_error)
  looked f Closed Writable = shuts (unless y.prevent.close CloseDest) None
  looked f Closed Erroring = shuts (unless y.prevent.close CloseDest) None
  looked f Closed WritableClosed = shuts (unless y.prevent.close CloseDest) None
  looked f Readable Writable = reads_readable f Writable
  looked f Readable Erroring = reads_readable f Erroring
  looked f Readable WritableClosed = reads_readable f WritableClosed

  looks : Reading (look me ends (starting y t))
  unfolding look
  looks =
      either Reading (is_flowing y.phase) (look_by me ends (starting y t) ends.source_state ends.dest_state) (starting y t)
      (λ c. looked (flowing_of y.phase c) ends.source_state ends.dest_state) (λ c. NoRead tt)

  goes_on : (phase : Phase) → Reading (go_on_in me ends (starting y t) phase)
  goes_on Flowing = looks
  goes_on Waiting = NoRead (proceed-silent me ends (starting y t) tt)
  goes_on Acting = NoRead tt
  goes_on Over = NoRead tt

  writes : (o : Option Value) → Reading (write_held me (starting y t) o)
  writes None = NoRead tt
  writes (Some v) = by y.phase
    where
      by : (phase : Phase) → Reading (write_in me v (starting (record y { held = None; reading = false }) t) phase)
      by Flowing = NoRead (tt, (tt, (tt, tt)))
      by Waiting = NoRead (tt, (tt, (tt, tt)))
      by Acting = NoRead tt
      by Over = NoRead tt

  whole_settles : (r : Result Plain Plain) (w : Option PromiseId) → Reading (settle_whole r (starting y t) w)
  whole_settles r None = NoRead tt
  whole_settles r (Some w) = NoRead tt

  action_settles : (o : Result Plain Plain) → Reading (action_settled me o (starting y t))
  unfolding action_settled
  action_settles (Ok v) = NoRead (finalize-silent me y.error (starting y t) tt)
  action_settles (Err e) = NoRead (finalize-silent me (Some e) (starting y t) tt)

part_settles : (me : PipeId) (ends : Ends) (x : Slots) (t : Table) (o : Result Plain Plain) → Reads me x.source (part_settled o (starting x t))
unfolding part_settled
part_settles me ends x t (Ok v) =
    let y : Slots = record x { parts = x.parts - 1 } in
    either (Reads me x.source) (nat_eq y.parts 0) (settle_whole (Ok Undefined) (starting y t) y.whole) (starting y t) (λ c. whole_settles me ends y t (Ok Undefined) y.whole) (λ c. NoRead tt)
part_settles me ends x t (Err e) = whole_settles me ends x t (Err e) x.whole

pub operation-reads : (me : PipeId) (ends : Ends) (operation : PipeOperation) (x : Slots) (t : Table) → Reads me x.source (pipe_operation me ends operation (starting x t))
unfolding look_ready go_on keep_chunk read_ended write_chunk write_ended no_parts abort
operation-reads me ends Look x t = looks me ends x t
operation-reads me ends LookReady x t = looks me ends (record x { waits = false }) t
operation-reads me ends (KeepChunk v) x t = NoRead tt
operation-reads me ends ReadEnded x t = NoRead tt
operation-reads me ends WriteChunk x t = writes me ends x t x.held
operation-reads me ends GoOn x t = goes_on me ends x t x.phase
operation-reads me ends WriteEnded x t = goes_on me ends (record x { unsettled = x.unsettled - 1 }) t x.phase
operation-reads me ends (AbortPipe r) x t = shuts me ends x t (Some (BySignal r)) (Some r)
operation-reads me ends (ActionSettled o) x t = action_settles me ends x t o
operation-reads me ends (PartSettled o) x t = part_settles me ends x t o
operation-reads me ends NoParts x t = whole_settles me ends x t (Ok Undefined) x.whole
