-- A pipe from a readable to a writable stream (ReadableStreamPipeTo), and the signals that abort pipes. Each operation of a pipe is a
-- function of its slots, of what it looks at of its two ends, and of what it leaves outside them: the promises, and the effects that it
-- causes, in order. `me` is the pipe's own number, by which an effect names it.
use Rattle.std.specs.Prelude.{ℕ, ◌+◌, ◌-◌, Bool, true, false, not, ◌&&◌, ◌||◌, nat_eq, is_none, if◌then◌else◌, List, [], ◌∷◌, ◌++◌, length, Option, Some, None, Result, Ok, Err}
use Rattle.ws_value.specs.declared.ids.PipeId.{PipeId}
use Rattle.ws_value.specs.declared.ids.PromiseId.{PromiseId}
use Rattle.ws_value.specs.declared.ids.SignalId.{SignalId}
use Rattle.ws_value.specs.declared.ids.StreamId.{StreamId}
use Rattle.ws_value.specs.declared.value.Plain.{Plain}
use Rattle.ws_value.specs.declared.value.Plain.TheVariants.{Undefined}
use Rattle.ws_value.specs.declared.value.Value.{Value}
use Rattle.ws_steps.specs.declared.effects.Effect.{Effect}
use Rattle.ws_steps.specs.declared.effects.Effect.TheVariants.{Readable as OnReadable, Writable as OnWritable, Pipe as OnPipe, Signal as OnSignal, Give, Settle, Queue}
use Rattle.ws_steps.specs.declared.effects.Gift.TheVariants.{This}
use Rattle.ws_steps.specs.declared.effects.Use.TheVariants.{React}
use Rattle.ws_steps.specs.declared.pipes.Action.{Action}
use Rattle.ws_steps.specs.declared.pipes.Action.TheVariants.{AbortDest, CancelSource, CloseDest, BySignal}
use Rattle.ws_steps.specs.declared.pipes.Ends.{Ends}
use Rattle.ws_steps.specs.declared.pipes.Phase.{Phase}
use Rattle.ws_steps.specs.declared.pipes.Phase.TheVariants.{Flowing, Waiting, Acting, Over}
use Rattle.ws_steps.specs.declared.pipes.Prevent.{Prevent}
use Rattle.ws_steps.specs.declared.promises.Micro.{Micro}
use Rattle.ws_steps.specs.declared.promises.Micro.TheVariants.{PipeLook, PipeWrite, PipeNoParts}
use Rattle.ws_steps.specs.declared.promises.Step.{Step}
use Rattle.ws_steps.specs.declared.promises.Step.TheVariants.{PipeReady, PipeWrote, PipeActed, PipePart}
use Rattle.ws_steps.specs.declared.pipes.PipeOperation.TheVariants.{GoOn, Abort as AbortPipe}
use Rattle.ws_steps.specs.declared.pipes.SignalOperation.TheVariants.{Forget}
use Rattle.ws_steps.specs.declared.readable.ReadRequest.TheVariants.{Pipe as PipeRequest}
use Rattle.ws_steps.specs.declared.readable.ReadableOperation.TheVariants.{Read, Cancel, CancelIfReadable, ReleaseReader}
use Rattle.ws_steps.specs.declared.readable.ReadableState.{ReadableState}
use Rattle.ws_steps.specs.declared.readable.ReadableState.TheVariants.{Readable, Closed, Errored}
use Rattle.ws_steps.specs.declared.writable.WritableOperation.TheVariants.{Write, ClosePropagating, Abort, AbortIfWritable, ReleaseWriter}
use Rattle.ws_steps.specs.declared.writable.WritableState.{WritableState}
use Rattle.ws_steps.specs.declared.writable.WritableState.TheVariants.{Errored as WritableErrored}
use Rattle.ws_steps.specs.Promises.{next_id, fresh, queue_micro}
use Rattle.ws_steps.specs.Effects.{Out, cause_all, settling, type_error}
use Rattle.ws_steps.specs.Writable.{is_writable, is_closed}

-- the slots of a pipe
pub record Slots : Type 0 where
  pub source : StreamId
  pub dest : StreamId
  pub promise : PromiseId
  pub prevent : Prevent
  pub signal : Option SignalId
  pub phase : Phase
  -- whether a read is under way
  pub reading : Bool
  -- the chunk that was read and isn't written yet
  pub held : Option Value
  -- the writes that haven't settled
  pub unsettled : ℕ
  -- whether it waits for the destination to be ready
  pub waits : Bool
  -- the action of its shutdown, where there is one, and the error with which it ends, where there is one
  pub action : Option Action
  pub error : Option Plain
  -- of the promises that its action waits for: how many weren't fulfilled, and the promise of them all, until that settles
  pub parts : ℕ
  pub whole : Option PromiseId

-- what an operation changes
pub record Acts : Type 0 where
  pub slots : Slots
  pub out : Out

-- a new pipe
abbrev pub set_up : StreamId → StreamId → Prevent → Option SignalId → PromiseId → Slots
set_up source dest prevent signal promise =
    record {
      source = source;
      dest = dest;
      promise = promise;
      prevent = prevent;
      signal = signal;
      phase = Flowing;
      reading = false;
      held = None;
      unsettled = 0;
      waits = false;
      action = None;
      error = None;
      parts = 0;
      whole = None;
    }

-- effects after the others
abbrev pub causing : List Effect → Acts → Acts
causing effects a = record a { out = cause_all effects a.out }

abbrev pub with_slots : Slots → Acts → Acts
with_slots s a = record a { slots = s }

abbrev pub queueing : Micro → Acts → Acts
queueing m a = record a { out = record a.out { promises = queue_micro m a.out.promises } }

-- something is done with a new promise
abbrev pub with_fresh : (PromiseId → Acts → Acts) → Acts → Acts
with_fresh operation a = operation (next_id a.out.promises) (record a { out = record a.out { promises = fresh a.out.promises } })

-- a pipe's reaction to a promise
abbrev pub reacts : PromiseId → Step → Effect
reacts p step = Give (This p) (React step None)

-- the end

abbrev pub ending : Option Plain → Result Plain Plain
ending None = Ok Undefined
ending (Some e) = Err e

abbrev pub forgetting : PipeId → Option SignalId → List Effect
forgetting me None = []
forgetting me (Some signal) = OnSignal signal (Forget me) ∷ []

-- "Finalize": the pipe is over. Release the writer, and then the reader. The signal forgets the pipe. Reject the promise with the error,
-- where there is one, and else fulfil it with undefined
unfoldable pub finalize : PipeId → Option Plain → Acts → Acts
finalize me error a =
    causing
    (OnWritable a.slots.dest ReleaseWriter
    ∷ OnReadable a.slots.source ReleaseReader
    ∷ (forgetting me a.slots.signal ++ Settle a.slots.promise (ending error) ∷ []))
    (with_slots (record a.slots { phase = Over }) a)

-- the action of a shutdown

-- an operation of an end with a new promise, to which the pipe reacts
abbrev pub act_with : PipeId → (PromiseId → Effect) → Acts → Acts
act_with me effect a = with_fresh (λ p. causing (effect p ∷ reacts p (PipeActed me) ∷ [])) a

-- where an abort of the destination is pending, its promise is the one to which the pipe reacts
abbrev pub abort_dest : PipeId → Plain → Acts → Option PromiseId → Acts
abort_dest me r a (Some p) = causing (reacts p (PipeActed me) ∷ []) a
abort_dest me r a None = act_with me (λ p. OnWritable a.slots.dest (Abort r p)) a

-- the parts of what a signal does, each with its promise, where it isn't prevented

abbrev pub abort_part : Plain → Bool → Acts → Acts
abort_part r true a = a
abort_part r false a = with_fresh (λ p. causing (OnWritable a.slots.dest (AbortIfWritable r p) ∷ [])) a

abbrev pub cancel_part : Plain → Bool → Acts → Acts
cancel_part r true a = a
cancel_part r false a = with_fresh (λ p. causing (OnReadable a.slots.source (CancelIfReadable r p) ∷ [])) a

abbrev pub part : Bool → PromiseId → List PromiseId
part true p = []
part false p = p ∷ []

-- the promises of these parts, which are made one after another
abbrev pub parts_of : Prevent → Acts → Acts → List PromiseId
parts_of prevent a b = part prevent.abort (next_id a.out.promises) ++ part prevent.cancel (next_id b.out.promises)

abbrev pub reacts_to_all : PipeId → List PromiseId → List Effect
reacts_to_all me [] = []
reacts_to_all me (p ∷ ps) = reacts p (PipePart me) ∷ reacts_to_all me ps

-- where there is no promise to wait for, a microtask stands in its place
abbrev pub waiting_for : PipeId → List PromiseId → List Effect
waiting_for me [] = Queue (PipeNoParts me) ∷ []
waiting_for me (p ∷ ps) = reacts_to_all me (p ∷ ps)

-- "wait for all": a new promise, which the last fulfilment fulfils and the first rejection rejects
abbrev pub wait_for_all : PipeId → List PromiseId → Acts → Acts
wait_for_all me ps a =
    with_fresh
    (λ w b. causing (waiting_for me ps ++ reacts w (PipeActed me) ∷ []) (with_slots (record b.slots { parts = length ps; whole = Some w }) b))
    a

-- abort the destination where it is writable, cancel the source where it is readable, and wait for both
unfoldable pub act_by_signal : PipeId → Plain → Acts → Acts
act_by_signal me r a =
    let b : Acts = abort_part r a.slots.prevent.abort a in
    wait_for_all me (parts_of a.slots.prevent a b) (cancel_part r a.slots.prevent.cancel b)

abbrev pub act_by : PipeId → Ends → Acts → Option Action → Acts
act_by me ends a None = finalize me a.slots.error a
act_by me ends a (Some (AbortDest r)) = abort_dest me r a ends.dest_abort
act_by me ends a (Some (CancelSource r)) = act_with me (λ p. OnReadable a.slots.source (Cancel r p)) a
act_by me ends a (Some CloseDest) = act_with me (λ p. OnWritable a.slots.dest (ClosePropagating p)) a
act_by me ends a (Some (BySignal r)) = act_by_signal me r a

-- perform the action, and react to its promise; where there is none, finalize
unfoldable pub act : PipeId → Ends → Acts → Acts
act me ends a = act_by me ends (with_slots (record a.slots { phase = Acting }) a) a.slots.action

-- the shutdown

-- act once no chunk is held and every write has settled
unfoldable pub proceed : PipeId → Ends → Acts → Acts
proceed me ends a = if is_none a.slots.held && nat_eq a.slots.unsettled 0 then act me ends a else a

abbrev pub is_flowing : Phase → Bool
is_flowing Flowing = true
is_flowing Waiting = false
is_flowing Acting = false
is_flowing Over = false

-- where the destination is writable and not closing, what was read is written first
abbrev pub shut_down : PipeId → Ends → Acts → Acts
shut_down me ends a =
    if is_writable ends.dest_state && not ends.dest_closing
    then proceed me ends (with_slots (record a.slots { phase = Waiting }) a)
    else act me ends a

-- "Shutdown with an action", where the pipe is flowing: keep the action and the error
unfoldable pub shutdown : PipeId → Ends → Option Action → Option Plain → Acts → Acts
shutdown me ends action error a =
    if is_flowing a.slots.phase
    then shut_down me ends (with_slots (record a.slots { action = action; error = error }) a)
    else a

-- looking

abbrev pub unless : Bool → Action → Option Action
unless true action = None
unless false action = Some action

-- react to the writer's promise of being ready, where it has one
abbrev pub wait_for_ready : PipeId → Acts → Option PromiseId → Acts
wait_for_ready me a None = a
wait_for_ready me a (Some ready) = causing (reacts ready (PipeReady me) ∷ []) (with_slots (record a.slots { waits = true }) a)

-- where the destination wants a chunk, read; else, where it is writable and the pipe doesn't wait yet, wait until it is ready
abbrev pub read_or_wait : PipeId → Ends → Acts → Acts
read_or_wait me ends a =
    if ends.dest_wants
    then causing (OnReadable a.slots.source (Read (PipeRequest me)) ∷ []) (with_slots (record a.slots { reading = true }) a)
    else if not a.slots.waits && is_writable ends.dest_state then wait_for_ready me a ends.dest_ready
    else a

-- the first of these that holds: errors are propagated forward, and then backward; closing is propagated forward, and then backward.
-- Where none holds and no read is under way, read or wait
abbrev pub look_by : PipeId → Ends → Acts → ReadableState → WritableState → Acts
look_by me ends a Errored d =
    shutdown me ends (unless a.slots.prevent.abort (AbortDest ends.source_error)) (Some ends.source_error) a
look_by me ends a s WritableErrored =
    shutdown me ends (unless a.slots.prevent.cancel (CancelSource ends.dest_error)) (Some ends.dest_error) a
look_by me ends a Closed d = shutdown me ends (unless a.slots.prevent.close CloseDest) None a
look_by me ends a Readable d =
    if ends.dest_closing || is_closed d
    then shutdown me ends (unless a.slots.prevent.cancel (CancelSource type_error)) (Some type_error) a
    else if a.slots.reading then a
    else read_or_wait me ends a

-- the pipe looks at its two ends, where it is flowing
unfoldable pub look : PipeId → Ends → Acts → Acts
look me ends a = if is_flowing a.slots.phase then look_by me ends a ends.source_state ends.dest_state else a

-- its writer is ready: it waits for that no longer, and looks
unfoldable pub look_ready : PipeId → Ends → Acts → Acts
look_ready me ends a = look me ends (with_slots (record a.slots { waits = false }) a)

abbrev pub go_on_in : PipeId → Ends → Acts → Phase → Acts
go_on_in me ends a Flowing = look me ends a
go_on_in me ends a Waiting = proceed me ends a
go_on_in me ends a Acting = a
go_on_in me ends a Over = a

-- flowing, it looks; waiting, it proceeds
unfoldable pub go_on : PipeId → Ends → Acts → Acts
go_on me ends a = go_on_in me ends a a.slots.phase

-- reading and writing

-- the chunk steps of its read request: keep the chunk, and queue a microtask that writes it
unfoldable pub keep_chunk : PipeId → Value → Acts → Acts
keep_chunk me v a = queueing (PipeWrite me) (with_slots (record a.slots { held = Some v }) a)

-- the close steps and the error steps of its read request: no read is under way, and queue a microtask that looks
unfoldable pub read_ended : PipeId → Acts → Acts
read_ended me a = queueing (PipeLook me) (with_slots (record a.slots { reading = false }) a)

abbrev pub write : PipeId → Value → Acts → Acts
write me v a =
    with_fresh
    (λ p. causing (OnWritable a.slots.dest (Write v p) ∷ reacts p (PipeWrote me) ∷ OnPipe me GoOn ∷ []))
    (with_slots (record a.slots { unsettled = a.slots.unsettled + 1 }) a)

abbrev pub write_in : PipeId → Value → Acts → Phase → Acts
write_in me v a Flowing = write me v a
write_in me v a Waiting = write me v a
write_in me v a Acting = a
write_in me v a Over = a

abbrev pub write_held : PipeId → Acts → Option Value → Acts
write_held me a None = a
write_held me a (Some v) = write_in me v (with_slots (record a.slots { held = None; reading = false }) a) a.slots.phase

-- take the chunk that it holds; no read is under way. Where the action began or the pipe is over, drop it. Else write it, react to the
-- promise of the write, and go on
unfoldable pub write_chunk : PipeId → Acts → Acts
write_chunk me a = write_held me a a.slots.held

-- one write fewer is unsettled. Go on
unfoldable pub write_ended : PipeId → Ends → Acts → Acts
write_ended me ends a = go_on me ends (with_slots (record a.slots { unsettled = a.slots.unsettled - 1 }) a)

-- the ends of an action

-- the reaction to the promise of the action: finalize with the error of the shutdown, or with that of the action
unfoldable pub action_settled : PipeId → Result Plain Plain → Acts → Acts
action_settled me (Ok v) a = finalize me a.slots.error a
action_settled me (Err e) a = finalize me (Some e) a

abbrev pub settle_whole : Result Plain Plain → Acts → Option PromiseId → Acts
settle_whole outcome a None = a
settle_whole outcome a (Some w) = record { slots = record a.slots { whole = None }; out = settling w outcome a.out }

abbrev pub after_part : Acts → Acts
after_part a = if nat_eq a.slots.parts 0 then settle_whole (Ok Undefined) a a.slots.whole else a

-- the last fulfilment fulfils the promise of all, and the first rejection rejects it
unfoldable pub part_settled : Result Plain Plain → Acts → Acts
part_settled (Ok v) a = after_part (with_slots (record a.slots { parts = a.slots.parts - 1 }) a)
part_settled (Err e) a = settle_whole (Err e) a a.slots.whole

-- there is nothing to wait for
unfoldable pub no_parts : Acts → Acts
no_parts a = settle_whole (Ok Undefined) a a.slots.whole

-- the pipe's signal was triggered with this reason
unfoldable pub abort : PipeId → Ends → Plain → Acts → Acts
abort me ends r a = shutdown me ends (Some (BySignal r)) (Some r) a

-- signals

-- the reason with which a signal was triggered, where it was, and the pipes that it aborts, in the order in which they were added
pub record Signal : Type 0 where
  pub reason : Option Plain
  pub pipes : List PipeId

abbrev pub new_signal : Signal
new_signal = record { reason = None; pipes = [] }

-- what an operation of a signal leaves, and what it causes
pub record Signalled : Type 0 where
  pub signal : Signal
  pub effects : List Effect

abbrev pub quiet : Signal → Signalled
quiet x = record { signal = x; effects = [] }

-- a pipe is to be aborted by it
abbrev pub add_pipe : PipeId → Signal → Signalled
add_pipe p x = quiet (record x { pipes = x.pipes ++ p ∷ [] })

abbrev pub without : PipeId → List PipeId → List PipeId
without p [] = []
without p (q ∷ qs) = if nat_eq p.0 q.0 then without p qs else q ∷ without p qs

-- a pipe is over
abbrev pub forget_pipe : PipeId → Signal → Signalled
forget_pipe p x = quiet (record x { pipes = without p x.pipes })

abbrev pub abort_all : Plain → List PipeId → List Effect
abort_all r [] = []
abort_all r (p ∷ ps) = OnPipe p (AbortPipe r) ∷ abort_all r ps

abbrev pub trigger_unless : Plain → Signal → Option Plain → Signalled
trigger_unless r x (Some old) = quiet x
trigger_unless r x None = record { signal = record x { reason = Some r }; effects = abort_all r x.pipes }

-- the reason is kept, and its pipes are aborted in order. A second trigger does nothing
abbrev pub trigger : Plain → Signal → Signalled
trigger r x = trigger_unless r x x.reason
