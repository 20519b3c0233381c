-- What is seen of the records of a pipe and of an abort signal.
use Rattle.std.specs.Prelude.{ℕ, ◌+◌, ◌≤◌, Bool, true, false, ◌||◌, if◌then◌else◌, nat_lt, List, [], ◌∷◌, Option, Some, None, length}
use Rattle.ws_value.specs.declared.ids.PipeId.{PipeId}
use Rattle.ws_value.specs.declared.ids.PromiseId.{PromiseId}
use Rattle.ws_value.specs.declared.value.Plain.{Plain}
use Rattle.ws_value.specs.declared.value.Value.{Value}
use Rattle.ws_promise.specs.Seen.{Seen, SeenAgenda, out_of, HasPromiseRoom, HasJobRoom}
use Rattle.ws_steps.specs.declared.effects.Effect.TheVariants.{Readable as OnReadable, Writable as OnWritable, Pipe as OnPipe}
use Rattle.ws_steps.specs.declared.pipes.Action.TheVariants.{AbortDest, CancelSource, CloseDest}
use Rattle.ws_steps.specs.declared.pipes.Ends.{Ends}
use Rattle.ws_steps.specs.declared.pipes.PipeOperation.{PipeOperation}
use Rattle.ws_steps.specs.declared.pipes.PipeOperation.TheVariants.{Look, LookReady, KeepChunk, WriteChunk, GoOn, WriteEnded, Abort}
use Rattle.ws_steps.specs.declared.promises.Step.TheVariants.{PipeReady, PipeWrote}
use Rattle.ws_steps.specs.declared.readable.ReadRequest.TheVariants.{Pipe as PipeRequest}
use Rattle.ws_steps.specs.declared.readable.ReadableState.TheVariants.{Readable}
use Rattle.ws_steps.specs.declared.writable.WritableState.TheVariants.{Writable}
use Rattle.ws_steps.specs.declared.readable.ReadableOperation.TheVariants.{Cancel, Read}
use Rattle.ws_steps.specs.declared.writable.WritableOperation.TheVariants.{ClosePropagating, Write}
use Rattle.ws_steps.specs.Effects.{type_error}
use Rattle.ws_steps.specs.Pipes.{Slots, Acts, Signal, act_with, causing, reacts, shutdown, unless, read_or_wait, wait_for_ready, with_slots}
use Rattle.ws_pipe.specs.declared.direct.PipeLook.{PipeLook}
use Rattle.ws_pipe.specs.declared.direct.PipeLook.TheVariants.{Look as Looks, GoOn as GoesOn, Ready as IsReady, WriteEnded as HasWritten}
use Rattle.ws_pipe.specs.declared.direct.PipeNext.{PipeNext}
use Rattle.ws_pipe.specs.declared.direct.PipeNext.TheVariants.{Nothing as NothingNext, Read as ReadNext, Wait as WaitNext}
use Rattle.ws_steps.specs.Writable.{is_closed}
use Rattle.ws_steps.specs.Places.{own_pipe, promises_alone, jobs_alone}

-- a pipe, the promises and the agenda, as an operation of the pipe finds and leaves them
abbrev pub acts_of : Slots → Seen → SeenAgenda → Acts
acts_of s p fx = record { slots = s; out = out_of p fx }

-- there are places for what an operation of a pipe takes by itself
pub record HasRoomFor (operation : PipeOperation) (p : Seen) : Type 0 where
  pub promises : HasPromiseRoom (own_pipe promises_alone operation) p
  pub jobs : HasJobRoom (own_pipe jobs_alone operation) p

-- whether the way of a chunk through a pipe meets the operation
abbrev pub is_common : PipeOperation → Bool
is_common Look = true
is_common LookReady = true
is_common (KeepChunk v) = true
is_common WriteChunk = true
is_common GoOn = true
is_common WriteEnded = true
is_common _ = false

-- whether the pipe looks at its two ends in the operation
abbrev pub looks : PipeOperation → Bool
looks Look = true
looks LookReady = true
looks GoOn = true
looks WriteEnded = true
looks (Abort r) = true
looks _ = false

-- the actions that are one operation of an end

abbrev pub cancel_source : PipeId → Plain → Acts → Acts
cancel_source me r a = act_with me (λ p. OnReadable a.slots.source (Cancel r p)) a

abbrev pub close_dest : PipeId → Acts → Acts
close_dest me a = act_with me (λ p. OnWritable a.slots.dest (ClosePropagating p)) a

-- the parts of a look

abbrev pub error_forward : PipeId → Ends → Acts → Acts
error_forward me ends a = shutdown me ends (unless a.slots.prevent.abort (AbortDest ends.source_error)) (Some ends.source_error) a

abbrev pub error_backward : PipeId → Ends → Acts → Acts
error_backward me ends a = shutdown me ends (unless a.slots.prevent.cancel (CancelSource ends.dest_error)) (Some ends.dest_error) a

abbrev pub close_forward : PipeId → Ends → Acts → Acts
close_forward me ends a = shutdown me ends (unless a.slots.prevent.close CloseDest) None a

-- closing is propagated backward; else the pipe reads or waits, where no read is under way
abbrev pub flow : PipeId → Ends → Acts → Acts
flow me ends a =
    if ends.dest_closing || is_closed ends.dest_state
    then shutdown me ends (unless a.slots.prevent.cancel (CancelSource type_error)) (Some type_error) a
    else if a.slots.reading then a
    else read_or_wait me ends a

-- the same between two ends that go on, where the destination wants a chunk or else has this promise to wait for
abbrev pub flows : PipeId → Bool → Option PromiseId → Acts → Acts
flows me wants ready a =
    if a.slots.reading then a
    else if wants then causing (OnReadable a.slots.source (Read (PipeRequest me)) ∷ []) (with_slots (record a.slots { reading = true }) a)
    else if a.slots.waits then a
    else wait_for_ready me a ready

-- two ends that go on: the source is readable, and the destination is writable and not closing
abbrev pub open_ends : Plain → Plain → Bool → Option PromiseId → Option PromiseId → Ends
open_ends source_error dest_error wants ready abort =
    record {
      source_state = Readable;
      source_error = source_error;
      dest_state = Writable;
      dest_error = dest_error;
      dest_closing = false;
      dest_wants = wants;
      dest_ready = ready;
      dest_abort = abort;
    }

-- the chunk that is held is taken
abbrev pub taken : Slots → Option Value → Slots
taken s None = s
taken s (Some v) = record s { held = None; reading = false }

-- the promise that an action waits for, where there is one
abbrev pub listed : Option PromiseId → List PromiseId
listed None = []
listed (Some p) = p ∷ []

-- a signal, and the places in memory for its pipes
pub record SeenSignal : Type 0 where
  pub signal : Signal
  pub room : ℕ

-- there are places for n more pipes
abbrev pub HasMemberRoom : ℕ → SeenSignal → Type 0
HasMemberRoom n x = n + length x.signal.pipes ≤ x.room

-- whether there is a place for one pipe more
abbrev pub has_room : SeenSignal → Bool
has_room x = nat_lt (length x.signal.pipes) x.room

abbrev pub aborts_by : List PipeId → Option Plain → ℕ
aborts_by pipes None = length pipes
aborts_by pipes (Some r) = 0

-- how many pipes a trigger aborts
abbrev pub aborts_of : Signal → ℕ
aborts_of x = aborts_by x.pipes x.reason

-- what a pipe causes when it looks at its ends, besides the way to an end: a read, or a reaction to the ready promise of the writer
abbrev pub going : PipeId → PipeNext → Acts → Acts
going me NothingNext a = a
going me (ReadNext source) a = causing (OnReadable source (Read (PipeRequest me)) ∷ []) a
going me (WaitNext ready) a = causing (reacts ready (PipeReady me) ∷ []) a

abbrev pub is_next : PipeNext → Bool
is_next NothingNext = false
is_next (ReadNext source) = true
is_next (WaitNext ready) = true

-- a chunk is written, with this promise, where it is
abbrev pub writing : PipeId → Option (Value × PromiseId) → Acts → Acts
writing me None a = a
writing me (Some (v, p)) a = causing (OnWritable a.slots.dest (Write v p) ∷ reacts p (PipeWrote me) ∷ OnPipe me GoOn ∷ []) a

-- the operation in which a pipe looks so
abbrev pub look_of : PipeLook → PipeOperation
look_of Looks = Look
look_of GoesOn = GoOn
look_of IsReady = LookReady
look_of HasWritten = WriteEnded
