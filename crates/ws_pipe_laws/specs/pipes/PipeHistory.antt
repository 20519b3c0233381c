-- What happens to a pipe: how it shuts down, the course that it takes, and what goes through it; and which pipes a signal has.
use Rattle.std.specs.Prelude.{Bool, true, false, not, ◌&&◌, ◌||◌, nat_eq, if◌then◌else◌, List, [], ◌∷◌, ◌++◌, Option, Some, None, Result, Ok, Err}
use Rattle.ws_value.specs.declared.ids.PipeId.{PipeId}
use Rattle.ws_value.specs.declared.ids.PromiseId.{PromiseId}
use Rattle.ws_value.specs.declared.ids.SignalId.{SignalId}
use Rattle.ws_value.specs.declared.ids.StreamId.{StreamId}
use Rattle.ws_value.specs.declared.value.Plain.{Plain}
use Rattle.ws_value.specs.declared.value.Value.{Value}
use Rattle.ws_steps.specs.declared.effects.Effect.{Effect}
use Rattle.ws_steps.specs.declared.effects.Effect.TheVariants.{Pipe, Signal, ChunkSteps}
use Rattle.ws_steps.specs.declared.pipes.Action.{Action}
use Rattle.ws_steps.specs.declared.pipes.Action.TheVariants.{AbortDest, CancelSource, CloseDest, BySignal}
use Rattle.ws_steps.specs.declared.pipes.Ends.{Ends}
use Rattle.ws_steps.specs.declared.pipes.Phase.{Phase}
use Rattle.ws_steps.specs.declared.pipes.Phase.TheVariants.{Flowing, Waiting, Acting, Over}
use Rattle.ws_steps.specs.declared.pipes.PipeOperation.{PipeOperation}
use Rattle.ws_steps.specs.declared.pipes.PipeOperation.TheVariants.{Look, LookReady, KeepChunk, WriteChunk, GoOn, WriteEnded, Abort, ActionSettled}
use Rattle.ws_steps.specs.declared.pipes.Prevent.{Prevent}
use Rattle.ws_steps.specs.declared.pipes.SignalOperation.{SignalOperation}
use Rattle.ws_steps.specs.declared.pipes.SignalOperation.TheVariants.{Add, Forget, Trigger}
use Rattle.ws_steps.specs.declared.readable.ReadRequest.{ReadRequest}
use Rattle.ws_steps.specs.declared.readable.ReadRequest.TheVariants.{Promise, Pipe as PipeRequest, Tee as TeeRequest}
use Rattle.ws_steps.specs.declared.readable.ReadableState.{ReadableState}
use Rattle.ws_steps.specs.declared.readable.ReadableState.TheVariants.{Readable, Closed, Errored}
use Rattle.ws_steps.specs.Effects.{type_error}
use Rattle.ws_steps.specs.Histories.{is_same, in_step, over}
use Rattle.ws_steps.specs.Pipes as pipe
use Rattle.ws_steps.specs.Pipes.{is_flowing}
use Rattle.ws_steps.specs.Promises.{next_id}
use Rattle.ws_steps.specs.Run.{Entry}
use Rattle.ws_steps.specs.Slots.{Slots, pipe_at, has_signal}
use Rattle.ws_steps.specs.Turns.{Moment, row}
use Rattle.ws_steps.specs.Writable.{is_errored, is_closed}

-- a shutdown: its action, where there is one, and the error with which the pipe ends, where there is one
pub record Shutdown : Type 0 where
  pub action : Option Action
  pub error : Option Plain

abbrev pub shutdown : Option Action → Option Plain → Shutdown
shutdown action error = record { action = action; error = error }

abbrev pub has_errored : ReadableState → Bool
has_errored Readable = false
has_errored Closed = false
has_errored Errored = true

abbrev pub has_closed : ReadableState → Bool
has_closed Readable = false
has_closed Closed = true
has_closed Errored = false

-- an action, unless it is prevented
abbrev pub unless_prevented : Bool → Action → Option Action
unless_prevented true action = None
unless_prevented false action = Some action

-- the first of the four conditions that holds, with its shutdown: the source has errored, the destination has errored, the source has closed,
-- the destination is closing or has closed
abbrev pub first_condition : Prevent → Ends → Option Shutdown
first_condition prevent ends =
    if has_errored ends.source_state then Some (shutdown (unless_prevented prevent.abort (AbortDest ends.source_error)) (Some ends.source_error))
    else if is_errored ends.dest_state then Some (shutdown (unless_prevented prevent.cancel (CancelSource ends.dest_error)) (Some ends.dest_error))
    else if has_closed ends.source_state then Some (shutdown (unless_prevented prevent.close CloseDest) None)
    else if ends.dest_closing || is_closed ends.dest_state
    then Some (shutdown (unless_prevented prevent.cancel (CancelSource type_error)) (Some type_error))
    else None

-- whether a pipe that flows looks at its streams
abbrev pub is_look : PipeOperation → Bool
is_look Look = true
is_look LookReady = true
is_look GoOn = true
is_look WriteEnded = true
is_look _ = false

-- the shutdown that an operation may start
abbrev pub shutdown_by : Prevent → Ends → PipeOperation → Option Shutdown
shutdown_by prevent ends (Abort r) = Some (shutdown (Some (BySignal r)) (Some r))
shutdown_by prevent ends operation = if is_look operation then first_condition prevent ends else None

abbrev pub is_live : Phase → Bool
is_live Flowing = true
is_live Waiting = true
is_live Acting = false
is_live Over = false

abbrev pub is_acting : Phase → Bool
is_acting Flowing = false
is_acting Waiting = false
is_acting Acting = true
is_acting Over = false

abbrev pub is_over : Phase → Bool
is_over Flowing = false
is_over Waiting = false
is_over Acting = false
is_over Over = true

-- the error of an end after an action: the action's reason where it was rejected
abbrev pub error_after : Option Plain → Result Plain Plain → Option Plain
error_after e (Ok v) = e
error_after e (Err r) = Some r

-- The course of a pipe: each time that it left flowing, with the shutdown that began; the actions that it performed; and its ends, each with
-- the error with which its promise is rejected, or none where it is fulfilled
pub record Course : Type 0 where
  pub shutdowns : List Shutdown
  pub acted : List (Option Action)
  pub ended : List (Option Plain)

abbrev pub no_course : Course
no_course = record { shutdowns = []; acted = []; ended = [] }

-- first f, then g
abbrev pub course_then : Course → Course → Course
course_then f g = record { shutdowns = f.shutdowns ++ g.shutdowns; acted = f.acted ++ g.acted; ended = f.ended ++ g.ended }

-- the error of an end by this operation
abbrev pub ended_by : PipeOperation → pipe.Slots → Option Plain
ended_by (ActionSettled outcome) y = error_after y.error outcome
ended_by _ y = y.error

abbrev pub left_flowing : pipe.Slots → pipe.Slots → List Shutdown
left_flowing x y = if is_flowing x.phase && not (is_flowing y.phase) then shutdown y.action y.error ∷ [] else []

abbrev pub began_to_act : pipe.Slots → pipe.Slots → List (Option Action)
began_to_act x y = if not (is_acting x.phase) && is_acting y.phase then y.action ∷ [] else []

abbrev pub came_to_end : PipeOperation → pipe.Slots → pipe.Slots → List (Option Plain)
came_to_end operation x y = if not (is_over x.phase) && is_over y.phase then ended_by operation y ∷ [] else []

-- by an operation that leaves y of x
abbrev pub operation_course : PipeOperation → pipe.Slots → pipe.Slots → Course
operation_course operation x y =
    record { shutdowns = left_flowing x y; acted = began_to_act x y; ended = came_to_end operation x y }

-- by an effect
abbrev pub effect_course : PipeId → Effect → Slots → Course
effect_course p (Pipe q operation) s =
    if nat_eq p.0 q.0 then operation_course operation (pipe_at q s) (pipe_at q (row (Pipe q operation) s).slots) else no_course
effect_course p _ s = no_course

-- in a step
abbrev pub step_course : PipeId → Slots → Entry → Course
step_course p s x = in_step no_course course_then (effect_course p) s x

-- in a run
abbrev pub run_course : PipeId → List Entry → Slots → Course
run_course p xs s = over no_course course_then (step_course p) xs s

-- What went through a pipe: the chunks that its reads got; those that it passed on to WritableStreamDefaultWriterWrite; and those that it
-- dropped
pub record Through : Type 0 where
  pub read : List Value
  pub passed : List Value
  pub dropped : List Value

abbrev pub nothing_through : Through
nothing_through = record { read = []; passed = []; dropped = [] }

-- first f, then g
abbrev pub through_then : Through → Through → Through
through_then f g = record { read = f.read ++ g.read; passed = f.passed ++ g.passed; dropped = f.dropped ++ g.dropped }

-- a held chunk is passed on where the pipe flows or waits, and else dropped
abbrev pub held_goes : Phase → Option Value → Through
held_goes phase None = nothing_through
held_goes Flowing (Some v) = record nothing_through { passed = v ∷ [] }
held_goes Waiting (Some v) = record nothing_through { passed = v ∷ [] }
held_goes Acting (Some v) = record nothing_through { dropped = v ∷ [] }
held_goes Over (Some v) = record nothing_through { dropped = v ∷ [] }

-- by an operation that finds x
abbrev pub operation_through : PipeOperation → pipe.Slots → Through
operation_through (KeepChunk v) x = record nothing_through { read = v ∷ [] }
operation_through WriteChunk x = held_goes x.phase x.held
operation_through _ x = nothing_through

-- by an effect
abbrev pub effect_through : PipeId → Effect → Slots → Through
effect_through p (Pipe q operation) s = if nat_eq p.0 q.0 then operation_through operation (pipe_at q s) else nothing_through
effect_through p _ s = nothing_through

-- in a step
abbrev pub step_through : PipeId → Slots → Entry → Through
step_through p s x = in_step nothing_through through_then (effect_through p) s x

-- in a run
abbrev pub run_through : PipeId → List Entry → Slots → Through
run_through p xs s = over nothing_through through_then (step_through p) xs s

-- the promise that WritableStreamDefaultWriterWrite answers for a held chunk, where that is passed on
abbrev pub held_promise : Phase → Option Value → PromiseId → List PromiseId
held_promise Flowing (Some v) d = d ∷ []
held_promise Waiting (Some v) d = d ∷ []
held_promise _ _ d = []

abbrev pub operation_promises : PipeOperation → pipe.Slots → PromiseId → List PromiseId
operation_promises WriteChunk x d = held_promise x.phase x.held d
operation_promises _ x d = []

-- the moments of a run: of an effect, of a step, and of a run

abbrev pub effect_moment : Effect → Slots → List Moment
effect_moment e s = record { effect = e; found = s } ∷ []

abbrev pub step_moments : Slots → Entry → List Moment
step_moments s x = in_step [] ◌++◌ effect_moment s x

abbrev pub run_moments : List Entry → Slots → List Moment
run_moments xs s = over [] ◌++◌ step_moments xs s

-- the promises of the writes that pipe p made: by an effect, and in these moments

abbrev pub effect_promises : PipeId → Effect → Slots → List PromiseId
effect_promises p (Pipe q operation) s = if nat_eq p.0 q.0 then operation_promises operation (pipe_at q s) (next_id s.promises) else []
effect_promises p _ s = []

abbrev pub promises_made : PipeId → List Moment → List PromiseId
promises_made p [] = []
promises_made p (m ∷ ms) = effect_promises p m.effect m.found ++ promises_made p ms

-- the chunks with which streams perform the chunk steps of the reads of pipe p: stream i alone, by an effect, in a step, and in a run

abbrev pub given_for : PipeId → ReadRequest → Value → List Value
given_for p (Promise q) v = []
given_for p (PipeRequest q) v = if nat_eq p.0 q.0 then v ∷ [] else []
given_for p (TeeRequest t) v = []

abbrev pub effect_given : StreamId → PipeId → Effect → Slots → List Value
effect_given i p (ChunkSteps j request v) s = if is_same i j then given_for p request v else []
effect_given i p _ s = []

abbrev pub step_given : StreamId → PipeId → Slots → Entry → List Value
step_given i p s x = in_step [] ◌++◌ (effect_given i p) s x

abbrev pub run_given : StreamId → PipeId → List Entry → Slots → List Value
run_given i p xs s = over [] ◌++◌ (step_given i p) xs s

-- what is done to the pipes of signal a, where there is such a signal, in order: by an effect, in a step, and in a run

abbrev pub effect_signalled : SignalId → Effect → Slots → List SignalOperation
effect_signalled a (Signal b operation) s = if nat_eq a.0 b.0 && has_signal b s then operation ∷ [] else []
effect_signalled a _ s = []

abbrev pub step_signalled : SignalId → Slots → Entry → List SignalOperation
step_signalled a s x = in_step [] ◌++◌ (effect_signalled a) s x

abbrev pub run_signalled : SignalId → List Entry → Slots → List SignalOperation
run_signalled a xs s = over [] ◌++◌ (step_signalled a) xs s

-- these pipes, and then those that are added, but for those that are forgotten afterwards

abbrev pub all_but : PipeId → List PipeId → List PipeId
all_but p [] = []
all_but p (q ∷ qs) = if nat_eq p.0 q.0 then all_but p qs else q ∷ all_but p qs

abbrev pub standing : List PipeId → List SignalOperation → List PipeId
standing ps [] = ps
standing ps (Add p ∷ operations) = standing (ps ++ p ∷ []) operations
standing ps (Forget p ∷ operations) = standing (all_but p ps) operations
standing ps (Trigger r ∷ operations) = standing ps operations
