-- What one operation of a pipe does: its moves, what it keeps, and how a pipe is made.
use Rattle.std.specs.Prelude.{◌-◌, ◌≡◌, ◌⊎◌, Bool, true, false, not, ◌&&◌, List, ◌∷◌, ◌++◌, Option, Some, None, slice_get, length, Result, Ok, Err, []}
use Rattle.ws_value.specs.declared.ids.PipeId.{PipeId}
use Rattle.ws_value.specs.declared.ids.PromiseId.{PromiseId}
use Rattle.ws_value.specs.declared.ids.SignalId.{SignalId}
use Rattle.ws_value.specs.declared.ids.StreamId.{StreamId}
use Rattle.ws_value.specs.declared.value.Plain.{Plain}
use Rattle.ws_value.specs.declared.value.Plain.TheVariants.{Undefined}
use Rattle.ws_steps.specs.declared.calls.Call.{Call}
use Rattle.ws_steps.specs.declared.calls.Call.TheVariants.{Pipe as PipeCall, Send as SendCall}
use Rattle.ws_steps.specs.declared.calls.Reply.{Reply}
use Rattle.ws_steps.specs.declared.calls.Reply.TheVariants.{Promise as PromiseReply, Port as PortReply}
use Rattle.ws_steps.specs.declared.effects.Effect.{Effect}
use Rattle.ws_steps.specs.declared.effects.Effect.TheVariants.{Readable as OnReadable, Writable as OnWritable, Pipe as OnPipe, Signal as OnSignal, Give, Settle, Queue}
use Rattle.ws_steps.specs.declared.effects.Gift.TheVariants.{This}
use Rattle.ws_steps.specs.declared.effects.Use.TheVariants.{React}
use Rattle.ws_steps.specs.declared.pipes.Action.{Action}
use Rattle.ws_steps.specs.declared.pipes.Action.TheVariants.{AbortDest, CancelSource, CloseDest, BySignal}
use Rattle.ws_steps.specs.declared.pipes.Ends.{Ends}
use Rattle.ws_steps.specs.declared.pipes.Phase.{Phase}
use Rattle.ws_steps.specs.declared.pipes.Phase.TheVariants.{Flowing, Waiting, Acting, Over}
use Rattle.ws_steps.specs.declared.pipes.PipeOperation.{PipeOperation}
use Rattle.ws_steps.specs.declared.pipes.Prevent.{Prevent}
use Rattle.ws_steps.specs.declared.pipes.PipeOperation.TheVariants.{LookReady, GoOn, WriteEnded, ActionSettled}
use Rattle.ws_steps.specs.declared.pipes.SignalOperation.TheVariants.{Forget}
use Rattle.ws_steps.specs.declared.promises.Micro.TheVariants.{PipeNoParts}
use Rattle.ws_steps.specs.declared.promises.Step.TheVariants.{PipeReady, PipeWrote, PipeActed, PipePart}
use Rattle.ws_steps.specs.declared.readable.ReadableOperation.TheVariants.{ReleaseReader, Read, Cancel, CancelIfReadable}
use Rattle.ws_steps.specs.declared.writable.WritableOperation.TheVariants.{ReleaseWriter, Write, Abort as AbortWritable, AbortIfWritable, ClosePropagating}
use Rattle.ws_steps.specs.Operations.{pipe_operation}
use Rattle.ws_pipe_laws.specs.pipes.PipeHistory.{shutdown, shutdown_by, is_live, error_after}
use Rattle.ws_steps.specs.Pipes.{Slots, Acts}
use Rattle.ws_steps.specs.Promises.{Table, next_id, fresh}
use Rattle.ws_steps.specs.Begun.{Begun}
use Rattle.ws_steps.specs.PipeCalls.{no_prevent}
use Rattle.ws_steps.specs.Calls.{begin}
use Rattle.ws_steps.specs.Run.{Entry, Called, run, step}
use Rattle.ws_steps.specs.Slots as realm
use Rattle.ws_steps.specs.Writable.{is_writable}

-- a pipe before an operation, with these promises
abbrev pub starting : Slots → Table → Acts
starting x t = record { slots = x; out = record { promises = t; effects = [] } }

-- the destination is writable and not closing, so what was read is written first
abbrev pub writes_first : Ends → Bool
writes_first ends = is_writable ends.dest_state && not ends.dest_closing

-- with an error a promise is rejected, and without one fulfilled with undefined
abbrev pub result_by : Option Plain → Result Plain Plain
result_by None = Ok Undefined
result_by (Some e) = Err e

-- the signal of a pipe, where it has one, forgets it
abbrev pub signal_forgets : PipeId → Option SignalId → List Effect
signal_forgets me None = []
signal_forgets me (Some a) = OnSignal a (Forget me) ∷ []

-- the end: the writer is released, then the reader, the signal forgets the pipe, and the promise is settled
abbrev pub end_effects : PipeId → Slots → Option Plain → List Effect
end_effects me x e =
    OnWritable x.dest ReleaseWriter
    ∷ OnReadable x.source ReleaseReader
    ∷ (signal_forgets me x.signal ++ Settle x.promise (result_by e) ∷ [])

-- what an action causes

-- the pipe reacts to this promise: as to that of its action, or as to that of a part of it

abbrev pub hears_action : PipeId → PromiseId → Effect
hears_action me d = Give (This d) (React (PipeActed me) None)

abbrev pub hears_part : PipeId → PromiseId → Effect
hears_part me d = Give (This d) (React (PipePart me) None)

-- these slots, promises and effects are left
abbrev pub leaving : Slots → Table → List Effect → Acts
leaving y t effects = record { slots = y; out = record { promises = t; effects = effects } }

-- the destination is aborted, with a new promise, to which the pipe reacts; where an abort is pending, the pipe reacts to its promise
abbrev pub dest_aborted : PipeId → Plain → Slots → Table → Option PromiseId → Acts
dest_aborted me r y t (Some d) = leaving y t (hears_action me d ∷ [])
dest_aborted me r y t None = leaving y (fresh t) (OnWritable y.dest (AbortWritable r (next_id t)) ∷ hears_action me (next_id t) ∷ [])

-- by a signal, where the abort and the cancel are prevented or not: the destination is aborted where it is writable, and then the source is
-- cancelled where it is readable, each with a new promise. The pipe reacts to each of these as to a part, and to a further new promise as to
-- that of its action. Where both are prevented, a microtask takes the place of the parts
abbrev pub signalled : PipeId → Plain → Slots → Table → Bool → Bool → Acts
signalled me r y t false false =
    let d : PromiseId = next_id t in
    let e : PromiseId = next_id (fresh t) in
    let w : PromiseId = next_id (fresh (fresh t)) in
    leaving (record y { parts = 2; whole = Some w }) (fresh (fresh (fresh t)))
    (OnWritable y.dest (AbortIfWritable r d)
    ∷ OnReadable y.source (CancelIfReadable r e)
    ∷ hears_part me d
    ∷ hears_part me e
    ∷ hears_action me w
    ∷ [])
signalled me r y t false true =
    let d : PromiseId = next_id t in
    let w : PromiseId = next_id (fresh t) in
    leaving (record y { parts = 1; whole = Some w }) (fresh (fresh t))
    (OnWritable y.dest (AbortIfWritable r d) ∷ hears_part me d ∷ hears_action me w ∷ [])
signalled me r y t true false =
    let d : PromiseId = next_id t in
    let w : PromiseId = next_id (fresh t) in
    leaving (record y { parts = 1; whole = Some w }) (fresh (fresh t))
    (OnReadable y.source (CancelIfReadable r d) ∷ hears_part me d ∷ hears_action me w ∷ [])
signalled me r y t true true =
    let w : PromiseId = next_id t in
    leaving (record y { parts = 0; whole = Some w }) (fresh t) (Queue (PipeNoParts me) ∷ hears_action me w ∷ [])

abbrev pub acted : PipeId → Ends → Slots → Table → Action → Acts
acted me ends y t (AbortDest r) = dest_aborted me r y t ends.dest_abort
acted me ends y t (CancelSource r) =
    leaving y (fresh t) (OnReadable y.source (Cancel r (next_id t)) ∷ hears_action me (next_id t) ∷ [])
acted me ends y t CloseDest =
    leaving y (fresh t) (OnWritable y.dest (ClosePropagating (next_id t)) ∷ hears_action me (next_id t) ∷ [])
acted me ends y t (BySignal r) = signalled me r y t y.prevent.abort y.prevent.cancel

-- what an operation does to a pipe before that looks or goes on
abbrev pub looked : PipeOperation → Slots → Slots
looked LookReady x = record x { waits = false }
looked WriteEnded x = record x { unsettled = x.unsettled - 1 }
looked _ x = x

-- and then nothing but its phase, its action and its error is changed
abbrev pub shut_in : PipeOperation → Phase → Option Action → Option Plain → Slots → Slots
shut_in operation phase action error x = record (looked operation x) { phase = phase; action = action; error = error }

-- neither an action nor an end
abbrev pub is_idle : Effect → Bool
is_idle (OnReadable i (Read q)) = true
is_idle (OnWritable i (Write v p)) = true
is_idle (Give gift (React (PipeReady p) derived)) = true
is_idle (Give gift (React (PipeWrote p) derived)) = true
is_idle (OnPipe p GoOn) = true
is_idle _ = false

abbrev pub are_idle : List Effect → Bool
are_idle [] = true
are_idle (e ∷ es) = is_idle e && are_idle es

-- the shutdown of a pipe that has one is kept, and a pipe that flows starts the one that is named
pub record IsNamed (ends : Ends) (operation : PipeOperation) (x y : Slots) : Type 0 where
  pub starts : x.phase ≡ Flowing → shutdown_by x.prevent ends operation ≡ Some (shutdown y.action y.error)
  pub keeps : x.phase ≡ Waiting → (y.action ≡ x.action) × (y.error ≡ x.error)
  pub live : is_live x.phase ≡ true

-- nothing is held, and each write has settled, unless the pipe flowed and its destination wasn't writable, or was closing
abbrev pub HasWritten : Ends → Slots → Slots → Type 0
HasWritten ends x y = (x.phase ≡ Waiting) ⊎ (writes_first ends ≡ true) → (y.held ≡ None) × (y.unsettled ≡ 0)

-- nothing else of the pipe's shutdown changes
pub record IsAlike (y z : Slots) : Type 0 where
  pub phase : z.phase ≡ y.phase
  pub action : z.action ≡ y.action
  pub error : z.error ≡ y.error
  pub held : z.held ≡ y.held
  pub unsettled : z.unsettled ≡ y.unsettled

-- what an operation of a pipe that finds x, and the promises t, leaves
pub data Move (me : PipeId) (ends : Ends) (operation : PipeOperation) (x : Slots) (t : Table) (b : Acts) : Type 0 where
  -- the phase stays, and neither an action nor an end comes
  MoveRests : b.slots.phase ≡ x.phase → b.slots.action ≡ x.action → b.slots.error ≡ x.error → are_idle b.out.effects ≡ true → Move me ends operation x t b
  -- the shutdown begins, and what was read is written first
  MoveWaits : x.phase ≡ Flowing → b.slots ≡ shut_in operation Waiting b.slots.action b.slots.error x → IsNamed ends operation x b.slots
      → writes_first ends ≡ true → b.out ≡ record { promises = t; effects = [] } → Move me ends operation x t b
  -- the action of the shutdown is performed, which leaves y otherwise as it is
  MoveActs : (action : Action) (y : Slots) → y ≡ shut_in operation Acting (Some action) y.error x → IsNamed ends operation x y → HasWritten ends x y
      → b ≡ acted me ends y t action → IsAlike y b.slots → Move me ends operation x t b
  -- the shutdown has no action, and the pipe ends
  MoveEnds : b.slots ≡ shut_in operation Over None b.slots.error x → IsNamed ends operation x b.slots → HasWritten ends x b.slots
      → b.out ≡ record { promises = t; effects = end_effects me x b.slots.error } → Move me ends operation x t b
  -- the action is settled, and the pipe ends
  MoveFinishes : (o : Result Plain Plain) → operation ≡ ActionSettled o → b.slots ≡ record x { phase = Over }
      → b.out ≡ record { promises = t; effects = end_effects me x (error_after x.error o) } → Move me ends operation x t b

abbrev pub EachPipeMoves : Type 0
EachPipeMoves = (p : PipeId) (ends : Ends) (operation : PipeOperation) (x : Slots) (t : Table) → Move p ends operation x t (pipe_operation p ends operation (starting x t))

-- the same pipe: between the same streams, with the same promise and signal, and not to do the same
pub record IsSamePipe (x y : Slots) : Type 0 where
  pub source : y.source ≡ x.source
  pub dest : y.dest ≡ x.dest
  pub promise : y.promise ≡ x.promise
  pub prevent : y.prevent ≡ x.prevent
  pub signal : y.signal ≡ x.signal

abbrev pub EachPipeKeepsItsEnds : Type 0
EachPipeKeepsItsEnds =
    (p : PipeId) (ends : Ends) (operation : PipeOperation) (x : Slots) (t : Table) → IsSamePipe x (pipe_operation p ends operation (starting x t)).slots

-- the pipe is there, and the same
pub record IsThere (x : Slots) (o : Option Slots) : Type 0 where
  pub slots : Slots
  pub there : o ≡ Some slots
  pub same : IsSamePipe x slots

-- a pipe with which a call begins is there and the same once the call has answered, and one that is there is so after any run
pub record StaysThere (p : PipeId) (s : realm.Slots) : Type 0 where
  pub in_call : (c : Call) (x : Slots)
      → slice_get (begin c s).done.slots.pipes p.0 ≡ Some x → IsThere x (slice_get (step s (Called c)).pipes p.0)
  pub in_run : (entries : List Entry) (x : Slots) → slice_get s.pipes p.0 ≡ Some x → IsThere x (slice_get (run entries s).pipes p.0)

abbrev pub EachPipeStays : Type 0
EachPipeStays = (p : PipeId) (s : realm.Slots) → StaysThere p s

-- a new pipe, which flows: no read is under way, nothing is held, each write has settled, and it waits for nothing. Its promise is answered
pub record IsNewPipe (from to : StreamId) (not_to : Prevent) (by : Option SignalId) (reply : Reply) (y : Slots) : Type 0 where
  pub source : y.source ≡ from
  pub dest : y.dest ≡ to
  pub prevent : y.prevent ≡ not_to
  pub signal : y.signal ≡ by
  pub promise : reply ≡ PromiseReply y.promise
  pub phase : y.phase ≡ Flowing
  pub reading : y.reading ≡ false
  pub held : y.held ≡ None
  pub unsettled : y.unsettled ≡ 0
  pub waits : y.waits ≡ false

-- one that flows too, into or from a new port: nothing is prevented, no signal aborts it, and the reply is the port, so that it names no promise
pub record IsSentPipe (from to : StreamId) (s : realm.Slots) (reply : Reply) (y : Slots) : Type 0 where
  pub source : y.source ≡ from
  pub dest : y.dest ≡ to
  pub prevent : y.prevent ≡ no_prevent
  pub signal : y.signal ≡ None
  pub port : reply ≡ PortReply (record { 0 = length s.ports })
  pub phase : y.phase ≡ Flowing
  pub reading : y.reading ≡ false
  pub held : y.held ≡ None
  pub unsettled : y.unsettled ≡ 0
  pub waits : y.waits ≡ false

-- the stream at the end of a new port
abbrev pub new_end : realm.Slots → StreamId
new_end s = record { 0 = length s.streams }

-- what call c, which begins so, adds to the pipes: none; or, where it is a pipeTo, a new one between its streams, after the others; or, where it
-- sends a stream, one between that and the stream at the end of the new port
pub data MakesPipes (c : Call) (s : realm.Slots) (b : Begun) : Type 0 where
  MakesNone : b.done.slots.pipes ≡ s.pipes → MakesPipes c s b
  MakesOne : (from to : StreamId) (not_to : Prevent) (by : Option SignalId) (y : Slots) → c ≡ PipeCall from to not_to by
      → b.done.slots.pipes ≡ s.pipes ++ y ∷ [] → IsNewPipe from to not_to by b.reply y → MakesPipes c s b
  SendsReadable : (i : StreamId) (y : Slots) → c ≡ SendCall i → realm.has_source i s ≡ true → b.done.slots.pipes ≡ s.pipes ++ y ∷ []
      → IsSentPipe i (new_end s) s b.reply y → MakesPipes c s b
  SendsWritable : (i : StreamId) (y : Slots) → c ≡ SendCall i → realm.has_source i s ≡ false → realm.has_writable i s ≡ true → b.done.slots.pipes ≡ s.pipes ++ y ∷ []
      → IsSentPipe (new_end s) i s b.reply y → MakesPipes c s b

abbrev pub EachPipeBeginsFlowing : Type 0
EachPipeBeginsFlowing = (c : Call) (s : realm.Slots) → MakesPipes c s (begin c s)
