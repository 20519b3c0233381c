-- The row of each effect: what it does, and what it causes. Effects are performed one after another: the first, then those that it
-- caused, then the others.
use Rattle.std.specs.Prelude.{ℕ, zero, suc, ◌≡◌, if◌then◌else◌, List, [], ◌∷◌, ◌++◌, length, Some, None, Ok, Err}
use Rattle.ws_value.specs.declared.ids.PromiseId.{PromiseId}
use Rattle.ws_value.specs.declared.ids.StreamId.{StreamId}
use Rattle.ws_value.specs.declared.value.Outcome.TheVariants.{Given, Finished}
use Rattle.ws_value.specs.declared.value.Plain.{Plain}
use Rattle.ws_value.specs.declared.value.Plain.TheVariants.{Undefined}
use Rattle.ws_value.specs.declared.value.Value.{Value}
use Rattle.ws_value.specs.declared.value.Value.TheVariants.{Plain as PlainValue, Bytes}
use Rattle.ws_steps.specs.declared.calls.Event.TheVariants.{Host as HostCalled}
use Rattle.ws_steps.specs.declared.calls.HostCall.{HostCall}
use Rattle.ws_steps.specs.declared.calls.HostCall.TheVariants.{Start as HostStart, Pull as HostPull, Cancel as HostCancel, Close as HostClose, Abort as HostAbort}
use Rattle.ws_steps.specs.declared.calls.StartBy.{StartBy}
use Rattle.ws_steps.specs.declared.calls.StartBy.TheVariants.{Now, Later}
use Rattle.ws_steps.specs.declared.effects.Effect.{Effect}
use Rattle.ws_steps.specs.declared.effects.Effect.TheVariants.{Readable, Byte, Writable, Pipe, Signal, Transform, Tee, Port, StartAlgorithm, PullAlgorithm, CancelAlgorithm, WriteAlgorithm, CloseAlgorithm, AbortAlgorithm, ChunkSteps, CloseSteps, CloseStepsWith, ErrorSteps, Give, Settle, Queue, CallHost}
use Rattle.ws_steps.specs.declared.effects.Gift.TheVariants.{This, Fresh}
use Rattle.ws_steps.specs.declared.effects.Owner.{Owner}
use Rattle.ws_steps.specs.declared.effects.Owner.TheVariants.{Host, HalfOf, BranchOf, EndOf}
use Rattle.ws_steps.specs.declared.effects.Use.{Use}
use Rattle.ws_steps.specs.declared.effects.Use.TheVariants.{React, Resolve}
use Rattle.ws_steps.specs.declared.pipes.PipeOperation.TheVariants.{KeepChunk, ReadEnded}
use Rattle.ws_steps.specs.declared.port.PortOperation.TheVariants.{Pull as PullByPort, Leave, Write as WriteByPort, Close as CloseByPort}
use Rattle.ws_steps.specs.declared.promises.Step.{Step}
use Rattle.ws_steps.specs.declared.promises.Step.TheVariants.{ReadablePull, ReturnUndefined, WritableWrite, WritableClose, WritableAbort}
use Rattle.ws_steps.specs.declared.readable.ReadRequest.{ReadRequest}
use Rattle.ws_steps.specs.declared.readable.ReadableOperation.{ReadableOperation}
use Rattle.ws_steps.specs.declared.readable.ReadRequest.TheVariants.{Promise, Pipe as PipeRequest, Tee as TeeRequest}
use Rattle.ws_steps.specs.declared.tee.TeeOperation.TheVariants.{PullBranch, KeepChunk as KeepByTee, SourceClosed, SourceErrored, CancelBranch}
use Rattle.ws_steps.specs.declared.transform.Taker.TheVariants.{ToHost}
use Rattle.ws_steps.specs.declared.transform.TransformOperation.TheVariants.{SinkWrite, SourcePull, SinkClose, SinkAbort, SourceCancel}
use Rattle.ws_steps.specs.declared.writable.WritableOperation.TheVariants.{HandOn}
use Rattle.ws_steps.specs.Promises.{next_id, fresh, settle, answer, tell, use_this, use_gift, queue_micro}
use Rattle.ws_steps.specs.Operations.{readable_operation, byte_readable_operation, byte_operation, writable_operation, pipe_operation, signal_operation, transform_operation, tee_operation, port_operation}
use Rattle.ws_steps.specs.Places.{measure}
use Rattle.ws_steps.specs.Slots.{Slots, Done, nothing, causes, with_promises, owner_at, has_byte, on_readable, on_byte, on_writable, on_pipe, on_signal, on_transform, on_tee, on_port}

-- the algorithms of a stream, by whose they are, and what is done with the promise that they give

-- the start algorithm's result is undefined, or the host's promise. The start promise is resolved with it, and the step reacts to that
abbrev pub start_algorithm : StreamId → Step → Slots → StartBy → Done
start_algorithm i step s Now = causes (Give (Fresh (Ok Undefined)) (React step None) ∷ []) s
start_algorithm i step s Later =
    let p : PromiseId = next_id s.promises in
    causes (CallHost (HostStart i) (Resolve p) ∷ Give (This p) (React step None) ∷ []) (with_promises (fresh s.promises) s)

abbrev pub pull_algorithm : StreamId → Use → Owner → List Effect
pull_algorithm i u Host = CallHost (HostPull i) u ∷ []
pull_algorithm i u (HalfOf t) = Transform t (SourcePull u) ∷ []
pull_algorithm i u (BranchOf t half) = Tee t PullBranch ∷ Give (Fresh (Ok Undefined)) u ∷ []
pull_algorithm i u (EndOf c) = Port c PullByPort ∷ Give (Fresh (Ok Undefined)) u ∷ []

abbrev pub cancel_algorithm : StreamId → Plain → Use → Owner → List Effect
cancel_algorithm i r u Host = CallHost (HostCancel i r) u ∷ []
cancel_algorithm i r u (HalfOf t) = Transform t (SourceCancel r u) ∷ []
cancel_algorithm i r u (BranchOf t half) = Tee t (CancelBranch half r u) ∷ []
cancel_algorithm i r u (EndOf c) = Port c (Leave r u) ∷ []

-- the algorithms of a writable stream. None is a branch of a tee; if one were, its algorithms would be the host's

-- the chunk at the front of the queue is handed on: to the host at once, and to a transform stream or a port once it has no backpressure
abbrev pub write_algorithm : StreamId → Owner → List Effect
write_algorithm i Host = Writable i (HandOn ToHost) ∷ []
write_algorithm i (HalfOf t) = Transform t (SinkWrite (React (WritableWrite i) None)) ∷ []
write_algorithm i (BranchOf t half) = Writable i (HandOn ToHost) ∷ []
write_algorithm i (EndOf c) = Port c (WriteByPort (React (WritableWrite i) None)) ∷ []

abbrev pub close_algorithm : StreamId → Use → Owner → List Effect
close_algorithm i u Host = CallHost (HostClose i) u ∷ []
close_algorithm i u (HalfOf t) = Transform t (SinkClose u) ∷ []
close_algorithm i u (BranchOf t half) = CallHost (HostClose i) u ∷ []
close_algorithm i u (EndOf c) = Port c (CloseByPort u) ∷ []

abbrev pub abort_algorithm : StreamId → Plain → Use → Owner → List Effect
abort_algorithm i r u Host = CallHost (HostAbort i r) u ∷ []
abort_algorithm i r u (HalfOf t) = Transform t (SinkAbort r u) ∷ []
abort_algorithm i r u (BranchOf t half) = CallHost (HostAbort i r) u ∷ []
abort_algorithm i r u (EndOf c) = Port c (Leave r u) ∷ []

-- the steps of a read request, by whom it answers

abbrev pub chunk_steps : Value → Slots → ReadRequest → Done
chunk_steps v s (Promise p) = nothing (with_promises (answer p (Given v) s.promises) s)
chunk_steps v s (PipeRequest p) = causes (Pipe p (KeepChunk v) ∷ []) s
chunk_steps v s (TeeRequest t) = causes (Tee t (KeepByTee v) ∷ []) s

abbrev pub close_steps : Slots → ReadRequest → Done
close_steps s (Promise p) = nothing (with_promises (answer p (Finished (PlainValue Undefined)) s.promises) s)
close_steps s (PipeRequest p) = causes (Pipe p ReadEnded ∷ []) s
close_steps s (TeeRequest t) = causes (Tee t SourceClosed ∷ []) s

-- the close steps of a read-into request with a chunk
abbrev pub close_steps_with : List ℕ → Slots → ReadRequest → Done
close_steps_with b s (Promise p) = nothing (with_promises (answer p (Finished (Bytes b)) s.promises) s)
close_steps_with b s (PipeRequest p) = causes (Pipe p ReadEnded ∷ []) s
close_steps_with b s (TeeRequest t) = causes (Tee t SourceClosed ∷ []) s

abbrev pub error_steps : Plain → Slots → ReadRequest → Done
error_steps e s (Promise p) = nothing (with_promises (settle p (Err e) s.promises) s)
error_steps e s (PipeRequest p) = causes (Pipe p ReadEnded ∷ []) s
error_steps e s (TeeRequest t) = causes (Tee t SourceErrored ∷ []) s

-- a call of a host's algorithm: a new promise with a new number, which the host hears of, and what is done with the promise
unfoldable pub call_host : HostCall → Use → Slots → Slots
call_host call u s =
    let p : PromiseId = next_id s.promises in
    record s {
      promises = use_this p (tell (HostCalled (record { 0 = length s.hosts }) call) (fresh s.promises)) u;
      hosts = s.hosts ++ Some p ∷ [];
    }

-- an operation that either kind of controller has
abbrev pub on_source : ReadableOperation → StreamId → Slots → Done
on_source operation i s =
    if has_byte i s then on_byte (byte_readable_operation i operation) i s else on_readable (readable_operation i operation) i s

-- what an effect does, and what it causes
unfoldable pub row : Effect → Slots → Done
row (Readable i operation) s = on_source operation i s
row (Byte i operation) s = on_byte (byte_operation i operation) i s
row (Writable i operation) s = on_writable (writable_operation i operation) i s
row (Pipe p operation) s = on_pipe (λ ends. pipe_operation p ends operation) p s
row (Signal a operation) s = on_signal (signal_operation operation) a s
row (Transform t operation) s = on_transform (λ halves. transform_operation t halves operation) t s
row (Tee t operation) s = on_tee (tee_operation t operation) t s
row (Port c operation) s = on_port (λ clones. port_operation c clones operation) c s
row (StartAlgorithm i step start) s = start_algorithm i step s start
row (PullAlgorithm i) s = causes (pull_algorithm i (React (ReadablePull i) None) (owner_at i s)) s
row (CancelAlgorithm i r p) s = causes (cancel_algorithm i r (React ReturnUndefined (Some p)) (owner_at i s)) s
row (WriteAlgorithm i) s = causes (write_algorithm i (owner_at i s)) s
row (CloseAlgorithm i) s = causes (close_algorithm i (React (WritableClose i) None) (owner_at i s)) s
row (AbortAlgorithm i r p) s = causes (abort_algorithm i r (React (WritableAbort i p) None) (owner_at i s)) s
row (ChunkSteps i request v) s = chunk_steps v s request
row (CloseSteps i request) s = close_steps s request
row (CloseStepsWith i request b) s = close_steps_with b s request
row (ErrorSteps i request e) s = error_steps e s request
row (Give gift u) s = nothing (with_promises (use_gift gift u s.promises) s)
row (Settle p outcome) s = nothing (with_promises (settle p outcome s.promises) s)
row (Queue m) s = nothing (with_promises (queue_micro m s.promises) s)
row (CallHost call u) s = nothing (call_host call u s)

-- the slots, and the effects that are still to be performed
pub record Agenda : Type 0 where
  pub slots : Slots
  pub effects : List Effect

-- one turn: the first effect is performed, and what it caused goes before the others
abbrev pub turn : Slots → List Effect → Agenda
turn s [] = record { slots = s; effects = [] }
turn s (e ∷ es) = record { slots = (row e s).slots; effects = (row e s).caused ++ es }

unfoldable pub turns : ℕ → Agenda → Agenda
turns zero a = a
turns (suc n) a = turns n (turn a.slots a.effects)

-- the agenda after so many turns from what was caused
abbrev pub after_turns : ℕ → Done → Agenda
after_turns n d = turns n (record { slots = d.slots; effects = d.caused })

-- The slots once all effects are performed: not the first alone, but the whole sequence of those that were caused, each with all that
-- it causes. It takes as many turns as they may take
unfoldable pub performed : Done → Slots
performed d = (after_turns (measure d.slots d.caused) d).slots

-- an effect that is performed, and the slots as it finds them
pub record Moment : Type 0 where
  pub effect : Effect
  pub found : Slots

-- the effects that so many turns perform, in their order
unfoldable pub moments_of : ℕ → Slots → List Effect → List Moment
moments_of zero s es = []
moments_of (suc n) s [] = []
moments_of (suc n) s (e ∷ es) = record { effect = e; found = s } ∷ moments_of n (row e s).slots ((row e s).caused ++ es)

-- the effects that are performed until none is left
unfoldable pub moments : Done → List Moment
moments d = moments_of (measure d.slots d.caused) d.slots d.caused

-- some number of turns leads to the slots z with nothing left to perform
pub record LeadsTo (d : Done) (z : Slots) : Type 0 where
  pub count : ℕ
  pub ends : after_turns count d ≡ record { slots = z; effects = [] }
