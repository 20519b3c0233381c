-- A pipe causes a write only where it writes the chunk that it holds.
use Rattle.ws_value.specs.declared.ids.TeeId.{TeeId}
use Rattle.ws_laws.proofs.PortDoes.{PortCauses}
use Rattle.ws_value.specs.declared.ids.PortId.{PortId}
use Rattle.ws_steps.specs.declared.effects.Effect.TheVariants.{Tee, Port}
use Rattle.std.proofs.Common.{Option, Some, None, arith}
use Rattle.ws_value.specs.declared.ids.PipeId.{PipeId}
use Rattle.ws_value.specs.declared.ids.{StreamId.{StreamId}}
use Rattle.ws_steps.specs.declared.transform.TransformId.{TransformId}
use Rattle.ws_value.specs.declared.value.Plain.{Plain}
use Rattle.ws_steps.specs.declared.effects.{Effect.{Effect}, Effect.TheVariants.{Readable, Writable, Pipe, Transform, StartAlgorithm, PullAlgorithm, CancelAlgorithm, WriteAlgorithm, CloseAlgorithm, AbortAlgorithm, Signal, ChunkSteps, CloseSteps, ErrorSteps}}
use Rattle.ws_steps.specs.declared.pipes.{Action.{Action}, Ends.{Ends}, Phase.{Phase}, PipeOperation.{PipeOperation}, SignalOperation.{SignalOperation}, SignalOperation.TheVariants.{Add, Forget, Trigger}}
use Rattle.ws_steps.specs.declared.pipes.PipeOperation.TheVariants as names
use Rattle.ws_steps.specs.declared.readable.{ReadRequest.{ReadRequest}, ReadRequest.TheVariants.{Promise, Pipe as PipeRequest, Tee as TeeRequest}, ReadableState.{ReadableState}}
use Rattle.ws_steps.specs.declared.writable.{WritableOperation.TheVariants.{Write}, WritableState.{WritableState}}
use Rattle.ws_value.specs.declared.value.Value.{Value}
use Rattle.ws_steps.specs.Operations.{pipe_operation}
use Rattle.ws_steps.specs.Pipes as pipe
use Rattle.ws_steps.specs.Pipes.{Acts, finalize, act_by_signal, act_by, act, proceed, shutdown, look_by, look, look_ready, go_on_in, go_on, keep_chunk, read_ended, write_ended, action_settled, part_settled, no_parts, abort}
use Rattle.ws_steps.specs.Slots.{Slots, found, ends_at, on_pipe_at}
use Rattle.ws_steps.specs.Turns.{row}
use Rattle.std.proofs.Common.{slice_get}
use Rattle.ws_laws.proofs.Lists.{Each, each-append}
use Rattle.ws_laws.proofs.TransformDoes.{TransformCauses}
use Rattle.ws_laws.proofs.TeeDoes.{TeeCauses}
use Rattle.ws_laws.proofs.Causes.{Causes, ChunkCauses, EndCauses, ErrorCauses, SignalCauses, row-causes}
use Rattle.ws_steps.specs.declared.effects.Effect.TheVariants.{Byte, CloseStepsWith}

-- effects that neither write nor have a pipe write
abbrev pub Quiet : Effect → Type 0
Quiet (Writable i (Write v p)) = ⊥
Quiet (Pipe p names.WriteChunk) = ⊥
Quiet _ = Unit {0}

module _ (me : PipeId) where
  abbrev Keeps : Acts → Acts → Type 0
  Keeps a b = Each Quiet a.out.effects → Each Quiet b.out.effects

  finalize-quiet : (error : Option Plain) (a : Acts) → Keeps a (finalize me error a)
  unfolding finalize
  finalize-quiet error a = grind (arith, each-append)

  signal-quiet : (r : Plain) (a : Acts) → Keeps a (act_by_signal me r a)
  unfolding act_by_signal
  signal-quiet r a = grind (arith, each-append)

  act_by-quiet : (ends : Ends) (a : Acts) (action : Option Action) → Keeps a (act_by me ends a action)
  act_by-quiet ends a action = grind (arith, each-append, finalize-quiet, signal-quiet)

  act-quiet : (ends : Ends) (a : Acts) → Keeps a (act me ends a)
  unfolding act
  act-quiet ends a = grind (arith, act_by-quiet)

  proceed-quiet : (ends : Ends) (a : Acts) → Keeps a (proceed me ends a)
  unfolding proceed
  proceed-quiet ends a = grind (arith, act-quiet)

  shutdown-quiet : (ends : Ends) (action : Option Action) (error : Option Plain) (a : Acts) → Keeps a (shutdown me ends action error a)
  unfolding shutdown
  shutdown-quiet ends action error a = grind (arith, proceed-quiet, act-quiet)

  look_by-quiet : (ends : Ends) (a : Acts) (s : ReadableState) (d : WritableState) → Keeps a (look_by me ends a s d)
  look_by-quiet ends a s d = grind (arith, each-append, shutdown-quiet)

  look-quiet : (ends : Ends) (a : Acts) → Keeps a (look me ends a)
  unfolding look
  look-quiet ends a = grind (arith, look_by-quiet)

  go_on-quiet : (ends : Ends) (a : Acts) (phase : Phase) → Keeps a (go_on_in me ends a phase)
  go_on-quiet ends a phase = grind (arith, look-quiet, proceed-quiet)

  operation-quiet : (ends : Ends) (operation : PipeOperation) (a : Acts) → Quiet (Pipe me operation) → Keeps a (pipe_operation me ends operation a)
  unfolding look_ready go_on keep_chunk read_ended write_ended action_settled part_settled no_parts abort
  operation-quiet ends names.Look a q = look-quiet ends a
  operation-quiet ends names.LookReady a q = grind (arith, look-quiet)
  operation-quiet ends (names.KeepChunk v) a q = grind arith
  operation-quiet ends names.ReadEnded a q = grind arith
  operation-quiet ends names.WriteChunk a q = absurd q
  operation-quiet ends names.GoOn a q = go_on-quiet ends a a.slots.phase
  operation-quiet ends names.WriteEnded a q = grind (arith, go_on-quiet)
  operation-quiet ends (names.Abort r) a q = shutdown-quiet ends _ _ a
  operation-quiet ends (names.ActionSettled outcome) a q = grind (arith, finalize-quiet)
  operation-quiet ends (names.PartSettled outcome) a q = grind arith
  operation-quiet ends names.NoParts a q = grind arith

-- other effects

abbrev IsNoPipe : Effect → Type 0
IsNoPipe (Pipe p operation) = ⊥
IsNoPipe _ = Unit {0}

chunk-quiet : (v : Value) (request : ReadRequest) → ChunkCauses Quiet v request
chunk-quiet v (Promise p) = tt
chunk-quiet v (PipeRequest p) = tt
chunk-quiet v (TeeRequest t) = tt

end-quiet : (request : ReadRequest) → EndCauses Quiet request
end-quiet (Promise p) = tt
end-quiet (PipeRequest p) = tt
end-quiet (TeeRequest t) = tt

error-quiet : (request : ReadRequest) → ErrorCauses Quiet request
error-quiet (Promise p) = tt
error-quiet (PipeRequest p) = tt
error-quiet (TeeRequest t) = tt

signal_quiet : (operation : SignalOperation) → SignalCauses Quiet operation
signal_quiet (Trigger r) = λ p. tt
signal_quiet (Add p) = tt
signal_quiet (Forget p) = tt

transform-quiet : (t : TransformId) (writable readable : StreamId) (e : Effect) → TransformCauses t writable readable e → Quiet e
transform-quiet t writable readable (Writable i (Write v p)) c = absurd c
transform-quiet t writable readable (Pipe p operation) c = absurd c
transform-quiet t writable readable _ c = tt

tee-quiet : (t : TeeId) (source first second : StreamId) (e : Effect) → TeeCauses t source first second e → Quiet e
tee-quiet t source first second (Writable i (Write v p)) c = absurd c
tee-quiet t source first second (Pipe p operation) c = absurd c
tee-quiet t source first second _ c = tt

port-quiet : (c : PortId) (stream : StreamId) (e : Effect) → PortCauses c stream e → Quiet e
port-quiet c stream (Writable i (Write v p)) k = absurd k
port-quiet c stream (Pipe p operation) k = absurd k
port-quiet c stream _ k = tt

pub quiet-causes : (e : Effect) → IsNoPipe e → Causes Quiet e
quiet-causes (Readable j operation) n = record { pull = tt; cancel = λ r p. tt; chunk = λ r v. tt; close = λ r. tt; error = λ r e. tt }
quiet-causes (Byte j operation) n = record { readable = record { pull = tt; cancel = λ r p. tt; chunk = λ r v. tt; close = λ r. tt; error = λ r e. tt }; close_with = λ r b. tt }
quiet-causes (Writable j operation) n = record { write = tt; close = tt; abort = λ r p. tt; hand_on = λ v. tt; take = λ v t d. tt; post = λ v c d. tt }
quiet-causes (Pipe p operation) n = absurd n
quiet-causes (Signal a operation) n = signal_quiet operation
quiet-causes (Transform t operation) n = λ writable readable e c. transform-quiet t writable readable e c
quiet-causes (Tee t operation) n = tee-quiet t
quiet-causes (Port c operation) n = port-quiet c
quiet-causes (StartAlgorithm j step start) n = (λ g u. tt, λ c u. tt)
quiet-causes (PullAlgorithm j) n = (λ c u. tt, (λ t u. tt, (λ t. tt, (λ u. tt, λ c. tt))))
quiet-causes (CancelAlgorithm j r p) n = (λ c u. tt, (λ t u. tt, (λ t half u. tt, λ c u. tt)))
quiet-causes (WriteAlgorithm j) n = (tt, (λ t u. tt, λ c u. tt))
quiet-causes (CloseAlgorithm j) n = (λ c u. tt, (λ t u. tt, λ c u. tt))
quiet-causes (AbortAlgorithm j r p) n = (λ c u. tt, (λ t u. tt, λ c u. tt))
quiet-causes (ChunkSteps j request v) n = chunk-quiet v request
quiet-causes (CloseSteps j request) n = end-quiet request
quiet-causes (CloseStepsWith j request b) n = end-quiet request
quiet-causes (ErrorSteps j request e) n = error-quiet request
quiet-causes _ n = tt

pipe_row-quiet : (p : PipeId) (operation : PipeOperation) (s : Slots) (o : Option pipe.Slots) → Quiet (Pipe p operation) → Each Quiet (on_pipe_at (λ ends. pipe_operation p ends operation) p s o).caused
pipe_row-quiet p operation s None q = tt
pipe_row-quiet p operation s (Some x) q = operation-quiet p (ends_at x s) operation (record { slots = x; out = found s }) q tt

-- what a quiet effect causes is quiet
pub row-quiet : (e : Effect) (s : Slots) → Quiet e → Each Quiet (row e s).caused
unfolding row
row-quiet (Pipe p operation) s q = pipe_row-quiet p operation s (slice_get s.pipes p.0) q
row-quiet e s q = row-causes Quiet e s (quiet-causes e tt)
