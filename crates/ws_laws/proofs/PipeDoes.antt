-- What an operation of a pipe does outside its record: it makes promises, settles one, queues microtasks, and causes operations of its two
-- ends. Only one that looks may cause a read.
use Rattle.std.proofs.Common.{◌≡◌, Bool, true, false, List, Option, Result, arith, None}
use Rattle.ws_value.specs.declared.ids.PipeId.{PipeId}
use Rattle.ws_value.specs.declared.ids.PromiseId.{PromiseId}
use Rattle.ws_value.specs.declared.ids.StreamId.{StreamId}
use Rattle.ws_value.specs.declared.value.Plain.{Plain}
use Rattle.ws_value.specs.declared.value.Value.{Value}
use Rattle.ws_steps.specs.declared.effects.Effect.{Effect}
use Rattle.ws_steps.specs.declared.effects.Effect.TheVariants.{Readable, Writable, Pipe, Signal, Give, Settle, Queue}
use Rattle.ws_steps.specs.declared.pipes.Action.{Action}
use Rattle.ws_steps.specs.declared.pipes.Ends.{Ends}
use Rattle.ws_steps.specs.declared.pipes.Phase.{Phase}
use Rattle.ws_steps.specs.declared.pipes.PipeOperation.{PipeOperation}
use Rattle.ws_steps.specs.declared.pipes.PipeOperation.TheVariants as names
use Rattle.ws_steps.specs.declared.pipes.SignalOperation.TheVariants.{Forget}
use Rattle.ws_steps.specs.declared.effects.Gift.TheVariants.{This}
use Rattle.ws_steps.specs.declared.effects.Use.TheVariants.{React}
use Rattle.ws_steps.specs.declared.promises.Micro.{Micro}
use Rattle.ws_steps.specs.declared.promises.Micro.TheVariants.{PipeNoParts}
use Rattle.ws_steps.specs.declared.promises.Step.{Step}
use Rattle.ws_steps.specs.declared.promises.Step.TheVariants.{PipeReady, PipeWrote, PipeActed, PipePart}
use Rattle.ws_steps.specs.declared.readable.ReadRequest.TheVariants.{Pipe as PipeRequest}
use Rattle.ws_steps.specs.declared.readable.ReadableOperation.TheVariants.{ReleaseReader, Read, Cancel, CancelIfReadable}
use Rattle.ws_steps.specs.declared.readable.ReadableState.{ReadableState}
use Rattle.ws_steps.specs.declared.writable.WritableOperation.TheVariants.{ReleaseWriter, Write, ClosePropagating, Abort, AbortIfWritable}
use Rattle.ws_steps.specs.declared.writable.WritableState.{WritableState}
use Rattle.ws_steps.specs.Operations.{pipe_operation}
use Rattle.ws_steps.specs.Promises.{Table, fresh, settle, queue_micro}
use Rattle.ws_steps.specs.Pipes.{Slots, Acts, finalize, act_by_signal, act_by, act, proceed, shutdown, look_by, look, look_ready, go_on_in, go_on, keep_chunk, read_ended, write_held, write_chunk, write_ended, action_settled, part_settled, no_parts, abort}
use Rattle.ws_laws.proofs.Lists.{Each, each-append}

-- a step with which the pipe reacts, and a microtask that it queues, as an effect

abbrev pub IsStepOf : PipeId → Step → Type 0
IsStepOf me (PipeReady p) = p ≡ me
IsStepOf me (PipeWrote p) = p ≡ me
IsStepOf me (PipeActed p) = p ≡ me
IsStepOf me (PipePart p) = p ≡ me
IsStepOf me step = ⊥

abbrev pub IsMicroOf : PipeId → Micro → Type 0
IsMicroOf me (PipeNoParts p) = p ≡ me
IsMicroOf me m = ⊥

-- what a pipe between these streams may cause
abbrev pub PipeCauses : PipeId → StreamId → StreamId → Effect → Type 0
PipeCauses me source dest (Readable i (Read request)) = (i ≡ source) × (request ≡ PipeRequest me)
PipeCauses me source dest (Readable i (Cancel r p)) = i ≡ source
PipeCauses me source dest (Readable i (CancelIfReadable r p)) = i ≡ source
PipeCauses me source dest (Readable i ReleaseReader) = i ≡ source
PipeCauses me source dest (Readable i operation) = ⊥
PipeCauses me source dest (Writable i (Write v p)) = i ≡ dest
PipeCauses me source dest (Writable i (ClosePropagating p)) = i ≡ dest
PipeCauses me source dest (Writable i (Abort r p)) = i ≡ dest
PipeCauses me source dest (Writable i (AbortIfWritable r p)) = i ≡ dest
PipeCauses me source dest (Writable i ReleaseWriter) = i ≡ dest
PipeCauses me source dest (Writable i operation) = ⊥
PipeCauses me source dest (Pipe p names.GoOn) = p ≡ me
PipeCauses me source dest (Pipe p operation) = ⊥
PipeCauses me source dest (Signal a (Forget p)) = p ≡ me
PipeCauses me source dest (Signal a operation) = ⊥
PipeCauses me source dest (Give (This p) (React step None)) = IsStepOf me step
PipeCauses me source dest (Give gift u) = ⊥
PipeCauses me source dest (Settle p o) = Unit {0}
PipeCauses me source dest (Queue m) = IsMicroOf me m
PipeCauses me source dest _ = ⊥

module _ (me : PipeId) where
  abbrev All : Slots → List Effect → Type 0
  All x es = Each (PipeCauses me x.source x.dest) es

  -- the effects after an operation are such, and the ends are the same
  abbrev Causes : Acts → Acts → Type 0
  Causes a b = All a.slots a.out.effects → (b.slots.source ≡ a.slots.source) × ((b.slots.dest ≡ a.slots.dest) × All a.slots b.out.effects)

  finalize-causes : (error : Option Plain) (a : Acts) → Causes a (finalize me error a)
  unfolding finalize
  finalize-causes error a = grind (arith, each-append)

  signal-causes : (r : Plain) (a : Acts) → Causes a (act_by_signal me r a)
  unfolding act_by_signal
  signal-causes r a = grind (arith, each-append)

  act_by-causes : (ends : Ends) (a : Acts) (action : Option Action) → Causes a (act_by me ends a action)
  act_by-causes ends a action = grind (arith, each-append, finalize-causes, signal-causes)

  act-causes : (ends : Ends) (a : Acts) → Causes a (act me ends a)
  unfolding act
  act-causes ends a = grind (arith, act_by-causes)

  proceed-causes : (ends : Ends) (a : Acts) → Causes a (proceed me ends a)
  unfolding proceed
  proceed-causes ends a = grind (arith, act-causes)

  shutdown-causes : (ends : Ends) (action : Option Action) (error : Option Plain) (a : Acts) → Causes a (shutdown me ends action error a)
  unfolding shutdown
  shutdown-causes ends action error a = grind (arith, proceed-causes, act-causes)

  look_by-causes : (ends : Ends) (a : Acts) (s : ReadableState) (d : WritableState) → Causes a (look_by me ends a s d)
  look_by-causes ends a s d = grind (arith, each-append, shutdown-causes)

  look-causes : (ends : Ends) (a : Acts) → Causes a (look me ends a)
  unfolding look
  look-causes ends a = grind (arith, look_by-causes)

  go_on-causes : (ends : Ends) (a : Acts) (phase : Phase) → Causes a (go_on_in me ends a phase)
  go_on-causes ends a phase = grind (arith, look-causes, proceed-causes)

  write-causes : (a : Acts) (held : Option Value) → Causes a (write_held me a held)
  write-causes a held = grind (arith, each-append)

  pub pipe-causes : (ends : Ends) (operation : PipeOperation) (a : Acts) → Causes a (pipe_operation me ends operation a)
  unfolding look_ready go_on keep_chunk read_ended write_chunk write_ended action_settled part_settled no_parts abort
  pipe-causes ends names.Look a = look-causes ends a
  pipe-causes ends names.LookReady a = grind (arith, look-causes)
  pipe-causes ends (names.KeepChunk v) a = grind arith
  pipe-causes ends names.ReadEnded a = grind arith
  pipe-causes ends names.WriteChunk a = write-causes a a.slots.held
  pipe-causes ends names.GoOn a = go_on-causes ends a a.slots.phase
  pipe-causes ends names.WriteEnded a = grind (arith, go_on-causes)
  pipe-causes ends (names.Abort r) a = shutdown-causes ends _ _ a
  pipe-causes ends (names.ActionSettled outcome) a = grind (arith, finalize-causes)
  pipe-causes ends (names.PartSettled outcome) a = grind arith
  pipe-causes ends names.NoParts a = grind arith

-- whether an operation may read, or go on to one that may
abbrev pub is_looking : PipeOperation → Bool
is_looking names.Look = true
is_looking names.LookReady = true
is_looking names.WriteChunk = true
is_looking names.GoOn = true
is_looking names.WriteEnded = true
is_looking _ = false

abbrev pub IsQuiet : Effect → Type 0
IsQuiet (Readable i (Read request)) = ⊥
IsQuiet (Pipe p operation) = ⊥
IsQuiet _ = Unit {0}

module _ (me : PipeId) where
  abbrev Quiet : Acts → Acts → Type 0
  Quiet a b = Each IsQuiet a.out.effects → Each IsQuiet b.out.effects

  finalize-quiet : (error : Option Plain) (a : Acts) → Quiet a (finalize me error a)
  unfolding finalize
  finalize-quiet error a = grind (arith, each-append)

  signal-quiet : (r : Plain) (a : Acts) → Quiet a (act_by_signal me r a)
  unfolding act_by_signal
  signal-quiet r a = grind (arith, each-append)

  act_by-quiet : (ends : Ends) (a : Acts) (action : Option Action) → Quiet a (act_by me ends a action)
  act_by-quiet ends a action = grind (arith, each-append, finalize-quiet, signal-quiet)

  act-quiet : (ends : Ends) (a : Acts) → Quiet a (act me ends a)
  unfolding act
  act-quiet ends a = grind (arith, act_by-quiet)

  shutdown-quiet : (ends : Ends) (action : Option Action) (error : Option Plain) (a : Acts) → Quiet a (shutdown me ends action error a)
  unfolding shutdown proceed
  shutdown-quiet ends action error a = grind (arith, act-quiet)

  pub pipe-quiet : (ends : Ends) (operation : PipeOperation) (a : Acts) → is_looking operation ≡ false → Quiet a (pipe_operation me ends operation a)
  unfolding keep_chunk read_ended action_settled part_settled no_parts abort
  pipe-quiet ends (names.KeepChunk v) a quiet = grind arith
  pipe-quiet ends names.ReadEnded a quiet = grind arith
  pipe-quiet ends (names.Abort r) a quiet = shutdown-quiet ends _ _ a
  pipe-quiet ends (names.ActionSettled outcome) a quiet = grind (arith, finalize-quiet)
  pipe-quiet ends (names.PartSettled outcome) a quiet = grind arith
  pipe-quiet ends names.NoParts a quiet = grind arith
  pipe-quiet ends _ a quiet = cc

-- what goes on with what a pipe does to promises
pub record OfPipe (T : Table → Type 0) : Type 0 where
  pub fresh : (t : Table) → T t → T (fresh t)
  pub settle : (t : Table) (p : PromiseId) (o : Result Plain Plain) → T t → T (settle p o t)
  pub micro : (t : Table) (m : Micro) → T t → T (queue_micro m t)

module _ (T : Table → Type 0) (of : OfPipe T) (me : PipeId) where
  abbrev Does : Acts → Acts → Type 0
  Does a b = T a.out.promises → T b.out.promises

  signal-does : (r : Plain) (a : Acts) → Does a (act_by_signal me r a)
  unfolding act_by_signal
  signal-does r a = grind (arith, of.fresh)

  act_by-does : (ends : Ends) (a : Acts) (action : Option Action) → Does a (act_by me ends a action)
  unfolding finalize
  act_by-does ends a action = grind (arith, of.fresh, signal-does)

  act-does : (ends : Ends) (a : Acts) → Does a (act me ends a)
  unfolding act
  act-does ends a = grind (arith, act_by-does)

  shutdown-does : (ends : Ends) (action : Option Action) (error : Option Plain) (a : Acts) → Does a (shutdown me ends action error a)
  unfolding shutdown proceed
  shutdown-does ends action error a = grind (arith, act-does)

  look-does : (ends : Ends) (a : Acts) → Does a (look me ends a)
  unfolding look
  look-does ends a = grind (arith, shutdown-does)

  go_on-does : (ends : Ends) (a : Acts) (phase : Phase) → Does a (go_on_in me ends a phase)
  unfolding proceed
  go_on-does ends a phase = grind (arith, look-does, act-does)

  write-does : (a : Acts) (held : Option Value) → Does a (write_held me a held)
  write-does a held = grind (arith, of.fresh)

  pub pipe-does : (ends : Ends) (operation : PipeOperation) (a : Acts) → Does a (pipe_operation me ends operation a)
  unfolding look_ready go_on keep_chunk read_ended write_chunk write_ended action_settled part_settled no_parts abort finalize
  pipe-does ends names.Look a = look-does ends a
  pipe-does ends names.LookReady a = grind (arith, look-does)
  pipe-does ends (names.KeepChunk v) a = grind (arith, of.micro)
  pipe-does ends names.ReadEnded a = grind (arith, of.micro)
  pipe-does ends names.WriteChunk a = write-does a a.slots.held
  pipe-does ends names.GoOn a = go_on-does ends a a.slots.phase
  pipe-does ends names.WriteEnded a = grind (arith, go_on-does)
  pipe-does ends (names.Abort r) a = shutdown-does ends _ _ a
  pipe-does ends (names.ActionSettled outcome) a = grind arith
  pipe-does ends (names.PartSettled outcome) a = grind (arith, of.settle)
  pipe-does ends names.NoParts a = grind (arith, of.settle)
