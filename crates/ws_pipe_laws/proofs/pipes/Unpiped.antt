-- An operation of a pipe causes no operation of a pipe, but for a write.
use Rattle.std.proofs.Common.{◌≡◌, Option, refl, arith}
use Rattle.ws_value.specs.declared.{ids.PipeId.{PipeId}, value.Plain.{Plain}}
use Rattle.ws_steps.specs.declared.effects.{Effect.{Effect}, Effect.TheVariants.{Pipe}}
use Rattle.ws_steps.specs.declared.pipes.{Action.{Action}, Ends.{Ends}, Phase.{Phase}, PipeOperation.{PipeOperation}}
use Rattle.ws_steps.specs.declared.pipes.PipeOperation.TheVariants.{Look, LookReady, KeepChunk, ReadEnded, WriteChunk, GoOn, WriteEnded, Abort as AbortPipe, ActionSettled, PartSettled, NoParts}
use Rattle.ws_steps.specs.declared.{readable.ReadableState.{ReadableState}, writable.WritableState.{WritableState}}
use Rattle.ws_steps.specs.Operations.{pipe_operation}
use Rattle.ws_steps.specs.Pipes.{Acts, finalize, act_by_signal, act_by, act, proceed, shutdown, look_by, look, look_ready, go_on_in, go_on, keep_chunk, read_ended, write_ended, action_settled, part_settled, no_parts, abort}
use Rattle.ws_laws.proofs.Lists.{Each, each-append}

-- what a pipe causes but for a write: no operation of a pipe
abbrev pub IsUnpiped : Effect → Type 0
IsUnpiped (Pipe p operation) = ⊥
IsUnpiped _ = Unit {0}

module _ (me : PipeId) where
  abbrev Keeps : Acts → Acts → Type 0
  Keeps a b = Each IsUnpiped a.out.effects → Each IsUnpiped b.out.effects

  finalize-unpiped : (error : Option Plain) (a : Acts) → Keeps a (finalize me error a)
  unfolding finalize
  finalize-unpiped error a = grind (arith, each-append)

  signal-unpiped : (r : Plain) (a : Acts) → Keeps a (act_by_signal me r a)
  unfolding act_by_signal
  signal-unpiped r a = grind (arith, each-append)

  act_by-unpiped : (ends : Ends) (a : Acts) (action : Option Action) → Keeps a (act_by me ends a action)
  act_by-unpiped ends a action = grind (arith, each-append, finalize-unpiped, signal-unpiped)

  act-unpiped : (ends : Ends) (a : Acts) → Keeps a (act me ends a)
  unfolding act
  act-unpiped ends a = grind (arith, act_by-unpiped)

  proceed-unpiped : (ends : Ends) (a : Acts) → Keeps a (proceed me ends a)
  unfolding proceed
  proceed-unpiped ends a = grind (arith, act-unpiped)

  shutdown-unpiped : (ends : Ends) (action : Option Action) (error : Option Plain) (a : Acts) → Keeps a (shutdown me ends action error a)
  unfolding shutdown
  shutdown-unpiped ends action error a = grind (arith, proceed-unpiped, act-unpiped)

  look_by-unpiped : (ends : Ends) (a : Acts) (s : ReadableState) (d : WritableState) → Keeps a (look_by me ends a s d)
  look_by-unpiped ends a s d = grind (arith, each-append, shutdown-unpiped)

  look-unpiped : (ends : Ends) (a : Acts) → Keeps a (look me ends a)
  unfolding look
  look-unpiped ends a = grind (arith, look_by-unpiped)

  go_on-unpiped : (ends : Ends) (a : Acts) (phase : Phase) → Keeps a (go_on_in me ends a phase)
  go_on-unpiped ends a phase = grind (arith, look-unpiped, proceed-unpiped)

  pub operation-unpiped : (ends : Ends) (operation : PipeOperation) (a : Acts) → (operation ≡ WriteChunk → ⊥) → Keeps a (pipe_operation me ends operation a)
  unfolding look_ready go_on keep_chunk read_ended write_ended action_settled part_settled no_parts abort
  operation-unpiped ends Look a q = look-unpiped ends a
  operation-unpiped ends LookReady a q = grind (arith, look-unpiped)
  operation-unpiped ends (KeepChunk v) a q = grind arith
  operation-unpiped ends ReadEnded a q = grind arith
  operation-unpiped ends WriteChunk a q = absurd (q refl)
  operation-unpiped ends GoOn a q = go_on-unpiped ends a a.slots.phase
  operation-unpiped ends WriteEnded a q = grind (arith, go_on-unpiped)
  operation-unpiped ends (AbortPipe r) a q = shutdown-unpiped ends _ _ a
  operation-unpiped ends (ActionSettled outcome) a q = grind (arith, finalize-unpiped)
  operation-unpiped ends (PartSettled outcome) a q = grind arith
  operation-unpiped ends NoParts a q = grind arith
