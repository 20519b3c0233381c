-- What a pipe passes on, and the writes that it causes (`each_pass_is_a_write`).
use Rattle.std.proofs.Common.{◌≡◌, true, false, ◌&&◌, List, [], ◌∷◌, Option, Some, None, refl, arith}
use Rattle.ws_value.specs.declared.{ids.PipeId.{PipeId}, value.Plain.{Plain}, value.Value.{Value}}
use Rattle.ws_steps.specs.declared.effects.Effect.{Effect}
use Rattle.ws_steps.specs.declared.effects.Effect.TheVariants.{Writable as OnWritable}
use Rattle.ws_steps.specs.declared.pipes.{Action.{Action}, Ends.{Ends}, Phase.{Phase}, Phase.TheVariants.{Flowing, Waiting, Acting, Over}}
use Rattle.ws_steps.specs.declared.pipes.{PipeOperation.{PipeOperation}, PipeOperation.TheVariants.{Look, LookReady, KeepChunk, ReadEnded, WriteChunk, GoOn, WriteEnded, Abort as AbortPipe, ActionSettled, PartSettled, NoParts}}
use Rattle.ws_steps.specs.declared.readable.ReadableState.{ReadableState}
use Rattle.ws_steps.specs.declared.writable.{WritableOperation.TheVariants.{Write}, WritableState.{WritableState}}
use Rattle.ws_steps.specs.Histories.{is_same}
use Rattle.ws_steps.specs.Operations.{pipe_operation}
use Rattle.ws_pipe_laws.specs.pipes.PipeMoves.{starting}
use Rattle.ws_pipe_laws.specs.pipes.PipeReads.{chunks_written, promises_written, are_written_to, IsWritten, EachPassIsAWrite}
use Rattle.ws_steps.specs.Pipes.{Slots, Acts, finalize, act_by_signal, act_by, act, proceed, shutdown, look_by, look, look_ready, go_on_in, go_on, keep_chunk, read_ended, write_in, write_held, write_chunk, write_ended, action_settled, part_settled, no_parts, abort}
use Rattle.ws_steps.specs.Promises.{Table, next_id}
use Rattle.ws_laws.proofs.Lists.{Each, each-append}
use Rattle.ws_laws.proofs.Tables.{is_same-refl}
use Rattle.ws_pipe_laws.specs.pipes.PipeHistory.{held_goes, held_promise}

-- no write
abbrev pub IsUnwritten : Effect → Type 0
IsUnwritten (OnWritable i (Write v d)) = ⊥
IsUnwritten _ = Unit {0}

module _ (me : PipeId) where
  abbrev Keeps : Acts → Acts → Type 0
  Keeps a b = Each IsUnwritten a.out.effects → Each IsUnwritten b.out.effects

  finalize-unwritten : (error : Option Plain) (a : Acts) → Keeps a (finalize me error a)
  unfolding finalize
  finalize-unwritten error a = grind (arith, each-append)

  signal-unwritten : (r : Plain) (a : Acts) → Keeps a (act_by_signal me r a)
  unfolding act_by_signal
  signal-unwritten r a = grind (arith, each-append)

  act_by-unwritten : (ends : Ends) (a : Acts) (action : Option Action) → Keeps a (act_by me ends a action)
  act_by-unwritten ends a action = grind (arith, each-append, finalize-unwritten, signal-unwritten)

  act-unwritten : (ends : Ends) (a : Acts) → Keeps a (act me ends a)
  unfolding act
  act-unwritten ends a = grind (arith, act_by-unwritten)

  proceed-unwritten : (ends : Ends) (a : Acts) → Keeps a (proceed me ends a)
  unfolding proceed
  proceed-unwritten ends a = grind (arith, act-unwritten)

  shutdown-unwritten : (ends : Ends) (action : Option Action) (error : Option Plain) (a : Acts) → Keeps a (shutdown me ends action error a)
  unfolding shutdown
  shutdown-unwritten ends action error a = grind (arith, proceed-unwritten, act-unwritten)

  look_by-unwritten : (ends : Ends) (a : Acts) (s : ReadableState) (d : WritableState) → Keeps a (look_by me ends a s d)
  look_by-unwritten ends a s d = grind (arith, each-append, shutdown-unwritten)

  look-unwritten : (ends : Ends) (a : Acts) → Keeps a (look me ends a)
  unfolding look
  look-unwritten ends a = grind (arith, look_by-unwritten)

  go_on-unwritten : (ends : Ends) (a : Acts) (phase : Phase) → Keeps a (go_on_in me ends a phase)
  go_on-unwritten ends a phase = grind (arith, look-unwritten, proceed-unwritten)

  pub operation-unwritten : (ends : Ends) (operation : PipeOperation) (a : Acts) → (operation ≡ WriteChunk → ⊥) → Keeps a (pipe_operation me ends operation a)
  unfolding look_ready go_on keep_chunk read_ended write_ended action_settled part_settled no_parts abort
  operation-unwritten ends Look a q = look-unwritten ends a
  operation-unwritten ends LookReady a q = grind (arith, look-unwritten)
  operation-unwritten ends (KeepChunk v) a q = grind arith
  operation-unwritten ends ReadEnded a q = grind arith
  operation-unwritten ends WriteChunk a q = absurd (q refl)
  operation-unwritten ends GoOn a q = go_on-unwritten ends a a.slots.phase
  operation-unwritten ends WriteEnded a q = grind (arith, go_on-unwritten)
  operation-unwritten ends (AbortPipe r) a q = shutdown-unwritten ends _ _ a
  operation-unwritten ends (ActionSettled outcome) a q = grind (arith, finalize-unwritten)
  operation-unwritten ends (PartSettled outcome) a q = grind arith
  operation-unwritten ends NoParts a q = grind arith

none_written : (es : List Effect) → Each IsUnwritten es → chunks_written es ≡ []
none_written [] n = refl
none_written (OnWritable i (Write v d) ∷ es) n = absurd (n.0)
none_written (e ∷ es) n = none_written es n.1

none_promised : (es : List Effect) → Each IsUnwritten es → promises_written es ≡ []
none_promised [] n = refl
none_promised (OnWritable i (Write v d) ∷ es) n = absurd (n.0)
none_promised (e ∷ es) n = none_promised es n.1

none_elsewhere : (x : Slots) (es : List Effect) → Each IsUnwritten es → are_written_to x.dest es ≡ true
none_elsewhere x [] n = refl
none_elsewhere x (OnWritable i (Write v d) ∷ es) n = absurd (n.0)
none_elsewhere x (e ∷ es) n = none_elsewhere x es n.1

record Writes (phase : Phase) (held : Option Value) (x : Slots) (t : Table) (es : List Effect) : Type 0 where
  chunks : chunks_written es ≡ (held_goes phase held).passed
  promises : promises_written es ≡ held_promise phase held (next_id t)
  dest : are_written_to x.dest es ≡ true

there : (x : Slots) → is_same x.dest x.dest && true ≡ true
there x = let e = is_same-refl x.dest in rw e refl

writes_in : (me : PipeId) (x : Slots) (t : Table) (v : Value) (phase : Phase) → Writes phase (Some v) x t (write_in me v (starting (record x { held = None; reading = false }) t) phase).out.effects
writes_in me x t v Flowing = record { chunks = refl; promises = refl; dest = there x }
writes_in me x t v Waiting = record { chunks = refl; promises = refl; dest = there x }
writes_in me x t v Acting = record { chunks = refl; promises = refl; dest = refl }
writes_in me x t v Over = record { chunks = refl; promises = refl; dest = refl }

writes_held : (me : PipeId) (x : Slots) (t : Table) (held : Option Value) → Writes x.phase held x t (write_held me (starting x t) held).out.effects
writes_held me x t None = record { chunks = refl; promises = none x.phase; dest = refl }
  where
    none : (phase : Phase) → ◌≡◌ {A = List _} [] (held_promise phase None (next_id t))
    none Flowing = refl
    none Waiting = refl
    none Acting = refl
    none Over = refl
writes_held me x t (Some v) = writes_in me x t v x.phase

other_writes : (me : PipeId) (ends : Ends) (operation : PipeOperation) (x : Slots) (t : Table) → (operation ≡ WriteChunk → ⊥) → IsWritten operation x t (pipe_operation me ends operation (starting x t)).out.effects
other_writes me ends operation x t q = let es : List Effect = (pipe_operation me ends operation (starting x t)).out.effects in let n = operation-unwritten me ends operation (starting x t) q tt in by operation q n
  where
    by : (o : PipeOperation) → (o ≡ WriteChunk → ⊥) → Each IsUnwritten (pipe_operation me ends operation (starting x t)).out.effects → IsWritten o x t (pipe_operation me ends operation (starting x t)).out.effects
    by WriteChunk q n = absurd (q refl)
    by _ q n = let es : List Effect = (pipe_operation me ends operation (starting x t)).out.effects in record { chunks = none_written es n; promises = none_promised es n; dest = none_elsewhere x es n }

pub each_pass_is_a_write : EachPassIsAWrite
unfolding write_chunk
each_pass_is_a_write me ends WriteChunk x t = let w = writes_held me x t x.held in record { chunks = w.chunks; promises = w.promises; dest = w.dest }
each_pass_is_a_write me ends operation x t = other_writes me ends operation x t (λ e. cc)
