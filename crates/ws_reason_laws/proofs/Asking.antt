-- Which operations of a pipe ask its destination to close: only those by which it begins to act.
use Rattle.std.proofs.Common.{◌≡◌, ℕ, ◌-◌, Bool, true, false, not, ◌&&◌, ◌||◌, nat_eq, is_none, if◌then◌else◌, Option, Some, Ok, Err, refl, arith}
use Rattle.ws_value.specs.declared.ids.PipeId.{PipeId}
use Rattle.ws_value.specs.declared.ids.StreamId.{StreamId}
use Rattle.ws_value.specs.declared.value.Plain.{Plain}
use Rattle.ws_value.specs.declared.value.Value.{Value}
use Rattle.ws_steps.specs.declared.effects.Effect.{Effect}
use Rattle.ws_steps.specs.declared.effects.Effect.TheVariants.{Writable as OnWritable}
use Rattle.ws_steps.specs.declared.pipes.Action.{Action}
use Rattle.ws_steps.specs.declared.pipes.Action.TheVariants.{CancelSource}
use Rattle.ws_steps.specs.declared.pipes.Ends.{Ends}
use Rattle.ws_steps.specs.declared.pipes.Phase.{Phase}
use Rattle.ws_steps.specs.declared.pipes.Phase.TheVariants.{Flowing, Waiting, Acting, Over}
use Rattle.ws_steps.specs.declared.pipes.PipeOperation.{PipeOperation}
use Rattle.ws_steps.specs.declared.pipes.PipeOperation.TheVariants as names
use Rattle.ws_steps.specs.declared.readable.ReadableState.{ReadableState}
use Rattle.ws_steps.specs.declared.readable.ReadableState.TheVariants.{Readable, Closed, Errored}
use Rattle.ws_steps.specs.declared.writable.WritableOperation.{WritableOperation}
use Rattle.ws_steps.specs.declared.writable.WritableOperation.TheVariants as write_names
use Rattle.ws_steps.specs.declared.writable.WritableState.{WritableState}
use Rattle.ws_steps.specs.declared.writable.WritableState.TheVariants as dest
use Rattle.ws_steps.specs.Effects.{type_error}
use Rattle.ws_steps.specs.Histories.{is_same}
use Rattle.ws_steps.specs.Operations.{pipe_operation}
use Rattle.ws_steps.specs.Pipes.{Acts, with_slots, finalize, act_by_signal, act_by, act, proceed, is_flowing, shut_down, shutdown, unless, read_or_wait, look_by, look, look_ready, go_on_in, go_on, keep_chunk, read_ended, write_held, write_chunk, write_ended, action_settled, part_settled, no_parts, abort}
use Rattle.ws_steps.specs.Writable.{is_writable, is_closed}
use Rattle.ws_laws.proofs.Tables.{either}
use Rattle.ws_writable_laws.proofs.Shape.{one_if, all, all-append}

-- whether an operation asks a writable stream to close
abbrev pub is_asking : WritableOperation → Bool
is_asking (write_names.Close p) = true
is_asking (write_names.ClosePropagating p) = true
is_asking _ = false

-- an effect that asks stream j to close
abbrev pub asks : StreamId → Effect → ℕ
asks j (OnWritable i operation) = one_if (is_same j i && is_asking operation)
asks j _ = 0

-- whether the pipe flows or waits
abbrev pub goes : Phase → Bool
goes Flowing = true
goes Waiting = true
goes Acting = false
goes Over = false

module _ (me : PipeId) (j : StreamId) where
  -- from a pipe that goes, with nothing asked before; it goes on and has asked for nothing, or it goes no more
  pub record Quiet (a b : Acts) : Type 0 where
    pub before : goes b.slots.phase ≡ true → goes a.slots.phase ≡ true
    pub none : goes b.slots.phase ≡ true → all (asks j) b.out.effects ≡ all (asks j) a.out.effects

  quiet_over : (a b : Acts) → goes b.slots.phase ≡ false → Quiet a b
  quiet_over a b n = record { before = λ e. cc; none = λ e. cc }

  quiet_same : (a : Acts) → Quiet a a
  quiet_same a = record { before = λ e. e; none = λ e. refl }

  finalize-over : (error : Option Plain) (a : Acts) → goes (finalize me error a).slots.phase ≡ false
  unfolding finalize
  finalize-over error a = refl

  signal-acts : (r : Plain) (a : Acts) → (act_by_signal me r a).slots.phase ≡ a.slots.phase
  unfolding act_by_signal
  signal-acts r a = grind arith

  act_by-over : (ends : Ends) (a : Acts) (action : Option Action) → goes a.slots.phase ≡ false → goes (act_by me ends a action).slots.phase ≡ false
  act_by-over ends a action n = grind (arith, n, finalize-over, signal-acts)

  act-over : (ends : Ends) (a : Acts) → goes (act me ends a).slots.phase ≡ false
  unfolding act
  act-over ends a = act_by-over ends (with_slots (record a.slots { phase = Acting }) a) a.slots.action refl

  proceed-quiet : (ends : Ends) (a : Acts) → Quiet a (proceed me ends a)
  unfolding proceed
  proceed-quiet ends a =
      either (Quiet a) (is_none a.slots.held && nat_eq a.slots.unsettled 0) _ _ (λ e. quiet_over a (act me ends a) (act-over ends a)) (λ e. quiet_same a)

  flows : (phase : Phase) → is_flowing phase ≡ true → goes phase ≡ true
  flows phase f = grind (arith, f)

  shutdown-quiet : (ends : Ends) (action : Option Action) (error : Option Plain) (a : Acts) → Quiet a (shutdown me ends action error a)
  unfolding shutdown
  shutdown-quiet ends action error a =
      let z : Acts = with_slots (record a.slots { action = action; error = error }) a in
      let y : Acts = with_slots (record z.slots { phase = Waiting }) z in
      either (Quiet a) (is_flowing a.slots.phase) (shut_down me ends z) a
      (λ f. either (Quiet a) (is_writable ends.dest_state && not ends.dest_closing) (proceed me ends y) (act me ends z)
      (λ w. let s = proceed-quiet ends y in record { before = λ e. flows a.slots.phase f; none = λ e. s.none e })
      (λ w. quiet_over a (act me ends z) (act-over ends z)))
      (λ f. quiet_same a)

  read-quiet : (ends : Ends) (a : Acts) → Quiet a (read_or_wait me ends a)
  read-quiet ends a = grind (arith, all-append)

  open-quiet : (ends : Ends) (a : Acts) (d : WritableState)
      → Quiet a (if ends.dest_closing || is_closed d then shutdown me ends (unless a.slots.prevent.cancel (CancelSource type_error)) (Some type_error) a else if a.slots.reading then a else read_or_wait me ends a)
  open-quiet ends a d =
      either (Quiet a) (ends.dest_closing || is_closed d) _ _ (λ e. shutdown-quiet ends _ _ a)
      (λ e. either (Quiet a) a.slots.reading _ _ (λ r. quiet_same a) (λ r. read-quiet ends a))

  look_by-quiet : (ends : Ends) (a : Acts) (s : ReadableState) (d : WritableState) → Quiet a (look_by me ends a s d)
  look_by-quiet ends a Errored d = shutdown-quiet ends _ _ a
  look_by-quiet ends a Readable dest.Errored = shutdown-quiet ends _ _ a
  look_by-quiet ends a Closed dest.Errored = shutdown-quiet ends _ _ a
  look_by-quiet ends a Closed dest.Writable = shutdown-quiet ends _ _ a
  look_by-quiet ends a Closed dest.Erroring = shutdown-quiet ends _ _ a
  look_by-quiet ends a Closed dest.Closed = shutdown-quiet ends _ _ a
  look_by-quiet ends a Readable dest.Writable = open-quiet ends a dest.Writable
  look_by-quiet ends a Readable dest.Erroring = open-quiet ends a dest.Erroring
  look_by-quiet ends a Readable dest.Closed = open-quiet ends a dest.Closed

  look-quiet : (ends : Ends) (a : Acts) → Quiet a (look me ends a)
  unfolding look
  look-quiet ends a = either (Quiet a) (is_flowing a.slots.phase) _ _ (λ e. look_by-quiet ends a ends.source_state ends.dest_state) (λ e. quiet_same a)

  go_on-quiet : (ends : Ends) (a : Acts) (phase : Phase) → Quiet a (go_on_in me ends a phase)
  go_on-quiet ends a Flowing = look-quiet ends a
  go_on-quiet ends a Waiting = proceed-quiet ends a
  go_on-quiet ends a Acting = quiet_same a
  go_on-quiet ends a Over = quiet_same a

  write-quiet : (a : Acts) (held : Option Value) → Quiet a (write_held me a held)
  write-quiet a held = grind (arith, all-append)

  pub operation-quiet : (ends : Ends) (operation : PipeOperation) (a : Acts) → Quiet a (pipe_operation me ends operation a)
  unfolding look_ready go_on keep_chunk read_ended write_chunk write_ended action_settled part_settled no_parts abort
  operation-quiet ends names.Look a = look-quiet ends a
  operation-quiet ends names.LookReady a = let s = look-quiet ends (with_slots (record a.slots { waits = false }) a) in record { before = s.before; none = s.none }
  operation-quiet ends (names.KeepChunk v) a = record { before = λ e. e; none = λ e. refl }
  operation-quiet ends names.ReadEnded a = record { before = λ e. e; none = λ e. refl }
  operation-quiet ends names.WriteChunk a = write-quiet a a.slots.held
  operation-quiet ends names.GoOn a = go_on-quiet ends a a.slots.phase
  operation-quiet ends names.WriteEnded a = let s = go_on-quiet ends (with_slots (record a.slots { unsettled = a.slots.unsettled - 1 }) a) a.slots.phase in record { before = s.before; none = s.none }
  operation-quiet ends (names.Abort r) a = shutdown-quiet ends _ _ a
  operation-quiet ends (names.ActionSettled (Ok v)) a = quiet_over a (finalize me a.slots.error a) (finalize-over a.slots.error a)
  operation-quiet ends (names.ActionSettled (Err e)) a = quiet_over a (finalize me (Some e) a) (finalize-over (Some e) a)
  operation-quiet ends (names.PartSettled o) a = grind arith
  operation-quiet ends names.NoParts a = grind arith

  -- a pipe that doesn't go asks for nothing

  finalize-none : (error : Option Plain) (a : Acts) → all (asks j) (finalize me error a).out.effects ≡ all (asks j) a.out.effects
  unfolding finalize
  finalize-none error a = grind (arith, all-append)

  go_on-none : (ends : Ends) (a : Acts) (phase : Phase) → a.slots.phase ≡ phase → goes phase ≡ false → all (asks j) (go_on_in me ends a phase).out.effects ≡ all (asks j) a.out.effects
  go_on-none ends a Flowing e n = cc
  go_on-none ends a Waiting e n = cc
  go_on-none ends a Acting e n = refl
  go_on-none ends a Over e n = refl

  write-none : (a : Acts) (held : Option Value) → all (asks j) (write_held me a held).out.effects ≡ all (asks j) a.out.effects
  write-none a held = grind (arith, all-append)

  look-none : (ends : Ends) (a : Acts) → goes a.slots.phase ≡ false → all (asks j) (look me ends a).out.effects ≡ all (asks j) a.out.effects
  unfolding look
  look-none ends a n = either (λ (z : Acts). all (asks j) z.out.effects ≡ all (asks j) a.out.effects) (is_flowing a.slots.phase) _ _ (λ e. grind (arith, n, e)) (λ e. refl)

  shutdown-none : (ends : Ends) (action : Option Action) (error : Option Plain) (a : Acts) → goes a.slots.phase ≡ false → all (asks j) (shutdown me ends action error a).out.effects ≡ all (asks j) a.out.effects
  unfolding shutdown
  shutdown-none ends action error a n = either (λ (z : Acts). all (asks j) z.out.effects ≡ all (asks j) a.out.effects) (is_flowing a.slots.phase) _ _ (λ e. grind (arith, n, e)) (λ e. refl)

  pub operation-none : (ends : Ends) (operation : PipeOperation) (a : Acts) → goes a.slots.phase ≡ false → all (asks j) (pipe_operation me ends operation a).out.effects ≡ all (asks j) a.out.effects
  unfolding look_ready go_on keep_chunk read_ended write_chunk write_ended action_settled part_settled no_parts abort
  operation-none ends names.Look a n = look-none ends a n
  operation-none ends names.LookReady a n = look-none ends (with_slots (record a.slots { waits = false }) a) n
  operation-none ends (names.KeepChunk v) a n = refl
  operation-none ends names.ReadEnded a n = refl
  operation-none ends names.WriteChunk a n = write-none a a.slots.held
  operation-none ends names.GoOn a n = go_on-none ends a a.slots.phase refl n
  operation-none ends names.WriteEnded a n = go_on-none ends (with_slots (record a.slots { unsettled = a.slots.unsettled - 1 }) a) a.slots.phase refl n
  operation-none ends (names.Abort r) a n = shutdown-none ends _ _ a n
  operation-none ends (names.ActionSettled (Ok v)) a n = finalize-none a.slots.error a
  operation-none ends (names.ActionSettled (Err e)) a n = finalize-none (Some e) a
  operation-none ends (names.PartSettled o) a n = grind arith
  operation-none ends names.NoParts a n = grind arith
