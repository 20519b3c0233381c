-- A pipe whose destination isn't writable, or is closing, as the pipe is made reads nothing, so it writes nothing.
use Rattle.std.proofs.Common.{◌≡◌, inl, ℕ, ◌+◌, ◌-◌, ◌≤◌, Bool, true, false, not, ◌&&◌, ◌||◌, [], length, Option, Some, None, Ok, Err, refl, sym, subst, ◌∙◌, arith, if◌then◌else◌}
use Rattle.ws_value.specs.declared.{ids.PipeId.{PipeId}, ids.PromiseId.{PromiseId}, value.{Plain.TheVariants.{Undefined}, Value.{Value}}}
use Rattle.ws_steps.specs.declared.pipes.{Action.TheVariants.{CancelSource, BySignal}, Ends.{Ends}, Phase.{Phase}, Phase.TheVariants.{Flowing, Waiting, Acting, Over}}
use Rattle.ws_steps.specs.declared.pipes.{PipeOperation.{PipeOperation}, PipeOperation.TheVariants.{Look, LookReady, KeepChunk, ReadEnded, WriteChunk, GoOn, WriteEnded, Abort as AbortPipe, ActionSettled, PartSettled, NoParts}}
use Rattle.ws_steps.specs.declared.readable.{ReadableState.{ReadableState}, ReadableState.TheVariants.{Readable, Closed, Errored}}
use Rattle.ws_steps.specs.declared.writable.{WritableState.{WritableState}, WritableState.TheVariants.{Writable, Erroring, Errored as WritableErrored, Closed as WritableClosed}}
use Rattle.ws_steps.specs.Effects.{type_error}
use Rattle.ws_steps.specs.Operations.{pipe_operation}
use Rattle.ws_steps.specs.Pipes as pipe
use Rattle.ws_steps.specs.Pipes.{Acts, is_flowing, shutdown, unless, wait_for_ready, read_or_wait, look_by, look, look_ready, go_on_in, go_on, keep_chunk, read_ended, write_in, write_held, write_chunk, write_ended, action_settled, settle_whole, no_parts, abort}
use Rattle.ws_steps.specs.Promises.{Table}
use Rattle.ws_steps.specs.Slots.{Slots, ends_at, writable_at}
use Rattle.ws_steps.specs.Writable.{is_closed, is_writable}
use Rattle.ws_laws.proofs.Tables.{either}
use Rattle.ws_laws.proofs.Truth.{false_true, nor_left}
use Rattle.ws_pipe_laws.specs.pipes.PipeHistory.{operation_promises, held_promise}
use Rattle.ws_pipe_laws.specs.pipes.PipeMoves.{starting}
use Rattle.ws_pipe_laws.specs.pipes.PipeReads.{held_values, one_if}
use Rattle.ws_end_laws.proofs.ends.ReadyWaits.{finalize-keeps, shutdown-keeps, go_on-keeps, part-keeps}
use Rattle.ws_end_laws.proofs.hosts.Spent.{Spent}

-- the destination wants no chunk, or is closing
abbrev pub Unwanting : Ends → Type 0
Unwanting ends = ends.dest_wants && not ends.dest_closing ≡ false

pub spent-unwanting : (x : pipe.Slots) (s : Slots) → Spent (writable_at x.dest s) → Unwanting (ends_at x s)
spent-unwanting x s k = by (is_writable (writable_at x.dest s).state) refl
  where
    by : (b : Bool) → is_writable (writable_at x.dest s).state ≡ b → Unwanting (ends_at x s)
    by true e = grind (arith, e, k)
    by false e = rw e refl

-- an operation of a pipe with such a destination begins no read

module _ (me : PipeId) (ends : Ends) (n : Unwanting ends) where
  abbrev IsIdle : Acts → Type 0
  IsIdle a = a.slots.reading ≡ false

  ready-idle : (a : Acts) (o : Option PromiseId) → IsIdle a → IsIdle (wait_for_ready me a o)
  ready-idle a None r = r
  ready-idle a (Some d) r = r

  open_wants : ends.dest_closing ≡ false → ends.dest_wants ≡ true → ⊥
  open_wants c w = false_true (ends.dest_wants && not ends.dest_closing) (rw (c, w) refl) n

  read-idle : (a : Acts) → ends.dest_closing ≡ false → IsIdle a → IsIdle (read_or_wait me ends a)
  read-idle a c r =
      either IsIdle ends.dest_wants _ _ (λ w. absurd (open_wants c w))
      (λ w. either IsIdle (not a.slots.waits && is_writable ends.dest_state) (wait_for_ready me a ends.dest_ready) a (λ e. ready-idle a ends.dest_ready r) (λ e. r))

  shut-idle : (action : _) (error : _) (a : Acts) → IsIdle a → IsIdle (shutdown me ends action error a)
  shut-idle action error a r = (shutdown-keeps me ends action error a).1 ∙ r

  open-idle : (a : Acts) (d : WritableState) → IsIdle a
      → IsIdle (if ends.dest_closing || is_closed d then shutdown me ends (unless a.slots.prevent.cancel (CancelSource type_error)) (Some type_error) a else if a.slots.reading then a else read_or_wait me ends a)
  open-idle a d r =
      either IsIdle (ends.dest_closing || is_closed d) _ _ (λ e. shut-idle _ _ a r)
      (λ e. either IsIdle a.slots.reading a (read_or_wait me ends a) (λ f. r) (λ f. read-idle a (nor_left ends.dest_closing (is_closed d) e) r))

  look_by-idle : (a : Acts) (s : ReadableState) (d : WritableState) → IsIdle a → IsIdle (look_by me ends a s d)
  look_by-idle a Errored d r = shut-idle _ _ a r
  look_by-idle a Readable WritableErrored r = shut-idle _ _ a r
  look_by-idle a Closed WritableErrored r = shut-idle _ _ a r
  look_by-idle a Closed Writable r = shut-idle _ _ a r
  look_by-idle a Closed Erroring r = shut-idle _ _ a r
  look_by-idle a Closed WritableClosed r = shut-idle _ _ a r
  look_by-idle a Readable Writable r = open-idle a Writable r
  look_by-idle a Readable Erroring r = open-idle a Erroring r
  look_by-idle a Readable WritableClosed r = open-idle a WritableClosed r

  look-idle : (a : Acts) → IsIdle a → IsIdle (look me ends a)
  unfolding look
  look-idle a r = either IsIdle (is_flowing a.slots.phase) (look_by me ends a ends.source_state ends.dest_state) a (λ e. look_by-idle a ends.source_state ends.dest_state r) (λ e. r)

  go_on-idle : (a : Acts) (phase : Phase) → a.slots.phase ≡ phase → IsIdle a → IsIdle (go_on_in me ends a phase)
  go_on-idle a Flowing e r = look-idle a r
  go_on-idle a Waiting e r = (go_on-keeps me ends a Waiting e (inl (λ f. let g : Waiting ≡ Flowing = sym e ∙ f in absurd (cc)))).1 ∙ r
  go_on-idle a Acting e r = r
  go_on-idle a Over e r = r

  write-idle : (a : Acts) (o : Option Value) → IsIdle a → IsIdle (write_held me a o)
  write-idle a None r = r
  write-idle a (Some v) r = by a.slots.phase
    where
      by : (phase : Phase) → IsIdle (write_in me v (record a { slots = record a.slots { held = None; reading = false } }) phase)
      by Flowing = refl
      by Waiting = refl
      by Acting = refl
      by Over = refl

  whole-idle : (a : Acts) (o : Option PromiseId) → IsIdle a → IsIdle (settle_whole (Ok Undefined) a o)
  whole-idle a None r = r
  whole-idle a (Some w) r = r

  pub operation-idle : (operation : PipeOperation) (x : pipe.Slots) (t : Table) → x.reading ≡ false → IsIdle (pipe_operation me ends operation (starting x t))
  unfolding look_ready go_on keep_chunk read_ended write_chunk write_ended action_settled no_parts abort
  operation-idle Look x t r = look-idle (starting x t) r
  operation-idle LookReady x t r = look-idle (starting (record x { waits = false }) t) r
  operation-idle GoOn x t r = go_on-idle (starting x t) x.phase refl r
  operation-idle WriteEnded x t r = go_on-idle (starting (record x { unsettled = x.unsettled - 1 }) t) x.phase refl r
  operation-idle (KeepChunk v) x t r = r
  operation-idle ReadEnded x t r = refl
  operation-idle WriteChunk x t r = write-idle (starting x t) x.held r
  operation-idle (AbortPipe e) x t r = shut-idle (Some (BySignal e)) (Some e) (starting x t) r
  operation-idle (ActionSettled (Ok v)) x t r = (finalize-keeps me x.error (starting x t)).1 ∙ r
  operation-idle (ActionSettled (Err e)) x t r = (finalize-keeps me (Some e) (starting x t)).1 ∙ r
  operation-idle (PartSettled o) x t r = (part-keeps me o (starting x t)).1 ∙ r
  operation-idle NoParts x t r = whole-idle (starting x t) x.whole r

-- one that reads nothing holds nothing, and writes nothing

pub none-written : (n : ℕ) (operation : PipeOperation) (x : pipe.Slots) (d : PromiseId) → n + length (held_values x.held) ≤ one_if x.reading → x.reading ≡ false → operation_promises operation x d ≡ []
none-written n WriteChunk x d w r = by x.phase x.held (subst (λ (b : Bool). n + length (held_values x.held) ≤ one_if b) r w)
  where
    by : (phase : Phase) (o : Option Value) → n + length (held_values o) ≤ 0 → held_promise phase o d ≡ []
    by phase (Some v) w = absurd (omega (arith, w))
    by Flowing None w = refl
    by Waiting None w = refl
    by Acting None w = refl
    by Over None w = refl
none-written n operation x d w r = refl
