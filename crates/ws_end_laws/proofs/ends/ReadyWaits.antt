-- When a pipe waits for its writer.
use Rattle.std.proofs.Common.{◌≡◌, ◌≢◌, ◌⊎◌, inl, inr, ⊎_elim, ◌-◌, Bool, true, false, if◌then◌else◌, Option, Some, None, Result, Ok, Err, refl, sym, ap, subst, arith}
use Rattle.ws_value.specs.declared.{ids.PipeId.{PipeId}, ids.PromiseId.{PromiseId}, value.Plain.{Plain}, value.Plain.TheVariants.{Undefined}, value.Value.{Value}}
use Rattle.ws_steps.specs.declared.pipes.{Action.{Action}, Action.TheVariants.{BySignal}, Ends.{Ends}, Phase.{Phase}, Phase.TheVariants.{Flowing, Waiting, Acting, Over}}
use Rattle.ws_steps.specs.declared.pipes.{PipeOperation.TheVariants.{Look, LookReady, KeepChunk, ReadEnded, WriteChunk, GoOn, WriteEnded, Abort as AbortPipe, ActionSettled, PartSettled, NoParts}}
use Rattle.ws_steps.specs.declared.readable.{ReadableState.{ReadableState}, ReadableState.TheVariants.{Readable, Closed, Errored}}
use Rattle.ws_steps.specs.declared.writable.{WritableState.{WritableState}, WritableState.TheVariants.{Writable, Erroring, Errored as WritableErrored, Closed as WritableClosed}}
use Rattle.ws_steps.specs.Pipes.{Slots, Acts, finalize, act_by_signal, act_by, act, proceed, is_flowing, shutdown, read_or_wait, look_by, look, look_ready, go_on_in, go_on, keep_chunk, read_ended, write_held, write_chunk, write_ended, action_settled, settle_whole, part_settled, no_parts, abort}
use Rattle.ws_steps.specs.Promises.{Table}
use Rattle.ws_laws.proofs.Tables.{either}
use Rattle.ws_laws.proofs.Truth.{false_true}
use Rattle.ws_pipe_laws.specs.pipes.PipeHistory.{first_condition}
use Rattle.ws_pipe_laws.specs.pipes.PipeMoves.{starting}
use Rattle.ws_end_laws.specs.ends.PipeWaits.{LooksOn, EachPipeWaitsForReady}

-- a look that finds no condition

module _ (me : PipeId) (ends : Ends) (y : Slots) (t : Table) where
  -- what is left to do
  abbrev on : Acts
  on = if y.reading then starting y t else read_or_wait me ends (starting y t)

  no_condition : (s : ReadableState) (d : WritableState) → s ≡ ends.source_state → d ≡ ends.dest_state → first_condition y.prevent ends ≡ None → look_by me ends (starting y t) s d ≡ on
  no_condition Errored d es ed n = grind (arith, es, ed, n)
  no_condition Readable WritableErrored es ed n = grind (arith, es, ed, n)
  no_condition Closed WritableErrored es ed n = grind (arith, es, ed, n)
  no_condition Closed Writable es ed n = grind (arith, es, ed, n)
  no_condition Closed Erroring es ed n = grind (arith, es, ed, n)
  no_condition Closed WritableClosed es ed n = grind (arith, es, ed, n)
  no_condition Readable Writable es ed n = grind (arith, es, ed, n)
  no_condition Readable Erroring es ed n = grind (arith, es, ed, n)
  no_condition Readable WritableClosed es ed n = grind (arith, es, ed, n)

  on-looks : LooksOn me ends y t on
  on-looks = record {
    reads = λ r w. rw (r, w) refl;
    waits = λ d r w a l e. rw (r, w, a, l, e) refl;
    no_writer = λ r w e. grind (arith, r, w, e);
    rests = λ r. grind (arith, r);
  }

  look-looks : y.phase ≡ Flowing → first_condition y.prevent ends ≡ None → LooksOn me ends y t (look me ends (starting y t))
  unfolding look
  look-looks f n =
      either (LooksOn me ends y t) (is_flowing y.phase) (look_by me ends (starting y t) ends.source_state ends.dest_state) (starting y t)
      (λ e. subst (LooksOn me ends y t) (sym (no_condition ends.source_state ends.dest_state refl refl n)) on-looks)
      (λ e. false_true (is_flowing y.phase) (ap is_flowing f) e)

  go_on-looks : y.phase ≡ Flowing → first_condition y.prevent ends ≡ None → LooksOn me ends y t (go_on_in me ends (starting y t) y.phase)
  go_on-looks f n = subst (λ (phase : Phase). LooksOn me ends y t (go_on_in me ends (starting y t) phase)) (sym f) (look-looks f n)

-- what else an operation does

module _ (me : PipeId) where
  abbrev Keeps : Acts → Acts → Type 0
  Keeps a b = (b.slots.waits ≡ a.slots.waits) × (b.slots.reading ≡ a.slots.reading)

  pub finalize-keeps : (error : Option Plain) (a : Acts) → Keeps a (finalize me error a)
  unfolding finalize
  finalize-keeps error a = grind arith

  signal-keeps : (r : Plain) (a : Acts) → Keeps a (act_by_signal me r a)
  unfolding act_by_signal
  signal-keeps r a = grind arith

  act_by-keeps : (ends : Ends) (a : Acts) (action : Option Action) → Keeps a (act_by me ends a action)
  act_by-keeps ends a action = grind (arith, finalize-keeps, signal-keeps)

  act-keeps : (ends : Ends) (a : Acts) → Keeps a (act me ends a)
  unfolding act
  act-keeps ends a = grind (arith, act_by-keeps)

  proceed-keeps : (ends : Ends) (a : Acts) → Keeps a (proceed me ends a)
  unfolding proceed
  proceed-keeps ends a = grind (arith, act-keeps)

  pub shutdown-keeps : (ends : Ends) (action : Option Action) (error : Option Plain) (a : Acts) → Keeps a (shutdown me ends action error a)
  unfolding shutdown
  shutdown-keeps ends action error a = grind (arith, proceed-keeps, act-keeps)

  -- one that finds a condition
  look_by-keeps : (ends : Ends) (a : Acts) (s : ReadableState) (d : WritableState) → s ≡ ends.source_state → d ≡ ends.dest_state → first_condition a.slots.prevent ends ≢ None → Keeps a (look_by me ends a s d)
  look_by-keeps ends a Errored d es ed n = shutdown-keeps ends _ _ a
  look_by-keeps ends a Readable WritableErrored es ed n = shutdown-keeps ends _ _ a
  look_by-keeps ends a Closed WritableErrored es ed n = shutdown-keeps ends _ _ a
  look_by-keeps ends a Closed Writable es ed n = shutdown-keeps ends _ _ a
  look_by-keeps ends a Closed Erroring es ed n = shutdown-keeps ends _ _ a
  look_by-keeps ends a Closed WritableClosed es ed n = shutdown-keeps ends _ _ a
  look_by-keeps ends a Readable Writable es ed n = grind (arith, es, ed, n, shutdown-keeps)
  look_by-keeps ends a Readable Erroring es ed n = grind (arith, es, ed, n, shutdown-keeps)
  look_by-keeps ends a Readable WritableClosed es ed n = grind (arith, es, ed, n, shutdown-keeps)

  pub look-keeps : (ends : Ends) (a : Acts) → (a.slots.phase ≢ Flowing) ⊎ (first_condition a.slots.prevent ends ≢ None) → Keeps a (look me ends a)
  unfolding look
  look-keeps ends a h = by a.slots.phase refl
    where
      by : (phase : Phase) → a.slots.phase ≡ phase → Keeps a (if is_flowing phase then look_by me ends a ends.source_state ends.dest_state else a)
      by Flowing e = ⊎_elim (λ (n : a.slots.phase ≢ Flowing). absurd (n e)) (λ (n : first_condition a.slots.prevent ends ≢ None). look_by-keeps ends a ends.source_state ends.dest_state refl refl n) h
      by Waiting e = (refl, refl)
      by Acting e = (refl, refl)
      by Over e = (refl, refl)

  pub go_on-keeps : (ends : Ends) (a : Acts) (phase : Phase) → a.slots.phase ≡ phase → (a.slots.phase ≢ Flowing) ⊎ (first_condition a.slots.prevent ends ≢ None) → Keeps a (go_on_in me ends a phase)
  go_on-keeps ends a Flowing e h = look-keeps ends a h
  go_on-keeps ends a Waiting e h = proceed-keeps ends a
  go_on-keeps ends a Acting e h = (refl, refl)
  go_on-keeps ends a Over e h = (refl, refl)

  write-keeps : (a : Acts) (held : Option Value) → (write_held me a held).slots.waits ≡ a.slots.waits
  write-keeps a held = grind arith

  pub part-keeps : (o : Result Plain Plain) (a : Acts) → Keeps a (part_settled o a)
  unfolding part_settled
  part-keeps o a = grind arith

no_look : (b : Bool) {A : Type 0} → b ≡ true → (b ≡ false) ⊎ A → A
no_look b e (inl n) = false_true b e n
no_look b e (inr a) = a

pub each_pipe_waits_for_ready : EachPipeWaitsForReady
unfolding look_ready go_on keep_chunk read_ended write_chunk write_ended action_settled no_parts abort
each_pipe_waits_for_ready me ends Look x t = record { looks = λ l f n. look-looks me ends x t f n; others = λ h. (look-keeps me ends (starting x t) (no_look true refl h)).0 }
each_pipe_waits_for_ready me ends LookReady x t = record {
  looks = λ l f n. look-looks me ends (record x { waits = false }) t f n;
  others = λ h. (look-keeps me ends (starting (record x { waits = false }) t) (no_look true refl h)).0;
}
each_pipe_waits_for_ready me ends GoOn x t = record { looks = λ l f n. go_on-looks me ends x t f n; others = λ h. (go_on-keeps me ends (starting x t) x.phase refl (no_look true refl h)).0 }
each_pipe_waits_for_ready me ends WriteEnded x t = record {
  looks = λ l f n. go_on-looks me ends (record x { unsettled = x.unsettled - 1 }) t f n;
  others = λ h. (go_on-keeps me ends (starting (record x { unsettled = x.unsettled - 1 }) t) x.phase refl (no_look true refl h)).0;
}
each_pipe_waits_for_ready me ends (KeepChunk v) x t = record { looks = λ l. cc; others = λ h. refl }
each_pipe_waits_for_ready me ends ReadEnded x t = record { looks = λ l. cc; others = λ h. refl }
each_pipe_waits_for_ready me ends WriteChunk x t = record { looks = λ l. cc; others = λ h. write-keeps me (starting x t) x.held }
each_pipe_waits_for_ready me ends (AbortPipe r) x t = record { looks = λ l. cc; others = λ h. (shutdown-keeps me ends (Some (BySignal r)) (Some r) (starting x t)).0 }
each_pipe_waits_for_ready me ends (ActionSettled (Ok v)) x t = record { looks = λ l. cc; others = λ h. (finalize-keeps me x.error (starting x t)).0 }
each_pipe_waits_for_ready me ends (ActionSettled (Err e)) x t = record { looks = λ l. cc; others = λ h. (finalize-keeps me (Some e) (starting x t)).0 }
each_pipe_waits_for_ready me ends (PartSettled o) x t = record { looks = λ l. cc; others = λ h. (part-keeps me o (starting x t)).0 }
each_pipe_waits_for_ready me ends NoParts x t = record { looks = λ l. cc; others = λ h. whole x.whole }
  where
    whole : (w : Option PromiseId) → (settle_whole (Ok Undefined) (starting x t) w).slots.waits ≡ x.waits
    whole None = refl
    whole (Some w) = refl
