-- A pipe is reading only where it was before, or where it looked and found that it may.
use Rattle.std.proofs.Common.{◌≡◌, ◌≢◌, ◌⊎◌, inl, inr, ◌-◌, true, false, Option, Some, None, Ok, Err, refl, sym, ◌∙◌}
use Rattle.ws_value.specs.declared.{ids.PipeId.{PipeId}, ids.PromiseId.{PromiseId}, value.Plain.TheVariants.{Undefined}, value.Value.{Value}}
use Rattle.ws_steps.specs.declared.pipes.{Action.TheVariants.{BySignal}, Ends.{Ends}, Phase.{Phase}, Phase.TheVariants.{Flowing, Waiting, Acting, Over}}
use Rattle.ws_steps.specs.declared.pipes.{PipeOperation.{PipeOperation}, PipeOperation.TheVariants.{Look, LookReady, KeepChunk, ReadEnded, WriteChunk, GoOn, WriteEnded, Abort as AbortPipe, ActionSettled, PartSettled, NoParts}}
use Rattle.ws_steps.specs.Operations.{pipe_operation}
use Rattle.ws_steps.specs.Pipes.{Slots, Acts, look, look_ready, go_on_in, go_on, keep_chunk, read_ended, write_in, write_held, write_chunk, write_ended, action_settled, settle_whole, no_parts, abort}
use Rattle.ws_steps.specs.Promises.{Table}
use Rattle.ws_pipe_laws.specs.pipes.PipeHistory.{Shutdown, first_condition}
use Rattle.ws_pipe_laws.specs.pipes.PipeMoves.{starting}
use Rattle.ws_end_laws.proofs.ends.ReadyWaits.{finalize-keeps, shutdown-keeps, look-keeps, go_on-keeps, part-keeps}

-- it flows, and none of the four conditions holds
abbrev pub MayRead : Ends → Slots → Type 0
MayRead ends x = (x.phase ≡ Flowing) × (first_condition x.prevent ends ≡ None)

abbrev Reads : Ends → Slots → Acts → Type 0
Reads ends x b = b.slots.reading ≡ true → (x.reading ≡ true) ⊎ MayRead ends x

module _ (ends : Ends) (x : Slots) where
  -- either it may, or not
  may_or : (phase : Phase) (o : Option Shutdown) → x.phase ≡ phase → first_condition x.prevent ends ≡ o → MayRead ends x ⊎ ((x.phase ≢ Flowing) ⊎ (first_condition x.prevent ends ≢ None))
  may_or Flowing None e f = inl (e, f)
  may_or Flowing (Some c) e f = inr (inr (λ n. let k : ◌≡◌ {A = Option Shutdown} (Some c) None = sym f ∙ n in absurd (cc)))
  may_or Waiting o e f = inr (inl (λ n. let k : Waiting ≡ Flowing = sym e ∙ n in absurd (cc)))
  may_or Acting o e f = inr (inl (λ n. let k : Acting ≡ Flowing = sym e ∙ n in absurd (cc)))
  may_or Over o e f = inr (inl (λ n. let k : Over ≡ Flowing = sym e ∙ n in absurd (cc)))

  by_may : (b : Acts) → ((x.phase ≢ Flowing) ⊎ (first_condition x.prevent ends ≢ None) → b.slots.reading ≡ x.reading) → Reads ends x b
  by_may b keeps r = by (may_or x.phase (first_condition x.prevent ends) refl refl)
    where
      by : MayRead ends x ⊎ ((x.phase ≢ Flowing) ⊎ (first_condition x.prevent ends ≢ None)) → (x.reading ≡ true) ⊎ MayRead ends x
      by (inl m) = inr m
      by (inr n) = inl (sym (keeps n) ∙ r)

written : (me : PipeId) (ends : Ends) (x : Slots) (t : Table) (o : Option Value) → Reads ends x (write_held me (starting x t) o)
written me ends x t None r = inl r
written me ends x t (Some v) r = by x.phase r
  where
    by : (phase : Phase) → (write_in me v (starting (record x { held = None; reading = false }) t) phase).slots.reading ≡ true → (x.reading ≡ true) ⊎ MayRead ends x
    by Flowing r = cc
    by Waiting r = cc
    by Acting r = cc
    by Over r = cc

whole-reads : (ends : Ends) (x : Slots) (t : Table) (w : Option PromiseId) → Reads ends x (settle_whole (Ok Undefined) (starting x t) w)
whole-reads ends x t None r = inl r
whole-reads ends x t (Some w) r = inl r

pub operation-reads : (me : PipeId) (ends : Ends) (operation : PipeOperation) (x : Slots) (t : Table) → Reads ends x (pipe_operation me ends operation (starting x t))
unfolding look_ready go_on keep_chunk read_ended write_chunk write_ended action_settled no_parts abort
operation-reads me ends Look x t = by_may ends x (look me ends (starting x t)) (λ h. (look-keeps me ends (starting x t) h).1)
operation-reads me ends LookReady x t = by_may ends x (look me ends (starting (record x { waits = false }) t)) (λ h. (look-keeps me ends (starting (record x { waits = false }) t) h).1)
operation-reads me ends GoOn x t = by_may ends x (go_on_in me ends (starting x t) x.phase) (λ h. (go_on-keeps me ends (starting x t) x.phase refl h).1)
operation-reads me ends WriteEnded x t =
    by_may ends x (go_on_in me ends (starting (record x { unsettled = x.unsettled - 1 }) t) x.phase) (λ h. (go_on-keeps me ends (starting (record x { unsettled = x.unsettled - 1 }) t) x.phase refl h).1)
operation-reads me ends (KeepChunk v) x t = λ r. inl r
operation-reads me ends ReadEnded x t = λ r. cc
operation-reads me ends WriteChunk x t = written me ends x t x.held
operation-reads me ends (AbortPipe r) x t = λ k. inl (sym (shutdown-keeps me ends (Some (BySignal r)) (Some r) (starting x t)).1 ∙ k)
operation-reads me ends (ActionSettled (Ok v)) x t = λ k. inl (sym (finalize-keeps me x.error (starting x t)).1 ∙ k)
operation-reads me ends (ActionSettled (Err e)) x t = λ k. inl (sym (finalize-keeps me (Some e) (starting x t)).1 ∙ k)
operation-reads me ends (PartSettled o) x t = λ k. inl (sym (part-keeps me o (starting x t)).1 ∙ k)
operation-reads me ends NoParts x t = whole-reads ends x t x.whole
