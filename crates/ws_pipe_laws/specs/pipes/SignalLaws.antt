-- Laws of signals.
use Rattle.std.specs.Prelude.{◌≡◌, true, List, map, Some, None, []}
use Rattle.ws_value.specs.declared.ids.SignalId.{SignalId}
use Rattle.ws_value.specs.declared.value.Plain.{Plain}
use Rattle.ws_steps.specs.declared.effects.Effect.TheVariants.{Pipe as OnPipe, Signal as OnSignal}
use Rattle.ws_steps.specs.declared.pipes.PipeOperation.TheVariants.{Abort as AbortPipe}
use Rattle.ws_steps.specs.declared.pipes.SignalOperation.TheVariants.{Trigger}
use Rattle.ws_pipe_laws.specs.pipes.PipeHistory.{run_signalled, standing}
use Rattle.ws_steps.specs.Run.{Entry, run}
use Rattle.ws_steps.specs.Slots as realm
use Rattle.ws_steps.specs.Turns.{row}

-- signals

-- What a signal's trigger causes: the first time an abort of each of its pipes, in the order in which they stand, and the signal, where
-- there is one, has the reason and is else as it was; and then nothing
pub record IsTriggered (a : SignalId) (r : Plain) (s : realm.Slots) : Type 0 where
  pub first : (realm.signal_at a s).reason ≡ None
      → (row (OnSignal a (Trigger r)) s).caused ≡ map (λ p. OnPipe p (AbortPipe r)) (realm.signal_at a s).pipes
  pub keeps : realm.has_signal a s ≡ true → (realm.signal_at a s).reason ≡ None
      → realm.signal_at a (row (OnSignal a (Trigger r)) s).slots ≡ record (realm.signal_at a s) { reason = Some r }
  pub later : (e : Plain) → (realm.signal_at a s).reason ≡ Some e
      → ((row (OnSignal a (Trigger r)) s).caused ≡ []) × (realm.signal_at a (row (OnSignal a (Trigger r)) s).slots ≡ realm.signal_at a s)

abbrev pub EachTriggerAbortsInOrder : Type 0
EachTriggerAbortsInOrder = (a : SignalId) (r : Plain) (s : realm.Slots) → IsTriggered a r s

abbrev pub EachReasonStays : Type 0
EachReasonStays =
    (entries : List Entry) (s : realm.Slots) (a : SignalId) (e : Plain) → (realm.signal_at a s).reason ≡ Some e → (realm.signal_at a (run entries s)).reason ≡ Some e

abbrev pub EachSignalKeepsOrder : Type 0
EachSignalKeepsOrder =
    (entries : List Entry) (a : SignalId)
    → (realm.signal_at a (run entries realm.empty)).pipes ≡ standing [] (run_signalled a entries realm.empty)
