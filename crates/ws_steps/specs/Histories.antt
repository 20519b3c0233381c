-- Histories: what happened in a run, told beside it and never in the slots. A history is told of an effect first, by what is performed and
-- the slots that it finds; then of the moments of a step; then of a run. Those of each kind of stream stand in a file of their own.
use Rattle.std.specs.Prelude.{Bool, nat_eq, List, [], ◌∷◌, ◌++◌}
use Rattle.ws_value.specs.declared.ids.StreamId.{StreamId}
use Rattle.ws_steps.specs.declared.calls.Event.{Event}
use Rattle.ws_steps.specs.declared.effects.Effect.{Effect}
use Rattle.ws_steps.specs.Slots.{Slots}
use Rattle.ws_steps.specs.Turns.{Moment}
use Rattle.ws_steps.specs.Run.{Entry, Called, Worked, Heard, moments_in, step}

abbrev pub is_same : StreamId → StreamId → Bool
is_same i j = nat_eq i.0 j.0

-- what happens in these moments, by what happens in each
abbrev pub along : {H : Type 0} → H → (H → H → H) → (Effect → Slots → H) → List Moment → H
along none after told [] = none
along none after told (m ∷ ms) = after (told m.effect m.found) (along none after told ms)

-- what happens in a step, by what happens in each moment of it
abbrev pub in_step : {H : Type 0} → H → (H → H → H) → (Effect → Slots → H) → Slots → Entry → H
in_step none after told s x = along none after told (moments_in s x)

-- what happens in the steps of a run, by what happens in each
abbrev pub over : {H : Type 0} → H → (H → H → H) → (Slots → Entry → H) → List Entry → Slots → H
over none after told [] s = none
over none after told (x ∷ xs) s = after (told s x) (over none after told xs (step s x))

-- what the host hears of

-- the event that the host takes in a step, where there is one
abbrev pub taken_event : List Event → List Event
taken_event [] = []
taken_event (e ∷ es) = e ∷ []

abbrev pub taken_in_step : Slots → Entry → List Event
taken_in_step s (Called c) = []
taken_in_step s Worked = []
taken_in_step s Heard = taken_event s.promises.events

-- the events of a run, in their order: those that the host took, and then those that it hasn't taken
abbrev pub run_events : List Entry → Slots → List Event
run_events [] s = s.promises.events
run_events (x ∷ xs) s = taken_in_step s x ++ run_events xs (step s x)
