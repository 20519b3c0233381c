-- What passes along a link, told by effects: what its destination acts on, and what its source takes in, whoever performs their algorithms.
use Rattle.std.specs.Prelude.{ℕ, zero, suc, if◌then◌else◌, List}
use Rattle.ws_value.specs.declared.ids.StreamId.{StreamId}
use Rattle.ws_value.specs.declared.value.Value.{Value}
use Rattle.ws_steps.specs.declared.effects.Effect.{Effect}
use Rattle.ws_steps.specs.declared.effects.Effect.TheVariants.{Readable, Byte}
use Rattle.ws_steps.specs.Histories.{is_same, in_step, over}
use Rattle.ws_steps.specs.Readable as readable
use Rattle.ws_steps.specs.Readable.{can_close_or_enqueue}
use Rattle.ws_steps.specs.Run.{Entry}
use Rattle.ws_steps.specs.Slots.{Slots, source_at}
use Rattle.ws_steps.specs.WritableHistory.{Writes, effect_writes}
use Rattle.ws_flow.specs.Told.{Mark, Open, Closed, Told, told, then_told}
use Rattle.ws_link_laws.specs.Entering.{entered, bytes_entered}
use Rattle.ws_link_laws.specs.Link.{silence, giver_at}

-- what a writable stream acts on: the chunks that it hands on, and its end, once its close algorithm is performed

abbrev pub ending : ℕ → Mark
ending zero = Open
ending (suc n) = Closed

abbrev pub acts_of : Writes → Told Value
acts_of w = told w.acted (ending w.closes)

abbrev pub effect_acts : StreamId → Effect → Slots → Told Value
effect_acts j e s = acts_of (effect_writes j e s)

-- in a step
abbrev pub step_acts : StreamId → Slots → Entry → Told Value
step_acts j s x = in_step silence then_told (effect_acts j) s x

-- in a run
abbrev pub run_acts : StreamId → List Entry → Slots → Told Value
run_acts j xs s = over silence then_told (step_acts j) xs s

-- what a readable stream takes in, whichever its controller is: the chunks that are enqueued, and its end, as its controller closes it, where it
-- can take these

abbrev pub taken : readable.Slots → Told Value → Told Value
taken r comes = if can_close_or_enqueue r then comes else silence

abbrev pub effect_takes : StreamId → Effect → Slots → Told Value
effect_takes i (Readable k operation) s = if is_same i k then taken (source_at k s) (entered (giver_at k s) operation) else silence
effect_takes i (Byte k operation) s = if is_same i k then taken (source_at k s) (bytes_entered (giver_at k s) operation) else silence
effect_takes i _ s = silence

-- in a step
abbrev pub step_takes : StreamId → Slots → Entry → Told Value
step_takes i s x = in_step silence then_told (effect_takes i) s x

-- in a run
abbrev pub run_takes : StreamId → List Entry → Slots → Told Value
run_takes i xs s = over silence then_told (step_takes i) xs s
