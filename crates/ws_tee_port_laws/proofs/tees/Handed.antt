-- What a tee handed to its branches: the chunk that it holds, as each microtask of it is performed.
use Rattle.std.proofs.Common.{nat_eq, if◌then◌else◌, List, [], ◌++◌}
use Rattle.ws_value.specs.declared.ids.TeeId.{TeeId}
use Rattle.ws_value.specs.declared.value.Value.{Value}
use Rattle.ws_steps.specs.declared.effects.{Effect.{Effect}, Effect.TheVariants.{Tee as OnTee}}
use Rattle.ws_steps.specs.declared.tee.TeeOperation.TheVariants.{HandChunk}
use Rattle.ws_steps.specs.Histories.{in_step, over}
use Rattle.ws_steps.specs.Run.{Entry}
use Rattle.ws_steps.specs.Slots.{Slots, tee_at}
use Rattle.ws_steps.specs.TeeLaws.{held_values}

abbrev pub handed_by : TeeId → Effect → Slots → List Value
handed_by t (OnTee u HandChunk) s = if nat_eq t.0 u.0 then held_values (tee_at t s).held else []
handed_by t _ s = []

abbrev pub run_handed : TeeId → List Entry → Slots → List Value
run_handed t entries s = over [] (λ f g. f ++ g) (λ z x. in_step [] (λ f g. f ++ g) (handed_by t) z x) entries s
