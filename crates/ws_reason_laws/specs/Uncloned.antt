-- What is given to the streams at the ends of ports that can't be cloned: a value that is written, and the reason of a cancel or of an abort. Calls give
-- it, pipes, and tees, which cancel their source with a pair.
use Rattle.std.specs.Prelude.{Bool, true, false, not, ◌&&◌, ◌||◌, List}
use Rattle.ws_value.specs.Values.{is_cloneable, is_value_cloneable}
use Rattle.ws_steps.specs.declared.effects.Effect.{Effect}
use Rattle.ws_steps.specs.declared.effects.Effect.TheVariants.{Readable, Writable}
use Rattle.ws_steps.specs.declared.effects.Owner.{Owner}
use Rattle.ws_steps.specs.declared.effects.Owner.TheVariants.{Host, HalfOf, BranchOf, EndOf}
use Rattle.ws_steps.specs.declared.readable.ReadableOperation.{ReadableOperation}
use Rattle.ws_steps.specs.declared.readable.ReadableOperation.TheVariants.{Cancel, CancelIfReadable}
use Rattle.ws_steps.specs.declared.writable.WritableOperation.{WritableOperation}
use Rattle.ws_steps.specs.declared.writable.WritableOperation.TheVariants.{Write, Abort, AbortIfWritable}
use Rattle.ws_steps.specs.Histories.{in_step, over}
use Rattle.ws_steps.specs.Run.{Entry}
use Rattle.ws_steps.specs.Slots.{Slots, owner_at}

-- whether a stream is at the end of a port
abbrev pub is_end : Owner → Bool
is_end Host = false
is_end (HalfOf t) = false
is_end (BranchOf t half) = false
is_end (EndOf c) = true

abbrev pub cancels_uncloned : ReadableOperation → Bool
cancels_uncloned (Cancel r p) = not (is_cloneable r)
cancels_uncloned (CancelIfReadable r p) = not (is_cloneable r)
cancels_uncloned _ = false

abbrev pub writes_uncloned : WritableOperation → Bool
writes_uncloned (Write v p) = not (is_value_cloneable v)
writes_uncloned (Abort r p) = not (is_cloneable r)
writes_uncloned (AbortIfWritable r p) = not (is_cloneable r)
writes_uncloned _ = false

-- whether an effect gives it
abbrev pub effect_uncloned : Effect → Slots → Bool
effect_uncloned (Readable i operation) s = is_end (owner_at i s) && cancels_uncloned operation
effect_uncloned (Writable i operation) s = is_end (owner_at i s) && writes_uncloned operation
effect_uncloned _ s = false

-- whether a step does
abbrev pub step_uncloned : Slots → Entry → Bool
step_uncloned s x = in_step false (λ a b. a || b) effect_uncloned s x

-- whether a run does
abbrev pub run_uncloned : List Entry → Slots → Bool
run_uncloned xs s = over false (λ a b. a || b) step_uncloned xs s
