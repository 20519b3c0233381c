-- What went through a tee.
use Rattle.std.specs.Prelude.{Bool, false, is_some, if◌then◌else◌, List, [], ◌∷◌, ◌++◌, Option, Some, None, slice_get}
use Rattle.ws_value.specs.declared.ids.StreamId.{StreamId}
use Rattle.ws_value.specs.declared.ids.TeeId.{TeeId}
use Rattle.ws_value.specs.declared.value.Plain.{Plain}
use Rattle.ws_value.specs.declared.value.Value.{Value}
use Rattle.ws_steps.specs.declared.effects.Effect.{Effect}
use Rattle.ws_steps.specs.declared.effects.Effect.TheVariants.{Readable, ChunkSteps}
use Rattle.ws_steps.specs.declared.readable.ReadableOperation.{ReadableOperation}
use Rattle.ws_steps.specs.declared.readable.ReadableOperation.TheVariants.{Cancel, CancelIfReadable}
use Rattle.ws_steps.specs.Slots.{Slots}
use Rattle.ws_steps.specs.Tee as tee
use Rattle.ws_steps.specs.Run.{Entry}
use Rattle.ws_steps.specs.Histories.{is_same, in_step, over}

-- of a tee's source, from the tee's making on: the values with which chunk steps of its requests were performed, whoever asked, and the
-- reasons with which it was cancelled
pub record Teed : Type 0 where
  pub given : List Value
  pub cancels : List Plain

abbrev pub no_teed : Teed
no_teed = record { given = []; cancels = [] }

-- first f, then g
abbrev pub teed_then : Teed → Teed → Teed
teed_then f g = record { given = f.given ++ g.given; cancels = f.cancels ++ g.cancels }

-- whether there is a tee of this number
abbrev pub has_tee : TeeId → Slots → Bool
has_tee t s = is_some (slice_get s.tees t.0)

-- whether stream i is the source of this tee, where there is one
abbrev pub is_source_of : StreamId → Option tee.Slots → Bool
is_source_of i None = false
is_source_of i (Some x) = is_same i x.source

abbrev pub operation_teed : ReadableOperation → Teed
operation_teed (Cancel r p) = record no_teed { cancels = r ∷ [] }
operation_teed (CancelIfReadable r p) = record no_teed { cancels = r ∷ [] }
operation_teed _ = no_teed

abbrev pub effect_teed : TeeId → Effect → Slots → Teed
effect_teed t (Readable i operation) s = if is_source_of i (slice_get s.tees t.0) then operation_teed operation else no_teed
effect_teed t (ChunkSteps i request v) s =
    if is_source_of i (slice_get s.tees t.0) then record no_teed { given = v ∷ [] } else no_teed
effect_teed t _ s = no_teed

-- in a step
abbrev pub step_teed : TeeId → Slots → Entry → Teed
step_teed t s x = in_step no_teed teed_then (effect_teed t) s x

-- in a run
abbrev pub run_teed : TeeId → List Entry → Slots → Teed
run_teed t xs s = over no_teed teed_then (step_teed t) xs s
