use Rattle.std.proofs.Common.{◌≡◌, ◌++◌, drop, Ok}
use Rattle.toml.specs.View.{items_view}
use Rattle.ws_plan.specs.Keys.{◌>>=◌}
use Rattle.ws_plan.specs.Reading.{all_placed}
use Rattle.ws_plan.proofs.stages.all_placed.Given as goal

abbrev pub invariant-loop-value : goal.invariant-loop-value
invariant-loop-value l =
    all_placed l.first (items_view l.values) ≡ (all_placed l.before (items_view (drop l.value-index l.values)) >>= λ ps. Ok (l.stages.items ++ ps))
