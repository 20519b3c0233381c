use Rattle.std.proofs.Common.{◌≡◌, pos, drop}
use Rattle.ws_flow.specs.Plans.{are_in_order}
use Rattle.ws_stages.proofs.refusals.are_in_order.Given as goal

abbrev pub invariant-loop-placed : goal.invariant-loop-placed
invariant-loop-placed l = are_in_order (pos 0) l.stages ≡ are_in_order l.before (drop l.placed-index l.stages)
