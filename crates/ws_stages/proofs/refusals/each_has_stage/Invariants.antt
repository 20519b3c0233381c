use Rattle.std.proofs.Common.{◌≡◌, true}
use Rattle.ws_flow.specs.Plans.{each_has_stage}
use Rattle.ws_stages.proofs.refusals.each_has_stage.Given as goal

abbrev pub invariant-loop-worker : goal.invariant-loop-worker
invariant-loop-worker l = each_has_stage l.worker l.stages ≡ true
