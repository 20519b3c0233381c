use Rattle.std.proofs.Common.{◌≡◌, ◌++◌, ◌+◌, drop}
use Rattle.ws_plan.specs.PlanText.{check_text, stage_lines}
use Rattle.ws_plan.proofs.text.plan_text.Given as goal

abbrev pub invariant-loop-placed : goal.invariant-loop-placed
invariant-loop-placed l = record {
  text : l.out.items ++ stage_lines l.number (drop l.placed-index l.plan.stages.items) ≡ check_text l.plan;
  number : l.number ≡ l.placed-index + 1;
}
