-- The text of a plan, a line of the plan and one for each stage. Each line ends with a line feed.
use Rattle.std.specs.Prelude.{ℕ, ℤ, ◌+◌, List, [], ◌∷◌, ◌++◌, Option, Some, None, codes, decimal}
use Rattle.ws_flow.specs.declared.plan.Placed.{Placed}
use Rattle.ws_flow.specs.declared.plan.Plan.{Plan}
use Rattle.ws_plan.specs.Stages.{numbered, stage_text}

abbrev pub abort_text : Option ℤ → List ℕ
abort_text None = []
abort_text (Some n) = numbered (codes " abort_after ") n

abbrev pub plan_line : Plan → List ℕ
plan_line plan =
    numbered (codes "plan 1 workers ") plan.workers ++ numbered (codes " max_input ") plan.max_input ++ abort_text plan.abort_after ++ codes "\n"

abbrev pub stage_line : ℕ → Placed → List ℕ
stage_line i p = codes "stage " ++ decimal i ++ codes " " ++ stage_text p.stage ++ numbered (codes " worker ") p.worker ++ codes "\n"

abbrev pub stage_lines : ℕ → List Placed → List ℕ
stage_lines i [] = []
stage_lines i (p ∷ ps) = stage_line i p ++ stage_lines (i + 1) ps

abbrev pub check_text : Plan → List ℕ
check_text plan = plan_line plan ++ stage_lines 1 plan.stages.items
