use Rattle.std.proofs.Common.{◌≡◌, false, drop}
use Rattle.ws_flow.specs.Plans.{sees_known_chunks}
use Rattle.ws_stages.specs.Checks.{stages_in}
use Rattle.ws_stages.proofs.refusals.sees_known_chunks.Given as goal

abbrev pub invariant-loop-placed : goal.invariant-loop-placed
invariant-loop-placed l = sees_known_chunks false (stages_in l.stages) ≡ sees_known_chunks l.known (stages_in (drop l.placed-index l.stages))
