use Rattle.ws_flow.proofs.laws.each_stage_flows.Goals as goal
use Rattle.std.proofs.Common.{refl}
use Rattle.ws_flow.proofs.Through.{through_then, all_before, all_short}
use Rattle.ws_flow.proofs.Endings.{ending_stays, closed_all}
use Rattle.ws_flow.specs.Machines.{ending}

pub returns : goal.returns
returns c = record {
  goes_on = through_then;
  first_part = λ ms x y. (all_before ms x y, all_short ms x y);
  ending = λ ms j x y b n. ending_stays ms j x y (ending ms j x) b refl n;
  close = closed_all;
}
