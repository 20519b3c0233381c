use Rattle.ws_flow.proofs.laws.each_node_flows.Goals as goal
use Rattle.ws_flow.proofs.Chain.{flows_whole, flows_before, goes_then}
use Rattle.ws_flow.proofs.Ends.{turn_keeps, place_keeps}
use Rattle.ws_flow.specs.Parts.{fresh, nothing_told}

pub returns : goal.returns
returns c = record {
  node = λ ms x ps out f. (flows_before ms x ps out f, flows_whole ms x ps out f, λ y qs new g. goes_then ms x y (fresh ms) nothing_told ps out qs new f g);
  turn = turn_keeps;
  place = place_keeps;
}
