use Rattle.std.proofs.Common.{◌≡◌, ◌++◌, true, length, map, drop}
use Rattle.std.specs.List.{list_all}
use Rattle.ws_flow.specs.declared.plan.Placed.{Placed}
use Rattle.ws_flow.specs.Stages.{is_in_range}
use Rattle.ws_steps.specs.Run.{run}
use Rattle.ws_chain_laws.specs.Opening.{transforms}
use Rattle.ws_node.specs.Opening.{all_begun}
use Rattle.ws_node.specs.Shares.{shared}
use Rattle.ws_node.proofs.making.make_stages.Given as goal

abbrev pub invariant-loop-one : goal.invariant-loop-one
invariant-loop-one l = record {
  stages : l.stages.items ++ all_begun (shared l.share (drop l.one-index l.placed)) ≡ all_begun (shared l.share l.placed);
  slots : run (transforms (length (shared l.share (drop l.one-index l.placed)))) l.realm.slots ≡ run (transforms (length (shared l.share l.placed))) l.fn.realm.slots;
  range : list_all is_in_range (map (λ (p : Placed). p.stage) (drop l.one-index l.placed)) ≡ true;
}
