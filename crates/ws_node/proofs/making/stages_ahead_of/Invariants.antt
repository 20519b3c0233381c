use Rattle.std.proofs.Common.{◌≡◌, ◌≤◌, take}
use Rattle.std.specs.List.{count_by}
use Rattle.ws_node.specs.Shares.{is_ahead_of}
use Rattle.ws_node.proofs.making.stages_ahead_of.Given as goal

abbrev pub invariant-loop-one : goal.invariant-loop-one
invariant-loop-one l = record {
  count : l.count ≡ count_by (is_ahead_of l.worker) (take l.one-index l.placed);
  few : l.count ≤ l.one-index;
}
