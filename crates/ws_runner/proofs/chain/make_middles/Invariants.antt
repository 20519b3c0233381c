use Rattle.std.specs.Prelude.{◌≡◌, All}
use Rattle.ws_node.proofs.Joining.{HasMade}
use Rattle.ws_runner.specs.Meeting.{AreTraced}
use Rattle.ws_runner.proofs.chain.make_middles.Given as goal

abbrev pub invariant-loop-number : goal.invariant-loop-number
invariant-loop-number l = record {
  made : HasMade l.fn.plan l.fn.first l.middles.items l.last l.number;
  traced : All (AreTraced l.fn.trace) l.middles.items;
  last : l.last.traced ≡ l.fn.trace;
}
