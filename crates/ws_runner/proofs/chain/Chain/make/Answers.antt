use Rattle.std.proofs.Common.{ap, ◌∙◌}
use Rattle.ws_runner.specs.Meeting.{is_traced}
use Rattle.ws_runner.proofs.chain.Chain.make.Goals as goal

pub returns-clause-traced : goal.returns-clause-traced
returns-clause-traced c = record {
  head = ap is_traced c.in_ok-head.ensures.end ∙ c.in_ok-upper.ensures.traced.0;
  middles = c.in_ok-middles.ensures.traced.0;
  tail = ap is_traced c.in_ok-tail.ensures.end ∙ c.in_ok-middles.ensures.traced.1;
}
