use Rattle.ws_node_rules.proofs.laws.each_node_keeps_flow.Goals as goal
use Rattle.ws_node_rules.proofs.Flow.{keeps-flow}

pub returns : goal.returns
returns c = keeps-flow
