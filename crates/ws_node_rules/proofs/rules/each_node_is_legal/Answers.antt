use Rattle.ws_node.proofs.Legal.{each_node_is_legal}
use Rattle.ws_node_rules.proofs.rules.each_node_is_legal.Goals as goal

pub returns : goal.returns
returns c = each_node_is_legal
