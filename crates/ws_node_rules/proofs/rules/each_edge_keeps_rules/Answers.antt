use Rattle.ws_node.proofs.Between.{each_edge_keeps_rules}
use Rattle.ws_node_rules.proofs.rules.each_edge_keeps_rules.Goals as goal

pub returns : goal.returns
returns c = each_edge_keeps_rules
