use Rattle.ws_node.proofs.Credit.{each_node_keeps_credit}
use Rattle.ws_node_rules.proofs.rules.each_node_keeps_credit.Goals as goal

pub returns : goal.returns
returns c = each_node_keeps_credit
