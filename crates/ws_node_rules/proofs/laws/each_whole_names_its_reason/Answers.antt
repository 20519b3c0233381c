use Rattle.ws_node_rules.proofs.Naming.{each_whole_names_its_reason}
use Rattle.ws_node_rules.proofs.laws.each_whole_names_its_reason.Goals as goal

pub returns : goal.returns
returns c = each_whole_names_its_reason
