use Rattle.ws_node_rules.proofs.Causes.{each_error_has_its_cause}
use Rattle.ws_node_rules.proofs.rules.each_error_has_its_cause.Goals as goal

pub returns : goal.returns
returns c = each_error_has_its_cause
