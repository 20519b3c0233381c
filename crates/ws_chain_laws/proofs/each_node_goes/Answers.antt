use Rattle.ws_chain_laws.proofs.Runs.{each_node_goes}
use Rattle.ws_chain_laws.proofs.each_node_goes.Goals as goal

pub returns : goal.returns
returns c = each_node_goes
