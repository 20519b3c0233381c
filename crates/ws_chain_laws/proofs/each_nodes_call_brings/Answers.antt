use Rattle.ws_chain_laws.proofs.Nodes.{each_nodes_call_brings}
use Rattle.ws_chain_laws.proofs.each_nodes_call_brings.Goals as goal

pub returns : goal.returns
returns c = each_nodes_call_brings
