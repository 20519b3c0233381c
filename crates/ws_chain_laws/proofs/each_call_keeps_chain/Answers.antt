use Rattle.ws_chain_laws.proofs.Keeps.{each_call_keeps_chain}
use Rattle.ws_chain_laws.proofs.each_call_keeps_chain.Goals as goal

pub returns : goal.returns
returns c = each_call_keeps_chain
