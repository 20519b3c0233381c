use Rattle.ws_chain_laws.proofs.Keeps.{each_chain_keeps}
use Rattle.ws_chain_laws.proofs.each_chain_keeps.Goals as goal

pub returns : goal.returns
returns c = each_chain_keeps
