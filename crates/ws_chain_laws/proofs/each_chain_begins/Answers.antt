use Rattle.ws_chain_laws.proofs.Begins.{each_chain_begins}
use Rattle.ws_chain_laws.proofs.each_chain_begins.Goals as goal

pub returns : goal.returns
returns c = each_chain_begins
