use Rattle.ws_chain_laws.proofs.Outcomes.{each_chain_ends}
use Rattle.ws_chain_laws.proofs.each_chain_ends.Goals as goal

pub returns : goal.returns
returns c = each_chain_ends
