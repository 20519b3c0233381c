use Rattle.ws_chain_laws.proofs.Links.{each_chain_is_by_number}
use Rattle.ws_chain_laws.proofs.each_chain_is_by_number.Goals as goal

pub returns : goal.returns
returns c = each_chain_is_by_number
