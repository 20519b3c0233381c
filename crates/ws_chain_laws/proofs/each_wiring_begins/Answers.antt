use Rattle.ws_chain_laws.proofs.Begins.{each_wiring_begins}
use Rattle.ws_chain_laws.proofs.each_wiring_begins.Goals as goal

pub returns : goal.returns
returns c = each_wiring_begins
