use Rattle.ws_chain_laws.proofs.Runs.{each_wiring_goes}
use Rattle.ws_chain_laws.proofs.each_wiring_goes.Goals as goal

pub returns : goal.returns
returns c = each_wiring_goes
