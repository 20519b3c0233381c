use Rattle.ws_chain_laws.proofs.Keeps.{each_event_keeps_chain}
use Rattle.ws_chain_laws.proofs.each_event_keeps_chain.Goals as goal

pub returns : goal.returns
returns c = each_event_keeps_chain
