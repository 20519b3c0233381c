use Rattle.ws_chain_laws.proofs.Nodes.{each_event_is_heard_at_one_link}
use Rattle.ws_chain_laws.proofs.each_event_is_heard_at_one_link.Goals as goal

pub returns : goal.returns
returns c = each_event_is_heard_at_one_link
