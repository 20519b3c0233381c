use Rattle.ws_tee_port_laws.proofs.ports.Shutting as laws
use Rattle.ws_tee_port_laws.proofs.ports.each_readable_end_closes_by_message.Goals as goal

pub returns : goal.returns
returns c = laws.each_readable_end_closes_by_message
