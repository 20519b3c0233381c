use Rattle.ws_tee_port_laws.proofs.ports.Sending as laws
use Rattle.ws_tee_port_laws.proofs.ports.each_post_can_be_sent.Goals as goal

pub returns : goal.returns
returns c = laws.each_post_can_be_sent
