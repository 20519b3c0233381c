use Rattle.ws_tee_port_laws.proofs.ports.ReadableEnds as laws
use Rattle.ws_tee_port_laws.proofs.ports.each_readable_end_is_lawful.Goals as goal

pub returns : goal.returns
returns c = laws.each_readable_end_is_lawful
