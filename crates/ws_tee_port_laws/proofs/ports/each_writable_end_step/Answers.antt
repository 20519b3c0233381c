use Rattle.ws_tee_port_laws.proofs.ports.WritableEnds as laws
use Rattle.ws_tee_port_laws.proofs.ports.each_writable_end_step.Goals as goal

pub returns : goal.returns
returns c = laws.each_writable_end_step
