use Rattle.ws_tee_port_laws.proofs.tees.Cancels as laws
use Rattle.ws_tee_port_laws.proofs.tees.each_source_is_cancelled_by_both.Goals as goal

pub returns : goal.returns
returns c = laws.each_source_is_cancelled_by_both
