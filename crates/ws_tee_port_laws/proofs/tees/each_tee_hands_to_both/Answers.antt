use Rattle.ws_tee_port_laws.proofs.tees.Ending as laws
use Rattle.ws_tee_port_laws.proofs.tees.each_tee_hands_to_both.Goals as goal

pub returns : goal.returns
returns c = laws.each_tee_hands_to_both
