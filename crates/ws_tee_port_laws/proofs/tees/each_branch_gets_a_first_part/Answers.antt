use Rattle.ws_tee_port_laws.proofs.tees.Parts as laws
use Rattle.ws_tee_port_laws.proofs.tees.each_branch_gets_a_first_part.Goals as goal

pub returns : goal.returns
returns c = laws.each_branch_gets_a_first_part
