use Rattle.ws_tee_port_laws.proofs.tees.Branches as laws
use Rattle.ws_tee_port_laws.proofs.tees.each_branch_is_lawful.Goals as goal

pub returns : goal.returns
returns c = laws.each_branch_is_lawful
