use Rattle.ws_reason_laws.proofs.Pairs as laws
use Rattle.ws_tee_port_laws.proofs.tees.each_pair_stays.Goals as goal

pub returns : goal.returns
returns c = laws.each_pair_stays
