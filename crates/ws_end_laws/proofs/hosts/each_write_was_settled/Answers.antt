use Rattle.ws_end_laws.proofs.hosts.each_write_was_settled.Goals as goal
use Rattle.ws_end_laws.proofs.hosts.WroteSteps as laws

pub returns : goal.returns
returns c = laws.each_write_was_settled
