use Rattle.ws_end_laws.proofs.hosts.each_close_was_settled.Goals as goal
use Rattle.ws_end_laws.proofs.hosts.Closed as laws

pub returns : goal.returns
returns c = laws.each_close_was_settled
