use Rattle.ws_end_laws.proofs.hosts.each_flush_was_settled.Goals as goal
use Rattle.ws_end_laws.proofs.hosts.Flushed as laws

pub returns : goal.returns
returns c = laws.each_flush_was_settled
