use Rattle.ws_end_laws.proofs.hosts.each_write_of_a_fulfilled_pipe_succeeded.Goals as goal
use Rattle.ws_end_laws.proofs.hosts.Fulfilled as laws

pub returns : goal.returns
returns c = laws.each_write_of_a_fulfilled_pipe_succeeded
