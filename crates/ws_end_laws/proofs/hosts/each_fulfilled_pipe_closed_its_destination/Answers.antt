use Rattle.ws_end_laws.proofs.hosts.each_fulfilled_pipe_closed_its_destination.Goals as goal
use Rattle.ws_end_laws.proofs.hosts.Ended as laws

pub returns : goal.returns
returns c = laws.each_fulfilled_pipe_closed_its_destination
