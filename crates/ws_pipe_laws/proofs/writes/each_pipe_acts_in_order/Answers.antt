use Rattle.ws_pipe_laws.proofs.writes.each_pipe_acts_in_order.Goals as goal
use Rattle.ws_pipe_laws.proofs.writes.Orderly as laws

pub returns : goal.returns
returns c = laws.each_pipe_acts_in_order
