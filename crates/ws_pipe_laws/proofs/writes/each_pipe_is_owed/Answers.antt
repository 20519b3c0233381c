use Rattle.ws_pipe_laws.proofs.writes.each_pipe_is_owed.Goals as goal
use Rattle.ws_pipe_laws.proofs.writes.Owed as laws

pub returns : goal.returns
returns c = laws.each_pipe_is_owed
