use Rattle.ws_pipe_laws.proofs.locks.each_pipe_owns_its_ends.Goals as goal
use Rattle.ws_pipe_laws.proofs.locks.Owning as laws

pub returns : goal.returns
returns c = laws.each_pipe_owns_its_ends
