use Rattle.ws_pipe_laws.proofs.pipes.each_pipe_keeps_its_ends.Goals as goal
use Rattle.ws_pipe_laws.proofs.pipes.Kept as kept

pub returns : goal.returns
returns c = kept.each_pipe_keeps_its_ends
