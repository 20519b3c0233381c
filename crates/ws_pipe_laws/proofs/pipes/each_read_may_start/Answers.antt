use Rattle.ws_pipe_laws.proofs.pipes.each_read_may_start.Goals as goal
use Rattle.ws_pipe_laws.proofs.pipes.Starts as starts

pub returns : goal.returns
returns c = starts.each_read_may_start
