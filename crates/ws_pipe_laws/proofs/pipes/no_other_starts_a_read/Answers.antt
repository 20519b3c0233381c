use Rattle.ws_pipe_laws.proofs.pipes.no_other_starts_a_read.Goals as goal
use Rattle.ws_pipe_laws.proofs.pipes.Starts as starts

pub returns : goal.returns
returns c = starts.no_other_starts_a_read
