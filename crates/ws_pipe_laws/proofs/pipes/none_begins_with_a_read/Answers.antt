use Rattle.ws_pipe_laws.proofs.pipes.none_begins_with_a_read.Goals as goal
use Rattle.ws_pipe_laws.proofs.pipes.Begins as begins

pub returns : goal.returns
returns c = begins.none_begins_with_a_read
