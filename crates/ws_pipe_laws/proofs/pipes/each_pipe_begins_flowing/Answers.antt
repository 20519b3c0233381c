use Rattle.ws_pipe_laws.proofs.pipes.each_pipe_begins_flowing.Goals as goal
use Rattle.ws_pipe_laws.proofs.pipes.Made as made

pub returns : goal.returns
returns c = made.each_pipe_begins_flowing
