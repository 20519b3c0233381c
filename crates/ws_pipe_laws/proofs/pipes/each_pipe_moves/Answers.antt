use Rattle.ws_pipe_laws.proofs.pipes.each_pipe_moves.Goals as goal
use Rattle.ws_pipe_laws.proofs.pipes.Moves as moves

pub returns : goal.returns
returns c = moves.each_pipe_moves
