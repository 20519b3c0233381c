use Rattle.ws_pipe_laws.proofs.pipes.each_pipe_passes_a_front.Goals as goal
use Rattle.ws_pipe_laws.proofs.pipes.PassingRuns as laws

pub returns : goal.returns
returns c = laws.each_pipe_passes_a_front
