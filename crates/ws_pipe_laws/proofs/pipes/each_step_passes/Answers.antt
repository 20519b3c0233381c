use Rattle.ws_pipe_laws.proofs.pipes.each_step_passes.Goals as goal
use Rattle.ws_pipe_laws.proofs.pipes.StepPassing as laws

pub returns : goal.returns
returns c = laws.each_step_passes
