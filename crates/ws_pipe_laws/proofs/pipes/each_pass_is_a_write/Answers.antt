use Rattle.ws_pipe_laws.proofs.pipes.each_pass_is_a_write.Goals as goal
use Rattle.ws_pipe_laws.proofs.pipes.Written as laws

pub returns : goal.returns
returns c = laws.each_pass_is_a_write
