use Rattle.ws_end_laws.proofs.ends.each_pipe_call_makes_a_pipe.Goals as goal
use Rattle.ws_end_laws.proofs.ends.PipeCalls as laws

pub returns : goal.returns
returns c = laws.each_pipe_call_makes_a_pipe
