use Rattle.ws_end_laws.proofs.ends.each_pipe_that_closed_passed_all.Goals as goal
use Rattle.ws_end_laws.proofs.ends.PassedAll as laws

pub returns : goal.returns
returns c = laws.each_pipe_that_closed_passed_all
