use Rattle.ws_end_laws.proofs.ends.each_pipe_that_may_close_passed_all.Goals as goal
use Rattle.ws_end_laws.proofs.ends.MayClose as laws

pub returns : goal.returns
returns c = laws.each_pipe_that_may_close_passed_all
