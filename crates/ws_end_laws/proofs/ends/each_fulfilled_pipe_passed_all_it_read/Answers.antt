use Rattle.ws_end_laws.proofs.ends.each_fulfilled_pipe_passed_all_it_read.Goals as goal
use Rattle.ws_end_laws.proofs.ends.MayClose as laws

pub returns : goal.returns
returns c = laws.each_fulfilled_pipe_passed_all_it_read
