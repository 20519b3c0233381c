use Rattle.ws_end_laws.proofs.successes.each_fulfilled_pipe_wrote_all_it_read.Goals as goal
use Rattle.ws_end_laws.proofs.successes.Whole as laws

pub returns : goal.returns
returns c = laws.each_fulfilled_pipe_wrote_all_it_read
