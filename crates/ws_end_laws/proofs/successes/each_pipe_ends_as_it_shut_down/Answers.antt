use Rattle.ws_end_laws.proofs.successes.each_pipe_ends_as_it_shut_down.Goals as goal
use Rattle.ws_end_laws.proofs.successes.Shutting as laws

pub returns : goal.returns
returns c = laws.each_pipe_ends_as_it_shut_down
