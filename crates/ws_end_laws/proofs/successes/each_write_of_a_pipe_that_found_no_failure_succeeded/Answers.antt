use Rattle.ws_end_laws.proofs.successes.each_write_of_a_pipe_that_found_no_failure_succeeded.Goals as goal
use Rattle.ws_end_laws.proofs.successes.Found as laws

pub returns : goal.returns
returns c = laws.each_write_of_a_pipe_that_found_no_failure_succeeded
