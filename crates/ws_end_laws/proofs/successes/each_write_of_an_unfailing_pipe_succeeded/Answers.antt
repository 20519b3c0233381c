use Rattle.ws_end_laws.proofs.successes.each_write_of_an_unfailing_pipe_succeeded.Goals as goal
use Rattle.ws_end_laws.proofs.successes.Wrote as laws

pub returns : goal.returns
returns c = laws.each_write_of_an_unfailing_pipe_succeeded
