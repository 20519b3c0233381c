use Rattle.ws_end_laws.proofs.successes.each_unfailing_pipe_closes.Goals as goal
use Rattle.ws_end_laws.proofs.successes.Closes as laws

pub returns : goal.returns
returns c = laws.each_unfailing_pipe_closes
