use Rattle.ws_end_laws.proofs.successes.each_write_before_a_failure_succeeded.Goals as goal
use Rattle.ws_end_laws.proofs.successes.Successes as laws

pub returns : goal.returns
returns c = laws.each_write_before_a_failure_succeeded
