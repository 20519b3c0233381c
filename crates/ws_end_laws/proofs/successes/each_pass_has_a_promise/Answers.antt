use Rattle.ws_end_laws.proofs.successes.each_pass_has_a_promise.Goals as goal
use Rattle.ws_end_laws.proofs.successes.Counted as laws

pub returns : goal.returns
returns c = laws.each_pass_has_a_promise
