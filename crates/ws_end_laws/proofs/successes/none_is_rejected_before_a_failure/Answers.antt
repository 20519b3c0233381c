use Rattle.ws_end_laws.proofs.successes.none_is_rejected_before_a_failure.Goals as goal
use Rattle.ws_end_laws.proofs.successes.Unrejected as laws

pub returns : goal.returns
returns c = laws.none_is_rejected_before_a_failure
