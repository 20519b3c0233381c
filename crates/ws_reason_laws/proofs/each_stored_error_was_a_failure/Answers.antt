use Rattle.ws_reason_laws.proofs.each_stored_error_was_a_failure.Goals as goal
use Rattle.ws_reason_laws.proofs.Failed as laws

pub returns : goal.returns
returns c = laws.stored-error-was-a-failure
