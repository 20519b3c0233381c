use Rattle.ws_reason_laws.proofs.each_reason_was_given.Goals as goal
use Rattle.ws_reason_laws.proofs.Failed as laws

pub returns : goal.returns
returns c = laws.reason-was-given
