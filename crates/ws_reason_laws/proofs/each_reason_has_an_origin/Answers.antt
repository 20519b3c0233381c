use Rattle.ws_reason_laws.proofs.each_reason_has_an_origin.Goals as goal
use Rattle.ws_reason_laws.proofs.Given as laws

pub returns : goal.returns
returns c = laws.reason-has-an-origin
