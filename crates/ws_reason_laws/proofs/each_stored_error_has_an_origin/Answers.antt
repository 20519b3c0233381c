use Rattle.ws_reason_laws.proofs.each_stored_error_has_an_origin.Goals as goal
use Rattle.ws_reason_laws.proofs.Stored as laws

pub returns : goal.returns
returns c = laws.stored-error-has-an-origin
