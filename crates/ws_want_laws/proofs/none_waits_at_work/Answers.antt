use Rattle.ws_want_laws.proofs.none_waits_at_work.Goals as goal
use Rattle.ws_want_laws.proofs.Unasked as unasked

pub returns : goal.returns
returns c = unasked.none_waits_at_work
