use Rattle.ws_promise_laws.proofs.each_name_stays.Goals as goal
use Rattle.ws_promise_laws.proofs.Names as names

pub returns : goal.returns
returns c = names.each_name_stays
