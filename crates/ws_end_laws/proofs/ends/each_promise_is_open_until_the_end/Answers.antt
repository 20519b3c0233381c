use Rattle.ws_end_laws.proofs.ends.each_promise_is_open_until_the_end.Goals as goal
use Rattle.ws_end_laws.proofs.ends.PromiseEnds as laws

pub returns : goal.returns
returns c = laws.each_promise_is_open_until_the_end
