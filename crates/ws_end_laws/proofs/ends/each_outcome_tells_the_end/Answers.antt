use Rattle.ws_end_laws.proofs.ends.each_outcome_tells_the_end.Goals as goal
use Rattle.ws_end_laws.proofs.ends.PromiseEnds as laws

pub returns : goal.returns
returns c = laws.each_outcome_tells_the_end
