use Rattle.ws_want_laws.proofs.each_answer_is_read.Goals as goal
use Rattle.ws_want_laws.proofs.Unasked as unasked

pub returns : goal.returns
returns c = unasked.each_answer_is_read
