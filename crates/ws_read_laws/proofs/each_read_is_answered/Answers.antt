use Rattle.ws_read_laws.proofs.each_read_is_answered.Goals as goal
use Rattle.ws_read_laws.proofs.Answered as answered

pub returns : goal.returns
returns c = answered.each_read_is_answered
