use Rattle.ws_write_laws.proofs.Answered.{writes_were_answered}
use Rattle.ws_write_laws.proofs.writes_were_answered.Goals as goal

pub returns : goal.returns
returns c = writes_were_answered
