use Rattle.ws_read_laws.proofs.reads_were_answered.Goals as goal
use Rattle.ws_read_laws.proofs.Asked as asked

pub returns : goal.returns
returns c = asked.reads_were_answered
