use Rattle.ws_read_laws.proofs.reads_of_the_ended.Goals as goal
use Rattle.ws_read_laws.proofs.Ended as ended

pub returns : goal.returns
returns c = ended.reads_of_the_ended
