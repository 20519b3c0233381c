use Rattle.ws_answer_laws.proofs.Least.{each_read_into_gets_its_least}
use Rattle.ws_answer_laws.proofs.each_read_into_gets_its_least.Goals as goal

pub returns : goal.returns
returns c = each_read_into_gets_its_least
