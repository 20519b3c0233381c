use Rattle.ws_end_laws.proofs.successes.each_outcome_of_a_part_is_its_promises.Goals as goal
use Rattle.ws_end_laws.proofs.successes.Hearing as laws

pub returns : goal.returns
returns c = laws.each_outcome_of_a_part_is_its_promises
