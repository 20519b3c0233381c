use Rattle.ws_end_laws.proofs.wrote.each_ended_source_is_passed_on.Goals as goal
use Rattle.ws_end_laws.proofs.wrote.Sources as laws

pub returns : goal.returns
returns c = laws.each_ended_source_is_passed_on
