use Rattle.ws_end_laws.proofs.ends.each_whole_is_open.Goals as goal
use Rattle.ws_end_laws.proofs.ends.Parts as laws

pub returns : goal.returns
returns c = laws.each_whole_is_open
