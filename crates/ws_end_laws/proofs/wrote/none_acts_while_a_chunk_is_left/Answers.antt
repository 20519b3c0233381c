use Rattle.ws_end_laws.proofs.wrote.none_acts_while_a_chunk_is_left.Goals as goal
use Rattle.ws_end_laws.proofs.wrote.Passed as laws

pub returns : goal.returns
returns c = laws.none_acts_while_a_chunk_is_left
