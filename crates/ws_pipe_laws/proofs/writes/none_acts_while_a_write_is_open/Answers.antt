use Rattle.ws_pipe_laws.proofs.writes.none_acts_while_a_write_is_open.Goals as goal
use Rattle.ws_pipe_laws.proofs.writes.Settled as laws

pub returns : goal.returns
returns c = laws.none_acts_while_a_write_is_open
