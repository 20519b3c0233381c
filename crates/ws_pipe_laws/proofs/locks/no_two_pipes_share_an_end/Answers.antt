use Rattle.ws_pipe_laws.proofs.locks.no_two_pipes_share_an_end.Goals as goal
use Rattle.ws_pipe_laws.proofs.locks.Owning as laws

pub returns : goal.returns
returns c = laws.no_two_pipes_share_an_end
