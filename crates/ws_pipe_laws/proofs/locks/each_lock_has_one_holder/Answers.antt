use Rattle.ws_pipe_laws.proofs.locks.each_lock_has_one_holder.Goals as goal
use Rattle.ws_pipe_laws.proofs.locks.Runs as laws

pub returns : goal.returns
returns c = laws.each_lock_has_one_holder
