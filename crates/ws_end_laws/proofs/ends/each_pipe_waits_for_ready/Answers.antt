use Rattle.ws_end_laws.proofs.ends.each_pipe_waits_for_ready.Goals as goal
use Rattle.ws_end_laws.proofs.ends.ReadyWaits as laws

pub returns : goal.returns
returns c = laws.each_pipe_waits_for_ready
