use Rattle.ws_pipe_laws.proofs.pipes.each_reason_stays.Goals as goal
use Rattle.ws_pipe_laws.proofs.pipes.Signals as laws

pub returns : goal.returns
returns c = laws.each_reason_stays
