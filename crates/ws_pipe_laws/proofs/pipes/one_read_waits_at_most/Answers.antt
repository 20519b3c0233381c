use Rattle.ws_pipe_laws.proofs.pipes.one_read_waits_at_most.Goals as goal
use Rattle.ws_pipe_laws.proofs.pipes.PassingRuns as laws

pub returns : goal.returns
returns c = laws.one_read_waits_at_most
