use Rattle.ws_pipe_laws.proofs.pipes.each_pipe_reads_its_source.Goals as goal
use Rattle.ws_pipe_laws.proofs.pipes.GivenBy as laws

pub returns : goal.returns
returns c = laws.each_pipe_reads_its_source
