use Rattle.ws_pipe_laws.proofs.locks.each_source_is_read_by_its_pipe.Goals as goal
use Rattle.ws_pipe_laws.proofs.locks.Sources as laws

pub returns : goal.returns
returns c = laws.each_source_is_read_by_its_pipe
