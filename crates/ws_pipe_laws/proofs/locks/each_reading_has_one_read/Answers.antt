use Rattle.ws_pipe_laws.proofs.locks.each_reading_has_one_read.Goals as goal
use Rattle.ws_pipe_laws.proofs.locks.Sources as laws

pub returns : goal.returns
returns c = laws.each_reading_has_one_read
