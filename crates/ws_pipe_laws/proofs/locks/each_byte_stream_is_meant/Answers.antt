use Rattle.ws_pipe_laws.proofs.locks.each_byte_stream_is_meant.Goals as goal
use Rattle.ws_pipe_laws.proofs.locks.Sources as laws

pub returns : goal.returns
returns c = laws.each_byte_stream_is_meant
