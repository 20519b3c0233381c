use Rattle.ws_pipe_laws.proofs.pipes.no_read_starts_once_shut.Goals as goal
use Rattle.ws_pipe_laws.proofs.pipes.Shut as shut

pub returns : goal.returns
returns c = shut.no_read_starts_once_shut
