use Rattle.ws_pipe_laws.proofs.pipes.none_passes_once_acting.Goals as goal
use Rattle.ws_pipe_laws.proofs.pipes.Still as still

pub returns : goal.returns
returns c = still.none_passes_once_acting
