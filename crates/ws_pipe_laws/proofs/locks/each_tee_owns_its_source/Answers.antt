use Rattle.ws_pipe_laws.proofs.locks.TeeOwning as laws
use Rattle.ws_pipe_laws.proofs.locks.each_tee_owns_its_source.Goals as goal

pub returns : goal.returns
returns c = laws.each_tee_owns_its_source
