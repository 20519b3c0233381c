use Rattle.ws_transform_laws.proofs.flushes_close.Goals as goal
use Rattle.ws_transform_laws.proofs.Flushed as flushed

pub returns : goal.returns
returns c = flushed.flushes_close
