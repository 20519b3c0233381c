use Rattle.ws_transform_laws.proofs.each_chunk_is_read.Goals as goal
use Rattle.ws_transform_laws.proofs.Wants as wants

pub returns : goal.returns
returns c = wants.each_chunk_is_read
