use Rattle.ws_joined_laws.proofs.Lengths.{chunks-below, held-below, fed-below, may-be-pushed}
use Rattle.ws_joined_laws.proofs.each_held_chunk_may_be_pushed.Goals as goal

pub returns : goal.returns
returns c = record { chunks = chunks-below; held = held-below; fed = fed-below; push = may-be-pushed }
