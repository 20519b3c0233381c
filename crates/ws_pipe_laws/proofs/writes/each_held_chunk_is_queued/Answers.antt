use Rattle.ws_pipe_laws.proofs.writes.each_held_chunk_is_queued.Goals as goal
use Rattle.ws_pipe_laws.proofs.writes.Queued as laws

pub returns : goal.returns
returns c = laws.each_held_chunk_is_queued
