use Rattle.ws_end_laws.proofs.ends.each_pipe_counts_its_parts.Goals as goal
use Rattle.ws_end_laws.proofs.ends.Parts as laws

pub returns : goal.returns
returns c = laws.each_pipe_counts_its_parts
