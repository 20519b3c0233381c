use Rattle.ws_write_laws.proofs.each_write_is_settled.Goals as goal
use Rattle.ws_write_laws.proofs.Runs as runs

pub returns : goal.returns
returns c = runs.each_write_is_settled
