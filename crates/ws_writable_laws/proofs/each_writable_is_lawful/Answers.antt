use Rattle.ws_writable_laws.proofs.each_writable_is_lawful.Goals as goal
use Rattle.ws_writable_laws.proofs.Runs as runs

pub returns : goal.returns
returns c = runs.each_writable_is_lawful
