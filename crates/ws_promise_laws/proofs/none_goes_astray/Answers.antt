use Rattle.ws_promise_laws.proofs.none_goes_astray.Goals as goal
use Rattle.ws_promise_laws.proofs.Runs as runs

pub returns : goal.returns
returns c = runs.none_goes_astray
