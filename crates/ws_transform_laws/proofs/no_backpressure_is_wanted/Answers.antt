use Rattle.ws_transform_laws.proofs.no_backpressure_is_wanted.Goals as goal
use Rattle.ws_transform_laws.proofs.WantedRuns as wanted

pub returns : goal.returns
returns c = wanted.no_backpressure_is_wanted
