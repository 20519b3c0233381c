use Rattle.ws_transform_laws.proofs.jobs_enter_nothing.Goals as goal
use Rattle.ws_transform_laws.proofs.Entered as entered

pub returns : goal.returns
returns c = entered.jobs_enter_nothing
