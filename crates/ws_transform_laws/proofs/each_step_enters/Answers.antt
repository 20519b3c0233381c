use Rattle.ws_transform_laws.proofs.each_step_enters.Goals as goal
use Rattle.ws_transform_laws.proofs.Entered as entered

pub returns : goal.returns
returns c = entered.each_step_enters
