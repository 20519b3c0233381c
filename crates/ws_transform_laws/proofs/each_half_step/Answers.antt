use Rattle.ws_transform_laws.proofs.each_half_step.Goals as goal
use Rattle.ws_transform_laws.proofs.Steps as steps

pub returns : goal.returns
returns c = steps.each_half_step
