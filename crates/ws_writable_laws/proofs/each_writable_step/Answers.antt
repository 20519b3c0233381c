use Rattle.ws_writable_laws.proofs.each_writable_step.Goals as goal
use Rattle.ws_writable_laws.proofs.EachStep as steps

pub returns : goal.returns
returns c = steps.each_writable_step
