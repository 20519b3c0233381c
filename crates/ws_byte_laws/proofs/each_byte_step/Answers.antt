use Rattle.ws_byte_laws.proofs.Steps.{each_byte_step}
use Rattle.ws_byte_laws.proofs.each_byte_step.Goals as goal

pub returns : goal.returns
returns c = each_byte_step
