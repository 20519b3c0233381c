use Rattle.ws_wire_laws.proofs.Two.{each_step_moves_one_link}
use Rattle.ws_wire_laws.proofs.each_step_moves_one_link.Goals as goal

pub returns : goal.returns
returns c = each_step_moves_one_link
