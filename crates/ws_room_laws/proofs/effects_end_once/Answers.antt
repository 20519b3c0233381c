use Rattle.ws_room_laws.proofs.effects_end_once.Goals as goal
use Rattle.ws_room_laws.proofs.Turns.{performed-leads, one_end}

pub returns : goal.returns
returns c = λ d. (performed-leads d, λ z l. one_end d z l)
