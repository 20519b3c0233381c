use Rattle.ws_wire_laws.proofs.Keeps.{each_wiring_has_room}
use Rattle.ws_wire_laws.proofs.each_wiring_has_room.Goals as goal

pub returns : goal.returns
returns c = each_wiring_has_room
