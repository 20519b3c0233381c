use Rattle.ws_chain_laws.proofs.Keeps.{each_chain_has_room}
use Rattle.ws_chain_laws.proofs.each_chain_has_room.Goals as goal

pub returns : goal.returns
returns c = each_chain_has_room
