use Rattle.ws_link_laws.proofs.HasRoom.{each_link_begins_with_room}
use Rattle.ws_link_laws.proofs.each_link_begins_with_room.Goals as goal

pub returns : goal.returns
returns c = each_link_begins_with_room
