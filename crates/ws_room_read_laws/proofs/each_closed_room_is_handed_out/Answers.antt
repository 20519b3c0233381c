use Rattle.ws_room_read_laws.proofs.Whole.{each_closed_room_is_handed_out}
use Rattle.ws_room_read_laws.proofs.each_closed_room_is_handed_out.Goals as goal

pub returns : goal.returns
returns c = each_closed_room_is_handed_out
