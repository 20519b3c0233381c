use Rattle.ws_room_read_laws.proofs.Whole.{each_room_is_whole}
use Rattle.ws_room_read_laws.proofs.each_room_is_whole.Goals as goal

pub returns : goal.returns
returns c = each_room_is_whole
