use Rattle.ws_room_laws.proofs.room_is_enough.Goals as goal
use Rattle.ws_room_laws.proofs.Room.{room_is_enough}

pub returns : goal.returns
returns c = room_is_enough
