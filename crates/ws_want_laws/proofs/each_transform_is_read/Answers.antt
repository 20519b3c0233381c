use Rattle.ws_want_laws.proofs.each_transform_is_read.Goals as goal
use Rattle.ws_want_laws.proofs.Unpressed as unpressed

pub returns : goal.returns
returns c = unpressed.each_transform_is_read
