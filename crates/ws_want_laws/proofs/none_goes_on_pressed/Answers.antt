use Rattle.ws_want_laws.proofs.none_goes_on_pressed.Goals as goal
use Rattle.ws_want_laws.proofs.Unpressed as unpressed

pub returns : goal.returns
returns c = unpressed.none_goes_on_pressed
