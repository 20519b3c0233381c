use Rattle.ws_wire_laws.proofs.Keeps.{each_call_keeps_wiring}
use Rattle.ws_wire_laws.proofs.each_call_keeps_wiring.Goals as goal

pub returns : goal.returns
returns c = each_call_keeps_wiring
