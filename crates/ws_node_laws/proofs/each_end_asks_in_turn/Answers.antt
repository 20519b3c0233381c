use Rattle.ws_node_laws.proofs.InTurn.{each_end_asks_in_turn}
use Rattle.ws_node_laws.proofs.each_end_asks_in_turn.Goals as goal

pub returns : goal.returns
returns c = each_end_asks_in_turn
