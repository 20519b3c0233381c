use Rattle.ws_node_rules.proofs.laws.each_sound_node_is_whole.Goals as goal
use Rattle.ws_node_rules.proofs.Sound as laws

pub returns : goal.returns
returns c = laws.each_sound_node_is_whole
