use Rattle.ws_chain_laws.proofs.each_sound_link_is_whole.Goals as goal
use Rattle.ws_chain_laws.proofs.Sound as laws

pub returns : goal.returns
returns c = laws.each_sound_link_is_whole
