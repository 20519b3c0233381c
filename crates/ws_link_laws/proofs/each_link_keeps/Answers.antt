use Rattle.ws_link_laws.proofs.Keeps.{each_link_keeps}
use Rattle.ws_link_laws.proofs.each_link_keeps.Goals as goal

pub returns : goal.returns
returns c = each_link_keeps
