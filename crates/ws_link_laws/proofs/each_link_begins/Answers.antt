use Rattle.ws_link_laws.proofs.Begins.{each_link_begins}
use Rattle.ws_link_laws.proofs.each_link_begins.Goals as goal

pub returns : goal.returns
returns c = each_link_begins
