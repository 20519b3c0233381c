use Rattle.ws_identity_laws.proofs.Begins.{each_any_link_begins}
use Rattle.ws_identity_laws.proofs.each_any_link_begins.Goals as goal

pub returns : goal.returns
returns c = each_any_link_begins
