use Rattle.ws_identity_laws.proofs.Keeps.{each_link_passes}
use Rattle.ws_identity_laws.proofs.each_link_passes.Goals as goal

pub returns : goal.returns
returns c = each_link_passes
