use Rattle.ws_identity_laws.proofs.Through.{each_identity_passes}
use Rattle.ws_identity_laws.proofs.each_identity_passes.Goals as goal

pub returns : goal.returns
returns c = each_identity_passes
