use Rattle.ws_identity_laws.proofs.Ways.{each_way_passes}
use Rattle.ws_identity_laws.proofs.each_way_passes.Goals as goal

pub returns : goal.returns
returns c = each_way_passes
