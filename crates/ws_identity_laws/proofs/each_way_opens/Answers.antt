use Rattle.ws_identity_laws.proofs.Opening.{each_way_opens}
use Rattle.ws_identity_laws.proofs.each_way_opens.Goals as goal

pub returns : goal.returns
returns c = each_way_opens
