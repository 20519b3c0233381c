use Rattle.ws_identity_laws.proofs.Heard.{each_way_is_heard}
use Rattle.ws_identity_laws.proofs.each_way_is_heard.Goals as goal

pub returns : goal.returns
returns c = each_way_is_heard
