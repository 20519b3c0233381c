use Rattle.ws_identity_laws.proofs.Acting.{each_act_is_told}
use Rattle.ws_identity_laws.proofs.each_act_is_told.Goals as goal

pub returns : goal.returns
returns c = each_act_is_told
