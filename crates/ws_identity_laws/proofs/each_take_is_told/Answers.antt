use Rattle.ws_identity_laws.proofs.Entered.{each_take_is_told}
use Rattle.ws_identity_laws.proofs.each_take_is_told.Goals as goal

pub returns : goal.returns
returns c = each_take_is_told
