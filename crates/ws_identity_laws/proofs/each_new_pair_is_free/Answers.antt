use Rattle.ws_identity_laws.proofs.Opening.{each_new_pair_is_free}
use Rattle.ws_identity_laws.proofs.each_new_pair_is_free.Goals as goal

pub returns : goal.returns
returns c = each_new_pair_is_free
