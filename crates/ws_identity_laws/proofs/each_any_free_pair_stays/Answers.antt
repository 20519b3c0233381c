use Rattle.ws_identity_laws.proofs.Free.{each_any_free_pair_stays}
use Rattle.ws_identity_laws.proofs.each_any_free_pair_stays.Goals as goal

pub returns : goal.returns
returns c = each_any_free_pair_stays
