use Rattle.ws_link_laws.proofs.Free.{each_free_pair_stays}
use Rattle.ws_link_laws.proofs.each_free_pair_stays.Goals as goal

pub returns : goal.returns
returns c = each_free_pair_stays
