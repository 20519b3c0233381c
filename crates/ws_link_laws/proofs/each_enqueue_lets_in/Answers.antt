use Rattle.ws_link_laws.proofs.Entering.{each_enqueue_lets_in}
use Rattle.ws_link_laws.proofs.each_enqueue_lets_in.Goals as goal

pub returns : goal.returns
returns c = each_enqueue_lets_in
