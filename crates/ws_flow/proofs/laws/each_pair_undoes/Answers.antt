use Rattle.ws_flow.proofs.laws.each_pair_undoes.Goals as goal
use Rattle.ws_flow.proofs.EachKind.{pairs_undo}

pub returns : goal.returns
returns c = pairs_undo
