use Rattle.ws_flow.proofs.laws.each_cutting_is_alike.Goals as goal
use Rattle.ws_flow.proofs.Cutting.{same_cut}
use Rattle.ws_flow.proofs.Reach.{reach_before}

pub returns : goal.returns
returns c = record {
  cutting = λ ss x y known alike. let s = same_cut ss x y known alike in (s.bytes, s.endings);
  first_bytes = reach_before;
}
