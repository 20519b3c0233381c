use Rattle.ws_node.proofs.Joining.{above-some}
use Rattle.ws_node.proofs.tail.Tail.end.Goals as goal

pub lower_end-requires : goal.lower_end-requires
lower_end-requires c = above-some c.self.inside.node c.self.invariant.0 c.self.invariant.1
