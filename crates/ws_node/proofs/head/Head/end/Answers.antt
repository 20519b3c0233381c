use Rattle.ws_node.proofs.Joining.{below-some}
use Rattle.ws_node.proofs.head.Head.end.Goals as goal

pub upper_end-requires : goal.upper_end-requires
upper_end-requires c = below-some c.self.inside.node c.self.invariant.0 c.self.invariant.1.into
