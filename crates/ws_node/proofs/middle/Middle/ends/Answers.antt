use Rattle.ws_node.proofs.Joining.{above-some, below-some}
use Rattle.ws_node.proofs.middle.Middle.ends.Goals as goal

pub lower_end-requires : goal.lower_end-requires
lower_end-requires c = above-some c.self.inside.node c.self.invariant.0 c.self.invariant.1

pub upper_end-requires : goal.upper_end-requires
upper_end-requires c = below-some c.self.inside.node c.self.invariant.0 c.self.invariant.2
