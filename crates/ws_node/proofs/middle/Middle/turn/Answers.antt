use Rattle.std.proofs.Common.{subst}
use Rattle.ws_node.specs.declared.node.Node.{Node}
use Rattle.ws_node.specs.Nodes.{any_bytes, of_neither}
use Rattle.ws_node.specs.Went.{Went}
use Rattle.ws_node.proofs.Joining.{went-any}
use Rattle.ws_node.proofs.middle.Middle.turn.Goals as goal

pub returns-clause-went : goal.returns-clause-went
returns-clause-went c =
    subst (λ (n : Node). Went n c.turn.new.self of_neither of_neither any_bytes any_bytes)
    c.self.view_is
    (went-any c.self.inside.node c.turn.new.self _ _ _ _ c.turn.ensures.went)
