use Rattle.std.proofs.Common.{None, subst}
use Rattle.ws_io.specs.Moment.{moment}
use Rattle.ws_node.specs.declared.node.Node.{Node}
use Rattle.ws_node.specs.Nodes.{any_bytes}
use Rattle.ws_node.specs.Went.{Went}
use Rattle.ws_node.proofs.Ahead.{each_head_reads_little_ahead}
use Rattle.ws_node.proofs.Joining.{head-goes, went-any}
use Rattle.ws_node.proofs.head.Head.turn.Goals as goal

pub returns-clause-went : goal.returns-clause-went
returns-clause-went g c =
    subst (λ (n : Node). Went n c.turn.new.self (moment (g.S.Source.faults c.args.input.now) (g.S.Source.feed c.args.input.now) 0 None)
    (moment (g.S.Source.faults c.turn.new.input) (g.S.Source.feed c.turn.new.input) 0 None) any_bytes any_bytes)
    c.self.view_is
    (went-any c.self.inside.node c.turn.new.self _ _ _ _ c.turn.ensures.went)

pub returns-clause-near : goal.returns-clause-near
returns-clause-near g c =
    each_head_reads_little_ahead c.turn.new.self c.turn.ensures.driven (head-goes c.self.inside.node c.turn.new.self _ _ _ _ c.turn.ensures.went c.self.invariant.1)

pub invariant_of-self : goal.invariant_of-self
invariant_of-self g c = (c.turn.ensures.driven, head-goes c.self.inside.node c.turn.new.self _ _ _ _ c.turn.ensures.went c.self.invariant.1)
