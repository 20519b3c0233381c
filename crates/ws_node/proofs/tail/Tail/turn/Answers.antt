use Rattle.std.proofs.Common.{None, subst}
use Rattle.ws_io.specs.Moment.{moment}
use Rattle.ws_node.specs.declared.node.Node.{Node}
use Rattle.ws_node.specs.Went.{Went}
use Rattle.ws_node.proofs.tail.Tail.turn.Goals as goal

pub returns-clause-went : goal.returns-clause-went
returns-clause-went g c =
    subst (λ (n : Node). Went n c.turn.new.self (moment 0 None (g.K.Sink.faults c.args.output.now) (g.K.Sink.finished c.args.output.now))
    (moment 0 None (g.K.Sink.faults c.turn.new.output) (g.K.Sink.finished c.turn.new.output)) (g.K.Sink.got c.args.output.now) (g.K.Sink.got c.turn.new.output))
    c.self.view_is
    c.turn.ensures.went
