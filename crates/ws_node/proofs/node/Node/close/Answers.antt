use Rattle.ws_node.specs.Moves.{finishes_by}
use Rattle.ws_node.proofs.Asking.{untouched, not_so, so}
use Rattle.ws_node.proofs.node.Node.close.Goals as goal

pub returns-then-not-is_sink : goal.returns-then-not-is_sink
returns-then-not-is_sink g c =
    not_so (finishes_by c.args.id c.args.self.now c.settle.new.self _ _ (g.K.Sink.got c.args.output.now) (g.K.Sink.got c.args.output.now)) c.is_sink.result _ c.is_sink.ensures
    c.if-not-is_sink.true (c.settle.ensures, untouched _ (g.K.Sink.got c.args.output.now))

pub returns : goal.returns
returns g c =
    so (finishes_by c.args.id c.args.self.now c.finish.new.self _ _ (g.K.Sink.got c.args.output.now) (g.K.Sink.got c.finish.new.output)) c.is_sink.result _ c.is_sink.ensures
    c.if-not-is_sink.false c.finish.ensures
