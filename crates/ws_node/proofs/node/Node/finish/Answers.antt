use Rattle.ws_node.specs.Moves.{FinishedWell, FinishedBadly, FinishedNot}
use Rattle.ws_node.proofs.Asking.{is_open, isn't_open, untouched}
use Rattle.ws_node.proofs.node.Node.finish.Goals as goal

pub returns-then-not-is_open : goal.returns-then-not-is_open
returns-then-not-is_open g c =
    FinishedNot (isn't_open c.args.self.now.exit.output c.is_open.result c.is_open.ensures c.if-not-is_open.true) (untouched _ (g.K.Sink.got c.args.output.now)) c.fail_output.ensures

pub returns-in-Ok : goal.returns-in-Ok
returns-in-Ok g c =
    FinishedWell (is_open c.args.self.now.exit.output c.is_open.result c.is_open.ensures c.if-not-is_open.false) c.in-Ok.ensures.bytes c.in-Ok.ensures.emptied c.in-Ok.ensures.cause.answered
    c.in-Ok.ensures.finished c.settle.ensures

pub returns-in-Err : goal.returns-in-Err
returns-in-Err g c =
    FinishedBadly (is_open c.args.self.now.exit.output c.is_open.result c.is_open.ensures c.if-not-is_open.false) c.in-Err.ensures.bytes c.in-Err.ensures.cause.failed
    c.in-Err.ensures.finished c.fail_output-in-Err.ensures
