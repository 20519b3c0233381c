use Rattle.std.proofs.Common.{refl, sym, ◌∙◌}
use Rattle.ws_node.specs.Moves.{LeftHeld, NotWritten, WroteHeld}
use Rattle.ws_node.proofs.Asking.{is_none_so, is_open, untouched}
use Rattle.ws_node.proofs.node.Node.empty.Goals as goal

pub returns-then-is_some : goal.returns-then-is_some
returns-then-is_some g c = LeftHeld refl (untouched _ (g.K.Sink.got c.args.output.now))

pub returns-then-not-is_open : goal.returns-then-not-is_open
returns-then-not-is_open g c = LeftHeld refl (untouched _ (g.K.Sink.got c.args.output.now))

pub returns-in-Ok : goal.returns-in-Ok
returns-in-Ok g c =
    WroteHeld (is_none_so c.args.self.now.core.stopped (sym c.is_some.ensures ∙ c.if-is_some.false))
    (is_open c.args.self.now.exit.output c.is_open.result c.is_open.ensures c.if-not-is_open.false) refl c.in-Ok.ensures.bytes c.in-Ok.ensures.emptied c.in-Ok.ensures.cause.answered
    c.in-Ok.ensures.finished

pub returns-in-Err : goal.returns-in-Err
returns-in-Err g c =
    NotWritten (is_none_so c.args.self.now.core.stopped (sym c.is_some.ensures ∙ c.if-is_some.false))
    (is_open c.args.self.now.exit.output c.is_open.result c.is_open.ensures c.if-not-is_open.false) refl c.in-Err.ensures.bytes c.in-Err.ensures.cause.failed
    c.in-Err.ensures.finished
