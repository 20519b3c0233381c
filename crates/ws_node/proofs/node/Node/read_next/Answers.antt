use Rattle.std.proofs.Common.{refl, sym, ◌∙◌, ap, arith, rules}
use Rattle.ws_node.specs.Moves.{ReadOnce, Wanted}
use Rattle.ws_node.proofs.Asking.{is_none_so, may_read, shut-rests, stopped-rests, unread}
use Rattle.ws_node.proofs.node.Node.read_next.Goals as goal

pub returns-then-is_some : goal.returns-then-is_some
returns-then-is_some g c =
    unread c.args.self.now (g.S.Source.feed c.args.input.now) (g.S.Source.faults c.args.input.now) (stopped-rests c.args.self.now (sym c.is_some.ensures ∙ c.if-is_some.true))

pub returns-then-not-is_open : goal.returns-then-not-is_open
returns-then-not-is_open g c =
    unread c.args.self.now (g.S.Source.feed c.args.input.now) (g.S.Source.faults c.args.input.now) (shut-rests c.args.self.now (sym c.is_open.ensures ∙ c.if-not-is_open.true))

pub returns-in-Ok : goal.returns-in-Ok
returns-in-Ok g c =
    ReadOnce (is_none_so c.args.self.now.core.stopped (sym c.is_some.ensures ∙ c.if-is_some.false)) (omega arith) (search rules)
    (may_read c.args.self.now.entrance.input c.is_open.result c.is_open.ensures c.if-not-is_open.false) c.in-Some.pull c.in-Some.is c.min-want.result (omega arith) (omega arith) c.in-Ok.piece
    c.in-Ok.ensures.piece c.take.new.self c.take.ensures c.settle.ensures

pub returns-in-Err : goal.returns-in-Err
returns-in-Err g c =
    Wanted (is_none_so c.args.self.now.core.stopped (sym c.is_some.ensures ∙ c.if-is_some.false))
    (record { feed = ap g.S.Source.feed c.in-Err.ensures.none; calm = ap g.S.Source.faults c.in-Err.ensures.none }) c.in-Some.pull c.in-Some.is refl
