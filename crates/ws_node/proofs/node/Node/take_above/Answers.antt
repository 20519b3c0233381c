use Rattle.std.proofs.Common.{refl, sym, ◌∙◌}
use Rattle.ws_node.specs.Edges.{NoneAbove}
use Rattle.ws_node.proofs.Asking.{is_none_so}
use Rattle.ws_node.proofs.EndSteps.{looked, took-above}
use Rattle.ws_node.proofs.node.Node.take_above.Goals as goal

pub returns-in_default-take : goal.returns-in_default-take
returns-in_default-take c =
    let t = c.in_default-take.ensures in
    NoneAbove refl (is_none_so c.args.self.now.core.stopped (sym c.is_some.ensures ∙ c.if-is_some.false)) c.in-Some.end c.take.new.self c.in-Some.is
    (looked c.in-Some.end c.take.new.self t.to t.waiting t.traced t.row t.looked t.none t.untaken) refl

pub returns : goal.returns
returns c =
    let t = c.in-Some-take.ensures in
    took-above c.args.self.now c.bring.new.self c.in-Some-take.message c.as_fair.result c.in-Some.end c.take.new.self
    (is_none_so c.args.self.now.core.stopped (sym c.is_some.ensures ∙ c.if-is_some.false)) (sym c.if-not-takes_more.ensures) c.in-Some.is
    (record { to = t.to; waiting = t.waiting; traced = t.traced; row = t.row; received = t.taken }) c.as_fair.ensures c.bring.ensures
