use Rattle.std.proofs.Common.{Err, sym, ap, ◌∙◌}
use Rattle.ws_realm.specs.declared.realm.Why.TheVariants.{Spent}
use Rattle.ws_node.specs.Moves.{settles}
use Rattle.ws_node.proofs.Asking.{asks-stopped, asks-performed, asks-refused}
use Rattle.ws_node.proofs.node.Node.settle.Goals as goal

pub returns-then-is_some : goal.returns-then-is_some
returns-then-is_some c = asks-stopped (settles c.args.id) c.args.self.now (sym c.is_some.ensures ∙ c.if-is_some.true)

pub returns-in-Err : goal.returns-in-Err
returns-in-Err c =
    asks-refused (settles c.args.id) c.args.self.now c.settle_done.new.self c.in-Err.why (sym c.is_some.ensures ∙ c.if-is_some.false) c.in-Err.ensures.untouched (λ e. c.settle_done.ensures.spent.0 (c.in-Err.is ∙ ap Err e))

pub returns-in_default : goal.returns-in_default
returns-in_default c =
    asks-performed (settles c.args.id) c.args.self.now c.settle_done.new.self (sym c.is_some.ensures ∙ c.if-is_some.false) c.in_default.ensures.slots
    (λ old. c.in_default.not-Err Spent (c.settle_done.ensures.spent.1 old))
