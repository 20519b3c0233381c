use Rattle.std.proofs.Common.{Err, sym, ap, ◌∙◌}
use Rattle.ws_value.specs.declared.value.Value.TheVariants.{Bytes}
use Rattle.ws_steps.specs.declared.calls.Call.TheVariants.{Enqueue}
use Rattle.ws_realm.specs.declared.realm.Why.TheVariants.{Spent}
use Rattle.ws_node.proofs.Asking.{asks-stopped, asks-performed, asks-refused, not-refused}
use Rattle.ws_node.proofs.node.Node.enqueue.Goals as goal

pub returns-then-is_some-clause-asks : goal.returns-then-is_some-clause-asks
returns-then-is_some-clause-asks c = asks-stopped (Enqueue c.args.stream (Bytes c.args.chunk)) c.args.self.now (sym c.is_some.ensures ∙ c.if-is_some.true)

pub returns-in-Ok-clause-asks : goal.returns-in-Ok-clause-asks
returns-in-Ok-clause-asks c =
    asks-performed (Enqueue c.args.stream (Bytes c.args.chunk)) c.args.self.now c.enqueue.new.self (sym c.is_some.ensures ∙ c.if-is_some.false) c.in-Ok.ensures.slots
    (λ old. not-refused c.enqueue.result c.in-Ok.done Spent c.in-Ok.is (c.enqueue.ensures.spent.1 old))

pub returns-in-Err-clause-asks : goal.returns-in-Err-clause-asks
returns-in-Err-clause-asks c =
    asks-refused (Enqueue c.args.stream (Bytes c.args.chunk)) c.args.self.now c.enqueue.new.self c.in-Err.why (sym c.is_some.ensures ∙ c.if-is_some.false) c.in-Err.ensures.untouched
    (λ e. c.enqueue.ensures.spent.0 (c.in-Err.is ∙ ap Err e))
