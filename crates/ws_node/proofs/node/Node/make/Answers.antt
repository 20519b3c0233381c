use Rattle.std.proofs.Common.{◌≡◌, refl, ap, ◌∙◌, if◌then◌else◌, nat_abs, rules, to_z, of_z, w64}
use Rattle.std.specs.Prelude.{is_some}
use Rattle.ws_node.specs.declared.node.Input.TheVariants as input
use Rattle.ws_node.specs.declared.node.Output.TheVariants as output
use Rattle.ws_node.proofs.Fresh.{edge-input, edge-output, fresh-by, open-input, open-output}
use Rattle.ws_node.proofs.node.Node.make.Goals as goal
use Rattle.ws_node.proofs.node.Node.make.Goals.{then-is_some, else-is_some, then-is_some-2, else-is_some-2}

pub returns-clause-fresh : goal.returns-clause-fresh
returns-clause-fresh c =
    let limit : to_z w64 (of_z w64 c.args.plan.now.max_input) ≡ c.args.plan.now.max_input = search rules in
    let fed : c.if-is_some.result ≡ (if is_some c.args.above then input.Edge else input.Open) = elim c.if-is_some.branch [
      | then-is_some w ↦ edge-input c.args.above c.is_some-3.result c.if-is_some.result c.is_some-3.ensures w.if-is_some.true w.result-is
      | else-is_some w ↦ open-input c.args.above c.is_some-3.result c.if-is_some.result c.is_some-3.ensures w.if-is_some.false w.result-is
    ] in
    let feeds : c.if-is_some-2.result ≡ (if is_some c.args.below then output.Edge else output.Open) = elim c.if-is_some-2.branch [
      | then-is_some-2 w ↦ edge-output c.args.below c.is_some-4.result c.if-is_some-2.result c.is_some-4.ensures w.if-is_some-2.true w.result-is
      | else-is_some-2 w ↦ open-output c.args.below c.is_some-4.result c.if-is_some-2.result c.is_some-4.ensures w.if-is_some-2.false w.result-is
    ] in
    fresh-by c.args.plan.now c.args.share c.args.first c.args.above c.args.below c.is_some.result c.is_some-2.result c.open.new.realm c.in_ok-stages.field-0 c.unsigned_abs.result
    c.if-is_some.result c.if-is_some-2.result c.is_some.ensures c.is_some-2.ensures c.in_ok-stages.ensures.opened c.in_ok-stages.ensures.slots
    (c.unsigned_abs.ensures.value ∙ ap nat_abs limit) fed feeds c.requires.above c.requires.below

pub returns-clause-ends : goal.returns-clause-ends
returns-clause-ends c = (refl, refl)
