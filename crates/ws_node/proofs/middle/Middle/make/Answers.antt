use Rattle.std.proofs.Common.{w64, true, None, ap, ◌∙◌, subst}
use Rattle.std.specs.List.{count_by}
use Rattle.std.proofs.lemmas.Int.{to_z-of_z}
use Rattle.ws_node.specs.declared.making.Share.TheVariants.{Of}
use Rattle.ws_node.specs.Node.{feeds_edge, is_edge}
use Rattle.ws_node.specs.Past.{IsFresh, IsNew}
use Rattle.ws_node.specs.Shares.{is_ahead_of, middle_of, shape_with}
use Rattle.ws_node.proofs.Opening.{fresh-driven, fresh-new}
use Rattle.ws_node.proofs.middle.Middle.make.Goals as goal

pub invariant_of-result : goal.invariant_of-result
invariant_of-result c = (
  fresh-driven c.args.plan.now (Of c.args.worker) true true c.stages_ahead_of-first.result c.in_ok-make.field-0 c.requires.accepted
      (subst (λ z. IsFresh (shape_with c.args.plan.now (Of z) true true) c.stages_ahead_of-first.result None c.in_ok-make.field-0)
      (to_z-of_z w64 c.args.worker c.ranges.worker) c.in_ok-make.ensures.fresh),
  ap is_edge c.in_ok-make.ensures.fresh.input,
  ap feeds_edge c.in_ok-make.ensures.fresh.output,
)

pub returns-clause-fresh : goal.returns-clause-fresh
returns-clause-fresh c =
    subst (λ k. IsNew (middle_of c.args.worker c.args.plan.now) k None c.in_ok-make.field-0)
    (c.stages_ahead_of-first.ensures ∙ ap (λ z. count_by (is_ahead_of z) c.deref.result.now) (to_z-of_z w64 c.args.worker c.ranges.worker)
    ∙ ap (λ ps. count_by (is_ahead_of c.args.worker) ps) c.deref.ensures.value)
    (fresh-new c.args.plan.now (Of c.args.worker) true true c.stages_ahead_of-first.result c.in_ok-make.field-0 c.requires.accepted
    (subst (λ z. IsFresh (shape_with c.args.plan.now (Of z) true true) c.stages_ahead_of-first.result None c.in_ok-make.field-0)
    (to_z-of_z w64 c.args.worker c.ranges.worker) c.in_ok-make.ensures.fresh))
