use Rattle.std.proofs.Common.{true, false, ap, ◌∙◌, subst}
use Rattle.ws_node.specs.declared.making.Share.TheVariants.{None as NoneOfThem}
use Rattle.ws_node.specs.Node.{feeds_edge, is_edge}
use Rattle.ws_node.specs.Past.{IsNew}
use Rattle.ws_node.specs.Shares.{tail_of}
use Rattle.ws_node.proofs.Opening.{fresh-driven, fresh-new}
use Rattle.ws_node.proofs.tail.Tail.make.Goals as goal

pub invariant_of-result : goal.invariant_of-result
invariant_of-result c = (
  fresh-driven c.args.plan.now NoneOfThem true false c.len-first.result c.in_ok-make.field-0 c.requires.accepted c.in_ok-make.ensures.fresh,
  ap is_edge c.in_ok-make.ensures.fresh.input,
  ap feeds_edge c.in_ok-make.ensures.fresh.output,
)

pub returns-clause-fresh : goal.returns-clause-fresh
returns-clause-fresh c =
    subst (λ k. IsNew (tail_of c.args.plan.now) k c.args.plan.now.abort_after c.in_ok-make.field-0) (c.len-first.ensures ∙ c.args.plan.now.stages.ok.0)
    (fresh-new c.args.plan.now NoneOfThem true false c.len-first.result c.in_ok-make.field-0 c.requires.accepted c.in_ok-make.ensures.fresh)
