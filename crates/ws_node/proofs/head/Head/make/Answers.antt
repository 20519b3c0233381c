use Rattle.std.proofs.Common.{true, false, ap, ◌∙◌}
use Rattle.ws_node.specs.declared.making.Share.TheVariants.{None as NoneOfThem}
use Rattle.ws_node.specs.Node.{feeds_edge, is_edge}
use Rattle.ws_node.proofs.Opening.{fresh-driven, fresh-new}
use Rattle.ws_node.proofs.Sharing.{none-begun}
use Rattle.ws_node.proofs.head.Head.make.Goals as goal

pub invariant_of-result : goal.invariant_of-result
invariant_of-result c = (
  fresh-driven c.args.plan.now NoneOfThem false true 0 c.in_ok-make.field-0 c.requires.accepted c.in_ok-make.ensures.fresh,
  record {
    from = ap is_edge c.in_ok-make.ensures.fresh.input;
    into = ap feeds_edge c.in_ok-make.ensures.fresh.output;
    bare = c.in_ok-make.ensures.fresh.stages ∙ none-begun c.args.plan.now.stages.items;
  },
)

pub returns : goal.returns
returns c = record {
  fresh = fresh-new c.args.plan.now NoneOfThem false true 0 c.in_ok-make.field-0 c.requires.accepted c.in_ok-make.ensures.fresh;
  end = c.in_ok-make.ensures.ends.1;
}
