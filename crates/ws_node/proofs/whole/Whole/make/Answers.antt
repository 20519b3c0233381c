use Rattle.ws_node.specs.declared.making.Share.TheVariants.{All}
use Rattle.std.specs.Prelude.{false}
use Rattle.ws_node.proofs.Opening.{fresh-driven, fresh-new}
use Rattle.ws_node.proofs.whole.Whole.make.Goals as goal

pub invariant_of-result : goal.invariant_of-result
invariant_of-result c = (
  fresh-driven c.args.plan.now All false false 0 c.in_ok-make.field-0 c.requires c.in_ok-make.ensures.fresh,
  record {
    input = c.in_ok-make.ensures.fresh.from.0;
    output = c.in_ok-make.ensures.fresh.into.0;
    above = c.in_ok-make.ensures.fresh.from.1;
    below = c.in_ok-make.ensures.fresh.into.1;
  },
)

pub returns : goal.returns
returns c = fresh-new c.args.plan.now All false false 0 c.in_ok-make.field-0 c.requires c.in_ok-make.ensures.fresh
