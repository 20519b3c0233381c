use Rattle.std.proofs.Common.{arith, length}
use Rattle.ws_slots.proofs.SpentLemmas.{spent-join, spent-next}
use Rattle.ws_slots.proofs.spent.spent_from.Goals as goal

pub returns-then-is_spent-clause-some : goal.returns-then-is_spent-clause-some
returns-then-is_spent-clause-some c =
    let found = c.in-Some.ensures.some in (
      omega (arith, found.0, c.loop-p.invariant.from),
      found.1,
      c.is_spent.ensures.there c.if-is_spent.true,
      spent-join c.args.from.0 c.loop-p.at.0 c.in-Some.p.0 c.args.slots.now.items c.loop-p.invariant.looked found.2,
    )

pub loop-p-preserved : goal.loop-p-preserved
loop-p-preserved c =
    let found = c.in-Some.ensures.some in record {
      from = omega (arith, found.0, c.loop-p.invariant.from);
      looked = spent-next c.args.from.0 c.in-Some.p.0 c.args.slots.now.items (spent-join c.args.from.0 c.loop-p.at.0 c.in-Some.p.0 c.args.slots.now.items c.loop-p.invariant.looked found.2) (λ s g. (c.is_spent.ensures.loose s g).1 c.if-is_spent.false);
    }

pub returns-clause-none : goal.returns-clause-none
returns-clause-none c = spent-join c.args.from.0 c.loop-p.at.0 (length c.args.slots.now.items) c.args.slots.now.items c.loop-p.invariant.looked c.in_default.ensures.none
