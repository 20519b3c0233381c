use Rattle.std.proofs.Common.{arith, length-append}
use Rattle.std.proofs.lemmas.List.{length-map}
use Rattle.ws_slots.proofs.WaitingLemmas.{alike-same, length-waiting_both}
use Rattle.ws_slots.proofs.waiting.move_some.Goals as goal

pub returns-clause-total : goal.returns-clause-total
returns-clause-total c = grind (arith, length-append, length-map, length-waiting_both c.args.p.0 c.args.waiting.now.items)

pub returns-clause-waiting : goal.returns-clause-waiting
returns-clause-waiting c = alike-same c.take_all.ensures.items

pub returns-then-waits-eq1-clause-total : goal.returns-then-waits-eq1-clause-total
returns-then-waits-eq1-clause-total c =
    let count = c.move_only.ensures.waiting.count in
    grind (arith, length-append, length-map, length-waiting_both c.args.p.0 c.args.waiting.now.items)
