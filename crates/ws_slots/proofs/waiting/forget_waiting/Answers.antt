use Rattle.std.proofs.Common.{arith, sym}
use Rattle.ws_slots.proofs.WaitingLemmas.{alike-same, waiting_on-nobody, waiting_elsewhere-nobody}
use Rattle.ws_slots.proofs.waiting.forget_waiting.Goals as goal

pub returns-then-waits-eq0-clause-waiting : goal.returns-then-waits-eq0-clause-waiting
returns-then-waits-eq0-clause-waiting c =
    alike-same (sym (waiting_elsewhere-nobody c.args.p.0 c.args.waiting.now.items (waiting_on-nobody c.args.p.0 c.args.waiting.now.items (grind arith))))

pub returns-clause-waiting : goal.returns-clause-waiting
returns-clause-waiting c = alike-same c.take_all.ensures.items
