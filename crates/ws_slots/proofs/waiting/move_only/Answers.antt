use Rattle.std.proofs.Common.{sym}
use Rattle.ws_slots.proofs.WaitingLemmas.{alike-same, waiting_elsewhere-nobody}
use Rattle.ws_slots.proofs.waiting.move_only.Goals as goal

pub returns-in_default-clause-waiting : goal.returns-in_default-clause-waiting
returns-in_default-clause-waiting c = alike-same (sym (waiting_elsewhere-nobody c.args.p.0 c.args.waiting.now.items c.in_default.ensures.none))
