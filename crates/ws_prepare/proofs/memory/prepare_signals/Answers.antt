use Rattle.std.proofs.Common.{arith}
use Rattle.ws_tables.proofs.Loops.{empty}
use Rattle.ws_prepare.proofs.Preparing.{all-have}
use Rattle.ws_prepare.proofs.memory.prepare_signals.Goals as goal

pub returns-clause-ok : goal.returns-clause-ok
returns-clause-ok c =
    let now = c.loop-a.tables in
    all-have now.full.items now.signals.items (empty now.full.items (omega (arith, now.full.ok.0, c.in_default.ensures.cases.0))) c.loop-a.invariant.members
