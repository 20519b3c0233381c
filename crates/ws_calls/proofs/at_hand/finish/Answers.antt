use Rattle.std.proofs.Common.{◌∙◌, ◌-◌, sym, arith}
use Rattle.ws_tables.proofs.Loops.{empty}
use Rattle.ws_calls.proofs.AtOnce.{none-caused}
use Rattle.ws_calls.proofs.at_hand.finish.Goals as goal

pub returns-then-len-eq0-clause-all : goal.returns-then-len-eq0-clause-all
returns-then-len-eq0-clause-all c = none-caused c.args.tables.now c.requires.begun (empty c.args.tables.now.caused.effects (sym c.len.ensures ∙ c.if-len-eq0.true))

pub returns-then-len-eq0-clause-found : goal.returns-then-len-eq0-clause-found
returns-then-len-eq0-clause-found c = λ found some.
    found (empty c.args.tables.now.caused.effects (sym c.len.ensures ∙ c.if-len-eq0.true)) (c.args.places - 1) (omega arith)
