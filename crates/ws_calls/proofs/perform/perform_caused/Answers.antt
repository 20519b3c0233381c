use Rattle.std.proofs.Common.{◌∙◌, sym}
use Rattle.ws_tables.proofs.Loops.{empty}
use Rattle.ws_calls.proofs.AtOnce.{none-caused}
use Rattle.ws_calls.proofs.perform.perform_caused.Goals as goal

pub returns-then-len-eq0 : goal.returns-then-len-eq0
returns-then-len-eq0 c = none-caused c.args.tables.now c.requires (empty c.args.tables.now.caused.effects (sym c.len.ensures ∙ c.if-len-eq0.true))
