use Rattle.std.proofs.Common.{◌∙◌, [], ◌∷◌, sym}
use Rattle.ws_steps.specs.declared.effects.Effect.TheVariants.{Pipe}
use Rattle.ws_steps.specs.declared.pipes.PipeOperation.TheVariants.{GoOn}
use Rattle.ws_tables.proofs.Loops.{empty}
use Rattle.ws_direct.proofs.Behind.{after-none, after-some, one-more, ready-now}
use Rattle.ws_direct.proofs.after.go_on_after.Goals as goal

pub go_on-requires : goal.go_on-requires
go_on-requires c = ready-now (Pipe c.args.p GoOn ∷ []) c.args.tables.now (empty c.args.tables.now.caused.effects (sym c.len.ensures ∙ c.if-len-eq0.true)) c.requires

pub returns-then-len-eq0 : goal.returns-then-len-eq0
returns-then-len-eq0 c =
    after-none (Pipe c.args.p GoOn ∷ []) c.args.tables.now c.go_on.new.tables (empty c.args.tables.now.caused.effects (sym c.len.ensures ∙ c.if-len-eq0.true)) c.go_on.ensures

pub leave_look-requires : goal.leave_look-requires
leave_look-requires c = one-more (Pipe c.args.p GoOn) c.args.tables.now c.requires

pub returns-else-len-eq0 : goal.returns-else-len-eq0
returns-else-len-eq0 c = after-some (Pipe c.args.p GoOn) c.args.tables.now c.leave_look.new.tables c.requires c.leave_look.ensures
