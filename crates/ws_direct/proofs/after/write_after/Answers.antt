use Rattle.std.proofs.Common.{◌∙◌, [], ◌∷◌, refl, sym}
use Rattle.ws_steps.specs.declared.promises.Step.TheVariants.{WritableWrite}
use Rattle.ws_steps.specs.Pipes.{reacts}
use Rattle.ws_tables.proofs.Loops.{empty}
use Rattle.ws_direct.proofs.Behind.{after-none, after-some, one-more, ready-now}
use Rattle.ws_direct.proofs.after.write_after.Goals as goal

pub react-requires : goal.react-requires
react-requires c = record { steps = refl; ready = ready-now (reacts c.args.promise (WritableWrite c.args.i) ∷ []) c.args.tables.now (empty c.args.tables.now.caused.effects (sym c.len.ensures ∙ c.if-len-eq0.true)) c.requires }

pub returns-then-len-eq0 : goal.returns-then-len-eq0
returns-then-len-eq0 c =
    after-none (reacts c.args.promise (WritableWrite c.args.i) ∷ []) c.args.tables.now c.react.new.tables (empty c.args.tables.now.caused.effects (sym c.len.ensures ∙ c.if-len-eq0.true)) c.react.ensures.performed

pub leave_write-requires : goal.leave_write-requires
leave_write-requires c = one-more (reacts c.args.promise (WritableWrite c.args.i)) c.args.tables.now c.requires

pub returns-else-len-eq0 : goal.returns-else-len-eq0
returns-else-len-eq0 c = after-some (reacts c.args.promise (WritableWrite c.args.i)) c.args.tables.now c.leave_write.new.tables c.requires c.leave_write.ensures
