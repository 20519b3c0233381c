use Rattle.std.proofs.Common.{◌∙◌, [], ◌∷◌, refl, sym}
use Rattle.ws_steps.specs.declared.promises.Step.TheVariants.{PipeWrote}
use Rattle.ws_steps.specs.Pipes.{reacts}
use Rattle.ws_tables.proofs.Loops.{empty}
use Rattle.ws_direct.proofs.Behind.{after-none, after-some, one-more, ready-now}
use Rattle.ws_direct.proofs.after.wrote_after.Goals as goal

pub react-requires : goal.react-requires
react-requires c = record { steps = refl; ready = ready-now (reacts c.args.promise (PipeWrote c.args.p) ∷ []) c.args.tables.now (empty c.args.tables.now.caused.effects (sym c.len.ensures ∙ c.if-len-eq0.true)) c.requires.ready }

pub returns-then-len-eq0 : goal.returns-then-len-eq0
returns-then-len-eq0 c =
    after-none (reacts c.args.promise (PipeWrote c.args.p) ∷ []) c.args.tables.now c.react.new.tables (empty c.args.tables.now.caused.effects (sym c.len.ensures ∙ c.if-len-eq0.true)) c.react.ensures.performed

pub leave_wrote-requires : goal.leave_wrote-requires
leave_wrote-requires c = one-more (reacts c.args.promise (PipeWrote c.args.p)) c.args.tables.now c.requires.ready

pub returns-else-len-eq0 : goal.returns-else-len-eq0
returns-else-len-eq0 c = after-some (reacts c.args.promise (PipeWrote c.args.p)) c.args.tables.now c.leave_wrote.new.tables c.requires.ready c.leave_wrote.ensures
