use Rattle.std.proofs.Common.{◌∙◌, [], ◌∷◌, sym}
use Rattle.ws_steps.specs.declared.effects.Effect.TheVariants.{Transform}
use Rattle.ws_steps.specs.declared.transform.TransformOperation.TheVariants.{Enqueued}
use Rattle.ws_tables.proofs.Loops.{empty}
use Rattle.ws_direct.proofs.Behind.{after-none, after-some, one-more, ready-now}
use Rattle.ws_direct.proofs.after.enqueued_after.Goals as goal

pub enqueued-requires : goal.enqueued-requires
enqueued-requires c = ready-now (Transform c.args.t Enqueued ∷ []) c.args.tables.now (empty c.args.tables.now.caused.effects (sym c.len.ensures ∙ c.if-len-eq0.true)) c.requires

pub returns-then-len-eq0 : goal.returns-then-len-eq0
returns-then-len-eq0 c =
    after-none (Transform c.args.t Enqueued ∷ []) c.args.tables.now c.enqueued.new.tables (empty c.args.tables.now.caused.effects (sym c.len.ensures ∙ c.if-len-eq0.true)) c.enqueued.ensures

pub leave_enqueued-requires : goal.leave_enqueued-requires
leave_enqueued-requires c = one-more (Transform c.args.t Enqueued) c.args.tables.now c.requires

pub returns-else-len-eq0 : goal.returns-else-len-eq0
returns-else-len-eq0 c = after-some (Transform c.args.t Enqueued) c.args.tables.now c.leave_enqueued.new.tables c.requires c.leave_enqueued.ensures
