use Rattle.std.proofs.Common.{◌∙◌, [], ◌∷◌, sym, subst}
use Rattle.ws_steps.specs.declared.effects.Effect.TheVariants.{PullAlgorithm}
use Rattle.ws_tables.proofs.Loops.{empty}
use Rattle.ws_direct.specs.Directly.{IsReadyAfter, PerformsAfter, pulls_told}
use Rattle.ws_direct.proofs.Behind.{after-none, after-nothing, one-more, pull-some, ready-now}
use Rattle.ws_direct.proofs.after.pull_after.Goals as goal

pub returns-then-not-pulls : goal.returns-then-not-pulls
returns-then-not-pulls c =
    subst (λ b. PerformsAfter (pulls_told b c.args.i) c.args.tables.now c.args.tables.now) (sym c.if-not-pulls.true)
    (after-nothing c.args.tables.now (subst (λ b. IsReadyAfter (pulls_told b c.args.i) c.args.tables.now) c.if-not-pulls.true c.requires))

pub pull-requires : goal.pull-requires
pull-requires c =
    ready-now (PullAlgorithm c.args.i ∷ []) c.args.tables.now (empty c.args.tables.now.caused.effects (sym c.len.ensures ∙ c.if-len-eq0.true))
    (subst (λ b. IsReadyAfter (pulls_told b c.args.i) c.args.tables.now) c.if-not-pulls.false c.requires)

pub returns-then-len-eq0 : goal.returns-then-len-eq0
returns-then-len-eq0 c =
    subst (λ b. PerformsAfter (pulls_told b c.args.i) c.args.tables.now c.pull.new.tables) (sym c.if-not-pulls.false)
    (after-none (PullAlgorithm c.args.i ∷ []) c.args.tables.now c.pull.new.tables (empty c.args.tables.now.caused.effects (sym c.len.ensures ∙ c.if-len-eq0.true)) c.pull.ensures)

pub leave_pull-requires : goal.leave_pull-requires
leave_pull-requires c = one-more (PullAlgorithm c.args.i) c.args.tables.now (subst (λ b. IsReadyAfter (pulls_told b c.args.i) c.args.tables.now) c.if-not-pulls.false c.requires)

pub returns-else-len-eq0 : goal.returns-else-len-eq0
returns-else-len-eq0 c = pull-some c.args.i c.args.pulls c.args.tables.now c.leave_pull.new.tables c.if-not-pulls.false c.requires c.leave_pull.ensures
