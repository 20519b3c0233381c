use Rattle.std.proofs.Common.{sym, subst}
use Rattle.ws_direct.specs.Directly.{IsReadyFor, PerformsDirectly, pulls_told}
use Rattle.ws_direct.proofs.Behind.{nothing-left}
use Rattle.ws_direct.proofs.pulls.pull_where.Goals as goal

pub pull-requires : goal.pull-requires
pull-requires c = subst (λ b. IsReadyFor (pulls_told b c.args.i) c.args.tables.now) c.if-pulls.true c.requires

pub returns-then-pulls : goal.returns-then-pulls
returns-then-pulls c = subst (λ b. PerformsDirectly (pulls_told b c.args.i) c.args.tables.now c.pull.new.tables) (sym c.if-pulls.true) c.pull.ensures

pub returns-else-pulls : goal.returns-else-pulls
returns-else-pulls c =
    subst (λ b. PerformsDirectly (pulls_told b c.args.i) c.args.tables.now c.args.tables.now) (sym c.if-pulls.false)
    (nothing-left c.args.tables.now (subst (λ b. IsReadyFor (pulls_told b c.args.i) c.args.tables.now) c.if-pulls.false c.requires))
