use Rattle.std.proofs.Common.{ℕ, ◌+◌, sym, subst}
use Rattle.ws_value.specs.declared.fault.Fault.TheVariants.{Stage}
use Rattle.ws_flow.specs.declared.plan.Ending.{Ending}
use Rattle.ws_node.specs.Moves.{Asks, fails, settles_by}
use Rattle.ws_node.proofs.node.Node.settle_by.Goals as goal

pub returns-in-Fine : goal.returns-in-Fine
returns-in-Fine c = subst (λ (ending : Ending). Asks (settles_by c.args.self.now.core.first c.args.id c.args.stream ending) c.args.self.now c.settle.new.self) (sym c.in-Fine.is) c.settle.ensures

pub returns-in-Bad : goal.returns-in-Bad
returns-in-Bad c =
    subst (λ (ending : Ending). Asks (settles_by c.args.self.now.core.first c.args.id c.args.stream ending) c.args.self.now c.fail.new.self) (sym c.in-Bad.is)
    (subst (λ (index : ℕ). Asks (fails c.args.id (Stage (c.args.self.now.core.first + index) c.in-Bad.code c.in-Bad.place)) c.args.self.now c.fail.new.self) c.stage_of.ensures
    (subst (λ (first : ℕ). Asks (fails c.args.id (Stage (first + c.stage_of.result) c.in-Bad.code c.in-Bad.place)) c.args.self.now c.fail.new.self) c.from.ensures c.fail.ensures))
