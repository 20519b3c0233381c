use Rattle.std.proofs.Common.{◌≡◌, get_or, sym, subst}
use Rattle.ws_stages.specs.State.{State}
use Rattle.ws_node.proofs.Placing.{unasked}
use Rattle.ws_node.proofs.node.Node.hand_back.Goals as goal

pub returns-in-Some : goal.returns-in-Some
returns-in-Some c =
    unasked c.args.self.now c.args.place c.take_back.new.self
    (subst (λ (w : State). w ≡ get_or c.args.self.now.core.stages.items c.args.place w) (sym c.take_back.ensures) c.in-Some.ensures.value)
