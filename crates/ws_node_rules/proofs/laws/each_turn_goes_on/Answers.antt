use Rattle.ws_node_rules.proofs.laws.each_turn_goes_on.Goals as goal
use Rattle.ws_node.proofs.Going.{went-same, went-then}

pub returns : goal.returns
returns g c =
    (λ a m k. went-same a m (g.K.Sink.got k), λ a b n m₀ m₁ m₂ x y z first second. went-then a b n m₀ m₁ m₂ (g.K.Sink.got x) (g.K.Sink.got y) (g.K.Sink.got z) first second)
