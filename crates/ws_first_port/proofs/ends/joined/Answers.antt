use Rattle.ws_first_port.proofs.Steps.{joins}
use Rattle.ws_first_port.proofs.ends.joined.Goals as goal

pub absorb-requires-clause-rule : goal.absorb-requires-clause-rule
absorb-requires-clause-rule c = joins _ _ _ _ c.s.invariant.2 c.r.invariant.2
