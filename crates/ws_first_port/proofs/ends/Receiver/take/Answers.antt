use Rattle.ws_first_port.proofs.Steps.{takes, learns_few}
use Rattle.ws_first_port.proofs.ends.Receiver.take.Goals as goal

pub pop_as-requires-clause-rule : goal.pop_as-requires-clause-rule
pop_as-requires-clause-rule g c = (takes _ _ c.self.invariant.2, learns_few _ _)
