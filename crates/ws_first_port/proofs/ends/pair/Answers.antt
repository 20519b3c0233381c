use Rattle.std.proofs.Common.{ap}
use Rattle.ws_first_port.proofs.Steps.{begins, splits}
use Rattle.ws_first_port.proofs.ends.pair.Goals as goal

pub ruled-requires-clause-rule : goal.ruled-requires-clause-rule
ruled-requires-clause-rule c = begins

pub another-other-requires-clause-rule : goal.another-other-requires-clause-rule
another-other-requires-clause-rule c = splits _ _ (ap (λ v. v.sends) c.in_ok-queue.ensures.3) (ap (λ v. v.takes) c.in_ok-queue.ensures.3)
