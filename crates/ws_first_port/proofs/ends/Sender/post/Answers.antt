use Rattle.std.proofs.Common.{ap, ◌∙◌}
use Rattle.crossbeam_queue.specs.Passes.{ruled_capacity}
use Rattle.ws_first_port.proofs.Steps.{posts, learns_few}
use Rattle.ws_first_port.proofs.ends.Sender.post.Goals as goal

pub push_as-requires-clause-rule : goal.push_as-requires-clause-rule
push_as-requires-clause-rule g c = (posts _ _ (ap (λ q. ruled_capacity q) c.deref.ensures ∙ c.self.invariant.1) _ _ c.self.invariant.2, learns_few _ _)
