use Rattle.std.proofs.Common.{◌≡◌, ◌≤◌, None}
use Rattle.ws_node.specs.Moves.{Works}
use Rattle.ws_node.proofs.Begun.{IsWorking}
use Rattle.ws_node.proofs.node.Node.work.Given as goal

abbrev pub invariant-loop-left : goal.invariant-loop-left
invariant-loop-left l = Works l.fn.self l.self × (l.self.core.stopped ≡ None) × (l.left ≤ l.fn.most) × IsWorking l.left l.fn.most l.fn.self l.self

abbrev pub decreases-loop-left : goal.decreases-loop-left
decreases-loop-left l = l.left
