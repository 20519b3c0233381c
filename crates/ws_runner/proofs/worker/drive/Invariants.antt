use Rattle.ws_node.specs.Nodes.{MiddleGoes}
use Rattle.ws_runner.proofs.worker.drive.Given as goal

abbrev pub invariant-loop : goal.invariant-loop
invariant-loop g l = MiddleGoes l.fn.node l.node
