use Rattle.ws_node.specs.Nodes.{any_bytes, of_neither}
use Rattle.ws_node.proofs.Going.{went-same}
use Rattle.ws_runner.proofs.Places.{middle-then}
use Rattle.ws_runner.proofs.worker.drive.Goals as goal

pub loop-init : goal.loop-init
loop-init g c = went-same c.args.node of_neither any_bytes

pub loop-preserved-in-Worked : goal.loop-preserved-in-Worked
loop-preserved-in-Worked g c = middle-then c.args.node c.loop.node c.turn.new.self c.loop.invariant c.turn.ensures.went

pub returns-in-Ended : goal.returns-in-Ended
returns-in-Ended g c = middle-then c.args.node c.loop.node c.turn.new.self c.loop.invariant c.turn.ensures.went

pub loop-preserved : goal.loop-preserved
loop-preserved g c = middle-then c.args.node c.loop.node c.turn.new.self c.loop.invariant c.turn.ensures.went
