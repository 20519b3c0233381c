use Rattle.ws_node.specs.Nodes.{Each}
use Rattle.ws_runner.specs.Place.{Moves}
use Rattle.ws_runner.proofs.caller.turn_places.Given as goal

abbrev pub invariant-loop-i : goal.invariant-loop-i
invariant-loop-i g l = Each Moves l.fn.places l.places
