use Rattle.std.specs.Prelude.{Some}
use Rattle.ws_node.specs.Past.{IsUnused}
use Rattle.ws_layer_tests.proofs.orders.middles.Given as goal

abbrev pub invariant-loop-number : goal.invariant-loop-number
invariant-loop-number l = IsUnused (Some l.last)
