use Rattle.std.proofs.Common.{refl}
use Rattle.ws_node.specs.Moves.{LeftHeld}
use Rattle.ws_node.proofs.Asking.{untouched}
use Rattle.ws_node.proofs.node.Node.empty_before_read.Goals as goal

pub returns-then-self-gt0 : goal.returns-then-self-gt0
returns-then-self-gt0 g c = LeftHeld refl (untouched _ (g.K.Sink.got c.args.output.now))
