use Rattle.std.specs.Prelude.{None}
use Rattle.ws_io.specs.Moment.{moment}
use Rattle.ws_node.specs.Nodes.{any_bytes}
use Rattle.ws_node.proofs.Going.{went-same}
use Rattle.ws_runner.proofs.caller.turn_head.Goals as goal

pub returns-then-over : goal.returns-then-over
returns-then-over g c = went-same c.args.head.now (moment (g.S.Source.faults c.args.input.now) (g.S.Source.feed c.args.input.now) 0 None) any_bytes
