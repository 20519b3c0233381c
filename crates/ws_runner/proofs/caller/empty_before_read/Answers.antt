use Rattle.std.specs.Prelude.{None}
use Rattle.ws_io.specs.Moment.{moment}
use Rattle.ws_node.proofs.Going.{went-same}
use Rattle.ws_runner.proofs.caller.empty_before_read.Goals as goal

pub returns-then-over : goal.returns-then-over
returns-then-over g c = went-same c.args.tail.now (moment 0 None (g.K.Sink.faults c.args.output.now) (g.K.Sink.finished c.args.output.now)) (g.K.Sink.got c.args.output.now)
