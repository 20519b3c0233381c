use Rattle.std.proofs.Common.{refl}
use Rattle.ws_io.specs.Moment.{moment}
use Rattle.ws_cli.proofs.Copying.{Copies-of}
use Rattle.ws_cli.proofs.run.run_copy.Goals as goal

pub returns-clause-copies : goal.returns-clause-copies
returns-clause-copies g c =
    Copies-of c.run_nodes-finished.result.status _
    (moment (g.S.Source.faults c.args.input.now) (g.S.Source.feed c.args.input.now) (g.K.Sink.faults c.args.output.now) (g.K.Sink.finished c.args.output.now))
    (moment (g.S.Source.faults c.run_nodes-finished.new.input) (g.S.Source.feed c.run_nodes-finished.new.input) (g.K.Sink.faults c.run_nodes-finished.new.output) (g.K.Sink.finished c.run_nodes-finished.new.output))
    (g.K.Sink.got c.args.output.now) (g.K.Sink.got c.run_nodes-finished.new.output)
    (record { workers = refl; abort = refl; most = refl; stages = c.new.ensures.items }) c.run_nodes-finished.ensures.finishes.ends
