use Rattle.ws_io.specs.Moment.{moment}
use Rattle.ws_runner.proofs.Written.{finishes-written, leaves-nothing}
use Rattle.ws_runner.proofs.nodes.run_nodes.Goals as goal

pub returns-clause-finishes : goal.returns-clause-finishes
returns-clause-finishes g c =
    finishes-written c.run_plan-finished.result c.end.result c.args.plan.now c.args.trace
    (moment (g.S.Source.faults c.args.input.now) (g.S.Source.feed c.args.input.now) (g.K.Sink.faults c.args.output.now) (g.K.Sink.finished c.args.output.now))
    (moment (g.S.Source.faults c.run_plan-finished.new.input) (g.S.Source.feed c.run_plan-finished.new.input) (g.K.Sink.faults c.run_plan-finished.new.output) (g.K.Sink.finished c.run_plan-finished.new.output))
    (record { faults = g.K.Sink.faults c.end.new.output; finished = g.K.Sink.finished c.end.new.output })
    (g.K.Sink.got c.args.output.now) (g.K.Sink.got c.run_plan-finished.new.output) (g.K.Sink.got c.end.new.output)
    c.run_plan-finished.ensures c.end.ensures

pub returns-clause-emptied : goal.returns-clause-emptied
returns-clause-emptied g c =
    leaves-nothing c.run_plan-finished.result c.end.result c.args.plan.now c.args.trace
    (moment (g.S.Source.faults c.args.input.now) (g.S.Source.feed c.args.input.now) (g.K.Sink.faults c.args.output.now) (g.K.Sink.finished c.args.output.now))
    (moment (g.S.Source.faults c.run_plan-finished.new.input) (g.S.Source.feed c.run_plan-finished.new.input) (g.K.Sink.faults c.run_plan-finished.new.output) (g.K.Sink.finished c.run_plan-finished.new.output))
    (record { faults = g.K.Sink.faults c.end.new.output; finished = g.K.Sink.finished c.end.new.output })
    (g.K.Sink.got c.args.output.now) (g.K.Sink.got c.run_plan-finished.new.output) (g.K.Sink.got c.end.new.output)
    c.run_plan-finished.ensures c.end.ensures
