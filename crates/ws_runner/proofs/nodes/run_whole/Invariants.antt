use Rattle.ws_io.specs.Moment.{moment}
use Rattle.ws_node.specs.Past.{IsNew}
use Rattle.ws_node.specs.Shares.{whole_of}
use Rattle.ws_node.specs.Went.{Went}
use Rattle.ws_runner.proofs.nodes.run_whole.Given as goal

abbrev pub invariant-loop : goal.invariant-loop
invariant-loop g l =
    (IsNew (whole_of l.fn.plan) 0 l.fn.plan.abort_after l.initial.whole)
    × (Went l.initial.whole l.whole
    (moment (g.S.Source.faults l.fn.input) (g.S.Source.feed l.fn.input) (g.K.Sink.faults l.fn.output) (g.K.Sink.finished l.fn.output))
    (moment (g.S.Source.faults l.input) (g.S.Source.feed l.input) (g.K.Sink.faults l.output) (g.K.Sink.finished l.output))
    (g.K.Sink.got l.fn.output) (g.K.Sink.got l.output))
