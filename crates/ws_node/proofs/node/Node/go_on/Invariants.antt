use Rattle.ws_io.specs.Moment.{moment}
use Rattle.ws_node.specs.Past.{Driven}
use Rattle.ws_node.specs.Turns.{GivesHeard, IsBegun}
use Rattle.ws_node.specs.Went.{Went}
use Rattle.ws_node.proofs.node.Node.go_on.Given as goal

abbrev pub invariant-loop : goal.invariant-loop
invariant-loop g l =
    (Driven l.self)
    × (Went l.fn.self l.self
    (moment (g.S.Source.faults l.fn.input) (g.S.Source.feed l.fn.input) (g.K.Sink.faults l.fn.output) (g.K.Sink.finished l.fn.output))
    (moment (g.S.Source.faults l.input) (g.S.Source.feed l.input) (g.K.Sink.faults l.output) (g.K.Sink.finished l.output))
    (g.K.Sink.got l.fn.output) (g.K.Sink.got l.output))
    × IsBegun l.fn.self l.self
    × GivesHeard l.fn.self l.self
