use Rattle.std.specs.Prelude.{None}
use Rattle.ws_io.specs.Moment.{moment}
use Rattle.ws_node.specs.Nodes.{Each, HeadGoes, TailGoes}
use Rattle.ws_runner.specs.Place.{Moves}
use Rattle.ws_runner.proofs.caller.drive_rest.Given as goal

abbrev pub invariant-loop : goal.invariant-loop
invariant-loop g l = record {
  head : HeadGoes (moment (g.S.Source.faults l.fn.input) (g.S.Source.feed l.fn.input) 0 None) (moment (g.S.Source.faults l.input) (g.S.Source.feed l.input) 0 None)
      l.fn.chain.head l.chain.head;
  tail : TailGoes (moment 0 None (g.K.Sink.faults l.fn.output) (g.K.Sink.finished l.fn.output)) (moment 0 None (g.K.Sink.faults l.output) (g.K.Sink.finished l.output))
      (g.K.Sink.got l.fn.output) (g.K.Sink.got l.output) l.fn.chain.tail l.chain.tail;
  places : Each Moves l.fn.places l.places;
}
