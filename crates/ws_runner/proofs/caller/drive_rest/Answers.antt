use Rattle.std.proofs.Common.{None, Option, subst}
use Rattle.ws_io.specs.Moment.{moment}
use Rattle.ws_io.specs.declared.status.Status.{Status}
use Rattle.ws_node.specs.Ends.{EndsAs}
use Rattle.ws_node.specs.Nodes.{any_bytes}
use Rattle.ws_node.proofs.Going.{went-same, went-then}
use Rattle.ws_runner.proofs.Places.{moves-same, moves-then}
use Rattle.ws_runner.proofs.caller.drive_rest.Goals as goal

pub loop-init : goal.loop-init
loop-init g c = record {
  head = went-same c.args.chain.now.head (moment (g.S.Source.faults c.args.input.now) (g.S.Source.feed c.args.input.now) 0 None) any_bytes;
  tail = went-same c.args.chain.now.tail (moment 0 None (g.K.Sink.faults c.args.output.now) (g.K.Sink.finished c.args.output.now)) (g.K.Sink.got c.args.output.now);
  places = moves-same c.args.places.now;
}

pub loop-preserved-in-Moved : goal.loop-preserved-in-Moved
loop-preserved-in-Moved g c = record {
  head = went-then _ _ _ _ _ _ _ _ _ c.loop.invariant.head c.turn_head-first.ensures;
  tail = went-then _ _ _ _ _ _ _ _ _ (went-then _ _ _ _ _ _ _ _ _ c.loop.invariant.tail c.empty_before_read.ensures) c.turn_tail-last.ensures;
  places = moves-then _ _ _ c.loop.invariant.places c.turn_places-middle.ensures;
}

pub loop-preserved-in-Still : goal.loop-preserved-in-Still
loop-preserved-in-Still g c = record {
  head = went-then _ _ _ _ _ _ _ _ _ c.loop.invariant.head c.turn_head-first.ensures;
  tail = went-then _ _ _ _ _ _ _ _ _ (went-then _ _ _ _ _ _ _ _ _ c.loop.invariant.tail c.empty_before_read.ensures) c.turn_tail-last.ensures;
  places = moves-then _ _ _ c.loop.invariant.places c.turn_places-middle.ensures;
}

pub loop-preserved : goal.loop-preserved
loop-preserved g c = record {
  head = went-then _ _ _ _ _ _ _ _ _ c.loop.invariant.head c.turn_head-first.ensures;
  tail = went-then _ _ _ _ _ _ _ _ _ (went-then _ _ _ _ _ _ _ _ _ c.loop.invariant.tail c.empty_before_read.ensures) c.turn_tail-last.ensures;
  places = moves-then _ _ _ c.loop.invariant.places c.turn_places-middle.ensures;
}

pub returns-in-Some-status : goal.returns-in-Some-status
returns-in-Some-status g c = record {
  head = went-then _ _ _ _ _ _ _ _ _ c.loop.invariant.head c.turn_head-first.ensures;
  tail = went-then _ _ _ _ _ _ _ _ _ (went-then _ _ _ _ _ _ _ _ _ c.loop.invariant.tail c.empty_before_read.ensures) c.turn_tail-last.ensures;
  places = moves-then _ _ _ c.loop.invariant.places c.turn_places-middle.ensures;
  status = subst (λ (status : Option Status). EndsAs status c.turn_tail-last.new.tail) c.in-Some-status.is c.status.ensures;
}
