use Rattle.std.proofs.Common.{subst}
use Rattle.std.specs.Prelude.{Option}
use Rattle.ws_io.specs.Moment.{moment}
use Rattle.ws_io.specs.declared.status.Status.{Status}
use Rattle.ws_node.specs.Ends.{EndsAs}
use Rattle.ws_node_rules.proofs.AtOnce.{ends-at_once}
use Rattle.ws_node_rules.proofs.Finish.{ends-from}
use Rattle.ws_node.proofs.Going.{went-same, went-then}
use Rattle.ws_runner.proofs.nodes.run_whole.Goals as goal

pub returns-in_default : goal.returns-in_default
returns-in_default g c =
    ends-at_once c.args.plan.now (moment (g.S.Source.faults c.args.input.now) (g.S.Source.feed c.args.input.now) (g.K.Sink.faults c.args.output.now) (g.K.Sink.finished c.args.output.now)) (g.K.Sink.got c.args.output.now)

pub loop-init : goal.loop-init
loop-init g c = (
  c.in-Ok.ensures,
  went-same c.in-Ok.whole (moment (g.S.Source.faults c.args.input.now) (g.S.Source.feed c.args.input.now) (g.K.Sink.faults c.args.output.now) (g.K.Sink.finished c.args.output.now)) (g.K.Sink.got c.args.output.now),
)

pub returns-in-Some-status : goal.returns-in-Some-status
returns-in-Some-status g c =
    ends-from c.args.plan.now c.in-Ok.whole c.turn.new.self c.in-Some-status.status _ _ _ _ c.requires c.loop.invariant.0
    (went-then c.in-Ok.whole c.loop.whole c.turn.new.self _ _ _ _ _ _ c.loop.invariant.1 c.turn.ensures.went)
    (subst (λ (status : Option Status). EndsAs status c.turn.new.self) c.in-Some-status.is c.status.ensures.ends)

pub loop-preserved : goal.loop-preserved
loop-preserved g c =
    (c.loop.invariant.0, went-then c.in-Ok.whole c.loop.whole c.turn.new.self _ _ _ _ _ _ c.loop.invariant.1 c.turn.ensures.went)
