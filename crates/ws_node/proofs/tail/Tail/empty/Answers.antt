use Rattle.std.proofs.Common.{None, ap, subst, ◌∙◌}
use Rattle.ws_io.specs.Moment.{moment}
use Rattle.ws_node.specs.declared.node.Entrance.{Entrance}
use Rattle.ws_node.specs.declared.node.Node.{Node}
use Rattle.ws_node.specs.Moves.{Shown}
use Rattle.ws_node.specs.Node.{is_edge}
use Rattle.ws_node.specs.Went.{Went}
use Rattle.ws_node.proofs.Emptying.{empties, empties-kind}
use Rattle.ws_node.proofs.Handled.{driven-handled}
use Rattle.ws_node.proofs.tail.Tail.empty.Goals as goal

pub returns : goal.returns
returns g c =
    let old : Shown = record { faults = g.K.Sink.faults c.args.output.now; finished = g.K.Sink.finished c.args.output.now } in
    let new : Shown = record { faults = g.K.Sink.faults c.empty.new.output; finished = g.K.Sink.finished c.empty.new.output } in
    let driven = c.self.invariant.0 in
    subst (λ (n : Node). Went n c.empty.new.self (moment 0 None (g.K.Sink.faults c.args.output.now) (g.K.Sink.finished c.args.output.now))
    (moment 0 None (g.K.Sink.faults c.empty.new.output) (g.K.Sink.finished c.empty.new.output)) (g.K.Sink.got c.args.output.now) (g.K.Sink.got c.empty.new.output))
    c.self.view_is
    (empties 0 None (g.K.Sink.got c.args.output.now) (g.K.Sink.got c.empty.new.output) c.self.inside.node old new driven.shape driven.past c.empty.new.self driven.since c.empty.ensures).went

pub invariant_of-self : goal.invariant_of-self
invariant_of-self g c =
    let old : Shown = record { faults = g.K.Sink.faults c.args.output.now; finished = g.K.Sink.finished c.args.output.now } in
    let new : Shown = record { faults = g.K.Sink.faults c.empty.new.output; finished = g.K.Sink.finished c.empty.new.output } in
    let driven = c.self.invariant.0 in
    let kinds = empties-kind c.self.inside.node c.empty.new.self old new (g.K.Sink.got c.args.output.now) (g.K.Sink.got c.empty.new.output) c.empty.ensures in (
      driven-handled driven.shape driven.past c.self.inside.node c.empty.new.self _ _ _ _ driven.since
          (empties 0 None (g.K.Sink.got c.args.output.now) (g.K.Sink.got c.empty.new.output) c.self.inside.node old new driven.shape driven.past c.empty.new.self driven.since c.empty.ensures),
      ap (λ (e : Entrance). is_edge e.input) kinds.0 ∙ c.self.invariant.1,
      kinds.1 ∙ c.self.invariant.2,
    )
