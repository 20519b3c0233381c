use Rattle.std.proofs.Common.{sym, ◌∙◌}
use Rattle.ws_io.specs.Moment.{moment}
use Rattle.ws_node.proofs.Asking.{is_none_so}
use Rattle.ws_node.proofs.Tidying.{stopped-turn, tidied-driven, tidied-posts, tidied-turn, tidied-went}
use Rattle.ws_node.proofs.node.Node.turn.Goals as goal

pub returns-then-is_some-clause-turn : goal.returns-then-is_some-clause-turn
returns-then-is_some-clause-turn g c =
    stopped-turn c.take_turn-turn.result c.args.self.now c.take_turn-turn.new.self (sym c.is_some.ensures ∙ c.if-is_some.true) c.take_turn-turn.ensures.turn

pub returns-clause-driven : goal.returns-clause-driven
returns-clause-driven g c =
    tidied-driven c.take_turn-turn.new.self c.tidy.new.self (is_none_so c.take_turn-turn.new.self.core.stopped (sym c.is_some.ensures ∙ c.if-is_some.false)) c.tidy.ensures.alike
    c.take_turn-turn.ensures.driven

pub returns-clause-went : goal.returns-clause-went
returns-clause-went g c =
    tidied-went c.take_turn-turn.new.self c.tidy.new.self (is_none_so c.take_turn-turn.new.self.core.stopped (sym c.is_some.ensures ∙ c.if-is_some.false)) c.tidy.ensures.alike c.args.self.now
    (moment (g.S.Source.faults c.args.input.now) (g.S.Source.feed c.args.input.now) (g.K.Sink.faults c.args.output.now) (g.K.Sink.finished c.args.output.now))
    (moment (g.S.Source.faults c.take_turn-turn.new.input) (g.S.Source.feed c.take_turn-turn.new.input) (g.K.Sink.faults c.take_turn-turn.new.output) (g.K.Sink.finished c.take_turn-turn.new.output))
    (g.K.Sink.got c.args.output.now) (g.K.Sink.got c.take_turn-turn.new.output) c.take_turn-turn.ensures.driven c.take_turn-turn.ensures.went

pub returns-clause-turn : goal.returns-clause-turn
returns-clause-turn g c =
    tidied-turn c.take_turn-turn.new.self c.tidy.new.self (is_none_so c.take_turn-turn.new.self.core.stopped (sym c.is_some.ensures ∙ c.if-is_some.false)) c.tidy.ensures.alike c.take_turn-turn.result
    c.args.self.now c.tidy.ensures.needed c.take_turn-turn.ensures.turn

pub returns-clause-posts : goal.returns-clause-posts
returns-clause-posts g c =
    tidied-posts c.take_turn-turn.new.self c.tidy.new.self (is_none_so c.take_turn-turn.new.self.core.stopped (sym c.is_some.ensures ∙ c.if-is_some.false)) c.tidy.ensures.alike c.args.self.now
    c.take_turn-turn.ensures.posts
