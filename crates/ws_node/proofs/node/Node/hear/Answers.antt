use Rattle.std.proofs.Common.{sym, ◌∙◌}
use Rattle.ws_io.specs.Moment.{moment}
use Rattle.ws_node.specs.Moves.{with_realm}
use Rattle.ws_node.proofs.Asking.{is_none_so}
use Rattle.ws_node.proofs.Begun.{heard}
use Rattle.ws_node.proofs.Emptying.{empties}
use Rattle.ws_node.proofs.Giving.{gives-same, heard-of, hears-give, none-gives}
use Rattle.ws_node.proofs.Going.{went-same, went-then}
use Rattle.ws_node.proofs.Handled.{since-handled, driven-handled}
use Rattle.ws_node.proofs.Hearing.{hears, hears-none, may-hear}
use Rattle.ws_node.proofs.Reading.{reads}
use Rattle.ws_node.proofs.node.Node.hear.Goals as goal

pub returns-then-is_some-clause-went : goal.returns-then-is_some-clause-went
returns-then-is_some-clause-went g c =
    went-same c.args.self.now (moment (g.S.Source.faults c.args.input.now) (g.S.Source.feed c.args.input.now) (g.K.Sink.faults c.args.output.now) (g.K.Sink.finished c.args.output.now)) (g.K.Sink.got c.args.output.now)

pub returns-in_default-clause-driven : goal.returns-in_default-clause-driven
returns-in_default-clause-driven g c =
    driven-handled c.requires.shape c.requires.past c.args.self.now (with_realm c.next_event.new.self c.args.self.now) _ _ (g.K.Sink.got c.args.output.now) (g.K.Sink.got c.args.output.now) c.requires.since
    (hears-none c.requires.shape c.requires.past c.args.self.now c.next_event.new.self
    (moment (g.S.Source.faults c.args.input.now) (g.S.Source.feed c.args.input.now) (g.K.Sink.faults c.args.output.now) (g.K.Sink.finished c.args.output.now)) (g.K.Sink.got c.args.output.now)
    c.requires.since (is_none_so c.args.self.now.core.stopped (sym c.is_some.ensures ∙ c.if-is_some.false)) (sym c.in_default.ensures.event) c.next_event.ensures.slots)

pub returns-in_default-clause-went : goal.returns-in_default-clause-went
returns-in_default-clause-went g c =
    (hears-none c.requires.shape c.requires.past c.args.self.now c.next_event.new.self
    (moment (g.S.Source.faults c.args.input.now) (g.S.Source.feed c.args.input.now) (g.K.Sink.faults c.args.output.now) (g.K.Sink.finished c.args.output.now)) (g.K.Sink.got c.args.output.now)
    c.requires.since (is_none_so c.args.self.now.core.stopped (sym c.is_some.ensures ∙ c.if-is_some.false)) (sym c.in_default.ensures.event) c.next_event.ensures.slots).went

pub hear_of-requires : goal.hear_of-requires
hear_of-requires g c =
    may-hear c.requires.shape c.requires.past c.args.self.now c.next_event.new.self c.in-Some.event c.requires.since (is_none_so c.args.self.now.core.stopped (sym c.is_some.ensures ∙ c.if-is_some.false))
    (sym c.in-Some.ensures.event) c.next_event.ensures.slots

pub read-requires : goal.read-requires
read-requires g c =
    let h = hears (g.S.Source.faults c.args.input.now) (g.S.Source.feed c.args.input.now) (g.K.Sink.got c.args.output.now) (g.K.Sink.got c.hear_of.new.output) c.requires.shape c.requires.past c.args.self.now
    c.next_event.new.self c.in-Some.event c.hear_of.new.self (record { faults = g.K.Sink.faults c.args.output.now; finished = g.K.Sink.finished c.args.output.now })
    (record { faults = g.K.Sink.faults c.hear_of.new.output; finished = g.K.Sink.finished c.hear_of.new.output }) c.requires.since
    (is_none_so c.args.self.now.core.stopped (sym c.is_some.ensures ∙ c.if-is_some.false)) (sym c.in-Some.ensures.event) c.next_event.ensures.slots c.hear_of.ensures in
    let since = since-handled c.requires.shape c.requires.past c.args.self.now c.hear_of.new.self _ _ _ _ c.requires.since h in
    let e = empties (g.S.Source.faults c.args.input.now) (g.S.Source.feed c.args.input.now) (g.K.Sink.got c.hear_of.new.output) (g.K.Sink.got c.empty_before_read.new.output) c.hear_of.new.self
    (record { faults = g.K.Sink.faults c.hear_of.new.output; finished = g.K.Sink.finished c.hear_of.new.output })
    (record { faults = g.K.Sink.faults c.empty_before_read.new.output; finished = g.K.Sink.finished c.empty_before_read.new.output }) c.requires.shape h.past c.empty_before_read.new.self since c.empty_before_read.ensures in
    e.led.counts

pub returns-clause-driven : goal.returns-clause-driven
returns-clause-driven g c =
    let h = hears (g.S.Source.faults c.args.input.now) (g.S.Source.feed c.args.input.now) (g.K.Sink.got c.args.output.now) (g.K.Sink.got c.hear_of.new.output) c.requires.shape c.requires.past c.args.self.now
    c.next_event.new.self c.in-Some.event c.hear_of.new.self (record { faults = g.K.Sink.faults c.args.output.now; finished = g.K.Sink.finished c.args.output.now })
    (record { faults = g.K.Sink.faults c.hear_of.new.output; finished = g.K.Sink.finished c.hear_of.new.output }) c.requires.since
    (is_none_so c.args.self.now.core.stopped (sym c.is_some.ensures ∙ c.if-is_some.false)) (sym c.in-Some.ensures.event) c.next_event.ensures.slots c.hear_of.ensures in
    let since = since-handled c.requires.shape c.requires.past c.args.self.now c.hear_of.new.self _ _ _ _ c.requires.since h in
    let e = empties (g.S.Source.faults c.args.input.now) (g.S.Source.feed c.args.input.now) (g.K.Sink.got c.hear_of.new.output) (g.K.Sink.got c.empty_before_read.new.output) c.hear_of.new.self
    (record { faults = g.K.Sink.faults c.hear_of.new.output; finished = g.K.Sink.finished c.hear_of.new.output })
    (record { faults = g.K.Sink.faults c.empty_before_read.new.output; finished = g.K.Sink.finished c.empty_before_read.new.output }) c.requires.shape h.past c.empty_before_read.new.self since c.empty_before_read.ensures in
    let since' = since-handled c.requires.shape h.past c.hear_of.new.self c.empty_before_read.new.self _ _ _ _ since e in
    driven-handled c.requires.shape e.past c.empty_before_read.new.self c.read.new.self _ _ _ _ since'
    (reads (g.K.Sink.faults c.empty_before_read.new.output) (g.K.Sink.finished c.empty_before_read.new.output) (g.K.Sink.got c.empty_before_read.new.output) c.requires.shape e.past c.empty_before_read.new.self c.read.new.self
    (g.S.Source.feed c.args.input.now) (g.S.Source.feed c.read.new.input) (g.S.Source.faults c.args.input.now) (g.S.Source.faults c.read.new.input) since' c.read.ensures)

pub returns-clause-went : goal.returns-clause-went
returns-clause-went g c =
    let h = hears (g.S.Source.faults c.args.input.now) (g.S.Source.feed c.args.input.now) (g.K.Sink.got c.args.output.now) (g.K.Sink.got c.hear_of.new.output) c.requires.shape c.requires.past c.args.self.now
    c.next_event.new.self c.in-Some.event c.hear_of.new.self (record { faults = g.K.Sink.faults c.args.output.now; finished = g.K.Sink.finished c.args.output.now })
    (record { faults = g.K.Sink.faults c.hear_of.new.output; finished = g.K.Sink.finished c.hear_of.new.output }) c.requires.since
    (is_none_so c.args.self.now.core.stopped (sym c.is_some.ensures ∙ c.if-is_some.false)) (sym c.in-Some.ensures.event) c.next_event.ensures.slots c.hear_of.ensures in
    let since = since-handled c.requires.shape c.requires.past c.args.self.now c.hear_of.new.self _ _ _ _ c.requires.since h in
    let e = empties (g.S.Source.faults c.args.input.now) (g.S.Source.feed c.args.input.now) (g.K.Sink.got c.hear_of.new.output) (g.K.Sink.got c.empty_before_read.new.output) c.hear_of.new.self
    (record { faults = g.K.Sink.faults c.hear_of.new.output; finished = g.K.Sink.finished c.hear_of.new.output })
    (record { faults = g.K.Sink.faults c.empty_before_read.new.output; finished = g.K.Sink.finished c.empty_before_read.new.output }) c.requires.shape h.past c.empty_before_read.new.self since c.empty_before_read.ensures in
    let since' = since-handled c.requires.shape h.past c.hear_of.new.self c.empty_before_read.new.self _ _ _ _ since e in
    let r = reads (g.K.Sink.faults c.empty_before_read.new.output) (g.K.Sink.finished c.empty_before_read.new.output) (g.K.Sink.got c.empty_before_read.new.output) c.requires.shape e.past c.empty_before_read.new.self c.read.new.self
    (g.S.Source.feed c.args.input.now) (g.S.Source.feed c.read.new.input) (g.S.Source.faults c.args.input.now) (g.S.Source.faults c.read.new.input) since' c.read.ensures in
    went-then c.args.self.now c.empty_before_read.new.self c.read.new.self _ _ _ _ _ _
    (went-then c.args.self.now c.hear_of.new.self c.empty_before_read.new.self _ _ _ _ _ _ h.went e.went) r.went

pub returns-clause-heard : goal.returns-clause-heard
returns-clause-heard g c done =
    let h = heard-of c.args.self.now c.next_event.new.self c.hear_of.new.self c.empty_before_read.new.self c.read.new.self c.in-Some.event (record { faults = g.K.Sink.faults c.args.output.now; finished = g.K.Sink.finished c.args.output.now })
    (record { faults = g.K.Sink.faults c.hear_of.new.output; finished = g.K.Sink.finished c.hear_of.new.output })
    (record { faults = g.K.Sink.faults c.empty_before_read.new.output; finished = g.K.Sink.finished c.empty_before_read.new.output })
    (g.K.Sink.got c.args.output.now) (g.K.Sink.got c.hear_of.new.output) (g.K.Sink.got c.empty_before_read.new.output)
    (g.S.Source.feed c.args.input.now) (g.S.Source.feed c.read.new.input) (g.S.Source.faults c.args.input.now) (g.S.Source.faults c.read.new.input)
    (sym c.in-Some.ensures.event) c.next_event.ensures.slots c.hear_of.ensures c.empty_before_read.ensures c.read.ensures in
    heard c.args.self.now c.read.new.self c.in-Some.event (is_none_so c.args.self.now.core.stopped (sym c.is_some.ensures ∙ c.if-is_some.false)) (sym c.in-Some.ensures.event) h

pub returns-clause-gives : goal.returns-clause-gives
returns-clause-gives g c =
    hears-give c.in-Some.event c.args.self.now c.read.new.self
    (heard-of c.args.self.now c.next_event.new.self c.hear_of.new.self c.empty_before_read.new.self c.read.new.self c.in-Some.event (record { faults = g.K.Sink.faults c.args.output.now; finished = g.K.Sink.finished c.args.output.now })
    (record { faults = g.K.Sink.faults c.hear_of.new.output; finished = g.K.Sink.finished c.hear_of.new.output })
    (record { faults = g.K.Sink.faults c.empty_before_read.new.output; finished = g.K.Sink.finished c.empty_before_read.new.output })
    (g.K.Sink.got c.args.output.now) (g.K.Sink.got c.hear_of.new.output) (g.K.Sink.got c.empty_before_read.new.output)
    (g.S.Source.feed c.args.input.now) (g.S.Source.feed c.read.new.input) (g.S.Source.faults c.args.input.now) (g.S.Source.faults c.read.new.input)
    (sym c.in-Some.ensures.event) c.next_event.ensures.slots c.hear_of.ensures c.empty_before_read.ensures c.read.ensures)

pub returns-in_default-clause-gives : goal.returns-in_default-clause-gives
returns-in_default-clause-gives g c = none-gives c.args.self.now c.next_event.new.self (sym c.in_default.ensures.event) c.next_event.ensures.slots

pub returns-then-is_some-clause-gives : goal.returns-then-is_some-clause-gives
returns-then-is_some-clause-gives g c = gives-same c.args.self.now
