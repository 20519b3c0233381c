use Rattle.std.proofs.Common.{List, ℕ, refl, subst, sym}
use Rattle.ws_io.specs.Moment.{moment}
use Rattle.ws_io.proofs.Emptied.{emptied-leaves}
use Rattle.ws_script.specs.Reading.{ReadsText}
use Rattle.ws_script.proofs.Ending.{Complete, Ends-unread, Outside, TooLong}
use Rattle.ws_script.proofs.run.run_script.Goals as goal

pub returns-in-Ok-clause-ends : goal.returns-in-Ok-clause-ends
returns-in-Ok-clause-ends g c =
    c.run_text.ensures.ends (g.S.Source.feed c.args.input.now) (g.S.Source.feed c.read_text.new.input) (g.S.Source.faults c.args.input.now) (g.S.Source.faults c.read_text.new.input)
    (subst (λ (text : List ℕ). ReadsText (g.S.Source.feed c.args.input.now) (g.S.Source.feed c.read_text.new.input) (g.S.Source.faults c.args.input.now) (g.S.Source.faults c.read_text.new.input) text) (sym c.deref.ensures.value) c.in-Ok.ensures.read)

pub returns-in-Ok-clause-complete : goal.returns-in-Ok-clause-complete
returns-in-Ok-clause-complete g c =
    Complete c.run_text.result
    (moment (g.S.Source.faults c.args.input.now) (g.S.Source.feed c.args.input.now) (g.K.Sink.faults c.args.output.now) (g.K.Sink.finished c.args.output.now))
    (moment (g.S.Source.faults c.read_text.new.input) (g.S.Source.feed c.read_text.new.input) (g.K.Sink.faults c.run_text.new.output) (g.K.Sink.finished c.run_text.new.output))
    (g.K.Sink.got c.args.output.now) (g.K.Sink.got c.run_text.new.output) (returns-in-Ok-clause-ends g c)

pub returns-in-Ok-clause-outside : goal.returns-in-Ok-clause-outside
returns-in-Ok-clause-outside g c =
    Outside c.run_text.result
    (moment (g.S.Source.faults c.args.input.now) (g.S.Source.feed c.args.input.now) (g.K.Sink.faults c.args.output.now) (g.K.Sink.finished c.args.output.now))
    (moment (g.S.Source.faults c.read_text.new.input) (g.S.Source.feed c.read_text.new.input) (g.K.Sink.faults c.run_text.new.output) (g.K.Sink.finished c.run_text.new.output))
    (g.K.Sink.got c.args.output.now) (g.K.Sink.got c.run_text.new.output) (returns-in-Ok-clause-ends g c)

pub returns-in-Ok-clause-too_long : goal.returns-in-Ok-clause-too_long
returns-in-Ok-clause-too_long g c =
    TooLong c.run_text.result
    (moment (g.S.Source.faults c.args.input.now) (g.S.Source.feed c.args.input.now) (g.K.Sink.faults c.args.output.now) (g.K.Sink.finished c.args.output.now))
    (moment (g.S.Source.faults c.read_text.new.input) (g.S.Source.feed c.read_text.new.input) (g.K.Sink.faults c.run_text.new.output) (g.K.Sink.finished c.run_text.new.output))
    (g.K.Sink.got c.args.output.now) (g.K.Sink.got c.run_text.new.output) (returns-in-Ok-clause-ends g c)

pub returns-in-Err-clause-emptied : goal.returns-in-Err-clause-emptied
returns-in-Err-clause-emptied g c = emptied-leaves c.in-Err.status (g.K.Sink.got c.args.output.now)

pub returns-in-Err-clause-ends : goal.returns-in-Err-clause-ends
returns-in-Err-clause-ends g c =
    Ends-unread c.in-Err.status _ (g.S.Source.feed c.args.input.now) (g.S.Source.feed c.read_text.new.input) (g.S.Source.faults c.args.input.now) (g.S.Source.faults c.read_text.new.input)
    (record { faults = g.K.Sink.faults c.args.output.now; finished = g.K.Sink.finished c.args.output.now }) (g.K.Sink.got c.args.output.now) c.in-Err.ensures.stopped refl
