use Rattle.std.proofs.Common.{refl, sym, ◌∙◌}
use Rattle.ws_cli.specs.Summary.{summary_line}
use Rattle.ws_script.specs.Printing.{Told}
use Rattle.ws_cli.proofs.Checking.{Prints-finished, Stops-finishing, Stops-writing}
use Rattle.ws_cli.proofs.generation.print_summary.Goals as goal

pub returns-then-is_err-clause-ends : goal.returns-then-is_err-clause-ends
returns-then-is_err-clause-ends g c =
    let n = c.args.counts.now in
    let text = summary_line c.args.count n.bytes n.newlines n.sum in
    Stops-writing c.write_summary.result
    (record { faults = g.K.Sink.faults c.args.output.now; finished = g.K.Sink.finished c.args.output.now })
    (record { faults = g.K.Sink.faults c.write_summary.new.output; finished = g.K.Sink.finished c.write_summary.new.output })
    (g.K.Sink.got c.args.output.now) (g.K.Sink.got c.write_summary.new.output) text text
    refl (sym c.is_err.ensures.value ∙ c.if-is_err.true)
    c.write_summary.ensures.bytes c.write_summary.ensures.finished c.write_summary.ensures.cause

pub returns-in-Ok-clause-ends : goal.returns-in-Ok-clause-ends
returns-in-Ok-clause-ends g c =
    let n = c.args.counts.now in
    let text = summary_line c.args.count n.bytes n.newlines n.sum in
    let a : Told = record { faults = g.K.Sink.faults c.args.output.now; finished = g.K.Sink.finished c.args.output.now } in
    let b : Told = record { faults = g.K.Sink.faults c.write_summary.new.output; finished = g.K.Sink.finished c.write_summary.new.output } in
    let d : Told = record { faults = g.K.Sink.faults c.finish.new.self; finished = g.K.Sink.finished c.finish.new.self } in
    Prints-finished c.write_summary.result a b d
    (g.K.Sink.got c.args.output.now) (g.K.Sink.got c.write_summary.new.output) (g.K.Sink.got c.finish.new.self) text text
    refl (sym c.is_err.ensures.value ∙ c.if-is_err.false)
    c.write_summary.ensures.bytes c.write_summary.ensures.finished c.write_summary.ensures.cause
    c.in-Ok.ensures.bytes c.in-Ok.ensures.finished c.in-Ok.ensures.cause.answered

pub returns-in-Err-clause-ends : goal.returns-in-Err-clause-ends
returns-in-Err-clause-ends g c =
    let n = c.args.counts.now in
    let text = summary_line c.args.count n.bytes n.newlines n.sum in
    let a : Told = record { faults = g.K.Sink.faults c.args.output.now; finished = g.K.Sink.finished c.args.output.now } in
    let b : Told = record { faults = g.K.Sink.faults c.write_summary.new.output; finished = g.K.Sink.finished c.write_summary.new.output } in
    let d : Told = record { faults = g.K.Sink.faults c.finish.new.self; finished = g.K.Sink.finished c.finish.new.self } in
    Stops-finishing c.write_summary.result a b d
    (g.K.Sink.got c.args.output.now) (g.K.Sink.got c.write_summary.new.output) (g.K.Sink.got c.finish.new.self) text text
    refl (sym c.is_err.ensures.value ∙ c.if-is_err.false)
    c.write_summary.ensures.bytes c.write_summary.ensures.finished c.write_summary.ensures.cause
    c.in-Err.ensures.bytes c.in-Err.ensures.finished c.in-Err.ensures.cause.failed
