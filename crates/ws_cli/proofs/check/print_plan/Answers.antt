use Rattle.std.proofs.Common.{sym, ◌∙◌}
use Rattle.ws_plan.specs.PlanText.{check_text}
use Rattle.ws_script.specs.Printing.{Told}
use Rattle.ws_cli.proofs.Checking.{Prints-finished, Stops-at_once, Stops-finishing, Stops-writing}
use Rattle.ws_cli.proofs.check.print_plan.Goals as goal

pub returns-in_default-clause-ends : goal.returns-in_default-clause-ends
returns-in_default-clause-ends g c =
    Stops-at_once (record { faults = g.K.Sink.faults c.args.output.now; finished = g.K.Sink.finished c.args.output.now })
    (g.K.Sink.got c.args.output.now) (check_text c.args.plan.now)

pub returns-then-is_err-clause-ends : goal.returns-then-is_err-clause-ends
returns-then-is_err-clause-ends g c =
    Stops-writing c.write_whole.result
    (record { faults = g.K.Sink.faults c.args.output.now; finished = g.K.Sink.finished c.args.output.now })
    (record { faults = g.K.Sink.faults c.write_whole.new.output; finished = g.K.Sink.finished c.write_whole.new.output })
    (g.K.Sink.got c.args.output.now) (g.K.Sink.got c.write_whole.new.output) (check_text c.args.plan.now) c.as_slice.result.now
    (c.as_slice.ensures ∙ c.in-Ok.ensures) (sym c.is_err.ensures.value ∙ c.if-is_err.true)
    c.write_whole.ensures.bytes c.write_whole.ensures.finished c.write_whole.ensures.cause

pub returns-in-Ok-finish-clause-ends : goal.returns-in-Ok-finish-clause-ends
returns-in-Ok-finish-clause-ends g c =
    let a : Told = record { faults = g.K.Sink.faults c.args.output.now; finished = g.K.Sink.finished c.args.output.now } in
    let b : Told = record { faults = g.K.Sink.faults c.write_whole.new.output; finished = g.K.Sink.finished c.write_whole.new.output } in
    let d : Told = record { faults = g.K.Sink.faults c.finish.new.self; finished = g.K.Sink.finished c.finish.new.self } in
    Prints-finished c.write_whole.result a b d
    (g.K.Sink.got c.args.output.now) (g.K.Sink.got c.write_whole.new.output) (g.K.Sink.got c.finish.new.self) (check_text c.args.plan.now) c.as_slice.result.now
    (c.as_slice.ensures ∙ c.in-Ok.ensures) (sym c.is_err.ensures.value ∙ c.if-is_err.false)
    c.write_whole.ensures.bytes c.write_whole.ensures.finished c.write_whole.ensures.cause
    c.in-Ok-finish.ensures.bytes c.in-Ok-finish.ensures.finished c.in-Ok-finish.ensures.cause.answered

pub returns-clause-ends : goal.returns-clause-ends
returns-clause-ends g c =
    let a : Told = record { faults = g.K.Sink.faults c.args.output.now; finished = g.K.Sink.finished c.args.output.now } in
    let b : Told = record { faults = g.K.Sink.faults c.write_whole.new.output; finished = g.K.Sink.finished c.write_whole.new.output } in
    let d : Told = record { faults = g.K.Sink.faults c.finish.new.self; finished = g.K.Sink.finished c.finish.new.self } in
    Stops-finishing c.write_whole.result a b d
    (g.K.Sink.got c.args.output.now) (g.K.Sink.got c.write_whole.new.output) (g.K.Sink.got c.finish.new.self) (check_text c.args.plan.now) c.as_slice.result.now
    (c.as_slice.ensures ∙ c.in-Ok.ensures) (sym c.is_err.ensures.value ∙ c.if-is_err.false)
    c.write_whole.ensures.bytes c.write_whole.ensures.finished c.write_whole.ensures.cause
    c.in-Err.ensures.bytes c.in-Err.ensures.finished c.in-Err.ensures.cause.failed
