use Rattle.ws_script.specs.Printed.{script_text}
use Rattle.ws_script.proofs.Flushing.{Stops-leave, Stops-unfinished}
use Rattle.ws_script.proofs.perform.perform.Goals as goal

pub returns-in-Err-clause-emptied : goal.returns-in-Err-clause-emptied
returns-in-Err-clause-emptied g c =
    Stops-leave c.in-Err.status
    (record { faults = g.K.Sink.faults c.args.output.now; finished = g.K.Sink.finished c.args.output.now })
    (record { faults = g.K.Sink.faults c.print_lines.new.output; finished = g.K.Sink.finished c.print_lines.new.output })
    (g.K.Sink.got c.args.output.now) (g.K.Sink.got c.print_lines.new.output) (script_text c.args.lines.items) c.in-Err.ensures.err

pub returns-in-Err-finish-clause-performs : goal.returns-in-Err-finish-clause-performs
returns-in-Err-finish-clause-performs g c =
    Stops-unfinished
    (record { faults = g.K.Sink.faults c.args.output.now; finished = g.K.Sink.finished c.args.output.now })
    (record { faults = g.K.Sink.faults c.print_lines.new.output; finished = g.K.Sink.finished c.print_lines.new.output })
    (record { faults = g.K.Sink.faults c.finish.new.self; finished = g.K.Sink.finished c.finish.new.self })
    (g.K.Sink.got c.args.output.now) (g.K.Sink.got c.print_lines.new.output) (g.K.Sink.got c.finish.new.self) (script_text c.args.lines.items)
    c.in_default.ensures.ok c.in-Err-finish.ensures.bytes c.in-Err-finish.ensures.finished c.in-Err-finish.ensures.cause.failed
