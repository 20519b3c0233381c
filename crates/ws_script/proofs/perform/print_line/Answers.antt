use Rattle.std.proofs.Common.{◌≡◌, ℕ, List, subst, arith}
use Rattle.std.proofs.lemmas.Grind.{common_steps}
use Rattle.ws_script.specs.Printed.{line_text}
use Rattle.ws_script.specs.Printing.{Told, StopsPrinting}
use Rattle.ws_script.proofs.Flushing.{Stops-before}
use Rattle.ws_script.proofs.perform.print_line.Goals as goal

pub returns-in_default-clause-err : goal.returns-in_default-clause-err
returns-in_default-clause-err g c =
    Stops-before c.give_up.result
    (record { faults = g.K.Sink.faults c.args.output.now; finished = g.K.Sink.finished c.args.output.now })
    (record { faults = g.K.Sink.faults c.give_up.new.output; finished = g.K.Sink.finished c.give_up.new.output })
    (g.K.Sink.got c.args.output.now) (g.K.Sink.got c.give_up.new.output) c.args.text.now.items (line_text c.args.line c.args.realm.now.slots) c.give_up.ensures

pub returns-then-is_err-clause-err : goal.returns-then-is_err-clause-err
returns-then-is_err-clause-err g c =
    let old : Told = record { faults = g.K.Sink.faults c.args.output.now; finished = g.K.Sink.finished c.args.output.now } in
    let new : Told = record { faults = g.K.Sink.faults c.give_up-then-is_err.new.output; finished = g.K.Sink.finished c.give_up-then-is_err.new.output } in
    let same : c.extend_from_slice.new.self.items ≡ c.args.text.now.items = grind (arith, common_steps) in
    Stops-before c.give_up-then-is_err.result old new (g.K.Sink.got c.args.output.now) (g.K.Sink.got c.give_up-then-is_err.new.output) c.args.text.now.items
    (line_text c.args.line c.args.realm.now.slots)
    (subst (λ (text : List ℕ). StopsPrinting c.give_up-then-is_err.result old new (g.K.Sink.got c.args.output.now) (g.K.Sink.got c.give_up-then-is_err.new.output) text) same c.give_up-then-is_err.ensures)
