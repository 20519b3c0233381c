use Rattle.std.proofs.Common.{◌++◌}
use Rattle.std.specs.Prelude.{codes, Ok}
use Rattle.ws_io.specs.Notes.{numbered}
use Rattle.ws_cli.specs.TraceText.{marks_text}
use Rattle.ws_cli.proofs.Telling.{then_told, wrote_all}
use Rattle.ws_cli.proofs.trace.write_line.Goals as goal

pub returns-clause-bytes : goal.returns-clause-bytes
returns-clause-bytes g c =
    let p₀ = g.E.Sink.got c.args.notes.now in
    let p₁ = g.E.Sink.got c.write_number.new.output in
    let p₂ = g.E.Sink.got c.write_whole.new.output in
    let p₃ = g.E.Sink.got c.write_marks.new.notes in
    let p₄ = g.E.Sink.got c.write_number-2.new.output in
    let p₅ = g.E.Sink.got c.write_whole-2.new.output in
    let r = c.write_whole-2.result in
    let edge = numbered (codes "edge ") c.args.number in
    let sent = marks_text c.args.marks.now in
    let end = numbered (codes " taken ") c.args.taken in
    then_told p₀ p₁ p₅ r edge (c.args.way.now ++ (sent ++ (end ++ codes "\n"))) c.in_ok-write_number.ensures.bytes
    (then_told p₁ p₂ p₅ r c.args.way.now (sent ++ (end ++ codes "\n"))
    (wrote_all p₁ p₂ (Ok c.in_ok-write_whole.field-0) c.args.way.now c.in_ok-write_whole.ensures.bytes)
    (then_told p₂ p₃ p₅ r sent (end ++ codes "\n") c.in_ok-write_marks.ensures.bytes
    (then_told p₃ p₄ p₅ r end (codes "\n") c.in_ok-write_number-2.ensures.bytes
    (wrote_all p₄ p₅ r (codes "\n") c.write_whole-2.ensures.bytes))))
