use Rattle.std.specs.Prelude.{codes}
use Rattle.ws_cli.specs.TraceText.{line_text}
use Rattle.ws_cli.proofs.Telling.{then_told}
use Rattle.ws_cli.proofs.trace.write_edge.Goals as goal

pub returns-clause-bytes : goal.returns-clause-bytes
returns-clause-bytes g c =
    let e = c.args.edge.now in
    then_told (g.E.Sink.got c.args.notes.now) (g.E.Sink.got c.write_line.new.notes) (g.E.Sink.got c.write_line-2.new.notes) c.write_line-2.result
    (line_text c.args.number (codes " down") e.down.items e.down_taken) (line_text c.args.number (codes " up") e.up.items e.up_taken)
    (rw (← c.deref.ensures.value) c.in_ok-write_line.ensures.bytes) (rw (← c.deref-2.ensures.value) c.write_line-2.ensures.bytes)
