use Rattle.ws_io.specs.Notes.{text_of}
use Rattle.ws_cli.specs.TraceText.{trace_text}
use Rattle.ws_cli.proofs.Telling.{then_told, wrote_all}
use Rattle.ws_cli.proofs.trace.write_notes.Goals as goal

pub returns-clause-bytes : goal.returns-clause-bytes
returns-clause-bytes g c =
    let f = c.args.finished.now in
    let q = g.E.Sink.got c.write_trace.new.notes in
    let r = g.E.Sink.got c.write_text.new.notes in
    then_told (g.E.Sink.got c.args.notes.now) q r c.write_text.result (trace_text f.edges.items) (text_of f.status)
    (rw (← c.deref.ensures.value) c.in_ok-write_trace.ensures.bytes) (wrote_all q r c.write_text.result (text_of f.status) c.write_text.ensures.bytes)
