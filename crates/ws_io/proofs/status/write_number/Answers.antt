use Rattle.ws_io.proofs.Written.{WroteFirst-then}
use Rattle.ws_io.proofs.status.write_number.Goals as goal

pub returns-clause-bytes : goal.returns-clause-bytes
returns-clause-bytes g c =
    rw (← c.format.ensures.text, ← c.as_bytes.ensures.value)
    (WroteFirst-then (g.E.Sink.got c.args.notes.now) (g.E.Sink.got c.write_whole.new.output) (g.E.Sink.got c.write_whole-2.new.output) c.args.words.now c.as_bytes.result.now c.write_whole-2.result c.in_ok-write_whole.ensures.bytes c.write_whole-2.ensures.bytes)
