use Rattle.std.proofs.Common.{◌++◌}
use Rattle.std.specs.Prelude.{codes}
use Rattle.ws_io.proofs.Written.{WroteFirst-then}
use Rattle.ws_io.proofs.status.write_line.Goals as goal

pub returns-clause-bytes : goal.returns-clause-bytes
returns-clause-bytes g c =
    WroteFirst-then (g.E.Sink.got c.args.notes.now) (g.E.Sink.got c.write_number.new.notes) (g.E.Sink.got c.write_whole.new.output)
    (c.args.words.now ++ g.I.Integer.text c.args.number) (codes "\n") c.write_whole.result c.in_ok-write_number.ensures.bytes c.write_whole.ensures.bytes
