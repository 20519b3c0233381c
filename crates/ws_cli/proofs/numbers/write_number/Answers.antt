use Rattle.std.proofs.Common.{◌++◌}
use Rattle.ws_io.proofs.Written.{WroteFirst-then}
use Rattle.ws_cli.proofs.Telling.{wrote_all}
use Rattle.ws_cli.proofs.numbers.write_number.Goals as goal

pub returns-clause-first : goal.returns-clause-first
returns-clause-first g c =
    rw (← c.format.ensures.text, ← c.as_bytes.ensures.value)
    (WroteFirst-then (g.K.Sink.got c.args.output.now) (g.K.Sink.got c.write_whole.new.output) (g.K.Sink.got c.write_whole-2.new.output) c.args.words.now c.as_bytes.result.now c.write_whole-2.result c.in_ok-write_whole.ensures.bytes c.write_whole-2.ensures.bytes)

pub returns-clause-bytes : goal.returns-clause-bytes
returns-clause-bytes g c =
    wrote_all (g.K.Sink.got c.args.output.now) (g.K.Sink.got c.write_whole-2.new.output) c.write_whole-2.result (c.args.words.now ++ g.I.Integer.text c.args.number) (returns-clause-first g c)
