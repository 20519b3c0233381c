use Rattle.std.proofs.Common.{true}
use Rattle.ws_node.specs.Moves.{is_sink, writes_by}
use Rattle.ws_node.proofs.Asking.{untouched, not_so, so, settles-other_stream, settles-plain, writes-so}
use Rattle.ws_node.proofs.node.Node.write.Goals as goal

pub returns-then-not-is_sink : goal.returns-then-not-is_sink
returns-then-not-is_sink g c =
    not_so (writes_by c.args.id c.args.value c.args.self.now c.settle_rarely.new.self _ _ (g.K.Sink.got c.args.output.now) (g.K.Sink.got c.args.output.now)) c.is_sink.result _ c.is_sink.ensures
    c.if-not-is_sink.true (settles-other_stream c.args.id c.args.value _ _ _ _ _ _ (c.settle_rarely.ensures, untouched _ (g.K.Sink.got c.args.output.now)))

pub returns-in-Bytes : goal.returns-in-Bytes
returns-in-Bytes g c =
    so (writes_by c.args.id c.args.value c.args.self.now c.write_chunk.new.self _ _ (g.K.Sink.got c.args.output.now) (g.K.Sink.got c.write_chunk.new.output)) c.is_sink.result _
    c.is_sink.ensures c.if-not-is_sink.false
    (writes-so c.args.id c.args.value _ true c.args.self.now c.write_chunk.new.self _ _ _ _ c.in-Bytes.is c.write_chunk.ensures)

pub returns-in-Plain : goal.returns-in-Plain
returns-in-Plain g c =
    writes-so c.args.id c.args.value _ (is_sink c.args.self.now.exit c.args.stream) c.args.self.now c.settle_rarely-in-Plain.new.self _ _ _ _ c.in-Plain.is
    (settles-plain c.args.id c.in-Plain.field-0 (is_sink c.args.self.now.exit c.args.stream) _ _ _ _ _ _ (c.settle_rarely-in-Plain.ensures, untouched _ (g.K.Sink.got c.args.output.now)))
