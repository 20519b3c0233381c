use Rattle.ws_io.specs.HeldBehind.{held_behind}
use Rattle.ws_io.proofs.HeldBehind.{Writes-through}
use Rattle.ws_io.proofs.buffered.BufferedSinkSink.write.Goals as goal

pub returns-clause-bytes : goal.returns-clause-bytes
returns-clause-bytes g c =
    Writes-through (held_behind (g.K.Sink.got c.args.self.now.inner) c.args.self.now.held.items) (g.K.Sink.got c.empty.new.self.inner) (g.K.Sink.got c.write.new.self)
    c.empty.new.self.held.items c.write.result c.args.piece.now c.in_ok-empty.ensures.bytes c.in_ok-empty.ensures.all c.write.ensures.bytes
