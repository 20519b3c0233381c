use Rattle.std.specs.Prelude.{[]}
use Rattle.ws_io.specs.HeldBehind.{held_behind}
use Rattle.ws_io.proofs.HeldBehind.{Gains-later}
use Rattle.ws_io.proofs.buffered.BufferedSinkSink.finish.Goals as goal

pub returns-clause-bytes : goal.returns-clause-bytes
returns-clause-bytes g c =
    Gains-later (held_behind (g.K.Sink.got c.args.self.now.inner) c.args.self.now.held.items) (g.K.Sink.got c.empty.new.self.inner) (g.K.Sink.got c.finish.new.self)
    c.empty.new.self.held.items [] c.in_ok-empty.ensures.bytes c.in_ok-empty.ensures.all c.finish.ensures.bytes
