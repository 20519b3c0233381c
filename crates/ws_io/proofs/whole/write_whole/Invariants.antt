use Rattle.std.proofs.Common.{◌≡◌, length}
use Rattle.ws_io.specs.Gain.{KeepsTold}
use Rattle.ws_io.proofs.Written.{Written}
use Rattle.ws_io.proofs.whole.write_whole.Given as goal

abbrev pub invariant-loop-rest : goal.invariant-loop-rest
invariant-loop-rest g l =
    Written (g.K.Sink.got l.fn.output) (g.K.Sink.got l.output) l.piece l.rest
    × KeepsTold (g.K.Sink.finished l.fn.output) (g.K.Sink.finished l.output)
    × (g.K.Sink.begun l.output ≡ g.K.Sink.begun l.fn.output)
    × (g.K.Sink.faults l.output ≡ g.K.Sink.faults l.fn.output)

abbrev pub decreases-loop-rest : goal.decreases-loop-rest
decreases-loop-rest g l = length l.rest
