use Rattle.std.proofs.Common.{◌≡◌, ◌≤◌, ◌-◌, length, take}
use Rattle.ws_io.specs.Gain.{Gains, KeepsTold}
use Rattle.ws_io.proofs.buffered.send.Given as goal

abbrev pub invariant-loop-count : goal.invariant-loop-count
invariant-loop-count g l =
    (l.count ≤ length l.bytes)
    × Gains (g.K.Sink.got l.fn.output) (g.K.Sink.got l.output) (take l.count l.bytes)
    × KeepsTold (g.K.Sink.finished l.fn.output) (g.K.Sink.finished l.output)
    × (g.K.Sink.begun l.output ≡ g.K.Sink.begun l.fn.output)
    × (g.K.Sink.faults l.output ≡ g.K.Sink.faults l.fn.output)

abbrev pub decreases-loop-count : goal.decreases-loop-count
decreases-loop-count g l = length l.bytes - l.count
