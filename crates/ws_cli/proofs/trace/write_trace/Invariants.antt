use Rattle.std.proofs.Common.{◌≡◌, ◌+◌, drop}
use Rattle.ws_io.specs.Gain.{KeepsTold}
use Rattle.ws_io.proofs.Written.{Written}
use Rattle.ws_cli.specs.TraceText.{edges_text, trace_text}
use Rattle.ws_cli.proofs.trace.write_trace.Given as goal

abbrev pub invariant-loop-i : goal.invariant-loop-i
invariant-loop-i g l =
    Written (g.E.Sink.got l.fn.notes) (g.E.Sink.got l.notes) (trace_text l.edges) (edges_text (l.i + 1) (drop l.i l.edges))
    × KeepsTold (g.E.Sink.finished l.fn.notes) (g.E.Sink.finished l.notes)
    × (g.E.Sink.faults l.notes ≡ g.E.Sink.faults l.fn.notes)
