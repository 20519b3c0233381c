use Rattle.std.proofs.Common.{◌≡◌, drop}
use Rattle.ws_io.specs.Gain.{KeepsTold}
use Rattle.ws_io.proofs.Written.{Written}
use Rattle.ws_cli.specs.TraceText.{marks_text}
use Rattle.ws_cli.proofs.trace.write_marks.Given as goal

abbrev pub invariant-loop-mark : goal.invariant-loop-mark
invariant-loop-mark g l =
    Written (g.E.Sink.got l.fn.notes) (g.E.Sink.got l.notes) (marks_text l.marks) (marks_text (drop l.mark-index l.marks))
    × KeepsTold (g.E.Sink.finished l.fn.notes) (g.E.Sink.finished l.notes)
    × (g.E.Sink.faults l.notes ≡ g.E.Sink.faults l.fn.notes)
