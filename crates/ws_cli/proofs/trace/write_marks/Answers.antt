use Rattle.std.proofs.Common.{◌+◌, ◌∙◌, drop, get_or, subst, List, ℕ}
use Rattle.ws_io.proofs.Flow.{KeepsTold-then}
use Rattle.ws_io.proofs.Written.{Written}
use Rattle.ws_edge.specs.declared.mark.Mark.TheVariants.{Pull}
use Rattle.ws_cli.specs.TraceText.{mark_text, marks_text}
use Rattle.ws_cli.proofs.Telling.{Written-next, marks_next}
use Rattle.ws_cli.proofs.trace.write_marks.Goals as goal

pub loop-mark-preserved : goal.loop-mark-preserved
loop-mark-preserved g c =
    let p = g.E.Sink.got c.args.notes.now in
    let q = g.E.Sink.got c.loop-mark.notes in
    let marks = c.args.marks.now in
    let i = c.loop-mark.mark-index in
    let wrote = c.in_ok-write_mark.ensures in
    let written = subst (λ (xs : List ℕ). Written p q (marks_text marks) xs) (marks_next marks i Pull c.loop-mark-test.true) c.loop-mark.invariant.0 in (
      Written-next p q (g.E.Sink.got c.write_mark.new.notes) (marks_text marks) (mark_text (get_or marks i Pull)) (marks_text (drop (i + 1) marks)) written wrote.bytes,
      KeepsTold-then (g.E.Sink.finished c.args.notes.now) (g.E.Sink.finished c.loop-mark.notes) (g.E.Sink.finished c.write_mark.new.notes) c.loop-mark.invariant.1 wrote.finished,
      wrote.cause.answered ∙ c.loop-mark.invariant.2,
    )
