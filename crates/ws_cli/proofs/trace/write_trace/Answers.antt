use Rattle.std.proofs.Common.{◌+◌, ◌∙◌, drop, get_or, subst, List, ℕ}
use Rattle.ws_io.proofs.Flow.{KeepsTold-then}
use Rattle.ws_io.proofs.Written.{Written}
use Rattle.ws_io.specs.Gain.{Gains}
use Rattle.ws_runner.specs.declared.trace.EdgeTrace.{EdgeTrace}
use Rattle.ws_cli.specs.TraceText.{edge_text, edges_text, trace_text}
use Rattle.ws_cli.proofs.Telling.{Written-next, edges_next}
use Rattle.ws_cli.proofs.trace.write_trace.Goals as goal

pub loop-i-preserved : goal.loop-i-preserved
loop-i-preserved g c =
    let p = g.E.Sink.got c.args.notes.now in
    let q = g.E.Sink.got c.loop-i.notes in
    let r = g.E.Sink.got c.write_edge.new.notes in
    let edges = c.args.edges.now in
    let i = c.loop-i.i in
    let edge = c.index-edges-i.result in
    let wrote = c.in_ok-write_edge.ensures in
    let written = subst (λ (xs : List ℕ). Written p q (trace_text edges) xs) (edges_next edges i (i + 1) edge c.loop-i-test.true) c.loop-i.invariant.0 in
    let is = subst (λ (e : EdgeTrace). Gains q r (edge_text (i + 1) e)) c.index-edges-i.is wrote.bytes in (
      Written-next p q r (trace_text edges) (edge_text (i + 1) (get_or edges i edge)) (edges_text (i + 1 + 1) (drop (i + 1) edges)) written is,
      KeepsTold-then (g.E.Sink.finished c.args.notes.now) (g.E.Sink.finished c.loop-i.notes) (g.E.Sink.finished c.write_edge.new.notes) c.loop-i.invariant.1 wrote.finished,
      wrote.cause.answered ∙ c.loop-i.invariant.2,
    )
