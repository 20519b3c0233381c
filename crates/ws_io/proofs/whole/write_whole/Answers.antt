use Rattle.std.proofs.Common.{◌∙◌}
use Rattle.ws_io.proofs.Flow.{KeepsTold-then}
use Rattle.ws_io.proofs.Written.{WroteFirst-less, Written-then}
use Rattle.ws_io.proofs.whole.write_whole.Goals as goal

pub loop-rest-preserved : goal.loop-rest-preserved
loop-rest-preserved g c =
    let wrote = c.in_ok-count.ensures in (
      Written-then (g.K.Sink.got c.args.output.now) (g.K.Sink.got c.loop-rest.output) (g.K.Sink.got c.write.new.self) c.args.piece.now c.loop-rest.rest.now c.in_ok-count.count c.loop-rest.invariant.0 wrote.bytes.gained,
      KeepsTold-then (g.K.Sink.finished c.args.output.now) (g.K.Sink.finished c.loop-rest.output) (g.K.Sink.finished c.write.new.self) c.loop-rest.invariant.1 wrote.finished,
      wrote.begun ∙ c.loop-rest.invariant.2,
      wrote.cause.answered ∙ c.loop-rest.invariant.3,
    )

pub returns-in_err-count-clause-bytes : goal.returns-in_err-count-clause-bytes
returns-in_err-count-clause-bytes g c =
    WroteFirst-less (g.K.Sink.got c.args.output.now) (g.K.Sink.got c.loop-rest.output) (g.K.Sink.got c.write.new.self) c.args.piece.now c.loop-rest.rest.now c.from_residual.result
    c.from_residual.ensures.0 c.loop-rest.invariant.0 c.in_err-count.ensures.bytes
