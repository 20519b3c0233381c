use Rattle.std.proofs.Common.{◌∙◌, take}
use Rattle.ws_io.proofs.Flow.{Gains-still, KeepsTold-then}
use Rattle.ws_io.proofs.HeldBehind.{sent-more}
use Rattle.ws_io.proofs.buffered.send.Goals as goal

pub loop-count-preserved : goal.loop-count-preserved
loop-count-preserved g c =
    let wrote = c.in-Ok.ensures in
    let sent = sent-more (g.K.Sink.got c.args.output.now) (g.K.Sink.got c.loop-count.output) (g.K.Sink.got c.write.new.self) c.args.bytes.now c.loop-count.count c.in-Ok.more
    c.loop-count.invariant.0 c.loop-count.invariant.1 wrote.bytes in (
      sent.0,
      sent.1,
      KeepsTold-then (g.K.Sink.finished c.args.output.now) (g.K.Sink.finished c.loop-count.output) (g.K.Sink.finished c.write.new.self) c.loop-count.invariant.2 wrote.finished,
      wrote.begun ∙ c.loop-count.invariant.3,
      wrote.cause.answered ∙ c.loop-count.invariant.4,
    )

pub returns-in-Err-clause-part : goal.returns-in-Err-clause-part
returns-in-Err-clause-part g c =
    Gains-still (g.K.Sink.got c.args.output.now) (g.K.Sink.got c.loop-count.output) (g.K.Sink.got c.write.new.self) (take c.loop-count.count c.args.bytes.now)
    c.loop-count.invariant.1 c.in-Err.ensures.bytes
