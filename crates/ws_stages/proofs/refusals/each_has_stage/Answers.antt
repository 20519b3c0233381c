use Rattle.std.proofs.Common.{sym, ◌∙◌}
use Rattle.ws_stages.proofs.Workers.{each_more, each_less}
use Rattle.ws_stages.proofs.refusals.each_has_stage.Goals as goal

pub returns-then-not-has_stage : goal.returns-then-not-has_stage
returns-then-not-has_stage c = sym (each_less c.args.workers c.loop-worker.worker c.args.stages.now c.loop-worker-test.true (sym c.has_stage.ensures ∙ c.if-not-has_stage.true))

pub loop-worker-preserved : goal.loop-worker-preserved
loop-worker-preserved c = each_more c.loop-worker.worker c.args.stages.now c.loop-worker.invariant (sym c.has_stage.ensures ∙ c.if-not-has_stage.false)
