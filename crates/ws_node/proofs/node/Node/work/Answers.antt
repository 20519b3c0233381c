use Rattle.std.proofs.Common.{sym, ap, ◌∙◌, arith}
use Rattle.std.specs.Prelude.{is_some}
use Rattle.ws_steps.specs.Run.{is_idle}
use Rattle.ws_realm.specs.declared.realm.Why.TheVariants.{Spent}
use Rattle.ws_node.proofs.Asking.{works-more, job-performed, not-refused}
use Rattle.ws_node.proofs.Begun.{working-more, not_idle}
use Rattle.ws_node.proofs.node.Node.work.Goals as goal

pub loop-left-preserved : goal.loop-left-preserved
loop-left-preserved c = (
  works-more c.args.self.now c.loop-left.self c.job.new.self c.loop-left.invariant.0 (ap is_some c.loop-left.invariant.1)
      (job-performed (is_idle c.loop-left.self.core.realm.slots) c.job.new.self.slots _ _ c.in-Ok-true.ensures.slots (sym c.in-Ok-true.field-0-test ∙ c.in-Ok-true.ensures.worked))
      (λ old. not-refused c.job.result c.in-Ok-true.field-0 Spent c.in-Ok-true.is (c.job.ensures.spent.1 old)),
  c.loop-left.invariant.1,
  omega arith,
  working-more c.args.self.now c.loop-left.self c.job.new.self _ _ _ (not_idle (is_idle c.loop-left.self.core.realm.slots) (sym c.in-Ok-true.field-0-test ∙ c.in-Ok-true.ensures.worked))
      c.loop-left.invariant.3
      (job-performed (is_idle c.loop-left.self.core.realm.slots) c.job.new.self.slots _ _ c.in-Ok-true.ensures.slots (sym c.in-Ok-true.field-0-test ∙ c.in-Ok-true.ensures.worked)),
)
