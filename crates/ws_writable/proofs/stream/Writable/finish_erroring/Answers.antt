use Rattle.std.proofs.Common.{◌∙◌, ap}
use Rattle.ws_steps.specs.Writable.{Acts, finish_abort, finish_erroring}
use Rattle.ws_writable.proofs.stream.Writable.finish_erroring.Goals as goal

pub returns-clause-row : goal.returns-clause-row
unfolding finish_erroring
returns-clause-row c =
    c.finish_abort.ensures.row ∙ ap (λ (b : Acts). finish_abort c.args.me b b.slots.pending_abort) (c.fail_writes.ensures.row c.args.fx.now)
