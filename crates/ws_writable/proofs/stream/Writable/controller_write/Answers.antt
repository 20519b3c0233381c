use Rattle.std.proofs.Common.{◌∙◌, ap, sym}
use Rattle.ws_steps.specs.Writable.{advance_queue, controller_write, refresh_backpressure}
use Rattle.ws_writable.proofs.stream.Writable.controller_write.Goals as goal

pub returns-clause-row : goal.returns-clause-row
unfolding controller_write
returns-clause-row c =
    let fx = c.args.fx.now in
    ap (advance_queue c.args.me) (sym (c.refresh_backpressure.ensures.row fx ∙ ap refresh_backpressure (c.enqueue_chunk.ensures.row c.args.p.now fx))) ∙ c.writes.ensures.row
