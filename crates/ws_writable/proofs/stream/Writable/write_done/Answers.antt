use Rattle.std.proofs.Common.{◌∙◌, ap, sym}
use Rattle.ws_steps.specs.Writable.{advance_queue, refresh_backpressure, without_first, write_settled}
use Rattle.ws_writable.proofs.stream.Writable.write_done.Goals as goal

pub returns-clause-row : goal.returns-clause-row
unfolding write_settled
returns-clause-row c =
    let fx = c.args.fx.now in
    ap (advance_queue c.args.me)
    (sym
    (c.refresh_backpressure.ensures.row fx
    ∙ ap refresh_backpressure (c.drop_first.ensures.row c.write_ended.new.p fx ∙ ap without_first (c.write_ended.ensures.row fx))))
    ∙ c.writes.ensures.row
