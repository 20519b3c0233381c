use Rattle.std.proofs.Common.{◌∙◌, ap}
use Rattle.ws_steps.specs.Writable.{deal_with_rejection, write_settled}
use Rattle.ws_writable.proofs.stream.Writable.write_settled.Goals as goal

pub returns-in-Err-clause-row : goal.returns-in-Err-clause-row
unfolding write_settled
returns-in-Err-clause-row c =
    rw c.in-Err.is
    (c.deal_with_rejection.ensures.row ∙ ap (deal_with_rejection c.args.me c.in-Err.e) (c.write_ended.ensures.row c.args.fx.now))
