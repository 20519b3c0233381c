use Rattle.std.proofs.Common.{◌∙◌, ap}
use Rattle.ws_steps.specs.Writable.{abort_ended, deal_with_rejection, finish_in_flight_close_with_error}
use Rattle.std.specs.Prelude.{Err}
use Rattle.ws_writable.proofs.stream.Writable.finish_in_flight_close_with_error.Goals as goal

pub returns-clause-row : goal.returns-clause-row
unfolding finish_in_flight_close_with_error
returns-clause-row c =
    c.deal_with_rejection.ensures.row
    ∙ ap (deal_with_rejection c.args.me c.args.e)
    (c.abort_ended.ensures.row c.args.fx.now ∙ ap (abort_ended (Err c.args.e)) (c.close_ended.ensures.row c.args.fx.now))
