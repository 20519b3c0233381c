use Rattle.std.proofs.Common.{refl}
use Rattle.ws_steps.specs.Writable.{abort_settled}
use Rattle.ws_writable.proofs.stream.Writable.abort_settled.Goals as goal

pub returns-in-Ok-clause-row : goal.returns-in-Ok-clause-row
unfolding abort_settled
returns-in-Ok-clause-row c = λ fx. rw (c.in-Ok.is, c.reject_close_and_closed.ensures.row fx, c.fulfil.ensures) refl

pub returns-in-Err-clause-row : goal.returns-in-Err-clause-row
unfolding abort_settled
returns-in-Err-clause-row c = λ fx. rw (c.in-Err.is, c.reject_close_and_closed-in-Err.ensures.row fx, c.reject.ensures) refl
