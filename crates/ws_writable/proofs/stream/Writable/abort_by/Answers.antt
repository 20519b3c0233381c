use Rattle.std.proofs.Common.{refl}
use Rattle.ws_writable.proofs.stream.Writable.abort_by.Goals as goal

pub returns-then-abort-clause-row : goal.returns-then-abort-clause-row
returns-then-abort-clause-row c = rw (c.if-abort.true, c.reject_close_and_closed.ensures.row c.args.fx.now, c.reject.ensures, ← c.self.view_is) refl
