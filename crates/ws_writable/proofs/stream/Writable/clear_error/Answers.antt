use Rattle.ws_writable.proofs.stream.Writable.clear_error.Goals as goal

pub returns-then-is_erroring-clause-row : goal.returns-then-is_erroring-clause-row
returns-then-is_erroring-clause-row c = λ fx. rw (← c.if-is_erroring.ensures, ← c.self.view_is) (c.abort_ended.ensures.row fx)
