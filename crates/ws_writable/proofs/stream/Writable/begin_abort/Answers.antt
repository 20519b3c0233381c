use Rattle.std.proofs.Common.{◌∙◌, ap, sym}
use Rattle.ws_steps.specs.Writable.{Acts, start_erroring, add_pending_abort, is_erroring}
use Rattle.ws_writable.specs.Seen.{acts_of}
use Rattle.ws_writable.proofs.Lengths.{if-true, if-false}
use Rattle.ws_writable.proofs.stream.Writable.begin_abort.Goals as goal

pub returns-then-is_erroring-clause-row : goal.returns-then-is_erroring-clause-row
returns-then-is_erroring-clause-row c =
    let a : Acts = acts_of c.args.self.now c.args.p.now c.args.fx.now in
    c.add_pending_abort.ensures.row c.args.p.now c.args.fx.now
    ∙ sym (if-true (is_erroring a.slots.state) (add_pending_abort c.args.reason c.args.promise a) (start_erroring c.args.me c.args.reason (add_pending_abort c.args.reason c.args.promise a)) (sym c.is_erroring.ensures ∙ c.if-is_erroring.true))

pub returns-clause-row : goal.returns-clause-row
returns-clause-row c =
    let a : Acts = acts_of c.args.self.now c.args.p.now c.args.fx.now in
    c.start_erroring.ensures.row ∙ (ap (start_erroring c.args.me c.args.reason) (c.add_pending_abort-2.ensures.row c.args.p.now c.args.fx.now)
    ∙ sym (if-false (is_erroring a.slots.state) (add_pending_abort c.args.reason c.args.promise a) (start_erroring c.args.me c.args.reason (add_pending_abort c.args.reason c.args.promise a)) (sym c.is_erroring.ensures ∙ c.if-is_erroring.false)))
