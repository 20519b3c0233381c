use Rattle.std.proofs.Common.{◌∙◌, ◌||◌, ap, sym, Err}
use Rattle.ws_steps.specs.Effects.{type_error}
use Rattle.ws_steps.specs.Promises.{settle}
use Rattle.ws_steps.specs.Writable.{Acts, with_promises, has_ended, is_closing, add_close_request, fulfil_ready, controller_close, stream_close}
use Rattle.ws_writable.specs.Seen.{acts_of}
use Rattle.ws_writable.proofs.Lengths.{if-false}
use Rattle.ws_writable.proofs.stream.Writable.stream_close.Goals as goal

pub returns-clause-row : goal.returns-clause-row
unfolding stream_close
returns-clause-row c =
    let a : Acts = acts_of c.args.self.now c.args.p.now c.args.fx.now in
    let b : Acts = add_close_request c.args.promise a in
    c.controller_close.ensures.row ∙ (ap (controller_close c.args.me)
    (c.fulfil_ready.ensures.row c.args.fx.now ∙ ap (λ (z : Acts). fulfil_ready z z.slots.writer) (c.add_close_request.ensures.row c.args.p.now c.args.fx.now))
    ∙ sym (if-false (has_ended a.slots.state || is_closing a.slots) (with_promises (settle c.args.promise (Err type_error) a.out.promises) a) (controller_close c.args.me (fulfil_ready b b.slots.writer)) (sym c.cannot_close.ensures ∙ c.if-cannot_close.false)))
