use Rattle.std.proofs.Common.{◌∙◌, ap, sym}
use Rattle.ws_steps.specs.Writable.{controller_write, writer_write}
use Rattle.ws_writable.proofs.AtOnce.{steady}
use Rattle.ws_writable.proofs.stream.Writable.write_directly.Goals as goal

pub write_at_once-requires-clause-steady : goal.write_at_once-requires-clause-steady
write_at_once-requires-clause-steady c = steady c.args.self.now.slots (sym c.write_refusal.ensures ∙ c.in-None.is)

pub returns-else-is_free-clause-row : goal.returns-else-is_free-clause-row
unfolding writer_write
returns-else-is_free-clause-row c =
    rw (sym c.write_refusal.ensures ∙ c.in-None.is)
    (ap (controller_write c.args.me c.args.chunk) (sym (c.add_write_request.ensures.row c.args.p.now c.args.fx.now)) ∙ c.controller_write.ensures.row)
