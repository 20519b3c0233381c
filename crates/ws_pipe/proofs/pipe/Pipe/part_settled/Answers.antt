use Rattle.std.proofs.Common.{◌∙◌, ap}
use Rattle.ws_steps.specs.Pipes.{Slots, after_part, part_settled}
use Rattle.ws_pipe.specs.Seen.{acts_of}
use Rattle.ws_pipe.proofs.pipe.Pipe.part_settled.Goals as goal

pub returns-in-Ok-clause-row : goal.returns-in-Ok-clause-row
unfolding part_settled
returns-in-Ok-clause-row c = λ fx.
    rw c.in-Ok.is
    (c.after_part.ensures.row fx ∙ ap (λ (s : Slots). after_part (acts_of s c.args.p.now fx)) c.remove_part.ensures)
