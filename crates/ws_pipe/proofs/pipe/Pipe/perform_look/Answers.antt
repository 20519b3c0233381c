use Rattle.std.proofs.Common.{◌∙◌, sym}
use Rattle.ws_pipe.specs.Seen.{look_of}
use Rattle.ws_pipe.proofs.Counts.{counted_by}
use Rattle.ws_pipe.proofs.pipe.Pipe.perform_look.Goals as goal

pub returns-clause-counted : goal.returns-clause-counted
returns-clause-counted c =
    counted_by c.args.me c.args.ends.now (look_of c.args.look) _ _ (c.cause.ensures.row c.look_directly-next.new.p ∙ sym c.look_directly-next.ensures.row) c.requires.counted
