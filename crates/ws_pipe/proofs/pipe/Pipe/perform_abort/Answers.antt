use Rattle.ws_steps.specs.declared.pipes.PipeOperation.TheVariants.{Abort}
use Rattle.ws_pipe.proofs.Counts.{counted_by}
use Rattle.ws_pipe.proofs.pipe.Pipe.perform_abort.Goals as goal

pub returns-clause-counted : goal.returns-clause-counted
returns-clause-counted c = counted_by c.args.me c.args.ends.now (Abort c.args.reason.now) _ _ c.abort.ensures.row c.requires.counted
