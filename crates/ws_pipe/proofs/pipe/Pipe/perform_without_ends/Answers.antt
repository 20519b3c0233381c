use Rattle.ws_steps.specs.declared.pipes.PipeOperation.TheVariants.{KeepChunk, WriteChunk}
use Rattle.ws_pipe.proofs.Counts.{counted_by, some_ends}
use Rattle.ws_pipe.proofs.pipe.Pipe.perform_without_ends.Goals as goal

pub returns-in-KeepChunk-clause-counted : goal.returns-in-KeepChunk-clause-counted
returns-in-KeepChunk-clause-counted c = counted_by c.args.me some_ends (KeepChunk c.taken.result) _ _ (c.keep_chunk.ensures.row c.args.fx.now) c.requires.counted

pub returns-in-WriteChunk-clause-counted : goal.returns-in-WriteChunk-clause-counted
returns-in-WriteChunk-clause-counted c = counted_by c.args.me some_ends WriteChunk _ _ c.write_chunk.ensures.row c.requires.counted
