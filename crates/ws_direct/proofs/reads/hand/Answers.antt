use Rattle.std.proofs.Common.{[], ◌∷◌, arith}
use Rattle.ws_steps.specs.declared.effects.Effect.TheVariants.{ChunkSteps, Pipe}
use Rattle.ws_steps.specs.declared.pipes.PipeOperation.TheVariants.{KeepChunk}
use Rattle.ws_performing.proofs.Going.{keep-is}
use Rattle.ws_direct.proofs.Reaching.{by, effect-room, next-ready, one-left, then}
use Rattle.ws_direct.proofs.reads.hand.Goals as goal

pub keep_chunk-requires : goal.keep_chunk-requires
keep_chunk-requires c =
    let old = c.args.tables.now in
    next-ready (ChunkSteps c.args.i c.args.request c.args.chunk) (Pipe c.in-Pipe.p (KeepChunk c.args.chunk)) [] old old c.requires.room
    (by _ (Pipe c.in-Pipe.p (KeepChunk c.args.chunk) ∷ []) old old c.requires.kept (rw c.in-Pipe.is (keep-is c.args.i c.in-Pipe.p c.args.chunk old)) c.requires.kept)
    c.requires.quiet

pub returns-in-Pipe : goal.returns-in-Pipe
returns-in-Pipe c =
    let old = c.args.tables.now in
    then _ (Pipe c.in-Pipe.p (KeepChunk c.args.chunk) ∷ []) _ old old _
    (by (ChunkSteps c.args.i c.args.request c.args.chunk) (Pipe c.in-Pipe.p (KeepChunk c.args.chunk) ∷ []) old old c.requires.kept (rw c.in-Pipe.is (keep-is c.args.i c.in-Pipe.p c.args.chunk old)) c.requires.kept)
    c.keep_chunk.ensures

pub leave_chunk-requires : goal.leave_chunk-requires
leave_chunk-requires c = effect-room 1 _ c.args.tables.now (omega arith) c.requires

pub returns-in_default : goal.returns-in_default
returns-in_default c = one-left (ChunkSteps c.args.i c.args.request c.args.chunk) c.args.tables.now c.leave_chunk.new.tables c.requires c.leave_chunk.ensures
