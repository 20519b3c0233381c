use Rattle.std.proofs.Common.{◌∙◌, [], ◌∷◌, sym}
use Rattle.ws_steps.specs.declared.effects.Effect.TheVariants.{ChunkSteps, Pipe}
use Rattle.ws_steps.specs.declared.pipes.PipeOperation.TheVariants.{KeepChunk}
use Rattle.ws_steps.specs.declared.readable.ReadRequest.TheVariants.{Pipe as PipeRequest}
use Rattle.ws_tables.proofs.Loops.{empty}
use Rattle.ws_performing.proofs.Going.{keep-is}
use Rattle.ws_direct.proofs.Reaching.{by, next-ready, then}
use Rattle.ws_direct.proofs.Behind.{after-none, after-some, one-more, ready-now}
use Rattle.ws_direct.proofs.after.keep_after.Goals as goal

pub keep_chunk-requires : goal.keep_chunk-requires
keep_chunk-requires c =
    let old = c.args.tables.now in
    let ready = ready-now (ChunkSteps c.args.i (PipeRequest c.args.p) c.args.chunk ∷ []) old (empty old.caused.effects (sym c.len.ensures ∙ c.if-len-eq0.true)) c.requires in
    next-ready (ChunkSteps c.args.i (PipeRequest c.args.p) c.args.chunk) (Pipe c.args.p (KeepChunk c.args.chunk)) [] old old ready.room
    (by _ (Pipe c.args.p (KeepChunk c.args.chunk) ∷ []) old old ready.kept (keep-is c.args.i c.args.p c.args.chunk old) ready.kept) ready.quiet

pub returns-then-len-eq0 : goal.returns-then-len-eq0
returns-then-len-eq0 c =
    let old = c.args.tables.now in
    after-none (ChunkSteps c.args.i (PipeRequest c.args.p) c.args.chunk ∷ []) old c.keep_chunk.new.tables (empty old.caused.effects (sym c.len.ensures ∙ c.if-len-eq0.true))
    (then _ (Pipe c.args.p (KeepChunk c.args.chunk) ∷ []) _ old old _
    (by (ChunkSteps c.args.i (PipeRequest c.args.p) c.args.chunk) (Pipe c.args.p (KeepChunk c.args.chunk) ∷ []) old old c.requires.kept (keep-is c.args.i c.args.p c.args.chunk old) c.requires.kept)
    c.keep_chunk.ensures)

pub leave_kept-requires : goal.leave_kept-requires
leave_kept-requires c = one-more (ChunkSteps c.args.i (PipeRequest c.args.p) c.args.chunk) c.args.tables.now c.requires

pub returns-else-len-eq0 : goal.returns-else-len-eq0
returns-else-len-eq0 c = after-some (ChunkSteps c.args.i (PipeRequest c.args.p) c.args.chunk) c.args.tables.now c.leave_kept.new.tables c.requires c.leave_kept.ensures
