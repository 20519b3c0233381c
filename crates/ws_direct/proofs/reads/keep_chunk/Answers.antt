use Rattle.std.proofs.Common.{[], refl, arith}
use Rattle.ws_steps.specs.declared.effects.Effect.TheVariants.{Pipe}
use Rattle.ws_steps.specs.declared.pipes.PipeOperation.TheVariants.{KeepChunk}
use Rattle.ws_tables.proofs.Elements.{stands-at}
use Rattle.ws_performing.proofs.Records.{pipe-absent}
use Rattle.ws_performing.proofs.Turns.{room-for}
use Rattle.ws_direct.proofs.Reaching.{no-effects, nothing-done, quietly}
use Rattle.ws_direct.proofs.Flowing.{chunk-kept}
use Rattle.ws_direct.proofs.reads.keep_chunk.Goals as goal

pub returns-then-len-p : goal.returns-then-len-p
returns-then-len-p c = nothing-done _ c.args.tables.now c.requires (pipe-absent c.args.p (KeepChunk c.args.chunk) c.args.tables.now (omega (arith, c.args.tables.now.pipes.ok.0)) c.requires.quiet)

pub keep_chunk-requires : goal.keep_chunk-requires
keep_chunk-requires c = record { job_room = (room-for (Pipe c.args.p (KeepChunk c.args.chunk)) [] c.args.tables.now c.requires.room).jobs }

pub returns : goal.returns
returns c =
    let old = c.args.tables.now in
    quietly _ old _ c.requires.quiet
    (chunk-kept c.args.p c.args.chunk old _ c.index_mut.result.now c.keep_chunk.new.self c.keep_chunk.new.p
    (stands-at old.pipes.items c.args.p.0 c.index_mut.result.now c.index_mut.result.now (omega arith) c.index_mut.ensures.value)
    (c.keep_chunk.ensures.row no-effects) c.keep_chunk.ensures.promise_room
    (record {
      slots = refl;
      pipes = refl;
      others = refl;
      places = refl;
      streams = refl;
      grown = refl;
      waiting = refl;
      signals = refl;
      full = refl;
      aborts = refl;
      tees = refl;
      uncopied = refl;
    })
    c.requires.kept)
