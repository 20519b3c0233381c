use Rattle.std.proofs.Common.{◌∙◌, [], ◌∷◌, None, Some, refl, ap, arith}
use Rattle.ws_pipe.specs.Seen.{acts_of, writing}
use Rattle.ws_steps.specs.declared.effects.Effect.{Effect}
use Rattle.ws_steps.specs.declared.effects.Effect.TheVariants.{Give, Pipe, Writable}
use Rattle.ws_steps.specs.declared.effects.Gift.TheVariants.{This}
use Rattle.ws_steps.specs.declared.effects.Use.TheVariants.{React}
use Rattle.ws_steps.specs.declared.promises.Step.TheVariants.{PipeWrote}
use Rattle.ws_steps.specs.declared.pipes.PipeOperation.TheVariants.{GoOn, WriteChunk}
use Rattle.ws_steps.specs.declared.writable.WritableOperation.TheVariants.{Write}
use Rattle.ws_tables.proofs.Elements.{stands-at}
use Rattle.ws_performing.proofs.Records.{pipe-absent}
use Rattle.ws_performing.proofs.Turns.{room-for}
use Rattle.ws_direct.proofs.Reaching.{next-ready, no-effects, nothing-done, quietly, then}
use Rattle.ws_direct.proofs.Behind.{after-ready, after-then, next-all}
use Rattle.ws_direct.proofs.Flowing.{written-on}
use Rattle.ws_direct.proofs.pipes.pipe_writes.Goals as goal

pub returns-then-len-p : goal.returns-then-len-p
returns-then-len-p c = nothing-done _ c.args.tables.now c.requires (pipe-absent c.args.p WriteChunk c.args.tables.now (omega (arith, c.args.tables.now.pipes.ok.0)) c.requires.quiet)

pub write_directly-written-requires-clause-counted : goal.write_directly-written-requires-clause-counted
write_directly-written-requires-clause-counted c =
    let x = c.index_mut-pipe.result.now in
    c.requires.kept.counted c.args.p.0 x (stands-at c.args.tables.now.pipes.items c.args.p.0 x x (omega arith) c.index_mut-pipe.ensures.value)

pub write_directly-written-requires-clause-promise_room : goal.write_directly-written-requires-clause-promise_room
write_directly-written-requires-clause-promise_room c = (room-for (Pipe c.args.p WriteChunk) [] c.args.tables.now c.requires.room).promises

pub write-requires : goal.write-requires
write-requires c =
    let old = c.args.tables.now in
    let x = c.index_mut-pipe.result.now in
    let w : Effect = Writable c.dest-dest.result (Write c.in-Some.chunk c.in-Some.promise) in
    let g : Effect = Give (This c.in-Some.promise) (React (PipeWrote c.args.p) None) in
    let h : Effect = Pipe c.args.p GoOn in
    next-ready (Pipe c.args.p WriteChunk) w (g ∷ h ∷ []) old _ c.requires.room
    (written-on c.args.p old _ x c.write_directly-written.new.self c.write_directly-written.new.p (Some (c.in-Some.chunk, c.in-Some.promise)) c.dest-dest.result
    (stands-at old.pipes.items c.args.p.0 x x (omega arith) c.index_mut-pipe.ensures.value) c.dest-dest.ensures
    (c.write_directly-written.ensures.row c.args.p no-effects ∙ ap (λ o. writing c.args.p o (acts_of c.write_directly-written.new.self c.write_directly-written.new.p no-effects)) c.in-Some.is)
    c.write_directly-written.ensures.promise_room
    (record {
      slots = refl;
      pipes = refl;
      others = refl;
      places = refl;
      streams = refl;
      grown = refl;
      waiting = refl;
      signals = refl;
      full = refl;
      aborts = refl;
      tees = refl;
      uncopied = refl;
    })
    c.requires.kept)
    c.requires.quiet

pub wrote_after-requires-clause-ready : goal.wrote_after-requires-clause-ready
wrote_after-requires-clause-ready c =
    let old = c.args.tables.now in
    let x = c.index_mut-pipe.result.now in
    let w : Effect = Writable c.dest-dest.result (Write c.in-Some.chunk c.in-Some.promise) in
    let g : Effect = Give (This c.in-Some.promise) (React (PipeWrote c.args.p) None) in
    let h : Effect = Pipe c.args.p GoOn in
    after-ready (w ∷ []) (g ∷ []) (h ∷ []) _ c.write.new.tables
    (next-all (Pipe c.args.p WriteChunk ∷ []) (w ∷ g ∷ h ∷ []) old _ c.requires.room
    (written-on c.args.p old _ x c.write_directly-written.new.self c.write_directly-written.new.p (Some (c.in-Some.chunk, c.in-Some.promise)) c.dest-dest.result
    (stands-at old.pipes.items c.args.p.0 x x (omega arith) c.index_mut-pipe.ensures.value) c.dest-dest.ensures
    (c.write_directly-written.ensures.row c.args.p no-effects ∙ ap (λ o. writing c.args.p o (acts_of c.write_directly-written.new.self c.write_directly-written.new.p no-effects)) c.in-Some.is)
    c.write_directly-written.ensures.promise_room
    (record {
      slots = refl;
      pipes = refl;
      others = refl;
      places = refl;
      streams = refl;
      grown = refl;
      waiting = refl;
      signals = refl;
      full = refl;
      aborts = refl;
      tees = refl;
      uncopied = refl;
    })
    c.requires.kept)
    c.requires.quiet).room
    c.write.ensures

pub go_on_after-requires : goal.go_on_after-requires
go_on_after-requires c =
    let old = c.args.tables.now in
    let x = c.index_mut-pipe.result.now in
    let w : Effect = Writable c.dest-dest.result (Write c.in-Some.chunk c.in-Some.promise) in
    let g : Effect = Give (This c.in-Some.promise) (React (PipeWrote c.args.p) None) in
    let h : Effect = Pipe c.args.p GoOn in
    after-ready (w ∷ g ∷ []) (h ∷ []) [] _ c.wrote_after.new.tables
    (next-all (Pipe c.args.p WriteChunk ∷ []) (w ∷ g ∷ h ∷ []) old _ c.requires.room
    (written-on c.args.p old _ x c.write_directly-written.new.self c.write_directly-written.new.p (Some (c.in-Some.chunk, c.in-Some.promise)) c.dest-dest.result
    (stands-at old.pipes.items c.args.p.0 x x (omega arith) c.index_mut-pipe.ensures.value) c.dest-dest.ensures
    (c.write_directly-written.ensures.row c.args.p no-effects ∙ ap (λ o. writing c.args.p o (acts_of c.write_directly-written.new.self c.write_directly-written.new.p no-effects)) c.in-Some.is)
    c.write_directly-written.ensures.promise_room
    (record {
      slots = refl;
      pipes = refl;
      others = refl;
      places = refl;
      streams = refl;
      grown = refl;
      waiting = refl;
      signals = refl;
      full = refl;
      aborts = refl;
      tees = refl;
      uncopied = refl;
    })
    c.requires.kept)
    c.requires.quiet).room
    (after-then (w ∷ []) (g ∷ []) _ c.write.new.tables c.wrote_after.new.tables c.write.ensures c.wrote_after.ensures)

pub returns : goal.returns
returns c =
    let old = c.args.tables.now in
    let x = c.index_mut-pipe.result.now in
    let w : Effect = Writable c.dest-dest.result (Write c.in-Some.chunk c.in-Some.promise) in
    let g : Effect = Give (This c.in-Some.promise) (React (PipeWrote c.args.p) None) in
    let h : Effect = Pipe c.args.p GoOn in
    then _ (w ∷ g ∷ h ∷ []) _ old _ _
    (written-on c.args.p old _ x c.write_directly-written.new.self c.write_directly-written.new.p (Some (c.in-Some.chunk, c.in-Some.promise)) c.dest-dest.result
    (stands-at old.pipes.items c.args.p.0 x x (omega arith) c.index_mut-pipe.ensures.value) c.dest-dest.ensures
    (c.write_directly-written.ensures.row c.args.p no-effects ∙ ap (λ o. writing c.args.p o (acts_of c.write_directly-written.new.self c.write_directly-written.new.p no-effects)) c.in-Some.is)
    c.write_directly-written.ensures.promise_room
    (record {
      slots = refl;
      pipes = refl;
      others = refl;
      places = refl;
      streams = refl;
      grown = refl;
      waiting = refl;
      signals = refl;
      full = refl;
      aborts = refl;
      tees = refl;
      uncopied = refl;
    })
    c.requires.kept)
    (after-then (w ∷ g ∷ []) (h ∷ []) _ c.wrote_after.new.tables c.go_on_after.new.tables
    (after-then (w ∷ []) (g ∷ []) _ c.write.new.tables c.wrote_after.new.tables c.write.ensures c.wrote_after.ensures) c.go_on_after.ensures)

pub returns-in_default : goal.returns-in_default
returns-in_default c =
    let old = c.args.tables.now in
    let x = c.index_mut-pipe.result.now in
    quietly _ old _ c.requires.quiet
    (written-on c.args.p old _ x c.write_directly-written.new.self c.write_directly-written.new.p None c.dest-dest.result
    (stands-at old.pipes.items c.args.p.0 x x (omega arith) c.index_mut-pipe.ensures.value) c.dest-dest.ensures
    (c.write_directly-written.ensures.row c.args.p no-effects ∙ ap (λ o. writing c.args.p o (acts_of c.write_directly-written.new.self c.write_directly-written.new.p no-effects)) c.in_default.is)
    c.write_directly-written.ensures.promise_room
    (record {
      slots = refl;
      pipes = refl;
      others = refl;
      places = refl;
      streams = refl;
      grown = refl;
      waiting = refl;
      signals = refl;
      full = refl;
      aborts = refl;
      tees = refl;
      uncopied = refl;
    })
    c.requires.kept)
