use Rattle.std.proofs.Common.{[], ◌∷◌, None, refl, arith}
use Rattle.ws_steps.specs.declared.effects.Effect.TheVariants.{Give, Transform}
use Rattle.ws_steps.specs.declared.effects.Gift.TheVariants.{This}
use Rattle.ws_steps.specs.declared.effects.Use.TheVariants.{React}
use Rattle.ws_steps.specs.declared.promises.Step.TheVariants.{ReadablePull}
use Rattle.ws_steps.specs.declared.transform.TransformOperation.TheVariants.{SourcePull}
use Rattle.ws_tables.proofs.Elements.{stands-at}
use Rattle.ws_performing.proofs.Records.{transform-absent}
use Rattle.ws_performing.proofs.Turns.{room-for}
use Rattle.ws_direct.proofs.Reaching.{next-ready, no-effects, nothing-done, then}
use Rattle.ws_direct.proofs.Transforms.{pulls-half}
use Rattle.ws_direct.proofs.pulls.source_pull.Goals as goal

pub returns-then-len-t : goal.returns-then-len-t
returns-then-len-t c =
    nothing-done _ c.args.tables.now c.requires
    (transform-absent c.args.t (SourcePull (React (ReadablePull c.args.i) None)) c.args.tables.now (omega (arith, c.args.tables.now.transforms.ok.0)) c.requires.quiet)

pub set_backpressure-requires : goal.set_backpressure-requires
set_backpressure-requires c = record { promise_room = (room-for (Transform c.args.t (SourcePull (React (ReadablePull c.args.i) None))) [] c.args.tables.now c.requires.room).promises }

pub react-requires-clause-ready : goal.react-requires-clause-ready
react-requires-clause-ready c =
    let old = c.args.tables.now in
    next-ready (Transform c.args.t (SourcePull (React (ReadablePull c.args.i) None))) (Give (This c.change-change.result) (React (ReadablePull c.args.i) None)) [] old _ c.requires.room
    (pulls-half c.args.t (React (ReadablePull c.args.i) None) old _ c.index_mut-transform.result.now c.set_backpressure.new.self c.set_backpressure.new.p c.change-change.result
    (stands-at old.transforms.items c.args.t.0 c.index_mut-transform.result.now c.index_mut-transform.result.now (omega arith) c.index_mut-transform.ensures.value) c.change-change.ensures
    (c.set_backpressure.ensures.row no-effects) c.set_backpressure.ensures.promise_room
    (record {
      slots = refl;
      others = refl;
      places = refl;
      records = record { streams = refl; grown = refl; waiting = refl; pipes = refl; signals = refl; full = refl; aborts = refl; tees = refl; uncopied = refl };
    })
    c.requires.kept)
    c.requires.quiet

pub returns : goal.returns
returns c =
    let old = c.args.tables.now in
    then _ (Give (This c.change-change.result) (React (ReadablePull c.args.i) None) ∷ []) _ old _ _
    (pulls-half c.args.t (React (ReadablePull c.args.i) None) old _ c.index_mut-transform.result.now c.set_backpressure.new.self c.set_backpressure.new.p c.change-change.result
    (stands-at old.transforms.items c.args.t.0 c.index_mut-transform.result.now c.index_mut-transform.result.now (omega arith) c.index_mut-transform.ensures.value) c.change-change.ensures
    (c.set_backpressure.ensures.row no-effects) c.set_backpressure.ensures.promise_room
    (record {
      slots = refl;
      others = refl;
      places = refl;
      records = record { streams = refl; grown = refl; waiting = refl; pipes = refl; signals = refl; full = refl; aborts = refl; tees = refl; uncopied = refl };
    })
    c.requires.kept)
    c.react.ensures.performed
