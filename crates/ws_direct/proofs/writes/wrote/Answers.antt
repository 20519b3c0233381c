use Rattle.std.proofs.Common.{◌∙◌, [], ◌∷◌, Some, Ok, refl, sym, subst, ap, arith}
use Rattle.ws_value.specs.declared.value.Plain.TheVariants.{Undefined}
use Rattle.ws_promise.specs.Seen.{SeenAgenda}
use Rattle.ws_steps.specs.declared.effects.Effect.TheVariants.{WriteAlgorithm, Writable as WritableEffect}
use Rattle.ws_steps.specs.declared.writable.WritableOperation.TheVariants.{WriteSettled}
use Rattle.ws_tables.specs.declared.tables.Stream.TheVariants.{Writable}
use Rattle.ws_tables.specs.declared.tables.Tables.{Tables}
use Rattle.ws_tables.specs.View.{stream_of}
use Rattle.ws_tables.proofs.Elements.{stands-at}
use Rattle.ws_performing.proofs.Streams.{writable-absent, writable-within}
use Rattle.ws_performing.proofs.Turns.{room-for}
use Rattle.ws_direct.specs.Directly.{Reaches}
use Rattle.ws_direct.proofs.Reaching.{effect-room, next-ready, nothing-done, then}
use Rattle.ws_direct.proofs.Streams.{noted-put}
use Rattle.ws_direct.proofs.Writables.{rests-did, writable-on, writes-did}
use Rattle.ws_direct.proofs.writes.wrote.Goals as goal

pub returns-then-not-has_writable : goal.returns-then-not-has_writable
returns-then-not-has_writable c =
    nothing-done _ c.args.tables.now c.requires
    (writable-absent c.args.i (WriteSettled (Ok Undefined)) c.args.tables.now (sym c.has_writable.ensures ∙ c.if-not-has_writable.true) c.requires.quiet)

pub index_mut-requires : goal.index_mut-requires
index_mut-requires c =
    let there = writable-within stream_of c.args.tables.now.streams.items c.args.i.0 (sym c.has_writable.ensures ∙ c.if-not-has_writable.false) in
    omega arith

pub write_done-writes-requires-clause-promise_room : goal.write_done-writes-requires-clause-promise_room
write_done-writes-requires-clause-promise_room c = (room-for (WritableEffect c.args.i (WriteSettled (Ok Undefined))) [] c.args.tables.now c.requires.room).promises

pub write_done-writes-requires-clause-effect_room : goal.write_done-writes-requires-clause-effect_room
write_done-writes-requires-clause-effect_room c = effect-room 1 _ c.args.tables.now (omega arith) c.requires

pub note_growth-requires : goal.note_growth-requires
note_growth-requires c = record { room = λ had has. let room = (room-for (WritableEffect c.args.i (WriteSettled (Ok Undefined))) [] c.args.tables.now c.requires.room).grown in omega (arith, room) }

pub write_algorithm-requires : goal.write_algorithm-requires
write_algorithm-requires c =
    let old = c.args.tables.now in
    let there = writable-within stream_of old.streams.items c.args.i.0 (sym c.has_writable.ensures ∙ c.if-not-has_writable.false) in
    next-ready (WritableEffect c.args.i (WriteSettled (Ok Undefined))) (WriteAlgorithm c.args.i) [] old c.note_growth.new.tables c.requires.room
    (writable-on c.args.i (WriteSettled (Ok Undefined)) old c.note_growth.new.tables c.in-Writable.stream c.write_done-writes.new.self c.write_done-writes.new.p (WriteAlgorithm c.args.i ∷ [])
    (stands-at old.streams.items c.args.i.0 c.index_mut.result.now c.index_mut.result.now there c.index_mut.ensures.value ∙ ap (λ x. Some x) c.in-Writable.is)
    (writes-did c.args.i (WriteSettled (Ok Undefined)) old c.in-Writable.stream c.write_done-writes.new.self c.write_done-writes.new.p c.write_done-writes.new.fx c.write_done-writes.result c.requires.quiet
    c.write_done-writes.ensures.row c.if-writes.true (c.write_done-writes.ensures.quiet c.if-writes.true))
    c.write_done-writes.ensures.room c.write_done-writes.ensures.promise_room (ap (λ (t : Tables). t.waiting) c.note_growth.ensures.tables)
    c.has_room-had_room.result c.has_room-has_room.result c.has_room-had_room.ensures c.has_room-has_room.ensures
    (noted-put c.args.i old _ c.note_growth.new.tables (Writable c.write_done-writes.new.self) c.write_done-writes.new.p c.has_room-had_room.result c.has_room-has_room.result c.note_growth.ensures
    (record {
      slots = refl;
      streams = refl;
      others = refl;
      places = rw c.write_done-writes.ensures.effect_room refl;
      grown = refl;
      signals = refl;
      full = refl;
      aborts = refl;
      pipes = refl;
      tees = refl;
      uncopied = refl;
    }))
    c.requires.kept)
    (ap (λ (t : Tables). t.caused.effects) c.note_growth.ensures.tables ∙ (ap (λ (a : SeenAgenda). a.effects) (c.write_done-writes.ensures.quiet c.if-writes.true) ∙ c.requires.quiet))

pub returns-then-writes : goal.returns-then-writes
returns-then-writes c =
    let old = c.args.tables.now in
    let there = writable-within stream_of old.streams.items c.args.i.0 (sym c.has_writable.ensures ∙ c.if-not-has_writable.false) in
    then _ (WriteAlgorithm c.args.i ∷ []) _ old c.note_growth.new.tables _
    (writable-on c.args.i (WriteSettled (Ok Undefined)) old c.note_growth.new.tables c.in-Writable.stream c.write_done-writes.new.self c.write_done-writes.new.p (WriteAlgorithm c.args.i ∷ [])
    (stands-at old.streams.items c.args.i.0 c.index_mut.result.now c.index_mut.result.now there c.index_mut.ensures.value ∙ ap (λ x. Some x) c.in-Writable.is)
    (writes-did c.args.i (WriteSettled (Ok Undefined)) old c.in-Writable.stream c.write_done-writes.new.self c.write_done-writes.new.p c.write_done-writes.new.fx c.write_done-writes.result c.requires.quiet
    c.write_done-writes.ensures.row c.if-writes.true (c.write_done-writes.ensures.quiet c.if-writes.true))
    c.write_done-writes.ensures.room c.write_done-writes.ensures.promise_room (ap (λ (t : Tables). t.waiting) c.note_growth.ensures.tables)
    c.has_room-had_room.result c.has_room-has_room.result c.has_room-had_room.ensures c.has_room-has_room.ensures
    (noted-put c.args.i old _ c.note_growth.new.tables (Writable c.write_done-writes.new.self) c.write_done-writes.new.p c.has_room-had_room.result c.has_room-has_room.result c.note_growth.ensures
    (record {
      slots = refl;
      streams = refl;
      others = refl;
      places = rw c.write_done-writes.ensures.effect_room refl;
      grown = refl;
      signals = refl;
      full = refl;
      aborts = refl;
      pipes = refl;
      tees = refl;
      uncopied = refl;
    }))
    c.requires.kept)
    c.write_algorithm.ensures

pub returns-else-writes : goal.returns-else-writes
returns-else-writes c =
    let old = c.args.tables.now in
    let there = writable-within stream_of old.streams.items c.args.i.0 (sym c.has_writable.ensures ∙ c.if-not-has_writable.false) in
    subst (λ es. Reaches (WritableEffect c.args.i (WriteSettled (Ok Undefined)) ∷ []) old es c.note_growth.new.tables) (sym (ap (λ (t : Tables). t.caused.effects) c.note_growth.ensures.tables))
    (writable-on c.args.i (WriteSettled (Ok Undefined)) old c.note_growth.new.tables c.in-Writable.stream c.write_done-writes.new.self c.write_done-writes.new.p c.write_done-writes.new.fx.effects
    (stands-at old.streams.items c.args.i.0 c.index_mut.result.now c.index_mut.result.now there c.index_mut.ensures.value ∙ ap (λ x. Some x) c.in-Writable.is)
    (rests-did c.args.i (WriteSettled (Ok Undefined)) old c.in-Writable.stream c.write_done-writes.new.self c.write_done-writes.new.p c.write_done-writes.new.fx c.write_done-writes.result c.requires.quiet
    c.write_done-writes.ensures.row c.if-writes.false)
    c.write_done-writes.ensures.room c.write_done-writes.ensures.promise_room (ap (λ (t : Tables). t.waiting) c.note_growth.ensures.tables)
    c.has_room-had_room.result c.has_room-has_room.result c.has_room-had_room.ensures c.has_room-has_room.ensures
    (noted-put c.args.i old _ c.note_growth.new.tables (Writable c.write_done-writes.new.self) c.write_done-writes.new.p c.has_room-had_room.result c.has_room-has_room.result c.note_growth.ensures
    (record {
      slots = refl;
      streams = refl;
      others = refl;
      places = rw c.write_done-writes.ensures.effect_room refl;
      grown = refl;
      signals = refl;
      full = refl;
      aborts = refl;
      pipes = refl;
      tees = refl;
      uncopied = refl;
    }))
    c.requires.kept)
