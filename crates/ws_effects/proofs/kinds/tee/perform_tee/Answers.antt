use Rattle.std.proofs.Common.{◌≡◌, Some, refl, ap, arith}
use Rattle.std.specs.Prelude.{slice_get, not, ◌||◌}
use Rattle.std.proofs.lemmas.List.{length-map}
use Rattle.ws_tables.specs.View.{tee_of}
use Rattle.ws_tables.proofs.Elements.{stands-at}
use Rattle.ws_effects.proofs.Tees.{tee-absent, performs, kept, copy-for}
use Rattle.ws_effects.proofs.kinds.tee.perform_tee.Goals as goal

pub returns-then-len-t-clause-performs : goal.returns-then-len-t-clause-performs
returns-then-len-t-clause-performs c =
    tee-absent c.args.t c.args.operation c.args.tables.now (rw (length-map c.args.tables.now.tees.items tee_of) (omega (arith, c.args.tables.now.tees.ok.0))) c.requires.quiet

pub perform-requires-clause-copy : goal.perform-requires-clause-copy
perform-requires-clause-copy c =
    copy-for c.args.operation c.index_mut-tee.result.now
    (c.requires.room.copies c.args.t.0 c.index_mut-tee.result.now
    (stands-at c.args.tables.now.tees.items c.args.t.0 c.index_mut-tee.result.now c.index_mut-tee.result.now (omega arith) c.index_mut-tee.ensures.value))

at : (c : goal.After-tables-2-1) → slice_get c.args.tables.now.tees.items c.args.t.0 ≡ Some c.index_mut-tee.result.now
at c = stands-at c.args.tables.now.tees.items c.args.t.0 c.index_mut-tee.result.now c.index_mut-tee.result.now (omega arith) c.index_mut-tee.ensures.value

pub returns-clause-performs : goal.returns-clause-performs
returns-clause-performs c =
    performs c.args.t c.args.operation c.args.tables.now _ c.index_mut-tee.result.now c.perform.new.self c.perform.new.p c.perform.new.fx (at c) c.perform.ensures.row c.requires.quiet
    (record {
      tees = refl;
      slots = refl;
      caused = refl;
      others = refl;
      places = refl;
      streams = refl;
      grown = refl;
      waiting = refl;
      signals = refl;
      full = refl;
      aborts = refl;
      pipes = refl;
      uncopied = ap (λ b. c.args.tables.now.uncopied || not b) c.can_hand.ensures;
    })
    c.perform.ensures.promise_room c.perform.ensures.effect_room

pub returns-clause-kept : goal.returns-clause-kept
returns-clause-kept c =
    kept c.args.t c.args.operation c.args.tables.now _ c.index_mut-tee.result.now c.perform.new.self c.perform.new.p c.perform.new.fx (at c) c.perform.ensures.row c.requires.quiet
    (record {
      tees = refl;
      slots = refl;
      caused = refl;
      others = refl;
      places = refl;
      streams = refl;
      grown = refl;
      waiting = refl;
      signals = refl;
      full = refl;
      aborts = refl;
      pipes = refl;
      uncopied = ap (λ b. c.args.tables.now.uncopied || not b) c.can_hand.ensures;
    })
    c.requires.kept
