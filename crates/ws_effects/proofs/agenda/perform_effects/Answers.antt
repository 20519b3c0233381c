use Rattle.std.proofs.Common.{sym, subst}
use Rattle.ws_tables.proofs.Loops.{only-one}
use Rattle.ws_performing.proofs.Turns.{Turning, begins, ends, turn-room, turn-found, turn-less, turn-on}
use Rattle.ws_effects.proofs.agenda.perform_effects.Goals as goal

pub loop-tables-init : goal.loop-tables-init
loop-tables-init c =
    subst (Turning c.args.tables.now _) (sym c.replace-under_way.ensures.value)
    (begins c.args.tables.now c.replace-under_way.new.dest c.requires.others c.requires.turns c.requires.room c.requires.kept)

pub perform_at-requires-clause-room : goal.perform_at-requires-clause-room
perform_at-requires-clause-room c =
    let did = c.next_effect.ensures in
    let first = did.found c.loop-tables-test.true in
    let alone = only-one c.next_effect.new.under_way.items c.index_mut.result.now first.alone c.index_mut.ensures.value in
    turn-room c.args.tables.now c.loop-tables.tables c.next_effect.new.tables c.loop-tables.under_way c.next_effect.new.under_way c.loop-tables.invariant first did.rest did.places
    c.index_mut.result.now alone

pub perform_at-requires-clause-kept : goal.perform_at-requires-clause-kept
perform_at-requires-clause-kept c =
    let did = c.next_effect.ensures in
    let first = did.found c.loop-tables-test.true in
    let alone = only-one c.next_effect.new.under_way.items c.index_mut.result.now first.alone c.index_mut.ensures.value in
    turn-found c.args.tables.now c.loop-tables.tables c.next_effect.new.tables c.loop-tables.under_way c.next_effect.new.under_way c.loop-tables.invariant first did.rest did.places
    c.index_mut.result.now alone

pub loop-tables-smaller : goal.loop-tables-smaller
loop-tables-smaller c =
    let did = c.next_effect.ensures in
    let first = did.found c.loop-tables-test.true in
    let alone = only-one c.next_effect.new.under_way.items c.index_mut.result.now first.alone c.index_mut.ensures.value in
    turn-less c.args.tables.now c.loop-tables.tables c.next_effect.new.tables c.loop-tables.under_way c.next_effect.new.under_way c.loop-tables.invariant first did.rest did.places
    c.index_mut.result.now alone c.perform_at.new.tables c.perform_at.ensures

pub loop-tables-preserved : goal.loop-tables-preserved
loop-tables-preserved c =
    let did = c.next_effect.ensures in
    let first = did.found c.loop-tables-test.true in
    let alone = only-one c.next_effect.new.under_way.items c.index_mut.result.now first.alone c.index_mut.ensures.value in
    turn-on c.args.tables.now c.loop-tables.tables c.next_effect.new.tables c.loop-tables.under_way c.next_effect.new.under_way c.loop-tables.invariant first did.rest did.places
    c.index_mut.result.now alone c.perform_at.new.tables c.perform_at.ensures
    c.drop_performed.new.under_way c.drop_performed.ensures.empty c.drop_performed.ensures.places

pub returns : goal.returns
returns c =
    let did = c.next_effect.ensures in
    ends c.args.tables.now c.loop-tables.tables c.next_effect.new.tables c.loop-tables.under_way c.next_effect.new.under_way (did.none c.loop-tables-test.false) did.rest c.loop-tables.invariant
