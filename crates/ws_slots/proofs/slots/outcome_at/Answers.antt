use Rattle.std.proofs.Common.{refl, ap, sym, arith, ◌≡◌, ◌∙◌, Some, None}
use Rattle.std.specs.Prelude.{option_copied}
use Rattle.ws_places.specs.Seen.{value_in}
use Rattle.ws_slots.specs.Words.{SeenSlots, ended_slot, slot_of, settled_slot}
use Rattle.ws_slots.proofs.TableLemmas.{entry_of-past}
use Rattle.ws_slots.proofs.ItemLemmas.{length-shown, get-shown, open-shown}
use Rattle.ws_slots.proofs.slots.outcome_at.Goals as goal

pub returns-then-next-p-clause-none : goal.returns-then-next-p-clause-none
returns-then-next-p-clause-none c = λ ws.
    let a = c.slots.inside in
    let shown = ap (λ (v : SeenSlots). v.items) c.slots.view_is in
    entry_of-past c.args.p c.args.slots.now.items ws (omega (arith, c.next.ensures, length-shown a.places.next a.places.kept a.settled.kept c.args.slots.now.items shown))

pub returns-in-Some-clause-some : goal.returns-in-Some-clause-some
returns-in-Some-clause-some c =
    let a = c.slots.inside in
    let shown = ap (λ (v : SeenSlots). v.items) c.slots.view_is in
    let o = c.in-Some._open.now in
    record { slot = slot_of o; there = open-shown a.places.next c.args.p.0 a.places.kept a.settled.kept c.args.slots.now.items o shown (omega (arith, c.next.ensures)) (sym c.get.ensures ∙ ap option_copied c.in-Some.is); has = sym c.slots.invariant.4 }

pub returns-in-Some-get-clause-some : goal.returns-in-Some-get-clause-some
returns-in-Some-get-clause-some c =
    let a = c.slots.inside in
    let shown = ap (λ (v : SeenSlots). v.items) c.slots.view_is in
    let s = c.in-Some-get.settled.now in
    let none : value_in c.args.p.0 a.places.kept ≡ None = sym c.get.ensures ∙ ap option_copied c.in_default.is in
    let here : value_in c.args.p.0 a.settled.kept ≡ Some s = sym c.get-2.ensures ∙ ap option_copied c.in-Some-get.is in
    record { slot = settled_slot s; there = get-shown a.places.next c.args.p.0 a.places.kept a.settled.kept c.args.slots.now.items None (Some s) shown (omega (arith, c.next.ensures)) none here; has = refl }

pub returns-in-None-clause-some : goal.returns-in-None-clause-some
returns-in-None-clause-some c =
    let a = c.slots.inside in
    let shown = ap (λ (v : SeenSlots). v.items) c.slots.view_is in
    let none : value_in c.args.p.0 a.places.kept ≡ None = sym c.get.ensures ∙ ap option_copied c.in_default.is in
    let gone : value_in c.args.p.0 a.settled.kept ≡ None = sym c.get-2.ensures ∙ ap option_copied c.in-None.is in
    record { slot = ended_slot None; there = get-shown a.places.next c.args.p.0 a.places.kept a.settled.kept c.args.slots.now.items None None shown (omega (arith, c.next.ensures)) none gone; has = sym c.slots.invariant.5 }
