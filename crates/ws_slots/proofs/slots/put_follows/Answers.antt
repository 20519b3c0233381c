use Rattle.std.proofs.Common.{ap, sym, arith, ◌≡◌, ◌∙◌, Some}
use Rattle.std.specs.Option.{option_copied_mut}
use Rattle.ws_places.specs.Seen.{value_in}
use Rattle.ws_slots.specs.Words.{SeenSlots}
use Rattle.ws_slots.proofs.ItemLemmas.{placed, has-place, same-slot, written, written-length, length-with, apart-written}
use Rattle.ws_slots.proofs.slots.put_follows.Goals as goal

pub overflow_cast-p : goal.overflow_cast-p
overflow_cast-p c =
    let a = c.slots.inside in
    let shown = ap (λ (v : SeenSlots). v.items) c.slots.view_is in
    omega (arith, placed a.places.next c.args.p.0 a.places.kept a.settled.kept c.args.slots.now.items shown c.requires, c.next-next.ensures)

pub returns-in_default-clause-items : goal.returns-in_default-clause-items
returns-in_default-clause-items c = λ s g.
    let a = c.slots.inside in
    let shown = ap (λ (v : SeenSlots). v.items) c.slots.view_is in
    absurd (has-place a.places.next c.args.p.0 a.places.kept a.settled.kept c.args.slots.now.items shown c.slots.invariant.3 c.requires (sym c.get_mut.ensures.value ∙ ap option_copied_mut c.in_default.is))

pub returns-clause-items : goal.returns-clause-items
returns-clause-items c = λ s g.
    let a = c.slots.inside in
    let shown = ap (λ (v : SeenSlots). v.items) c.slots.view_is in
    let v = c.in-Some.open.now in
    let l = placed a.places.next c.args.p.0 a.places.kept a.settled.kept c.args.slots.now.items shown c.requires in
    let there : value_in c.args.p.0 a.places.kept ≡ Some v = sym c.get_mut.ensures.value ∙ ap option_copied_mut c.in-Some.is in
    let same = same-slot a.places.next c.args.p.0 a.places.kept a.settled.kept c.args.slots.now.items v s shown l there g in
    rw same (written a.places.next c.args.p.0 v _ a.places.kept a.settled.kept c.args.slots.now.items shown l there)

pub returns-clause-len : goal.returns-clause-len
returns-clause-len c =
    let a = c.slots.inside in
    let shown = ap (λ (v : SeenSlots). v.items) c.slots.view_is in
    written-length a.places.next a.places.kept _ a.settled.kept _ c.args.slots.now.items shown

pub invariant_of-slots-2 : goal.invariant_of-slots-2
invariant_of-slots-2 c =
    let a = c.slots.inside in
    let shown = ap (λ (v : SeenSlots). v.items) c.slots.view_is in
    let v = c.in-Some.open.now in
    let there : value_in c.args.p.0 a.places.kept ≡ Some v = sym c.get_mut.ensures.value ∙ ap option_copied_mut c.in-Some.is in
    let inv = c.slots.invariant in
    (inv.0, inv.1, omega (arith, inv.2, length-with c.args.p.0 (record v { follows = c.args.follows }) a.places.kept), apart-written a.places.next c.args.p.0 v _ a.places.kept a.settled.kept there inv.3, inv.4, inv.5)
