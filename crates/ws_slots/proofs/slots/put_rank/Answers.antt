use Rattle.std.proofs.Common.{refl, ap, sym, arith, ◌≡◌, ◌∙◌, ◌<◌, Some, None}
use Rattle.std.specs.Option.{option_copied_mut}
use Rattle.ws_places.specs.Seen.{value_in}
use Rattle.ws_slots.specs.Words.{SeenSlots}
use Rattle.ws_value.specs.declared.value.Outcome.TheVariants.{Fulfilled}
use Rattle.ws_value.specs.declared.value.Plain.TheVariants.{Undefined}
use Rattle.ws_slots.proofs.ItemLemmas.{length-shown, same-slot, same-settled, same-ended, written, settled-written, written-length, taken-again, length-with, apart-written, apart-settled, apart-put}
use Rattle.ws_slots.proofs.slots.put_rank.Goals as goal

pub returns-in-Some-clause-items : goal.returns-in-Some-clause-items
returns-in-Some-clause-items c = λ s g.
    let a = c.slots.inside in
    let shown = ap (λ (v : SeenSlots). v.items) c.slots.view_is in
    let v = c.in-Some.open.now in
    let l : c.args.p.0 < a.places.next = omega (arith, c.requires.within, length-shown a.places.next a.places.kept a.settled.kept c.args.slots.now.items shown) in
    let there : value_in c.args.p.0 a.places.kept ≡ Some v = sym c.get_mut.ensures.value ∙ ap option_copied_mut c.in-Some.is in
    let same = same-slot a.places.next c.args.p.0 a.places.kept a.settled.kept c.args.slots.now.items v s shown l there g in
    rw same (written a.places.next c.args.p.0 v _ a.places.kept a.settled.kept c.args.slots.now.items shown l there)

pub returns-in-Some-clause-len : goal.returns-in-Some-clause-len
returns-in-Some-clause-len c =
    let a = c.slots.inside in
    let shown = ap (λ (v : SeenSlots). v.items) c.slots.view_is in
    written-length a.places.next a.places.kept _ a.settled.kept _ c.args.slots.now.items shown

pub invariant_of-slots : goal.invariant_of-slots
invariant_of-slots c =
    let a = c.slots.inside in
    let shown = ap (λ (v : SeenSlots). v.items) c.slots.view_is in
    let v = c.in-Some.open.now in
    let there : value_in c.args.p.0 a.places.kept ≡ Some v = sym c.get_mut.ensures.value ∙ ap option_copied_mut c.in-Some.is in
    let inv = c.slots.invariant in
    (inv.0, inv.1, omega (arith, inv.2, length-with c.args.p.0 (record v { rank = Some c.args.rank }) a.places.kept), apart-written a.places.next c.args.p.0 v _ a.places.kept a.settled.kept there inv.3, inv.4, inv.5)

pub returns-in-Some-get_mut-clause-items : goal.returns-in-Some-get_mut-clause-items
returns-in-Some-get_mut-clause-items c = λ s g.
    let a = c.slots.inside in
    let shown = ap (λ (v : SeenSlots). v.items) c.slots.view_is in
    let v = c.in-Some-get_mut.settled.now in
    let l : c.args.p.0 < a.places.next = omega (arith, c.requires.within, length-shown a.places.next a.places.kept a.settled.kept c.args.slots.now.items shown) in
    let none : value_in c.args.p.0 a.places.kept ≡ None = sym c.get_mut.ensures.value ∙ ap option_copied_mut c.in_default.is in
    let there : value_in c.args.p.0 a.settled.kept ≡ Some v = sym c.get_mut-2.ensures.value ∙ ap option_copied_mut c.in-Some-get_mut.is in
    let same = same-settled a.places.next c.args.p.0 a.places.kept a.settled.kept c.args.slots.now.items v s shown l none there g in
    rw same (settled-written a.places.next c.args.p.0 v _ a.places.kept a.settled.kept c.args.slots.now.items shown l none there)

pub returns-in-Some-get_mut-clause-len : goal.returns-in-Some-get_mut-clause-len
returns-in-Some-get_mut-clause-len c =
    let a = c.slots.inside in
    let shown = ap (λ (v : SeenSlots). v.items) c.slots.view_is in
    written-length a.places.next a.places.kept _ a.settled.kept _ c.args.slots.now.items shown

pub invariant_of-slots-in-Some-get_mut : goal.invariant_of-slots-in-Some-get_mut
invariant_of-slots-in-Some-get_mut c =
    let a = c.slots.inside in
    let shown = ap (λ (v : SeenSlots). v.items) c.slots.view_is in
    let v = c.in-Some-get_mut.settled.now in
    let there : value_in c.args.p.0 a.settled.kept ≡ Some v = sym c.get_mut-2.ensures.value ∙ ap option_copied_mut c.in-Some-get_mut.is in
    let inv = c.slots.invariant in
    (inv.0, inv.1, inv.2, apart-settled a.places.next c.args.p.0 v _ a.places.kept a.settled.kept there refl inv.3, inv.4, inv.5)

pub keep_again-requires-clause-room : goal.keep_again-requires-clause-room
keep_again-requires-clause-room c =
    let a = c.slots.inside in
    let shown = ap (λ (v : SeenSlots). v.items) c.slots.view_is in
    let limit = ap (λ (v : SeenSlots). v.limit) c.slots.view_is in
    omega (arith, c.requires.room, limit, length-shown a.places.next a.places.kept a.settled.kept c.args.slots.now.items shown, c.slots.invariant.0, c.slots.invariant.2, c.pass.ensures.spare)

pub invariant_of-slots-2 : goal.invariant_of-slots-2
invariant_of-slots-2 c =
    let a = c.slots.inside in
    let shown = ap (λ (v : SeenSlots). v.items) c.slots.view_is in
    let limit = ap (λ (v : SeenSlots). v.limit) c.slots.view_is in
    let long = length-shown a.places.next a.places.kept a.settled.kept c.args.slots.now.items shown in
    let l : c.args.p.0 < a.places.next = omega (arith, c.requires.within, long) in
    let none : value_in c.args.p.0 a.places.kept ≡ None = sym c.get_mut.ensures.value ∙ ap option_copied_mut c.in_default.is in
    let gone : value_in c.args.p.0 a.settled.kept ≡ None = sym c.get_mut-2.ensures.value ∙ ap option_copied_mut c.in_default-get_mut.is in
    let inv = c.slots.invariant in
    let apart = apart-put a.places.next c.args.p.0 (record { outcome = Fulfilled Undefined; rank = Some c.args.rank }) a.places.kept a.settled.kept l none gone refl inv.3 in
    rw (c.keep_again.ensures.kept, c.pass.ensures.kept) (omega (arith, c.requires.room, limit, long), omega (arith, inv.1, c.requires.room, limit, long), omega (arith, inv.2, c.requires.room, limit, long, c.pass.ensures.spare, c.keep_again.ensures.spare), apart, inv.4, inv.5)

pub returns-clause-items : goal.returns-clause-items
returns-clause-items c = λ s g.
    let a = c.slots.inside in
    let shown = ap (λ (v : SeenSlots). v.items) c.slots.view_is in
    let l : c.args.p.0 < a.places.next = omega (arith, c.requires.within, length-shown a.places.next a.places.kept a.settled.kept c.args.slots.now.items shown) in
    let none : value_in c.args.p.0 a.places.kept ≡ None = sym c.get_mut.ensures.value ∙ ap option_copied_mut c.in_default.is in
    let gone : value_in c.args.p.0 a.settled.kept ≡ None = sym c.get_mut-2.ensures.value ∙ ap option_copied_mut c.in_default-get_mut.is in
    let same = same-ended a.places.next c.args.p.0 a.places.kept a.settled.kept c.args.slots.now.items s shown l none gone g in
    rw (c.keep_again.ensures.kept, c.pass.ensures.kept, same) (taken-again a.places.next c.args.p.0 _ a.places.kept a.settled.kept c.args.slots.now.items shown l none gone)

pub returns-clause-len : goal.returns-clause-len
returns-clause-len c =
    let a = c.slots.inside in
    let shown = ap (λ (v : SeenSlots). v.items) c.slots.view_is in
    written-length a.places.next a.places.kept _ a.settled.kept _ c.args.slots.now.items shown
