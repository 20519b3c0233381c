use Rattle.std.proofs.Common.{refl, ap, sym, arith, ◌≡◌, ◌∙◌, ◌<◌, Some}
use Rattle.std.specs.Option.{option_copied_mut}
use Rattle.ws_places.specs.Seen.{value_in}
use Rattle.ws_slots.specs.Words.{SeenSlots, slot_of}
use Rattle.ws_slots.proofs.ItemLemmas.{open-shown, written, unwritten, written-length, length-with, apart-written}
use Rattle.ws_slots.proofs.slots.wait_first.Goals as goal

pub returns-clause-waits : goal.returns-clause-waits
returns-clause-waits c = λ t.
    let a = c.slots.inside in
    let shown = ap (λ (v : SeenSlots). v.items) c.slots.view_is in
    let v = c.in-Some.open.now in
    let l : c.args.p.0 < a.places.next = omega (arith, c.next.ensures) in
    let there : value_in c.args.p.0 a.places.kept ≡ Some v = sym c.get_mut.ensures.value ∙ ap option_copied_mut c.in-Some.is in
    record { slot = slot_of v; there = open-shown a.places.next c.args.p.0 a.places.kept a.settled.kept c.args.slots.now.items v shown l there; pending = refl; nobody = omega (arith, c.if-open-gt0.false); written = written a.places.next c.args.p.0 v _ a.places.kept a.settled.kept c.args.slots.now.items shown l there }

pub returns-clause-len : goal.returns-clause-len
returns-clause-len c =
    let a = c.slots.inside in
    let shown = ap (λ (v : SeenSlots). v.items) c.slots.view_is in
    written-length a.places.next a.places.kept _ a.settled.kept _ c.args.slots.now.items shown

pub returns-then-open-gt0-clause-len : goal.returns-then-open-gt0-clause-len
returns-then-open-gt0-clause-len c =
    let a = c.slots.inside in
    let shown = ap (λ (v : SeenSlots). v.items) c.slots.view_is in
    written-length a.places.next a.places.kept _ a.settled.kept _ c.args.slots.now.items shown

pub returns-then-open-gt0-clause-untouched : goal.returns-then-open-gt0-clause-untouched
returns-then-open-gt0-clause-untouched c = λ t.
    let a = c.slots.inside in
    let shown = ap (λ (v : SeenSlots). v.items) c.slots.view_is in
    let v = c.in-Some.open.now in
    let there : value_in c.args.p.0 a.places.kept ≡ Some v = sym c.get_mut.ensures.value ∙ ap option_copied_mut c.in-Some.is in
    ap (λ xs. record { items = xs; limit = a.limit }) (unwritten a.places.next c.args.p.0 v a.places.kept a.settled.kept there) ∙ c.slots.view_is

pub invariant_of-slots-then-open-gt0 : goal.invariant_of-slots-then-open-gt0
invariant_of-slots-then-open-gt0 c =
    let a = c.slots.inside in
    let shown = ap (λ (v : SeenSlots). v.items) c.slots.view_is in
    let v = c.in-Some.open.now in
    let there : value_in c.args.p.0 a.places.kept ≡ Some v = sym c.get_mut.ensures.value ∙ ap option_copied_mut c.in-Some.is in
    let inv = c.slots.invariant in
    (inv.0, inv.1, omega (arith, inv.2, length-with c.args.p.0 v a.places.kept), apart-written a.places.next c.args.p.0 v _ a.places.kept a.settled.kept there inv.3, inv.4, inv.5)

pub invariant_of-slots-2 : goal.invariant_of-slots-2
invariant_of-slots-2 c =
    let a = c.slots.inside in
    let shown = ap (λ (v : SeenSlots). v.items) c.slots.view_is in
    let v = c.in-Some.open.now in
    let there : value_in c.args.p.0 a.places.kept ≡ Some v = sym c.get_mut.ensures.value ∙ ap option_copied_mut c.in-Some.is in
    let inv = c.slots.invariant in
    (inv.0, inv.1, omega (arith, inv.2, length-with c.args.p.0 (record v { waits = 1; first = c.args.first }) a.places.kept), apart-written a.places.next c.args.p.0 v _ a.places.kept a.settled.kept there inv.3, inv.4, inv.5)
