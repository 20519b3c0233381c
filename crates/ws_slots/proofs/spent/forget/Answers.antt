use Rattle.std.proofs.Common.{ap, arith}
use Rattle.ws_slots.specs.Words.{SeenSlots}
use Rattle.ws_slots.proofs.ItemLemmas.{written-length}
use Rattle.ws_slots.proofs.SpentLemmas.{apart-less, let-go, loose-settled}
use Rattle.ws_slots.proofs.spent.forget.Goals as goal

pub overflow_cast-p : goal.overflow_cast-p
overflow_cast-p c =
    let a = c.slots.inside in
    let shown = ap (λ (v : SeenSlots). v.items) c.slots.view_is in
    let at = loose-settled a.places.next c.args.p.0 a.places.kept a.settled.kept c.args.slots.now.items shown c.requires in
    omega (arith, at.0, c.next-next.ensures)

pub returns-clause-items : goal.returns-clause-items
returns-clause-items c =
    let a = c.slots.inside in
    let shown = ap (λ (v : SeenSlots). v.items) c.slots.view_is in
    let at = loose-settled a.places.next c.args.p.0 a.places.kept a.settled.kept c.args.slots.now.items shown c.requires in
    rw c.release.ensures.kept (let-go a.places.next c.args.p.0 a.places.kept a.settled.kept c.args.slots.now.items shown at.0 at.1)

pub returns-clause-len : goal.returns-clause-len
returns-clause-len c =
    let a = c.slots.inside in
    let shown = ap (λ (v : SeenSlots). v.items) c.slots.view_is in
    written-length a.places.next a.places.kept _ a.settled.kept _ c.args.slots.now.items shown

pub invariant_of-slots : goal.invariant_of-slots
invariant_of-slots c =
    let a = c.slots.inside in
    let inv = c.slots.invariant in
    rw c.release.ensures.kept (inv.0, inv.1, omega (arith, inv.2, c.release.ensures.spare), apart-less a.places.next c.args.p.0 a.places.kept a.settled.kept inv.3, inv.4, inv.5)
