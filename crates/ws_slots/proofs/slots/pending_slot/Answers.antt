use Rattle.std.proofs.Common.{ap, arith}
use Rattle.ws_slots.specs.Words.{SeenSlots}
use Rattle.ws_slots.proofs.ItemLemmas.{found-some, found-none, found-past}
use Rattle.ws_slots.proofs.slots.pending_slot.Goals as goal

pub returns-then-next-p-clause-none : goal.returns-then-next-p-clause-none
returns-then-next-p-clause-none c =
    let a = c.slots.inside in
    let shown = ap (λ (v : SeenSlots). v.items) c.slots.view_is in
    found-past a.places.next c.args.p.0 a.places.kept a.settled.kept c.args.slots.now.items shown (omega (arith, c.next.ensures))

pub returns-clause-some : goal.returns-clause-some
returns-clause-some c =
    let a = c.slots.inside in
    let shown = ap (λ (v : SeenSlots). v.items) c.slots.view_is in
    found-some a.places.next c.args.p.0 a.places.kept a.settled.kept c.args.slots.now.items c.get.result shown (omega (arith, c.next.ensures)) c.get.ensures

pub returns-clause-none : goal.returns-clause-none
returns-clause-none c =
    let a = c.slots.inside in
    let shown = ap (λ (v : SeenSlots). v.items) c.slots.view_is in
    found-none a.places.next c.args.p.0 a.places.kept a.settled.kept c.args.slots.now.items c.get.result shown c.slots.invariant.3 (omega (arith, c.next.ensures)) c.get.ensures
