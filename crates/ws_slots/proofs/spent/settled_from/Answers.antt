use Rattle.std.proofs.Common.{ap, arith}
use Rattle.ws_slots.specs.Words.{SeenSlots}
use Rattle.ws_slots.proofs.ItemLemmas.{length-shown}
use Rattle.ws_slots.proofs.SpentLemmas.{none-spent, settled-below}
use Rattle.ws_slots.proofs.spent.settled_from.Goals as goal

pub returns-then-next-from-clause-none : goal.returns-then-next-from-clause-none
returns-then-next-from-clause-none c = λ i s lo hi g.
    let a = c.slots.inside in
    let shown = ap (λ (v : SeenSlots). v.items) c.slots.view_is in
    absurd (omega (arith, lo, hi, length-shown a.places.next a.places.kept a.settled.kept c.args.slots.now.items shown, c.next.ensures, c.if-next-from.true))

pub returns-in-Some-clause-some : goal.returns-in-Some-clause-some
returns-in-Some-clause-some c =
    let a = c.slots.inside in
    let shown = ap (λ (v : SeenSlots). v.items) c.slots.view_is in
    let found = c.in-Some.ensures.some in
    let l = settled-below c.in-Some.number a.places.next a.places.kept a.settled.kept c.slots.invariant.3 found.2 in (
      omega (arith, found.0),
      omega (arith, l, length-shown a.places.next a.places.kept a.settled.kept c.args.slots.now.items shown),
      none-spent c.args.from.0 c.in-Some.number a.places.next a.places.kept a.settled.kept c.args.slots.now.items shown found.3,
    )

pub returns-in-None-clause-none : goal.returns-in-None-clause-none
returns-in-None-clause-none c =
    let a = c.slots.inside in
    let shown = ap (λ (v : SeenSlots). v.items) c.slots.view_is in
    none-spent c.args.from.0 _ a.places.next a.places.kept a.settled.kept c.args.slots.now.items shown (λ m lo hi. c.in-None.ensures.none m lo)
