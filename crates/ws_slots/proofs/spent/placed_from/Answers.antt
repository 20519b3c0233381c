use Rattle.std.proofs.Common.{ap, arith, ◌≤◌}
use Rattle.ws_slots.specs.Words.{SeenSlots}
use Rattle.ws_slots.proofs.ItemLemmas.{length-shown}
use Rattle.ws_slots.proofs.SpentLemmas.{none-placed, settled-below, slot-there}
use Rattle.ws_slots.proofs.spent.placed_from.Goals as goal

pub returns-then-next-from-clause-none : goal.returns-then-next-from-clause-none
returns-then-next-from-clause-none c = λ i s lo hi g.
    let a = c.slots.inside in
    let shown = ap (λ (v : SeenSlots). v.items) c.slots.view_is in
    absurd (omega (arith, lo, hi, length-shown a.places.next a.places.kept a.settled.kept c.args.slots.now.items shown, c.next.ensures, c.if-next-from.true))

pub returns-in-Some-kept_from-clause-some : goal.returns-in-Some-kept_from-clause-some
returns-in-Some-kept_from-clause-some c =
    let a = c.slots.inside in
    let shown = ap (λ (v : SeenSlots). v.items) c.slots.view_is in
    let len = length-shown a.places.next a.places.kept a.settled.kept c.args.slots.now.items shown in
    let found = c.in-Some-kept_from.ensures.some in (
      omega (arith, found.0),
      omega (arith, found.1, len),
      slot-there a.places.next c.in-Some-kept_from.open a.places.kept a.settled.kept c.args.slots.now.items shown found.1,
      none-placed c.args.from.0 c.in-Some-kept_from.open a.places.next a.places.kept a.settled.kept c.args.slots.now.items shown found.3 (λ m lo hi. c.in_default.ensures.none m lo),
    )

pub returns-in-None-clause-none : goal.returns-in-None-clause-none
returns-in-None-clause-none c =
    let a = c.slots.inside in
    let shown = ap (λ (v : SeenSlots). v.items) c.slots.view_is in
    none-placed c.args.from.0 _ a.places.next a.places.kept a.settled.kept c.args.slots.now.items shown (λ m lo hi. c.in-None.ensures.none m lo) (λ m lo hi. c.in_default.ensures.none m lo)

pub returns-in-Some-kept_from-2-clause-some : goal.returns-in-Some-kept_from-2-clause-some
returns-in-Some-kept_from-2-clause-some c =
    let a = c.slots.inside in
    let shown = ap (λ (v : SeenSlots). v.items) c.slots.view_is in
    let len = length-shown a.places.next a.places.kept a.settled.kept c.args.slots.now.items shown in
    let first = c.in-Some.ensures.some in
    let found = c.in-Some-kept_from-2.ensures.some in
    let least : c.min.result ≤ c.in-Some-kept_from-2.open = omega (arith, c.min.ensures) in (
      omega (arith, c.min.ensures, first.0, found.0),
      omega (arith, least, found.1, len),
      slot-there a.places.next c.min.result a.places.kept a.settled.kept c.args.slots.now.items shown (omega (arith, least, found.1)),
      none-placed c.args.from.0 c.min.result a.places.next a.places.kept a.settled.kept c.args.slots.now.items shown (λ m lo hi. found.3 m lo (omega (arith, hi, least))) (λ m lo hi. first.3 m lo (omega (arith, hi, c.min.ensures))),
    )

pub returns-in-None-kept_from-clause-some : goal.returns-in-None-kept_from-clause-some
returns-in-None-kept_from-clause-some c =
    let a = c.slots.inside in
    let shown = ap (λ (v : SeenSlots). v.items) c.slots.view_is in
    let len = length-shown a.places.next a.places.kept a.settled.kept c.args.slots.now.items shown in
    let found = c.in-Some.ensures.some in
    let l = settled-below c.in-Some.settled a.places.next a.places.kept a.settled.kept c.slots.invariant.3 found.2 in (
      omega (arith, found.0),
      omega (arith, l, len),
      slot-there a.places.next c.in-Some.settled a.places.kept a.settled.kept c.args.slots.now.items shown l,
      none-placed c.args.from.0 c.in-Some.settled a.places.next a.places.kept a.settled.kept c.args.slots.now.items shown (λ m lo hi. c.in-None-kept_from.ensures.none m lo) found.3,
    )
