use Rattle.std.proofs.Common.{ap, sym, arith, ◌≡◌, ◌∙◌, None}
use Rattle.ws_places.specs.Seen.{value_in}
use Rattle.ws_slots.specs.Words.{SeenSlots, rank_in}
use Rattle.ws_slots.proofs.ItemLemmas.{placed, has-place, written-length, given-up, some-kept, not-settled, length-less, apart-without}
use Rattle.ws_slots.proofs.slots.put_undefined.Goals as goal

pub overflow_cast-p : goal.overflow_cast-p
overflow_cast-p c =
    let a = c.slots.inside in
    let shown = ap (λ (v : SeenSlots). v.items) c.slots.view_is in
    omega (arith, placed a.places.next c.args.p.0 a.places.kept a.settled.kept c.args.slots.now.items shown c.requires.pending, c.next-next.ensures)

pub returns-clause-items : goal.returns-clause-items
returns-clause-items c = λ s g.
    let a = c.slots.inside in
    let shown = ap (λ (v : SeenSlots). v.items) c.slots.view_is in
    let l = placed a.places.next c.args.p.0 a.places.kept a.settled.kept c.args.slots.now.items shown c.requires.pending in
    let rank : s.rank ≡ None = sym (ap rank_in g) ∙ c.requires.unwatched in
    let v = some-kept (value_in c.args.p.0 a.places.kept) (has-place a.places.next c.args.p.0 a.places.kept a.settled.kept c.args.slots.now.items shown c.slots.invariant.3 c.requires.pending) in
    rw (c.release.ensures.next, c.release.ensures.kept, rank) (given-up a.places.next c.args.p.0 a.places.kept a.settled.kept c.args.slots.now.items shown l (not-settled a.places.next c.args.p.0 v.0 a.places.kept a.settled.kept c.slots.invariant.3 v.1))

pub returns-clause-len : goal.returns-clause-len
returns-clause-len c =
    let a = c.slots.inside in
    let shown = ap (λ (v : SeenSlots). v.items) c.slots.view_is in
    rw c.release.ensures.next (written-length a.places.next a.places.kept _ a.settled.kept _ c.args.slots.now.items shown)

pub invariant_of-slots : goal.invariant_of-slots
invariant_of-slots c =
    let a = c.slots.inside in
    let shown = ap (λ (v : SeenSlots). v.items) c.slots.view_is in
    let v = some-kept (value_in c.args.p.0 a.places.kept) (has-place a.places.next c.args.p.0 a.places.kept a.settled.kept c.args.slots.now.items shown c.slots.invariant.3 c.requires.pending) in
    let less = length-less c.args.p.0 v.0 a.places.kept v.1 in
    let inv = c.slots.invariant in
    rw (c.release.ensures.next, c.release.ensures.kept) (inv.0, omega (arith, inv.1, c.release.ensures.spare), omega (arith, inv.2, less), apart-without a.places.next c.args.p.0 a.places.kept a.settled.kept inv.3, inv.4, inv.5)
