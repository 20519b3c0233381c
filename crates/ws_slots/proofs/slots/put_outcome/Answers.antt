use Rattle.std.proofs.Common.{ap, sym, arith, ◌≡◌, ◌∙◌}
use Rattle.ws_places.specs.Seen.{value_in}
use Rattle.ws_slots.specs.Words.{SeenSlots, rank_in}
use Rattle.ws_places.specs.Seen.{without}
use Rattle.ws_places.proofs.ValueLemmas.{value-without}
use Rattle.ws_slots.proofs.ItemLemmas.{placed, has-place, written-length, ended-otherwise, some-kept, not-settled, length-less, apart-without, apart-put}
use Rattle.ws_slots.proofs.slots.put_outcome.Goals as goal

pub overflow_cast-number : goal.overflow_cast-number
overflow_cast-number c =
    let a = c.slots.inside in
    let shown = ap (λ (v : SeenSlots). v.items) c.slots.view_is in
    omega (arith, placed a.places.next c.args.p.0 a.places.kept a.settled.kept c.args.slots.now.items shown c.requires.pending, c.next-next.ensures)

pub pass-requires : goal.pass-requires
pass-requires c =
    let a = c.slots.inside in
    let shown = ap (λ (v : SeenSlots). v.items) c.slots.view_is in
    omega (arith, placed a.places.next c.args.p.0 a.places.kept a.settled.kept c.args.slots.now.items shown c.requires.pending, c.next-next.ensures)

pub keep_again-requires-clause-room : goal.keep_again-requires-clause-room
keep_again-requires-clause-room c =
    let a = c.slots.inside in
    let shown = ap (λ (v : SeenSlots). v.items) c.slots.view_is in
    let v = some-kept (value_in c.args.p.0 a.places.kept) (has-place a.places.next c.args.p.0 a.places.kept a.settled.kept c.args.slots.now.items shown c.slots.invariant.3 c.requires.pending) in
    omega (arith, length-less c.args.p.0 v.0 a.places.kept v.1, c.slots.invariant.0, c.slots.invariant.2, c.pass.ensures.spare)

pub keep_again-requires-clause-none : goal.keep_again-requires-clause-none
keep_again-requires-clause-none c =
    let a = c.slots.inside in
    let shown = ap (λ (v : SeenSlots). v.items) c.slots.view_is in
    let v = some-kept (value_in c.args.p.0 a.places.kept) (has-place a.places.next c.args.p.0 a.places.kept a.settled.kept c.args.slots.now.items shown c.slots.invariant.3 c.requires.pending) in
    rw c.pass.ensures.kept (not-settled a.places.next c.args.p.0 v.0 a.places.kept a.settled.kept c.slots.invariant.3 v.1)

pub invariant_of-slots : goal.invariant_of-slots
invariant_of-slots c =
    let a = c.slots.inside in
    let shown = ap (λ (v : SeenSlots). v.items) c.slots.view_is in
    let v = some-kept (value_in c.args.p.0 a.places.kept) (has-place a.places.next c.args.p.0 a.places.kept a.settled.kept c.args.slots.now.items shown c.slots.invariant.3 c.requires.pending) in
    let l = placed a.places.next c.args.p.0 a.places.kept a.settled.kept c.args.slots.now.items shown c.requires.pending in
    let gone = not-settled a.places.next c.args.p.0 v.0 a.places.kept a.settled.kept c.slots.invariant.3 v.1 in
    let less = length-less c.args.p.0 v.0 a.places.kept v.1 in
    let inv = c.slots.invariant in
    let apart = apart-put a.places.next c.args.p.0 (record { outcome = c.args.outcome; rank = c.args.rank }) (without c.args.p.0 a.places.kept) a.settled.kept l (value-without c.args.p.0 a.places.kept) gone c.requires.settled (apart-without a.places.next c.args.p.0 a.places.kept a.settled.kept inv.3) in
    rw (c.release.ensures.next, c.release.ensures.kept, c.keep_again.ensures.kept, c.pass.ensures.kept) (inv.0, omega (arith, inv.1, c.release.ensures.spare), omega (arith, inv.2, less, c.pass.ensures.spare, c.keep_again.ensures.spare), apart, inv.4, inv.5)

pub returns-clause-items : goal.returns-clause-items
returns-clause-items c = λ s g.
    let a = c.slots.inside in
    let shown = ap (λ (v : SeenSlots). v.items) c.slots.view_is in
    let v = some-kept (value_in c.args.p.0 a.places.kept) (has-place a.places.next c.args.p.0 a.places.kept a.settled.kept c.args.slots.now.items shown c.slots.invariant.3 c.requires.pending) in
    let l = placed a.places.next c.args.p.0 a.places.kept a.settled.kept c.args.slots.now.items shown c.requires.pending in
    let gone = not-settled a.places.next c.args.p.0 v.0 a.places.kept a.settled.kept c.slots.invariant.3 v.1 in
    let rank : s.rank ≡ c.args.rank = sym (ap rank_in g) ∙ c.requires.rank in
    rw (c.release.ensures.next, c.release.ensures.kept, c.keep_again.ensures.kept, c.pass.ensures.kept, rank) (ended-otherwise a.places.next c.args.p.0 _ a.places.kept a.settled.kept c.args.slots.now.items shown l gone)

pub returns-clause-len : goal.returns-clause-len
returns-clause-len c =
    let a = c.slots.inside in
    let shown = ap (λ (v : SeenSlots). v.items) c.slots.view_is in
    rw c.release.ensures.next (written-length a.places.next a.places.kept _ a.settled.kept _ c.args.slots.now.items shown)
