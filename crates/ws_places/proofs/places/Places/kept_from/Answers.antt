use Rattle.std.proofs.Common.{ap, arith, refl, ◌≡◌, Some}
use Rattle.std.specs.Prelude.{slice_get}
use Rattle.ws_places.specs.Seen.{SeenPlaces}
use Rattle.ws_places.proofs.OrderLemmas.{pair-read, rising-below}
use Rattle.ws_places.proofs.SoundLemmas.{none-from, some-from}
use Rattle.ws_places.proofs.places.Places.kept_from.Goals as goal

pub start_of-start-requires : goal.start_of-start-requires
start_of-start-requires g c = (c.self.inside.next, c.self.invariant.rising)

pub returns-in-Some-clause-some : goal.returns-in-Some-clause-some
returns-in-Some-clause-some g c =
    let a = c.self.inside in
    let q = c.index.result.now in
    let i = c.in-Some.i in
    let kept = ap (λ (v : SeenPlaces g.row.T.Denot). v.kept) c.self.view_is in
    let next = ap (λ (v : SeenPlaces g.row.T.Denot). v.next) c.self.view_is in
    let here : slice_get a.pairs.items i ≡ Some q = pair-read a.pairs.items _ i q refl (omega (arith, c.in-Some.ensures.some.1)) c.index.ensures in
    let k = some-from a.next c.args.number c.start_of-start.result i a.pairs.items q a.values.slots _ c.self.invariant here (c.in-Some.ensures.some.2 q here) c.start_of-start.ensures.before c.in-Some.ensures.some.3 kept in
    let below = rising-below 0 a.next i a.pairs.items q c.self.invariant.rising here in
    (c.start_of-start.ensures.after i q here c.in-Some.ensures.some.0, omega (arith, below, next), k.0, k.1)

pub returns-in-None-clause-none : goal.returns-in-None-clause-none
returns-in-None-clause-none g c =
    let a = c.self.inside in
    let kept = ap (λ (v : SeenPlaces g.row.T.Denot). v.kept) c.self.view_is in
    none-from c.args.number c.start_of-start.result a.pairs.items a.values.slots _ c.start_of-start.ensures.before c.in-None.ensures.none kept
