use Rattle.std.proofs.Common.{refl, ap, sym, arith, ◌≡◌, ◌∙◌, Some}
use Rattle.std.specs.Prelude.{slice_get}
use Rattle.ws_places.specs.Seen.{SeenPlaces}
use Rattle.ws_places.proofs.OrderLemmas.{pair-read}
use Rattle.ws_places.proofs.HeldLemmas.{held-index}
use Rattle.ws_places.proofs.SoundLemmas.{found, not-found}
use Rattle.ws_places.proofs.places.Places.get.Goals as goal

pub find-requires : goal.find-requires
find-requires g c = (c.self.inside.next, c.self.invariant.rising)

pub returns-in-Some : goal.returns-in-Some
returns-in-Some g c =
    let a = c.self.inside in
    let kept = ap (λ (v : SeenPlaces g.row.T.Denot). v.kept) c.self.view_is in
    let here : slice_get a.pairs.items c.in-Ok.i ≡ Some c.index.result.now = pair-read a.pairs.items _ c.in-Ok.i c.index.result.now refl (omega (arith, c.in-Ok.ensures.found.0)) c.index.ensures in
    sym c.get.ensures ∙ sym (found a.next c.in-Ok.i c.args.number a.pairs.items c.index.result.now a.values.slots _ _ c.self.invariant here (c.in-Ok.ensures.found.1 _ here) c.in-Some.is kept)

pub returns-in-None : goal.returns-in-None
returns-in-None g c =
    let a = c.self.inside in
    let kept = ap (λ (v : SeenPlaces g.row.T.Denot). v.kept) c.self.view_is in
    let here : slice_get a.pairs.items c.in-Ok.i ≡ Some c.index.result.now = pair-read a.pairs.items _ c.in-Ok.i c.index.result.now refl (omega (arith, c.in-Ok.ensures.found.0)) c.index.ensures in
    sym (found a.next c.in-Ok.i c.args.number a.pairs.items c.index.result.now a.values.slots _ _ c.self.invariant here (c.in-Ok.ensures.found.1 _ here) c.in-None.is kept)

pub returns-in-Err : goal.returns-in-Err
returns-in-Err g c =
    let a = c.self.inside in
    let kept = ap (λ (v : SeenPlaces g.row.T.Denot). v.kept) c.self.view_is in
    sym (not-found c.args.number c.in-Err.field-0 a.pairs.items a.values.slots _ c.in-Err.ensures.none.1 c.in-Err.ensures.none.2 kept)

pub get-requires : goal.get-requires
get-requires g c =
    let a = c.self.inside in
    let here : slice_get a.pairs.items c.in-Ok.i ≡ Some c.index.result.now = pair-read a.pairs.items _ c.in-Ok.i c.index.result.now refl (omega (arith, c.in-Ok.ensures.found.0)) c.index.ensures in
    held-index c.in-Ok.i c.in-Some.place a.pairs.items c.index.result.now a.values.slots c.self.invariant.held here c.in-Some.is
