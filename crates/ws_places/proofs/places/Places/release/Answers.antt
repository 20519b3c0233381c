use Rattle.std.proofs.Common.{refl, ap, sym, arith, ◌≡◌, ◌∙◌, Some}
use Rattle.std.specs.Prelude.{slice_get}
use Rattle.ws_places.specs.Seen.{SeenPlaces}
use Rattle.ws_places.proofs.OrderLemmas.{pair-read, same-place}
use Rattle.ws_places.proofs.KeptLemmas.{without-none}
use Rattle.ws_places.proofs.HeldLemmas.{held-index}
use Rattle.ws_places.proofs.SoundLemmas.{found, not-found, kept-without, sound-released}
use Rattle.ws_places.proofs.places.Places.release.Goals as goal

pub find-requires : goal.find-requires
find-requires g c = (c.self.inside.next, c.self.invariant.rising)

pub returns-in_default-clause-kept : goal.returns-in_default-clause-kept
returns-in_default-clause-kept g c =
    let a = c.self.inside in
    let kept = ap (λ (v : SeenPlaces g.row.T.Denot). v.kept) c.self.view_is in
    sym (without-none c.args.number c.args.self.now.kept (not-found c.args.number c.in_default.field-0 a.pairs.items a.values.slots _ c.in_default.ensures.none.1 c.in_default.ensures.none.2 kept))

pub returns-in_default-place-clause-kept : goal.returns-in_default-place-clause-kept
returns-in_default-place-clause-kept g c =
    let a = c.self.inside in
    let kept = ap (λ (v : SeenPlaces g.row.T.Denot). v.kept) c.self.view_is in
    let here : slice_get a.pairs.items c.in-Ok.i ≡ Some c.index.result.now = pair-read a.pairs.items _ c.in-Ok.i c.index.result.now refl (omega (arith, c.in-Ok.ensures.found.0)) c.index.ensures in
    sym (without-none c.args.number c.args.self.now.kept (found a.next c.in-Ok.i c.args.number a.pairs.items c.index.result.now a.values.slots _ _ c.self.invariant here (c.in-Ok.ensures.found.1 _ here) c.in_default-place.is kept))

pub invariant_of-self : goal.invariant_of-self
invariant_of-self g c =
    let a = c.self.inside in
    let q = c.index_mut.result.now in
    let k = c.in-Some.place in
    let first : slice_get a.pairs.items c.in-Ok.i ≡ Some c.index.result.now = pair-read a.pairs.items _ c.in-Ok.i c.index.result.now refl (omega (arith, c.in-Ok.ensures.found.0)) c.index.ensures in
    let here : slice_get a.pairs.items c.in-Ok.i ≡ Some q = pair-read a.pairs.items _ c.in-Ok.i q refl (omega (arith, c.in-Ok.ensures.found.0)) c.index_mut.ensures.value in
    let place : q.place ≡ Some k = same-place a.pairs.items c.in-Ok.i q c.index.result.now here first ∙ c.in-Some.is in
    sound-released a.next c.in-Ok.i k a.pairs.items q a.values.slots c.let_go.new.self.slots c.self.invariant here place c.let_go.ensures.others

pub returns-clause-kept : goal.returns-clause-kept
returns-clause-kept g c =
    let a = c.self.inside in
    let q = c.index_mut.result.now in
    let k = c.in-Some.place in
    let first : slice_get a.pairs.items c.in-Ok.i ≡ Some c.index.result.now = pair-read a.pairs.items _ c.in-Ok.i c.index.result.now refl (omega (arith, c.in-Ok.ensures.found.0)) c.index.ensures in
    let here : slice_get a.pairs.items c.in-Ok.i ≡ Some q = pair-read a.pairs.items _ c.in-Ok.i q refl (omega (arith, c.in-Ok.ensures.found.0)) c.index_mut.ensures.value in
    let place : q.place ≡ Some k = same-place a.pairs.items c.in-Ok.i q c.index.result.now here first ∙ c.in-Some.is in
    let kept = ap (λ (v : SeenPlaces g.row.T.Denot). v.kept) c.self.view_is in
    kept-without a.next c.in-Ok.i k c.args.number a.pairs.items q a.values.slots c.let_go.new.self.slots _ c.self.invariant here (c.in-Ok.ensures.found.1 _ here) place c.let_go.ensures.others kept

pub let_go-requires : goal.let_go-requires
let_go-requires g c =
    let a = c.self.inside in
    let q = c.index_mut.result.now in
    let k = c.in-Some.place in
    let first : slice_get a.pairs.items c.in-Ok.i ≡ Some c.index.result.now = pair-read a.pairs.items _ c.in-Ok.i c.index.result.now refl (omega (arith, c.in-Ok.ensures.found.0)) c.index.ensures in
    held-index c.in-Ok.i k a.pairs.items c.index.result.now a.values.slots c.self.invariant.held first c.in-Some.is
