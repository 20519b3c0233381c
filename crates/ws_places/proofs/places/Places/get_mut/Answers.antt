use Rattle.std.proofs.Common.{refl, ap, sym, arith, ◌≡◌, ◌∙◌, Some, inl}
use Rattle.std.specs.Prelude.{slice_get}
use Rattle.ws_places.specs.Seen.{SeenPlaces}
use Rattle.ws_places.proofs.OrderLemmas.{pair-read}
use Rattle.ws_places.proofs.HeldLemmas.{held-index}
use Rattle.ws_places.proofs.SoundLemmas.{found, not-found, lent-sound, lent-kept}
use Rattle.ws_places.proofs.places.Places.get_mut.Goals as goal

pub find-requires : goal.find-requires
find-requires g c = (c.self.inside.next, c.self.invariant.rising)

pub returns-in_default : goal.returns-in_default
returns-in_default g c =
    let a = c.self.inside in
    let kept = ap (λ (v : SeenPlaces g.row.T.Denot). v.kept) c.self.view_is in
    (rw c.self.view_is refl, record { writes_back = tt; value = sym (not-found c.args.number c.in_default.field-0 a.pairs.items a.values.slots _ c.in_default.ensures.none.1 c.in_default.ensures.none.2 kept) })

pub returns-in_default-place : goal.returns-in_default-place
returns-in_default-place g c =
    let a = c.self.inside in
    let kept = ap (λ (v : SeenPlaces g.row.T.Denot). v.kept) c.self.view_is in
    let here : slice_get a.pairs.items c.in-Ok.i ≡ Some c.index.result.now = pair-read a.pairs.items _ c.in-Ok.i c.index.result.now refl (omega (arith, c.in-Ok.ensures.found.0)) c.index.ensures in
    (rw c.self.view_is refl, record { writes_back = tt; value = sym (found a.next c.in-Ok.i c.args.number a.pairs.items c.index.result.now a.values.slots _ _ c.self.invariant here (c.in-Ok.ensures.found.1 _ here) c.in_default-place.is kept) })

pub invariant_of-self-lent : goal.invariant_of-self-lent
invariant_of-self-lent g c w =
    let a = c.self.inside in
    let q = c.index.result.now in
    let here : slice_get a.pairs.items c.in-Ok.i ≡ Some q = pair-read a.pairs.items _ c.in-Ok.i q refl (omega (arith, c.in-Ok.ensures.found.0)) c.index.ensures in
    lent-sound a.next c.in-Ok.i c.in-Some.place w a.pairs.items q a.values.slots c.self.invariant here c.in-Some.is

pub get_mut-requires : goal.get_mut-requires
get_mut-requires g c =
    let a = c.self.inside in
    let here : slice_get a.pairs.items c.in-Ok.i ≡ Some c.index.result.now = pair-read a.pairs.items _ c.in-Ok.i c.index.result.now refl (omega (arith, c.in-Ok.ensures.found.0)) c.index.ensures in
    held-index c.in-Ok.i c.in-Some.place a.pairs.items c.index.result.now a.values.slots c.self.invariant.held here c.in-Some.is

pub returns : goal.returns
returns g c =
    let a = c.self.inside in
    let q = c.index.result.now in
    let k = c.in-Some.place in
    let here : slice_get a.pairs.items c.in-Ok.i ≡ Some q = pair-read a.pairs.items _ c.in-Ok.i q refl (omega (arith, c.in-Ok.ensures.found.0)) c.index.ensures in
    let kept = ap (λ (v : SeenPlaces g.row.T.Denot). v.kept) c.self.view_is in
    let next = ap (λ (v : SeenPlaces g.row.T.Denot). v.next) c.self.view_is in
    let spare = ap (λ (v : SeenPlaces g.row.T.Denot). v.spare) c.self.view_is in
    let number = c.in-Ok.ensures.found.1 _ here in
    let listed = λ (w : g.row.T.Denot). lent-kept a.next c.in-Ok.i k c.args.number w a.pairs.items q a.values.slots c.args.self.now.kept c.self.invariant here number c.in-Some.is kept in (
      λ j. inl (c.get_mut.result.ghost_name, λ w. record { kept = listed w j; next = next j; spare = spare j }),
      record { writes_back = tt; value = sym c.get_mut.ensures.value ∙ sym (found a.next c.in-Ok.i c.args.number a.pairs.items q a.values.slots _ _ c.self.invariant here number c.in-Some.is kept) },
    )
