use Rattle.std.proofs.Common.{refl, ap, arith, ◌≡◌, Some}
use Rattle.std.specs.Prelude.{slice_get}
use Rattle.ws_places.specs.Seen.{SeenPlaces}
use Rattle.ws_places.proofs.OrderLemmas.{pair-read}
use Rattle.ws_places.proofs.SoundLemmas.{kept-put, kept-put_again, sound-again, sound-inserted}
use Rattle.ws_places.proofs.places.Places.keep_again.Goals as goal

pub find-requires : goal.find-requires
find-requires g c = (c.self.inside.next, c.self.invariant.rising)

pub invariant_of-self : goal.invariant_of-self
invariant_of-self g c =
    let a = c.self.inside in
    let q = c.index_mut.result.now in
    let p = c.put-place in
    let here : slice_get a.pairs.items c.in-Ok.i ≡ Some q = pair-read a.pairs.items _ c.in-Ok.i q refl (omega (arith, c.in-Ok.ensures.found.0)) c.index_mut.ensures.value in
    sound-again a.next c.in-Ok.i p.result c.args.value a.pairs.items q a.values.slots p.new.self.slots c.self.invariant here p.ensures.was_vacant p.ensures.changed p.ensures.others

pub returns-in-Ok-clause-kept : goal.returns-in-Ok-clause-kept
returns-in-Ok-clause-kept g c =
    let a = c.self.inside in
    let q = c.index_mut.result.now in
    let p = c.put-place in
    let kept = ap (λ (v : SeenPlaces g.row.T.Denot). v.kept) c.self.view_is in
    let here : slice_get a.pairs.items c.in-Ok.i ≡ Some q = pair-read a.pairs.items _ c.in-Ok.i q refl (omega (arith, c.in-Ok.ensures.found.0)) c.index_mut.ensures.value in
    kept-put_again a.next c.in-Ok.i p.result c.args.number c.args.value a.pairs.items q a.values.slots p.new.self.slots c.args.self.now.kept c.self.invariant here (c.in-Ok.ensures.found.1 _ here) c.requires.none p.ensures.was_vacant p.ensures.changed p.ensures.others kept

pub invariant_of-self-in-Ok-insert : goal.invariant_of-self-in-Ok-insert
invariant_of-self-in-Ok-insert g c =
    let a = c.self.inside in
    let p = c.put-place in
    let next = ap (λ (v : SeenPlaces g.row.T.Denot). v.next) c.self.view_is in
    rw c.in-Ok-insert.ensures.items (sound-inserted a.next c.in-Err.i p.result c.args.number c.args.value a.pairs.items a.values.slots p.new.self.slots c.self.invariant (omega (arith, c.requires.given, next)) (omega (arith, c.in-Err.ensures.none.0)) c.in-Err.ensures.none.1 c.in-Err.ensures.none.2 p.ensures.was_vacant p.ensures.changed p.ensures.others)

pub returns-in-Ok-insert-clause-kept : goal.returns-in-Ok-insert-clause-kept
returns-in-Ok-insert-clause-kept g c =
    let a = c.self.inside in
    let p = c.put-place in
    let kept = ap (λ (v : SeenPlaces g.row.T.Denot). v.kept) c.self.view_is in
    rw c.in-Ok-insert.ensures.items (kept-put a.next c.in-Err.i p.result c.args.number c.args.value a.pairs.items a.values.slots p.new.self.slots c.args.self.now.kept c.self.invariant (omega (arith, c.in-Err.ensures.none.0)) c.in-Err.ensures.none.1 c.in-Err.ensures.none.2 p.ensures.was_vacant p.ensures.changed p.ensures.others kept)
