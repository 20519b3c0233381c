use Rattle.std.proofs.Common.{ap}
use Rattle.ws_places.specs.Seen.{SeenPlaces}
use Rattle.ws_places.proofs.KeptLemmas.{kept-push}
use Rattle.ws_places.proofs.SoundLemmas.{not-given, sound-push}
use Rattle.ws_places.proofs.places.Places.keep.Goals as goal

pub invariant_of-self : goal.invariant_of-self
invariant_of-self g c =
    let a = c.self.inside in
    let k = c.put-place.result in
    let ss = c.put-place.new.self.slots in
    rw c.push_reserved.ensures.items (sound-push a.next k c.args.value a.pairs.items a.values.slots ss c.self.invariant c.put-place.ensures.was_vacant c.put-place.ensures.changed c.put-place.ensures.others)

pub returns-clause-kept : goal.returns-clause-kept
returns-clause-kept g c =
    let a = c.self.inside in
    let k = c.put-place.result in
    let ss = c.put-place.new.self.slots in
    rw (c.push_reserved.ensures.items, ← c.self.view_is) (kept-push a.next k c.args.value a.pairs.items a.values.slots ss c.self.invariant.held c.put-place.ensures.was_vacant c.put-place.ensures.changed c.put-place.ensures.others)

pub returns-clause-none : goal.returns-clause-none
returns-clause-none g c =
    let a = c.self.inside in
    let kept = ap (λ (v : SeenPlaces g.row.T.Denot). v.kept) c.self.view_is in
    let next = ap (λ (v : SeenPlaces g.row.T.Denot). v.next) c.self.view_is in
    rw (← next) (not-given a.next a.pairs.items a.values.slots c.args.self.now.kept c.self.invariant kept)
