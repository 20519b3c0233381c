use Rattle.ws_places.proofs.KeptLemmas.{kept-filter}
use Rattle.ws_places.proofs.SoundLemmas.{sound-filter}
use Rattle.ws_places.proofs.places.Places.sweep.Goals as goal

pub invariant_of-self : goal.invariant_of-self
invariant_of-self g c =
    let a = c.self.inside in
    rw c.drop_dead.ensures.items (sound-filter a.pairs.items a.values.slots a.next c.self.invariant)

pub returns-clause-kept : goal.returns-clause-kept
returns-clause-kept g c =
    let a = c.self.inside in
    rw (c.drop_dead.ensures.items, ← c.self.view_is) (kept-filter a.pairs.items a.values.slots)
