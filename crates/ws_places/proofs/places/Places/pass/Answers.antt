use Rattle.std.proofs.Common.{arith}
use Rattle.ws_places.proofs.SoundLemmas.{sound-later}
use Rattle.ws_places.proofs.places.Places.pass.Goals as goal

pub invariant_of-self : goal.invariant_of-self
invariant_of-self g c = sound-later c.self.inside.next _ c.self.inside.pairs.items c.self.inside.values.slots (omega (arith, c.if-self-number.true)) c.self.invariant
