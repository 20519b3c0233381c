use Rattle.std.proofs.Common.{◌≤◌, arith}
use Rattle.std.proofs.lemmas.Bool.{false≢true}
use Rattle.ws_realm.proofs.realm.Realm.settle_done.Goals as goal

pub invariant_of-self : goal.invariant_of-self
invariant_of-self c =
    let e = c.settle_done.ensures in
    let age = e.age in
    (e.resting, omega (arith, age), λ no. absurd (false≢true no), λ some. e.places c.self.inside.places (c.self.invariant.3 some))
