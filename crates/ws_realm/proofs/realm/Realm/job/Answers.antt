use Rattle.ws_realm.proofs.realm.Realm.job.Goals as goal

pub invariant_of-self-in-None : goal.invariant_of-self-in-None
invariant_of-self-in-None c = rw c.in-None.ensures.untouched c.self-2.invariant
