use Rattle.ws_realm.proofs.realm.Realm.enqueue.Goals as goal

pub invariant_of-self-in-Err : goal.invariant_of-self-in-Err
invariant_of-self-in-Err c = rw c.in-Err.ensures.untouched c.self-2.invariant
