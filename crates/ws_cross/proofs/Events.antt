-- A new promise takes no place of an event.
use Rattle.std.proofs.Common.{◌≡◌, ◌+◌, List, [], ◌∷◌, ◌++◌, Option, Some, arith}
use Rattle.ws_steps.specs.Places.{unnoted_in}
use Rattle.ws_steps.specs.Promises.{Entry, Table, pending, fresh}
use Rattle.ws_promise.specs.Seen.{events_in}

unnoted-append : (xs ys : List (Option Entry)) → unnoted_in (xs ++ ys) ≡ unnoted_in xs + unnoted_in ys
unnoted-append [] ys = omega arith
unnoted-append (x ∷ xs) ys = let h = unnoted-append xs ys in omega (arith, h)

pub fresh_events : (t : Table) → events_in (fresh t) ≡ events_in t
unfolding fresh
fresh_events t = let h = unnoted-append t.entries (Some pending ∷ []) in omega (arith, h)
