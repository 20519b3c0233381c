use Rattle.std.proofs.Common.{arith}
use Rattle.ws_steps.specs.Promises.{Table}
use Rattle.ws_steps.specs.Run.{later_events}
use Rattle.ws_realm.proofs.Resting.{later-events-less, places-still, rests-still, ready-still}
use Rattle.ws_realm.proofs.realm.Realm.next_event.Goals as goal

pub invariant_of-self : goal.invariant_of-self
invariant_of-self c =
    let t = c.self.inside.tables in
    let was = c.self.invariant in
    let u : Table = record t.promises.table { events = later_events t.promises.table.events } in
    rw (c.next_event.ensures.table) (
      rests-still t u (omega arith) was.0,
      was.1,
      λ ready. let h = was.2 ready in (ready-still t u (later-events-less t.promises.table) h.0, h.1),
      λ some. places-still c.self.inside.places t u (later-events-less t.promises.table) (was.3 some),
    )
