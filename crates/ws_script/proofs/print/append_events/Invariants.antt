use Rattle.std.proofs.Common.{◌≡◌, ◌++◌, length}
use Rattle.ws_script.specs.Heard.{IsPartlyHeard}
use Rattle.ws_script.specs.Printed.{events_text}
use Rattle.ws_script.proofs.print.append_events.Given as goal

abbrev pub invariant-loop-event : goal.invariant-loop-event
invariant-loop-event l = record {
  text : l.text.items ++ events_text l.realm.slots l.realm.slots.promises.events ≡ l.fn.text.items ++ events_text l.fn.realm.slots l.fn.realm.slots.promises.events;
  partly : IsPartlyHeard l.fn.realm.slots l.realm.slots;
  prepared : l.realm.prepared ≡ l.fn.realm.prepared;
}

abbrev pub decreases-loop-event : goal.decreases-loop-event
decreases-loop-event l = length l.realm.slots.promises.events
