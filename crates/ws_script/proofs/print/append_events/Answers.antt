use Rattle.std.proofs.Common.{sym, ◌∙◌}
use Rattle.ws_script.proofs.Events.{printed-then, partly-then}
use Rattle.ws_script.proofs.print.append_events.Goals as goal

pub loop-event-preserved : goal.loop-event-preserved
loop-event-preserved c = record {
  text =
      printed-then c.loop-event.realm.slots c.next_event.new.self.slots c.in-Some.event c.loop-event.text.items c.append_event.new.text.items
      (sym c.next_event.ensures.event ∙ c.in-Some.is) c.next_event.ensures.slots c.in_ok-append_event.ensures
      ∙ c.loop-event.invariant.text;
  partly = partly-then c.args.realm.now.slots c.loop-event.realm.slots c.next_event.new.self.slots c.loop-event.invariant.partly c.next_event.ensures.slots;
  prepared = c.next_event.ensures.prepared ∙ c.loop-event.invariant.prepared;
}

pub returns-in_err-append_event-clause-partly : goal.returns-in_err-append_event-clause-partly
returns-in_err-append_event-clause-partly c =
    partly-then c.args.realm.now.slots c.loop-event.realm.slots c.next_event.new.self.slots c.loop-event.invariant.partly c.next_event.ensures.slots
