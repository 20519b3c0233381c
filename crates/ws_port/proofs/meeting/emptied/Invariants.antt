use Rattle.std.proofs.Common.{◌≡◌, ◌-◌, true}
use Rattle.ws_port.specs.Ends.{IsAtRow, CanTake}
use Rattle.ws_port.proofs.Rests.{Emptied}
use Rattle.ws_port.proofs.meeting.emptied.Given as goal

abbrev pub invariant-messages : goal.invariant-messages
invariant-messages l = record {
  table : IsAtRow l.board.shared.table_id l.seat.table_id;
  can : CanTake l.seat.me l.taken × (l.seat.me.0.sends ≡ true) × (l.seat.me.0.outgoing ≡ l.fn.seat.me.0.outgoing);
  so_far : Emptied l.fn.seat.me.0.outgoing.sent l.fn.seat.me.0.incoming.received l.seat.me.0.incoming.received l.places l.count;
}

abbrev pub decreases-messages : goal.decreases-messages
decreases-messages l = 9 - l.count
