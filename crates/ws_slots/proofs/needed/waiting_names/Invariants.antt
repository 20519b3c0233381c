use Rattle.std.proofs.Common.{◌≡◌, drop, nat_lt}
use Rattle.ws_alike.specs.Named.{in_all}
use Rattle.ws_slots.specs.View.{in_waiting}
use Rattle.ws_slots.proofs.needed.waiting_names.Given as goal

-- those looked at name others
abbrev pub invariant-loop-i : goal.invariant-loop-i
invariant-loop-i l = record {
  looked : nat_lt 0 (in_all (in_waiting l.p) l.waiting.items) ≡ nat_lt 0 (in_all (in_waiting l.p) (drop l.i l.waiting.items));
}
