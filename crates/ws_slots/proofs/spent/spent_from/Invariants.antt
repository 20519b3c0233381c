use Rattle.std.proofs.Common.{◌≤◌, ◌-◌, length}
use Rattle.ws_slots.specs.Words.{NoneSpent}
use Rattle.ws_slots.proofs.spent.spent_from.Given as goal

-- those looked at stay
abbrev pub invariant-loop-p : goal.invariant-loop-p
invariant-loop-p l = record {
  from : l.fn.from.0 ≤ l.at.0;
  looked : NoneSpent l.fn.from.0 l.at.0 l.slots.items;
}

abbrev pub decreases-loop-p : goal.decreases-loop-p
decreases-loop-p l = length l.slots.items - l.at.0
