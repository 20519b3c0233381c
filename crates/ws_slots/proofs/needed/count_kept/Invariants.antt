use Rattle.std.proofs.Common.{◌≡◌, ◌≤◌, ◌-◌, length}
use Rattle.ws_slots.specs.Counts.{kept_to}
use Rattle.ws_slots.proofs.needed.count_kept.Given as goal

abbrev pub invariant-loop-p : goal.invariant-loop-p
invariant-loop-p l = record {
  within : l.at.0 ≤ length l.slots.items;
  few : l.kept ≤ l.at.0;
  counted : l.kept ≡ kept_to l.at.0 l.slots.items;
}

abbrev pub decreases-loop-p : goal.decreases-loop-p
decreases-loop-p l = length l.slots.items - l.at.0
