use Rattle.std.proofs.Common.{◌≡◌, ◌+◌, ◌-◌, ◌%◌, ◌≤◌, length}
use Rattle.ws_lanes.proofs.Repeats.{Until}
use Rattle.ws_lanes.proofs.masks.mask.Given as goal

abbrev pub invariant-lanes : goal.invariant-lanes
invariant-lanes l = record {
  done : l.done ≤ length l.block;
  until : Until l.key l.place l.done l.fn.block l.block;
  at : l.at ≡ (l.place + l.done) % length l.key;
}

abbrev pub decreases-lanes : goal.decreases-lanes
decreases-lanes l = length l.block - l.done

abbrev pub invariant-rest : goal.invariant-rest
invariant-rest l = record {
  until : Until l.key l.place l.i l.fn.block l.block;
  at : l.at ≡ (l.place + l.i) % length l.key;
}
