use Rattle.std.proofs.Common.{◌≡◌, ◌==◌, ◌+◌, ◌-◌, ◌≤◌, count_by, drop, length}
use Rattle.ws_lanes.proofs.counts.count_byte.Given as goal

-- with those in what is left it is all
abbrev pub invariant-lanes : goal.invariant-lanes
invariant-lanes l = record {
  done : l.done ≤ length l.block;
  count : l.count + count_by (λ x. x == l.b) (drop l.done l.block) ≡ count_by (λ x. x == l.b) l.block;
}

abbrev pub decreases-lanes : goal.decreases-lanes
decreases-lanes l = length l.block - l.done
