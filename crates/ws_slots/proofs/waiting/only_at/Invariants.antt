use Rattle.std.proofs.Common.{◌≡◌, ◌≤◌, [], drop, vec_len}
use Rattle.ws_slots.specs.View.{waiting_on}
use Rattle.ws_slots.proofs.waiting.only_at.Given as goal

-- nobody waits from this index on
abbrev pub invariant-loop-i : goal.invariant-loop-i
invariant-loop-i l = record {
  within : l.i ≤ vec_len l.waiting;
  looked : waiting_on l.p.0 (drop l.i l.waiting.items) ≡ [];
}

abbrev pub decreases-loop-i : goal.decreases-loop-i
decreases-loop-i l = l.i
