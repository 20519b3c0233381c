use Rattle.std.proofs.Common.{◌≡◌, drop, nat_lt}
use Rattle.ws_alike.specs.Named.{in_all}
use Rattle.ws_jobs.specs.Queue.{in_short}
use Rattle.ws_jobs.proofs.jobs.shorts_name.Given as goal

-- those looked at name others
abbrev pub invariant-loop-i : goal.invariant-loop-i
invariant-loop-i l = record {
  looked : nat_lt 0 (in_all (in_short l.p) l.shorts.items) ≡ nat_lt 0 (in_all (in_short l.p) (drop l.i l.shorts.items));
}
