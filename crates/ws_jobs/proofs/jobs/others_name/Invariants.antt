use Rattle.std.proofs.Common.{◌≡◌, drop, nat_lt}
use Rattle.ws_alike.specs.Named.{in_all}
use Rattle.ws_alike.specs.Named.{in_job}
use Rattle.ws_jobs.proofs.jobs.others_name.Given as goal

-- those looked at name others
abbrev pub invariant-loop-i : goal.invariant-loop-i
invariant-loop-i l = record {
  looked : nat_lt 0 (in_all (in_job l.p) l.jobs.items) ≡ nat_lt 0 (in_all (in_job l.p) (drop l.i l.jobs.items));
}
