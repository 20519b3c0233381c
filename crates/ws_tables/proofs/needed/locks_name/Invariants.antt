use Rattle.std.proofs.Common.{◌≡◌, drop, nat_lt}
use Rattle.ws_alike.specs.Named.{in_all, in_lock}
use Rattle.ws_tables.proofs.needed.locks_name.Given as goal

-- those looked at name others
abbrev pub invariant-loop-lock : goal.invariant-loop-lock
invariant-loop-lock l = record {
  looked : nat_lt 0 (in_all (in_lock l.p) l.locks.items) ≡ nat_lt 0 (in_all (in_lock l.p) (drop l.lock-index l.locks.items));
}
