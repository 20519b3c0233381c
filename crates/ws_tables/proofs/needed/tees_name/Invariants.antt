use Rattle.std.proofs.Common.{◌≡◌, drop, map, nat_lt}
use Rattle.ws_alike.specs.Named.{in_all, in_tee}
use Rattle.ws_tables.specs.View.{tee_of}
use Rattle.ws_tables.proofs.needed.tees_name.Given as goal

-- those looked at name others
abbrev pub invariant-loop-tee : goal.invariant-loop-tee
invariant-loop-tee l = record {
  looked : nat_lt 0 (in_all (in_tee l.p) (map tee_of l.tees.items)) ≡ nat_lt 0 (in_all (in_tee l.p) (map tee_of (drop l.tee-index l.tees.items)));
}
