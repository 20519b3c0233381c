use Rattle.std.proofs.Common.{◌≡◌, drop, nat_lt}
use Rattle.ws_alike.specs.Named.{in_all, in_transform}
use Rattle.ws_tables.proofs.needed.transforms_name.Given as goal

-- those looked at name others
abbrev pub invariant-loop-transform : goal.invariant-loop-transform
invariant-loop-transform l = record {
  looked : nat_lt 0 (in_all (in_transform l.p) l.transforms.items) ≡ nat_lt 0 (in_all (in_transform l.p) (drop l.transform-index l.transforms.items));
}
