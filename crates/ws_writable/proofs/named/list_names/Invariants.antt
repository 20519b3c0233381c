use Rattle.std.proofs.Common.{◌≡◌, drop, nat_lt}
use Rattle.ws_alike.specs.Named.{in_list}
use Rattle.ws_writable.proofs.named.list_names.Given as goal

-- those looked at are others
abbrev pub invariant-loop-i : goal.invariant-loop-i
invariant-loop-i l = record {
  looked : nat_lt 0 (in_list l.p l.promises.items) ≡ nat_lt 0 (in_list l.p (drop l.i l.promises.items));
}
