use Rattle.std.proofs.Common.{◌≡◌, drop, nat_lt}
use Rattle.ws_alike.specs.Named.{in_all, in_port}
use Rattle.ws_tables.proofs.needed.ports_name.Given as goal

-- those looked at name others
abbrev pub invariant-loop-port : goal.invariant-loop-port
invariant-loop-port l = record {
  looked : nat_lt 0 (in_all (in_port l.p) l.ports.items) ≡ nat_lt 0 (in_all (in_port l.p) (drop l.port-index l.ports.items));
}
