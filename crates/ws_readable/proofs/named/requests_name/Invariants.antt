use Rattle.std.proofs.Common.{◌≡◌, drop, nat_lt}
use Rattle.ws_alike.specs.Named.{in_requests}
use Rattle.ws_readable.proofs.named.requests_name.Given as goal

-- those looked at name others
abbrev pub invariant-loop-i : goal.invariant-loop-i
invariant-loop-i l = record {
  looked : nat_lt 0 (in_requests l.p l.requests.items) ≡ nat_lt 0 (in_requests l.p (drop l.i l.requests.items));
}
