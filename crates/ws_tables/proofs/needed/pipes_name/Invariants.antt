use Rattle.std.proofs.Common.{◌≡◌, drop, nat_lt}
use Rattle.ws_alike.specs.Named.{in_all, in_pipe}
use Rattle.ws_tables.proofs.needed.pipes_name.Given as goal

-- those looked at name others
abbrev pub invariant-loop-pipe : goal.invariant-loop-pipe
invariant-loop-pipe l = record {
  looked : nat_lt 0 (in_all (in_pipe l.p) l.pipes.items) ≡ nat_lt 0 (in_all (in_pipe l.p) (drop l.pipe-index l.pipes.items));
}
