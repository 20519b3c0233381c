use Rattle.std.proofs.Common.{◌≡◌}
use Rattle.std.specs.VecDeque.{deque_len, deque_capacity}
use Rattle.ws_steps.specs.Writable.{reject_all}
use Rattle.ws_writable.proofs.requests.reject_all.Given as goal

-- what is left to do makes of what was done what all makes of the start
abbrev pub invariant-loop-request : goal.invariant-loop-request
invariant-loop-request l = record {
  table : reject_all l.e l.requests.items l.p.table ≡ reject_all l.e l.fn.requests.items l.fn.p.table;
  capacity : deque_capacity l.requests ≡ deque_capacity l.fn.requests;
  room : l.p.room ≡ l.fn.p.room;
}

abbrev pub decreases-loop-request : goal.decreases-loop-request
decreases-loop-request l = deque_len l.requests
