use Rattle.std.proofs.Common.{◌≡◌, ◌+◌, ◌++◌, length}
use Rattle.std.specs.VecDeque.{deque_len, deque_capacity}
use Rattle.ws_promise.specs.Seen.{HasEffectRoom}
use Rattle.ws_steps.specs.Readable.{error_all}
use Rattle.ws_readable.proofs.requests.error_requests.Given as goal

-- the effects so far and those of the requests that are left are the effects of all
abbrev pub invariant-loop-request : goal.invariant-loop-request
invariant-loop-request l = record {
  effects : l.fx.effects ++ error_all l.me l.e l.requests.items ≡ l.fn.fx.effects ++ error_all l.me l.e l.fn.requests.items;
  caused : deque_len l.requests + length l.fx.effects ≡ deque_len l.fn.requests + length l.fn.fx.effects;
  room : HasEffectRoom (deque_len l.requests) l.fx;
  capacity : deque_capacity l.requests ≡ deque_capacity l.fn.requests;
  places : l.fx.capacity ≡ l.fn.fx.capacity;
}

abbrev pub decreases-loop-request : goal.decreases-loop-request
decreases-loop-request l = deque_len l.requests
