use Rattle.std.proofs.Common.{◌≡◌, ◌+◌, ◌≤◌, length}
use Rattle.std.specs.VecDeque.{deque_len, deque_capacity}
use Rattle.ws_promise.specs.Seen.{HasEffectRoom, Seen}
use Rattle.ws_steps.specs.Bytes.{Slots, commit_all}
use Rattle.ws_byte.specs.Seen.{acts_with}
use Rattle.ws_byte.proofs.commit.commit_all.Given as goal

-- what is left to be committed is committed behind what was
abbrev pub invariant-loop-first : goal.invariant-loop-first
invariant-loop-first l = record {
  row : (s : Slots) (p : Seen) → commit_all l.me l.ready.items (acts_with s l.stream l.queue p l.fx) ≡ commit_all l.me l.fn.ready.items (acts_with s l.fn.stream l.fn.queue p l.fn.fx);
  places : deque_len l.ready + length l.queue.entries ≤ deque_len l.fn.ready + length l.fn.queue.entries;
  effects : HasEffectRoom (length l.stream.slots.requests) l.fx;
  ready_capacity : deque_capacity l.ready ≡ deque_capacity l.fn.ready;
  room : l.stream.room ≡ l.fn.stream.room;
  capacity : l.queue.capacity ≡ l.fn.queue.capacity;
  effect_room : l.fx.capacity ≡ l.fn.fx.capacity;
  caused : length l.fx.effects + length l.stream.slots.requests ≤ length l.fn.fx.effects + length l.fn.stream.slots.requests;
}

abbrev pub decreases-loop-first : goal.decreases-loop-first
decreases-loop-first l = deque_len l.ready
