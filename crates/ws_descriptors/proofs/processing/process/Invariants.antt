use Rattle.std.proofs.Common.{◌≡◌, ◌+◌, ◌≤◌, length}
use Rattle.std.specs.Prelude.{All, cond}
use Rattle.std.specs.VecDeque.{deque_len, deque_capacity}
use Rattle.ws_steps.specs.Descriptors.{process_descriptors}
use Rattle.ws_descriptors.specs.Seen.{IsFine, before, processing}
use Rattle.ws_descriptors.proofs.processing.process.Given as goal

-- those that are ready and what processing goes on to leave are all that it leaves
abbrev pub invariant-loop-going : goal.invariant-loop-going
invariant-loop-going l = record {
  processed : before l.ready.items (processing l.going l.descriptors.items l.queue.entries) ≡ before l.fn.ready.items (process_descriptors l.fn.descriptors.items l.fn.queue.entries);
  fine : All IsFine l.descriptors.items;
  places : deque_len l.ready + deque_len l.descriptors ≡ deque_len l.fn.ready + deque_len l.fn.descriptors;
  capacity : deque_capacity l.descriptors ≡ deque_capacity l.fn.descriptors;
  ready_capacity : deque_capacity l.ready ≡ deque_capacity l.fn.ready;
  queue_capacity : l.queue.capacity ≡ l.fn.queue.capacity;
  queue : length l.queue.entries ≤ length l.fn.queue.entries;
}

abbrev pub decreases-loop-going : goal.decreases-loop-going
decreases-loop-going l = deque_len l.descriptors + cond l.going 1 0
