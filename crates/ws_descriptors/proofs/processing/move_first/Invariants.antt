use Rattle.std.proofs.Common.{◌≡◌, ◌+◌, ◌++◌, take, drop}
use Rattle.std.specs.Prelude.{All}
use Rattle.std.specs.VecDeque.{deque_len, deque_capacity}
use Rattle.ws_descriptors.specs.Seen.{IsFine}
use Rattle.ws_descriptors.proofs.processing.move_first.Given as goal

-- those that were moved and those that are still to be are all that are to be
abbrev pub invariant-loop-left : goal.invariant-loop-left
invariant-loop-left l = record {
  ready : l.ready.items ++ take l.left l.descriptors.items ≡ l.fn.ready.items ++ take l.fn.n l.fn.descriptors.items;
  others : drop l.left l.descriptors.items ≡ drop l.fn.n l.fn.descriptors.items;
  fine : All IsFine l.descriptors.items;
  places : deque_len l.ready + deque_len l.descriptors ≡ deque_len l.fn.ready + deque_len l.fn.descriptors;
  capacity : deque_capacity l.descriptors ≡ deque_capacity l.fn.descriptors;
  ready_capacity : deque_capacity l.ready ≡ deque_capacity l.fn.ready;
}

abbrev pub decreases-loop-left : goal.decreases-loop-left
decreases-loop-left l = l.left
