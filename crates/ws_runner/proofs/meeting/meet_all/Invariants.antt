use Rattle.std.specs.Prelude.{◌≡◌, ◌+◌, ◌≤◌, All, List, ◌++◌, Some, length, true, vec_capacity}
use Rattle.std.specs.Vec.Iter.{into_iter_items}
use Rattle.ws_node.specs.declared.node.Node.{Node}
use Rattle.ws_node.specs.Nodes.{AreJoined, HaveMetUpTo}
use Rattle.ws_runner.specs.Meeting.{AreTraced, TracesUpTo}
use Rattle.ws_runner.proofs.meeting.meet_all.Given as goal

abbrev pub invariant-loop-middle : goal.invariant-loop-middle
invariant-loop-middle l = record {
  gone : List Node;
  whole : l.fn.middles.items ≡ gone ++ into_iter_items l.middle-iterator;
  met : HaveMetUpTo (Some l.fn.first) gone (Some l.upper);
  joined : AreJoined (Some l.upper) (into_iter_items l.middle-iterator) (Some l.last);
  traced : All (AreTraced l.fn.first.traced) (into_iter_items l.middle-iterator);
  upper : l.upper.traced ≡ l.fn.first.traced;
  last : l.last.traced ≡ l.fn.first.traced;
  traces : TracesUpTo l.fn.first.traced (Some l.fn.first) gone (Some l.upper) l.edges.items;
  room : l.fn.first.traced ≡ true → length l.edges.items + length (into_iter_items l.middle-iterator) + 1 ≤ vec_capacity l.edges;
}
