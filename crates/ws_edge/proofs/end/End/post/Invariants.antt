use Rattle.std.proofs.Common.{◌≡◌, ◌++◌, length, is_some, deque_capacity}
use Rattle.ws_edge.specs.Edge.{IsCounted}
use Rattle.ws_edge.specs.Marks.{AreMarked}
use Rattle.ws_edge.proofs.Posts.{HasPosted}
use Rattle.ws_edge.proofs.end.End.post.Given as goal

abbrev pub invariant-messages : goal.invariant-messages
invariant-messages l = let e = l.self-inside in record {
  from : e.from ≡ l.fn.self.from;
  so_far : HasPosted l.fn.self e.to e.waiting.items l.some;
  counted : IsCounted (e.to.sent ++ e.waiting.items) e.count e.ended (length e.waiting.items) (deque_capacity e.waiting);
  marked : AreMarked e.marks e.to.sent (length e.waiting.items) e.ended;
  traced : is_some e.marks ≡ l.fn.self.traced;
}

abbrev pub decreases-messages : goal.decreases-messages
decreases-messages l = length l.self-inside.waiting.items
