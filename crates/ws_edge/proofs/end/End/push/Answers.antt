use Rattle.std.proofs.Common.{◌≡◌, ◌+◌, ◌<◌, ◌≤◌, ◌^◌, ◌||◌, ◌++◌, [], ◌∷◌, length, refl, sym, subst, deque_len, deque_capacity, ap, ◌∙◌, arith, length-append}
use Rattle.ws_edge.specs.Marks.{HasRoom}
use Rattle.ws_edge.proofs.Ends.{counted-more}
use Rattle.ws_edge.proofs.Marked.{marked-room}
use Rattle.ws_edge.proofs.end.End.push.Goals as goal

pub invariant_of-self-2 : goal.invariant_of-self-2
invariant_of-self-2 c =
    let q = c.push_back_reserved.new.self in
    let was = c.self.invariant in
    let room : deque_len c.reserve.new.self + 2 ≤ deque_capacity c.reserve.new.self = c.in_ok-reserve.ensures.ok in
    let long : deque_len q ≡ length q.items = q.ok.0 in
    let place : length q.items < deque_capacity q = omega (arith, room, long, c.push_back_reserved.ensures.len, c.push_back_reserved.ensures.capacity) in
    let more : q.items ≡ c.self.inside.waiting.items ++ c.args.m ∷ [] = rw (c.push_back_reserved.ensures.items, c.reserve.ensures.items) refl in
    let below = c.if-self-ge-MOST.false in
    let fewer : c.self.inside.count + 1 < 2 ^ 62 = omega (arith, below) in
    let marks : HasRoom c.reserve-2.new.marks (c.len.result + 2) = c.in_ok-reserve-2.ensures.room in
    let one : c.len.result + 2 ≡ length q.items + 1 = omega (arith, long, c.len.ensures, c.push_back_reserved.ensures.len) in (
      counted-more c.self.inside.to.sent c.self.inside.waiting.items q.items c.args.m c.self.inside.count _ _ _ c.self.inside.ended _ was.0
          more (ap (λ b. c.self.inside.ended || b) c.is_end.ensures)
          (omega (arith, fewer)) (λ no. (fewer, place)),
      marked-room c.self.inside.marks c.reserve-2.new.marks c.self.inside.to.sent _ (length q.items) c.self.inside.ended _ c.reserve-2.ensures.kept (subst (HasRoom c.reserve-2.new.marks) one marks) was.1,
    )
