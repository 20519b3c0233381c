use Rattle.std.proofs.Common.{refl, ap, arith, ◌≡◌, length}
use Rattle.ws_jobs.specs.Queue.{wholes}
use Rattle.ws_jobs.proofs.QueueLemmas.{shown-length, wholes-most}
use Rattle.ws_jobs.proofs.jobs.Jobs.reserve.Goals as goal

pub overflow_sub-least : goal.overflow_sub-least
overflow_sub-least c =
    let a = c.self.inside in
    let same = ap length c.in_ok-reserve.ensures.items in
    omega (arith, same, wholes-most a.short.items, c.self.invariant.0, c.len.ensures.len, c.len-jobs.ensures.len, c.in-Some.ensures.1)

pub returns-clause-ok : goal.returns-clause-ok
returns-clause-ok c =
    let a = c.self.inside in
    let even : wholes c.reserve.new.self.items ≡ length c.reserve-2.new.self.items = rw (c.in_ok-reserve.ensures.items, c.in_ok-reserve-2.ensures.items) c.self.invariant.0 in
    let same = ap length c.in_ok-reserve-2.ensures.items in
    let long = shown-length c.reserve.new.self.items c.reserve-2.new.self.items _ even refl in
    omega (arith, same, long, c.in_ok-reserve.ensures.ok, c.in_ok-reserve-2.ensures.ok, c.len.ensures.len, c.len-jobs.ensures.len, c.in-Some.ensures.1, c.min-self-inside.ensures, c.capacity.ensures.capacity, c.capacity-2.ensures.capacity)
