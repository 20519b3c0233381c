use Rattle.std.proofs.Common.{◌≤◌, ◌+◌, arith, refl, length, min, vec_capacity}
use Rattle.ws_jobs.specs.Shorts.{reaction_in}
use Rattle.ws_steps.specs.Places.{reactions_in}
use Rattle.ws_slots.specs.View.{all_waiting, entries_from}
use Rattle.ws_slots.proofs.ShortlyLemmas.{some-one}
use Rattle.ws_slots.proofs.WaitFirstLemmas.{waits-first}
use Rattle.ws_promise.proofs.RoomLemmas.{jobs_fit}
use Rattle.ws_promise.proofs.promises.Promises.react_short.Goals as goal

pub invariant_of-self : goal.invariant_of-self
invariant_of-self c =
    let a = c.self.inside in
    let ss = a.slots.items in
    let ws = a.waiting.items in
    let room : 1 + (length a.jobs.items + reactions_in (entries_from 0 ss (all_waiting ss ws))) ≤ min (a.jobs.capacity) (vec_capacity a.waiting) = rw (← c.self.view_is) at c.requires.jobs in
    let fit = jobs_fit 1 (a.jobs.capacity) (vec_capacity a.waiting) ss (all_waiting ss ws) a.jobs.items c.self.invariant.2 room in
    let r = some-one (reaction_in c.args.first) c.requires.waits in
    let f = waits-first c.args.p r.0 ss c.wait_first.new.slots.items ws a.jobs.items (rw r.1 at (c.wait_first.ensures.waits c.if-wait_first.true)) c.self.invariant.2 in
    (omega arith, omega arith, f.kept, omega arith, omega (arith, f.unnoted), omega (arith, f.unwatched), omega (arith, f.count))

pub returns-then-wait_first : goal.returns-then-wait_first
returns-then-wait_first c = λ r e.
    let a = c.self.inside in
    let ss = a.slots.items in
    let ws = a.waiting.items in
    let f = waits-first c.args.p r ss c.wait_first.new.slots.items ws a.jobs.items (rw e at (c.wait_first.ensures.waits c.if-wait_first.true)) c.self.invariant.2 in
    rw (← c.self.view_is, c.wait_first.ensures.limit, f.table a.watched a.events.items a.astray) refl
