use Rattle.std.proofs.Common.{◌≤◌, ◌+◌, arith, ap, refl, length, min, vec_capacity}
use Rattle.ws_jobs.specs.Shorts.{reaction_in}
use Rattle.ws_steps.specs.Places.{reactions_in}
use Rattle.ws_slots.specs.View.{all_waiting, entries_from}
use Rattle.ws_slots.specs.Words.{SeenSlots}
use Rattle.ws_slots.proofs.EntryLemmas.{length-entries_from}
use Rattle.ws_slots.proofs.ShortlyLemmas.{some-one}
use Rattle.ws_promise.proofs.FreshLemmas.{fresh-waiting}
use Rattle.ws_promise.proofs.RoomLemmas.{jobs_fit}
use Rattle.ws_promise.proofs.promises.Promises.fresh_waiting.Goals as goal

pub push_waiting-requires-clause-room : goal.push_waiting-requires-clause-room
push_waiting-requires-clause-room c =
    let a = c.self.inside in
    let ss = a.slots.items in
    let ws = a.waiting.items in
    let room : 1 + length (entries_from 0 ss (all_waiting ss ws)) ≤ a.slots.limit = rw (← c.self.view_is) at c.requires.promises in
    omega (arith, length-entries_from 0 ss (all_waiting ss ws))

pub invariant_of-self : goal.invariant_of-self
invariant_of-self c =
    let a = c.self.inside in
    let ss = a.slots.items in
    let ws = a.waiting.items in
    let room : 1 + (length a.jobs.items + reactions_in (entries_from 0 ss (all_waiting ss ws))) ≤ min (a.jobs.capacity) (vec_capacity a.waiting) = rw (← c.self.view_is) at c.requires.jobs in
    let fit = jobs_fit 1 (a.jobs.capacity) (vec_capacity a.waiting) ss (all_waiting ss ws) a.jobs.items c.self.invariant.2 room in
    let r = some-one (reaction_in c.args.first) c.requires.waits in
    let items = ap (λ (v : SeenSlots). v.items) c.push_waiting.ensures in
    let f = fresh-waiting r.0 (reaction_in c.args.first) ss c.push_waiting.new.self.items ws a.jobs.items r.1 items c.self.invariant.2 in
    (omega arith, omega arith, f.kept, omega arith, omega (arith, f.unnoted), omega (arith, f.unwatched, f.long), omega (arith, f.count))

pub returns-clause-id : goal.returns-clause-id
returns-clause-id c = rw (← c.self.view_is, length-entries_from, c.len-number.ensures.is) refl

pub returns-clause-table : goal.returns-clause-table
returns-clause-table c = λ r e.
    let a = c.self.inside in
    let ss = a.slots.items in
    let ws = a.waiting.items in
    let items = ap (λ (v : SeenSlots). v.items) c.push_waiting.ensures in
    let limit = ap (λ (v : SeenSlots). v.limit) c.push_waiting.ensures in
    let f = fresh-waiting r (reaction_in c.args.first) ss c.push_waiting.new.self.items ws a.jobs.items e items c.self.invariant.2 in
    rw (← c.self.view_is, limit, f.table a.watched a.events.items a.astray) refl
