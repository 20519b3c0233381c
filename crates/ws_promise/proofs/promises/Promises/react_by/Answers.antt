use Rattle.std.proofs.Common.{◌≤◌, ◌+◌, length, min, arith, vec_capacity}
use Rattle.ws_steps.specs.Places.{reactions_in}
use Rattle.ws_slots.specs.View.{all_waiting, entries_from}
use Rattle.ws_slots.proofs.FirstLemmas.{length-all}
use Rattle.ws_promise.proofs.RoomLemmas.{jobs_fit}
use Rattle.ws_promise.proofs.promises.Promises.react_by.Goals as goal

pub register_step-requires-clause-waiting_room : goal.register_step-requires-clause-waiting_room
register_step-requires-clause-waiting_room c =
    let a = c.self.inside in
    let room : 1 + (length a.jobs.items + reactions_in (entries_from 0 a.slots.items (all_waiting a.slots.items a.waiting.items))) ≤ min (a.jobs.capacity) (vec_capacity a.waiting) = rw (← c.self.view_is) at c.requires in
    let fit = jobs_fit 1 (a.jobs.capacity) (vec_capacity a.waiting) a.slots.items (all_waiting a.slots.items a.waiting.items) a.jobs.items c.self.invariant.2 room in
    omega (arith, length-all a.slots.items a.waiting.items)

pub register_step-requires-clause-jobs_room : goal.register_step-requires-clause-jobs_room
register_step-requires-clause-jobs_room c =
    let a = c.self.inside in
    let room : 1 + (length a.jobs.items + reactions_in (entries_from 0 a.slots.items (all_waiting a.slots.items a.waiting.items))) ≤ min (a.jobs.capacity) (vec_capacity a.waiting) = rw (← c.self.view_is) at c.requires in
    let fit = jobs_fit 1 (a.jobs.capacity) (vec_capacity a.waiting) a.slots.items (all_waiting a.slots.items a.waiting.items) a.jobs.items c.self.invariant.2 room in
    omega (arith, length-all a.slots.items a.waiting.items)

pub invariant_of-self : goal.invariant_of-self
invariant_of-self c =
    let a = c.self.inside in
    let room : 1 + (length a.jobs.items + reactions_in (entries_from 0 a.slots.items (all_waiting a.slots.items a.waiting.items))) ≤ min (a.jobs.capacity) (vec_capacity a.waiting) = rw (← c.self.view_is) at c.requires in
    let fit = jobs_fit 1 (a.jobs.capacity) (vec_capacity a.waiting) a.slots.items (all_waiting a.slots.items a.waiting.items) a.jobs.items c.self.invariant.2 room in
    (omega arith, omega arith, c.register_step.ensures.kept, omega arith, omega arith, omega arith, c.register_step.ensures.reactions)
