use Rattle.std.proofs.Common.{◌≤◌, ◌+◌, length, arith}
use Rattle.ws_steps.specs.Places.{unnoted_in}
use Rattle.ws_slots.specs.View.{all_waiting, entries_from}
use Rattle.ws_slots.proofs.EntryLemmas.{length-entries_from}
use Rattle.ws_promise.proofs.RoomLemmas.{events_fit}
use Rattle.ws_promise.proofs.promises.Promises.watch.Goals as goal

pub watch-requires-clause-room : goal.watch-requires-clause-room
watch-requires-clause-room c =
    let a = c.self.inside in
    let room : 1 + (length a.events.items + unnoted_in (entries_from 0 a.slots.items (all_waiting a.slots.items a.waiting.items))) ≤ a.events.capacity = rw (← c.self.view_is) at c.requires.events in
    let fit = events_fit 1 a.unnoted (a.events.capacity) a.slots.items (all_waiting a.slots.items a.waiting.items) a.events.items c.self.invariant.4 room in
    omega arith

pub invariant_of-self : goal.invariant_of-self
invariant_of-self c =
    let a = c.self.inside in
    let room : 1 + (length a.events.items + unnoted_in (entries_from 0 a.slots.items (all_waiting a.slots.items a.waiting.items))) ≤ a.events.capacity = rw (← c.self.view_is) at c.requires.events in
    let fit = events_fit 1 a.unnoted (a.events.capacity) a.slots.items (all_waiting a.slots.items a.waiting.items) a.events.items c.self.invariant.4 room in
    (omega arith, omega arith, c.watch.ensures.kept a.waiting.items c.self.invariant.2, omega arith, omega arith, omega arith, omega (arith, c.watch.ensures.reactions a.waiting.items))

pub watch-requires-clause-place : goal.watch-requires-clause-place
watch-requires-clause-place c =
    let a = c.self.inside in
    let room : 1 + length (entries_from 0 a.slots.items (all_waiting a.slots.items a.waiting.items)) ≤ a.slots.limit = rw (← c.self.view_is) at c.requires.promises in
    omega (arith, length-entries_from 0 a.slots.items (all_waiting a.slots.items a.waiting.items))
