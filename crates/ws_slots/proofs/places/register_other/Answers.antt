use Rattle.std.proofs.Common.{◌∙◌, ◌+◌, ◌++◌, ◌∷◌, [], ap, arith, refl, sym}
use Rattle.std.proofs.Math.ListN.{length-append}
use Rattle.std.proofs.lemmas.Bool.{false≢true}
use Rattle.ws_steps.specs.Promises.{is_pending}
use Rattle.ws_slots.specs.View.{all_waiting, table_of}
use Rattle.ws_slots.specs.Words.{is_pending_slot, slot_of}
use Rattle.ws_slots.specs.Slot.{Slot}
use Rattle.ws_slots.specs.declared.waiting.Waiting.{Waiting}
use Rattle.ws_slots.proofs.CountLemmas.{unnoted_in-waits, unwatched_in-waits}
use Rattle.ws_slots.proofs.EntryLemmas.{entries_from-react, entries_from-waits}
use Rattle.ws_slots.proofs.TableLemmas.{react-live, react-none, react-pending}
use Rattle.ws_slots.proofs.AllWaitLemmas.{AllWait-react}
use Rattle.ws_slots.proofs.FirstLemmas.{all-more}
use Rattle.ws_slots.proofs.WaitingLemmas.{length-waiting_both}
use Rattle.ws_slots.proofs.places.register_other.Goals as goal

pub overflow_add-waits : goal.overflow_add-waits
overflow_add-waits c =
    let ss = c.args.slots.now.items in
    let ws = c.args.waiting.now.items in
    let all = all_waiting ss ws in
    let i = c.args.p.0 in
    let w : Waiting = record { on = c.args.p; reaction = c.args.reaction.now } in
    let s = slot_of c.in-Some.open.now in
    let g = c.in-Some.ensures.some.0 in
    let counted = c.requires.kept.counted i s g in
    omega (arith, length-waiting_both i all)

pub returns-in-Some-clause-table : goal.returns-in-Some-clause-table
returns-in-Some-clause-table c = λ n ps b.
    let ss = c.args.slots.now.items in
    let ws = c.args.waiting.now.items in
    let all = all_waiting ss ws in
    let i = c.args.p.0 in
    let w : Waiting = record { on = c.args.p; reaction = c.args.reaction.now } in
    let s = slot_of c.in-Some.open.now in
    let g = c.in-Some.ensures.some.0 in
    let t : Slot = record s { waits = s.waits + 1 } in
    let same = all-more ss ws i w s t g refl in
    rw (c.put_waits.ensures.items _ g, c.push_reserved.ensures.items, same, entries_from-waits ss (all ++ w ∷ []) i s t g (λ rs. refl), react-pending c.args.p c.args.reaction.now ss all c.args.jobs.now.items n ps b s g c.in-Some.ensures.some.1, entries_from-react 0 i i ss all w s (omega arith) refl g) refl

pub returns-in-Some-clause-kept : goal.returns-in-Some-clause-kept
returns-in-Some-clause-kept c =
    let ss = c.args.slots.now.items in
    let ws = c.args.waiting.now.items in
    let all = all_waiting ss ws in
    let i = c.args.p.0 in
    let w : Waiting = record { on = c.args.p; reaction = c.args.reaction.now } in
    let s = slot_of c.in-Some.open.now in
    let g = c.in-Some.ensures.some.0 in
    let t : Slot = record s { waits = s.waits + 1 } in
    let same = all-more ss ws i w s t g refl in
    rw (c.put_waits.ensures.items _ g, c.push_reserved.ensures.items, same) (AllWait-react ss all w s t g c.in-Some.ensures.some.1 refl (λ rs. refl) c.requires.kept)

pub returns-in-Some-clause-reactions : goal.returns-in-Some-clause-reactions
returns-in-Some-clause-reactions c =
    let ss = c.args.slots.now.items in
    let ws = c.args.waiting.now.items in
    let all = all_waiting ss ws in
    let i = c.args.p.0 in
    let w : Waiting = record { on = c.args.p; reaction = c.args.reaction.now } in
    let s = slot_of c.in-Some.open.now in
    let g = c.in-Some.ensures.some.0 in
    let t : Slot = record s { waits = s.waits + 1 } in
    let same = all-more ss ws i w s t g refl in
    rw (c.put_waits.ensures.items _ g, c.push_reserved.ensures.items, same) (omega (arith, length-append all (w ∷ [])))

pub returns-in-Some-clause-unnoted : goal.returns-in-Some-clause-unnoted
returns-in-Some-clause-unnoted c =
    let ss = c.args.slots.now.items in
    let ws = c.args.waiting.now.items in
    let all = all_waiting ss ws in
    let i = c.args.p.0 in
    let w : Waiting = record { on = c.args.p; reaction = c.args.reaction.now } in
    let s = slot_of c.in-Some.open.now in
    let g = c.in-Some.ensures.some.0 in
    rw (c.put_waits.ensures.items _ g) (unnoted_in-waits ss i s (record s { waits = s.waits + 1 }) g refl)

pub returns-in-Some-clause-unwatched : goal.returns-in-Some-clause-unwatched
returns-in-Some-clause-unwatched c =
    let ss = c.args.slots.now.items in
    let ws = c.args.waiting.now.items in
    let all = all_waiting ss ws in
    let i = c.args.p.0 in
    let w : Waiting = record { on = c.args.p; reaction = c.args.reaction.now } in
    let s = slot_of c.in-Some.open.now in
    let g = c.in-Some.ensures.some.0 in
    rw (c.put_waits.ensures.items _ g) (unwatched_in-waits ss i s (record s { waits = s.waits + 1 }) g refl)

pub returns-in-Pending : goal.returns-in-Pending
returns-in-Pending c =
    let h = c.in-Some-outcome_at.ensures.some in
    absurd (false≢true (sym c.in_default.ensures.none ∙ (ap is_pending_slot h.there ∙ ap is_pending (h.has ∙ c.in-Pending.is))))

pub returns-in-Fulfilled-clause-table : goal.returns-in-Fulfilled-clause-table
returns-in-Fulfilled-clause-table c = λ n ps b.
    rw (react-live c.args.p c.args.reaction.now c.args.slots.now.items (all_waiting c.args.slots.now.items c.args.waiting.now.items) c.args.jobs.now.items n ps b _ c.in-Some-outcome_at.ensures.some.there, c.in-Some-outcome_at.ensures.some.has, c.in-Fulfilled.is, c.push_reaction.ensures.items) refl

pub returns-in-Rejected-clause-table : goal.returns-in-Rejected-clause-table
returns-in-Rejected-clause-table c = λ n ps b.
    rw (react-live c.args.p c.args.reaction.now c.args.slots.now.items (all_waiting c.args.slots.now.items c.args.waiting.now.items) c.args.jobs.now.items n ps b _ c.in-Some-outcome_at.ensures.some.there, c.in-Some-outcome_at.ensures.some.has, c.in-Rejected.is, c.push_reaction-in-Rejected.ensures.items) refl

pub returns-in-Given-clause-table : goal.returns-in-Given-clause-table
returns-in-Given-clause-table c = λ n ps b. rw (react-live c.args.p c.args.reaction.now c.args.slots.now.items (all_waiting c.args.slots.now.items c.args.waiting.now.items) c.args.jobs.now.items n ps b _ c.in-Some-outcome_at.ensures.some.there, c.in-Some-outcome_at.ensures.some.has, c.in-Given.is) refl

pub returns-in-Finished-clause-table : goal.returns-in-Finished-clause-table
returns-in-Finished-clause-table c = λ n ps b. rw (react-live c.args.p c.args.reaction.now c.args.slots.now.items (all_waiting c.args.slots.now.items c.args.waiting.now.items) c.args.jobs.now.items n ps b _ c.in-Some-outcome_at.ensures.some.there, c.in-Some-outcome_at.ensures.some.has, c.in-Finished.is) refl

pub returns-in_default-outcome_at-clause-table : goal.returns-in_default-outcome_at-clause-table
returns-in_default-outcome_at-clause-table c = λ n ps b.
    sym (react-none c.args.p c.args.reaction.now (table_of c.args.slots.now.items (all_waiting c.args.slots.now.items c.args.waiting.now.items) c.args.jobs.now.items n ps b) (c.in_default-outcome_at.ensures.none (all_waiting c.args.slots.now.items c.args.waiting.now.items)))
