use Rattle.std.proofs.Common.{◌∙◌, None, ap, arith, false, length, map, refl, sym}
use Rattle.std.proofs.Math.ListN.{length-append, length-map}
use Rattle.ws_steps.specs.Promises.{job_of, settled}
use Rattle.ws_slots.specs.Words.{slot_of}
use Rattle.ws_slots.specs.View.{all_waiting, first_reactions, table_of, waiting_on}
use Rattle.ws_slots.specs.Slot.{Slot}
use Rattle.ws_slots.proofs.CountLemmas.{settled_so, unnoted_in-settle, unwatched_in-same}
use Rattle.ws_slots.proofs.TableLemmas.{settle-open, settle-not_open}
use Rattle.ws_slots.proofs.AllWaitLemmas.{AllWait-settle, AllWait-alike}
use Rattle.ws_slots.proofs.EntryLemmas.{entries_from-alike}
use Rattle.ws_slots.proofs.FirstLemmas.{all-here, all-settle, first-counted, jobs-both, length-all, length-firsts, others-left}
use Rattle.ws_slots.proofs.WaitingLemmas.{length-waiting_both}
use Rattle.ws_slots.proofs.places.settle.Goals as goal

pub returns-in_default-clause-table : goal.returns-in_default-clause-table
returns-in_default-clause-table c = λ n ps b.
    let all = all_waiting c.args.slots.now.items c.args.waiting.now.items in
    sym (settle-not_open c.args.p c.args.outcome.now (table_of c.args.slots.now.items all c.args.jobs.now.items n ps b) (c.in_default.ensures.none all))

pub queue_first-others-requires-clause-room : goal.queue_first-others-requires-clause-room
queue_first-others-requires-clause-room c =
    let ss = c.args.slots.now.items in
    let ws = c.args.waiting.now.items in
    let all = all_waiting ss ws in
    let i = c.args.p.0 in
    let s = slot_of c.in-Some.open.now in
    let g = c.in-Some.ensures.some.0 in
    let t : Slot = record { outcome = settled c.args.outcome.now; follows = false; waits = 0; rank = s.rank; first = None } in
    let counted = c.requires.kept.counted i s g in
    omega (arith, first-counted ss ws i s g counted, length-waiting_both i all)

pub queue_first-others-requires-clause-waits : goal.queue_first-others-requires-clause-waits
queue_first-others-requires-clause-waits c =
    let ss = c.args.slots.now.items in
    let ws = c.args.waiting.now.items in
    let all = all_waiting ss ws in
    let i = c.args.p.0 in
    let s = slot_of c.in-Some.open.now in
    let g = c.in-Some.ensures.some.0 in
    let t : Slot = record { outcome = settled c.args.outcome.now; follows = false; waits = 0; rank = s.rank; first = None } in
    let counted = c.requires.kept.counted i s g in
    first-counted ss ws i s g counted

pub move_waiting-requires-clause-room : goal.move_waiting-requires-clause-room
move_waiting-requires-clause-room c =
    let ss = c.args.slots.now.items in
    let ws = c.args.waiting.now.items in
    let all = all_waiting ss ws in
    let i = c.args.p.0 in
    let s = slot_of c.in-Some.open.now in
    let g = c.in-Some.ensures.some.0 in
    let t : Slot = record { outcome = settled c.args.outcome.now; follows = false; waits = 0; rank = s.rank; first = None } in
    let counted = c.requires.kept.counted i s g in
    let first = length-map (first_reactions s.first) (job_of c.args.outcome.now) in
    let queued = ap length c.queue_first-others.ensures.jobs in
    let more = length-append c.args.jobs.now.items (map (job_of c.args.outcome.now) (first_reactions s.first)) in
    omega (arith, length-all ss ws, length-firsts 0 i ss s t g)

pub move_waiting-requires-clause-counted : goal.move_waiting-requires-clause-counted
move_waiting-requires-clause-counted c =
    let ss = c.args.slots.now.items in
    let ws = c.args.waiting.now.items in
    let all = all_waiting ss ws in
    let i = c.args.p.0 in
    let s = slot_of c.in-Some.open.now in
    let g = c.in-Some.ensures.some.0 in
    let t : Slot = record { outcome = settled c.args.outcome.now; follows = false; waits = 0; rank = s.rank; first = None } in
    let counted = c.requires.kept.counted i s g in
    others-left ss ws i c.queue_first-others.result s g counted c.queue_first-others.ensures.others

pub overflow_sub-reactions : goal.overflow_sub-reactions
overflow_sub-reactions c =
    let ss = c.args.slots.now.items in
    let ws = c.args.waiting.now.items in
    let all = all_waiting ss ws in
    let i = c.args.p.0 in
    let s = slot_of c.in-Some.open.now in
    let g = c.in-Some.ensures.some.0 in
    let t : Slot = record { outcome = settled c.args.outcome.now; follows = false; waits = 0; rank = s.rank; first = None } in
    let counted = c.requires.kept.counted i s g in
    omega (arith, length-waiting_both i all)

pub returns-clause-table : goal.returns-clause-table
returns-clause-table c = λ n ps b.
    let ss = c.args.slots.now.items in
    let ws = c.args.waiting.now.items in
    let all = all_waiting ss ws in
    let i = c.args.p.0 in
    let s = slot_of c.in-Some.open.now in
    let g = c.in-Some.ensures.some.0 in
    let t : Slot = record { outcome = settled c.args.outcome.now; follows = false; waits = 0; rank = s.rank; first = None } in
    let counted = c.requires.kept.counted i s g in
    let alike = all-settle ss ws c.move_waiting.new.waiting.items i s t g refl c.move_waiting.ensures.waiting in
    let both = jobs-both (job_of c.args.outcome.now) c.args.jobs.now.items (first_reactions s.first) (waiting_on i ws) (waiting_on i all) (all-here i ss ws s g) in
    rw (c.put_settled.ensures.items _ g, entries_from-alike 0 _ _ _ alike, c.move_waiting.ensures.jobs, c.queue_first-others.ensures.jobs, both)
    (c.of_rank.ensures.table _ _ ∙ sym (settle-open c.args.p c.args.outcome.now ss all c.args.jobs.now.items n ps b _ g c.in-Some.ensures.some.1 c.in-Some.ensures.some.2))

pub returns-clause-total : goal.returns-clause-total
returns-clause-total c =
    let ss = c.args.slots.now.items in
    let ws = c.args.waiting.now.items in
    let all = all_waiting ss ws in
    let i = c.args.p.0 in
    let s = slot_of c.in-Some.open.now in
    let g = c.in-Some.ensures.some.0 in
    let t : Slot = record { outcome = settled c.args.outcome.now; follows = false; waits = 0; rank = s.rank; first = None } in
    let counted = c.requires.kept.counted i s g in
    let first = length-map (first_reactions s.first) (job_of c.args.outcome.now) in
    let queued = ap length c.queue_first-others.ensures.jobs in
    let more = length-append c.args.jobs.now.items (map (job_of c.args.outcome.now) (first_reactions s.first)) in
    let moved = ap length c.move_waiting.ensures.jobs in
    let rest = length-append c.queue_first-others.new.jobs.items (map (job_of c.args.outcome.now) (waiting_on i ws)) in
    let others = length-map (waiting_on i ws) (job_of c.args.outcome.now) in
    let left = others-left ss ws i c.queue_first-others.result s g counted c.queue_first-others.ensures.others in
    omega (arith, length-waiting_both i all)

pub returns-clause-unnoted : goal.returns-clause-unnoted
returns-clause-unnoted c =
    let ss = c.args.slots.now.items in
    let ws = c.args.waiting.now.items in
    let all = all_waiting ss ws in
    let i = c.args.p.0 in
    let s = slot_of c.in-Some.open.now in
    let g = c.in-Some.ensures.some.0 in
    let t : Slot = record { outcome = settled c.args.outcome.now; follows = false; waits = 0; rank = s.rank; first = None } in
    let counted = c.requires.kept.counted i s g in
    rw (c.put_settled.ensures.items _ g, c.of_rank.ensures.count) (unnoted_in-settle ss i _ _ g c.in-Some.ensures.some.1 (settled_so c.args.outcome.now))

pub returns-clause-unwatched : goal.returns-clause-unwatched
returns-clause-unwatched c =
    let ss = c.args.slots.now.items in
    let ws = c.args.waiting.now.items in
    let all = all_waiting ss ws in
    let i = c.args.p.0 in
    let s = slot_of c.in-Some.open.now in
    let g = c.in-Some.ensures.some.0 in
    let t : Slot = record { outcome = settled c.args.outcome.now; follows = false; waits = 0; rank = s.rank; first = None } in
    let counted = c.requires.kept.counted i s g in
    rw (c.put_settled.ensures.items _ g) (unwatched_in-same ss i _ _ g refl)

pub returns-clause-kept : goal.returns-clause-kept
returns-clause-kept c =
    let ss = c.args.slots.now.items in
    let ws = c.args.waiting.now.items in
    let all = all_waiting ss ws in
    let i = c.args.p.0 in
    let s = slot_of c.in-Some.open.now in
    let g = c.in-Some.ensures.some.0 in
    let t : Slot = record { outcome = settled c.args.outcome.now; follows = false; waits = 0; rank = s.rank; first = None } in
    let counted = c.requires.kept.counted i s g in
    let alike = all-settle ss ws c.move_waiting.new.waiting.items i s t g refl c.move_waiting.ensures.waiting in
    rw (c.put_settled.ensures.items _ g) (AllWait-alike _ _ _ alike (AllWait-settle ss all i _ _ g c.in-Some.ensures.some.1 refl c.requires.kept))

pub returns-clause-reactions : goal.returns-clause-reactions
returns-clause-reactions c =
    let ss = c.args.slots.now.items in
    let ws = c.args.waiting.now.items in
    let all = all_waiting ss ws in
    let i = c.args.p.0 in
    let s = slot_of c.in-Some.open.now in
    let g = c.in-Some.ensures.some.0 in
    let t : Slot = record { outcome = settled c.args.outcome.now; follows = false; waits = 0; rank = s.rank; first = None } in
    let counted = c.requires.kept.counted i s g in
    let alike = all-settle ss ws c.move_waiting.new.waiting.items i s t g refl c.move_waiting.ensures.waiting in
    rw (c.put_settled.ensures.items _ g) (omega (arith, alike.count, length-waiting_both i all))
