use Rattle.std.proofs.Common.{◌∙◌, None, arith, false, refl, sym}
use Rattle.ws_slots.specs.Words.{slot_of}
use Rattle.ws_slots.specs.View.{all_waiting, table_of}
use Rattle.ws_slots.specs.Slot.{Slot}
use Rattle.ws_slots.proofs.CountLemmas.{unnoted_in-settle, unwatched_in-same}
use Rattle.ws_slots.proofs.TableLemmas.{answer-open, answer-not_open}
use Rattle.ws_slots.proofs.AllWaitLemmas.{AllWait-settle, AllWait-alike}
use Rattle.ws_slots.proofs.EntryLemmas.{entries_from-alike}
use Rattle.ws_slots.proofs.FirstLemmas.{all-settle, first-counted, others-left}
use Rattle.ws_slots.proofs.WaitingLemmas.{length-waiting_both}
use Rattle.ws_slots.proofs.places.answer.Goals as goal

pub returns-in_default-clause-table : goal.returns-in_default-clause-table
returns-in_default-clause-table c = λ js n ps b.
    let all = all_waiting c.args.slots.now.items c.args.waiting.now.items in
    sym (answer-not_open c.args.p c.args.outcome (table_of c.args.slots.now.items all js n ps b) (c.in_default.ensures.none all))

pub other_waits-others-requires : goal.other_waits-others-requires
other_waits-others-requires c =
    let ss = c.args.slots.now.items in
    let ws = c.args.waiting.now.items in
    let all = all_waiting ss ws in
    let i = c.args.p.0 in
    let s = slot_of c.in-Some.open.now in
    let g = c.in-Some.ensures.some.0 in
    let t : Slot = record { outcome = c.args.outcome; follows = false; waits = 0; rank = s.rank; first = None } in
    let counted = c.requires.kept.counted i s g in
    first-counted ss ws i s g counted

pub forget_waiting-requires : goal.forget_waiting-requires
forget_waiting-requires c =
    let ss = c.args.slots.now.items in
    let ws = c.args.waiting.now.items in
    let all = all_waiting ss ws in
    let i = c.args.p.0 in
    let s = slot_of c.in-Some.open.now in
    let g = c.in-Some.ensures.some.0 in
    let t : Slot = record { outcome = c.args.outcome; follows = false; waits = 0; rank = s.rank; first = None } in
    let counted = c.requires.kept.counted i s g in
    others-left ss ws i c.other_waits-others.result s g counted c.other_waits-others.ensures

pub overflow_sub-reactions : goal.overflow_sub-reactions
overflow_sub-reactions c =
    let ss = c.args.slots.now.items in
    let ws = c.args.waiting.now.items in
    let all = all_waiting ss ws in
    let i = c.args.p.0 in
    let s = slot_of c.in-Some.open.now in
    let g = c.in-Some.ensures.some.0 in
    let t : Slot = record { outcome = c.args.outcome; follows = false; waits = 0; rank = s.rank; first = None } in
    let counted = c.requires.kept.counted i s g in
    omega (arith, length-waiting_both i all)

pub returns-clause-table : goal.returns-clause-table
returns-clause-table c = λ js n ps b.
    let ss = c.args.slots.now.items in
    let ws = c.args.waiting.now.items in
    let all = all_waiting ss ws in
    let i = c.args.p.0 in
    let s = slot_of c.in-Some.open.now in
    let g = c.in-Some.ensures.some.0 in
    let t : Slot = record { outcome = c.args.outcome; follows = false; waits = 0; rank = s.rank; first = None } in
    let counted = c.requires.kept.counted i s g in
    let alike = all-settle ss ws c.forget_waiting.new.waiting.items i s t g refl c.forget_waiting.ensures.waiting in
    rw (c.put_outcome.ensures.items _ g, entries_from-alike 0 _ _ _ alike)
    (c.of_rank.ensures.table _ _ ∙ sym (answer-open c.args.p c.args.outcome ss all js n ps b _ g c.in-Some.ensures.some.1 c.in-Some.ensures.some.2))

pub returns-clause-unnoted : goal.returns-clause-unnoted
returns-clause-unnoted c =
    let ss = c.args.slots.now.items in
    let ws = c.args.waiting.now.items in
    let all = all_waiting ss ws in
    let i = c.args.p.0 in
    let s = slot_of c.in-Some.open.now in
    let g = c.in-Some.ensures.some.0 in
    let t : Slot = record { outcome = c.args.outcome; follows = false; waits = 0; rank = s.rank; first = None } in
    let counted = c.requires.kept.counted i s g in
    rw (c.put_outcome.ensures.items _ g, c.of_rank.ensures.count) (unnoted_in-settle ss i _ _ g c.in-Some.ensures.some.1 c.requires.settled)

pub returns-clause-unwatched : goal.returns-clause-unwatched
returns-clause-unwatched c =
    let ss = c.args.slots.now.items in
    let ws = c.args.waiting.now.items in
    let all = all_waiting ss ws in
    let i = c.args.p.0 in
    let s = slot_of c.in-Some.open.now in
    let g = c.in-Some.ensures.some.0 in
    let t : Slot = record { outcome = c.args.outcome; follows = false; waits = 0; rank = s.rank; first = None } in
    let counted = c.requires.kept.counted i s g in
    rw (c.put_outcome.ensures.items _ g) (unwatched_in-same ss i _ _ g refl)

pub returns-clause-kept : goal.returns-clause-kept
returns-clause-kept c =
    let ss = c.args.slots.now.items in
    let ws = c.args.waiting.now.items in
    let all = all_waiting ss ws in
    let i = c.args.p.0 in
    let s = slot_of c.in-Some.open.now in
    let g = c.in-Some.ensures.some.0 in
    let t : Slot = record { outcome = c.args.outcome; follows = false; waits = 0; rank = s.rank; first = None } in
    let counted = c.requires.kept.counted i s g in
    let alike = all-settle ss ws c.forget_waiting.new.waiting.items i s t g refl c.forget_waiting.ensures.waiting in
    rw (c.put_outcome.ensures.items _ g) (AllWait-alike _ _ _ alike (AllWait-settle ss all i _ _ g c.in-Some.ensures.some.1 refl c.requires.kept))

pub returns-clause-reactions : goal.returns-clause-reactions
returns-clause-reactions c =
    let ss = c.args.slots.now.items in
    let ws = c.args.waiting.now.items in
    let all = all_waiting ss ws in
    let i = c.args.p.0 in
    let s = slot_of c.in-Some.open.now in
    let g = c.in-Some.ensures.some.0 in
    let t : Slot = record { outcome = c.args.outcome; follows = false; waits = 0; rank = s.rank; first = None } in
    let counted = c.requires.kept.counted i s g in
    let alike = all-settle ss ws c.forget_waiting.new.waiting.items i s t g refl c.forget_waiting.ensures.waiting in
    rw (c.put_outcome.ensures.items _ g) (omega (arith, alike.count, length-waiting_both i all))
