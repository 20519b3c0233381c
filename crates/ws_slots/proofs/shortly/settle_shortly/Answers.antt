use Rattle.std.proofs.Common.{arith}
use Rattle.ws_jobs.specs.Shorts.{reaction_in}
use Rattle.ws_slots.specs.Words.{slot_of}
use Rattle.ws_slots.proofs.ShortlyLemmas.{WaitsAlone, shortly-count, shortly-kept, shortly-table, shortly-unnoted, shortly-unwatched, some-one}
use Rattle.ws_slots.proofs.shortly.settle_shortly.Goals as goal

pub returns-clause-table : goal.returns-clause-table
returns-clause-table c = λ is ws n ps b kept.
    let s = slot_of c.in-Some.open.now in
    let r = some-one (reaction_in c.in-Some.open.now.first) (c.is_reaction.ensures.some c.if-not-is_reaction.false) in
    let h : WaitsAlone c.args.slots.now.items c.args.p.0 s r.0 = record { there = c.in-Some.ensures.some.0; pending = c.in-Some.ensures.some.1; leads = c.in-Some.ensures.some.2; one = c.if-open-ne1.false; unwatched = c.in_default-rank.is; first = r.1 } in
    rw (c.put_undefined.ensures.items _ h.there, c.push_settled.ensures.items r.0 r.1) (shortly-table c.args.p c.args.slots.now.items s r.0 h ws kept c.args.jobs.now.items n ps b)

pub returns-clause-unnoted : goal.returns-clause-unnoted
returns-clause-unnoted c =
    let s = slot_of c.in-Some.open.now in
    let r = some-one (reaction_in c.in-Some.open.now.first) (c.is_reaction.ensures.some c.if-not-is_reaction.false) in
    let h : WaitsAlone c.args.slots.now.items c.args.p.0 s r.0 = record { there = c.in-Some.ensures.some.0; pending = c.in-Some.ensures.some.1; leads = c.in-Some.ensures.some.2; one = c.if-open-ne1.false; unwatched = c.in_default-rank.is; first = r.1 } in
    rw (c.put_undefined.ensures.items _ h.there) (shortly-unnoted c.args.p c.args.slots.now.items s r.0 h)

pub returns-clause-unwatched : goal.returns-clause-unwatched
returns-clause-unwatched c =
    let s = slot_of c.in-Some.open.now in
    let r = some-one (reaction_in c.in-Some.open.now.first) (c.is_reaction.ensures.some c.if-not-is_reaction.false) in
    let h : WaitsAlone c.args.slots.now.items c.args.p.0 s r.0 = record { there = c.in-Some.ensures.some.0; pending = c.in-Some.ensures.some.1; leads = c.in-Some.ensures.some.2; one = c.if-open-ne1.false; unwatched = c.in_default-rank.is; first = r.1 } in
    rw (c.put_undefined.ensures.items _ h.there) (shortly-unwatched c.args.p c.args.slots.now.items s r.0 h)

pub returns-clause-kept : goal.returns-clause-kept
returns-clause-kept c = λ ws kept.
    let s = slot_of c.in-Some.open.now in
    let r = some-one (reaction_in c.in-Some.open.now.first) (c.is_reaction.ensures.some c.if-not-is_reaction.false) in
    let h : WaitsAlone c.args.slots.now.items c.args.p.0 s r.0 = record { there = c.in-Some.ensures.some.0; pending = c.in-Some.ensures.some.1; leads = c.in-Some.ensures.some.2; one = c.if-open-ne1.false; unwatched = c.in_default-rank.is; first = r.1 } in
    rw (c.put_undefined.ensures.items _ h.there) (shortly-kept c.args.p c.args.slots.now.items s r.0 h ws kept)

pub returns-clause-reactions : goal.returns-clause-reactions
returns-clause-reactions c = λ ws kept count.
    let s = slot_of c.in-Some.open.now in
    let r = some-one (reaction_in c.in-Some.open.now.first) (c.is_reaction.ensures.some c.if-not-is_reaction.false) in
    let h : WaitsAlone c.args.slots.now.items c.args.p.0 s r.0 = record { there = c.in-Some.ensures.some.0; pending = c.in-Some.ensures.some.1; leads = c.in-Some.ensures.some.2; one = c.if-open-ne1.false; unwatched = c.in_default-rank.is; first = r.1 } in
    rw (c.put_undefined.ensures.items _ h.there) (omega (arith, count, shortly-count c.args.p c.args.slots.now.items s r.0 h ws kept))
