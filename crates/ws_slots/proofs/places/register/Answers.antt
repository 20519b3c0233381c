use Rattle.std.proofs.Common.{arith}
use Rattle.ws_slots.proofs.WaitFirstLemmas.{waits-first}
use Rattle.ws_slots.proofs.places.register.Goals as goal

pub returns-then-wait_first_of-clause-table : goal.returns-then-wait_first_of-clause-table
returns-then-wait_first_of-clause-table c = (waits-first c.args.p c.args.reaction.now c.args.slots.now.items c.wait_first_of.new.slots.items c.args.waiting.now.items c.args.jobs.now.items (c.wait_first_of.ensures.waits c.if-wait_first_of.true) c.requires.kept).table

pub returns-then-wait_first_of-clause-unnoted : goal.returns-then-wait_first_of-clause-unnoted
returns-then-wait_first_of-clause-unnoted c = (waits-first c.args.p c.args.reaction.now c.args.slots.now.items c.wait_first_of.new.slots.items c.args.waiting.now.items c.args.jobs.now.items (c.wait_first_of.ensures.waits c.if-wait_first_of.true) c.requires.kept).unnoted

pub returns-then-wait_first_of-clause-unwatched : goal.returns-then-wait_first_of-clause-unwatched
returns-then-wait_first_of-clause-unwatched c = (waits-first c.args.p c.args.reaction.now c.args.slots.now.items c.wait_first_of.new.slots.items c.args.waiting.now.items c.args.jobs.now.items (c.wait_first_of.ensures.waits c.if-wait_first_of.true) c.requires.kept).unwatched

pub returns-then-wait_first_of-clause-kept : goal.returns-then-wait_first_of-clause-kept
returns-then-wait_first_of-clause-kept c = (waits-first c.args.p c.args.reaction.now c.args.slots.now.items c.wait_first_of.new.slots.items c.args.waiting.now.items c.args.jobs.now.items (c.wait_first_of.ensures.waits c.if-wait_first_of.true) c.requires.kept).kept

pub returns-then-wait_first_of-clause-reactions : goal.returns-then-wait_first_of-clause-reactions
returns-then-wait_first_of-clause-reactions c =
    let is = waits-first c.args.p c.args.reaction.now c.args.slots.now.items c.wait_first_of.new.slots.items c.args.waiting.now.items c.args.jobs.now.items (c.wait_first_of.ensures.waits c.if-wait_first_of.true) c.requires.kept in
    omega (arith, is.count, c.requires.reactions)

pub register_other-requires-clause-kept : goal.register_other-requires-clause-kept
register_other-requires-clause-kept c = rw (c.wait_first_of.ensures.untouched c.if-wait_first_of.false) c.requires.kept

pub register_other-requires-clause-reactions : goal.register_other-requires-clause-reactions
register_other-requires-clause-reactions c = rw (c.wait_first_of.ensures.untouched c.if-wait_first_of.false) c.requires.reactions

pub returns-clause-table : goal.returns-clause-table
returns-clause-table c = λ n ps b. rw (c.wait_first_of.ensures.untouched c.if-wait_first_of.false) at (c.register_other.ensures.table n ps b)

pub returns-clause-unnoted : goal.returns-clause-unnoted
returns-clause-unnoted c = rw (c.wait_first_of.ensures.untouched c.if-wait_first_of.false) at c.register_other.ensures.unnoted

pub returns-clause-unwatched : goal.returns-clause-unwatched
returns-clause-unwatched c = rw (c.wait_first_of.ensures.untouched c.if-wait_first_of.false) at c.register_other.ensures.unwatched
