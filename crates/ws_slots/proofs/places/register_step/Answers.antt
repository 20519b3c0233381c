use Rattle.std.proofs.Common.{arith}
use Rattle.ws_slots.proofs.WaitFirstLemmas.{waits-first}
use Rattle.ws_steps.specs.declared.promises.Reaction.TheVariants.{Perform}
use Rattle.ws_slots.proofs.places.register_step.Goals as goal

pub returns-then-wait_first_step-clause-table : goal.returns-then-wait_first_step-clause-table
returns-then-wait_first_step-clause-table c = (waits-first c.args.p (Perform c.args.step.now c.args.derived.now) c.args.slots.now.items c.wait_first_step.new.slots.items c.args.waiting.now.items c.args.jobs.now.items (c.wait_first_step.ensures.waits c.if-wait_first_step.true) c.requires.kept).table

pub returns-then-wait_first_step-clause-unnoted : goal.returns-then-wait_first_step-clause-unnoted
returns-then-wait_first_step-clause-unnoted c = (waits-first c.args.p (Perform c.args.step.now c.args.derived.now) c.args.slots.now.items c.wait_first_step.new.slots.items c.args.waiting.now.items c.args.jobs.now.items (c.wait_first_step.ensures.waits c.if-wait_first_step.true) c.requires.kept).unnoted

pub returns-then-wait_first_step-clause-unwatched : goal.returns-then-wait_first_step-clause-unwatched
returns-then-wait_first_step-clause-unwatched c = (waits-first c.args.p (Perform c.args.step.now c.args.derived.now) c.args.slots.now.items c.wait_first_step.new.slots.items c.args.waiting.now.items c.args.jobs.now.items (c.wait_first_step.ensures.waits c.if-wait_first_step.true) c.requires.kept).unwatched

pub returns-then-wait_first_step-clause-kept : goal.returns-then-wait_first_step-clause-kept
returns-then-wait_first_step-clause-kept c = (waits-first c.args.p (Perform c.args.step.now c.args.derived.now) c.args.slots.now.items c.wait_first_step.new.slots.items c.args.waiting.now.items c.args.jobs.now.items (c.wait_first_step.ensures.waits c.if-wait_first_step.true) c.requires.kept).kept

pub returns-then-wait_first_step-clause-reactions : goal.returns-then-wait_first_step-clause-reactions
returns-then-wait_first_step-clause-reactions c =
    let is = waits-first c.args.p (Perform c.args.step.now c.args.derived.now) c.args.slots.now.items c.wait_first_step.new.slots.items c.args.waiting.now.items c.args.jobs.now.items (c.wait_first_step.ensures.waits c.if-wait_first_step.true) c.requires.kept in
    omega (arith, is.count, c.requires.reactions)

pub register_apart-requires-clause-kept : goal.register_apart-requires-clause-kept
register_apart-requires-clause-kept c = rw (c.wait_first_step.ensures.untouched c.if-wait_first_step.false) c.requires.kept

pub register_apart-requires-clause-reactions : goal.register_apart-requires-clause-reactions
register_apart-requires-clause-reactions c = rw (c.wait_first_step.ensures.untouched c.if-wait_first_step.false) c.requires.reactions

pub returns-clause-table : goal.returns-clause-table
returns-clause-table c = λ n ps b. rw (c.wait_first_step.ensures.untouched c.if-wait_first_step.false) at (c.register_apart.ensures.table n ps b)

pub returns-clause-unnoted : goal.returns-clause-unnoted
returns-clause-unnoted c = rw (c.wait_first_step.ensures.untouched c.if-wait_first_step.false) at c.register_apart.ensures.unnoted

pub returns-clause-unwatched : goal.returns-clause-unwatched
returns-clause-unwatched c = rw (c.wait_first_step.ensures.untouched c.if-wait_first_step.false) at c.register_apart.ensures.unwatched
