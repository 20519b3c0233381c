use Rattle.std.proofs.Common.{arith}
use Rattle.ws_slots.proofs.WaitFirstLemmas.{first-one, first-queued, first-zero, none-queued}
use Rattle.ws_slots.proofs.places.queue_first.Goals as goal

pub push_settled-requires-clause-room : goal.push_settled-requires-clause-room
push_settled-requires-clause-room c = omega (arith, first-one _ (c.is_reaction.ensures.some c.if-is_reaction.true), c.requires.room)

pub overflow_sub-result : goal.overflow_sub-result
overflow_sub-result c = omega (arith, first-one _ (c.is_reaction.ensures.some c.if-is_reaction.true), c.requires.waits)

pub returns-then-is_reaction-clause-jobs : goal.returns-then-is_reaction-clause-jobs
returns-then-is_reaction-clause-jobs c = first-queued c.args.outcome.now _ c.args.jobs.now.items _ (c.is_reaction.ensures.some c.if-is_reaction.true) c.push_settled.ensures.items

pub returns-then-is_reaction-clause-others : goal.returns-then-is_reaction-clause-others
returns-then-is_reaction-clause-others c = omega (arith, first-one _ (c.is_reaction.ensures.some c.if-is_reaction.true), c.requires.waits)

pub returns-else-is_reaction-clause-jobs : goal.returns-else-is_reaction-clause-jobs
returns-else-is_reaction-clause-jobs c = none-queued c.args.outcome.now _ c.args.jobs.now.items (c.is_reaction.ensures.none c.if-is_reaction.false)

pub returns-else-is_reaction-clause-others : goal.returns-else-is_reaction-clause-others
returns-else-is_reaction-clause-others c = omega (arith, first-zero _ (c.is_reaction.ensures.none c.if-is_reaction.false))
