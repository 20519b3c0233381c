use Rattle.std.proofs.Common.{arith}
use Rattle.ws_slots.proofs.WaitFirstLemmas.{first-one, first-zero}
use Rattle.ws_slots.proofs.places.other_waits.Goals as goal

pub overflow_sub-result : goal.overflow_sub-result
overflow_sub-result c = omega (arith, first-one _ (c.is_reaction.ensures.some c.if-is_reaction.true), c.requires)

pub returns-then-is_reaction : goal.returns-then-is_reaction
returns-then-is_reaction c = omega (arith, first-one _ (c.is_reaction.ensures.some c.if-is_reaction.true), c.requires)

pub returns-else-is_reaction : goal.returns-else-is_reaction
returns-else-is_reaction c = omega (arith, first-zero _ (c.is_reaction.ensures.none c.if-is_reaction.false))
