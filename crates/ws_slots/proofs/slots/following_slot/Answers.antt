use Rattle.ws_slots.proofs.TableLemmas.{is_following-open, is_following-not_pending}
use Rattle.ws_slots.proofs.slots.following_slot.Goals as goal

pub returns-in_default-clause-none : goal.returns-in_default-clause-none
returns-in_default-clause-none c = λ ws. is_following-not_pending c.args.p c.args.slots.now.items ws c.in_default.ensures.none

pub returns-else-open-clause-none : goal.returns-else-open-clause-none
returns-else-open-clause-none c = λ ws. is_following-open c.args.p c.args.slots.now.items ws _ c.in-Some.ensures.some.0 c.in-Some.ensures.some.1 c.if-open.false
