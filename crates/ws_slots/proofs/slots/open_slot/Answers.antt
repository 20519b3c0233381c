use Rattle.ws_slots.proofs.TableLemmas.{is_open-follows, is_open-not_pending}
use Rattle.ws_slots.proofs.slots.open_slot.Goals as goal

pub returns-in_default-clause-none : goal.returns-in_default-clause-none
returns-in_default-clause-none c = λ ws. is_open-not_pending c.args.p c.args.slots.now.items ws c.in_default.ensures.none

pub returns-then-open-clause-none : goal.returns-then-open-clause-none
returns-then-open-clause-none c = λ ws. is_open-follows c.args.p c.args.slots.now.items ws _ c.in-Some.ensures.some.0 c.in-Some.ensures.some.1 c.if-open.true
