use Rattle.std.proofs.Common.{◌∙◌, refl, sym}
use Rattle.ws_slots.specs.View.{all_waiting}
use Rattle.ws_slots.proofs.TableLemmas.{after_next_job-none, after_next_job-read}
use Rattle.ws_slots.proofs.places.drop_whole.Goals as goal

pub returns-in_default-clause-table : goal.returns-in_default-clause-table
returns-in_default-clause-table c = λ n ps.
    after_next_job-none c.args.slots.now.items (all_waiting c.args.slots.now.items c.args.waiting.now.items) c.args.jobs.now.items c.args.jobs.now.items n ps c.args.astray.now refl (sym c.first.ensures ∙ c.in_default.is)

pub returns-in-Reaction-clause-table : goal.returns-in-Reaction-clause-table
returns-in-Reaction-clause-table c = λ n ps.
    rw (after_next_job-read c.args.slots.now.items (all_waiting c.args.slots.now.items c.args.waiting.now.items) c.args.jobs.now.items n ps c.args.astray.now c.in-Some.job (sym c.first.ensures ∙ c.in-Some.is), c.in-Reaction.is, c.drop_first.ensures.items) refl

pub returns-in-Follow-clause-table : goal.returns-in-Follow-clause-table
returns-in-Follow-clause-table c = λ n ps.
    rw (after_next_job-read c.args.slots.now.items (all_waiting c.args.slots.now.items c.args.waiting.now.items) c.args.jobs.now.items n ps c.args.astray.now c.in-Some.job (sym c.first.ensures ∙ c.in-Some.is), c.in-Follow.is, ← c.drop_first.ensures.items) (c.adopt.ensures.table n ps c.args.astray.now)

pub returns-then-unfollow-clause-table : goal.returns-then-unfollow-clause-table
returns-then-unfollow-clause-table c = λ n ps.
    rw (after_next_job-read c.args.slots.now.items (all_waiting c.args.slots.now.items c.args.waiting.now.items) c.args.jobs.now.items n ps c.args.astray.now c.in-Some.job (sym c.first.ensures ∙ c.in-Some.is), c.in-Settle.is, ← c.drop_first.ensures.items) (rw c.if-unfollow.true at c.unfollow.ensures.table c.args.waiting.now.items _ n ps c.args.astray.now)

pub returns-else-unfollow-clause-table : goal.returns-else-unfollow-clause-table
returns-else-unfollow-clause-table c = λ n ps.
    rw (after_next_job-read c.args.slots.now.items (all_waiting c.args.slots.now.items c.args.waiting.now.items) c.args.jobs.now.items n ps c.args.astray.now c.in-Some.job (sym c.first.ensures ∙ c.in-Some.is), c.in-Settle.is, ← c.drop_first.ensures.items) (rw c.if-unfollow.false at c.unfollow.ensures.table c.args.waiting.now.items _ n ps c.args.astray.now)

pub returns-in-Micro-clause-table : goal.returns-in-Micro-clause-table
returns-in-Micro-clause-table c = λ n ps.
    rw (after_next_job-read c.args.slots.now.items (all_waiting c.args.slots.now.items c.args.waiting.now.items) c.args.jobs.now.items n ps c.args.astray.now c.in-Some.job (sym c.first.ensures ∙ c.in-Some.is), c.in-Micro.is, c.drop_first.ensures.items) refl
