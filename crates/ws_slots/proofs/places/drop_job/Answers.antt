use Rattle.std.proofs.Common.{ap, arith, refl}
use Rattle.std.proofs.lemmas.Option.{slice_get_within}
use Rattle.ws_jobs.specs.Shorts.{job_in}
use Rattle.ws_slots.specs.View.{all_waiting}
use Rattle.ws_slots.proofs.FirstLemmas.{length-all}
use Rattle.ws_slots.proofs.TableLemmas.{after_next_job-read}
use Rattle.ws_slots.proofs.places.drop_job.Goals as goal

pub adopt-requires-clause-waiting_room : goal.adopt-requires-clause-waiting_room
adopt-requires-clause-waiting_room c = omega (arith, slice_get_within c.args.jobs.now.items 0 _ (c.first_short.ensures _ (ap job_in c.in-Follow.is)), length-all c.args.slots.now.items c.args.waiting.now.items, c.requires.waiting_room, c.requires.reactions, c.drop_first.ensures.len)

pub adopt-requires-clause-jobs_room : goal.adopt-requires-clause-jobs_room
adopt-requires-clause-jobs_room c = omega (arith, slice_get_within c.args.jobs.now.items 0 _ (c.first_short.ensures _ (ap job_in c.in-Follow.is)), c.requires.jobs_room, c.drop_first.ensures.len, c.drop_first.ensures.capacity)

pub returns-in-Follow-clause-total : goal.returns-in-Follow-clause-total
returns-in-Follow-clause-total c = omega (arith, slice_get_within c.args.jobs.now.items 0 _ (c.first_short.ensures _ (ap job_in c.in-Follow.is)), c.drop_first.ensures.len, c.adopt.ensures.total)

pub returns-in-Follow-clause-table : goal.returns-in-Follow-clause-table
returns-in-Follow-clause-table c = λ n ps.
    rw (after_next_job-read c.args.slots.now.items (all_waiting c.args.slots.now.items c.args.waiting.now.items) c.args.jobs.now.items n ps c.args.astray.now _ (c.first_short.ensures _ (ap job_in c.in-Follow.is)), ← c.drop_first.ensures.items) (c.adopt.ensures.table n ps c.args.astray.now)

pub returns-then-unfollow-clause-table : goal.returns-then-unfollow-clause-table
returns-then-unfollow-clause-table c = λ n ps.
    rw (after_next_job-read c.args.slots.now.items (all_waiting c.args.slots.now.items c.args.waiting.now.items) c.args.jobs.now.items n ps c.args.astray.now _ (c.first_short.ensures _ (ap job_in c.in-Adopt.is)), ← c.drop_first-in-Adopt.ensures.items) (rw c.if-unfollow.true at c.unfollow.ensures.table c.args.waiting.now.items _ n ps c.args.astray.now)

pub returns-else-unfollow-clause-table : goal.returns-else-unfollow-clause-table
returns-else-unfollow-clause-table c = λ n ps.
    rw (after_next_job-read c.args.slots.now.items (all_waiting c.args.slots.now.items c.args.waiting.now.items) c.args.jobs.now.items n ps c.args.astray.now _ (c.first_short.ensures _ (ap job_in c.in-Adopt.is)), ← c.drop_first-in-Adopt.ensures.items) (rw c.if-unfollow.false at c.unfollow.ensures.table c.args.waiting.now.items _ n ps c.args.astray.now)

pub returns-in-Pulled-clause-table : goal.returns-in-Pulled-clause-table
returns-in-Pulled-clause-table c = λ n ps.
    rw (after_next_job-read c.args.slots.now.items (all_waiting c.args.slots.now.items c.args.waiting.now.items) c.args.jobs.now.items n ps c.args.astray.now _ (c.first_short.ensures _ (ap job_in c.in-Pulled.is)), c.drop_first-in-Pulled.ensures.items) refl

pub returns-in-Wrote-clause-table : goal.returns-in-Wrote-clause-table
returns-in-Wrote-clause-table c = λ n ps.
    rw (after_next_job-read c.args.slots.now.items (all_waiting c.args.slots.now.items c.args.waiting.now.items) c.args.jobs.now.items n ps c.args.astray.now _ (c.first_short.ensures _ (ap job_in c.in-Wrote.is)), c.drop_first-in-Wrote.ensures.items) refl

pub returns-in-PipeReady-clause-table : goal.returns-in-PipeReady-clause-table
returns-in-PipeReady-clause-table c = λ n ps.
    rw (after_next_job-read c.args.slots.now.items (all_waiting c.args.slots.now.items c.args.waiting.now.items) c.args.jobs.now.items n ps c.args.astray.now _ (c.first_short.ensures _ (ap job_in c.in-PipeReady.is)), c.drop_first-in-PipeReady.ensures.items) refl

pub returns-in-PipeWrote-clause-table : goal.returns-in-PipeWrote-clause-table
returns-in-PipeWrote-clause-table c = λ n ps.
    rw (after_next_job-read c.args.slots.now.items (all_waiting c.args.slots.now.items c.args.waiting.now.items) c.args.jobs.now.items n ps c.args.astray.now _ (c.first_short.ensures _ (ap job_in c.in-PipeWrote.is)), c.drop_first-in-PipeWrote.ensures.items) refl

pub returns-in-Changed-clause-table : goal.returns-in-Changed-clause-table
returns-in-Changed-clause-table c = λ n ps.
    rw (after_next_job-read c.args.slots.now.items (all_waiting c.args.slots.now.items c.args.waiting.now.items) c.args.jobs.now.items n ps c.args.astray.now _ (c.first_short.ensures _ (ap job_in c.in-Changed.is)), c.drop_first-in-Changed.ensures.items) refl

pub returns-in-Transformed-clause-table : goal.returns-in-Transformed-clause-table
returns-in-Transformed-clause-table c = λ n ps.
    rw (after_next_job-read c.args.slots.now.items (all_waiting c.args.slots.now.items c.args.waiting.now.items) c.args.jobs.now.items n ps c.args.astray.now _ (c.first_short.ensures _ (ap job_in c.in-Transformed.is)), c.drop_first-in-Transformed.ensures.items) refl

pub returns-in-PipeWrite-clause-table : goal.returns-in-PipeWrite-clause-table
returns-in-PipeWrite-clause-table c = λ n ps.
    rw (after_next_job-read c.args.slots.now.items (all_waiting c.args.slots.now.items c.args.waiting.now.items) c.args.jobs.now.items n ps c.args.astray.now _ (c.first_short.ensures _ (ap job_in c.in-PipeWrite.is)), c.drop_first-in-PipeWrite.ensures.items) refl
