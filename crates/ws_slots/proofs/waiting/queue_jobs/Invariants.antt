use Rattle.std.proofs.Common.{◌≡◌, ◌≤◌, ◌+◌, ◌++◌, map, drop, length}
use Rattle.ws_slots.specs.View.{waiting_on}
use Rattle.ws_steps.specs.Promises.{job_of}
use Rattle.ws_slots.proofs.waiting.queue_jobs.Given as goal

-- the jobs so far and those of the reactions that are left are the jobs of all
abbrev pub invariant-loop-w : goal.invariant-loop-w
invariant-loop-w l = record {
  told : l.jobs.items ++ map (job_of l.outcome) (waiting_on l.p.0 (drop l.w-index l.w-items)) ≡ l.initial.jobs.items ++ map (job_of l.outcome) (waiting_on l.p.0 l.w-items);
  room : length l.jobs.items + length l.w-items ≤ l.jobs.capacity + l.w-index;
  capacity : l.jobs.capacity ≡ l.initial.jobs.capacity;
}
