use Rattle.std.proofs.Common.{refl, ap, sym, arith, ◌∙◌, ◌≡◌, ◌+◌, length, Some, None}
use Rattle.ws_ring.specs.Seen.{SeenRing}
use Rattle.ws_steps.specs.declared.promises.Job.{Job as AnyJob}
use Rattle.ws_jobs.specs.Queue.{wholes}
use Rattle.ws_jobs.proofs.QueueLemmas.{shown-length}
use Rattle.ws_jobs.proofs.jobs.Jobs.capacity.Goals as goal

pub returns-clause-within : goal.returns-clause-within
returns-clause-within c =
    let a = c.self.inside in
    let shown = ap (λ (v : SeenRing AnyJob). v.items) c.self.view_is in
    let limit = ap (λ (v : SeenRing AnyJob). v.capacity) c.self.view_is in
    let long = shown-length a.short.items a.others.items c.args.self.now.items c.self.invariant.0 shown in
    (omega (arith, long, limit, c.self.invariant.1), omega (arith, limit, c.self.invariant.4))
