use Rattle.std.proofs.Common.{refl, ap, sym, arith, ◌∙◌, ◌≡◌, ◌+◌, length, Some, None}
use Rattle.std.specs.Prelude.{option_copied}
use Rattle.ws_ring.specs.Seen.{SeenRing}
use Rattle.ws_steps.specs.declared.promises.Job.{Job as AnyJob}
use Rattle.ws_jobs.specs.Queue.{wholes}
use Rattle.ws_jobs.proofs.QueueLemmas.{first-short}
use Rattle.ws_jobs.proofs.jobs.Jobs.first_short.Goals as goal

pub returns-in-Some : goal.returns-in-Some
returns-in-Some c = λ j e.
    let a = c.self.inside in
    let shown = ap (λ (v : SeenRing AnyJob). v.items) c.self.view_is in
    first-short a.short.items a.others.items c.args.self.now.items c.in-Some.short.now j shown (sym c.front.ensures ∙ ap option_copied c.in-Some.is) e
