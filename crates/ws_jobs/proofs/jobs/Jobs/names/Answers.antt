use Rattle.std.proofs.Common.{◌∙◌, false, true, refl, sym, ap}
use Rattle.ws_ring.specs.Seen.{SeenRing}
use Rattle.ws_steps.specs.declared.promises.Job.{Job as AnyJob}
use Rattle.ws_jobs.proofs.NameLemmas.{names-shown}
use Rattle.ws_jobs.proofs.jobs.Jobs.names.Goals as goal

pub returns-then-shorts_name : goal.returns-then-shorts_name
returns-then-shorts_name c =
    let a = c.self.inside in
    let shown = ap (λ (v : SeenRing AnyJob). v.items) c.self.view_is in
    names-shown c.args.p a.short.items a.others.items c.args.self.now.items shown c.self.invariant.0 true _ (sym c.if-shorts_name.true ∙ c.shorts_name.ensures) refl

pub returns : goal.returns
returns c =
    let a = c.self.inside in
    let shown = ap (λ (v : SeenRing AnyJob). v.items) c.self.view_is in
    names-shown c.args.p a.short.items a.others.items c.args.self.now.items shown c.self.invariant.0 false c.others_name.result (sym c.if-shorts_name.false ∙ c.shorts_name.ensures) c.others_name.ensures
