use Rattle.std.proofs.Common.{refl, ap, sym, arith, ◌∙◌, ◌≡◌, ◌+◌, length, Some, None}
use Rattle.std.specs.Prelude.{option_copied}
use Rattle.ws_jobs.specs.Shorts.{job_in}
use Rattle.std.proofs.lemmas.Bool.{false≢true}
use Rattle.ws_ring.specs.Seen.{SeenRing}
use Rattle.ws_steps.specs.declared.promises.Job.{Job as AnyJob}
use Rattle.ws_jobs.specs.Queue.{wholes}
use Rattle.ws_jobs.proofs.QueueLemmas.{first-of, first-whole, first-none, none-whole}
use Rattle.ws_jobs.proofs.jobs.Jobs.first.Goals as goal

pub returns-in_default : goal.returns-in_default
returns-in_default c =
    let a = c.self.inside in
    let shown = ap (λ (v : SeenRing AnyJob). v.items) c.self.view_is in
    sym (first-none a.short.items a.others.items c.args.self.now.items shown (sym c.front.ensures ∙ ap option_copied c.in_default.is))

pub returns-then-is_whole : goal.returns-then-is_whole
returns-then-is_whole c =
    let a = c.self.inside in
    let shown = ap (λ (v : SeenRing AnyJob). v.items) c.self.view_is in
    let here = sym c.front.ensures ∙ ap option_copied c.in-Some.is in
    let whole = c.is_whole.ensures.0 c.if-is_whole.true in
    c.copied.ensures ∙ (c.front-then-is_whole.ensures ∙ sym (first-whole a.short.items a.others.items c.args.self.now.items _ shown c.self.invariant.0 here (ap job_in whole)))

pub returns : goal.returns
returns c =
    let a = c.self.inside in
    let shown = ap (λ (v : SeenRing AnyJob). v.items) c.self.view_is in
    let here = sym c.front.ensures ∙ ap option_copied c.in-Some.is in
    c.job_in.ensures ∙ sym (first-of a.short.items a.others.items c.args.self.now.items _ _ shown here refl (λ none. false≢true (sym c.if-is_whole.false ∙ c.is_whole.ensures.1 (none-whole _ none))))
