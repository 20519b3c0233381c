use Rattle.std.proofs.Common.{refl, ap, sym, arith, ◌∙◌, ◌≡◌, ◌+◌, length, Some, None}
use Rattle.ws_ring.specs.Seen.{SeenRing}
use Rattle.ws_steps.specs.declared.promises.Job.{Job as AnyJob}
use Rattle.ws_jobs.specs.Queue.{wholes}
use Rattle.ws_jobs.proofs.QueueLemmas.{shown-length, jobs-short, wholes-end, some-none}
use Rattle.ws_jobs.proofs.jobs.Jobs.push_short.Goals as goal

pub push_back_reserved-requires : goal.push_back_reserved-requires
push_back_reserved-requires c =
    let a = c.self.inside in
    let shown = ap (λ (v : SeenRing AnyJob). v.items) c.self.view_is in
    let limit = ap (λ (v : SeenRing AnyJob). v.capacity) c.self.view_is in
    let long = shown-length a.short.items a.others.items c.args.self.now.items c.self.invariant.0 shown in
    omega (arith, long, limit, c.requires.room, c.self.invariant.2)

pub invariant_of-self : goal.invariant_of-self
invariant_of-self c =
    let a = c.self.inside in
    let shown = ap (λ (v : SeenRing AnyJob). v.items) c.self.view_is in
    let limit = ap (λ (v : SeenRing AnyJob). v.capacity) c.self.view_is in
    let long = shown-length a.short.items a.others.items c.args.self.now.items c.self.invariant.0 shown in
    let whole : wholes c.push_back_reserved.new.self.items ≡ wholes a.short.items = rw c.push_back_reserved.ensures.items (omega (arith, wholes-end a.short.items c.args.short, some-none _ c.requires.some)) in
    (omega (arith, whole, c.self.invariant.0), omega (arith, c.push_back_reserved.ensures.len, long, limit, c.requires.room), omega (arith, c.push_back_reserved.ensures.capacity, c.self.invariant.2), c.self.invariant.3, c.self.invariant.4)

pub returns-clause-items : goal.returns-clause-items
returns-clause-items c = λ j e.
    let a = c.self.inside in
    let shown = ap (λ (v : SeenRing AnyJob). v.items) c.self.view_is in
    let limit = ap (λ (v : SeenRing AnyJob). v.capacity) c.self.view_is in
    let long = shown-length a.short.items a.others.items c.args.self.now.items c.self.invariant.0 shown in
    rw (c.push_back_reserved.ensures.items, ← shown) (jobs-short a.short.items a.others.items c.args.short j e)

pub returns-clause-len : goal.returns-clause-len
returns-clause-len c =
    let a = c.self.inside in
    let shown = ap (λ (v : SeenRing AnyJob). v.items) c.self.view_is in
    let limit = ap (λ (v : SeenRing AnyJob). v.capacity) c.self.view_is in
    let long = shown-length a.short.items a.others.items c.args.self.now.items c.self.invariant.0 shown in
    let whole : wholes c.push_back_reserved.new.self.items ≡ wholes a.short.items = rw c.push_back_reserved.ensures.items (omega (arith, wholes-end a.short.items c.args.short, some-none _ c.requires.some)) in
    let after = shown-length c.push_back_reserved.new.self.items a.others.items _ (omega (arith, whole, c.self.invariant.0)) refl in
    omega (arith, after, long, c.push_back_reserved.ensures.len)
