use Rattle.std.proofs.Common.{ap}
use Rattle.ws_promise.specs.Seen.{Seen}
use Rattle.ws_slots.proofs.ReleaseLemmas.{none-shown, some-shown}
use Rattle.ws_promise.proofs.promises.Promises.spent_from.Goals as goal

pub returns-clause-some : goal.returns-clause-some
returns-clause-some c =
    let a = c.self.inside in
    some-shown c.args.from.0 c.spent_from.result a.slots.items a.waiting.items a.jobs.items a.watched a.events.items a.astray c.args.self.now.table (ap (λ (v : Seen). v.table) c.self.view_is) c.self.invariant.2 c.spent_from.ensures.some

pub returns-clause-none : goal.returns-clause-none
returns-clause-none c =
    let a = c.self.inside in
    none-shown c.args.from.0 c.spent_from.result a.slots.items a.waiting.items a.jobs.items a.watched a.events.items a.astray c.args.self.now.table (ap (λ (v : Seen). v.table) c.self.view_is) c.self.invariant.2 c.spent_from.ensures.none
