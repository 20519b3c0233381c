use Rattle.std.proofs.Common.{◌∙◌, false, true, refl, sym, ap}
use Rattle.ws_promise.specs.Seen.{Seen}
use Rattle.ws_slots.proofs.NameLemmas.{names-shown}
use Rattle.ws_promise.proofs.promises.Promises.names.Goals as goal

pub returns-then-names : goal.returns-then-names
returns-then-names c =
    let a = c.self.inside in
    names-shown c.args.p a.slots.items a.waiting.items a.jobs.items a.watched a.events.items a.astray c.args.self.now.table (ap (λ (v : Seen). v.table) c.self.view_is) c.self.invariant.2 true _ _ (sym c.if-names.true ∙ c.names.ensures) refl refl

pub returns-then-firsts_name : goal.returns-then-firsts_name
returns-then-firsts_name c =
    let a = c.self.inside in
    names-shown c.args.p a.slots.items a.waiting.items a.jobs.items a.watched a.events.items a.astray c.args.self.now.table (ap (λ (v : Seen). v.table) c.self.view_is) c.self.invariant.2 false true _ (sym c.if-names.false ∙ c.names.ensures) (sym c.if-firsts_name.true ∙ c.firsts_name.ensures) refl

pub returns : goal.returns
returns c =
    let a = c.self.inside in
    names-shown c.args.p a.slots.items a.waiting.items a.jobs.items a.watched a.events.items a.astray c.args.self.now.table (ap (λ (v : Seen). v.table) c.self.view_is) c.self.invariant.2 false false c.waiting_names.result (sym c.if-names.false ∙ c.names.ensures) (sym c.if-firsts_name.false ∙ c.firsts_name.ensures) c.waiting_names.ensures
