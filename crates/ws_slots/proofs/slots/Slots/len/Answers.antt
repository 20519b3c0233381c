use Rattle.std.proofs.Common.{ap, sym, arith, ◌∙◌}
use Rattle.ws_slots.specs.Words.{SeenSlots}
use Rattle.ws_slots.proofs.ItemLemmas.{length-shown}
use Rattle.ws_slots.proofs.slots.Slots.len.Goals as goal

pub returns-clause-is : goal.returns-clause-is
returns-clause-is c =
    let a = c.self.inside in
    let shown = ap (λ (v : SeenSlots). v.items) c.self.view_is in
    c.next.ensures ∙ sym (length-shown a.places.next a.places.kept a.settled.kept c.args.self.now.items shown)

pub returns-clause-within : goal.returns-clause-within
returns-clause-within c =
    let limit = ap (λ (v : SeenSlots). v.limit) c.self.view_is in
    omega (arith, c.next.ensures, limit, c.self.invariant.0)
