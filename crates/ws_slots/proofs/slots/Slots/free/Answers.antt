use Rattle.std.proofs.Common.{ap, arith}
use Rattle.ws_slots.specs.Words.{SeenSlots}
use Rattle.ws_slots.proofs.ItemLemmas.{length-shown}
use Rattle.ws_slots.proofs.slots.Slots.free.Goals as goal

pub returns : goal.returns
returns c = λ n.
    let a = c.self.inside in
    let shown = ap (λ (v : SeenSlots). v.items) c.self.view_is in
    let limit = ap (λ (v : SeenSlots). v.limit) c.self.view_is in
    let long = length-shown a.places.next a.places.kept a.settled.kept c.args.self.now.items shown in
    ((λ h. omega (arith, h, long, limit, c.next.ensures, c.self.invariant.0)), λ h. omega (arith, h, long, limit, c.next.ensures, c.self.invariant.0))
