use Rattle.std.proofs.Common.{ap, sym, ◌≡◌, ◌∙◌}
use Rattle.std.specs.Prelude.{nat_lt}
use Rattle.ws_alike.specs.Named.{in_reactions}
use Rattle.ws_slots.specs.View.{first_reactions}
use Rattle.ws_slots.specs.Slot.{Slot}
use Rattle.ws_slots.specs.Words.{SeenSlots, slot_of}
use Rattle.ws_slots.proofs.SpentLemmas.{no-first}
use Rattle.ws_slots.proofs.spent.first_names.Goals as goal

pub returns-in-Some : goal.returns-in-Some
returns-in-Some c = λ s g.
    let here = c.in-Some.ensures.some.0 in
    let is : s ≡ slot_of c.in-Some.open.now = cc in
    c.short_reaction_names.ensures ∙ sym (ap (λ (t : Slot). nat_lt 0 (in_reactions c.args.p (first_reactions t.first))) is)

pub returns-in-None : goal.returns-in-None
returns-in-None c = λ s g.
    let a = c.slots.inside in
    let shown = ap (λ (v : SeenSlots). v.items) c.slots.view_is in
    let none = no-first a.places.next c.args.q.0 a.places.kept a.settled.kept c.args.slots.now.items s shown g c.in-None.ensures.none in
    sym (ap (λ r. nat_lt 0 (in_reactions c.args.p (first_reactions r))) none)
