use Rattle.std.proofs.Common.{ap, sym, arith, ◌≡◌, ◌∙◌, Some, None}
use Rattle.std.specs.Prelude.{option_copied}
use Rattle.ws_places.specs.Seen.{value_in}
use Rattle.ws_slots.specs.Words.{SeenSlots}
use Rattle.ws_slots.proofs.SpentLemmas.{spent-loose, spent-none, spent-past, spent-watched}
use Rattle.ws_slots.proofs.spent.is_spent.Goals as goal

pub returns-then-next-p : goal.returns-then-next-p
returns-then-next-p c =
    let a = c.slots.inside in
    let shown = ap (λ (v : SeenSlots). v.items) c.slots.view_is in
    let is = spent-past a.places.next c.args.p.0 a.places.kept a.settled.kept c.args.slots.now.items shown (omega (arith, c.next.ensures, c.if-next-p.true)) in
    record { there = is.there; loose = is.loose }

pub returns-in_default : goal.returns-in_default
returns-in_default c =
    let a = c.slots.inside in
    let shown = ap (λ (v : SeenSlots). v.items) c.slots.view_is in
    let gone : value_in c.args.p.0 a.settled.kept ≡ None = sym c.get.ensures ∙ ap option_copied c.in_default.is in
    let is = spent-none a.places.next c.args.p.0 a.places.kept a.settled.kept c.args.slots.now.items shown gone in
    record { there = is.there; loose = is.loose }

pub returns-in-Some-rank : goal.returns-in-Some-rank
returns-in-Some-rank c =
    let a = c.slots.inside in
    let shown = ap (λ (v : SeenSlots). v.items) c.slots.view_is in
    let here : value_in c.args.p.0 a.settled.kept ≡ Some c.in-Some.settled.now = sym c.get.ensures ∙ ap option_copied c.in-Some.is in
    let is = spent-watched a.places.next c.args.p.0 _ c.in-Some.settled.now a.places.kept a.settled.kept c.args.slots.now.items shown c.slots.invariant.3 here c.in-Some-rank.is in
    record { there = is.there; loose = is.loose }

pub returns-in-None : goal.returns-in-None
returns-in-None c =
    let a = c.slots.inside in
    let shown = ap (λ (v : SeenSlots). v.items) c.slots.view_is in
    let here : value_in c.args.p.0 a.settled.kept ≡ Some c.in-Some.settled.now = sym c.get.ensures ∙ ap option_copied c.in-Some.is in
    let is = spent-loose a.places.next c.args.p.0 c.in-Some.settled.now a.places.kept a.settled.kept c.args.slots.now.items shown c.slots.invariant.3 here c.in-None.is in
    record { there = is.there; loose = is.loose }
