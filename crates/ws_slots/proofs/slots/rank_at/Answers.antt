use Rattle.std.proofs.Common.{ap, sym, arith, ◌≡◌, ◌∙◌, Some, None}
use Rattle.std.specs.Prelude.{option_copied}
use Rattle.ws_places.specs.Seen.{value_in}
use Rattle.ws_slots.specs.Words.{SeenSlots, rank_in}
use Rattle.ws_slots.proofs.ItemLemmas.{get-shown, open-shown, past-shown}
use Rattle.ws_slots.proofs.slots.rank_at.Goals as goal

pub returns-then-next-p : goal.returns-then-next-p
returns-then-next-p c =
    let a = c.slots.inside in
    let shown = ap (λ (v : SeenSlots). v.items) c.slots.view_is in
    sym (ap rank_in (past-shown a.places.next c.args.p.0 a.places.kept a.settled.kept c.args.slots.now.items shown (omega (arith, c.next.ensures))))

pub returns-in-Some : goal.returns-in-Some
returns-in-Some c =
    let a = c.slots.inside in
    let shown = ap (λ (v : SeenSlots). v.items) c.slots.view_is in
    let o = c.in-Some.open.now in
    sym (ap rank_in (open-shown a.places.next c.args.p.0 a.places.kept a.settled.kept c.args.slots.now.items o shown (omega (arith, c.next.ensures)) (sym c.get.ensures ∙ ap option_copied c.in-Some.is)))

pub returns-in-Some-get : goal.returns-in-Some-get
returns-in-Some-get c =
    let a = c.slots.inside in
    let shown = ap (λ (v : SeenSlots). v.items) c.slots.view_is in
    let s = c.in-Some-get.settled.now in
    let none : value_in c.args.p.0 a.places.kept ≡ None = sym c.get.ensures ∙ ap option_copied c.in_default.is in
    let here : value_in c.args.p.0 a.settled.kept ≡ Some s = sym c.get-2.ensures ∙ ap option_copied c.in-Some-get.is in
    sym (ap rank_in (get-shown a.places.next c.args.p.0 a.places.kept a.settled.kept c.args.slots.now.items None (Some s) shown (omega (arith, c.next.ensures)) none here))

pub returns-in-None : goal.returns-in-None
returns-in-None c =
    let a = c.slots.inside in
    let shown = ap (λ (v : SeenSlots). v.items) c.slots.view_is in
    let none : value_in c.args.p.0 a.places.kept ≡ None = sym c.get.ensures ∙ ap option_copied c.in_default.is in
    let gone : value_in c.args.p.0 a.settled.kept ≡ None = sym c.get-2.ensures ∙ ap option_copied c.in-None.is in
    sym (ap rank_in (get-shown a.places.next c.args.p.0 a.places.kept a.settled.kept c.args.slots.now.items None None shown (omega (arith, c.next.ensures)) none gone))
