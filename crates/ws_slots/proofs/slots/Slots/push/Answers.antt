use Rattle.std.proofs.Common.{ap, arith, ◌≡◌, ◌+◌, length}
use Rattle.ws_slots.specs.Words.{SeenSlots}
use Rattle.ws_slots.proofs.ItemLemmas.{length-shown, pushed, apart-push, length-more}
use Rattle.ws_slots.proofs.slots.Slots.push.Goals as goal

pub keep-number-requires-clause-room : goal.keep-number-requires-clause-room
keep-number-requires-clause-room c =
    let a = c.self.inside in
    let shown = ap (λ (v : SeenSlots). v.items) c.self.view_is in
    let limit = ap (λ (v : SeenSlots). v.limit) c.self.view_is in
    let long = length-shown a.places.next a.places.kept a.settled.kept c.args.self.now.items shown in
    omega (arith, long, limit, c.requires, c.self.invariant.0, c.self.invariant.1)

pub keep-number-requires-clause-few : goal.keep-number-requires-clause-few
keep-number-requires-clause-few c =
    let a = c.self.inside in
    let shown = ap (λ (v : SeenSlots). v.items) c.self.view_is in
    let limit = ap (λ (v : SeenSlots). v.limit) c.self.view_is in
    let long = length-shown a.places.next a.places.kept a.settled.kept c.args.self.now.items shown in
    omega (arith, long, limit, c.requires, c.self.invariant.0)

pub invariant_of-self : goal.invariant_of-self
invariant_of-self c =
    let a = c.self.inside in
    let shown = ap (λ (v : SeenSlots). v.items) c.self.view_is in
    let limit = ap (λ (v : SeenSlots). v.limit) c.self.view_is in
    let long = length-shown a.places.next a.places.kept a.settled.kept c.args.self.now.items shown in
    let k = c.keep-number.ensures in
    let inv = c.self.invariant in
    let more : length c.keep-number.new.self.kept ≡ length a.places.kept + 1 = rw k.kept (length-more (a.places.next, _) a.places.kept) in
    let apart = apart-push a.places.next _ a.places.kept a.settled.kept inv.3 in
    (omega (arith, k.next, long, limit, c.requires), omega (arith, k.next, k.spare, inv.1), omega (arith, k.next, more, inv.2), rw (k.next, k.kept) apart, inv.4, inv.5)

pub returns : goal.returns
returns c =
    let a = c.self.inside in
    let shown = ap (λ (v : SeenSlots). v.items) c.self.view_is in
    let limit = ap (λ (v : SeenSlots). v.limit) c.self.view_is in
    let k = c.keep-number.ensures in
    let more = pushed a.places.next _ a.places.kept c.keep-number.new.self.kept a.settled.kept c.args.self.now.items shown k.none k.kept in
    rw (k.next, ← limit) (ap (λ ss. record { items = ss; limit = a.limit }) more)
