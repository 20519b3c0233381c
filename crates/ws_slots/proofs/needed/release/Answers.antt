use Rattle.std.proofs.Common.{refl}
use Rattle.ws_slots.proofs.ReleaseLemmas.{all-released, not-released, table-released, unnoted-released, unwatched-released, waits-released}
use Rattle.ws_slots.proofs.needed.release.Goals as goal

pub returns-then-is_spent-clause-table : goal.returns-then-is_spent-clause-table
returns-then-is_spent-clause-table c = λ ws js n ps b wait.
    let h = c.is_spent.ensures.there c.if-is_spent.true in
    rw (c.forget.ensures.items, all-released c.args.slots.now.items ws c.args.p.0 h.slot h.there h.loose wait)
    (table-released c.args.slots.now.items ws c.args.p.0 h.slot h.there h.loose wait c.args.p js n ps b refl)

pub returns-then-is_spent-clause-unnoted : goal.returns-then-is_spent-clause-unnoted
returns-then-is_spent-clause-unnoted c =
    let h = c.is_spent.ensures.there c.if-is_spent.true in
    rw c.forget.ensures.items (unnoted-released c.args.slots.now.items c.args.p.0 h.slot h.there h.loose)

pub returns-then-is_spent-clause-unwatched : goal.returns-then-is_spent-clause-unwatched
returns-then-is_spent-clause-unwatched c =
    let h = c.is_spent.ensures.there c.if-is_spent.true in
    rw c.forget.ensures.items (unwatched-released c.args.slots.now.items c.args.p.0 h.slot h.there h.loose)

pub returns-then-is_spent-clause-kept : goal.returns-then-is_spent-clause-kept
returns-then-is_spent-clause-kept c = λ ws wait.
    let h = c.is_spent.ensures.there c.if-is_spent.true in
    rw (c.forget.ensures.items, all-released c.args.slots.now.items ws c.args.p.0 h.slot h.there h.loose wait)
    (waits-released c.args.slots.now.items ws c.args.p.0 h.slot h.there h.loose wait)

pub returns-then-is_spent-clause-reactions : goal.returns-then-is_spent-clause-reactions
returns-then-is_spent-clause-reactions c = λ ws wait.
    let h = c.is_spent.ensures.there c.if-is_spent.true in
    rw (c.forget.ensures.items, all-released c.args.slots.now.items ws c.args.p.0 h.slot h.there h.loose wait) refl

pub returns-else-is_spent-clause-table : goal.returns-else-is_spent-clause-table
returns-else-is_spent-clause-table c = λ ws js n ps b wait.
    not-released c.args.p c.args.slots.now.items ws js n ps b wait (λ s g. (c.is_spent.ensures.loose s g).1 c.if-is_spent.false)
