use Rattle.std.proofs.Common.{ap, ◌∙◌, sym, refl, arith}
use Rattle.atomic_table.specs.Seated.{TableId}
use Rattle.ws_port.proofs.Sending.{looks_out, posts_here}
use Rattle.ws_port.proofs.ends.Sender.post.Goals as goal

pub load-taken-requires : goal.load-taken-requires
load-taken-requires c = let inv = c.self.invariant in let same = inv.0.0 ∙ ap (λ b. b.shared.table_id) (sym c.deref.ensures) in
    let two = ap (λ (z : TableId). z.words) (sym same) ∙ inv.0.1 in
    (same, omega (arith, two), looks_out _ _ _ _ (ap (λ (z : TableId). z.slots) (sym same) ∙ inv.0.2) inv.1)

pub store-requires : goal.store-requires
store-requires c = let inv = c.self.invariant in let same = c.exchange.ensures.0 ∙ c.load-taken.ensures.0 ∙ inv.0.0 ∙ ap (λ b. b.shared.table_id) (sym c.deref-3.ensures) in
    let here = inv.0.0 ∙ ap (λ b. b.shared.table_id) (sym c.deref-3.ensures) in
    let two = ap (λ (z : TableId). z.words) (sym here) ∙ inv.0.1 in
    (same, omega (arith, two), posts_here _ _ _ _ _ c.self.inside.seat.me c.load-taken.new.seat.me _ _ c.args.m (ap (λ (z : TableId). z.slots) (sym here) ∙ inv.0.2) inv.1 (rw (← c.self.view_is) at c.requires) refl refl c.load-taken.ensures.2.2 c.if-self-taken.false c.exchange.ensures.3)
