use Rattle.std.proofs.Common.{ap, ◌∙◌, sym, refl, arith}
use Rattle.std.specs.Prelude.{None}
use Rattle.atomic_table.specs.Seated.{TableId}
use Rattle.ws_port.proofs.Receiving.{looks_in, holds_first, takes_here}
use Rattle.ws_port.proofs.ends.take_at.Goals as goal

pub load-posted-requires : goal.load-posted-requires
load-posted-requires c = let t = c.requires.table in let two = ap (λ (z : TableId). z.words) (sym t.0) ∙ t.1 in
    (t.0, omega (arith, two), looks_in _ _ _ _ (ap (λ (z : TableId). z.slots) (sym t.0) ∙ t.2) c.requires.seat)

pub exchange-found-requires : goal.exchange-found-requires
exchange-found-requires c = (c.load-posted.ensures.0 ∙ c.requires.table.0, holds_first c.args.seat.now.me c.load-posted.new.seat.me _ _ c.requires.seat c.load-posted.ensures.2.3 c.if-posted-taken.false)

pub store-requires : goal.store-requires
store-requires c = let t = c.requires.table in let two = ap (λ (z : TableId). z.words) (sym t.0) ∙ t.1 in (
  c.exchange-found.ensures.0 ∙ c.load-posted.ensures.0 ∙ t.0,
  omega (arith, two),
  takes_here _ _ _ _ _ c.args.seat.now.me c.load-posted.new.seat.me _ _ None (ap (λ (z : TableId). z.slots) (sym t.0) ∙ t.2) c.requires.seat c.load-posted.ensures.2.3 c.if-posted-taken.false c.exchange-found.ensures.3 refl refl,
)
