use Rattle.std.proofs.Common.{ap, ◌∙◌, sym, arith}
use Rattle.atomic_table.specs.Seated.{TableId}
use Rattle.ws_port.proofs.Seats.{begins, splits}
use Rattle.ws_port.proofs.ends.pair.Goals as goal

pub vacant-requires : goal.vacant-requires
vacant-requires c = begins

pub split_seat-other-requires : goal.split_seat-other-requires
split_seat-other-requires c = let e = c.in_ok-table.ensures in let same = e.2 ∙ ap (λ b. b.shared.table_id) (sym c.in_ok-board.ensures.ok) ∙ ap (λ b. b.shared.table_id) (sym c.deref.ensures) in
    let two = ap (λ (z : TableId). z.words) (sym (ap (λ b. b.shared.table_id) (sym c.in_ok-board.ensures.ok) ∙ ap (λ b. b.shared.table_id) (sym c.deref.ensures))) ∙ e.0 in
    (same, omega (arith, two), splits _ _ (ap (λ m. m.0.sends) e.4) (ap (λ m. m.0.takes) e.4))
