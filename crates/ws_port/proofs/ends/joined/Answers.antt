use Rattle.std.proofs.Common.{◌≡◌, ap, ◌∙◌, sym, arith}
use Rattle.atomic_table.specs.Seated.{TableId}
use Rattle.ws_port.specs.Ends.{Posted, Taken}
use Rattle.ws_port.proofs.Seats.{joins}
use Rattle.ws_port.proofs.ends.joined.Goals as goal

pub join_seat-requires : goal.join_seat-requires
join_seat-requires c = let inv = c.s.invariant in let here = inv.0.0 ∙ ap (λ b. b.shared.table_id) (sym c.deref.ensures) in
    let row : c.s.inside.seat.table_id ≡ c.r.inside.seat.table_id = ap (λ (p : Posted). p.row) c.s.view_is ∙ c.requires ∙ sym (ap (λ (p : Taken). p.row) c.r.view_is) in
    let two = ap (λ (z : TableId). z.words) (sym here) ∙ inv.0.1 in
    (here, sym row ∙ here, c.r.invariant.1.0, omega (arith, two), joins _ _ _ _ inv.1.1 c.r.invariant.1.1)
