use Rattle.std.proofs.Common.{refl, ap, arith, length}
use Rattle.ws_slots.proofs.ItemLemmas.{length-shown}
use Rattle.ws_slots.proofs.slots.Slots.reserve.Goals as goal

pub invariant_of-self : goal.invariant_of-self
invariant_of-self c =
    let inv = c.self.invariant in
    rw (c.in_err-reserve.ensures.next, c.in_err-reserve.ensures.kept) (inv.0, omega (arith, inv.1, c.in_err-reserve.ensures.spare), inv.2, inv.3, inv.4, inv.5)

pub invariant_of-self-in_default : goal.invariant_of-self-in_default
invariant_of-self-in_default c =
    let inv = c.self.invariant in
    rw (c.in_ok-reserve.ensures.next, c.in_ok-reserve.ensures.kept) (inv.0, omega (arith, inv.1, c.in_ok-reserve.ensures.spare), inv.2, inv.3, inv.4, inv.5)

pub invariant_of-self-in_err-reserve-2 : goal.invariant_of-self-in_err-reserve-2
invariant_of-self-in_err-reserve-2 c =
    let inv = c.self.invariant in
    rw (c.in_ok-reserve.ensures.next, c.in_ok-reserve.ensures.kept, c.in_err-reserve-2.ensures.kept) (inv.0, omega (arith, inv.1, c.in_ok-reserve.ensures.spare), omega (arith, inv.2, c.in_err-reserve-2.ensures.spare), inv.3, inv.4, inv.5)

pub invariant_of-self-in_default-checked_add : goal.invariant_of-self-in_default-checked_add
invariant_of-self-in_default-checked_add c =
    let inv = c.self.invariant in
    rw (c.in_ok-reserve.ensures.next, c.in_ok-reserve.ensures.kept, c.in_ok-reserve-2.ensures.kept) (inv.0, omega (arith, inv.1, c.in_ok-reserve.ensures.spare), omega (arith, inv.2, c.in_ok-reserve-2.ensures.spare), inv.3, inv.4, inv.5)

pub invariant_of-self-2 : goal.invariant_of-self-2
invariant_of-self-2 c =
    let inv = c.self.invariant in
    let kept = ap length c.in_ok-reserve.ensures.kept in
    rw (c.in_ok-reserve.ensures.kept, c.in_ok-reserve-2.ensures.kept) (omega (arith, c.next.ensures, c.spare-2.ensures, c.in-Some-checked_add.ensures.1), omega (arith, c.next.ensures, c.spare-2.ensures, c.in-Some-checked_add.ensures.1), omega (arith, kept, c.most-open.ensures, c.spare.ensures, c.in-Some.ensures.1, c.in_ok-reserve-2.ensures.ok, c.next.ensures, c.spare-2.ensures, c.in-Some-checked_add.ensures.1), rw c.in_ok-reserve.ensures.next inv.3, inv.4, inv.5)

pub returns-clause-ok : goal.returns-clause-ok
returns-clause-ok c =
    let z = c.reserve.new.self in
    let y = c.reserve-2.new.self in
    omega (arith, length-shown z.next z.kept y.kept _ refl, c.in_ok-reserve.ensures.ok, c.max.ensures, c.in-Some-checked_add.ensures.1, c.next.ensures, c.spare-2.ensures)
