-- A promise is named by a whole where a part names it.
use Rattle.std.proofs.Common.{◌≡◌, ℕ, ◌+◌, suc, zero, ◌||◌, nat_lt, arith}

pub either : (a b : ℕ) → nat_lt 0 (a + b) ≡ (nat_lt 0 a || nat_lt 0 b)
either zero b = grind arith
either (suc a) b = grind arith
