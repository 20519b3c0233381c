-- The elements of a view.
use Rattle.std.proofs.Common.{◌≡◌, ◌⊎◌, inl, inr, ℕ, ◌*◌, ◌≤◌, true, arith}
use Rattle.std.specs.Prelude.{◌/◌}
use Rattle.ws_steps.specs.LockCalls.{is_view, has_least}

size : (room element : ℕ) → is_view room element ≡ true → (element ≡ 1) ⊎ ((element ≡ 2) ⊎ ((element ≡ 4) ⊎ (element ≡ 8)))
size room element e = grind (arith, e)

few : (room element least : ℕ) → has_least room element least ≡ true → least ≤ room / element
few room element least e = grind (arith, e)

by_size : (room element least : ℕ) → (element ≡ 1) ⊎ ((element ≡ 2) ⊎ ((element ≡ 4) ⊎ (element ≡ 8))) → least ≤ room / element → least * element ≤ room
by_size room element least (inl e) f = rw e (let k : least ≤ room / 1 = rw e at f in omega (arith, k))
by_size room element least (inr (inl e)) f = rw e (let k : least ≤ room / 2 = rw e at f in omega (arith, k))
by_size room element least (inr (inr (inl e))) f = rw e (let k : least ≤ room / 4 = rw e at f in omega (arith, k))
by_size room element least (inr (inr (inr e))) f = rw e (let k : least ≤ room / 8 = rw e at f in omega (arith, k))

-- so many have no more bytes than the view
pub least_fits : (room element least : ℕ) → is_view room element ≡ true → has_least room element least ≡ true → least * element ≤ room
least_fits room element least v e = by_size room element least (size room element v) (few room element least e)
