-- The streams of segments, some of which are piped.
use Rattle.std.proofs.Common.{◌≡◌, ℕ, suc, ◌≤◌, nat_le, true, false, arith}
use Rattle.ws_steps.specs.Slots.{Slots}
use Rattle.ws_link_laws.specs.Link.{Ear, Giver, ear_at, giver_at}
use Rattle.ws_link_laws.specs.Sound.{IsLink, IsFree}
use Rattle.ws_chain_laws.specs.Chain.{source_of, dest_of, link_of}
use Rattle.ws_chain_laws.proofs.Young.{Young}

-- of n + 1 pipes so many are made; and there are so many signals
pub record Ready (g : ℕ → Giver) (h : ℕ → Ear) (n c j : ℕ) (s : Slots) : Type 0 where
  pub links : (k : ℕ) → suc k ≤ j → IsLink (source_of k) (dest_of k) (link_of k) s
  pub free : (k : ℕ) → j ≤ k → k ≤ n → IsFree (source_of k) (dest_of k) s
  pub gives : (k : ℕ) → k ≤ n → giver_at (source_of k) s ≡ g k
  pub hears : (k : ℕ) → k ≤ n → ear_at (dest_of k) s ≡ h k
  pub young : Young c j s

-- numbers

pub le_of : (a b : ℕ) → nat_le a b ≡ true → a ≤ b
le_of a b e = grind (arith, e)

pub lt_of : (a b : ℕ) → nat_le a b ≡ false → suc b ≤ a
lt_of a b e = grind (arith, e)
