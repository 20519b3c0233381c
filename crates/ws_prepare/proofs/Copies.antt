-- Copies are made, one tee after the other.
use Rattle.std.proofs.Common.{◌≡◌, ◌≤◌, ◌<◌, ℕ, zero, suc, ◌+◌, ⊎_elim, List, [], ◌∷◌, length, Some, sym, ap, ◌∙◌, subst, arith}
use Rattle.std.specs.Prelude.{slice_get, slice_set}
use Rattle.ws_room_laws.proofs.Rows.{get-other, same-or}
use Rattle.ws_tee.specs.Seen.{SeenTee, CanHand}
use Rattle.ws_tables.specs.Room.{EachHasCopies}
use Rattle.ws_tables.proofs.Elements.{put-is}

some-within : {X : Type 0} (xs : List X) (i : ℕ) (x : X) → slice_get xs i ≡ Some x → i < length xs
some-within [] i x is = cc
some-within (y ∷ ys) zero x is = omega arith
some-within (y ∷ ys) (suc i) x is = let h = some-within ys i x is in omega (arith, h)

before : (i n : ℕ) → i < n + 1 → (i ≡ n → ⊥) → i < n
before i n less other = grind (arith, less, other)

-- the tees before this one can hand on what they hold
abbrev pub AreReady : ℕ → List SeenTee → Type 0
AreReady n xs = (i : ℕ) (x : SeenTee) → i < n → slice_get xs i ≡ Some x → CanHand x

pub ready-next : (xs : List SeenTee) (n : ℕ) (y : SeenTee) → AreReady n xs → CanHand y → AreReady (n + 1) (slice_set xs n y)
ready-next xs n y ready can i x less there =
    ⊎_elim
    (λ (same : i ≡ n). subst CanHand (put-is xs n y x (ap (slice_get (slice_set xs n y)) (sym same) ∙ there)) can)
    (λ other. ready i x (before i n less other) (sym (get-other xs n i y other) ∙ there))
    (same-or i n)

pub all-ready : (xs : List SeenTee) (n : ℕ) → length xs ≤ n → AreReady n xs → EachHasCopies 1 xs
all-ready xs n all ready i x is = let h = some-within xs i x is in ready i x (omega (arith, h, all)) is
