-- Lists of no element, and of one.
use Rattle.std.proofs.Common.{◌≡◌, List, [], ◌∷◌, length, refl, sym, ap, arith}
use Rattle.std.specs.Prelude.{slice_index_or}

pub empty : {X : Type 0} (xs : List X) → length xs ≡ 0 → xs ≡ []
empty [] e = refl
empty (x ∷ xs) e = absurd (omega arith)

pub only-one : {X : Type 0} (xs : List X) (x : X) → length xs ≡ 1 → x ≡ slice_index_or xs 0 x → xs ≡ x ∷ []
only-one [] x many is = absurd (omega (arith, many))
only-one (y ∷ []) x many is = ap (λ z. z ∷ []) (sym is)
only-one (y ∷ z ∷ xs) x many is = absurd (omega (arith, many))
